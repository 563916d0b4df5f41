-- The proof of `MemFiles::read`.
use Rattle.std.proofs.Common.{rules, ◌≡◌, true, false, Some, None, ◌∙◌, arith, ap}
use Rattle.std.specs.List.{position}
use Rattle.std.specs.Str.{bytes_eq}
use Rattle.outside.specs.Count.{one_more}
use Rattle.outside.specs.Calls.{next_fails}
use Rattle.outside.specs.FileStore.{StoredFile}
use Rattle.outside.proofs.FilesByName.{file_at, no_file, file_of-set}
use Rattle.outside.proofs.StoreChanges.{fault_counted, other_counted, none_counted}
use Rattle.outside.proofs.mem_files.MemFiles.read.Goals as goal

pub returns-in-None-clause-failed : goal.returns-in-None-clause-failed
returns-in-None-clause-failed c =
    let at : position (λ (file : StoredFile). bytes_eq file.name c.args.name.now) c.self.inside.held.items ≡ None = search rules in
    let none = no_file c.self.inside.held.items c.args.name.now at in
    rw (← c.self.view_is) (grind (arith, none))

pub returns-in-None-clause-faults : goal.returns-in-None-clause-faults
returns-in-None-clause-faults c =
    let at : position (λ (file : StoredFile). bytes_eq file.name c.args.name.now) c.self.inside.held.items ≡ None = search rules in
    rw (← c.self.view_is, c.saturating_add-self-inside.ensures)
    (other_counted c.self.inside.held.items c.self.inside.others c.self.inside.reads c.next_fails-fails.new.self c.args.name.now at)

pub returns-in-Some-clause-contents : goal.returns-in-Some-clause-contents
returns-in-Some-clause-contents c =
    let at : position (λ (file : StoredFile). bytes_eq file.name c.args.name.now) c.self.inside.held.items ≡ Some c.in-Some.place = search rules in
    let is = c.count_fault.ensures.counted in
    let old = c.index_mut.ensures.value in
    let fails : next_fails c.self.inside.reads ≡ true = search rules in
    rw (← c.self.view_is)
    (λ other. (fault_counted c.self.inside.held.items c.self.inside.others c.self.inside.reads c.next_fails-fails.new.self c.args.name.now c.in-Some.place
    c.count_fault.new.self c.index_mut.result.now at
    (ap (λ (f : StoredFile). f.name) is ∙ ap (λ (f : StoredFile). f.name) old)
    (ap (λ (f : StoredFile). f.content) is ∙ ap (λ (f : StoredFile). f.content) old)
    (ap (λ (f : StoredFile). f.faults) is ∙ ap (λ (f : StoredFile). one_more f.faults) old)
    fails other).content)

pub returns-in-Some-clause-faults : goal.returns-in-Some-clause-faults
returns-in-Some-clause-faults c =
    let at : position (λ (file : StoredFile). bytes_eq file.name c.args.name.now) c.self.inside.held.items ≡ Some c.in-Some.place = search rules in
    let is = c.count_fault.ensures.counted in
    let old = c.index_mut.ensures.value in
    let fails : next_fails c.self.inside.reads ≡ true = search rules in
    rw (← c.self.view_is)
    (λ other. (fault_counted c.self.inside.held.items c.self.inside.others c.self.inside.reads c.next_fails-fails.new.self c.args.name.now c.in-Some.place
    c.count_fault.new.self c.index_mut.result.now at
    (ap (λ (f : StoredFile). f.name) is ∙ ap (λ (f : StoredFile). f.name) old)
    (ap (λ (f : StoredFile). f.content) is ∙ ap (λ (f : StoredFile). f.content) old)
    (ap (λ (f : StoredFile). f.faults) is ∙ ap (λ (f : StoredFile). one_more f.faults) old)
    fails other).faults)

pub returns-in-Some-clause-counts : goal.returns-in-Some-clause-counts
returns-in-Some-clause-counts c =
    let at : position (λ (file : StoredFile). bytes_eq file.name c.args.name.now) c.self.inside.held.items ≡ Some c.in-Some.place = search rules in
    let is = c.count_fault.ensures.counted in
    let old = c.index_mut.ensures.value in
    rw (← c.self.view_is)
    (λ other.
    let step = file_of-set c.self.inside.held.items c.args.name.now c.in-Some.place c.count_fault.new.self c.index_mut.result.now at
    (ap (λ (f : StoredFile). f.name) is ∙ ap (λ (f : StoredFile). f.name) old) other in
    grind (arith, step, c.count_fault.ensures.later, old))

pub returns-in-Some-2-clause-ok : goal.returns-in-Some-2-clause-ok
returns-in-Some-2-clause-ok c =
    let at : position (λ (file : StoredFile). bytes_eq file.name c.args.name.now) c.self.inside.held.items ≡ Some c.in-Some.place = search rules in
    let here = file_at c.self.inside.held.items c.args.name.now c.in-Some.place c.index.result.now at in
    rw (← c.self.view_is) (grind (arith, here, c.index.ensures, c.read.ensures.ok))

pub returns-in-Some-2-clause-too_long : goal.returns-in-Some-2-clause-too_long
returns-in-Some-2-clause-too_long c =
    let at : position (λ (file : StoredFile). bytes_eq file.name c.args.name.now) c.self.inside.held.items ≡ Some c.in-Some.place = search rules in
    let here = file_at c.self.inside.held.items c.args.name.now c.in-Some.place c.index.result.now at in
    let fails : next_fails c.self.inside.reads ≡ false = search rules in
    rw (← c.self.view_is) (grind (arith, here, fails, c.index.ensures, c.read.ensures.too_long))

pub returns-in-None-clause-too_long : goal.returns-in-None-clause-too_long
returns-in-None-clause-too_long c =
    let at : position (λ (file : StoredFile). bytes_eq file.name c.args.name.now) c.self.inside.held.items ≡ None = search rules in
    let none = no_file c.self.inside.held.items c.args.name.now at in
    rw (← c.self.view_is) (grind (arith, none))

pub returns-in-Some-2-clause-failed : goal.returns-in-Some-2-clause-failed
returns-in-Some-2-clause-failed c =
    let at : position (λ (file : StoredFile). bytes_eq file.name c.args.name.now) c.self.inside.held.items ≡ Some c.in-Some.place = search rules in
    let here = file_at c.self.inside.held.items c.args.name.now c.in-Some.place c.index.result.now at in
    let fails : next_fails c.self.inside.reads ≡ false = search rules in
    rw (← c.self.view_is) (grind (arith, here, fails, c.read.ensures.not_failed))

pub returns-in-Some-2-clause-faults : goal.returns-in-Some-2-clause-faults
returns-in-Some-2-clause-faults c =
    let at : position (λ (file : StoredFile). bytes_eq file.name c.args.name.now) c.self.inside.held.items ≡ Some c.in-Some.place = search rules in
    let fails : next_fails c.self.inside.reads ≡ false = search rules in
    rw (← c.self.view_is)
    (none_counted c.self.inside.held.items c.self.inside.others c.self.inside.reads c.next_fails-fails.new.self c.args.name.now c.in-Some.place
    c.index.result.now at fails)
