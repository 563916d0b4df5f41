-- The proof of `MemFiles::hold`.
use Rattle.std.proofs.Common.{rules, ◌≡◌, Some, None, ◌∙◌, ap}
use Rattle.std.specs.List.{position}
use Rattle.std.specs.Str.{bytes_eq}
use Rattle.outside.specs.FileStore.{StoredFile}
use Rattle.outside.proofs.StoreChanges.{content_replaced, newly_held}
use Rattle.outside.proofs.mem_files.MemFiles.hold.Goals as goal

pub returns-in-Some-clause-held : goal.returns-in-Some-clause-held
returns-in-Some-clause-held c =
    let at : position (λ (file : StoredFile). bytes_eq file.name c.args.name.now) c.self.inside.held.items ≡ Some c.in-Some.place = search rules in
    let is = c.replace.ensures in
    let old = c.index_mut.ensures.value in
    let step = content_replaced c.self.inside.held.items c.self.inside.others c.self.inside.reads c.args.name.now c.in-Some.place
    c.replace.new.self c.index_mut.result.now at
    (ap (λ (f : StoredFile). f.name) is ∙ ap (λ (f : StoredFile). f.name) old)
    (ap (λ (f : StoredFile). f.faults) is ∙ ap (λ (f : StoredFile). f.faults) old) in
    step.held ∙ ap (λ octets. Some octets) (ap (λ (f : StoredFile). f.content) is ∙ c.in_ok-content.ensures.items)

pub returns-in-Some-clause-others : goal.returns-in-Some-clause-others
returns-in-Some-clause-others c =
    let at : position (λ (file : StoredFile). bytes_eq file.name c.args.name.now) c.self.inside.held.items ≡ Some c.in-Some.place = search rules in
    let is = c.replace.ensures in
    let old = c.index_mut.ensures.value in
    rw (← c.self.view_is)
    (content_replaced c.self.inside.held.items c.self.inside.others c.self.inside.reads c.args.name.now c.in-Some.place
    c.replace.new.self c.index_mut.result.now at
    (ap (λ (f : StoredFile). f.name) is ∙ ap (λ (f : StoredFile). f.name) old)
    (ap (λ (f : StoredFile). f.faults) is ∙ ap (λ (f : StoredFile). f.faults) old)).others

pub returns-in-Some-clause-faults : goal.returns-in-Some-clause-faults
returns-in-Some-clause-faults c =
    let at : position (λ (file : StoredFile). bytes_eq file.name c.args.name.now) c.self.inside.held.items ≡ Some c.in-Some.place = search rules in
    let is = c.replace.ensures in
    let old = c.index_mut.ensures.value in
    rw (← c.self.view_is)
    (content_replaced c.self.inside.held.items c.self.inside.others c.self.inside.reads c.args.name.now c.in-Some.place
    c.replace.new.self c.index_mut.result.now at
    (ap (λ (f : StoredFile). f.name) is ∙ ap (λ (f : StoredFile). f.name) old)
    (ap (λ (f : StoredFile). f.faults) is ∙ ap (λ (f : StoredFile). f.faults) old)).faults

pub returns-in_ok-push-in-None-clause-held : goal.returns-in_ok-push-in-None-clause-held
returns-in_ok-push-in-None-clause-held c =
    let at : position (λ (file : StoredFile). bytes_eq file.name c.args.name.now) c.self.inside.held.items ≡ None = search rules in
    let is = c.in_ok-file-in-None.ensures in
    let step = newly_held c.self.inside.held.items c.self.inside.others c.self.inside.reads c.args.name.now c.in_ok-file-in-None.file at
    (ap (λ (f : StoredFile). f.name) is) (ap (λ (f : StoredFile). f.faults) is) in
    rw c.in_ok-push-in-None.ensures.items
    (step.held ∙ ap (λ octets. Some octets) (ap (λ (f : StoredFile). f.content) is ∙ c.in_ok-content.ensures.items))

pub returns-in_ok-push-in-None-clause-others : goal.returns-in_ok-push-in-None-clause-others
returns-in_ok-push-in-None-clause-others c =
    let at : position (λ (file : StoredFile). bytes_eq file.name c.args.name.now) c.self.inside.held.items ≡ None = search rules in
    let is = c.in_ok-file-in-None.ensures in
    let step = newly_held c.self.inside.held.items c.self.inside.others c.self.inside.reads c.args.name.now c.in_ok-file-in-None.file at
    (ap (λ (f : StoredFile). f.name) is) (ap (λ (f : StoredFile). f.faults) is) in
    rw (c.in_ok-push-in-None.ensures.items, ← c.self.view_is) step.others

pub returns-in_ok-push-in-None-clause-faults : goal.returns-in_ok-push-in-None-clause-faults
returns-in_ok-push-in-None-clause-faults c =
    let at : position (λ (file : StoredFile). bytes_eq file.name c.args.name.now) c.self.inside.held.items ≡ None = search rules in
    let is = c.in_ok-file-in-None.ensures in
    let step = newly_held c.self.inside.held.items c.self.inside.others c.self.inside.reads c.args.name.now c.in_ok-file-in-None.file at
    (ap (λ (f : StoredFile). f.name) is) (ap (λ (f : StoredFile). f.faults) is) in
    rw (c.in_ok-push-in-None.ensures.items, ← c.self.view_is) step.faults
