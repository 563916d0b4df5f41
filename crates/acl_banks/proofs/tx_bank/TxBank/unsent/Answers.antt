-- The proof of `TxBank::unsent`.
use Rattle.std.proofs.Common.{sym, ap, length, ◌∙◌, arith}
use Rattle.std.proofs.lemmas.List.{take_all}
use Rattle.acl_banks.proofs.Octets.{unsent_in, unsent_in-is, length-unsent_none, length-unsent_more}
use Rattle.acl_banks.proofs.tx_bank.TxBank.unsent.Goals as goal

pub loop-place-init : goal.loop-place-init
loop-place-init g c = (sym (length-unsent_none c.args.handle c.self.inside.packets), omega arith)

pub overflow_add-count : goal.overflow_add-count
overflow_add-count g c = omega arith

pub loop-place-preserved : goal.loop-place-preserved
loop-place-preserved g c =
    let more = length-unsent_more c.args.handle c.self.inside.packets c.loop-place.place c.get.result.now (omega arith) c.get.ensures in
    (omega (arith, more, c.unsent_for-count.ensures.value), omega arith)

pub returns : goal.returns
returns g c =
    let all = take_all c.loop-place.place c.self.inside.packets (omega arith) in
    rw (← c.self.view_is)
    (c.loop-place.invariant.0 ∙ ap (λ ps. length (unsent_in c.args.handle ps)) all ∙ ap length (unsent_in-is c.args.handle c.self.inside.packets))
