-- Proof of `connect_inds::has_connect_ind`.
use Rattle.std.proofs.Common.{inl, inr, sym, ap, ◌∙◌}
use Rattle.std.specs.Option.{option_and_then}
use Rattle.adv_pdu.specs.Reading.{read_of}
use Rattle.air_frame.specs.declared.Heard.{Heard}
use Rattle.controller_model.specs.Packets.{pdu_by, pdu_heard}
use Rattle.run_model.specs.Links.{is_connect_ind}
use Rattle.pair_world.proofs.connect_inds.has_connect_ind.Goals as goal

pub returns-in-Whole : goal.returns-in-Whole
unfolding pdu_heard
returns-in-Whole c =
    c.is_connect_ind.ensures
    ∙ ap is_connect_ind (c.read.ensures.value ∙ ap read_of c.as_slice.ensures.value)
    ∙ ap (λ (heard : Heard). is_connect_ind (option_and_then read_of (pdu_by heard))) (sym c.in-Whole.is ∙ c.unframe.ensures.heard)

pub returns-in-NotOurs : goal.returns-in-NotOurs
unfolding pdu_heard
returns-in-NotOurs c =
    let begins = λ (heard : Heard). is_connect_ind (option_and_then read_of (pdu_by heard)) in
    elim c.in-NotOurs.is [
      | inl is ↦ ap begins (sym is ∙ c.unframe.ensures.heard)
      | inr is ↦ ap begins (sym is ∙ c.unframe.ensures.heard)
    ]
