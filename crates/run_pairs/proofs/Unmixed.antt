-- No packet is mixed in a front of a history, nor the next one.
use Rattle.std.proofs.Common.{◌≡◌, ℕ, false, List, [], ◌∷◌, ◌++◌, append_assoc, refl, ap, ◌∙◌}
use Rattle.link_calls.specs.controller_model.Step.{PacketHeard}
use Rattle.link_calls.specs.open_links.OpenLinks.{facts_in}
use Rattle.link_calls.specs.run_laws.Ends.{IsOpen, OpenEnd, ReceivesGood}
use Rattle.link_calls.specs.run_model.History.{Called, Event}
use Rattle.link_calls.specs.run_model.Run.{Given, facts_at}
use Rattle.link_runs.specs.link_pairs.Hearing.{is_mixed_packet}
use Rattle.run_pairs.specs.InTurns.{HearNoMixed, HearsNoMixed}

front_pure : (given : Given) (before more : List Event) (end far : OpenEnd) → HearsNoMixed given (before ++ more) end far → HearsNoMixed given before end far
front_pure given before more end far pure = λ front after octets link there is takes own at_far far_own.
    pure front (after ++ more) octets link there
    (ap (λ (events : List Event). events ++ more) is ∙ append_assoc front (Called end.station (PacketHeard octets) ∷ after) more) takes own at_far far_own

pub front_unmixed : (given : Given) (before more : List Event) (one other : OpenEnd) → HearNoMixed given (before ++ more) one other
    → HearNoMixed given before one other
front_unmixed given before more one other pure = record {
  one_hears = front_pure given before more one other pure.one_hears;
  other_hears = front_pure given before more other one pure.other_hears;
}

-- a good packet that an end is called with next
pub next_unmixed : (given : Given) (before : List Event) (octets : List ℕ) (end far : OpenEnd)
    → HearsNoMixed given (before ++ Called end.station (PacketHeard octets) ∷ []) end far → ReceivesGood (facts_at given end.station before) octets end.link
    → IsOpen given before far → is_mixed_packet end.link.setup (facts_in end.link) (facts_in far.link) octets ≡ false
next_unmixed given before octets end far pure receives opened =
    pure before [] octets end.link far.link refl receives refl opened refl
