-- What a phase of a turn does to a link that is open after it.
use Rattle.std.proofs.Common.{◌≡◌, ◌⊎◌, inl, inr, ℕ, Some, List, sym, ap, ◌∙◌}
use Rattle.std.specs.Prelude.{All}
use Rattle.journal_packets.specs.open_links.OpenLinks.{OpenLink, link_at}
use Rattle.journal_packets.specs.controller_model.Facts.{Facts}
use Rattle.journal_packets.specs.controller_model.Heard.{has_room}
use Rattle.journal_packets.specs.controller_model.Side.{facts_after, notes_after}
use Rattle.link_calls.specs.Phases.{HasPassed}
use Rattle.link_calls.specs.run_model.History.{Event, packet_received}
use Rattle.link_calls.specs.run_model.Run.{Given, after_call, facts_at, setup_at, step_of}
use Rattle.journal_packets.proofs.run_laws.Hearings.{own_facts}
use Rattle.journal_packets.proofs.run_laws.TurnSteps.{IsListening}
use Rattle.link_calls.proofs.CallNotes.{OpensNone}
use Rattle.link_calls.proofs.LinkCalls.{IsOpenedNow, passes_under, phase_quiet}
use Rattle.journal_acks.proofs.Exchanging.{number_at, number_called}

-- it passed the phase and has its number still, or it is new
pub passed_or_new : (given : Given) (station : ℕ) (history : List Event) → IsListening (facts_at given station history) (facts_at given station history).turn.doing
    → (R : Type 0) (handle : ℕ) (link : OpenLink)
    → link_at handle (facts_at given station (after_call given station (step_of (packet_received station history)) history)).links ≡ Some link
    → (number_at station handle (after_call given station (step_of (packet_received station history)) history) ≡ number_at station handle history
    → HasPassed (setup_at given station) (facts_at given station history) (has_room (setup_at given station) (facts_at given station history))
    (packet_received station history) handle
    (facts_after (setup_at given station) (facts_at given station history) (step_of (packet_received station history))).turn.doing link → R)
    → (IsOpenedNow (facts_at given station history).turn.slot link → R) → R
passed_or_new given station history listens R handle link at passed new =
    by (phase_quiet (setup_at given station) (facts_at given station history) (packet_received station history) handle)
  where
    held : link_at handle (facts_after (setup_at given station) (facts_at given station history) (step_of (packet_received station history))).links ≡ Some link
    held = ap (λ (f : Facts). link_at handle f.links) (sym (own_facts given station (step_of (packet_received station history)) history)) ∙ at

    by : All (OpensNone handle) (notes_after (setup_at given station) (facts_at given station history) (step_of (packet_received station history)))
        ⊎ ((one : OpenLink)
        → link_at handle (facts_after (setup_at given station) (facts_at given station history) (step_of (packet_received station history))).links ≡ Some one
        → IsOpenedNow (facts_at given station history).turn.slot one) → R
    by (inl quiet) =
        passed (number_called given station (step_of (packet_received station history)) history handle quiet)
        (passes_under (setup_at given station) (facts_at given station history) (packet_received station history) handle link listens held)
    by (inr is_new) = new (is_new link held)
