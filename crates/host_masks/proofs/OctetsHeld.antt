-- The octets that the controller of a station holds are those of the calls on it, and where it has taken all, those that
-- its host sent.
use Rattle.std.proofs.Common.{◌≡◌, ℕ, List, [], ◌∷◌, ◌++◌, sym, ap, ◌∙◌, append-nil, append_assoc, false}
use Rattle.std.specs.Prelude.{flat_map, fold}
use Rattle.run_model.specs.controller_model.Step.{Step, HostOctet, TurnBegins, PacketHeard, NothingHeard, TurnEnds}
use Rattle.run_model.specs.controller_model.Facts.{Setup, Facts, first_facts}
use Rattle.run_model.specs.controller_model.Side.{facts_after, facts_of}
use Rattle.run_model.proofs.controller_model.Always.{IsInTurn}
use Rattle.run_model.proofs.controller_model.Feds.{more_octets, turn_octets}
use Rattle.run_model.specs.Due.{octet_in, octets_called}
use Rattle.run_model.specs.Feeding.{is_of_feeding}
use Rattle.run_model.specs.History.{Event, fed_to, past_of}
use Rattle.run_model.specs.Run.{Given, facts_at, history_of, run_of, setup_at}
use Rattle.run_model.proofs.Dues.{TakenBefore, run_due}
use Rattle.run_model.proofs.Places.{each_at}
use Rattle.host_masks.specs.Masks.{masks_of, view_masks}
use Rattle.host_masks.proofs.MasksHeld.{masks_held}

-- ---- the octets of a past

abbrev Holds : Setup → Facts → List Step → Type 0
Holds setup facts past = (fold (facts_after setup) facts past).octets ≡ facts.octets ++ flat_map octet_in past

turn_from : (setup : Setup) (facts : Facts) (step : Step) (past : List Step) → IsInTurn step
    → Holds setup (facts_after setup facts step) past
    → (fold (facts_after setup) (facts_after setup facts step) past).octets ≡ facts.octets ++ flat_map octet_in past
turn_from setup facts step past turn holds =
    holds ∙ ap (λ octets. octets ++ flat_map octet_in past) (turn_octets setup facts step turn)

octets_from : (setup : Setup) (facts : Facts) (past : List Step) → Holds setup facts past
octets_from setup facts [] = sym (append-nil facts.octets)
octets_from setup facts (HostOctet octet ∷ past) =
    octets_from setup (facts_after setup facts (HostOctet octet)) past
    ∙ ap (λ octets. octets ++ flat_map octet_in past) (more_octets setup facts octet)
    ∙ append_assoc facts.octets (octet ∷ []) (flat_map octet_in past)
octets_from setup facts (TurnBegins slot on ∷ past) =
    turn_from setup facts (TurnBegins slot on) past tt (octets_from setup (facts_after setup facts (TurnBegins slot on)) past)
octets_from setup facts (PacketHeard octets ∷ past) =
    turn_from setup facts (PacketHeard octets) past tt (octets_from setup (facts_after setup facts (PacketHeard octets)) past)
octets_from setup facts (NothingHeard ∷ past) =
    turn_from setup facts NothingHeard past tt (octets_from setup (facts_after setup facts NothingHeard) past)
octets_from setup facts (TurnEnds ∷ past) =
    turn_from setup facts TurnEnds past tt (octets_from setup (facts_after setup facts TurnEnds) past)

octets_held : (setup : Setup) (past : List Step) → (facts_of setup past).octets ≡ flat_map octet_in past
unfolding facts_of
octets_held setup past = octets_from setup (first_facts setup) past

-- ---- the masks of a station

pub masks_called : (given : Given) (station : ℕ) (history : List Event)
    → view_masks (facts_at given station history).view ≡ masks_of (octets_called station history)
masks_called given station history =
    masks_held (setup_at given station) (past_of station history)
    ∙ ap masks_of (octets_held (setup_at given station) (past_of station history))

pub masks_before : (given : Given) (before rest : List Event) (event : Event) (station : ℕ)
    → history_of (run_of given) ≡ before ++ event ∷ rest → is_of_feeding event ≡ false
    → view_masks (facts_at given station before).view ≡ masks_of (fed_to station before)
masks_before given before rest event station at feeds =
    masks_called given station before
    ∙ ap masks_of (each_at TakenBefore (history_of (run_of given)) before rest event (run_due given).before at feeds station)

pub masks_at_end : (given : Given) (station : ℕ)
    → view_masks (facts_at given station (history_of (run_of given))).view ≡ masks_of (fed_to station (history_of (run_of given)))
masks_at_end given station =
    masks_called given station (history_of (run_of given)) ∙ ap masks_of ((run_due given).taken station)
