-- A station is fed octets of its host.
use Rattle.std.proofs.Common.{◌≡◌, ℕ, zero, suc, ◌<◌, ◌≤◌, ◌==◌, Bool, false, List, [], ◌∷◌, ◌++◌, length, take, drop, if◌then◌else◌, refl, sym, ap, subst, ◌∙◌, append-nil, length-append, drop-drop, arith}
use Rattle.std.proofs.lemmas.Bool.{true≢false}
use Rattle.ble_base.specs.declared.roles.Side.{Side}
use Rattle.journal.specs.declared.entries.Entry.TheVariants.{Fed}
use Rattle.controller_model.specs.Step.{Step, HostOctet}
use Rattle.controller.specs.Knowing.{Knows}
use Rattle.run_model.specs.History.{Event, HostFed, past_of, fed_to, fates_used, packets_on_air, turns_begun}
use Rattle.run_model.specs.Journal.{side_of}
use Rattle.run_model.specs.Links.{Links, links_of}
use Rattle.run_model.specs.Run.{Given, after_call, after_feed, after_octets, octets_left, setup_at}
use Rattle.pair_world.specs.Logs.{LogState, with_entries}
use Rattle.pair_world.specs.Stations.{StationState, Keeps, KnowsLinks, StationIsUpTo, number_of}
use Rattle.pair_world.proofs.Calls.{same_number}
use Rattle.pair_world.proofs.Histories.{past_more, fed_more, fates_more, journal_more, links_more, packets_more, turns_more}
use Rattle.pair_world.proofs.Keeping.{side_is}

take-nil : (count : ℕ) → take {A = ℕ} count [] ≡ []
take-nil zero = refl
take-nil (suc count) = refl

-- ---- octet by octet

pub octets_one_more : (given : Given) (station : ℕ) (octets : List ℕ) (octet : ℕ) (history : List Event)
    → after_octets given station (octets ++ octet ∷ []) history
    ≡ after_call given station (HostOctet octet) (after_octets given station octets history)
octets_one_more given station [] octet history = refl
octets_one_more given station (first ∷ octets) octet history =
    octets_one_more given station octets octet (after_call given station (HostOctet first) history)

-- what each call keeps, octets keep
pub octets_keep : (given : Given) (station : ℕ) (P : List Event → Type 0)
    → ((step : Step) (history : List Event) → P history → P (after_call given station step history))
    → (octets : List ℕ) (history : List Event) → P history → P (after_octets given station octets history)
octets_keep given station P keep [] history holds = holds
octets_keep given station P keep (octet ∷ octets) history holds =
    octets_keep given station P keep octets (after_call given station (HostOctet octet) history) (keep (HostOctet octet) history holds)

-- ---- the event

-- what a history is after a station was fed
abbrev pub fed_history : ℕ → List ℕ → List Event → List Event
fed_history station octets history = history ++ HostFed station octets ∷ []

pub feed_is : (given : Given) (station : ℕ) (octets : List ℕ) (history : List Event) → 0 < length octets
    → after_feed given station octets history ≡ after_octets given station octets (fed_history station octets history)
feed_is given station [] history some = absurd (omega arith)
feed_is given station (octet ∷ octets) history some = refl

pub feed_keeps : (given : Given) (station : ℕ) (P : List Event → Type 0)
    → ((octets : List ℕ) (history : List Event) → P history → P (fed_history station octets history))
    → ((step : Step) (history : List Event) → P history → P (after_call given station step history))
    → (octets : List ℕ) (history : List Event) → P history → P (after_feed given station octets history)
feed_keeps given station P on_fed on_call [] history holds = holds
feed_keeps given station P on_fed on_call (octet ∷ octets) history holds =
    octets_keep given station P on_call (octet ∷ octets) (fed_history station (octet ∷ octets) history) (on_fed (octet ∷ octets) history holds)

past_fed : (station other : ℕ) (octets : List ℕ) (history : List Event) → past_of other (fed_history station octets history) ≡ past_of other history
past_fed station other octets history = past_more other history (HostFed station octets ∷ []) ∙ append-nil (past_of other history)

links_fed : (station : ℕ) (octets : List ℕ) (history : List Event) → links_of (fed_history station octets history) ≡ links_of history
links_fed station octets history = links_more history (HostFed station octets ∷ [])

fed_own : (station : ℕ) (octets : List ℕ) (history : List Event)
    → fed_to station (fed_history station octets history) ≡ fed_to station history ++ octets
fed_own station octets history =
    fed_more station history (HostFed station octets ∷ [])
    ∙ ap (λ (same : Bool). fed_to station history ++ ((if same then octets else []) ++ [])) (same_number station)
    ∙ ap (λ (more : List ℕ). fed_to station history ++ more) (append-nil octets)

fed_other : (station other : ℕ) (octets : List ℕ) (history : List Event) → (other == station) ≡ false
    → fed_to other (fed_history station octets history) ≡ fed_to other history
fed_other station other octets history ne =
    fed_more other history (HostFed station octets ∷ [])
    ∙ ap (λ (same : Bool). fed_to other history ++ ((if same then octets else []) ++ [])) ne
    ∙ append-nil (fed_to other history)

left_own : (given : Given) (station : ℕ) (octets : List ℕ) (history : List Event)
    → octets_left given station (fed_history station octets history) ≡ drop (length octets) (octets_left given station history)
left_own given station octets history =
    ap (λ (fed : List ℕ). drop (length fed) (given.station_of station).stream) (fed_own station octets history)
    ∙ ap (λ (count : ℕ). drop count (given.station_of station).stream) (length-append (fed_to station history) octets)
    ∙ sym (drop-drop (length octets) (length (fed_to station history)) (given.station_of station).stream)

pub take_whole : (count : ℕ) (octets : List ℕ) → length octets ≤ count → take count octets ≡ octets
take_whole count [] fits = take-nil count
take_whole zero (octet ∷ octets) fits = absurd (omega arith)
take_whole (suc count) (octet ∷ octets) fits = ap (λ (rest : List ℕ). octet ∷ rest) (take_whole count octets (omega arith))

drop_taken : (count : ℕ) (octets : List ℕ) → drop (length (take count octets)) octets ≡ drop count octets
drop_taken zero octets = refl
drop_taken (suc count) [] = refl
drop_taken (suc count) (octet ∷ octets) = drop_taken count octets

-- ---- what the code keeps

pub keeps_fed_other : (given : Given) (station other : ℕ) (octets : List ℕ) (history : List Event) (state : StationState) → (other == station) ≡ false
    → Keeps given other history state → Keeps given other (fed_history station octets history) state
keeps_fed_other given station other octets history state ne keeps = record {
  handles = keeps.handles;
  knows = subst (λ past. Knows (setup_at given other) state.held past) (sym (past_fed station other octets history)) keeps.knows;
  unfed_are = keeps.unfed_are
      ∙ sym (ap (λ (fed : List ℕ). drop (length fed) (given.station_of other).stream) (fed_other station other octets history ne));
  links_are = subst (λ (links : Links). KnowsLinks other links state.links) (sym (links_fed station octets history)) keeps.links_are;
}

-- the station that is fed this number of octets
fed_at : (given : Given) (side : Side) (station count : ℕ) (history : List Event) (state : StationState) (log : LogState)
    → side_of station ≡ side → StationIsUpTo given station history state log
    → StationIsUpTo given station (fed_history station (take count state.unfed) history)
    (record state { unfed = drop count state.unfed }) (with_entries (Fed side (take count state.unfed) ∷ []) log)
fed_at given side station count history state log of at =
    let octets = take count state.unfed in record {
      keeps = record {
        handles = at.keeps.handles;
        knows = subst (λ past. Knows (setup_at given station) state.held past) (sym (past_fed station station octets history)) at.keeps.knows;
        unfed_are = ap (drop count) at.keeps.unfed_are
            ∙ sym (left_own given station octets history
            ∙ ap (drop (length octets)) (sym at.keeps.unfed_are) ∙ drop_taken count state.unfed ∙ ap (drop count) at.keeps.unfed_are);
        links_are = subst (λ (links : Links). KnowsLinks station links state.links) (sym (links_fed station octets history)) at.keeps.links_are;
      };
      writes = record {
        entries_are = (λ i. at.writes.entries_are i ++ Fed (sym of i) octets ∷ []) ∙ sym (journal_more history (HostFed station octets ∷ []));
        links_are = at.writes.links_are ∙ sym (ap (λ (links : Links). links.begun) (links_fed station octets history));
      };
    }

-- a station is fed some octets
pub feeds : (given : Given) (side : Side) (count : ℕ) (history : List Event) (state written done : StationState) (log told new_log : LogState) (octets : List ℕ)
    → StationIsUpTo given (number_of side) history state log → octets ≡ take count state.unfed → 0 < length octets
    → written ≡ record state { unfed = drop count state.unfed } → told ≡ with_entries (Fed side octets ∷ []) log
    → ((given : Given) (history : List Event) → StationIsUpTo given (number_of side) history written told
    → StationIsUpTo given (number_of side) (after_octets given (number_of side) octets history) done new_log)
    → StationIsUpTo given (number_of side) (after_feed given (number_of side) (take count state.unfed) history) done new_log
feeds given side count history state written done log told new_log octets at octets_are some written_is told_is go =
    let station = number_of side in
    subst (λ (xs : List ℕ). StationIsUpTo given station (after_feed given station xs history) done new_log) octets_are
    (subst (λ (after : List Event). StationIsUpTo given station after done new_log) (sym (feed_is given station octets history some))
    (go given (fed_history station octets history)
    (rw written_is (rw told_is (rw octets_are (fed_at given side station count history state log (side_is side) at))))))

-- ---- what feeding leaves as it is

same_turns : (station : ℕ) (octets : List ℕ) (history : List Event) → turns_begun (fed_history station octets history) ≡ turns_begun history
same_turns station octets history = turns_more history (HostFed station octets ∷ []) ∙ omega arith

pub fates_fed : (station : ℕ) (octets : List ℕ) (history : List Event) → fates_used (fed_history station octets history) ≡ fates_used history
fates_fed station octets history = fates_more history (HostFed station octets ∷ [])

pub packets_fed : (station : ℕ) (octets : List ℕ) (history : List Event) → packets_on_air (fed_history station octets history) ≡ packets_on_air history
packets_fed station octets history = packets_more history (HostFed station octets ∷ [])

pub turns_fed : (station : ℕ) (octets : List ℕ) (history : List Event) → turns_begun (fed_history station octets history) ≡ turns_begun history
turns_fed station octets history = same_turns station octets history

pub some_there : (none : Bool) (octets : List ℕ) → none ≡ (length octets == 0) → none ≡ false → 0 < length octets
some_there none [] is not_none = absurd (true≢false (sym is ∙ not_none))
some_there none (octet ∷ octets) is not_none = omega arith
