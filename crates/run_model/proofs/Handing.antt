-- What is handed on to a controller of a packet, in all phases of encryption.
use Rattle.std.proofs.Common.{◌≡◌, ℕ, ◌+◌, ◌==◌, ◌&&◌, ◌||◌, Bool, true, false, not, List, [], ◌∷◌, refl, sym, ap, subst, ◌∙◌}
use Rattle.std.specs.Prelude.{Option, Some, None, if◌then◌else◌}
use Rattle.std.specs.List.{AllByRecursion, IsDistinct}
use Rattle.std.specs.Str.{bytes_eq}
use Rattle.std.proofs.lemmas.Bool.{and_parts, eqb-true}
use Rattle.std.proofs.lemmas.Slice.Eq.{bytes_eq-Decides}
use Rattle.ble_base.specs.declared.verdicts.Verdict.{Verdict}
use Rattle.ble_base.specs.declared.verdicts.Verdict.TheVariants.{Missed, Forged, Good}
use Rattle.ble_base.specs.declared.verdicts.Verdict.TheVariants.{Broken as IsBroken}
use Rattle.air_frame.specs.declared.Heard.{Heard}
use Rattle.air_frame.specs.declared.Heard.TheVariants.{NotOurs, Broken, Whole}
use Rattle.radio_replay.specs.declared.fates.Fate.{Fate}
use Rattle.radio_replay.specs.Damage.{damaged_packet}
use Rattle.controller_model.specs.declared.doing.Doing.{Doing}
use Rattle.controller_model.specs.declared.doing.Doing.TheVariants.{AwaitsRequest, Initiates, Scans}
use Rattle.controller_model.specs.Facts.{Facts, Use, Sends, Listens, Idle}
use Rattle.controller_model.specs.Packets.{channel_listened, heard_on_channel, verdict_by, verdict_doing, verdict_of}
use Rattle.run_model.specs.Feeding.{AreDistinct}
use Rattle.run_model.specs.History.{Event, fates_used, handed_or, has_received, is_good, is_handed}
use Rattle.run_model.specs.Run.{Given, facts_at, fate_at, hearing_at, hearings_from, hearings_of, is_lost, others_than, reaches, unseen_in, use_at, verdict_where}
use Rattle.run_model.proofs.Calls.{same_station}
use Rattle.run_model.proofs.Stations.{others_differ, others_distinct}

-- a packet is not forged to a station
abbrev pub IsUnforged : Facts → List ℕ → Type 0
IsUnforged facts octets = verdict_of facts octets ≡ Forged → ⊥

-- a station that receives a packet is handed what was sent, if no change goes unseen. One to which it is forged is handed
-- what the radio left of it; that one is another station than the sender, and listens on the channel
pub data IsHanded (received : Bool) (octets : List ℕ) (before handed : Option (List ℕ)) (facts : Facts) (wanted : Use) (channel : ℕ) (differs : Bool) : Type 0 where
  WasReceived : received ≡ true → handed ≡ Some octets → IsHanded received octets before handed facts wanted channel differs
  WasForged : (heard : List ℕ) → handed ≡ Some heard → verdict_of facts heard ≡ Forged → wanted ≡ Listens channel → differs ≡ false
      → IsHanded received octets before handed facts wanted channel differs
  WasNot : received ≡ false → handed ≡ before → IsHanded received octets before handed facts wanted channel differs

-- on the advertising channels nothing is forged
pub advertising_unforged : (heard : Heard) → verdict_by heard ≡ Forged → ⊥
advertising_unforged NotOurs is = absurd cc
advertising_unforged Broken is = absurd cc
advertising_unforged (Whole pdu) is = absurd cc

pub request_unforged : (facts : Facts) (channel : ℕ) (octets : List ℕ) → facts.turn.doing ≡ AwaitsRequest channel → IsUnforged facts octets
unfolding verdict_of
request_unforged facts channel octets does = λ forged.
    advertising_unforged (heard_on_channel channel octets) (ap (λ (doing : Doing). verdict_doing facts.links doing octets) (sym does) ∙ forged)

pub initiator_unforged : (facts : Facts) (channel : ℕ) (octets : List ℕ) → facts.turn.doing ≡ Initiates channel → IsUnforged facts octets
unfolding verdict_of
initiator_unforged facts channel octets does = λ forged.
    advertising_unforged (heard_on_channel channel octets) (ap (λ (doing : Doing). verdict_doing facts.links doing octets) (sym does) ∙ forged)

pub scanner_unforged : (facts : Facts) (channel : ℕ) (octets : List ℕ) → facts.turn.doing ≡ Scans channel → IsUnforged facts octets
unfolding verdict_of
scanner_unforged facts channel octets does = λ forged.
    advertising_unforged (heard_on_channel channel octets) (ap (λ (doing : Doing). verdict_doing facts.links doing octets) (sym does) ∙ forged)

-- a packet reaches a station that listens on its channel
pub listens_where : (fate : Fate) (channel : ℕ) (wanted : Use) → reaches fate channel (channel_listened wanted) ≡ true → wanted ≡ Listens channel
listens_where fate channel (Sends on octets) is = absurd cc
listens_where fate channel (Listens on) is =
    ap Listens (eqb-true on channel (and_parts (not (is_lost fate)) (on == channel) is).1)
listens_where fate channel Idle is = absurd cc

forged_where : (reached : Bool) (facts : Facts) (octets : List ℕ) → verdict_where reached facts octets ≡ Forged → (reached ≡ true) × (verdict_of facts octets ≡ Forged)
forged_where true facts octets is = (refl, is)
forged_where false facts octets is = absurd cc

-- a hearing before others
first_handing : (same : Bool) (verdict : Verdict) (equal : Bool) (heard octets : List ℕ) (more : Bool) (rest before unseen : Option (List ℕ)) (facts : Facts) (wanted : Use)
    (channel : ℕ) (differs : Bool) → (same ≡ true → verdict ≡ Forged → (verdict_of facts heard ≡ Forged) × ((wanted ≡ Listens channel) × (differs ≡ false)))
    → (equal ≡ true → heard ≡ octets) → (if is_good verdict && not equal then Some heard else unseen) ≡ None
    → (unseen ≡ None → IsHanded more octets before rest facts wanted channel differs)
    → IsHanded ((same && is_good verdict) || more) octets before (if same && is_handed verdict then Some heard else rest) facts wanted channel differs
first_handing true Good true heard octets more rest before unseen facts wanted channel differs forged as_sent seen later = WasReceived refl (ap Some (as_sent refl))
first_handing same Good false heard octets more rest before unseen facts wanted channel differs forged as_sent seen later = absurd cc
first_handing false Good true heard octets more rest before unseen facts wanted channel differs forged as_sent seen later = later seen
first_handing true Forged equal heard octets more rest before unseen facts wanted channel differs forged as_sent seen later =
    let is = forged refl refl in WasForged heard refl is.0 is.1.0 is.1.1
first_handing false Forged equal heard octets more rest before unseen facts wanted channel differs forged as_sent seen later = later seen
first_handing true Missed equal heard octets more rest before unseen facts wanted channel differs forged as_sent seen later = later seen
first_handing false Missed equal heard octets more rest before unseen facts wanted channel differs forged as_sent seen later = later seen
first_handing true IsBroken equal heard octets more rest before unseen facts wanted channel differs forged as_sent seen later = later seen
first_handing false IsBroken equal heard octets more rest before unseen facts wanted channel differs forged as_sent seen later = later seen

module _ (given : Given) (fates : List Fate) (sender channel : ℕ) (octets : List ℕ) (history : List Event) (station : ℕ) (before : Option (List ℕ)) where
  abbrev Handed : Bool → Option (List ℕ) → Type 0
  Handed received handed = IsHanded received octets before handed (facts_at given station history) (use_at given station history) channel (station == sender)

  -- a listener to which it is forged
  forged_at : (fate : Fate) (listener : ℕ) → (listener == sender) ≡ false → (station == listener) ≡ true → (hearing_at given fate channel octets history listener).verdict ≡ Forged
      → (verdict_of (facts_at given station history) (damaged_packet fate octets) ≡ Forged)
      × ((use_at given station history ≡ Listens channel) × ((station == sender) ≡ false))
  forged_at fate listener differs same is =
      let wanted = use_at given listener history in
      let was = forged_where (reaches fate channel (channel_listened wanted)) (facts_at given listener history) (damaged_packet fate octets) is in
      subst (λ one. (verdict_of (facts_at given one history) (damaged_packet fate octets) ≡ Forged) × ((use_at given one history ≡ Listens channel) × ((one == sender) ≡ false)))
      (sym (eqb-true station listener same)) (was.1, (listens_where fate channel wanted was.0, differs))

  handing_from : (number : ℕ) (listeners : List ℕ) → AllByRecursion (λ other. (other == sender) ≡ false) listeners
      → unseen_in octets (hearings_from given fates number channel octets history listeners) ≡ None
      → Handed (has_received station (hearings_from given fates number channel octets history listeners))
      (handed_or before station octets (hearings_from given fates number channel octets history listeners))
  handing_from number [] all seen = WasNot refl refl
  handing_from number (listener ∷ listeners) all seen =
      let fate = fate_at fates number in
      let hearing = hearing_at given fate channel octets history listener in
      let others = hearings_from given fates (number + 1) channel octets history listeners in
      first_handing (station == listener) hearing.verdict (bytes_eq (damaged_packet fate octets) octets) (damaged_packet fate octets) octets
      (has_received station others) (handed_or before station octets others) before (unseen_in octets others) (facts_at given station history)
      (use_at given station history) channel (station == sender) (forged_at fate listener all.0)
      (bytes_eq-Decides (damaged_packet fate octets) octets).0 seen (handing_from (number + 1) listeners all.1)

  pub handing : unseen_in octets (hearings_of given fates sender channel octets history) ≡ None
      → Handed (has_received station (hearings_of given fates sender channel octets history))
      (handed_or before station octets (hearings_of given fates sender channel octets history))
  handing seen = handing_from (fates_used history) (others_than sender given.stations) (others_differ sender given.stations) seen

-- ---- a station has one hearing of a packet

none_received : (given : Given) (fates : List Fate) (number channel : ℕ) (octets : List ℕ) (history : List Event) (station : ℕ) (listeners : List ℕ)
    → AllByRecursion (λ other. (station == other) ≡ false) listeners → has_received station (hearings_from given fates number channel octets history listeners) ≡ false
none_received given fates number channel octets history station [] all = refl
none_received given fates number channel octets history station (listener ∷ listeners) all =
    ap (λ b. (b && is_good (hearing_at given (fate_at fates number) channel octets history listener).verdict)
    || has_received station (hearings_from given fates (number + 1) channel octets history listeners)) all.0
    ∙ none_received given fates (number + 1) channel octets history station listeners all.1

-- so it is good, where one of its hearings is
first_good : (same : Bool) (verdict : Verdict) (equal : Bool) (heard octets : List ℕ) (more : Bool) (rest unseen : Option (List ℕ)) → (same ≡ true → more ≡ false)
    → (equal ≡ true → heard ≡ octets) → (if is_good verdict && not equal then Some heard else unseen) ≡ None → ((same && is_good verdict) || more) ≡ true
    → (unseen ≡ None → more ≡ true → rest ≡ Some octets) → (if same && is_handed verdict then Some heard else rest) ≡ Some octets
first_good true Good true heard octets more rest unseen alone as_sent seen received later = ap Some (as_sent refl)
first_good same Good false heard octets more rest unseen alone as_sent seen received later = absurd cc
first_good false Good true heard octets more rest unseen alone as_sent seen received later = later seen received
first_good true Forged equal heard octets more rest unseen alone as_sent seen received later =
    absurd (let no : true ≡ false = sym received ∙ alone refl in absurd cc)
first_good false Forged equal heard octets more rest unseen alone as_sent seen received later = later seen received
first_good true Missed equal heard octets more rest unseen alone as_sent seen received later = later seen received
first_good false Missed equal heard octets more rest unseen alone as_sent seen received later = later seen received
first_good true IsBroken equal heard octets more rest unseen alone as_sent seen received later = later seen received
first_good false IsBroken equal heard octets more rest unseen alone as_sent seen received later = later seen received

good_from : (given : Given) (fates : List Fate) (number channel : ℕ) (octets : List ℕ) (history : List Event) (before : Option (List ℕ)) (station : ℕ)
    (listeners : List ℕ) → AreDistinct listeners → unseen_in octets (hearings_from given fates number channel octets history listeners) ≡ None
    → has_received station (hearings_from given fates number channel octets history listeners) ≡ true
    → handed_or before station octets (hearings_from given fates number channel octets history listeners) ≡ Some octets
unfolding IsDistinct
good_from given fates number channel octets history before station [] distinct seen received = absurd cc
good_from given fates number channel octets history before station (listener ∷ listeners) distinct seen received =
    let fate = fate_at fates number in
    let verdict = (hearing_at given fate channel octets history listener).verdict in
    let others = hearings_from given fates (number + 1) channel octets history listeners in
    first_good (station == listener) verdict (bytes_eq (damaged_packet fate octets) octets) (damaged_packet fate octets) octets
    (has_received station others) (handed_or before station octets others) (unseen_in octets others)
    (λ same. none_received given fates (number + 1) channel octets history station listeners
    (subst (λ one. AllByRecursion (λ other. (one == other) ≡ false) listeners) (sym (eqb-true station listener same)) distinct.0))
    (bytes_eq-Decides (damaged_packet fate octets) octets).0 seen received
    (λ none more. good_from given fates (number + 1) channel octets history before station listeners distinct.1 none more)

pub handed_good : (given : Given) (fates : List Fate) (station channel : ℕ) (octets : List ℕ) (history : List Event) (before : Option (List ℕ)) (other : ℕ)
    → AreDistinct given.stations → unseen_in octets (hearings_of given fates station channel octets history) ≡ None
    → has_received other (hearings_of given fates station channel octets history) ≡ true
    → handed_or before other octets (hearings_of given fates station channel octets history) ≡ Some octets
handed_good given fates station channel octets history before other distinct seen received =
    good_from given fates (fates_used history) channel octets history before other (others_than station given.stations)
    (others_distinct station given.stations distinct) seen received

-- a station has no hearing of its own packet
listener_differs : (station listener : ℕ) → (listener == station) ≡ false → (same : Bool) → (station == listener) ≡ same → same ≡ false
listener_differs station listener differs true is =
    absurd (let h : true ≡ false = sym (same_station station) ∙ ap (λ n. n == station) (eqb-true station listener is) ∙ differs in absurd cc)
listener_differs station listener differs false is = refl

handed_own : (given : Given) (fates : List Fate) (number channel : ℕ) (octets : List ℕ) (history : List Event) (before : Option (List ℕ)) (station : ℕ)
    (listeners : List ℕ) → AllByRecursion (λ other. (other == station) ≡ false) listeners
    → handed_or before station octets (hearings_from given fates number channel octets history listeners) ≡ before
handed_own given fates number channel octets history before station [] all = refl
handed_own given fates number channel octets history before station (listener ∷ listeners) all =
    let fate = fate_at fates number in
    ap (λ b. if b && is_handed (hearing_at given fate channel octets history listener).verdict then Some (damaged_packet fate octets)
    else handed_or before station octets (hearings_from given fates (number + 1) channel octets history listeners))
    (listener_differs station listener all.0 (station == listener) refl)
    ∙ handed_own given fates (number + 1) channel octets history before station listeners all.1

-- so nothing is handed to its sender
pub handed_sender : (given : Given) (fates : List Fate) (station channel : ℕ) (octets : List ℕ) (history : List Event) (before : Option (List ℕ))
    → handed_or before station octets (hearings_of given fates station channel octets history) ≡ before
handed_sender given fates station channel octets history before =
    handed_own given fates (fates_used history) channel octets history before station (others_than station given.stations) (others_differ station given.stations)
