-- At each place of a run, what a side does next by its lines is what its controller does, or it is a listener that
-- has heard nothing in its phase, whose controller rests.
use Rattle.std.proofs.Common.{◌≡◌, ◌⊎◌, inl, inr, ℕ, suc, ◌==◌, Bool, true, false, Option, Some, None, List, [], ◌∷◌, ◌++◌, refl, sym, ap, subst, ◌∙◌}
use Rattle.std.specs.Prelude.{⊤, is_some}
use Rattle.std.proofs.lemmas.Bool.{eqb-true}
use Rattle.ble_base.specs.declared.roles.Side.{Side}
use Rattle.journal.specs.declared.entries.Entry.{Entry}
use Rattle.journal.specs.declared.entries.Entry.TheVariants.{Air}
use Rattle.radio_replay.specs.Damage.{damaged_packet}
use Rattle.journal_wants.specs.controller_model.declared.doing.Doing.{Doing}
use Rattle.journal_wants.specs.controller_model.declared.doing.Doing.TheVariants.{Advertises, PeripheralListens, Rests}
use Rattle.journal_wants.specs.controller_model.Facts.{Facts, Setup}
use Rattle.journal_wants.specs.controller_model.Heard.{heard}
use Rattle.journal_wants.specs.controller_model.Packets.{use_of, verdict_of}
use Rattle.journal_wants.specs.controller_model.Side.{notes_after}
use Rattle.journal_wants.specs.controller_model.Step.{PacketHeard, Step, TurnBegins}
use Rattle.journal_wants.specs.journal_controls.journal_ends.Asked.{Words}
use Rattle.journal_wants.specs.journal_sending.journal_fixing.OnLines.{kept_or}
use Rattle.journal_wants.specs.run_model.Due.{Each, packet_in}
use Rattle.journal_wants.specs.run_model.Feeding.{AreDistinct}
use Rattle.journal_wants.specs.run_model.History.{Called, Event, Hearing, HostFed, Noted, Transmitted, TurnBegan, is_good, is_handed, packet_received}
use Rattle.journal_wants.specs.run_model.Journal.{journal_of, mark_of, side_of}
use Rattle.journal_wants.specs.run_model.Run.{Given, after_call, facts_at, setup_at, step_of}
use Rattle.journal_wants.specs.Station.{Setups, doing_first, station_deciding}
use Rattle.journal_wants.proofs.journal_acks.TwoStations.{IsOfTwo, other_apart, other_of}
use Rattle.journal_wants.proofs.journal_acks.run_laws.Hearings.{AreHearing, other_facts, own_facts}
use Rattle.journal_wants.proofs.journal_acks.run_laws.InAgreement.{differs_back}
use Rattle.journal_wants.proofs.run_model.Calls.{same_station}
use Rattle.journal_wants.proofs.run_model.LinkEnds.{received_by}
use Rattle.journal_wants.proofs.run_model.Stations.{in_more_other, in_more_same, is_in}
use Rattle.journal_wants.proofs.run_model.Walk.{AfterPhases, AtBegins, AtEnds, AtFeeds, AtListening, AtPackets, NoTurn, Place}
use Rattle.journal_moves.specs.Doing.{after_hearing, after_sending, peripheral_answers}
use Rattle.journal_moves.specs.Moves.{phase_sending}
use Rattle.journal_moves.proofs.NextPhases.{Matches, awaits_central}
use Rattle.journal_moves.proofs.SaidLines.{begins_it, begun_at, begun_called, begun_then, call_none, call_said, said_at}

-- ---- where a packet was heard

-- a peripheral answers by its lines; any other side does what its controller is to do
abbrev pub leads : Words → Side → List Entry → Setup → Facts → List ℕ → Doing → Doing
leads words side front setup facts octets (PeripheralListens handle) = peripheral_answers words side front handle
leads words side front setup facts octets other = (heard setup other octets facts).next

-- a station that is to take what it heard in a phase: `own` and `far` where its packet, and that of the other
-- station, if there are such, were on the air
pub data InPhase (words : Words) (side : Side) (front : List Entry) (phases : ℕ) (own far : Bool) (setup : Setup)
    (facts : Facts) (received : Option (List ℕ)) (said : Option Doing)
    (begun : Doing) : Type 0 where
  Waits : received ≡ None → (own ≡ true → packet_in (use_of facts) ≡ [])
      → Matches phases (kept_or said begun) facts.turn.doing
      → InPhase words side front phases own far setup facts received said begun
  HasSent : received ≡ None → own ≡ true → is_some (phase_sending facts.turn.doing) ≡ true
      → said ≡ Some (after_sending facts.turn.doing)
      → InPhase words side front phases own far setup facts received said begun
  HasHeard : (octets : List ℕ) → received ≡ Some octets → far ≡ true → is_good (verdict_of facts octets) ≡ true
      → said ≡ Some (leads words side front setup facts octets facts.turn.doing)
      → InPhase words side front phases own far setup facts received said begun
  HasForged : (octets : List ℕ) → received ≡ Some octets → far ≡ true → phase_sending facts.turn.doing ≡ None
      → (heard setup facts.turn.doing octets facts).next ≡ Rests
      → Matches phases (kept_or said begun) facts.turn.doing
      → InPhase words side front phases own far setup facts received said begun

-- ---- what is known of a run

module _ (words : Words) (setups : Setups) (given : Given) where
  -- what each side does first by its lines is what its controller did
  abbrev pub IsFirstKnown : List Event → Type 0
  IsFirstKnown before = (station : ℕ) → is_in station given.stations ≡ true
      → doing_first words setups (side_of station) (journal_of before) ≡ begun_at given station before

  -- at a packet
  pub record IsKnownAir (before : List Event) (sender channel : ℕ) (octets : List ℕ)
      (hearing : Hearing) : Type 0 where
    pub first : IsFirstKnown before
    -- a good packet leads there by the lines
    pub hears : (station : ℕ) → is_in station given.stations ≡ true → (station == sender) ≡ false
        → is_good hearing.verdict ≡ true
        → let side = side_of station in let facts = facts_at given station before in
        let line = Air (side_of sender) channel octets (mark_of hearing.fate) hearing.verdict in
        after_hearing words setups side (journal_of before) line
        (station_deciding words setups side (journal_of before)) octets facts.turn.doing
        ≡ leads words side (journal_of before ++ line ∷ []) (setup_at given station) facts octets facts.turn.doing
    -- a forged one leads nowhere
    pub forged : (station : ℕ) → is_in station given.stations ≡ true → (station == sender) ≡ false
        → is_good hearing.verdict ≡ false
        → is_handed hearing.verdict ≡ true → let facts = facts_at given station before in
        (heard (setup_at given station) facts.turn.doing (damaged_packet hearing.fate octets) facts).next ≡ Rests

  -- at a call
  pub record IsKnownCall (before : List Event) (station : ℕ) (step : Step) : Type 0 where
    -- a peripheral that heard a good packet answers by the lines of the call where its controller does
    pub answers : (octets : List ℕ) (handle : ℕ) → step ≡ PacketHeard octets
        → (facts_at given station before).turn.doing ≡ PeripheralListens handle
        → is_good (verdict_of (facts_at given station before) octets) ≡ true
        → said_at words setups station before
        ≡ Some (peripheral_answers words (side_of station) (journal_of before) handle)
        → said_at words setups station (after_call given station step before)
        ≡ Some (heard (setup_at given station) (PeripheralListens handle) octets (facts_at given station before)).next
    -- the other side answers as before
    pub still : (other : ℕ) → is_in other given.stations ≡ true → (other == station) ≡ false → (handle : ℕ)
        → peripheral_answers words (side_of other) (journal_of (after_call given station step before)) handle
        ≡ peripheral_answers words (side_of other) (journal_of before) handle

  abbrev pub IsKnown : List Event → Event → Type 0
  IsKnown before (Transmitted sender channel octets []) = ⊤
  IsKnown before (Transmitted sender channel octets (hearing ∷ hearings)) =
      IsKnownAir before sender channel octets hearing
  IsKnown before (Called station step) = IsKnownCall before station step
  IsKnown before (TurnBegan slot radios) = IsFirstKnown before
  IsKnown before (HostFed station octets) = ⊤
  IsKnown before (Noted station note) = ⊤

  -- ---- what is said at a place

  abbrev pub said_or : ℕ → List Event → Doing
  said_or station history = kept_or (said_at words setups station history) (begun_at given station history)

  abbrev pub IsInPhase : ℕ → Bool → Bool → ℕ → List Event → Type 0
  IsInPhase phases own far station history =
      InPhase words (side_of station) (journal_of history) phases own far (setup_at given station)
      (facts_at given station history) (packet_received station history)
      (said_at words setups station history) (begun_at given station history)

  abbrev pub IsMatching : ℕ → ℕ → List Event → Type 0
  IsMatching phases station history =
      Matches phases (said_or station history) (facts_at given station history).turn.doing

  abbrev pub HasPassedIf : Bool → ℕ → ℕ → List Event → Type 0
  HasPassedIf true phases station history = IsMatching (suc phases) station history
  HasPassedIf false phases station history = IsInPhase phases true true station history

  abbrev pub HasEndedIf : Bool → ℕ → List Event → Type 0
  HasEndedIf true station history = phase_sending (said_or station history) ≡ None
  HasEndedIf false station history = IsMatching 3 station history

  abbrev pub SaysAt : Place → ℕ → List Event → Type 0
  SaysAt NoTurn station history = phase_sending (said_or station history) ≡ None
  SaysAt (AtFeeds done left) station history = said_at words setups station history ≡ None
  SaysAt (AtBegins done left) station history =
      (said_at words setups station history ≡ None)
      × (is_in station done ≡ true → begun_at given station history ≡ (facts_at given station history).turn.doing)
  SaysAt (AfterPhases phases) station history = IsMatching phases station history
  SaysAt (AtPackets phases done left) station history =
      IsInPhase phases (is_in station done) (is_in (other_of station) done) station history
  SaysAt (AtListening phases done left) station history = HasPassedIf (is_in station done) phases station history
  SaysAt (AtEnds done left) station history = HasEndedIf (is_in station done) station history

  abbrev pub AllSay : Place → List Event → Type 0
  AllSay place history = (station : ℕ) → is_in station given.stations ≡ true → SaysAt place station history

  pub record AreSaying (place : Place) (history : List Event) : Type 0 where
    pub hearing : AreHearing given place history
    pub says : Each IsKnown [] history → AllSay place history

-- ---- small steps

pub in_stays : (one station : ℕ) (done : List ℕ) → is_in one done ≡ true → is_in one (done ++ station ∷ []) ≡ true
in_stays one station done is = by (one == station) refl
  where
    by : (same : Bool) → (one == station) ≡ same → is_in one (done ++ station ∷ []) ≡ true
    by true same = in_more_same one station done same
    by false differs = in_more_other one station done differs ∙ is

pub more_done : {words : Words} {side : Side} {front : List Entry} {phases : ℕ} {setup : Setup}
    {received : Option (List ℕ)} {said : Option Doing} {begun : Doing}
    (facts : Facts) (own far own_then far_then : Bool) → (own ≡ true → own_then ≡ true)
    → (far ≡ true → far_then ≡ true)
    → (own_then ≡ true → (packet_in (use_of facts) ≡ []) ⊎ (own ≡ true))
    → InPhase words side front phases own far setup facts received said begun
    → InPhase words side front phases own_then far_then setup facts received said begun
more_done facts own far own_then far_then keeps far_keeps may (Waits none quiet matches) =
    Waits none (λ now. by (may now)) matches
  where
    by : (packet_in (use_of facts) ≡ []) ⊎ (own ≡ true) → packet_in (use_of facts) ≡ []
    by (inl silent) = silent
    by (inr was) = quiet was
more_done facts own far own_then far_then keeps far_keeps may (HasSent none is sends said) =
    HasSent none (keeps is) sends said
more_done facts own far own_then far_then keeps far_keeps may (HasHeard octets got is good said) =
    HasHeard octets got (far_keeps is) good said
more_done facts own far own_then far_then keeps far_keeps may (HasForged octets got is silent rests matches) =
    HasForged octets got (far_keeps is) silent rests matches

-- what a station says that sends as its packet is to come
pub sender_said : {words : Words} {side : Side} {front : List Entry} {phases : ℕ} {setup : Setup} {facts : Facts}
    {received : Option (List ℕ)} {said : Option Doing} {begun : Doing}
    (own far : Bool) → own ≡ false → received ≡ None → is_some (phase_sending facts.turn.doing) ≡ true
    → InPhase words side front phases own far setup facts received said begun → kept_or said begun ≡ facts.turn.doing
sender_said own far not_yet deaf sends (Waits none quiet (inl same)) = same
sender_said own far not_yet deaf sends (Waits none quiet (inr stale)) =
    absurd (let h : true ≡ false = sym sends ∙ ap (λ doing. is_some (phase_sending doing)) stale.rests in absurd cc)
sender_said own far not_yet deaf sends (HasSent none sent does said) =
    absurd (let h : true ≡ false = sym sent ∙ not_yet in absurd cc)
sender_said own far not_yet deaf sends (HasHeard octets got is good said) =
    absurd (let h : Some octets ≡ None = sym got ∙ deaf in absurd cc)
sender_said own far not_yet deaf sends (HasForged octets got is silent rests matches) =
    absurd (let h : Some octets ≡ None = sym got ∙ deaf in absurd cc)

pub passes_begin : (received : Option (List ℕ)) → begins_it (step_of received) ≡ false
passes_begin None = refl
passes_begin (Some octets) = refl

pub record IsAwaiting (doing : Doing) : Type 0 where
  pub handle : ℕ
  pub is : doing ≡ PeripheralListens handle

pub awaiting : (doing : Doing) → awaits_central doing ≡ true → IsAwaiting doing
awaiting (PeripheralListens handle) is = record { handle = handle; is = refl }
awaiting (Advertises channel) is = absurd (let h : false ≡ true = is in absurd cc)
awaiting other is = absurd (let h : false ≡ true = is in absurd cc)

module _ (words : Words) (side : Side) (setup : Setup) (facts : Facts) (octets : List ℕ) where
  pub leads_heard : (front : List Entry) (doing : Doing) → awaits_central doing ≡ false
      → leads words side front setup facts octets doing ≡ (heard setup doing octets facts).next
  leads_heard front (PeripheralListens handle) none = absurd (let h : true ≡ false = none in absurd cc)
  leads_heard front (Advertises channel) none = refl
  leads_heard front other none = refl

  leads_still : (front later : List Entry)
      → ((handle : ℕ) → peripheral_answers words side later handle ≡ peripheral_answers words side front handle)
      → (doing : Doing) → leads words side front setup facts octets doing
      ≡ leads words side later setup facts octets doing
  leads_still front later still (PeripheralListens handle) = sym (still handle)
  leads_still front later still (Advertises channel) = refl
  leads_still front later still other = refl

-- ---- each step

module _ (words : Words) (setups : Setups) (given : Given) (are_two : IsOfTwo given)
    (distinct : AreDistinct given.stations) where
  abbrev F : List Event → Event → Type 0
  F = IsKnown words setups given

  abbrev Saying : Place → List Event → Type 0
  Saying = AreSaying words setups given

  abbrev Say : Place → ℕ → List Event → Type 0
  Say = SaysAt words setups given

  abbrev said : ℕ → List Event → Option Doing
  said station history = said_at words setups station history

  -- a call of the other station
  module _ (station : ℕ) (step : Step) (history : List Event) (in_it : is_in station given.stations ≡ true)
      (other : ℕ) (in_other : is_in other given.stations ≡ true)
      (differs : (other == station) ≡ false) where
    abbrev later : List Event
    later = after_call given station step history

    pub far_facts : facts_at given other later ≡ facts_at given other history
    far_facts = other_facts given station step history other differs

    far_begun : begun_at given other later ≡ begun_at given other history
    far_begun = begun_called given station step history other false differs
        (λ same. absurd (let h : false ≡ true = same in absurd cc))

    far_said : said other later ≡ said other history
    far_said =
        let apart = other_apart given are_two other station in_other in_it (differs_back other station differs) in
        call_said words setups station other step
        (notes_after (setup_at given station) (facts_at given station history) step) history
        (λ own. absurd (let h : true ≡ false = sym own ∙ apart in absurd cc))

    far_received : packet_received other later ≡ packet_received other history
    far_received = received_by given other station step history false differs

    pub far_or : said_or words setups given other later ≡ said_or words setups given other history
    far_or = λ i. kept_or (far_said i) (far_begun i)

    pub far_matches : (phases : ℕ) → IsMatching words setups given phases other history
        → IsMatching words setups given phases other later
    far_matches phases is =
        subst (λ (facts : Facts). Matches phases (said_or words setups given other later) facts.turn.doing)
        (sym far_facts)
        (subst (λ one. Matches phases one (facts_at given other history).turn.doing) (sym far_or) is)

    pub far_phase : (phases : ℕ) (own far : Bool) → IsKnownCall words setups given history station step
        → IsInPhase words setups given phases own far other history
        → IsInPhase words setups given phases own far other later
    far_phase phases own far known is =
        let side = side_of other in
        let setup = setup_at given other in
        subst (λ facts. InPhase words side (journal_of later) phases own far setup facts (packet_received other later)
        (said other later) (begun_at given other later)) (sym far_facts)
        (subst (λ got. InPhase words side (journal_of later) phases own far setup (facts_at given other history) got
        (said other later) (begun_at given other later)) (sym far_received)
        (subst (λ one. InPhase words side (journal_of later) phases own far setup (facts_at given other history)
        (packet_received other history) one (begun_at given other later)) (sym far_said)
        (subst (λ one. InPhase words side (journal_of later) phases own far setup (facts_at given other history)
        (packet_received other history) (said other history) one) (sym far_begun)
        (moved is))))
      where
        moved : IsInPhase words setups given phases own far other history
            → InPhase words (side_of other) (journal_of later) phases own far (setup_at given other)
            (facts_at given other history) (packet_received other history)
            (said other history) (begun_at given other history)
        moved (Waits none quiet matches) = Waits none quiet matches
        moved (HasSent none sent sends one) = HasSent none sent sends one
        moved (HasHeard octets got is_far good one) =
            HasHeard octets got is_far good
            (one ∙ ap Some (leads_still words (side_of other) (setup_at given other)
            (facts_at given other history) octets
            (journal_of history) (journal_of later) (known.still other in_other differs)
            (facts_at given other history).turn.doing))
        moved (HasForged octets got is_far silent rests matches) = HasForged octets got is_far silent rests matches

  -- ---- a turn begins

  pub begin_says : (slot : ℕ) (on : Bool) (done left : List ℕ) (station : ℕ) (history : List Event)
      → AllSay words setups given (AtBegins done (station ∷ left)) history
      → AllSay words setups given (AtBegins (done ++ station ∷ []) left)
      (after_call given station (TurnBegins slot on) history)
  begin_says slot on done left station history says other in_other =
      let before = says other in_other in (
        call_none words setups given station other (TurnBegins slot on) history before.0,
        λ is. by
            (other == station) refl is,
      )
    where
      by : (same : Bool) → (other == station) ≡ same → is_in other (done ++ station ∷ []) ≡ true
          → begun_at given other (after_call given station (TurnBegins slot on) history)
          ≡ (facts_at given other (after_call given station (TurnBegins slot on) history)).turn.doing
      by true same is =
          let then_on = after_call given station (TurnBegins slot on) history in
          subst (λ n. begun_at given n then_on ≡ (facts_at given n then_on).turn.doing)
          (sym (eqb-true other station same))
          (begun_then given station slot on history station (same_station station)
          ∙ ap (λ (facts : Facts). facts.turn.doing) (sym (own_facts given station (TurnBegins slot on) history)))
      by false differs is =
          begun_called given station (TurnBegins slot on) history other false differs
          (λ same. absurd (let h : false ≡ true = same in absurd cc))
          ∙ (says other in_other).1 (sym (in_more_other other station done differs) ∙ is)
          ∙ ap (λ (facts : Facts). facts.turn.doing)
          (sym (other_facts given station (TurnBegins slot on) history other differs))
