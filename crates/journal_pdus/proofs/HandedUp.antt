-- As a turn ends, nothing is left that waits for the host of a side, or that host is full, by the lines of a run.
use Rattle.std.proofs.Common.{◌≡◌, ℕ, ◌+◌, ◌==◌, Bool, true, false, List, [], ◌∷◌, ◌++◌, inl, inr, length, refl, sym, ap, subst, ◌∙◌, append_assoc}
use Rattle.std.specs.Prelude.{◌⊎◌, ◌&&◌, ⊤, flat_map, map}
use Rattle.std.proofs.lemmas.Bool.{and_parts, eqb-true}
use Rattle.acl_banks.specs.declared.pieces.Piece.{Piece}
use Rattle.ble_base.specs.declared.notes.Note.{Note}
use Rattle.host_view.specs.Flow.{left_of, outstanding}
use Rattle.journal_moves.specs.journal_wants.journal_sending.journal_data.open_links.declared.ended.LinkEnded.{LinkEnded}
use Rattle.journal_moves.specs.journal_wants.journal_sending.journal_data.open_links.Turns.{ending_in}
use Rattle.journal_moves.specs.journal_wants.journal_sending.controller_model.Data.{event_completed, facts_handed, notes_pieces, pieces_handed}
use Rattle.journal_moves.specs.journal_wants.journal_sending.controller_model.Events.{notes_of_events}
use Rattle.journal_moves.specs.journal_wants.journal_sending.controller_model.Facts.{Facts}
use Rattle.journal_moves.specs.journal_wants.journal_sending.controller_model.Links.{ends_for, notes_ended, notes_leaving}
use Rattle.journal_moves.specs.journal_wants.journal_sending.controller_model.declared.doing.Doing.TheVariants.{Rests}
use Rattle.journal_moves.specs.journal_wants.journal_sending.controller_model.Packets.{facts_doing}
use Rattle.journal_moves.specs.journal_wants.journal_sending.controller_model.Side.{facts_of, notes_after}
use Rattle.journal_moves.specs.journal_wants.journal_sending.controller_model.Step.{TurnEnds}
use Rattle.journal_moves.proofs.journal_wants.journal_sending.controller_model.Always.{leaving_is, received_shut}
use Rattle.journal_moves.proofs.journal_wants.journal_sending.controller_model.BetweenTurns.{shut_none}
use Rattle.journal_moves.proofs.journal_wants.journal_sending.controller_model.Handing.{all_or_full}
use Rattle.journal_moves.proofs.journal_wants.journal_sending.controller_model.HostWindow.{never_more}
use Rattle.journal_moves.specs.journal_wants.journal_sending.journal_data.open_links.Data.{completed_from}
use Rattle.journal_moves.specs.journal_wants.journal_sending.journal_hosts.HostFlow.{is_host_full}
use Rattle.journal_moves.specs.journal_wants.journal_sending.run_model.History.{Event, Called, Noted, past_of}
use Rattle.journal_moves.specs.journal_wants.journal_sending.run_model.Journal.{journal_of, side_of}
use Rattle.journal_moves.specs.journal_wants.journal_sending.journal_packets.Belonging.{is_side}
use Rattle.journal_moves.specs.journal_wants.journal_sending.run_model.Readers.{turn_packets}
use Rattle.journal_moves.specs.journal_wants.journal_sending.run_model.Run.{Given, after_call, facts_at, history_of, run_of, setup_at}
use Rattle.journal_moves.proofs.journal_wants.journal_sending.journal_acks.TwoStations.{IsOfTwo, other_is}
use Rattle.journal_moves.proofs.journal_wants.journal_sending.journal_data.OneCall.{far_side}
use Rattle.journal_moves.proofs.journal_wants.journal_sending.journal_data.Openness.{AreNot, all_append, handed_not, is_shutting}
use Rattle.journal_moves.proofs.journal_wants.journal_sending.journal_hosts.QuietTurns.{IsSilent}
use Rattle.journal_moves.proofs.journal_wants.journal_sending.run_model.Stations.{among, in_more_other, in_more_same, is_in}
use Rattle.journal_moves.proofs.journal_wants.journal_sending.run_model.Walk.{Place, NoTurn, AtFeeds, AtBegins, AfterPhases, AtPackets, AtListening, AtEnds, IsKept}
use Rattle.journal_moves.proofs.journal_wants.journal_sending.journal_data.run_laws.Hearings.{other_facts, own_facts}
use Rattle.journal_pdus.specs.Settled.{was_full}
use Rattle.journal_pdus.proofs.FullLines.{ShutNoneEarly, call_full, call_full_on, now_full}
use Rattle.journal_moves.proofs.journal_wants.StillTurns.{none_ends_silent}

-- ---- a call in which a turn ends

-- by the lines of its data the host is full, where the window says so
abbrev pub IsFullThen : Given → List Event → ℕ → Type 0
IsFullThen given history station =
    (facts_at given station history).view.flow.on ≡ true
    → outstanding (facts_at given station history).view.links + length (pieces_handed (facts_at given station history))
    ≡ (facts_at given station history).view.flow.acl_count
    → is_host_full (side_of station) (journal_of (history ++ Called station TurnEnds ∷ map (Noted station) (notes_pieces (facts_at given station history)))) ≡ true

-- in a turn in which no packet was on the air, none of these notes shuts a link
abbrev pub ShutNoneSilent : List Event → List Note → Type 0
ShutNoneSilent history notes = IsSilent history → AreNot is_shutting notes

none_early : (own : Bool) (history : List Event) (notes : List Note) → ShutNoneSilent history notes
    → (own && (turn_packets (journal_of history) == 0)) ≡ true → AreNot is_shutting notes
none_early own history notes none early =
    none (eqb-true (turn_packets (journal_of history)) 0 (and_parts own (turn_packets (journal_of history) == 0) early).1)

last_not : (first last : List Note) → AreNot is_shutting (first ++ last) → AreNot is_shutting last
last_not [] last none = none
last_not (note ∷ first) last none = last_not first last none.1

-- nothing waits for the host of a station, or it is full
abbrev pub IsHandedOver : Given → ℕ → List Event → Type 0
IsHandedOver given station history =
    ((facts_at given station history).received ≡ []) ⊎ (was_full (side_of station) (journal_of history) ≡ true)

module _ (given : Given) (history : List Event) (station : ℕ) (full : IsFullThen given history station) where
  abbrev facts : Facts
  facts = facts_at given station history

  abbrev pub reports : List Note
  reports = notes_of_events facts.view (map event_completed (completed_from 0 facts.links))

  -- what is reported, and notes of links that end, of which there are none where no packet was on the air
  pub none_reported : (more : List Note) → ShutNoneSilent history more → ShutNoneSilent history (reports ++ more)
  none_reported more none = λ silent.
      all_append (λ note. is_shutting note ≡ false) reports more
      (last_not (notes_pieces facts) reports (handed_not is_shutting (λ octets. refl) facts)) (none silent)

  -- after its data and other notes
  pub left_or_full : (rest : List Note) → ShutNoneSilent history rest → (left_of facts.view facts.received ≡ [])
      ⊎ (was_full (side_of station) (journal_of (history ++ Called station TurnEnds ∷ map (Noted station) (notes_pieces facts ++ rest))) ≡ true)
  left_or_full rest none_shut = elim (all_or_full facts.view facts.received (never_more (setup_at given station) (past_of station history))) [
    | inl none ↦ inl none
    | inr all ↦ inr (call_full_on (side_of station) station TurnEnds (notes_pieces facts) rest history
        (none_early (is_side (side_of station) (side_of station)) history rest none_shut) (now_full (side_of station) _ (full all.0 all.1)))
  ]

  none_left : left_of facts.view facts.received ≡ [] → (facts_at given station (after_call given station TurnEnds history)).received ≡ []
  none_left none =
      let ended = ends_for ending_in (facts_handed facts) in
      ap (λ (f : Facts). f.received) (own_facts given station TurnEnds history ∙ ap (λ f. facts_doing Rests f) (leaving_is (facts_handed facts)))
      ∙ ap (λ (received : List (ℕ × Piece)). received_shut received ended) none ∙ shut_none ended

  pub over_then : (IsSilent history → ends_for ending_in (facts_handed facts) ≡ [])
      → IsHandedOver given station (after_call given station TurnEnds history)
  over_then none_ends =
      let leaving = notes_leaving (facts_handed facts) in
      let none_shut = none_reported leaving (λ silent.
      subst (λ (ended : List LinkEnded). AreNot is_shutting (flat_map (notes_ended (facts_handed facts).view) ended))
      (sym (none_ends silent)) tt) in
      elim (left_or_full (reports ++ leaving) none_shut) [
        | inl none ↦ inl (none_left none)
        | inr was ↦ inr (subst (λ notes. was_full (side_of station) (journal_of (history ++ Called station TurnEnds ∷ map (Noted station) notes)) ≡ true)
            (sym (append_assoc (notes_pieces facts) reports leaving)) was)
      ]

-- ---- along a run

abbrev HandedIf : Bool → Given → ℕ → List Event → Type 0
HandedIf true given station history = IsHandedOver given station history
HandedIf false given station history = ⊤

-- of the stations that have ended their turn
abbrev HandedAt : Given → ℕ → Place → List Event → Type 0
HandedAt given station NoTurn history = IsHandedOver given station history
HandedAt given station (AtEnds done left) history = HandedIf (is_in station done) given station history
HandedAt given station (AtFeeds done left) history = ⊤
HandedAt given station (AtBegins done left) history = ⊤
HandedAt given station (AfterPhases phases) history = ⊤
HandedAt given station (AtPackets phases done left) history = ⊤
HandedAt given station (AtListening phases done left) history = ⊤

module _ (given : Given) (are_two : IsOfTwo given)
    (full : (station : ℕ) (before rest : List Event) → history_of (run_of given) ≡ before ++ Called station TurnEnds ∷ rest → IsFullThen given before station) where
  -- at each place that the run comes to
  abbrev pub AreHanded : Place → List Event → Type 0
  AreHanded place history = (rest : List Event) → history_of (run_of given) ≡ history ++ rest
      → (station : ℕ) → is_in station given.stations ≡ true → HandedAt given station place history

  pub handed_first : AreHanded NoTurn []
  unfolding facts_of
  handed_first = λ rest at station in_it. inl refl

  end_by : (done : List ℕ) (station : ℕ) (history : List Event) → is_in station given.stations ≡ true
      → IsHandedOver given station (after_call given station TurnEnds history)
      → (other : ℕ) (same : Bool) → is_in other given.stations ≡ true → (other == station) ≡ same → HandedIf (is_in other done) given other history
      → HandedIf (is_in other (done ++ station ∷ [])) given other (after_call given station TurnEnds history)
  end_by done station history in_it own other true in_too is handed =
      subst (λ b. HandedIf b given other (after_call given station TurnEnds history)) (sym (in_more_same other station done is))
      (subst (λ n. IsHandedOver given n (after_call given station TurnEnds history)) (sym (eqb-true other station is)) own)
  end_by done station history in_it own other false in_too is handed =
      subst (λ b. HandedIf b given other (after_call given station TurnEnds history)) (sym (in_more_other other station done is)) (by (is_in other done) handed)
    where
      apart : is_side (side_of station) (side_of other) ≡ false
      apart = ap (λ n. is_side (side_of station) (side_of n)) (other_is given are_two station other in_it in_too is) ∙ far_side station

      never : ShutNoneEarly (side_of other) station history (notes_after (setup_at given station) (facts_at given station history) TurnEnds)
      never = λ early.
          absurd (let h : false ≡ true = ap (λ own. own && (turn_packets (journal_of history) == 0)) (sym apart) ∙ early in absurd cc)

      by : (ended : Bool) → HandedIf ended given other history → HandedIf ended given other (after_call given station TurnEnds history)
      by true one = elim one [
        | inl none ↦ inl (ap (λ (f : Facts). f.received) (other_facts given station TurnEnds history other is) ∙ none)
        | inr was ↦ inr (call_full (side_of other) station TurnEnds (notes_after (setup_at given station) (facts_at given station history) TurnEnds) history never was)
      ]
      by false one = tt

  pub handed_kept : IsKept given AreHanded
  handed_kept = record {
    on_turn = λ slot plan history begun at has rest is station in_it. tt;
    on_feed = λ plan done left station history are some now has rest is other in_it. tt;
    on_fed = λ history has rest is station in_it. tt;
    on_begin = λ slot plan done left station history are due has rest is other in_it. tt;
    on_begun = λ history has rest is station in_it. tt;
    on_phase = λ phases history few has rest is station in_it. tt;
    on_silence = λ phases done left station history are none has rest is other in_it. tt;
    on_packet = λ phases plan done left station channel octets history are some due has rest is other in_it. tt;
    on_air = λ phases history has rest is station in_it. tt;
    on_hearing = λ phases done left station history are some has rest is other in_it. tt;
    on_heard = λ phases history has rest is station in_it. tt;
    on_phases = λ history has rest is station in_it. tt;
    on_end = λ done left station history are some has rest is other in_it.
        let noted = map (Noted station) (notes_after (setup_at given station) (facts_at given station history) TurnEnds) in
        let at = is ∙ append_assoc history (Called station TurnEnds ∷ noted) rest in
        end_by done station history (among given.stations done left station are)
        (over_then given history station (full station history (noted ++ rest) at)
        (λ silent. none_ends_silent given are_two station history (noted ++ rest) at silent))
        other (other == station) in_it refl (has (Called station TurnEnds ∷ noted ++ rest) at other in_it);
    on_ended = λ history has rest is station in_it.
        subst (λ b. HandedIf b given station history) in_it (has rest is station in_it);
  }
