-- In every run of two stations the event of a link that ends as a turn ends comes just after its line, where the masks let
-- it through.
use Rattle.std.proofs.Common.{◌≡◌, ℕ, ◌<◌, ◌==◌, ◌⊎◌, inl, inr, true, false, Option, Some, None, List, [], ◌∷◌, ◌++◌, map, cond, refl, sym, ap, subst, ◌∙◌, append_assoc, arith}
use Rattle.std.specs.Prelude.{drop, flat_map}
use Rattle.std.specs.List.{Contains, list_any}
use Rattle.std.proofs.lemmas.List.Elements.{Contains-append_left, Contains-append_right, Contains-push}
use Rattle.ble_base.specs.declared.error_codes.ErrCode.{ErrCode}
use Rattle.ble_base.specs.declared.notes.Note.{Note}
use Rattle.ble_base.specs.declared.notes.Note.TheVariants.{Shut as ShutNote, Up as UpNote}
use Rattle.ble_base.specs.declared.roles.Side.{Side}
use Rattle.hci_cmd.specs.declared.command.Command.TheVariants.{Reset}
use Rattle.hci_evt.specs.Event.{written}
use Rattle.hci_evt.specs.declared.event.Event.TheVariants.{DisconnectionComplete}
use Rattle.hci_evt.specs.declared.event.MaskBit.TheVariants.{Main}
use Rattle.host_view.specs.View.{View}
use Rattle.host_masks.specs.Masks.{Masks, lets_through, masks_of, view_masks}
use Rattle.host_masks.proofs.LineMasks.{call_masks}
use Rattle.journal.specs.declared.entries.Entry.TheVariants.{Shut, Up}
use Rattle.journal_data.specs.open_links.Turns.{ending_in}
use Rattle.journal_data.specs.open_links.declared.ended.LinkEnded.{LinkEnded}
use Rattle.journal_data.specs.controller_model.Data.{facts_handed, notes_handed}
use Rattle.journal_data.specs.controller_model.Events.{passes}
use Rattle.journal_data.specs.controller_model.Facts.{Facts, Setup}
use Rattle.journal_data.specs.controller_model.Host.{commands_accepted_after}
use Rattle.journal_data.specs.controller_model.Links.{ends_for, notes_ended, notes_leaving}
use Rattle.journal_data.specs.controller_model.Shutting.{IsShut, leaving, overdue, reset}
use Rattle.journal_data.specs.controller_model.Side.{facts_of, notes_after}
use Rattle.journal_data.specs.controller_model.Step.{Step, HostOctet, TurnBegins, PacketHeard, NothingHeard, TurnEnds}
use Rattle.journal_data.proofs.controller_model.Shuts.{shuts_with_reason}
use Rattle.run_model.specs.Feeding.{AreDistinct, is_octet}
use Rattle.run_model.specs.History.{Event, Called, Noted, past_of}
use Rattle.run_model.specs.Journal.{journal_from, journal_of, side_of}
use Rattle.run_model.specs.Links.{links_of}
use Rattle.run_model.specs.NoteLines.{shut_line}
use Rattle.run_model.specs.Readers.{fed_to_side, station_of, turn_packets}
use Rattle.run_model.specs.Run.{Given, facts_at, history_of, run_of, setup_at}
use Rattle.run_model.proofs.Journals.{two}
use Rattle.run_model.proofs.NoteLines.{line_in_call, to_line}
use Rattle.run_model.proofs.OfStations.{OfStations, run_of_stations}
use Rattle.run_model.proofs.Parts.{journal_more}
use Rattle.run_model.proofs.Places.{each_at}
use Rattle.journal_data.proofs.journal_acks.TwoStations.{IsOfTwo}
use Rattle.journal_data.proofs.Openness.{AreNot, handed_not, is_shutting}
use Rattle.journal_hosts.specs.Credits.{IsOpenedUnder}
use Rattle.journal_hosts.specs.Ends.{AllLateEndsAreReported, lets_ends_through}
use Rattle.journal_hosts.proofs.CreditLines.{FitsCall, IsBeforePackets, early_called, handles_at}
use Rattle.journal_hosts.proofs.CreditsInRuns.{AllFit, Counts, counts_of, run_in_order}
use Rattle.journal_hosts.proofs.EndsReported.{shut_was_opened}
use Rattle.journal_hosts.proofs.WholeCalls.{IsInWhole, noted_in_whole}

-- ---- the notes of a controller as a turn ends

abbrev report_of : ℕ → ℕ → Note
report_of handle reason = UpNote (record { items = written (DisconnectionComplete 0x00 handle reason) })

record IsFollowed (later : List Note) (handle : ℕ) (reason : ErrCode) : Type 0 where
  more : List Note
  is : later ≡ report_of handle reason.0 ∷ more

-- each link that is shut in these notes is followed by its event
abbrev AreFollowed : List Note → Type 0
AreFollowed notes = (earlier later : List Note) (handle : ℕ) (reason : ErrCode) → notes ≡ earlier ++ ShutNote handle reason ∷ later → IsFollowed later handle reason

one_end : (view : View) → passes view (Main 4) ≡ true → (handle reason : ℕ) (others : List Note) → AreFollowed others
    → AreFollowed (ShutNote handle (record { 0 = reason }) ∷ report_of handle reason ∷ others)
one_end view lets handle reason others rest [] later one code is =
    let same : ShutNote handle (record { 0 = reason }) ≡ ShutNote one code = cc in
    let first : handle ≡ one = cc in
    let why : record { 0 = reason } ≡ code = cc in
    let after : report_of handle reason ∷ others ≡ later = cc in
    record { more = others; is = sym after ∙ (λ i. report_of (first i) (why i).0 ∷ others) }
one_end view lets handle reason others rest (note ∷ []) later one code is = absurd (let same : report_of handle reason ≡ ShutNote one code = cc in cc)
one_end view lets handle reason others rest (note ∷ other ∷ earlier) later one code is =
    rest earlier later one code (ap (drop 2) is)

ends_followed : (view : View) → passes view (Main 4) ≡ true → (ended : List LinkEnded) → AreFollowed (flat_map (notes_ended view) ended)
ends_followed view lets [] [] later handle reason is = absurd cc
ends_followed view lets [] (note ∷ earlier) later handle reason is = absurd cc
ends_followed view lets (one ∷ ended) earlier later handle reason is =
    one_end view lets one.handle one.reason.0 (flat_map (notes_ended view) ended) (ends_followed view lets ended) earlier later handle reason
    (ap (λ b. ShutNote one.handle (record { 0 = one.reason.0 })
    ∷ (map (λ event. UpNote (record { items = written event })) (cond b (DisconnectionComplete 0 one.handle one.reason.0 ∷ []) []) ++ flat_map (notes_ended view) ended)) (sym lets) ∙ is)

quiet_front : (xs ys : List Note) → AreNot is_shutting xs → AreFollowed ys → AreFollowed (xs ++ ys)
quiet_front [] ys none followed earlier later handle reason is = followed earlier later handle reason is
quiet_front (x ∷ xs) ys none followed [] later handle reason is =
    absurd (let same : x ≡ ShutNote handle reason = cc in let h : false ≡ true = sym none.0 ∙ ap is_shutting same in absurd cc)
quiet_front (x ∷ xs) ys none followed (note ∷ earlier) later handle reason is =
    quiet_front xs ys none.1 followed earlier later handle reason (ap (drop 1) is)

turn_followed : (facts : Facts) (setup : Setup) → passes facts.view (Main 4) ≡ true → AreFollowed (notes_after setup facts TurnEnds)
turn_followed facts setup lets =
    quiet_front (notes_handed facts) (notes_leaving (facts_handed facts)) (handed_not is_shutting (λ octets. refl) facts)
    (ends_followed (facts_handed facts).view lets (ends_for ending_in (facts_handed facts)))

-- ---- a link that is shut after the first packet of a turn is shut as the turn ends

none_of : (count : ℕ) (handles : Option (List ℕ)) → handles ≡ None → Counts count handles → 0 < count → ⊥
none_of count None is counts some = absurd (omega (arith, counts, some))
none_of count (Some handles) is counts some = absurd cc

at_end : (facts : Facts) (step : Step) (handle reason : ℕ) → IsShut facts step handle reason → (history : List Event) → FitsCall history step → (IsBeforePackets history → ⊥)
    → step ≡ TurnEnds
at_end facts step handle reason (overdue slot on link begins at due) history fits late = absurd (late (subst (FitsCall history) begins fits))
at_end facts step handle reason (leaving link ends at due) history fits late = ends
at_end facts step handle reason (reset link completed at code) history fits late = by step completed fits
  where
    by : (step : Step) → commands_accepted_after facts step ≡ Reset ∷ [] → FitsCall history step → step ≡ TurnEnds
    by (HostOctet octet) is fits = absurd (late fits)
    by (TurnBegins slot on) is fits = absurd cc
    by (PacketHeard octets) is fits = absurd cc
    by NothingHeard is fits = absurd cc
    by TurnEnds is fits = absurd cc

cancel : {A : Type 0} (xs ys zs : List A) → xs ++ ys ≡ xs ++ zs → ys ≡ zs
cancel [] ys zs is = is
cancel (x ∷ xs) ys zs is = cancel xs ys zs (ap (drop 1) is)

own_station : (station : ℕ) → (station ≡ 0) ⊎ (station ≡ 1) → station_of (side_of station) ≡ station
own_station station (inl is) = ap (λ n. station_of (side_of n)) is ∙ sym is
own_station station (inr is) = ap (λ n. station_of (side_of n)) is ∙ sym is

-- ---- each such note

record IsNext (station handle : ℕ) (reason : ErrCode) (rest : List Event) : Type 0 where
  more : List Event
  is : rest ≡ Noted station (report_of handle reason.0) ∷ more

module _ (given : Given) (are_two : IsOfTwo given) (distinct : AreDistinct given.stations) (before rest : List Event) (station handle : ℕ) (reason : ErrCode)
    (at : history_of (run_of given) ≡ before ++ Noted station (ShutNote handle reason) ∷ rest) where
  abbrev history : List Event
  history = history_of (run_of given)

  abbrev note : Note
  note = ShutNote handle reason

  abbrev side : Side
  side = side_of station

  in_whole : (whole : IsInWhole given before station note rest) → 0 < turn_packets (journal_of before) → lets_ends_through side (journal_of before) ≡ true
      → IsNext station handle reason rest
  in_whole whole packets lets =
      let setup = setup_at given station in
      let facts = facts_of setup (past_of station whole.base) in
      let earlier = map (Noted station) whole.earlier in
      let after = earlier ++ Noted station note ∷ rest in
      let noted = at ∙ ap (λ (xs : List Event). xs ++ Noted station note ∷ rest) whole.before_is in
      let called : history ≡ whole.base ++ Called station whole.step ∷ after =
      noted ∙ append_assoc whole.base (Called station whole.step ∷ earlier) (Noted station note ∷ rest) in
      let inside : Contains (notes_after setup facts whole.step) note =
      subst (λ xs. Contains xs note) (sym whole.notes_are)
      (Contains-append_right whole.earlier (note ∷ whole.later) note (Contains-append_left (note ∷ []) whole.later note (Contains-push [] note))) in
      let why = (shuts_with_reason setup (past_of station whole.base) whole.step handle reason.0).0 inside in
      let fits = each_at (AllFit given) history whole.base after (Called station whole.step) (run_in_order given are_two distinct) called in
      let ends = at_end facts whole.step handle reason.0 why whole.base fits
      (λ early. none_of (turn_packets (journal_of before)) (handles_at side before)
      (ap (handles_at side) whole.before_is ∙ early_called side station whole.step whole.earlier whole.base (early side))
      (counts_of side (journal_of before)) packets) in
      let of_one = each_at (OfStations given) history whole.base after (Called station whole.step) (run_of_stations given) called in
      let own = own_station station (two station (subst (λ stations. list_any (λ other. station == other) stations ≡ true) are_two of_one)) in
      let masks = call_masks given are_two side station whole.step whole.earlier whole.base (Noted station note ∷ rest) noted (ap is_octet ends) in
      let held : view_masks facts.view ≡ masks_of (fed_to_side side (journal_of before)) =
      ap (λ s. view_masks (facts_at given s whole.base).view) (sym own) ∙ masks
      ∙ ap (λ h. masks_of (fed_to_side side (journal_of h))) (sym whole.before_is) in
      let passed : passes facts.view (Main 4) ≡ true = ap (λ (m : Masks). lets_through m (Main 4)) held ∙ lets in
      let followed = turn_followed facts setup passed whole.earlier whole.later handle reason (ap (notes_after setup facts) (sym ends) ∙ whole.notes_are) in
      record {
        more = map (Noted station) followed.more ++ whole.more;
        is = whole.rest_is ∙ ap (λ notes. map (Noted station) notes ++ whole.more) followed.is;
      }

-- ---- each line

pub ends_are_reported : (given : Given) → IsOfTwo given → AreDistinct given.stations → AllLateEndsAreReported (journal_of (history_of (run_of given)))
ends_are_reported given are_two distinct = λ front rest side link reason is packets lets.
    let call = line_in_call given front rest (Shut side link reason) (shut_line side link reason) refl is in
    let note = ShutNote call.handle reason in
    let whole = noted_in_whole given call.before call.rest call.station note call.is_at in
    let next = in_whole given are_two distinct call.before call.rest call.station call.handle reason call.is_at whole
    (subst (λ xs. 0 < turn_packets xs) call.front_is packets)
    (subst (λ s. lets_ends_through s (journal_of call.before) ≡ true) (sym call.side_is) (subst (λ xs. lets_ends_through side xs ≡ true) call.front_is lets)) in
    let octets = written (DisconnectionComplete 0x00 call.handle reason.0) in
    let events = Noted call.station note ∷ Noted call.station (report_of call.handle reason.0) ∷ next.more in
    let more = journal_from (links_of call.before) next.more in
    let all : front ++ Shut side link reason ∷ rest ≡ front ++ Shut side link reason ∷ Up side octets ∷ more =
    sym is ∙ ap journal_of (call.is_at ∙ ap (λ (xs : List Event). call.before ++ Noted call.station note ∷ xs) next.is)
    ∙ journal_more call.before events
    ∙ (λ i. sym call.front_is i ++ Shut (call.side_is i) (call.number_is i) reason ∷ Up (call.side_is i) octets ∷ more) in
    record {
      octets = octets;
      later = more;
      rest_is = ap (drop 1) (cancel front _ _ all);
      reports = record {
        handle = call.handle;
        opened = to_line given front (shut_line side link reason) call (λ number lines own. IsOpenedUnder own number call.handle lines)
            (shut_was_opened given call.before call.rest call.station call.handle reason call.is_at);
        octets_are = refl;
      };
    }
