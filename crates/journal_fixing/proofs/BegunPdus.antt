-- As a turn begins at a station: what its ends that send hold, and the line of a new PDU in the middle of that call.
use Rattle.std.proofs.Common.{◌≡◌, ℕ, ◌⊎◌, inl, inr, Bool, true, false, Some, List, [], ◌∷◌, ◌++◌, fold, map, refl, sym, ap, subst, ◌∙◌, append_assoc, arith}
use Rattle.std.specs.Prelude.{All}
use Rattle.ble_base.specs.declared.notes.Note.{Note}
use Rattle.ble_base.specs.declared.notes.Note.TheVariants.{Sent as SentNote}
use Rattle.ble_base.specs.declared.roles.Role.{Role}
use Rattle.ble_base.specs.declared.roles.Role.TheVariants.{Central, Peripheral}
use Rattle.ble_base.specs.declared.roles.Side.{Side}
use Rattle.journal_controls.specs.Withheld.{nothing_withheld}
use Rattle.journal_controls.specs.controller_model.Facts.{Facts}
use Rattle.journal_controls.specs.controller_model.Side.{facts_after, facts_of as side_facts, notes_after}
use Rattle.journal_controls.specs.controller_model.Step.{Step as Call, TurnBegins}
use Rattle.journal.specs.declared.entries.Entry.{Entry}
use Rattle.journal_controls.specs.TurnSteps.{first_if, steps_begun}
use Rattle.journal_controls.specs.journal_acks.link_calls.Uses.{fixes_under, sends_under}
use Rattle.journal_controls.specs.journal_ends.Asked.{Words}
use Rattle.journal_controls.specs.journal_ends.GivenWords.{GivesWords}
use Rattle.journal_controls.specs.journal_links.LinkLines.{line_of}
use Rattle.journal_controls.specs.journal_ends.open_links.OpenLinks.{OpenLink, facts_in, link_at}
use Rattle.journal_controls.specs.journal_ends.open_links.Turns.{enters_in}
use Rattle.journal_controls.specs.link_model.Acknowledgement.{Pdu}
use Rattle.journal_controls.specs.link_model.Data.{next_piece}
use Rattle.journal_controls.specs.link_model.End.{facts_after as end_after, notes_from}
use Rattle.journal_controls.specs.link_model.Facts.{Facts as EndFacts, keyed_of, no_response}
use Rattle.journal_controls.specs.link_model.Fixing.{data_cut}
use Rattle.journal_controls.specs.link_model.Setup.{Setup as EndSetup}
use Rattle.journal_controls.specs.link_model.Step.{EventEntered, PduFixed}
use Rattle.journal_controls.specs.link_model.keyed_control.Keyed.{Keyed}
use Rattle.journal_controls.specs.run_model.History.{Event, Called, Noted}
use Rattle.journal_controls.specs.run_model.Journal.{journal_from, journal_of, side_of}
use Rattle.journal_controls.specs.run_model.LinkEnds.{HaveAddresses}
use Rattle.journal_controls.specs.run_model.Links.{links_of}
use Rattle.journal_controls.specs.run_model.Run.{Given, after_call, facts_at, history_of, run_of, setup_at}
use Rattle.journal_controls.proofs.CentralFixed.{IsFree}
use Rattle.journal_controls.proofs.FixedEnds.{begun_past}
use Rattle.journal_controls.proofs.journal_acks.Exchanging.{number_at, number_called}
use Rattle.journal_controls.proofs.journal_acks.Standing.{sender_role}
use Rattle.journal_controls.proofs.journal_acks.TwoStations.{IsOfTwo}
use Rattle.journal_controls.proofs.journal_acks.link_calls.CallNotes.{OpensNone, begin_noted, opening_none}
use Rattle.journal_controls.proofs.journal_acks.link_calls.LinkCalls.{turn_begun_under}
use Rattle.journal_controls.proofs.journal_ends.SeenCalls.{held_at}
use Rattle.journal_controls.proofs.journal_ends.run_laws.DistinctAccess.{AreApart}
use Rattle.journal_controls.proofs.journal_ends.run_laws.Hearings.{own_facts}
use Rattle.journal_controls.proofs.journal_ends.run_laws.LinkPhases.{begins_in}
use Rattle.journal_controls.proofs.journal_links.OfTwo.{are_distinct}
use Rattle.journal_controls.proofs.journal_packets.AccessOrder.{AreNth}
use Rattle.journal_controls.proofs.link_model.Hearing.{IsHeardWhole}
use Rattle.journal_controls.proofs.run_model.Calls.{past_own}
use Rattle.journal_controls.proofs.run_model.LinkEnds.{AreTaken, IsUnderstood}
use Rattle.journal_controls.proofs.run_model.Parts.{journal_more, notes_noted}
use Rattle.journal_controls.proofs.run_model.Stations.{is_in}
use Rattle.journal_fixing.specs.NextPdu.{pdu_next}
use Rattle.journal_fixing.specs.OnLines.{control_fixing, control_going, has_heard, is_fixed}
use Rattle.journal_fixing.specs.PastFixing.{facts_fixing}
use Rattle.journal_fixing.proofs.ControlKept.{fixing_now, going_now}
use Rattle.journal_fixing.proofs.FirstNotes.{notes_unfixed, sends_last}
use Rattle.journal_fixing.proofs.FixedPasts.{facts_begun}
use Rattle.journal_fixing.proofs.FixedPdus.{fixed_by, fixed_next, fixing_stays}
use Rattle.journal_fixing.proofs.FixedSince.{since_in}
use Rattle.journal_fixing.proofs.FixingLinks.{sends_uses, user_fixes}
use Rattle.journal_fixing.proofs.KeptFixing.{IsBegun, fixing_at, own_lines}
use Rattle.journal_fixing.proofs.NotedLines.{notes_unheard}
use Rattle.journal_fixing.proofs.RunFixing.{fixing_before_begin}
use Rattle.journal_fixing.proofs.RunGoing.{going_before_call}
use Rattle.journal_fixing.proofs.SaidPdus.{IsSaidBy, IsSentNew}
use Rattle.journal_fixing.proofs.SentPdus.{same_some}
use Rattle.journal_fixing.proofs.SentLines.{fixing_then, number_then, said_in}
use Rattle.journal_fixing.proofs.TurnFixing.{begun_said}

-- what is fixed, by the end and the data of that moment
sent_fixed : (enters : Bool) (slot : ℕ) (setup : EndSetup) (facts : EndFacts)
    → fold (end_after setup) facts (first_if enters (EventEntered slot) (first_if true PduFixed [])) ≡ end_after setup (fold (end_after setup) facts (first_if enters (EventEntered slot) [])) PduFixed
sent_fixed true slot setup facts = refl
sent_fixed false slot setup facts = refl

first_role : (phases : ℕ) (role : Role) → phases ≡ 0 → ((phases ≡ 0) × (role ≡ Central)) ⊎ ((phases ≡ 1) × (role ≡ Peripheral)) → role ≡ Central
first_role phases role is (inl first) = first.1
first_role phases role is (inr later) = absurd (let one = later.0 in omega (arith, is, one))

module _ (words : Words) (heard_whole : IsHeardWhole) (understood : IsUnderstood) (taken : AreTaken) (nth : AreNth) (apart : AreApart) (given : Given) (are_two : IsOfTwo given)
    (six : HaveAddresses given) (gives : GivesWords given words) (history rest : List Event) (station slot : ℕ) (on : Bool) (handle count llid : ℕ) (body : List ℕ) (earlier later : List Note) (link : OpenLink)
    (in_it : is_in station given.stations ≡ true) (at : history_of (run_of given) ≡ history ++ Called station (TurnBegins slot on) ∷ rest)
    (notes_are : notes_after (setup_at given station) (facts_at given station history) (TurnBegins slot on) ≡ earlier ++ SentNote handle count llid (record { items = body }) ∷ later)
    (is_open : link_at handle (facts_at given station (history ++ Called station (TurnBegins slot on) ∷ map (Noted station) earlier)).links ≡ Some link) where
  abbrev call : Call
  call = TurnBegins slot on

  abbrev now : List Event
  now = history ++ Called station call ∷ map (Noted station) earlier

  abbrev after : List Event
  after = after_call given station call history

  abbrev facts : Facts
  facts = facts_at given station history

  abbrev side : Side
  side = side_of station

  abbrev own : ℕ
  own = number_at station handle history

  abbrev pdu : Pdu
  pdu = record { llid = llid; body = body }

  abbrev held : EndFacts
  held = facts_fixing link.setup link.past

  abbrev sent : EndFacts
  sent = end_after link.setup held PduFixed

  begun : IsBegun words given history station slot on
  begun = fixing_before_begin words heard_whole understood taken nth apart given are_two six gives history rest station slot on at

  -- the facts of a station do not change in the middle of a call
  same_facts : (notes : List Note) → facts_at given station (history ++ Called station call ∷ map (Noted station) notes) ≡ facts_at given station after
  same_facts notes =
      ap (side_facts (setup_at given station))
      (past_own station call notes history ∙ sym (past_own station call (notes_after (setup_at given station) facts call) history))

  open_after : link_at handle (facts_at given station after).links ≡ Some link
  open_after = ap (λ (f : Facts). link_at handle f.links) (sym (same_facts earlier)) ∙ is_open

  opens : All (OpensNone handle) (notes_after (setup_at given station) facts call)
  opens = begin_noted (OpensNone handle) (opening_none handle) (setup_at given station) slot on facts

  number : number_at station handle after ≡ own
  number = number_called given station call history handle opens

  -- ---- the line is of the PDU that it fixed

  record IsOfLine : Type 0 where
    new : IsSentNew true sent pdu
    sends : sends_under handle (facts_at given station after).turn.doing ≡ true
    role : link.setup.link.role ≡ Central

  of_line : IsOfLine
  of_line =
      let setup = setup_at given station in
      let at_now = held_at words given station call history in_it begun.lined begun.lined_after handle link open_after in
      let has = turn_begun_under setup facts slot on handle link at_now in
      let base = has.link in
      let next = facts_after setup facts call in
      let doing = next.turn.doing in
      let enters = enters_in slot base in
      let fixes = fixes_under handle doing in
      let sends = sends_under handle doing in
      let past = has.past_is ∙ begun_past slot handle doing base in
      let lines = own_lines words given station call refl history begun.lined begun.lined_after in_it handle link open_after number base has.was (steps_begun enters fixes sends slot) has.setup_is past in
      let begun_facts : Bool → EndFacts = λ b. fold (end_after base.setup) (facts_in base) (first_if enters (EventEntered slot) (first_if b PduFixed [])) in
      let new = said_in words given station call history earlier later handle count llid body notes_are opens (IsSaidBy sends (begun_facts fixes))
      (map (line_of side own) (notes_from base.setup (facts_in base) (steps_begun enters fixes sends slot))) lines
      (begun_said side own nothing_withheld no_response slot base.setup (facts_in base) enters fixes sends) in
      let phase = begins_in setup slot on facts in
      let fixing = user_fixes handle next.links doing phase (sends_uses handle doing new.sends) in
      let all_past = past ∙ ap (λ b. base.past ++ steps_begun enters b sends slot) fixing in
      let sent_is : begun_facts fixes ≡ sent =
      ap begun_facts fixing ∙ sent_fixed enters slot base.setup (facts_in base)
      ∙ ap (λ (f : EndFacts). end_after base.setup f PduFixed) (sym (facts_begun base.setup base.past enters sends slot))
      ∙ (λ i. end_after (sym has.setup_is i) (facts_fixing (sym has.setup_is i) (sym all_past i)) PduFixed) in record {
        new = subst (λ (f : EndFacts). IsSentNew true f pdu) sent_is (record { sends = refl; acked = new.acked; is = new.is });
        sends = ap (λ (f : Facts). sends_under handle f.turn.doing) (own_facts given station call history) ∙ new.sends;
        role = first_role 0 link.setup.link.role refl (sender_role 0 next.links doing handle link phase new.sends at_now);
      }

  pub fixing_in_begin : control_fixing words side (number_at station handle now) (journal_of now) ≡ Some (keyed_of held)
  fixing_in_begin =
      ap (λ n. control_fixing words side n (journal_of now)) (number_then words given station call history earlier later handle count llid body notes_are opens)
      ∙ fixing_then words given station call history earlier later handle count llid body notes_are opens
      ∙ ap (λ n. fixing_at words n side after) (sym number)
      ∙ begun.fixing handle link open_after (sends_uses handle (facts_at given station after).turn.doing of_line.sends)

  free : IsFree held
  free =
      let called = history ++ Called station call ∷ [] in
      let same : facts_at given station called ≡ facts_at given station after = same_facts [] in
      let at_then : history_of (run_of given) ≡ called ++ rest = at ∙ sym (append_assoc history (Called station call ∷ []) rest) in
      let since =
      since_in given called rest station handle link (are_distinct given are_two) in_it at_then (ap (λ (f : Facts). link_at handle f.links) same ∙ open_after) in
      (since.sends (ap (λ (f : Facts). sends_under handle f.turn.doing) same ∙ of_line.sends) of_line.role).0

  -- ---- no PDU of the end is fixed yet, and it heard nothing

  abbrev middle : List Entry
  middle = journal_from (links_of history) (map (Noted station) earlier)

  journal_now : journal_of now ≡ journal_of history ++ middle
  journal_now = journal_more history (Called station call ∷ map (Noted station) earlier)

  unfixed : is_fixed words side own (journal_of now) ≡ false
  unfixed =
      ap (is_fixed words side own) journal_now
      ∙ notes_unfixed words side own station (links_of history) earlier (journal_of history)
      (sends_last (setup_at given station) slot on facts earlier later (SentNote handle count llid (record { items = body })) notes_are) (begun.unfixed own)

  unheard : has_heard words side own (journal_of now) ≡ false
  unheard =
      ap (has_heard words side own) journal_now
      ∙ notes_unheard words side side own (journal_of history) middle (notes_noted (links_of history) station earlier)
      (going_before_call words heard_whole understood taken nth apart given are_two six gives history rest station call at side own)

  pub going_in_begin : control_going words side (number_at station handle now) (journal_of now) ≡ Some (keyed_of held)
  going_in_begin =
      let numbers = number_then words given station call history earlier later handle count llid body notes_are opens in
      ap (λ n. control_going words side n (journal_of now)) numbers ∙ going_now words side own (journal_of now) unheard ∙ sym (fixing_now words side own (journal_of now) unfixed)
      ∙ ap (λ n. control_fixing words side n (journal_of now)) (sym numbers) ∙ fixing_in_begin

  -- the line says the PDU that is next
  pub pdu_in_begin : (fixing going : Keyed) → control_fixing words side (number_at station handle now) (journal_of now) ≡ Some fixing
      → control_going words side (number_at station handle now) (journal_of now) ≡ Some going → pdu ≡ pdu_next fixing going (next_piece (data_cut held))
  pdu_in_begin fixing going fixing_is going_is =
      let same = same_some (keyed_of held) fixing (sym fixing_in_begin ∙ fixing_is) in
      let goes = same_some (keyed_of held) going (sym going_in_begin ∙ going_is) in
      of_line.new.is ∙ fixed_next (keyed_of held) (data_cut held) sent (fixed_by link.setup held free)
      ∙ (λ i. pdu_next (same i) ((fixing_stays link.setup held ∙ goes) i) (next_piece (data_cut held)))
