-- In every run of two stations, each link that a side opens as its peripheral is one whose CONNECT_IND it heard in the same turn,
-- and which it was to open by the lines.
use Rattle.std.proofs.Common.{◌≡◌, ℕ, ◌+◌, ◌≤◌, ◌==◌, true, Some, List, [], ◌∷◌, ◌++◌, length, refl, sym, ap, subst, ◌∙◌, append_assoc, arith}
use Rattle.std.specs.Prelude.{map}
use Rattle.std.proofs.lemmas.Bool.{eqb-false}
use Rattle.std.proofs.lemmas.Grind.{flat_map-append}
use Rattle.std.proofs.lemmas.List.{length-append, nil_from_length}
use Rattle.ble_base.specs.Side.{other_side}
use Rattle.ble_base.specs.declared.roles.Role.TheVariants.{Peripheral}
use Rattle.ble_base.specs.declared.roles.Side.{Side}
use Rattle.ble_base.specs.declared.verdicts.Verdict.TheVariants.{Good}
use Rattle.adv_pdu.specs.declared.pdu.AdvPdu.TheVariants.{Connect}
use Rattle.journal.specs.declared.entries.Entry.{Entry}
use Rattle.journal.specs.declared.entries.Entry.TheVariants.{Air, Opened}
use Rattle.journal.specs.declared.entries.Mark.{Mark}
use Rattle.journal_data.proofs.link_model.Hearing.{IsHeardWhole}
use Rattle.journal_data.specs.controller_model.declared.doing.Doing.{Doing}
use Rattle.journal_data.specs.controller_model.Facts.{Listens}
use Rattle.journal_data.specs.controller_model.Packets.{pdu_heard}
use Rattle.journal_data.specs.controller_model.Side.{facts_of}
use Rattle.journal_data.proofs.controller_model.Sent.{DoingFits, can_be_done}
use Rattle.journal_data.specs.run_model.Due.{IsDue}
use Rattle.journal_data.specs.run_model.Feeding.{AreDistinct}
use Rattle.journal_data.specs.run_model.History.{Event, Called, Noted, Transmitted, Hearing, has_received, packet_received, past_of}
use Rattle.journal_data.specs.run_model.Journal.{air_entries, journal_from, journal_of, mark_of, side_of}
use Rattle.journal_data.specs.run_model.LinkEnds.{HaveAddresses}
use Rattle.journal_data.specs.run_model.Links.{is_advertising, is_connect_ind, links_after, links_of}
use Rattle.journal_data.specs.run_model.Readers.{pair_openings_in, turns_of}
use Rattle.journal_data.specs.run_model.Run.{Given, facts_at, history_of, run_of, setup_at, use_at}
use Rattle.journal_data.proofs.run_model.Calls.{turns_called}
use Rattle.journal_data.proofs.run_model.Doings.{IsWanted, always_wanted}
use Rattle.journal_data.proofs.run_model.Dues.{run_due}
use Rattle.journal_data.proofs.run_model.Fates.{turns_are}
use Rattle.journal_data.proofs.run_model.Handing.{request_unforged}
use Rattle.journal_data.proofs.run_model.LinkEnds.{AreTaken, IsUnderstood, of_advertising, wanted_is}
use Rattle.journal_data.proofs.run_model.LinksKnown.{last_by_call}
use Rattle.journal_data.proofs.run_model.NoteLines.{note_line}
use Rattle.journal_data.proofs.run_model.OfStations.{OfStations, run_of_stations}
use Rattle.journal_data.proofs.run_model.Parts.{journal_more}
use Rattle.journal_data.proofs.run_model.Places.{each_at}
use Rattle.journal_data.proofs.run_model.Stations.{is_in}
use Rattle.journal_data.proofs.run_model.Unseen.{good_is}
use Rattle.journal_data.proofs.run_laws.ChSel.{one_channel}
use Rattle.journal_data.proofs.run_laws.DistinctAccess.{AreApart}
use Rattle.journal_data.specs.journal_links.Begun.{links_begun}
use Rattle.journal_data.proofs.journal_links.OfTwo.{are_distinct, of_two_stations, other_of as other_by}
use Rattle.journal_data.proofs.journal_links.OpenedLines.{opened_note}
use Rattle.journal_data.proofs.journal_packets.AccessOrder.{AreNth}
use Rattle.journal_data.proofs.journal_acks.TwoStations.{IsOfTwo, hearing_of, one_hearing, other_is, other_of, other_received, same_number}
use Rattle.journal_data.proofs.FewLinks.{HaveFewLinks}
use Rattle.journal_hearings.specs.Openings.{IsToOpen, OpenedLinksWereToOpen}
use Rattle.journal_hearings.specs.Taken.{AllTakenLinksAreHeard, HasHeardConnect}
use Rattle.journal_hearings.proofs.ConnectLines.{begins_one}
use Rattle.journal_hearings.proofs.ConnectsAwaited.{to_open_at}
use Rattle.journal_hearings.proofs.LastHeard.{IsHeardLast, heard_last}
use Rattle.journal_hearings.proofs.LinksOpened.{begun_is}
use Rattle.journal_hearings.proofs.PeripheralNotes.{IsTaking, peripheral_noted}

-- ---- the line of a link that is opened

-- ---- the lines from a packet on

-- the first of them is that of the packet
packet_line : (before after : List Event) (sender channel : ℕ) (octets : List ℕ) (hearing : Hearing) (hearings : List Hearing) (side : Side) → hearings ≡ hearing ∷ []
    → side_of sender ≡ side → hearing.verdict ≡ Good
    → journal_of (before ++ Transmitted sender channel octets hearings ∷ after)
    ≡ journal_of before ++ Air side channel octets (mark_of hearing.fate) Good ∷ journal_from (links_after (links_of before) (Transmitted sender channel octets hearings)) after
packet_line before after sender channel octets hearing hearings side are side_is good =
    let event = Transmitted sender channel octets hearings in
    let between = journal_from (links_after (links_of before) event) after in
    journal_more before (event ∷ after)
    ∙ ap (λ xs. journal_of before ++ (air_entries (side_of sender) channel octets xs ++ between)) are
    ∙ (λ i. journal_of before ++ Air (side_is i) channel octets (mark_of hearing.fate) (good i) ∷ between)

-- no turn begins after it
no_turn : (front before between : List Entry) (side : Side) (channel : ℕ) (octets : List ℕ) (fate : Mark) → front ≡ before ++ Air side channel octets fate Good ∷ between
    → length (turns_of front) ≡ length (turns_of before) → turns_of between ≡ []
no_turn front before between side channel octets fate is same =
    let line = Air side channel octets fate Good in
    let whole = ap (λ xs. length (turns_of xs)) is in
    let parts = ap length (flat_map-append pair_openings_in before (line ∷ between)) in
    let both = length-append (turns_of before) (turns_of between) in
    nil_from_length (turns_of between) (omega (arith, same, whole, parts, both))

-- ---- the channel of a request that is taken

module _ (given : Given) (station : ℕ) (before : List Event) (octets : List ℕ) (taking : IsTaking (facts_at given station before) octets) where
  listens_on : (channel : ℕ) → use_at given station before ≡ Listens channel → taking.channel ≡ channel
  listens_on channel listens =
      let setup = setup_at given station in
      let past = past_of station before in
      one_channel taking.channel channel
      (sym (subst (λ (doing : Doing). IsWanted doing (facts_of setup past).wanted) taking.doing (always_wanted setup past)) ∙ wanted_is given station before ∙ listens)

  on_advertising : HaveAddresses given → is_advertising taking.channel ≡ true
  on_advertising six =
      of_advertising taking.channel (subst DoingFits taking.doing (can_be_done (setup_at given station) (past_of station before) (six station)))

-- ---- the CONNECT_IND of it

module _ (given : Given) (pair : IsOfTwo given) (six : HaveAddresses given) where
  distinct : AreDistinct given.stations
  distinct = are_distinct given pair

  -- the call in which it is noted
  record IsTakenIn (front : List Entry) (side : Side) (number : ℕ) : Type 0 where
    station : ℕ
    base : List Event
    octets : List ℕ
    later : List Event
    after : List Event
    called : history_of (run_of given) ≡ base ++ later ++ after
    received : packet_received station base ≡ Some octets
    taking : IsTaking (facts_at given station base) octets
    in_it : is_in station given.stations ≡ true
    side_is : side_of station ≡ side
    front_is : front ≡ journal_of (base ++ later)
    turns_are : length (turns_of front) ≡ length (turns_of (journal_of base))
    number_is : number ≡ (links_of base).last_of station

  taken_in : (front rest : List Entry) (side : Side) (number handle : ℕ) → journal_of (history_of (run_of given)) ≡ front ++ Opened side number handle Peripheral ∷ rest
      → IsTakenIn front side number
  taken_in front rest side number handle is =
      let line = note_line given front rest (Opened side number handle Peripheral) is refl in
      let station = line.station in
      let opened = opened_note (links_of line.before) station line.note side number handle Peripheral line.entry_is in
      let call = line.call in
      let base = call.base in
      let setup = setup_at given station in
      let facts = facts_at given station base in
      let later = Called station call.step ∷ map (Noted station) call.earlier in
      let after = Noted station line.note ∷ line.after in
      let hearing = peripheral_noted setup facts call.step handle opened.own opened.peer call.earlier call.later (always_wanted setup (past_of station base))
      (call.notes_are ∙ ap (λ n. call.earlier ++ n ∷ call.later) opened.is) in
      let called : history_of (run_of given) ≡ base ++ later ++ after = line.is_at ∙ ap (λ xs. xs ++ after) call.before_is in
      let at : history_of (run_of given) ≡ base ++ Called station call.step ∷ (map (Noted station) call.earlier ++ after) = called ∙ append_assoc base later after in
      let front_is = line.front_is ∙ ap journal_of call.before_is in record {
        station = station;
        base = base;
        octets = hearing.octets;
        later = later;
        after = after;
        called = called;
        received = subst (IsDue given base) (ap (Called station) hearing.is)
            (each_at (IsDue given) (history_of (run_of given)) base _ (Called station call.step) (run_due given).each at);
        taking = hearing.taking;
        in_it = each_at (OfStations given) (history_of (run_of given)) base _ (Called station call.step) (run_of_stations given) at;
        side_is = sym opened.side_is;
        front_is = front_is;
        turns_are = ap (λ xs. length (turns_of xs)) front_is ∙ turns_are (base ++ later) ∙ turns_called station call.step call.earlier base ∙ sym (turns_are base);
        number_is = opened.number_is ∙ ap (λ xs. (links_of xs).last_of station) call.before_is ∙ last_by_call station call.step call.earlier base station;
      }

  -- the packet that it heard
  record IsTakenAt (front : List Entry) (side : Side) (number : ℕ) : Type 0 where
    sender : ℕ
    channel : ℕ
    octets : List ℕ
    hearing : Hearing
    hearings : List Hearing
    before : List Event
    after : List Event
    between : List Entry
    at : history_of (run_of given) ≡ before ++ Transmitted sender channel octets hearings ∷ after
    taking : IsTaking (facts_at given (other_of sender) before) octets
    side_is : side_of (other_of sender) ≡ side
    front_is : front ≡ journal_of before ++ Air (other_side side) channel octets (mark_of hearing.fate) Good ∷ between
    in_turn : turns_of between ≡ []
    on_channel : is_advertising channel ≡ true
    says : pdu_heard channel octets ≡ Some (Connect taking.from taking.to taking.ch_sel taking.fields)
    number_is : number ≡ length (links_begun (journal_of before)) + 1

  module _ (front : List Entry) (side : Side) (number : ℕ) (call : IsTakenIn front side number)
      (last : IsHeardLast given call.base call.station call.octets) where
    abbrev event : Event
    event = Transmitted last.sender last.channel call.octets last.hearings

    abbrev until : List Event
    until = last.after ++ call.later

    upto : call.base ++ call.later ≡ last.before ++ event ∷ until
    upto = ap (λ xs. xs ++ call.later) last.is_at ∙ append_assoc last.before (event ∷ last.after) call.later

    at_last : history_of (run_of given) ≡ last.before ++ event ∷ (until ++ call.after)
    at_last = call.called ∙ ap (λ xs. xs ++ call.after) upto ∙ append_assoc last.before (event ∷ until) call.after

    sender_in : is_in last.sender given.stations ≡ true
    sender_in = each_at (OfStations given) (history_of (run_of given)) last.before (until ++ call.after) event (run_of_stations given) at_last

    due : IsDue given last.before event
    due = each_at (IsDue given) (history_of (run_of given)) last.before (until ++ call.after) event (run_due given).each at_last

    listener_is : call.station ≡ other_of last.sender
    listener_is = other_is given pair last.sender call.station sender_in call.in_it last.differs

    abbrev hearing : Hearing
    hearing = hearing_of given due.plan.fates last.sender last.channel call.octets last.before

    hearings_are : last.hearings ≡ hearing ∷ []
    hearings_are = due.hearings_are ∙ one_hearing given pair due.plan.fates last.sender last.channel call.octets last.before sender_in

    good : hearing.verdict ≡ Good
    good =
        good_is hearing.verdict
        (sym (other_received call.station hearing (ap (λ n. call.station == n) (sym listener_is) ∙ same_number call.station))
        ∙ ap (has_received call.station) (sym hearings_are) ∙ last.received)

    sender_is : side_of last.sender ≡ other_side side
    sender_is =
        other_by last.sender call.station (of_two_stations given pair last.sender sender_in) (of_two_stations given pair call.station call.in_it)
        (λ same. eqb-false call.station last.sender last.differs (sym same))
        ∙ ap other_side call.side_is

    taking_then : IsTaking (facts_at given (other_of last.sender) last.before) call.octets
    taking_then =
        subst (λ n. IsTaking (facts_at given n last.before) call.octets) listener_is
        (subst (λ past. IsTaking (facts_of (setup_at given call.station) past) call.octets) last.same call.taking)

    on_it : taking_then.channel ≡ last.channel
    on_it =
        listens_on given (other_of last.sender) last.before call.octets taking_then last.channel
        (subst (λ n. use_at given n last.before ≡ Listens last.channel) listener_is last.listens)

    on_channel : is_advertising last.channel ≡ true
    on_channel = subst (λ n. is_advertising n ≡ true) on_it (on_advertising given (other_of last.sender) last.before call.octets taking_then six)

    says : pdu_heard last.channel call.octets ≡ Some (Connect taking_then.from taking_then.to taking_then.ch_sel taking_then.fields)
    says = ap (λ n. pdu_heard n call.octets) (sym on_it) ∙ taking_then.says

    abbrev lines : List Entry
    lines = journal_from (links_after (links_of last.before) event) until

    line_is : front ≡ journal_of last.before ++ Air (other_side side) last.channel call.octets (mark_of hearing.fate) Good ∷ lines
    line_is =
        call.front_is ∙ ap journal_of upto
        ∙ packet_line last.before until last.sender last.channel call.octets hearing last.hearings (other_side side) hearings_are sender_is good

    taken_by : IsTakenAt front side number
    taken_by = record {
      sender = last.sender;
      channel = last.channel;
      octets = call.octets;
      hearing = hearing;
      hearings = last.hearings;
      before = last.before;
      after = until ++ call.after;
      between = lines;
      at = at_last;
      taking = taking_then;
      side_is = ap side_of (sym listener_is) ∙ call.side_is;
      front_is = line_is;
      in_turn = no_turn front (journal_of last.before) lines (other_side side) last.channel call.octets (mark_of hearing.fate) line_is
          (call.turns_are ∙ turns_are call.base ∙ last.in_turn ∙ sym (turns_are last.before));
      on_channel = on_channel;
      says = says;
      number_is = call.number_is ∙ last.number (begins_one last.channel call.octets on_channel (ap is_connect_ind says))
          ∙ ap (λ n. n + 1) (begun_is given pair last.before (event ∷ (until ++ call.after)) at_last);
    }

  taken_at : (front rest : List Entry) (side : Side) (number handle : ℕ) → journal_of (history_of (run_of given)) ≡ front ++ Opened side number handle Peripheral ∷ rest
      → IsTakenAt front side number
  taken_at front rest side number handle is =
      let call = taken_in front rest side number handle is in
      taken_by front side number call
      (heard_last given six distinct call.station call.in_it call.base (call.later ++ call.after) call.octets (call.called ∙ append_assoc call.base call.later call.after)
      call.received
      (request_unforged (facts_at given call.station call.base) call.taking.channel call.octets call.taking.doing))

  abbrev heard_connect : (front : List Entry) (side : Side) (number : ℕ) → IsTakenAt front side number → HasHeardConnect side number front
  heard_connect front side number taken = record {
    before = journal_of taken.before;
    between = taken.between;
    channel = taken.channel;
    octets = taken.octets;
    fate = mark_of taken.hearing.fate;
    from = taken.taking.from;
    to = taken.taking.to;
    ch_sel = taken.taking.ch_sel;
    fields = taken.taking.fields;
    is_at = taken.front_is;
    in_turn = taken.in_turn;
    on_channel = taken.on_channel;
    says = taken.says;
    number_is = taken.number_is;
  }

  -- ---- each line

  pub taken_links_heard : AllTakenLinksAreHeard (journal_of (history_of (run_of given)))
  taken_links_heard = λ front rest side number handle is. heard_connect front side number (taken_at front rest side number handle is)

  module _ (understood : IsUnderstood) (whole : IsHeardWhole) (taken : AreTaken) (nth : AreNth) (apart : AreApart) (few : (station : ℕ) → (setup_at given station).links ≤ 4096)
      (eight : (station : ℕ) → (setup_at given station).host_buffers ≡ 8) where
    few_links : HaveFewLinks given
    few_links = record { links = few }

    pub opened_were_to_open : OpenedLinksWereToOpen (journal_of (history_of (run_of given)))
    opened_were_to_open = λ front rest side number handle is.
        let one = taken_at front rest side number handle is in
        let taking = one.taking in record {
          heard = heard_connect front side number one;
          to_open = subst (λ s. IsToOpen s (journal_of one.before) taking.from taking.to taking.fields) one.side_is
              (to_open_at understood given pair six whole taken nth apart few_links eight one.before one.after one.sender one.channel one.octets one.hearings one.at one.on_channel
              taking one.says);
        }
