-- While no line of a link is mixed, no packet is that an end of it hears, by what both ends hold as it comes.
use Rattle.std.proofs.Common.{◌≡◌, ℕ, ◌<◌, ◌==◌, ◌&&◌, not, Bool, true, false, Some, None, List, [], ◌∷◌, ◌++◌, refl, sym, ap, subst, ◌∙◌, append_assoc}
use Rattle.std.specs.Prelude.{if◌then◌else◌}
use Rattle.std.specs.List.{Contains}
use Rattle.std.proofs.lemmas.Bool.{eq-eqb, eqb-true}
use Rattle.std.proofs.lemmas.Slice.Eq.{bytes_eq-Decides}
use Rattle.ble_base.specs.Side.{other_side}
use Rattle.ble_base.specs.declared.verdicts.Verdict.TheVariants.{Good}
use Rattle.air_frame.specs.Hearing.{heard_in}
use Rattle.journal.specs.declared.entries.Entry.{Entry}
use Rattle.journal.specs.declared.entries.Entry.TheVariants.{Air}
use Rattle.journal_controls.specs.LineSteps.{keyed_on}
use Rattle.journal_controls.specs.controller_model.Facts.{Facts}
use Rattle.journal_controls.specs.controller_model.Step.{PacketHeard}
use Rattle.journal_controls.specs.journal_acks.Counted.{IsCounted}
use Rattle.journal_controls.specs.journal_acks.Exchange.{exchange_of, is_number}
use Rattle.journal_controls.specs.journal_acks.HeardBy.{IsHeardByEnd}
use Rattle.journal_controls.specs.journal_acks.Shut.{is_of_link}
use Rattle.journal_controls.specs.journal_ends.Asked.{Words}
use Rattle.journal_controls.specs.journal_ends.Left.{is_unchanged, left_of}
use Rattle.journal_controls.specs.journal_links.Begun.{link_numbered}
use Rattle.journal_controls.specs.journal_packets.Belonging.{link_of_packet}
use Rattle.journal_controls.specs.link_model.Facts.{keyed_of}
use Rattle.journal_controls.specs.link_model.Packets.{heard_of, verdict_of}
use Rattle.journal_controls.specs.open_links.OpenLinks.{OpenLink, facts_in, link_at}
use Rattle.journal_controls.specs.run_model.Due.{IsPacketDue}
use Rattle.journal_controls.specs.run_model.Entries.{IsAired}
use Rattle.journal_controls.specs.run_model.Feeding.{AreDistinct}
use Rattle.journal_controls.specs.run_model.History.{Called, Event, Hearing, Transmitted, handed_or, is_good, is_handed}
use Rattle.journal_controls.specs.run_model.Journal.{journal_from, journal_of, mark_of, side_of}
use Rattle.journal_controls.specs.run_model.LinkEnds.{HaveAddresses}
use Rattle.journal_controls.specs.run_model.Links.{is_advertising, links_after, links_of}
use Rattle.journal_controls.specs.run_model.Numbers.{AreNumbered, HasNumber}
use Rattle.journal_controls.specs.run_model.Run.{Given, facts_at, history_of, run_of, unseen_in, use_at}
use Rattle.link_runs.specs.link_pairs.Hearing.{is_mixed_packet}
use Rattle.link_calls.specs.run_laws.Ends.{OpenEnd, ReceivesGood, link_listened}
use Rattle.radio_replay.specs.Damage.{damaged_packet}
use Rattle.run_pairs.specs.InTurns.{HearsNoMixed}
use Rattle.journal_acks.proofs.run_laws.ChSel.{one_channel}
use Rattle.journal_acks.proofs.run_laws.DistinctAccess.{AreApart}
use Rattle.journal_acks.proofs.run_laws.EachCall.{IsPhase, call_at}
use Rattle.journal_acks.proofs.run_laws.InAgreement.{differs_back}
use Rattle.journal_acks.proofs.run_laws.OwnLinks.{listens_for}
use Rattle.journal_controls.proofs.controller_model.DataChannels.{link_channel}
use Rattle.journal_controls.proofs.journal_acks.HeardPackets.{line_heard}
use Rattle.journal_controls.proofs.journal_acks.Standing.{off_channels}
use Rattle.journal_controls.proofs.journal_acks.TwoStations.{IsOfTwo, IsReached, hearing_of, one_hearing, other_is, other_of, own_differs, reached, unchanged}
use Rattle.journal_controls.proofs.journal_links.OfTwo.{are_distinct}
use Rattle.journal_controls.proofs.journal_packets.AccessOrder.{AreNth}
use Rattle.journal_controls.proofs.link_model.Hearing.{IsHeardWhole}
use Rattle.journal_controls.proofs.run_model.LinkEnds.{AreTaken, IsUnderstood, wanted_is}
use Rattle.journal_controls.proofs.run_model.Numbers.{numbered_at}
use Rattle.journal_controls.proofs.run_model.Parts.{journal_more}
use Rattle.journal_controls.proofs.run_model.Stations.{contains_in}
use Rattle.journal_controls.proofs.journal_ends.ForgedLinks.{left_is}
use Rattle.run_pairs.proofs.FarPackets.{listens_is}
use Rattle.journal_sealing.specs.Mixed.{counts_in, counts_on, is_mixed, mixes, mixes_keys}
use Rattle.journal_sealing.proofs.HeardAir.{IsFromAir, from_air}
use Rattle.journal_sealing.proofs.HeardMixed.{unmixed_by}
use Rattle.journal_sealing.proofs.Mixed.{unmixed_at}

-- ---- the one hearing of a packet

record IsTaken (same handed : Bool) (left octets : List ℕ) : Type 0 where
  is_same : same ≡ true
  is_handed : handed ≡ true
  left_is : left ≡ octets

taken_by : (same handed : Bool) (left octets : List ℕ) → (if same && handed then Some left else None) ≡ Some octets → IsTaken same handed left octets
taken_by true true left octets is = record { is_same = refl; is_handed = refl; left_is = cc }
taken_by true false left octets is = absurd cc
taken_by false handed left octets is = absurd cc

third : (one other last : Bool) → one ≡ true → other ≡ true → (one && other && last) ≡ false → last ≡ false
third true true last is is_too none = none
third true false last is is_too none = absurd cc
third false other last is is_too none = absurd cc

both_true : (one other : Bool) → one ≡ true → other ≡ true → (one && other) ≡ true
both_true true other is is_too = is_too
both_true false other is is_too = absurd cc

module _ (words : Words) (given : Given) where
  -- the lines give the keys of an open end before each packet
  abbrev pub KeysAreGiven : Type 0
  KeysAreGiven =
      (before rest : List Event) (sender channel : ℕ) (octets : List ℕ) (hearings : List Hearing) (station handle : ℕ) (link : OpenLink)
      → Contains given.stations station → history_of (run_of given) ≡ before ++ Transmitted sender channel octets hearings ∷ rest
      → link_at handle (facts_at given station before).links ≡ Some link
      → keyed_on words (side_of station) ((links_of before).link_of station handle) (journal_of before) ≡ Some (keyed_of (facts_in link))

-- the number of the link of an end in a front of this history
abbrev pub HasThisNumber : List Event → ℕ → OpenEnd → Type 0
HasThisNumber history number end =
    (front more : List Event) (n : ℕ) → history ≡ front ++ more → HasNumber front n end.station end.link.setup → n ≡ number

module _ (words : Words) (whole : IsHeardWhole) (understood : IsUnderstood) (taken : AreTaken) (nth : AreNth) (apart : AreApart) (given : Given) (are_two : IsOfTwo given)
    (six : HaveAddresses given) (keys : KeysAreGiven words given) (history rest : List Event) (at : history_of (run_of given) ≡ history ++ rest) (number : ℕ)
    (unmixed : is_mixed words number (journal_of history) ≡ false) where
  distinct : AreDistinct given.stations
  distinct = are_distinct given are_two

  module _ (end far : OpenEnd) (in_end : Contains given.stations end.station) (in_far : Contains given.stations far.station)
      (differs : (end.station == far.station) ≡ false) (end_number : HasThisNumber history number end) (far_number : HasThisNumber history number far)
      (before after : List Event) (octets : List ℕ) (link there : OpenLink) (is : history ≡ before ++ Called end.station (PacketHeard octets) ∷ after)
      (takes : ReceivesGood (facts_at given end.station before) octets link) (own : link.setup ≡ end.link.setup)
      (at_far : link_at far.handle (facts_at given far.station before).links ≡ Some there) (far_own : there.setup ≡ far.link.setup) where
    abbrev call : Event
    call = Called end.station (PacketHeard octets)

    place : history_of (run_of given) ≡ before ++ call ∷ (after ++ rest)
    place = at ∙ ap (λ events. events ++ rest) is ∙ append_assoc before (call ∷ after) rest

    -- ---- the packet on the air

    air : IsFromAir given before end.station octets
    air = from_air given six distinct before (after ++ rest) end.station octets place

    abbrev front : List Event
    front = air.before

    abbrev hearing : Hearing
    hearing = hearing_of given air.is_due.plan.fates air.sender air.channel air.sent front

    abbrev listener : ℕ
    listener = other_of air.sender

    abbrev packet : Event
    packet = Transmitted air.sender air.channel air.sent (hearing ∷ [])

    abbrev later : List Event
    later = air.after ++ call ∷ after

    hearings : air.hearings ≡ hearing ∷ []
    hearings = air.is_due.hearings_are ∙ one_hearing given are_two air.is_due.plan.fates air.sender air.channel air.sent front air.is_one

    inside : history ≡ front ++ packet ∷ later
    inside =
        is ∙ ap (λ events. events ++ call ∷ after) air.is_at
        ∙ append_assoc front (Transmitted air.sender air.channel air.sent air.hearings ∷ air.after) (call ∷ after)
        ∙ ap (λ hs. front ++ Transmitted air.sender air.channel air.sent hs ∷ later) hearings

    air_place : history_of (run_of given) ≡ front ++ packet ∷ (later ++ rest)
    air_place = at ∙ ap (λ events. events ++ rest) inside ∙ append_assoc front (packet ∷ later) rest

    one : IsTaken (end.station == listener) (is_handed hearing.verdict) (damaged_packet hearing.fate air.sent) octets
    one = taken_by (end.station == listener) (is_handed hearing.verdict) (damaged_packet hearing.fate air.sent) octets
        (ap (handed_or None end.station air.sent) (sym hearings) ∙ air.handed)

    listener_is : end.station ≡ listener
    listener_is = eqb-true end.station listener one.is_same

    abbrev facts : Facts
    facts = facts_at given end.station before

    facts_then : facts_at given listener front ≡ facts
    facts_then = ap (λ n. facts_at given n front) (sym listener_is) ∙ sym air.own

    -- ---- its channel

    reached_it : IsReached (use_at given listener front) air.channel (facts_at given listener front) (damaged_packet hearing.fate air.sent) hearing.verdict
    reached_it = reached (use_at given listener front) hearing.fate air.channel (facts_at given listener front) (damaged_packet hearing.fate air.sent) one.is_handed

    phase : IsPhase given before end.station (Some octets)
    phase = call_at given before (after ++ rest) end.station (PacketHeard octets) six distinct place

    channel_is : air.channel ≡ (facts_in link).event.channel
    channel_is =
        one_channel air.channel (facts_in link).event.channel
        (sym reached_it.listens ∙ sym (wanted_is given listener front) ∙ ap (λ (f : Facts). f.wanted) facts_then
        ∙ listens_for facts takes.handle facts.turn.doing link phase.in_turn.listens takes.listens takes.is_open)

    off : is_advertising air.channel ≡ false
    off = off_channels air.channel (subst (λ n. n < 37) (sym channel_is) (link_channel link))

    -- ---- its line, by the end that hears it

    abbrev aired : IsAired given (journal_of front) (side_of air.sender) air.channel air.sent (mark_of hearing.fate) hearing.verdict
    aired = record {
      before = front;
      front_is = refl;
      station = air.sender;
      side_is = refl;
      hearing = hearing;
      others = [];
      after = later ++ rest;
      is_at = air_place;
      is_due = subst (IsPacketDue given front air.sender air.channel air.sent) hearings air.is_due;
      fate_is = refl;
      verdict_is = refl;
      unchanged = λ good. unchanged air.sent hearing (ap (unseen_in air.sent) (sym hearings) ∙ air.is_due.is_seen) (ap is_good good);
    }

    by_end : IsHeardByEnd given front air.sender air.channel air.sent hearing
    by_end = line_heard whole understood taken nth apart given are_two six distinct (journal_of front) (side_of air.sender) air.channel air.sent (mark_of hearing.fate)
        hearing.verdict aired off one.is_handed

    handle_is : by_end.handle ≡ takes.handle
    handle_is =
        let listens : link_listened facts.turn.doing ≡ Some by_end.handle =
        ap (λ (f : Facts). link_listened f.turn.doing) (sym facts_then) ∙ listens_is by_end.handle (facts_at given listener front).turn.doing by_end.on in
        let h : Some by_end.handle ≡ Some takes.handle = sym listens ∙ takes.listens in cc

    link_is : by_end.link ≡ link
    link_is =
        let h : Some by_end.link ≡ Some link =
        sym by_end.is_open ∙ ap (λ (f : Facts). link_at by_end.handle f.links) facts_then ∙ ap (λ n. link_at n facts.links) handle_is ∙ takes.is_open in cc

    good : hearing.verdict ≡ Good
    good =
        by_end.verdict_is ∙ ap (λ (l : OpenLink). verdict_of l.setup (facts_in l) (damaged_packet hearing.fate air.sent)) link_is
        ∙ ap (verdict_of link.setup (facts_in link)) one.left_is ∙ takes.is_good

    same : damaged_packet hearing.fate air.sent ≡ air.sent
    same = aired.unchanged good

    sent_is : air.sent ≡ octets
    sent_is = sym same ∙ one.left_is

    -- ---- both ends have the number of the link

    numbers : AreNumbered given front
    numbers = numbered_at understood taken given front (later ++ rest) packet distinct six air_place refl

    own_number : by_end.number ≡ number
    own_number =
        let has = numbers listener by_end.handle by_end.link by_end.is_open in
        by_end.number_is
        ∙ end_number front (packet ∷ later) ((links_of front).link_of listener by_end.handle) inside
        (subst (λ n. HasNumber front ((links_of front).link_of listener by_end.handle) n end.link.setup) (sym listener_is)
        (subst (HasNumber front ((links_of front).link_of listener by_end.handle) listener) (ap (λ (l : OpenLink). l.setup) link_is ∙ own) has))

    sender_is : air.sender ≡ far.station
    sender_is =
        let in_it = contains_in given.stations end.station in_end in
        let in_too = contains_in given.stations far.station in_far in
        other_is given are_two end.station air.sender in_it air.is_one (ap (λ n. air.sender == n) listener_is ∙ own_differs air.sender)
        ∙ sym (other_is given are_two end.station far.station in_it in_too (differs_back end.station far.station differs))

    there_open : link_at far.handle (facts_at given far.station front).links ≡ Some there
    there_open =
        ap (λ n. link_at far.handle (facts_at given n front).links) (sym sender_is) ∙ ap (link_at far.handle) (sym (air.far off))
        ∙ ap (λ n. link_at far.handle (facts_at given n before).links) sender_is ∙ at_far

    there_number : (links_of front).link_of far.station far.handle ≡ number
    there_number =
        let n = (links_of front).link_of far.station far.handle in
        far_number front (packet ∷ later) n inside (subst (HasNumber front n far.station) far_own (numbers far.station far.handle there there_open))

    -- ---- and the keys and the counts of the lines

    own_keys : keyed_on words (other_side (side_of air.sender)) number (journal_of front) ≡ Some (keyed_of (facts_in link))
    own_keys =
        (λ i. keyed_on words (sym by_end.side_is i) (sym own_number i) (journal_of front))
        ∙ ap (λ n. keyed_on words (side_of listener) n (journal_of front)) by_end.number_is
        ∙ keys front (later ++ rest) air.sender air.channel air.sent (hearing ∷ []) listener by_end.handle by_end.link by_end.listens air_place by_end.is_open
        ∙ ap (λ (l : OpenLink). Some (keyed_of (facts_in l))) link_is

    far_keys : keyed_on words (side_of air.sender) number (journal_of front) ≡ Some (keyed_of (facts_in there))
    far_keys =
        (λ i. keyed_on words (side_of (sender_is i)) (sym there_number i) (journal_of front))
        ∙ keys front (later ++ rest) air.sender air.channel air.sent (hearing ∷ []) far.station far.handle there in_far air_place there_open

    counts_is : counts_on (link_numbered number (journal_of front)) (exchange_of number (journal_of front) (other_side (side_of air.sender))) air.channel air.sent
        ≡ counts_on (Some by_end.begun) (exchange_of by_end.number (journal_of front) (side_of listener)) air.channel air.sent
    counts_is =
        (λ i. counts_on (link_numbered (sym own_number i) (journal_of front)) (exchange_of (sym own_number i) (journal_of front) (sym by_end.side_is i)) air.channel air.sent)
        ∙ ap (λ begun. counts_on begun (exchange_of by_end.number (journal_of front) (side_of listener)) air.channel air.sent) by_end.is_link

    -- ---- it is not mixed

    abbrev line : Entry
    line = Air (side_of air.sender) air.channel air.sent (mark_of hearing.fate) hearing.verdict

    journal_is : journal_of history ≡ journal_of front ++ line ∷ journal_from (links_after (links_of front) packet) later
    journal_is = ap journal_of inside ∙ journal_more front (packet ∷ later)

    of_link : is_of_link number (journal_of front) (side_of air.sender) air.channel air.sent ≡ true
    of_link =
        both_true (not (is_advertising air.channel)) (is_number (link_of_packet (journal_of front) (side_of air.sender) air.sent) number) (ap not off)
        (ap (λ found. is_number found number) (by_end.belongs same) ∙ eq-eqb by_end.number number own_number)

    passes : (is_good hearing.verdict && is_unchanged (mark_of hearing.fate) air.sent) ≡ true
    passes =
        both_true (is_good hearing.verdict) (is_unchanged (mark_of hearing.fate) air.sent) (ap is_good good)
        ((bytes_eq-Decides (left_of (mark_of hearing.fate) air.sent) air.sent).1 (left_is hearing.fate air.sent ∙ same))

    line_unmixed : mixes_keys words number (journal_of front) (side_of air.sender) air.channel air.sent ≡ false
    line_unmixed =
        third (is_of_link number (journal_of front) (side_of air.sender) air.channel air.sent) (is_good hearing.verdict && is_unchanged (mark_of hearing.fate) air.sent)
        (mixes_keys words number (journal_of front) (side_of air.sender) air.channel air.sent) of_link passes
        (unmixed_at words number (journal_of front) (journal_from (links_after (links_of front) packet) later) line
        (ap (is_mixed words number) (sym journal_is) ∙ unmixed))

    -- what the end hears, by its lines and by what it holds
    heard_is : counts_on (Some by_end.begun) (exchange_of by_end.number (journal_of front) (side_of listener)) air.channel air.sent
        ≡ counts_in (exchange_of by_end.number (journal_of front) (side_of listener)) (heard_of link.setup (facts_in link) octets)
    heard_is =
        let end_then = exchange_of by_end.number (journal_of front) (side_of listener) in
        let fields = by_end.fields ∙ ap (λ (l : OpenLink). l.setup.link.fields) link_is in
        (λ i. counts_in end_then (heard_in (channel_is i) (fields i).access (fields i).crc_init (sent_is i)))

    pub unmixed_here : is_mixed_packet link.setup (facts_in link) (facts_in there) octets ≡ false
    unmixed_here =
        let end_then = exchange_of by_end.number (journal_of front) (side_of listener) in
        unmixed_by link.setup (facts_in link) (facts_in there) end_then octets
        (subst (λ (l : OpenLink). IsCounted end_then (facts_in l).acknowledgement) link_is by_end.counted)
        ((λ i. mixes (sym (counts_is ∙ heard_is) i) (sym far_keys i) (sym own_keys i)) ∙ line_unmixed)

  pub hears_no_mixed : (end far : OpenEnd) → Contains given.stations end.station → Contains given.stations far.station → (end.station == far.station) ≡ false
      → HasThisNumber history number end → HasThisNumber history number far → HearsNoMixed given history end far
  hears_no_mixed end far in_end in_far differs end_number far_number = λ before after octets link there is takes own at_far far_own.
      unmixed_here end far in_end in_far differs end_number far_number before after octets link there is takes own at_far far_own
