-- A random word was drawn for each accepted LE Rand, two for each accepted LE Enable Encryption and for each LL_ENC_REQ
-- that was answered, and one for each link that the controller began to make.
use Rattle.std.proofs.Common.{◌≡◌, ℕ, ◌+◌, ◌==◌, Bool, true, false, Option, Some, None, subst, List, [], ◌∷◌, ◌++◌, cond, refl, ap, sym, ◌∙◌, append-nil, append_assoc, arith}
use Rattle.std.specs.Prelude.{fold, sum_by}
use Rattle.std.proofs.lemmas.List.Sums.{sum_by-append}
use Rattle.ble_base.specs.declared.notes.Note.TheVariants.{Up}
use Rattle.adv_pdu.specs.declared.pdu.AdvPdu.{AdvPdu}
use Rattle.adv_pdu.specs.declared.pdu.ConnectFields.{ConnectFields}
use Rattle.adv_pdu.specs.Pdu.{sender_of}
use Rattle.advertise.specs.declared.answers.AdvAnswer.{AdvAnswer}
use Rattle.advertise.specs.declared.answers.AdvAnswer.TheVariants.{Ignore, Respond, Connect as Takes}
use Rattle.advertise.specs.Advertising.{AdvertiserFacts}
use Rattle.advertise.specs.Answers.{advertiser_answer}
use Rattle.h4_frames.specs.declared.packet.HostPacket.TheVariants.{Command as HostCommand, Acl}
use Rattle.h4_frames.specs.declared.packet.Fed.{Fed}
use Rattle.h4_frames.specs.declared.packet.Fed.TheVariants.{More, Packet, LostSync}
use Rattle.wire_fields.specs.Field.{little_endian}
use Rattle.hci_cmd.specs.declared.command.Command.{Command}
use Rattle.hci_cmd.specs.declared.command.Command.TheVariants.{LeEnableEncryption, LeRand}
use Rattle.hci_cmd.specs.declared.command.CmdRead.{CmdRead}
use Rattle.hci_cmd.specs.declared.command.CmdRead.TheVariants.{Known, UnknownOpcode, BadLength}
use Rattle.hci_cmd.specs.Command.{command_of, layout_of, layouts}
use Rattle.hci_evt.specs.Event.{written}
use Rattle.host_view.specs.Status.{status_of}
use Rattle.controller_model.specs.Step.{Step, HostOctet, TurnBegins, PacketHeard, NothingHeard, TurnEnds}
use Rattle.controller_model.specs.Facts.{Setup, Facts, first_facts}
use Rattle.controller_model.specs.Answers.{complete_answer, next_word}
use Rattle.controller_model.specs.Commands.{drawn_after, facts_commanded, facts_known}
use Rattle.host_view.specs.scan_init.Initiating.{InitiatorFacts}
use Rattle.host_view.specs.scan_init.Reports.{ScannerFacts}
use Rattle.link_commands.specs.open_links.link_model.declared.setup.LinkSetup.{LinkSetup}
use Rattle.link_commands.specs.open_links.OpenLinks.{free_from, link_at}
use Rattle.link_commands.specs.open_links.declared.offers.Offer.{Offer}
use Rattle.link_commands.specs.open_links.declared.offers.Offer.TheVariants.{NoLink, Empty, Overflow, Kept}
use Rattle.controller_model.specs.Data.{facts_ended_turn, facts_handed, facts_offered, offer_of}
use Rattle.controller_model.specs.Heard.{advertiser_answers, advertiser_heard, connects, draws_in, drawn_if, facts_with_words, has_room, heard, if_pdu, initiator_heard, is_new_between, link_heard, link_taken, link_to, opens, scanner_heard, taken_if, taken_under, unheard}
use Rattle.controller_model.specs.Outcome.{Outcome, facts_passed}
use Rattle.controller_model.specs.Packets.{pdu_heard}
use Rattle.controller_model.specs.declared.doing.Doing.{Doing}
use Rattle.controller_model.specs.declared.doing.Doing.TheVariants.{Advertises, AwaitsRequest, AwaitsResponse, CentralListens, CentralSends, Connects, Initiates, PeripheralListens, Requests, Scans}
use Rattle.controller_model.specs.Side.{facts_after, facts_fed, facts_of, notes_after, notes_fed, result_of}
use Rattle.controller_model.proofs.Always.{IsKeptAtStarts, leaving_is, opening_passes, start_keeps}
use Rattle.controller_model.specs.Host.{commands_accepted_after, commands_accepted_by, commands_accepted_from, commands_accepted_in, commands_accepted, words_answered, words_drawn, words_heard, words_heard_from, words_hearing, words_if, words_of, words_received}
use Rattle.controller_model.proofs.Asked.{of_asking}

abbrev rands : List Command → ℕ
rands commands = sum_by words_of commands

rands-append : (xs ys : List Command) → rands (xs ++ ys) ≡ rands xs + rands ys
rands-append xs ys = sum_by-append words_of xs ys

no_more : (n : ℕ) → n ≡ n + 0
no_more n = omega arith

-- ---- one step

drawn_accepted : (command : Command) (drawn : ℕ) → drawn_after command drawn ≡ drawn + rands (command ∷ [])
drawn_accepted LeRand drawn = refl
drawn_accepted (LeEnableEncryption handle rand ediv key) drawn = refl
drawn_accepted other drawn = no_more drawn

-- the same number of words and of links more
abbrev GrowBy : Facts → ℕ → Facts → Type 0
GrowBy facts count next = next.drawn + facts.connections ≡ facts.drawn + count + next.connections

grow_by : (connections drawn next count : ℕ) → next ≡ drawn + count → next + connections ≡ drawn + count + connections
grow_by connections drawn next count is = omega arith

drawn_known : (accepted : Bool) (setup : Setup) (facts : Facts) (command : Command)
    → GrowBy facts (rands (cond accepted (command ∷ []) [])) (facts_known accepted setup facts command)
drawn_known true setup facts command =
    grow_by facts.connections facts.drawn (drawn_after command facts.drawn) (rands (command ∷ [])) (drawn_accepted command facts.drawn)
drawn_known false setup facts command = grow_by facts.connections facts.drawn facts.drawn 0 (no_more facts.drawn)

drawn_read : (setup : Setup) (facts : Facts) (read : CmdRead)
    → GrowBy facts (rands (commands_accepted_by facts read)) (facts_commanded setup facts read)
drawn_read setup facts (Known command) =
    of_asking setup facts command (GrowBy facts (rands (commands_accepted_by facts (Known command)))) (drawn_known (status_of facts.view command == 0) setup facts command)
    (λ asks grow. grow)
drawn_read setup facts UnknownOpcode = grow_by facts.connections facts.drawn facts.drawn 0 (no_more facts.drawn)
drawn_read setup facts BadLength = grow_by facts.connections facts.drawn facts.drawn 0 (no_more facts.drawn)

drawn_offered : (offer : Offer) (handle : ℕ) (start : Bool) (octets : List ℕ) (facts : Facts)
    → GrowBy facts 0 (facts_offered offer handle start octets facts)
drawn_offered Kept handle start octets facts = grow_by facts.connections facts.drawn facts.drawn 0 (no_more facts.drawn)
drawn_offered NoLink handle start octets facts = grow_by facts.connections facts.drawn facts.drawn 0 (no_more facts.drawn)
drawn_offered Empty handle start octets facts = grow_by facts.connections facts.drawn facts.drawn 0 (no_more facts.drawn)
drawn_offered Overflow handle start octets facts = grow_by facts.connections facts.drawn facts.drawn 0 (no_more facts.drawn)

drawn_fed : (setup : Setup) (facts : Facts) (fed : Fed) → GrowBy facts (rands (commands_accepted_in facts fed)) (facts_fed setup facts fed)
drawn_fed setup facts (Packet (HostCommand opcode body)) = drawn_read setup facts (command_of opcode body.items)
drawn_fed setup facts (Packet (Acl handle start count body)) = drawn_offered (offer_of setup facts handle count) handle start body.items facts
drawn_fed setup facts LostSync = grow_by facts.connections facts.drawn facts.drawn 0 (no_more facts.drawn)
drawn_fed setup facts More = grow_by facts.connections facts.drawn facts.drawn 0 (no_more facts.drawn)

plus_none : (facts : Facts) (count : ℕ) (next : Facts) → GrowBy facts count next → GrowBy facts (count + 0) next
plus_none facts count next grow = omega (arith, grow)

none_plus : (facts : Facts) (count : ℕ) (next : Facts) → GrowBy facts count next → GrowBy facts (0 + count) next
none_plus facts count next grow = omega (arith, grow)

-- ---- a phase

none_more : (facts next : Facts) → next.drawn ≡ facts.drawn → next.connections ≡ facts.connections → GrowBy facts 0 next
none_more facts next same also = omega arith

opened_grows : (facts : Facts) (link : LinkSetup) → GrowBy facts 0 (facts_passed (opens link facts))
opened_grows facts link = opening_passes (GrowBy facts 0) link facts (none_more facts facts refl refl)

by_pdu : (found : Option AdvPdu) (facts : Facts) (outcome : AdvPdu → Outcome) → ((pdu : AdvPdu) → GrowBy facts 0 (facts_passed (outcome pdu)))
    → GrowBy facts 0 (facts_passed (if_pdu found facts outcome))
by_pdu None facts outcome grow = none_more facts facts refl refl
by_pdu (Some pdu) facts outcome grow = grow pdu

advertiser_grows : (on : Option AdvertiserFacts) (channel : ℕ) (pdu : AdvPdu) (facts : Facts)
    → GrowBy facts 0 (facts_passed (advertiser_heard on channel pdu facts))
advertiser_grows None channel pdu facts = none_more facts facts refl refl
advertiser_grows (Some on) channel pdu facts = answered (advertiser_answer on.params facts.view.accepted pdu)
  where
    under : (free : Option ℕ) (fields : ConnectFields) → GrowBy facts 0 (facts_passed (taken_under free on.params.own pdu fields facts))
    under None fields = none_more facts facts refl refl
    under (Some handle) fields = opened_grows facts (link_taken facts.view on.params.own pdu fields handle)

    new : (test : Bool) (fields : ConnectFields) → GrowBy facts 0 (facts_passed (taken_if test on.params.own pdu fields facts))
    new true fields = under (free_from 0 facts.links) fields
    new false fields = none_more facts facts refl refl

    answered : (answer : AdvAnswer) → GrowBy facts 0 (facts_passed (advertiser_answers answer channel on.params.own pdu facts))
    answered Ignore = none_more facts facts refl refl
    answered Respond = none_more facts facts refl refl
    answered (Takes fields) = new (is_new_between on.params.own (sender_of pdu) facts.links) fields

scanner_grows : (on : Option ScannerFacts) (may_ask : Bool) (channel : ℕ) (pdu : AdvPdu) (facts : Facts)
    → GrowBy facts 0 (facts_passed (scanner_heard on may_ask channel pdu facts))
scanner_grows None may_ask channel pdu facts = none_more facts facts refl refl
scanner_grows (Some on) may_ask channel pdu facts = none_more facts facts refl refl

initiator_grows : (on : Option InitiatorFacts) (setup : Setup) (channel : ℕ) (pdu : AdvPdu) (facts : Facts)
    → GrowBy facts 0 (facts_passed (initiator_heard on setup channel pdu facts))
initiator_grows None setup channel pdu facts = none_more facts facts refl refl
initiator_grows (Some on) setup channel pdu facts = made (link_to setup on pdu facts)
  where
    made : (link : Option LinkSetup) → GrowBy facts 0 (facts_passed (connects link setup channel facts))
    made None = none_more facts facts refl refl
    made (Some link) = omega arith

-- an end that hears may draw two
words_more : (draws : Bool) (drawn connections : ℕ) → drawn_if draws drawn + connections ≡ drawn + words_if draws + connections
words_more true drawn connections = refl
words_more false drawn connections = omega arith

received_grows : (setup : Setup) (handle : ℕ) (octets : List ℕ) (facts : Facts)
    → GrowBy facts (words_received setup handle octets facts) (facts_passed (link_heard setup handle octets facts))
received_grows setup handle octets facts =
    words_more (draws_in facts.turn.slot (has_room setup facts) (link_at handle facts.links) octets) facts.drawn facts.connections

drawn_unheard : (doing : Doing) (facts : Facts) → GrowBy facts 0 (facts_passed (unheard doing facts))
drawn_unheard (Advertises channel) facts = none_more facts facts refl refl
drawn_unheard (Requests channel advertiser) facts = none_more facts facts refl refl
drawn_unheard (Connects channel link) facts = opened_grows facts link
drawn_unheard (CentralSends handle) facts = none_more facts facts refl refl
drawn_unheard other facts = none_more facts facts refl refl

drawn_heard : (setup : Setup) (doing : Doing) (octets : List ℕ) (facts : Facts)
    → GrowBy facts (words_hearing setup doing octets facts) (facts_passed (heard setup doing octets facts))
drawn_heard setup (AwaitsRequest channel) octets facts =
    by_pdu (pdu_heard channel octets) facts _ (λ pdu. advertiser_grows facts.advertising.on channel pdu facts)
drawn_heard setup (Scans channel) octets facts =
    by_pdu (pdu_heard channel octets) facts _ (λ pdu. scanner_grows facts.scanning.on true channel pdu facts)
drawn_heard setup (AwaitsResponse channel) octets facts =
    by_pdu (pdu_heard channel octets) facts _ (λ pdu. scanner_grows facts.scanning.on false channel pdu facts)
drawn_heard setup (Initiates channel) octets facts =
    by_pdu (pdu_heard channel octets) facts _ (λ pdu. initiator_grows facts.initiator setup channel pdu facts)
drawn_heard setup (CentralListens handle) octets facts = received_grows setup handle octets facts
drawn_heard setup (PeripheralListens handle) octets facts = received_grows setup handle octets (facts_with_words setup handle facts)
drawn_heard setup doing octets facts = drawn_unheard doing facts

-- ---- a turn begins, and ends

drawn_starts : (facts : Facts) → IsKeptAtStarts (GrowBy facts 0) (GrowBy facts 0)
drawn_starts facts = record {
  weakens = λ next grow. grow;
  ends = λ reason next grow. grow;
  begins = λ slot next grow. grow;
  enters = λ slot next grow. grow;
  wins = λ slot activity next grow. grow;
  fixes = λ doing next grow. grow;
  does = λ doing next may grow. grow;
}

drawn_ended : (facts : Facts) → GrowBy facts 0 (facts_ended_turn facts)
drawn_ended facts = subst (GrowBy facts 0) (sym (leaving_is (facts_handed facts))) (none_more facts facts refl refl)

-- ---- each step

drawn_step : (setup : Setup) (facts : Facts) (step : Step)
    → GrowBy facts (rands (commands_accepted_after facts step) + words_heard setup facts step) (facts_after setup facts step)
drawn_step setup facts (HostOctet octet) =
    plus_none facts _ (facts_after setup facts (HostOctet octet)) (drawn_fed setup facts (result_of facts.octets octet))
drawn_step setup facts (TurnBegins slot on) =
    start_keeps (GrowBy facts 0) (GrowBy facts 0) (drawn_starts facts) slot on facts (none_more facts facts refl refl)
drawn_step setup facts (PacketHeard octets) =
    none_plus facts _ (facts_after setup facts (PacketHeard octets)) (drawn_heard setup facts.turn.doing octets facts)
drawn_step setup facts NothingHeard = drawn_unheard facts.turn.doing facts
drawn_step setup facts TurnEnds = drawn_ended facts

-- ---- all steps

plus_assoc : (d0 c0 d1 c1 d2 c2 a b n : ℕ) → d1 + c0 ≡ d0 + a + c1 → d2 + c1 ≡ d1 + b + c2 → n ≡ a + b → d2 + c0 ≡ d0 + n + c2
plus_assoc d0 c0 d1 c1 d2 c2 a b n is later also = omega arith

-- the words of a step and of those after it
two_sums : (a b c d n : ℕ) → n ≡ a + c → n + (b + d) ≡ a + b + (c + d)
two_sums a b c d n is = omega (arith, is)

drawn_from : (setup : Setup) (facts : Facts) (past : List Step)
    → GrowBy facts (rands (commands_accepted_from setup facts past) + words_heard_from setup facts past) (fold (facts_after setup) facts past)
drawn_from setup facts [] = none_more facts facts refl refl
drawn_from setup facts (step ∷ past) =
    let next = facts_after setup facts step in
    let last = fold (facts_after setup) next past in
    let now = commands_accepted_after facts step in
    let later = commands_accepted_from setup next past in
    plus_assoc facts.drawn facts.connections next.drawn next.connections last.drawn last.connections
    (rands now + words_heard setup facts step) (rands later + words_heard_from setup next past)
    (rands (now ++ later) + (words_heard setup facts step + words_heard_from setup next past)) (drawn_step setup facts step)
    (drawn_from setup next past)
    (two_sums (rands now) (words_heard setup facts step) (rands later) (words_heard_from setup next past) (rands (now ++ later)) (rands-append now later))

first_none : (drawn connections count : ℕ) → drawn + 0 ≡ 0 + count + connections → drawn ≡ count + connections
first_none drawn connections count is = omega arith

pub drawn : (setup : Setup) (past : List Step)
    → (facts_of setup past).drawn ≡ words_drawn setup past + words_answered setup past + (facts_of setup past).connections
unfolding facts_of commands_accepted words_answered
drawn setup past =
    let last = fold (facts_after setup) (first_facts setup) past in
    let first = first_facts setup in
    first_none last.drawn last.connections (rands (commands_accepted_from setup first past) + words_heard_from setup first past)
    (drawn_from setup first past)

-- ---- LE Rand

abbrev rand_fed : Fed
rand_fed = Packet (HostCommand 0x2018 (record { items = [] }))

rand_noted : (setup : Setup) (facts : Facts)
    → notes_fed setup facts rand_fed
    ≡ Up (record { items = written (complete_answer 0x00 0x2018 (little_endian 8 (next_word setup facts.drawn))) }) ∷ []
unfolding command_of layout_of layouts status_of
rand_noted setup facts = refl

rand_accepted : (facts : Facts) → commands_accepted_in facts rand_fed ≡ LeRand ∷ []
unfolding command_of layout_of layouts status_of
rand_accepted facts = refl

pub rand_returns : (setup : Setup) (past : List Step) (octet : ℕ) → result_of (facts_of setup past).octets octet ≡ rand_fed
    → notes_after setup (facts_of setup past) (HostOctet octet)
    ≡ Up (record {
      items = written (complete_answer 0x00 0x2018
          (little_endian 8 (next_word setup (facts_of setup past).drawn)));
    }) ∷ []
rand_returns setup past octet is =
    let facts = facts_of setup past in
    ap (notes_fed setup facts) is ∙ rand_noted setup facts

accepted_from-more : (setup : Setup) (facts : Facts) (past : List Step) (step : Step)
    → commands_accepted_from setup facts (past ++ step ∷ []) ≡ commands_accepted_from setup facts past ++ commands_accepted_after (fold (facts_after setup) facts past) step
accepted_from-more setup facts [] step = append-nil (commands_accepted_after facts step)
accepted_from-more setup facts (first ∷ past) step =
    let next = facts_after setup facts first in
    ap (λ (commands : List Command). commands_accepted_after facts first ++ commands) (accepted_from-more setup next past step)
    ∙ sym (append_assoc (commands_accepted_after facts first) (commands_accepted_from setup next past) (commands_accepted_after (fold (facts_after setup) next past) step))

accepted_of-more : (setup : Setup) (past : List Step) (step : Step)
    → commands_accepted setup (past ++ step ∷ []) ≡ commands_accepted setup past ++ commands_accepted_after (facts_of setup past) step
unfolding facts_of commands_accepted
accepted_of-more setup past step = accepted_from-more setup (first_facts setup) past step

pub rand_counts : (setup : Setup) (past : List Step) (octet : ℕ) → result_of (facts_of setup past).octets octet ≡ rand_fed
    → commands_accepted setup (past ++ HostOctet octet ∷ []) ≡ commands_accepted setup past ++ LeRand ∷ []
rand_counts setup past octet is =
    let facts = facts_of setup past in
    accepted_of-more setup past (HostOctet octet)
    ∙ ap (λ (fed : Fed). commands_accepted setup past ++ commands_accepted_in facts fed) is
    ∙ ap (λ (commands : List Command). commands_accepted setup past ++ commands) (rand_accepted facts)
