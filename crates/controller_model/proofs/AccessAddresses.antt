-- While a controller initiates there is an access address for its next link.
use Rattle.std.proofs.Common.{◌≡◌, ℕ, zero, suc, ◌+◌, ◌-◌, ◌%◌, ◌^◌, ◌<◌, ◌==◌, Bool, true, false, Option, Some, None, List, [], ◌∷◌, refl, ap, sym, subst, ◌∙◌, arith}
use Rattle.std.specs.Prelude.{fold, is_some, ◌&&◌, option_and_then, ⊤}
use Rattle.h4_frames.specs.declared.packet.HostPacket.TheVariants.{Command as HostCommand, Acl}
use Rattle.h4_frames.specs.declared.packet.Fed.{Fed}
use Rattle.h4_frames.specs.declared.packet.Fed.TheVariants.{More, Packet, LostSync}
use Rattle.hci_cmd.specs.declared.command.Command.{Command}
use Rattle.hci_cmd.specs.declared.command.Command.TheVariants.{HostCompleted, Reset, LeCreateConnection, LeCreateCancel}
use Rattle.hci_cmd.specs.declared.command.CmdRead.{CmdRead}
use Rattle.hci_cmd.specs.declared.command.CmdRead.TheVariants.{Known, UnknownOpcode, BadLength}
use Rattle.hci_cmd.specs.Command.{command_of}
use Rattle.host_view.specs.View.{View}
use Rattle.host_view.specs.Changes.{view_after}
use Rattle.host_view.specs.Status.{status_of}
use Rattle.host_view.proofs.TakenCommands.{connection_has_address}
use Rattle.host_view.specs.scan_init.Access.{access_at, bit_count, is_valid_access, next_access_of, nth_access, valid_count}
use Rattle.host_view.specs.scan_init.Initiating.{InitiatorFacts}
use Rattle.host_view.specs.scan_init.Reports.{does_ask, scan_answer}
use Rattle.link_commands.specs.open_links.OpenLinks.{link_at}
use Rattle.std.proofs.lemmas.Bool.{eqb-true}
use Rattle.host_view.proofs.scan_init.Numbers.{none_passed}
use Rattle.link_commands.specs.open_links.link_model.declared.setup.LinkSetup.{LinkSetup}
use Rattle.ble_base.specs.declared.roles.Role.{Role}
use Rattle.ble_base.specs.declared.roles.Role.TheVariants.{Central}
use Rattle.controller_model.specs.declared.doing.Doing.{Doing}
use Rattle.controller_model.specs.declared.doing.Doing.TheVariants.{Advertises, AwaitsRequest, AwaitsResponse, Responds, Initiates, Connects, CentralListens, Rests}
use Rattle.controller_model.specs.Step.{Step, HostOctet, TurnBegins, PacketHeard, NothingHeard, TurnEnds}
use Rattle.controller_model.specs.Facts.{Setup, Facts, first_facts}
use Rattle.controller_model.specs.Commands.{facts_accepted, facts_commanded, facts_known, initiator_after}
use Rattle.link_commands.specs.open_links.declared.offers.Offer.{Offer}
use Rattle.link_commands.specs.open_links.declared.offers.Offer.TheVariants.{NoLink, Empty, Overflow, Kept}
use Rattle.controller_model.specs.Data.{facts_ended_turn, facts_handed, facts_offered, offer_of}
use Rattle.controller_model.specs.Connecting.{SendsEach, SendsEachFrom, cuts_off}
use Rattle.controller_model.specs.Heard.{asks_if, has_room, heard, link_taken, opens, replies_in, scanner_after, unheard, with_scanner, facts_with_words}
use Rattle.controller_model.specs.Outcome.{Outcome, facts_passed, goes_on}
use Rattle.controller_model.specs.Side.{facts_after, facts_fed, facts_of, result_of, with_octet}
use Rattle.controller_model.proofs.Accepted.{same_after_counts}
use Rattle.controller_model.proofs.Following.{outcome_received, receiving_passes}
use Rattle.controller_model.proofs.Always.{IsKept, IsKeptAtStarts, always, initiator_stopped, leaving_is, opening_passes, start_keeps}
use Rattle.controller_model.proofs.FreeHandles.{IsOfCentral}
use Rattle.controller_model.proofs.ViewRoom.{Makes, asks_makes, begin_makes, reply_makes}
use Rattle.controller_model.proofs.NoLinks.{MakesNone}
use Rattle.controller_model.proofs.Phases.{EachOutcome, heard_is, unheard_is}
use Rattle.controller_model.proofs.Asked.{of_asking}

-- ---- the view knows whether there is one

address_after : (view : View) (command : Command) → (view_after view command).has_address ≡ view.has_address
unfolding view_after
address_after view (HostCompleted counts) =
    same_after_counts (λ (of : View). of.has_address) view counts refl
address_after view other = refl

abbrev KnowsAddress : Setup → Facts → Type 0
KnowsAddress setup facts = facts.view.has_address ≡ is_some (nth_access setup.cursor facts.connections)

address_kept : (setup : Setup) → IsKept setup (KnowsAddress setup) (KnowsAddress setup)
address_kept setup = record {
  accepted = λ facts opcode octets command is accepted knows. address_after facts.view command ∙ knows;
  asked = λ facts command asks knows left. left;
  given = λ facts handle count start octets is knows. knows;
  octet = λ facts octet knows. knows;
  turns = record {
    starts = record {
      weakens = λ facts knows. knows;
      ends = λ reason facts knows. knows;
      begins = λ slot facts knows. knows;
      enters = λ slot facts knows. knows;
      wins = λ slot activity facts knows. knows;
      fixes = λ doing facts knows. knows;
      does = λ doing facts may knows. knows;
    };
    reports = λ facts knows. knows;
    words = λ handle facts listens knows. knows;
    passes = λ facts knows. record {
      rests = knows;
      awaits_request = λ channel doing. knows;
      awaits_response = λ channel advertiser doing. knows;
      central_listens = λ handle doing. knows;
      sent = λ channel link doing. opening_passes (KnowsAddress setup) link facts knows;
      responds = λ channel on doing is_on. knows;
      taken = λ channel octets pdu on fields handle is_on hears takes free.
          opening_passes (KnowsAddress setup) (link_taken facts.view on.params.own pdu fields handle) facts knows;
      scanned = λ channel octets pdu on doing is_on hears. knows;
      answered = λ channel octets pdu on doing is_on hears. knows;
      connects = λ channel octets pdu on access handle doing is_on hears answers next free in_range. refl;
      received = λ handle octets. receiving_passes (KnowsAddress setup) setup handle octets facts knows;
    };
  };
}

-- the distance from the cursor to an address
distance : (cursor : ℕ) → (cursor + (0x71764129 + (2 ^ 32 - cursor % 2 ^ 32)) % 2 ^ 32) % 2 ^ 32 ≡ 0x71764129
distance cursor = omega arith

one_valid : is_valid_access 0x71764129 ≡ true
unfolding is_valid_access bit_count
one_valid = refl

some_before : (found : Option (ℕ × ℕ)) (next : ℕ × ℕ → Option (ℕ × ℕ)) → is_some (option_and_then next found) ≡ true → is_some found ≡ true
some_before None next is = is
some_before (Some pair) next is = refl

first_some : (cursor number : ℕ) → is_some (nth_access cursor number) ≡ true → is_some (nth_access cursor 0) ≡ true
first_some cursor zero is = is
first_some cursor (suc number) is =
    first_some cursor number (some_before (nth_access cursor number) (λ (found : ℕ × ℕ). next_access_of cursor found.1) is)

-- there is a first address, wherever the search begins
first_address : (cursor : ℕ) → true ≡ is_some (nth_access cursor 0)
first_address cursor =
    let travel = (0x71764129 + (2 ^ 32 - cursor % 2 ^ 32)) % 2 ^ 32 in
    let valid : is_valid_access (access_at cursor travel) ≡ true = ap is_valid_access (distance cursor) ∙ one_valid in
    let within : travel < 2 ^ 32 = omega arith in
    sym (first_some cursor (valid_count cursor travel) (ap is_some (none_passed cursor travel within valid)))

pub knows_address : (setup : Setup) (past : List Step) → KnowsAddress setup (facts_of setup past)
knows_address setup past = always setup (KnowsAddress setup) (KnowsAddress setup) (address_kept setup) (first_address setup.cursor) past

-- ---- while it initiates there is one

-- the next CONNECT_IND has an address
abbrev HasNext : Facts → Type 0
HasNext facts = is_some facts.initiator ≡ true → facts.view.has_address ≡ true

-- unless a CONNECT_IND is to be sent, which is that of a central and takes an address
record MayMake (facts : Facts) : Type 0 where
  central : Makes IsOfCentral facts.turn.doing
  has_next : MakesNone facts.turn.doing → HasNext facts

-- an octet of the host
next_initiator : (setup : Setup) (view : View) (slot : ℕ) (command : Command) (initiator : Option InitiatorFacts) → status_of view command ≡ 0
    → (is_some initiator ≡ true → view.has_address ≡ true)
    → is_some (initiator_after setup view slot command initiator) ≡ true → view.has_address ≡ true
next_initiator setup view slot Reset initiator accepted next so = absurd (let h : false ≡ true = so in absurd cc)
next_initiator setup view slot
    (LeCreateConnection interval window policy peer_kind peer own min max latency timeout lengths) initiator accepted next so =
    connection_has_address view interval window policy peer_kind peer own min max latency timeout lengths accepted
next_initiator setup view slot LeCreateCancel initiator accepted next so = absurd (let h : false ≡ true = so in absurd cc)
next_initiator setup view slot other initiator accepted next so = next so

accepted_makes : (setup : Setup) (facts : Facts) (command : Command) → status_of facts.view command ≡ 0 → MayMake facts
    → MayMake (facts_accepted setup facts command)
accepted_makes setup facts command accepted may = record {
  central = may.central;
  has_next = λ makes so.
      address_after facts.view command
      ∙ next_initiator setup facts.view facts.turn.begun command facts.initiator accepted (may.has_next makes) so;
}

known_makes : (accepted : Bool) (setup : Setup) (facts : Facts) (command : Command) → (status_of facts.view command == 0) ≡ accepted → MayMake facts
    → MayMake (facts_known accepted setup facts command)
known_makes true setup facts command is may = accepted_makes setup facts command (eqb-true (status_of facts.view command) 0 is) may
known_makes false setup facts command is may = may

read_makes : (setup : Setup) (facts : Facts) (read : CmdRead) → MayMake facts → MayMake (facts_commanded setup facts read)
read_makes setup facts (Known command) may =
    of_asking setup facts command MayMake (known_makes (status_of facts.view command == 0) setup facts command refl may)
    (λ asks left. record { central = left.central; has_next = left.has_next })
read_makes setup facts UnknownOpcode may = may
read_makes setup facts BadLength may = may

offered_makes : (offer : Offer) (handle : ℕ) (start : Bool) (octets : List ℕ) (facts : Facts) → MayMake facts
    → MayMake (facts_offered offer handle start octets facts)
offered_makes Kept handle start octets facts may = record { central = may.central; has_next = may.has_next }
offered_makes NoLink handle start octets facts may = may
offered_makes Empty handle start octets facts may = may
offered_makes Overflow handle start octets facts may = may

fed_makes : (setup : Setup) (facts : Facts) (fed : Fed) → MayMake facts → MayMake (facts_fed setup facts fed)
fed_makes setup facts (Packet (HostCommand opcode body)) may = read_makes setup facts (command_of opcode body.items) may
fed_makes setup facts (Packet (Acl handle start count body)) may =
    offered_makes (offer_of setup facts handle count) handle start body.items facts may
fed_makes setup facts LostSync may = may
fed_makes setup facts More may = may

-- the beginning of a turn
next_starts : IsKeptAtStarts HasNext HasNext
next_starts = record {
  weakens = λ facts next. next;
  ends = λ reason facts next. next;
  begins = λ slot facts next. next;
  enters = λ slot facts next. next;
  wins = λ slot activity facts next. next;
  fixes = λ doing facts next. next;
  does = λ doing facts may next. next;
}

-- the end of a turn
next_leaves : (facts : Facts) → HasNext facts → HasNext (facts_ended_turn facts)
next_leaves facts next = subst HasNext (sym (leaving_is (facts_handed facts))) next

abbrev Anything : Facts → Type 0
Anything facts = ⊤

abbrev IsCentral : Facts → Type 0
IsCentral facts = Makes IsOfCentral facts.turn.doing

central_starts : IsKeptAtStarts Anything IsCentral
central_starts = record {
  weakens = λ facts central. tt;
  ends = λ reason facts any. tt;
  begins = λ slot facts any. tt;
  enters = λ slot facts any. tt;
  wins = λ slot activity facts any. tt;
  fixes = λ doing facts any. tt;
  does = λ doing facts may any. begin_makes IsOfCentral doing may;
}

-- what comes of a phase
may_make : (outcome : Outcome) → Makes IsOfCentral outcome.next → HasNext outcome.facts → MayMake (facts_passed outcome)
may_make outcome central next = record { central = central; has_next = λ makes. next }

phase_makes : (setup : Setup) (facts : Facts) → MakesNone facts.turn.doing → HasNext facts
    → EachOutcome setup facts (λ outcome. MayMake (facts_passed outcome))
phase_makes setup facts makes next = record {
  rests = may_make (goes_on facts Rests) tt next;
  awaits_request = λ channel doing. may_make (goes_on facts (AwaitsRequest channel)) tt next;
  awaits_response = λ channel advertiser doing. may_make (goes_on facts (AwaitsResponse channel)) tt next;
  central_listens = λ handle doing. may_make (goes_on facts (CentralListens handle)) tt next;
  sent = λ channel link doing. absurd (subst MakesNone doing makes);
  responds = λ channel on doing is_on. may_make (goes_on facts (Responds channel)) tt next;
  taken = λ channel octets pdu on fields handle is_on hears takes free.
      opening_passes MayMake (link_taken facts.view on.params.own pdu fields handle) facts (record { central = tt; has_next = λ makes so. next so });
  scanned = λ channel octets pdu on doing is_on hears.
      let asks = true && does_ask (scan_answer on.params facts.view.accepted on.recent pdu) in
      may_make (goes_on (with_scanner (scanner_after on facts.view.accepted pdu) facts) (asks_if asks channel pdu)) (asks_makes IsOfCentral asks channel pdu) next;
  answered = λ channel octets pdu on doing is_on hears.
      let asks = false && does_ask (scan_answer on.params facts.view.accepted on.recent pdu) in
      may_make (goes_on (with_scanner (scanner_after on facts.view.accepted pdu) facts) (asks_if asks channel pdu)) (asks_makes IsOfCentral asks channel pdu) next;
  connects = λ channel octets pdu on access handle doing is_on hears answers free_access free in_range.
      record { central = refl; has_next = λ makes. absurd makes };
  received = λ handle octets.
      let replies = replies_in facts.turn.slot (has_room setup facts) (link_at handle facts.links) octets in
      receiving_passes MayMake setup handle octets facts
      (may_make (outcome_received setup handle octets facts) (reply_makes IsOfCentral replies handle) next);
}

-- a CONNECT_IND that is sent: its controller initiates no more
sent_makes : (channel : ℕ) (link : LinkSetup) (facts : Facts) → link.role ≡ Central → MayMake (facts_passed (opens link facts))
sent_makes channel link facts central =
    opening_passes MayMake link facts (record {
      central = tt;
      has_next = λ makes so.
          let none : is_some (initiator_stopped link.role facts.initiator) ≡ false = ap (λ (role : Role). is_some (initiator_stopped role facts.initiator)) central in
          absurd (let h : false ≡ true = sym none ∙ so in absurd cc);
    })

phase_by : (setup : Setup) (octets : List ℕ) (facts : Facts) (doing : Doing) → facts.turn.doing ≡ doing → MayMake facts → MakesNone doing
    → MayMake (facts_passed (heard setup doing octets facts))
phase_by setup octets facts doing is may makes =
    let before = subst MakesNone (sym is) makes in
    heard_is setup facts (λ outcome. MayMake (facts_passed outcome)) (phase_makes setup facts before (may.has_next before)) doing octets is
    (λ handle. (phase_makes setup (facts_with_words setup handle facts) before (may.has_next before)).received handle octets)

unheard_by : (setup : Setup) (facts : Facts) (doing : Doing) → facts.turn.doing ≡ doing → MayMake facts → MakesNone doing
    → MayMake (facts_passed (unheard doing facts))
unheard_by setup facts doing is may makes =
    let before = subst MakesNone (sym is) makes in
    unheard_is setup facts (λ outcome. MayMake (facts_passed outcome)) (phase_makes setup facts before (may.has_next before)) doing is

heard_makes : (setup : Setup) (octets : List ℕ) (facts : Facts) (doing : Doing) → facts.turn.doing ≡ doing → MayMake facts
    → MayMake (facts_passed (heard setup doing octets facts))
heard_makes setup octets facts (Connects channel link) is may = sent_makes channel link facts (subst (Makes IsOfCentral) is may.central)
heard_makes setup octets facts (Advertises channel) is may = phase_by setup octets facts (Advertises channel) is may tt
heard_makes setup octets facts other is may = phase_by setup octets facts other is may tt

unheard_makes : (setup : Setup) (facts : Facts) (doing : Doing) → facts.turn.doing ≡ doing → MayMake facts
    → MayMake (facts_passed (unheard doing facts))
unheard_makes setup facts (Connects channel link) is may = sent_makes channel link facts (subst (Makes IsOfCentral) is may.central)
unheard_makes setup facts (Advertises channel) is may = unheard_by setup facts (Advertises channel) is may tt
unheard_makes setup facts other is may = unheard_by setup facts other is may tt

-- ---- step by step

starts_uncut : (slot : ℕ) (on : Bool) (doing : Doing) → cuts_off doing (TurnBegins slot on) ≡ false → MakesNone doing
starts_uncut slot on (Connects channel link) uncut = absurd (let h : true ≡ false = uncut in absurd cc)
starts_uncut slot on (Advertises channel) uncut = tt
starts_uncut slot on other uncut = tt

ends_uncut : (doing : Doing) → cuts_off doing TurnEnds ≡ false → MakesNone doing
ends_uncut (Connects channel link) uncut = absurd (let h : true ≡ false = uncut in absurd cc)
ends_uncut (Advertises channel) uncut = tt
ends_uncut other uncut = tt

octet_makes : (octet : ℕ) (facts : Facts) → MayMake facts → MayMake (with_octet octet facts)
octet_makes octet facts may = record { central = may.central; has_next = may.has_next }

step_makes : (setup : Setup) (facts : Facts) (step : Step) → cuts_off facts.turn.doing step ≡ false → MayMake facts
    → MayMake (facts_after setup facts step)
step_makes setup facts (HostOctet octet) uncut may =
    octet_makes octet (facts_fed setup facts (result_of facts.octets octet)) (fed_makes setup facts (result_of facts.octets octet) may)
step_makes setup facts (TurnBegins slot on) uncut may =
    let next = start_keeps HasNext HasNext next_starts slot on facts (may.has_next (starts_uncut slot on facts.turn.doing uncut)) in
    record { central = start_keeps Anything IsCentral central_starts slot on facts may.central; has_next = λ makes. next }
step_makes setup facts (PacketHeard octets) uncut may = heard_makes setup octets facts facts.turn.doing refl may
step_makes setup facts NothingHeard uncut may = unheard_makes setup facts facts.turn.doing refl may
step_makes setup facts TurnEnds uncut may =
    let next = next_leaves facts (may.has_next (ends_uncut facts.turn.doing uncut)) in
    may_make (goes_on (facts_ended_turn facts) Rests) tt next

makes_from : (setup : Setup) (facts : Facts) (past : List Step) → SendsEachFrom setup facts past → MayMake facts
    → MayMake (fold (facts_after setup) facts past)
makes_from setup facts [] sends may = may
makes_from setup facts (step ∷ past) sends may =
    makes_from setup (facts_after setup facts step) past sends.1 (step_makes setup facts step sends.0 may)

always_makes : (setup : Setup) (past : List Step) → SendsEach setup past → MayMake (facts_of setup past)
unfolding facts_of SendsEach
always_makes setup past sends =
    makes_from setup (first_facts setup) past sends
    (record { central = tt; has_next = λ makes so. absurd (let h : false ≡ true = so in absurd cc) })

pub initiators_have_addresses : (setup : Setup) (past : List Step) (on : InitiatorFacts) (channel : ℕ) → SendsEach setup past
    → (facts_of setup past).initiator ≡ Some on → (facts_of setup past).turn.doing ≡ Initiates channel
    → is_some (nth_access setup.cursor (facts_of setup past).connections) ≡ true
initiators_have_addresses setup past on channel sends is doing =
    let may = always_makes setup past sends in
    sym (knows_address setup past) ∙ may.has_next (subst MakesNone (sym doing) tt) (ap is_some is)
