-- The turn of a controller after each call on it: its slot, what is done next, and how many access addresses were taken.
use Rattle.std.proofs.Common.{◌≡◌, ℕ, zero, suc, ◌+◌, Bool, true, false, Option, Some, None, List, refl, sym, ap, ◌∙◌, arith, subst}
use Rattle.std.specs.Prelude.{⊤, ◌&&◌, ◌==◌}
use Rattle.adv_pdu.specs.declared.pdu.AdvPdu.{AdvPdu}
use Rattle.adv_pdu.specs.Ranges.{is_in_range}
use Rattle.h4_frames.specs.declared.packet.HostPacket.TheVariants.{Command as HostCommand, Acl}
use Rattle.h4_frames.specs.declared.packet.Fed.{Fed}
use Rattle.h4_frames.specs.declared.packet.Fed.TheVariants.{More, Packet, LostSync}
use Rattle.hci_cmd.specs.declared.command.Command.{Command}
use Rattle.hci_cmd.specs.declared.command.CmdRead.{CmdRead}
use Rattle.hci_cmd.specs.declared.command.CmdRead.TheVariants.{Known, UnknownOpcode, BadLength}
use Rattle.hci_cmd.specs.Command.{command_of}
use Rattle.host_view.specs.Flow.{most_received}
use Rattle.host_view.specs.Status.{status_of}
use Rattle.host_view.specs.View.{View}
use Rattle.run_model.specs.link_model.declared.setup.LinkSetup.{LinkSetup}
use Rattle.scan_init.specs.Access.{nth_access}
use Rattle.scan_init.specs.Reports.{does_ask, scan_answer}
use Rattle.slot_plan.specs.declared.Activity.{Activity}
use Rattle.slot_plan.specs.Holding.{is_held_in, winner_of}
use Rattle.run_model.specs.open_links.OpenLinks.{link_at}
use Rattle.run_model.specs.controller_model.declared.doing.Doing.{Doing}
use Rattle.run_model.specs.controller_model.declared.doing.Doing.TheVariants.{Advertises, AwaitsRequest, Responds, AwaitsResponse, Initiates, Connects, CentralListens, Rests, PeripheralListens, Scans}
use Rattle.run_model.specs.controller_model.declared.doing.Turn.{Turn}
use Rattle.run_model.specs.controller_model.Step.{HostOctet, TurnBegins, TurnEnds}
use Rattle.run_model.specs.controller_model.Facts.{Setup, Facts, Listens}
use Rattle.run_model.specs.controller_model.Commands.{facts_asking, facts_commanded, facts_known, is_asking}
use Rattle.run_model.specs.open_links.declared.offers.Offer.{Offer}
use Rattle.run_model.specs.open_links.declared.offers.Offer.TheVariants.{NoLink, Empty, Overflow, Kept}
use Rattle.run_model.specs.controller_model.Data.{facts_handed, facts_offered, offer_of}
use Rattle.run_model.specs.controller_model.Heard.{access_found, asks_if, facts_with_words, has_room, link_received, link_taken, opens, replies_in, reply_if, scanner_after, with_scanner, unheard, heard}
use Rattle.run_model.specs.controller_model.Links.{facts_ending}
use Rattle.run_model.specs.controller_model.Outcome.{facts_passed}
use Rattle.run_model.specs.controller_model.Packets.{facts_doing, listens_on}
use Rattle.run_model.specs.controller_model.Radio.{facts_entering, plan_in, radio_served, served, turn_begins, winner_served, outcome_begun}
use Rattle.run_model.specs.controller_model.Side.{facts_after, facts_fed, result_of}
use Rattle.run_model.proofs.controller_model.Always.{IsKeptAtStarts, MayBegin, facts_opening, leaving_is, opening_passes, start_keeps, winning_is, IsAdvertisingChannel}
use Rattle.run_model.proofs.controller_model.Phases.{EachOutcome, heard_is, unheard_is}
use Rattle.run_model.specs.Run.{step_of}

-- ---- an octet of the host changes neither the turn nor the number of access addresses

pub record IsSameTurn (before after : Facts) : Type 0 where
  pub turn : after.turn ≡ before.turn
  pub connections : after.connections ≡ before.connections
  pub wanted : after.wanted ≡ before.wanted

same_turn : (facts : Facts) → IsSameTurn facts facts
same_turn facts = record { turn = refl; connections = refl; wanted = refl }

known_turn : (accepted : Bool) (setup : Setup) (command : Command) (facts : Facts) → IsSameTurn facts (facts_known accepted setup facts command)
known_turn true setup command facts = record { turn = refl; connections = refl; wanted = refl }
known_turn false setup command facts = same_turn facts

asking_turn : (asks : Bool) (setup : Setup) (facts : Facts) (command : Command) (known : Facts) → IsSameTurn facts known
    → IsSameTurn facts (facts_asking asks setup facts command known)
asking_turn true setup facts command known same = record { turn = same.turn; connections = same.connections; wanted = same.wanted }
asking_turn false setup facts command known same = same

read_turn : (setup : Setup) (facts : Facts) (read : CmdRead) → IsSameTurn facts (facts_commanded setup facts read)
read_turn setup facts (Known command) =
    asking_turn (is_asking facts.view command) setup facts command (facts_known (status_of facts.view command == 0) setup facts command)
    (known_turn (status_of facts.view command == 0) setup command facts)
read_turn setup facts UnknownOpcode = same_turn facts
read_turn setup facts BadLength = same_turn facts

offered_turn : (offer : Offer) (handle : ℕ) (start : Bool) (octets : List ℕ) (facts : Facts) → IsSameTurn facts (facts_offered offer handle start octets facts)
offered_turn Kept handle start octets facts = record { turn = refl; connections = refl; wanted = refl }
offered_turn NoLink handle start octets facts = same_turn facts
offered_turn Empty handle start octets facts = same_turn facts
offered_turn Overflow handle start octets facts = same_turn facts

fed_turn : (setup : Setup) (facts : Facts) (fed : Fed) → IsSameTurn facts (facts_fed setup facts fed)
fed_turn setup facts (Packet (HostCommand opcode body)) = read_turn setup facts (command_of opcode body.items)
fed_turn setup facts (Packet (Acl handle start count body)) = offered_turn (offer_of setup facts handle count) handle start body.items facts
fed_turn setup facts LostSync = same_turn facts
fed_turn setup facts More = same_turn facts

pub octet_turn : (setup : Setup) (facts : Facts) (octet : ℕ) → IsSameTurn facts (facts_after setup facts (HostOctet octet))
octet_turn setup facts octet =
    let fed = fed_turn setup facts (result_of facts.octets octet) in
    record { turn = fed.turn; connections = fed.connections; wanted = fed.wanted }

-- ---- a turn begins

won_turn : (slot : ℕ) (winner : Option Activity) (facts : Facts) → (winner_served slot winner facts).facts.turn ≡ facts.turn
won_turn slot None facts = refl
won_turn slot (Some activity) facts = ap (λ (won : Facts). won.turn) (winning_is slot activity facts)

radio_turn : (held : Bool) (slot : ℕ) (winner : Option Activity) (facts : Facts) → (radio_served held slot winner facts).facts.turn ≡ facts.turn
radio_turn true slot winner facts = refl
radio_turn false slot winner facts = won_turn slot winner facts

served_turn : (on : Bool) (slot : ℕ) (winner : Option Activity) (facts : Facts) → (served on slot winner facts).facts.turn ≡ facts.turn
served_turn false slot winner facts = refl
served_turn true slot winner facts = radio_turn (is_held_in facts.radio.hold slot) slot winner facts

pub begins_begun : (setup : Setup) (slot : ℕ) (on : Bool) (facts : Facts) → (facts_after setup facts (TurnBegins slot on)).turn.begun ≡ slot + 1
begins_begun setup slot on facts =
    let begun = turn_begins slot (facts_ending slot facts) in
    ap (λ (turn : Turn). turn.begun) (served_turn on slot (winner_of (plan_in slot begun) slot) (facts_entering slot begun))

pub begins_slot : (setup : Setup) (slot : ℕ) (on : Bool) (facts : Facts) → (facts_after setup facts (TurnBegins slot on)).turn.slot ≡ slot
begins_slot setup slot on facts =
    let begun = turn_begins slot (facts_ending slot facts) in
    ap (λ (turn : Turn). turn.slot) (served_turn on slot (winner_of (plan_in slot begun) slot) (facts_entering slot begun))

-- (before a turn begins, no more turns began than its slot says)
abbrev MayOnce : ℕ → Facts → Type 0
MayOnce slot facts = facts.turn.begun ≡ slot + 1 → MayBegin facts.turn.doing

may_kept : (slot : ℕ) → IsKeptAtStarts (λ facts. ⊤) (MayOnce slot)
may_kept slot = record {
  weakens = λ facts may. tt;
  ends = λ reason facts any. tt;
  begins = λ slot facts any. tt;
  enters = λ slot facts any. tt;
  wins = λ slot activity facts any. tt;
  fixes = λ doing facts any. tt;
  does = λ doing facts may any. λ once. may;
}

not_yet : (begun slot : ℕ) (X : Type 0) → begun ≡ slot → begun ≡ slot + 1 → X
not_yet begun slot X is once = absurd (omega (arith, is, once))

abbrev Counts : ℕ → Facts → Type 0
Counts number facts = facts.connections ≡ number

count_kept : (number : ℕ) → IsKeptAtStarts (Counts number) (Counts number)
count_kept number = record {
  weakens = λ facts is. is;
  ends = λ reason facts is. is;
  begins = λ slot facts is. is;
  enters = λ slot facts is. is;
  wins = λ slot activity facts is. is;
  fixes = λ doing facts is. is;
  does = λ doing facts may is. is;
}

pub begins_count : (setup : Setup) (slot : ℕ) (on : Bool) (facts : Facts) → (facts_after setup facts (TurnBegins slot on)).connections ≡ facts.connections
begins_count setup slot on facts = start_keeps (Counts facts.connections) (Counts facts.connections) (count_kept facts.connections) slot on facts refl

-- ---- a turn ends

pub ends_turn : (setup : Setup) (facts : Facts) → (facts_after setup facts TurnEnds).turn ≡ record facts.turn { doing = Rests }
ends_turn setup facts = ap (λ (left : Facts). record left.turn { doing = Rests }) (leaving_is (facts_handed facts))

pub ends_count : (setup : Setup) (facts : Facts) → (facts_after setup facts TurnEnds).connections ≡ facts.connections
ends_count setup facts = ap (λ (left : Facts). left.connections) (leaving_is (facts_handed facts))

-- ---- what is done in which phase

-- a CONNECT_IND that is to be sent
abbrev pub pending : Doing → ℕ
pending (Connects channel link) = 1
pending other = 0

abbrev pub initiates : Doing → Bool
initiates (Initiates channel) = true
initiates other = false

pub may_pending : (doing : Doing) → MayBegin doing → pending doing ≡ 0
may_pending (Connects channel link) may = absurd may
may_pending (Advertises channel) may = refl
may_pending other may = refl

-- an initiator that begins in a turn listens in its first phase, and a CONNECT_IND is sent in its second one
abbrev pub FitsFirst : ℕ → Doing → Type 0
FitsFirst zero doing = initiates doing ≡ false
FitsFirst (suc phases) doing = (initiates doing ≡ false) × (pending doing ≡ 0)

pub record IsPassed (before after : Facts) : Type 0 where
  pub begun : after.turn.begun ≡ before.turn.begun
  pub slot : after.turn.slot ≡ before.turn.slot
  pub count : after.connections ≡ before.connections + pending after.turn.doing
  pub later : initiates after.turn.doing ≡ false
  pub last : initiates before.turn.doing ≡ false → pending after.turn.doing ≡ 0

no_more : (n : ℕ) → n ≡ n + 0
no_more n = omega arith

-- it does this next, and nothing else changes of the turn
passes_on : (before facts : Facts) (doing : Doing) → facts.turn ≡ before.turn → facts.connections ≡ before.connections → initiates doing ≡ false → pending doing ≡ 0
    → IsPassed before (facts_doing doing facts)
passes_on before facts doing turn count later none = record {
  begun = ap (λ (t : Turn). t.begun) turn;
  slot = ap (λ (t : Turn). t.slot) turn;
  count = count ∙ no_more before.connections ∙ ap (λ n. before.connections + n) (sym none);
  later = later;
  last = λ first. none;
}

opens_on : (link : LinkSetup) (facts : Facts) → IsPassed facts (facts_passed (opens link facts))
opens_on link facts = opening_passes (IsPassed facts) link facts (passes_on facts (facts_opening link facts) Rests refl refl refl refl)

asks_on : (before facts : Facts) (asks : Bool) (channel : ℕ) (pdu : AdvPdu) → facts.turn ≡ before.turn → facts.connections ≡ before.connections
    → IsPassed before (facts_doing (asks_if asks channel pdu) facts)
asks_on before facts true channel pdu turn count = passes_on before facts _ turn count refl refl
asks_on before facts false channel pdu turn count = passes_on before facts _ turn count refl refl

reply_on : (before facts : Facts) (replies : Bool) (handle : ℕ) → facts.turn ≡ before.turn → facts.connections ≡ before.connections
    → IsPassed before (facts_doing (reply_if replies handle) facts)
reply_on before facts true handle turn count = passes_on before facts _ turn count refl refl
reply_on before facts false handle turn count = passes_on before facts _ turn count refl refl

passes_each : (setup : Setup) (facts : Facts) → EachOutcome setup facts (λ outcome. IsPassed facts (facts_passed outcome))
passes_each setup facts = record {
  rests = passes_on facts facts Rests refl refl refl refl;
  awaits_request = λ channel doing. passes_on facts facts (AwaitsRequest channel) refl refl refl refl;
  awaits_response = λ channel advertiser doing. passes_on facts facts (AwaitsResponse channel) refl refl refl refl;
  central_listens = λ handle doing. passes_on facts facts (CentralListens handle) refl refl refl refl;
  sent = λ channel link doing. opens_on link facts;
  responds = λ channel on doing is_on. passes_on facts facts (Responds channel) refl refl refl refl;
  taken = λ channel octets pdu on fields handle is_on hears takes free. opens_on (link_taken facts.view on.params.own pdu fields handle) facts;
  scanned = λ channel octets pdu on doing is_on hears.
      asks_on facts (with_scanner (scanner_after on facts.view.accepted pdu) facts) (true && does_ask (scan_answer on.params facts.view.accepted on.recent pdu)) channel pdu refl refl;
  answered = λ channel octets pdu on doing is_on hears.
      asks_on facts (with_scanner (scanner_after on facts.view.accepted pdu) facts) (false && does_ask (scan_answer on.params facts.view.accepted on.recent pdu)) channel pdu refl refl;
  connects = λ channel octets pdu on access handle doing is_on hears answers next free in_range. record {
    begun = refl;
    slot = refl;
    count = refl;
    later = refl;
    last = λ first. absurd (let h : true ≡ false = ap initiates (sym doing) ∙ first in absurd cc);
  };
  received = λ handle octets.
      reply_on facts (link_received handle (has_room setup facts) octets facts) (replies_in facts.turn.slot (has_room setup facts) (link_at handle facts.links) octets) handle refl refl;
}

pub phase_turn : (setup : Setup) (facts : Facts) (received : Option (List ℕ)) → IsPassed facts (facts_after setup facts (step_of received))
phase_turn setup facts None = unheard_is setup facts _ (passes_each setup facts) facts.turn.doing refl
phase_turn setup facts (Some octets) =
    heard_is setup facts (λ outcome. IsPassed facts (facts_passed outcome)) (passes_each setup facts) facts.turn.doing octets refl
    (λ handle. let worded = facts_with_words setup handle facts in
    reply_on facts (link_received handle (has_room setup facts) octets worded)
    (replies_in facts.turn.slot (has_room setup facts) (link_at handle worded.links) octets) handle refl refl)

pub begins_may : (setup : Setup) (slot : ℕ) (on : Bool) (facts : Facts) → facts.turn.begun ≡ slot → MayBegin (facts_after setup facts (TurnBegins slot on)).turn.doing
begins_may setup slot on facts is =
    start_keeps (λ facts. ⊤) (MayOnce slot) (may_kept slot) slot on facts (λ once. not_yet facts.turn.begun slot _ is once) (begins_begun setup slot on facts)

-- ---- what a link has that is to be made

pub record IsMade (setup : Setup) (view : View) (connections : ℕ) (link : LinkSetup) : Type 0 where
  -- it has the access address that was taken last
  pub number : ℕ
  pub counted : connections ≡ number + 1
  pub access : access_found (nth_access setup.cursor number) ≡ Some link.fields.access
  pub in_range : is_in_range link.fields ≡ true
  -- it receives payloads that its host can take
  pub receives : link.max_rx ≡ most_received view

abbrev pub MakesWell : Setup → View → ℕ → Doing → Type 0
MakesWell setup view connections (Connects channel link) = IsMade setup view connections link
MakesWell setup view connections other = ⊤

abbrev pub Makes : Setup → Facts → Type 0
Makes setup facts = MakesWell setup facts.view facts.connections facts.turn.doing

begin_makes : (setup : Setup) (view : View) (connections : ℕ) (doing : Doing) → MayBegin doing → MakesWell setup view connections doing
begin_makes setup view connections (Connects channel link) may = absurd may
begin_makes setup view connections (Advertises channel) may = tt
begin_makes setup view connections other may = tt

asks_make : (setup : Setup) (view : View) (connections : ℕ) (asks : Bool) (channel : ℕ) (pdu : AdvPdu)
    → MakesWell setup view connections (asks_if asks channel pdu)
asks_make setup view connections true channel pdu = tt
asks_make setup view connections false channel pdu = tt

reply_makes : (setup : Setup) (view : View) (connections : ℕ) (replies : Bool) (handle : ℕ) → MakesWell setup view connections (reply_if replies handle)
reply_makes setup view connections true handle = tt
reply_makes setup view connections false handle = tt

passes_making : (setup : Setup) (facts : Facts) → EachOutcome setup facts (λ outcome. Makes setup (facts_passed outcome))
passes_making setup facts = record {
  rests = tt;
  awaits_request = λ channel doing. tt;
  awaits_response = λ channel advertiser doing. tt;
  central_listens = λ handle doing. tt;
  sent = λ channel link doing. opening_passes (Makes setup) link facts tt;
  responds = λ channel on doing is_on. tt;
  taken = λ channel octets pdu on fields handle is_on hears takes free. opening_passes (Makes setup) (link_taken facts.view on.params.own pdu fields handle) facts tt;
  scanned = λ channel octets pdu on doing is_on hears.
      asks_make setup facts.view facts.connections (true && does_ask (scan_answer on.params facts.view.accepted on.recent pdu)) channel pdu;
  answered = λ channel octets pdu on doing is_on hears.
      asks_make setup facts.view facts.connections (false && does_ask (scan_answer on.params facts.view.accepted on.recent pdu)) channel pdu;
  connects = λ channel octets pdu on access handle doing is_on hears answers next free in_range.
      record { number = facts.connections; counted = refl; access = next; in_range = in_range; receives = refl };
  received = λ handle octets. reply_makes setup _ facts.connections (replies_in facts.turn.slot (has_room setup facts) (link_at handle facts.links) octets) handle;
}

pub phase_makes : (setup : Setup) (facts : Facts) (received : Option (List ℕ)) → Makes setup (facts_after setup facts (step_of received))
phase_makes setup facts None = unheard_is setup facts _ (passes_making setup facts) facts.turn.doing refl
phase_makes setup facts (Some octets) =
    heard_is setup facts (λ outcome. Makes setup (facts_passed outcome)) (passes_making setup facts) facts.turn.doing octets refl
    (λ handle. (passes_making setup (facts_with_words setup handle facts)).received handle octets)

pub begins_make : (setup : Setup) (slot : ℕ) (on : Bool) (facts : Facts) → facts.turn.begun ≡ slot
    → Makes setup (facts_after setup facts (TurnBegins slot on))
begins_make setup slot on facts is = begin_makes setup _ _ _ (begins_may setup slot on facts is)

-- ---- what it listens for

abbrev pub IsListening : Facts → Doing → Type 0
IsListening facts (AwaitsRequest channel) = facts.wanted ≡ Listens channel
IsListening facts (Initiates channel) = facts.wanted ≡ Listens channel
IsListening facts (CentralListens handle) = facts.wanted ≡ listens_on (link_at handle facts.links)
IsListening facts (PeripheralListens handle) = facts.wanted ≡ listens_on (link_at handle facts.links)
IsListening facts other = ⊤

doing_listens : (doing : Doing) (facts : Facts) → IsListening (facts_doing doing facts) doing
doing_listens (AwaitsRequest channel) facts = refl
doing_listens (Initiates channel) facts = refl
doing_listens (CentralListens handle) facts = refl
doing_listens (PeripheralListens handle) facts = refl
doing_listens (Advertises channel) facts = tt
doing_listens other facts = tt

pub begins_listening : (setup : Setup) (slot : ℕ) (on : Bool) (facts : Facts)
    → IsListening (facts_after setup facts (TurnBegins slot on)) (facts_after setup facts (TurnBegins slot on)).turn.doing
begins_listening setup slot on facts = doing_listens (outcome_begun slot on facts).next (outcome_begun slot on facts).facts

pub phase_listens : (setup : Setup) (facts : Facts) (received : Option (List ℕ))
    → IsListening (facts_after setup facts (step_of received)) (facts_after setup facts (step_of received)).turn.doing
phase_listens setup facts None = doing_listens (unheard facts.turn.doing facts).next (unheard facts.turn.doing facts).facts
phase_listens setup facts (Some octets) = doing_listens (heard setup facts.turn.doing octets facts).next (heard setup facts.turn.doing octets facts).facts

-- ---- on which channel

abbrev pub FitsChannel : Doing → Type 0
FitsChannel (Advertises channel) = IsAdvertisingChannel channel
FitsChannel (AwaitsRequest channel) = IsAdvertisingChannel channel
FitsChannel (Initiates channel) = IsAdvertisingChannel channel
FitsChannel other = ⊤

pub may_fit : (doing : Doing) → MayBegin doing → FitsChannel doing
may_fit (Advertises channel) may = may
may_fit (Initiates channel) may = may
may_fit (AwaitsRequest channel) may = absurd may
may_fit (Scans channel) may = tt
may_fit other may = tt

asks_fit : (asks : Bool) (channel : ℕ) (pdu : AdvPdu) → FitsChannel (asks_if asks channel pdu)
asks_fit true channel pdu = tt
asks_fit false channel pdu = tt

reply_fits : (replies : Bool) (handle : ℕ) → FitsChannel (reply_if replies handle)
reply_fits true handle = tt
reply_fits false handle = tt

passes_fitting : (setup : Setup) (facts : Facts) → FitsChannel facts.turn.doing → EachOutcome setup facts (λ outcome. FitsChannel (facts_passed outcome).turn.doing)
passes_fitting setup facts fits = record {
  rests = tt;
  awaits_request = λ channel doing. subst FitsChannel doing fits;
  awaits_response = λ channel advertiser doing. tt;
  central_listens = λ handle doing. tt;
  sent = λ channel link doing. tt;
  responds = λ channel on doing is_on. tt;
  taken = λ channel octets pdu on fields handle is_on hears takes free. tt;
  scanned = λ channel octets pdu on doing is_on hears.
      asks_fit (true && does_ask (scan_answer on.params facts.view.accepted on.recent pdu)) channel pdu;
  answered = λ channel octets pdu on doing is_on hears.
      asks_fit (false && does_ask (scan_answer on.params facts.view.accepted on.recent pdu)) channel pdu;
  connects = λ channel octets pdu on access handle doing is_on hears answers next free in_range. tt;
  received = λ handle octets. reply_fits (replies_in facts.turn.slot (has_room setup facts) (link_at handle facts.links) octets) handle;
}

pub phase_fits : (setup : Setup) (facts : Facts) (received : Option (List ℕ)) → FitsChannel facts.turn.doing → FitsChannel (facts_after setup facts (step_of received)).turn.doing
phase_fits setup facts None fits = unheard_is setup facts _ (passes_fitting setup facts fits) facts.turn.doing refl
phase_fits setup facts (Some octets) fits =
    heard_is setup facts (λ outcome. FitsChannel (facts_passed outcome).turn.doing) (passes_fitting setup facts fits) facts.turn.doing octets refl
    (λ handle. (passes_fitting setup (facts_with_words setup handle facts) fits).received handle octets)
