-- What a controller wants of the radio as it awaits a request, and as it connects.
use Rattle.std.proofs.Common.{◌≡◌, ℕ, Bool, true, false, List, refl}
use Rattle.std.specs.Prelude.{⊤, ◌&&◌}
use Rattle.ble_base.specs.declared.roles.Role.TheVariants.{Central}
use Rattle.adv_pdu.specs.declared.pdu.AdvPdu.{AdvPdu}
use Rattle.adv_pdu.specs.declared.pdu.AdvPdu.TheVariants.{Connect}
use Rattle.scan_init.specs.Reports.{does_ask, scan_answer}
use Rattle.controller_model.specs.declared.doing.Doing.{Doing}
use Rattle.controller_model.specs.declared.doing.Doing.TheVariants.{Advertises, AwaitsRequest, Scans, Initiates, Connects, CentralSends, PeripheralListens, Rests}
use Rattle.controller_model.specs.Step.{Step}
use Rattle.controller_model.specs.Facts.{Setup, Facts, Use, Sends, Listens}
use Rattle.controller_model.specs.Heard.{asks_if, has_room, link_received, link_taken, replies_in, reply_if, scanner_after, with_scanner}
use Rattle.controller_model.specs.Packets.{advertising_packet, facts_doing}
use Rattle.controller_model.specs.Outcome.{facts_passed}
use Rattle.controller_model.specs.Side.{facts_of}
use Rattle.controller_model.specs.open_links.OpenLinks.{link_at}
use Rattle.controller_model.proofs.Always.{IsKept, MayBegin, always, opening_passes}
use Rattle.controller_model.proofs.Phases.{EachOutcome}

abbrev pub IsWanted : Doing → Use → Type 0
IsWanted (AwaitsRequest channel) wanted = wanted ≡ Listens channel
IsWanted (Connects channel link) wanted =
    (wanted ≡ Sends channel (advertising_packet channel (Connect link.own link.peer true link.fields))) × (link.role ≡ Central)
IsWanted other wanted = ⊤

abbrev WantsIt : Facts → Type 0
WantsIt facts = IsWanted facts.turn.doing facts.wanted

abbrev Any : Facts → Type 0
Any facts = ⊤

begin_wants : (doing : Doing) (facts : Facts) → MayBegin doing → WantsIt (facts_doing doing facts)
begin_wants (Advertises channel) facts may = tt
begin_wants (Scans channel) facts may = tt
begin_wants (Initiates channel) facts may = tt
begin_wants (CentralSends handle) facts may = tt
begin_wants (PeripheralListens handle) facts may = tt
begin_wants Rests facts may = tt
begin_wants other facts may = absurd may

asks_wants : (asks : Bool) (channel : ℕ) (pdu : AdvPdu) (facts : Facts) → WantsIt (facts_doing (asks_if asks channel pdu) facts)
asks_wants true channel pdu facts = tt
asks_wants false channel pdu facts = tt

reply_wants : (replies : Bool) (handle : ℕ) (facts : Facts) → WantsIt (facts_doing (reply_if replies handle) facts)
reply_wants true handle facts = tt
reply_wants false handle facts = tt

passes_wanting : (setup : Setup) (facts : Facts) → EachOutcome setup facts (λ outcome. WantsIt (facts_passed outcome))
passes_wanting setup facts = record {
  rests = tt;
  awaits_request = λ channel doing. refl;
  awaits_response = λ channel advertiser doing. tt;
  central_listens = λ handle doing. tt;
  sent = λ channel link doing. opening_passes WantsIt link facts tt;
  responds = λ channel on doing is_on. tt;
  taken = λ channel octets pdu on fields handle is_on hears takes free. opening_passes WantsIt (link_taken facts.view on.params.own pdu fields handle) facts tt;
  scanned = λ channel octets pdu on doing is_on hears.
      asks_wants (true && does_ask (scan_answer on.params facts.view.accepted on.recent pdu)) channel pdu (with_scanner (scanner_after on facts.view.accepted pdu) facts);
  answered = λ channel octets pdu on doing is_on hears.
      asks_wants (false && does_ask (scan_answer on.params facts.view.accepted on.recent pdu)) channel pdu (with_scanner (scanner_after on facts.view.accepted pdu) facts);
  connects = λ channel octets pdu on access handle doing is_on hears answers next free in_range. (refl, refl);
  received = λ handle octets.
      reply_wants (replies_in facts.turn.slot (has_room setup facts) (link_at handle facts.links) octets) handle
      (link_received handle (has_room setup facts) octets facts);
}

wanting_kept : (setup : Setup) → IsKept setup Any WantsIt
wanting_kept setup = record {
  accepted = λ facts opcode octets command is accepted wants. wants;
  asked = λ facts command asks wants next. next;
  given = λ facts handle count start octets is wants. wants;
  octet = λ facts octet wants. wants;
  turns = record {
    starts = record {
      weakens = λ facts wants. tt;
      ends = λ reason facts any. tt;
      begins = λ slot facts any. tt;
      enters = λ slot facts any. tt;
      wins = λ slot activity facts any. tt;
      fixes = λ doing facts any. tt;
      does = λ doing facts may any. begin_wants doing facts may;
    };
    reports = λ facts any. tt;
    passes = λ facts wants. passes_wanting setup facts;
    words = λ handle facts listens wants. wants;
  };
}

pub always_wanted : (setup : Setup) (past : List Step) → IsWanted (facts_of setup past).turn.doing (facts_of setup past).wanted
always_wanted setup past = always setup Any WantsIt (wanting_kept setup) tt past
