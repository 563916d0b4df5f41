-- Each PDU that an end sends has an LLID in use.
use Rattle.std.proofs.Common.{◌<◌, ℕ, ◌&&◌, Bool, true, false, List, [], ◌∷◌, Option, Some, None, arith, if◌then◌else◌}
use Rattle.acl_banks.specs.declared.pieces.Piece.{Piece}
use Rattle.data_pdu.specs.declared.ctrl.Ctrl.{Ctrl}
use Rattle.link_model.specs.Setup.{Setup}
use Rattle.link_model.specs.Acknowledgement.{Acknowledgement, Pdu, empty_pdu, is_acked, next_sent}
use Rattle.link_model.specs.Data.{Data, data_acked_if, data_given, is_data, llid_of, next_piece, pdu_with}
use Rattle.link_model.specs.Step.{Step}
use Rattle.link_model.specs.Controls.{next_control, pdu_of_control}
use Rattle.link_model.specs.Fixing.{data_fixed_by}
use Rattle.link_model.specs.Packets.{pdu_sent}
use Rattle.link_model.specs.End.{facts_of}
use Rattle.link_model.proofs.Moves.{EachMoveKeeps, past_keeps}
use Rattle.link_model.specs.Sending.{data_sent_as}

abbrev HasLlid : Pdu → Type 0
HasLlid pdu = (0 < pdu.llid) × (pdu.llid < 4)

abbrev HaveLlids : Acknowledgement → Data → Type 0
HaveLlids ack outgoing = HasLlid ack.last × HasLlid outgoing.fixed

empty_llid : HasLlid empty_pdu
empty_llid = (omega arith, omega arith)

piece_llid : (piece : Option Piece) → HasLlid (pdu_with piece)
piece_llid None = empty_llid
piece_llid (Some piece) = by piece.start
  where
    by : (start : Bool) → (0 < llid_of start) × (llid_of start < 4)
    by true = (omega arith, omega arith)
    by false = (omega arith, omega arith)

control_llid : (control : Option Ctrl) → HasLlid (pdu_of_control control)
control_llid None = empty_llid
control_llid (Some ctrl) = (omega arith, omega arith)

given_llids : (handle : ℕ) (start : Bool) (body : List ℕ) (ack : Acknowledgement) (outgoing : Data) → HaveLlids ack outgoing
    → HaveLlids ack (data_given handle start body outgoing)
given_llids handle start [] ack outgoing have = have
given_llids handle start (octet ∷ octets) ack outgoing have = have

fixed_llid : (control : Bool) (waiting : ℕ) (quiet goes : Bool) (outgoing : Data)
    → HasLlid (data_fixed_by control waiting quiet goes outgoing).fixed
fixed_llid true waiting quiet goes outgoing = empty_llid
fixed_llid false waiting quiet true outgoing = piece_llid (next_piece outgoing)
fixed_llid false waiting quiet false outgoing = empty_llid

sent_llids : (payload : List ℕ) (is_new : Bool) (ack : Acknowledgement) (outgoing : Data) → HaveLlids ack outgoing
    → HaveLlids (next_sent is_new outgoing.fixed ack) (data_sent_as payload is_new outgoing)
sent_llids payload true ack outgoing have = (have.1, empty_llid)
sent_llids payload false ack outgoing have = have

acked_llids : (acked : Bool) (ack : Acknowledgement) (outgoing : Data) → HaveLlids ack outgoing → HaveLlids ack (data_acked_if acked outgoing)
acked_llids true ack outgoing have = have
acked_llids false ack outgoing have = have

llids_kept : EachMoveKeeps HaveLlids
llids_kept =
    record {
      first = (empty_llid, empty_llid);
      given = given_llids;
      reported = λ ack outgoing have. have;
      fixed = λ control waiting limit quiet goes again ack outgoing have.
          (have.0, fixed_llid control waiting quiet goes (record outgoing { limit = limit }));
      gone = λ control ack outgoing all have. (have.0, control_llid control);
      sent = λ payload ack outgoing have. sent_llids payload (is_acked ack) ack outgoing have;
      acked = λ acked ack outgoing out have. acked_llids (acked && is_data ack.last) ack outgoing have;
      accepted = λ accepted pdu ack outgoing have. have;
    }

one_llid : (acked fixes : Bool) (control : Option Ctrl) (fixed last : Pdu) → HasLlid fixed → HasLlid last
    → HasLlid (if acked then (if fixes then pdu_of_control control else fixed) else last)
one_llid true true control fixed last fixed_has last_has = control_llid control
one_llid true false control fixed last fixed_has last_has = fixed_has
one_llid false fixes control fixed last fixed_has last_has = last_has

pub past_llid : (setup : Setup) (past : List Step) → let pdu = pdu_sent (facts_of setup past) in (0 < pdu.llid) × (pdu.llid < 4)
past_llid setup past =
    let facts = facts_of setup past in
    let have = past_keeps HaveLlids llids_kept setup past in
    one_llid (is_acked facts.acknowledgement) facts.fixes_control (next_control facts) facts.outgoing.fixed facts.acknowledgement.last have.1 have.0
