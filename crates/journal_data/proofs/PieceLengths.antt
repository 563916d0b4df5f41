-- What a host receives of data is the payload of a PDU, so its length fits into the length of an ACL packet.
use Rattle.std.proofs.Common.{◌≡◌, ℕ, ◌≤◌, ◌%◌, ◌==◌, Bool, true, false, Option, Some, None, List, [], ◌∷◌, ◌++◌, length, ap, cond, refl, ◌∙◌, arith, ◌*◌, ◌/◌, ◌+◌}
use Rattle.std.specs.Prelude.{◌-◌, IfSome, drop, not, take, if◌then◌else◌}
use Rattle.std.specs.List.{AllByRecursion}
use Rattle.std.specs.Str.{bytes_eq}
use Rattle.std.proofs.lemmas.Bool.{and_parts}
use Rattle.std.proofs.lemmas.List.{length-append, length-drop, length-take-le, take-append-drop}
use Rattle.acl_banks.specs.declared.pieces.Piece.{Piece}
use Rattle.air_frame.specs.declared.Heard.TheVariants.{NotOurs, Broken, Whole}
use Rattle.air_frame.specs.Hearing.{heard_in}
use Rattle.air_frame.specs.Packet.{access_octets, is_packet, is_pdu, on_air, pdu_in}
use Rattle.air_frame.proofs.Forms.{form-fits}
use Rattle.ccm_link.specs.Ccm.{opened_payload}
use Rattle.ccm_link.specs.Payload.{nonce}
use Rattle.ccm_link.proofs.Sealing.{length-ciphertext}
use Rattle.hci_cmd.specs.declared.command.Command.{Command}
use Rattle.hci_cmd.specs.declared.command.Command.TheVariants.{Reset}
use Rattle.host_view.specs.Noted.{two_octets}
use Rattle.journal_acks.specs.link_model.Acknowledgement.{Pdu}
use Rattle.journal_acks.specs.link_model.Facts.{Facts as EndFacts}
use Rattle.journal_acks.specs.link_model.Kept.{kept_from}
use Rattle.journal_acks.specs.link_model.Pieces.{kept_if}
use Rattle.journal_acks.specs.link_model.Verdicts.{has_room_for, pdu_by, pdu_of, whole_in}
use Rattle.journal_acks.specs.link_model.Packets.{counts_here, good_pdu, pdu_read_in, whole_pdu}
use Rattle.journal_acks.specs.link_model.Payload.{first_octet, opened_if, opens_now, read_pdu}
use Rattle.journal_acks.specs.link_model.enc_phase.Phases.{is_central}
use Rattle.journal_acks.specs.link_model.enc_phase.Sealing.{EncEnd, is_right, opened_body}
use Rattle.journal_acks.specs.link_model.Setup.{Setup as EndSetup}
use Rattle.journal_acks.specs.open_links.declared.ended.LinkEnded.{LinkEnded}
use Rattle.journal_acks.specs.open_links.Data.{received_past}
use Rattle.journal_acks.specs.open_links.Ended.{received_without}
use Rattle.journal_acks.specs.open_links.OpenLinks.{OpenLink, facts_in, link_at}
use Rattle.wire_fields.specs.Field.{little_endian}
use Rattle.journal_acks.specs.controller_model.Commands.{received_after}
use Rattle.journal_acks.specs.controller_model.Data.{acl_packet}
use Rattle.journal_acks.specs.controller_model.Facts.{Facts, Setup, first_facts}
use Rattle.journal_acks.specs.controller_model.Heard.{has_room, link_taken, piece_taken}
use Rattle.journal_acks.specs.controller_model.Side.{facts_of}
use Rattle.journal_acks.specs.controller_model.Step.{Step}
use Rattle.journal_acks.proofs.controller_model.Always.{IsKept, always, opening_passes, received_shut}
use Rattle.journal_acks.proofs.controller_model.Handing.{left_are}
use Rattle.journal_acks.proofs.controller_model.OtherNotes.{two_octets_hold}
use Rattle.journal_acks.specs.controller_model.Links.{ends_for}

abbrev pub AreShort : List (ℕ × Piece) → Type 0
AreShort received = AllByRecursion (λ (piece : ℕ × Piece). length piece.1.body.items ≤ 255) received

both_short : (xs ys : List (ℕ × Piece)) → AreShort xs → AreShort ys → AreShort (xs ++ ys)
both_short [] ys are also = also
both_short (x ∷ xs) ys are also = (are.0, both_short xs ys are.1 also)

without_short : (handle : ℕ) (received : List (ℕ × Piece)) → AreShort received → AreShort (received_without handle received)
without_short handle [] are = tt
without_short handle (piece ∷ received) are = at (piece.0 == handle) (without_short handle received are.1)
  where
    at : (drops : Bool) → AreShort (received_without handle received)
        → AreShort (cond (not drops) (piece ∷ received_without handle received) (received_without handle received))
    at true rest = rest
    at false rest = (are.0, rest)

past_short : (place : Option OpenLink) (handle : ℕ) (received : List (ℕ × Piece)) → AreShort received → AreShort (received_past place handle received)
past_short None handle received are = are
past_short (Some link) handle received are = without_short handle received are

shut_short : (received : List (ℕ × Piece)) (ended : List LinkEnded) → AreShort received → AreShort (received_shut received ended)
shut_short received [] are = are
shut_short received (one ∷ ended) are = shut_short (received_without one.handle received) ended (without_short one.handle received are)

commanded_short : (command : Command) (received : List (ℕ × Piece)) → AreShort received → AreShort (received_after command received)
commanded_short Reset received are = tt
commanded_short other received are = are

-- ---- what is taken

-- a whole PDU has at most 257 octets
whole_short : (setup : EndSetup) (facts : EndFacts) (octets : List ℕ) → IfSome (whole_pdu setup facts octets) (λ pdu. length pdu ≤ 257)
unfolding whole_pdu heard_in
whole_short setup facts octets =
    heard (bytes_eq (take 4 octets) (access_octets setup.link.fields.access))
    (is_packet facts.event.channel setup.link.fields.access setup.link.fields.crc_init octets) refl
  where
    fits : (room : Bool) (pdu : List ℕ) → length pdu ≤ 257 → IfSome (pdu_by room pdu) (λ one. length one ≤ 257)
    fits true pdu short = short
    fits false pdu short = tt

    heard : (ours packet : Bool) → is_packet facts.event.channel setup.link.fields.access setup.link.fields.crc_init octets ≡ packet
        → IfSome (whole_in setup.link.max_rx (opens_now facts.encryption.end) (if ours then (if packet then Whole (record { items = pdu_in facts.event.channel octets }) else Broken) else NotOurs))
        (λ pdu. length pdu ≤ 257)
    heard false packet is = tt
    heard true false is = tt
    heard true true is =
        let pdu = pdu_in facts.event.channel octets in
        fits (has_room_for setup.link.max_rx (opens_now facts.encryption.end) pdu) pdu
        (form-fits pdu (and_parts (is_pdu pdu)
        (bytes_eq octets (on_air facts.event.channel setup.link.fields.access setup.link.fields.crc_init pdu)) is).0)

-- a payload that is opened is not longer than it was
body_short : (end : EncEnd) (payload : List ℕ) → length (opened_body end payload) ≤ length payload
unfolding opened_payload
body_short end payload = by (opens_now end)
  where
    now : List ℕ
    now = nonce end.opened (not (is_central end.role)) end.iv

    by : (opens : Bool) → length (if opens then opened_payload end.key now payload else payload) ≤ length payload
    by true =
        let count = length payload - 4 in
        omega (arith, length-ciphertext end.key now (take count payload), length-take-le count payload (omega arith))
    by false = omega arith

read_short : (counts : Bool) (end : EncEnd) (pdu : List ℕ) → length pdu ≤ 257 → IfSome (read_pdu counts end pdu) (λ read. length read ≤ 257)
read_short false end pdu short = short
read_short true end pdu short = by (is_right end (first_octet pdu) (drop 2 pdu))
  where
    by : (right : Bool) → IfSome (opened_if right end pdu) (λ read. length read ≤ 257)
    by true =
        let body = opened_body end (drop 2 pdu) in
        omega (arith, short, length-append (take 2 pdu) body, length-append (take 2 pdu) (drop 2 pdu), ap length (take-append-drop 2 pdu), body_short end (drop 2 pdu))
    by false = tt

-- so a good one has no more
good_short : (setup : EndSetup) (facts : EndFacts) (octets : List ℕ) → IfSome (good_pdu setup facts octets) (λ pdu. length pdu ≤ 257)
unfolding good_pdu
good_short setup facts octets = by (whole_pdu setup facts octets) (whole_short setup facts octets)
  where
    by : (whole : Option (List ℕ)) → IfSome whole (λ pdu. length pdu ≤ 257) → IfSome (pdu_read_in facts whole) (λ pdu. length pdu ≤ 257)
    by None short = tt
    by (Some pdu) short = read_short (counts_here facts pdu) facts.encryption.end pdu short

piece_short : (keeps : Bool) (handle : ℕ) (pdu : Pdu) → length pdu.body ≤ 255 → AreShort (kept_if keeps handle pdu)
piece_short true handle pdu short = (short, tt)
piece_short false handle pdu short = tt

found_short : (setup : EndSetup) (slot : ℕ) (room : Bool) (found : Option (List ℕ)) (facts : EndFacts) → IfSome found (λ pdu. length pdu ≤ 257)
    → AreShort (kept_from setup slot room found facts)
found_short setup slot room None facts short = tt
found_short setup slot room (Some pdu) facts short =
    piece_short _ setup.link.handle (pdu_of pdu) (let less = length-drop 2 pdu in omega (arith, less, short))

taken_short : (slot : ℕ) (room : Bool) (octets : List ℕ) (place : Option OpenLink) → AreShort (piece_taken slot room place octets)
taken_short slot room octets None = tt
taken_short slot room octets (Some link) =
    found_short link.setup slot room (good_pdu link.setup (facts_in link) octets) (facts_in link) (good_short link.setup (facts_in link) octets)

-- ---- at any time

abbrev IsShort : Facts → Type 0
IsShort facts = AreShort facts.received

short_kept : (setup : Setup) → IsKept setup IsShort IsShort
short_kept setup = record {
  accepted = λ facts opcode octets command is accepted are. commanded_short command facts.received are;
  asked = λ facts command asks before are. are;
  given = λ facts handle count start octets is are. are;
  octet = λ facts octet are. are;
  turns = record {
    starts = record {
      weakens = λ facts are. are;
      ends = λ reason facts are. shut_short facts.received (ends_for reason facts) are;
      begins = λ slot facts are. are;
      enters = λ slot facts are. are;
      wins = λ slot activity facts are. are;
      fixes = λ doing facts are. are;
      does = λ doing facts may are. are;
    };
    reports = λ facts are. left_are (λ (piece : ℕ × Piece). length piece.1.body.items ≤ 255) facts.view facts.received are;
    passes = λ facts are. record {
      rests = are;
      awaits_request = λ channel doing. are;
      awaits_response = λ channel advertiser doing. are;
      central_listens = λ handle doing. are;
      sent = λ channel link doing.
          opening_passes IsShort link facts (past_short (link_at link.handle facts.links) link.handle facts.received are);
      responds = λ channel on doing is_on. are;
      taken = λ channel octets pdu on fields handle is_on hears takes free.
          opening_passes IsShort (link_taken facts.view on.params.own pdu fields handle) facts
          (past_short (link_at handle facts.links) handle facts.received are);
      scanned = λ channel octets pdu on doing is_on hears. are;
      answered = λ channel octets pdu on doing is_on hears. are;
      connects = λ channel octets pdu on access handle doing is_on hears answers next free in_range. are;
      received = λ handle octets.
          let slot = facts.turn.slot in
          let room = has_room setup facts in
          both_short facts.received (piece_taken slot room (link_at handle facts.links) octets) are
          (taken_short slot room octets (link_at handle facts.links));
    };
    words = λ handle facts listens are. are;
  };
}

first_short : (setup : Setup) → IsShort (first_facts setup)
first_short setup = tt

pub all_short : (setup : Setup) (past : List Step) → AreShort (facts_of setup past).received
all_short setup past = always setup IsShort IsShort (short_kept setup) (first_short setup) past

-- ---- in an ACL packet

small : (n : ℕ) → n ≤ 255 → n % 65536 ≡ n
small n few = omega (arith, few)

pub packet_length : (piece : ℕ × Piece) → length piece.1.body.items ≤ 255
    → length (acl_packet piece) ≡ 5 + two_octets 3 (acl_packet piece)
unfolding little_endian
packet_length piece short =
    let octets = length piece.1.body.items in
    let is : octets % 256 + 256 * (octets / 256 % 256) ≡ octets = two_octets_hold octets ∙ small octets short in
    omega (arith, is)
