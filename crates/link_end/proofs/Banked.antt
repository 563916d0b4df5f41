-- A bank that has the data of an end, step by step.
use Rattle.std.proofs.Common.{◌≡◌, ℕ, zero, suc, ◌+◌, ◌-◌, ◌<◌, ◌≤◌, ◌==◌, min, nat_lt, Bool, true, false, cond, not, ◌&&◌, ◌||◌, is_some, List, [], ◌∷◌, ◌++◌, length, take, drop, get_or, set, Option, Some, None, refl, ap, sym, ◌∙◌, subst, arith, if◌then◌else◌}
use Rattle.std.specs.List.{filter, find, flat_map}
use Rattle.std.specs.Option.{option_map}
use Rattle.std.proofs.lemmas.Bool.Decides.{nat_tests}
use Rattle.std.proofs.lemmas.List.{get_or-set_other}
use Rattle.std.proofs.lemmas.Option.{same_Some}
use Rattle.acl_banks.specs.declared.pieces.Piece.{Piece}
use Rattle.acl_banks.specs.Packets.{DataPacket, has_piece_out, has_unsent, is_all_sent, is_of, new_packet, packet_after_acked, packet_after_went, piece_of, sent_length, unsent_octets, with_first, without_first}
use Rattle.acl_banks.specs.Banks.{Bank, bank_after_acked, bank_after_credited, bank_after_drop, bank_after_offer, bank_after_went, credits_of, is_completed, packet_out, piece_length, next_piece as bank_next, unsent_of as bank_unsent}
use Rattle.acl_banks.proofs.Order.{is_left, is_out}
use Rattle.acl_banks.proofs.AllLinks.{other-acked, other-completed, other-drop, other-went, own-acked, own-completed, own-left, own-offer, own-offer-other, own-out, own-went}
use Rattle.link_model.specs.Setup.{Setup}
use Rattle.link_model.specs.Acknowledgement.{Pdu}
use Rattle.link_model.specs.Data.{Data, data_acked_if, data_given, data_reported, is_data, pdu_with, unsent_of, is_completed as is_done}
use Rattle.link_model.specs.Sending.{data_sent_as}
use Rattle.link_end.specs.Tied.{HoldsData, IsAfterAck, LeavesOthers, bank_went_if}

-- ---- what a bank has under the handle is what waits

module _ (handle : ℕ) (bank : Bank) (outgoing : Data) (holds : HoldsData handle bank outgoing) where
  pub cut_same : (count : ℕ) → bank_next bank handle count ≡ option_map (piece_of count) (find is_left outgoing.packets)
  cut_same count = ap (option_map (piece_of count)) (own-left bank.packets handle ∙ ap (find is_left) holds.packets)

  pub unsent_same : bank_unsent bank handle ≡ unsent_of outgoing
  unsent_same = ap (λ packets. flat_map unsent_octets packets) holds.packets

  pub out_same : packet_out bank handle ≡ find is_out outgoing.packets
  out_same = own-out bank.packets handle ∙ ap (find is_out) holds.packets

pub piece_body : (next : Option Piece) → piece_length next ≡ length (pdu_with next).body
piece_body None = refl
piece_body (Some piece) = refl

-- ---- the next piece goes out

pub holds_sent : (payload : List ℕ) (handle : ℕ) (bank : Bank) (outgoing : Data) (is_new carries : Bool) → is_data outgoing.fixed ≡ carries
    → HoldsData handle bank outgoing
    → HoldsData handle (bank_went_if (is_new && carries) bank handle (length outgoing.fixed.body)) (data_sent_as payload is_new outgoing)
holds_sent payload handle bank outgoing false carries is holds = holds
holds_sent payload handle bank outgoing true false is holds =
    record {
      packets = holds.packets
          ∙ ap (λ b. if b then with_first is_left (packet_after_went (length outgoing.fixed.body)) outgoing.packets else outgoing.packets) (sym is);
      complete = holds.complete;
    }
holds_sent payload handle bank outgoing true true is holds =
    record {
      packets = own-went bank.packets handle (length outgoing.fixed.body)
          ∙ ap (with_first is_left (packet_after_went (length outgoing.fixed.body))) holds.packets
          ∙ ap (λ b. if b then with_first is_left (packet_after_went (length outgoing.fixed.body)) outgoing.packets else outgoing.packets) (sym is);
      complete = holds.complete;
    }

-- a piece that goes out is out
some_out : (left limit : ℕ) → 0 < left → 1 ≤ limit → nat_lt 0 (min limit left) ≡ true
some_out left limit more some = grind (arith, nat_tests)

went_out : (handle limit : ℕ) → 1 ≤ limit → (packets : List DataPacket) → is_some (find (has_unsent handle) packets) ≡ true
    → is_some (find (has_piece_out handle) (with_first (has_unsent handle) (packet_after_went limit) packets)) ≡ true
went_out handle limit some [] left = absurd cc
went_out handle limit some (packet ∷ rest) left =
    by_tests (is_of handle packet) (nat_lt (sent_length packet) (length packet.body)) refl refl left (went_out handle limit some rest)
  where
    later : (b : Bool) (found : Option DataPacket) → is_some found ≡ true → is_some (cond b (Some packet) found) ≡ true
    later true found some = refl
    later false found some = some

    by_tests : (own unsent : Bool) → is_of handle packet ≡ own → nat_lt (sent_length packet) (length packet.body) ≡ unsent
        → is_some (find (has_unsent handle) (packet ∷ rest)) ≡ true
        → (is_some (find (has_unsent handle) rest) ≡ true
        → is_some (find (has_piece_out handle) (with_first (has_unsent handle) (packet_after_went limit) rest)) ≡ true)
        → is_some (find (has_piece_out handle) (with_first (has_unsent handle) (packet_after_went limit) (packet ∷ rest))) ≡ true
    by_tests true true e f left rest_out =
        let more : 0 < length packet.body - sent_length packet = grind (arith, nat_tests) in
        let out = some_out (length packet.body - sent_length packet) limit more some in
        simp (e, f, out) refl
    by_tests true false e f left rest_out =
        let in_rest : is_some (find (has_unsent handle) rest) ≡ true = simp (e, f) at left in
        simp (e, f) (later (nat_lt 0 packet.out) _ (rest_out in_rest))
    by_tests false unsent e f left rest_out =
        let in_rest : is_some (find (has_unsent handle) rest) ≡ true = simp e at left in
        simp e (rest_out in_rest)

data_is_some : (next : Option Piece) (fixed : Pdu) → is_data fixed ≡ true → pdu_with next ≡ fixed → is_some next ≡ true
data_is_some None fixed carries is = let no : is_data fixed ≡ false = ap is_data (sym is) in absurd cc
data_is_some (Some piece) fixed carries is = refl

found_some : (limit : ℕ) (first : Option DataPacket) → is_some (option_map (piece_of limit) first) ≡ true → is_some first ≡ true
found_some limit None some = some
found_some limit (Some packet) some = refl

pub next_is_some : (bank : Bank) (handle count : ℕ) (fixed : Pdu) → is_data fixed ≡ true
    → pdu_with (bank_next bank handle count) ≡ fixed → is_some (bank_next bank handle count) ≡ true
next_is_some bank handle count fixed carries is = data_is_some (bank_next bank handle count) fixed carries is

pub went_is_out : (bank : Bank) (handle count : ℕ) → 1 ≤ count → is_some (bank_next bank handle count) ≡ true
    → is_some (packet_out (bank_after_went bank handle count) handle) ≡ true
went_is_out bank handle count some next =
    went_out handle count some bank.packets (found_some count (find (has_unsent handle) bank.packets) next)

-- a PDU of data has an octet
some_body : (kind : Bool) (count : ℕ) → (kind && not (count == 0)) ≡ true → 1 ≤ count
some_body true zero is = absurd cc
some_body false zero is = absurd cc
some_body kind (suc count) is = omega arith

pub data_has_octets : (pdu : Pdu) → is_data pdu ≡ true → 1 ≤ length pdu.body
data_has_octets pdu is = some_body (pdu.llid == 1 || pdu.llid == 2) (length pdu.body) is

-- ---- what a piece that is acknowledged leaves

-- the next piece stays the next one
next_acked : (handle limit : ℕ) (packets : List DataPacket)
    → option_map (piece_of limit) (find (has_unsent handle) (with_first (has_piece_out handle) packet_after_acked packets))
    ≡ option_map (piece_of limit) (find (has_unsent handle) packets)
next_acked handle limit [] = refl
next_acked handle limit (packet ∷ rest) = by_test (has_piece_out handle packet) (next_acked handle limit rest)
  where
    same : sent_length (packet_after_acked packet) ≡ sent_length packet
    same = omega arith

    changed : option_map (piece_of limit) (cond (has_unsent handle (packet_after_acked packet)) (Some (packet_after_acked packet)) (find (has_unsent handle) rest))
        ≡ option_map (piece_of limit) (cond (has_unsent handle packet) (Some packet) (find (has_unsent handle) rest))
    changed = by_unsent (is_of handle packet) (nat_lt (sent_length packet) (length packet.body)) refl
      where
        by_unsent : (own unsent : Bool) → nat_lt (sent_length packet) (length packet.body) ≡ unsent
            → option_map (piece_of limit) (cond (own && nat_lt (sent_length (packet_after_acked packet)) (length packet.body)) (Some (packet_after_acked packet)) (find (has_unsent handle) rest))
            ≡ option_map (piece_of limit) (cond (own && unsent) (Some packet) (find (has_unsent handle) rest))
        by_unsent own unsent e =
            rw (same, e) (by_own own unsent)
          where
            piece_same : piece_of limit (packet_after_acked packet) ≡ piece_of limit packet
            piece_same = ap (λ n. record { start = packet.start && (n == 0); body = record { items = take limit (drop n packet.body) } }) same

            by_own : (own unsent : Bool)
                → option_map (piece_of limit) (cond (own && unsent) (Some (packet_after_acked packet)) (find (has_unsent handle) rest))
                ≡ option_map (piece_of limit) (cond (own && unsent) (Some packet) (find (has_unsent handle) rest))
            by_own true true = ap (λ piece. Some piece) piece_same
            by_own true false = refl
            by_own false unsent = refl

    by_test : (b : Bool)
        → option_map (piece_of limit) (find (has_unsent handle) (with_first (has_piece_out handle) packet_after_acked rest))
        ≡ option_map (piece_of limit) (find (has_unsent handle) rest)
        → option_map (piece_of limit) (find (has_unsent handle) (cond b (packet_after_acked packet ∷ rest) (packet ∷ with_first (has_piece_out handle) packet_after_acked rest)))
        ≡ option_map (piece_of limit) (find (has_unsent handle) (packet ∷ rest))
    by_test true later = changed
    by_test false later = by_unsent (has_unsent handle packet)
      where
        by_unsent : (unsent : Bool)
            → option_map (piece_of limit) (cond unsent (Some packet) (find (has_unsent handle) (with_first (has_piece_out handle) packet_after_acked rest)))
            ≡ option_map (piece_of limit) (cond unsent (Some packet) (find (has_unsent handle) rest))
        by_unsent true = refl
        by_unsent false = later

next_completed : (handle : ℕ) (packets : List DataPacket) (packet : DataPacket) → find (has_piece_out handle) packets ≡ Some packet
    → is_all_sent packet ≡ true → find (has_unsent handle) (without_first (has_piece_out handle) packets) ≡ find (has_unsent handle) packets
next_completed handle [] packet found all = refl
next_completed handle (first ∷ rest) packet found all = by_test (has_piece_out handle first) found (next_completed handle rest packet)
  where
    by_test : (b : Bool) → cond b (Some first) (find (has_piece_out handle) rest) ≡ Some packet
        → (find (has_piece_out handle) rest ≡ Some packet → is_all_sent packet ≡ true
        → find (has_unsent handle) (without_first (has_piece_out handle) rest) ≡ find (has_unsent handle) rest)
        → find (has_unsent handle) (cond b rest (first ∷ without_first (has_piece_out handle) rest)) ≡ find (has_unsent handle) (first ∷ rest)
    by_test true found later = sym (ap (λ b. cond b (Some first) (find (has_unsent handle) rest)) (by_own (is_of handle first)))
      where
        by_own : (own : Bool) → (own && nat_lt (sent_length first) (length first.body)) ≡ false
        by_own true =
            let same : is_all_sent first ≡ true = ap is_all_sent (same_Some first packet found) ∙ all in
            grind (arith, nat_tests)
        by_own false = refl
    by_test false found later = by_unsent (has_unsent handle first)
      where
        by_unsent : (unsent : Bool)
            → cond unsent (Some first) (find (has_unsent handle) (without_first (has_piece_out handle) rest))
            ≡ cond unsent (Some first) (find (has_unsent handle) rest)
        by_unsent true = refl
        by_unsent false = later found all

pub next_after_acked : (bank : Bank) (handle limit : ℕ) → bank_next (bank_after_acked bank handle) handle limit ≡ bank_next bank handle limit
next_after_acked bank handle limit = by_out (packet_out bank handle) refl
  where
    by_test : (packet : DataPacket) (all : Bool) → packet_out bank handle ≡ Some packet → is_all_sent packet ≡ all
        → bank_next (bank_after_acked bank handle) handle limit ≡ bank_next bank handle limit
    by_test packet true found e =
        let done : is_completed (packet_out bank handle) ≡ true = ap is_completed found ∙ e in
        simp done (ap (option_map (piece_of limit)) (next_completed handle bank.packets packet found e))
    by_test packet false found e =
        let part : is_completed (packet_out bank handle) ≡ false = ap is_completed found ∙ e in
        simp part (next_acked handle limit bank.packets)

    by_out : (out : Option DataPacket) → packet_out bank handle ≡ out
        → bank_next (bank_after_acked bank handle) handle limit ≡ bank_next bank handle limit
    by_out None found =
        let part : is_completed (packet_out bank handle) ≡ false = ap is_completed found in
        simp part (next_acked handle limit bank.packets)
    by_out (Some packet) found = by_test packet (is_all_sent packet) found refl

done_same : (out : Option DataPacket) → is_completed out ≡ is_done out
done_same None = refl
done_same (Some packet) = refl

pub holds_acked : (acked : Bool) (handle : ℕ) (before after : Bank) (outgoing : Data) → IsAfterAck acked handle before after
    → HoldsData handle before outgoing → HoldsData handle after (data_acked_if acked outgoing)
holds_acked false handle before after outgoing ack holds = subst (λ (b : Bank). HoldsData handle b outgoing) (sym ack.bank) holds
holds_acked true handle before after outgoing ack holds =
    let same : is_completed (packet_out before handle) ≡ is_done (find is_out outgoing.packets) =
    done_same (packet_out before handle) ∙ ap is_done (out_same handle before outgoing holds) in
    record {
      packets = ap (λ (b : Bank). filter (is_of handle) b.packets) ack.bank
          ∙ by_done (is_completed (packet_out before handle))
          ∙ ap (λ d. if d then without_first is_out outgoing.packets else with_first is_out packet_after_acked outgoing.packets) same;
      complete = ack.counted refl
          ∙ (λ i. if same i then holds.complete i + 1 else holds.complete i);
    }
  where
    by_done : (d : Bool) → filter (is_of handle) (if d
        then record {
          packets = without_first (has_piece_out handle) before.packets;
          counts = set before.counts handle (credits_of before handle + 1);
        }
        else record before { packets = with_first (has_piece_out handle) packet_after_acked before.packets }).packets
        ≡ (if d then without_first is_out outgoing.packets else with_first is_out packet_after_acked outgoing.packets)
    by_done true = own-completed before.packets handle ∙ ap (without_first is_out) holds.packets
    by_done false = own-acked before.packets handle ∙ ap (with_first is_out packet_after_acked) holds.packets

-- ---- the other links

went_leaves : (went : Bool) (bank : Bank) (handle count : ℕ) → LeavesOthers handle bank (bank_went_if went bank handle count)
went_leaves false bank handle count other differs = (refl, refl)
went_leaves true bank handle count other differs = (other-went bank.packets handle other differs count, refl)

pub sent_leaves : (went : Bool) (handle count : ℕ) (before after : Bank) → after ≡ bank_went_if went before handle count
    → LeavesOthers handle before after
sent_leaves went handle count before after is =
    subst (LeavesOthers handle before) (sym is) (went_leaves went before handle count)

acked_leaves : (bank : Bank) (handle : ℕ) → LeavesOthers handle bank (bank_after_acked bank handle)
acked_leaves bank handle other differs = by_done (is_completed (packet_out bank handle))
  where
    by_done : (d : Bool)
        → let after = (if d
        then record {
          packets = without_first (has_piece_out handle) bank.packets;
          counts = set bank.counts handle (credits_of bank handle + 1);
        }
        else record bank { packets = with_first (has_piece_out handle) packet_after_acked bank.packets }) in
        (filter (is_of other) after.packets ≡ filter (is_of other) bank.packets) × (credits_of after other ≡ credits_of bank other)
    by_done true =
        (other-completed bank.packets handle other differs, get_or-set_other bank.counts handle other (credits_of bank handle + 1) 0 differs)
    by_done false = (other-acked bank.packets handle other differs, refl)

ack_leaves : (acked : Bool) (handle : ℕ) (before after : Bank) → IsAfterAck acked handle before after → LeavesOthers handle before after
ack_leaves true handle before after ack =
    subst (LeavesOthers handle before) (sym ack.bank) (acked_leaves before handle)
ack_leaves false handle before after ack = subst (LeavesOthers handle before) (sym ack.bank) (λ other differs. (refl, refl))

-- the same, where the end was read before it has what it was set up with
pub ack_leaves_as : (acked : Bool) (one other : Setup) (before after : Bank) → other ≡ one
    → IsAfterAck acked other.link.handle before after → LeavesOthers one.link.handle before after
ack_leaves_as acked one other before after same ack =
    subst (λ (s : Setup). LeavesOthers s.link.handle before after) same (ack_leaves acked other.link.handle before after ack)

pub offer_leaves : (bank : Bank) (handle : ℕ) (start : Bool) (body : List ℕ)
    → LeavesOthers handle bank (bank_after_offer bank (new_packet handle start body))
offer_leaves bank handle start body other differs = (own-offer-other bank.packets handle other start body differs, refl)

pub credited_leaves : (bank : Bank) (handle : ℕ) → LeavesOthers handle bank (bank_after_credited bank handle)
credited_leaves bank handle other differs = (refl, get_or-set_other bank.counts handle other 0 0 differs)

pub drop_leaves : (bank : Bank) (handle : ℕ) → LeavesOthers handle bank (bank_after_drop bank handle)
drop_leaves bank handle other differs =
    (other-drop bank.packets handle other differs, get_or-set_other bank.counts handle other 0 0 differs)

-- ---- what the host does

pub holds_given : (handle : ℕ) (bank : Bank) (outgoing : Data) (start : Bool) (body : List ℕ) → 1 ≤ length body
    → HoldsData handle bank outgoing
    → HoldsData handle (bank_after_offer bank (new_packet handle start body)) (data_given handle start body outgoing)
holds_given handle bank outgoing start [] some holds = absurd (omega (arith, some))
holds_given handle bank outgoing start (octet ∷ octets) some holds =
    record {
      packets = own-offer bank.packets handle start (octet ∷ octets)
          ∙ ap (λ packets. packets ++ new_packet handle start (octet ∷ octets) ∷ []) holds.packets;
      complete = holds.complete;
    }

pub set_zero : (xs : List ℕ) (i : ℕ) → get_or (set xs i 0) i 0 ≡ 0
set_zero [] i = refl
set_zero (x ∷ xs) zero = refl
set_zero (x ∷ xs) (suc i) = set_zero xs i

pub holds_reported : (handle : ℕ) (bank : Bank) (outgoing : Data) → HoldsData handle bank outgoing
    → HoldsData handle (bank_after_credited bank handle) (data_reported outgoing)
holds_reported handle bank outgoing holds = record { packets = holds.packets; complete = set_zero bank.counts handle }
