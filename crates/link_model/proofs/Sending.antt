-- What an end sent, with the packets that its host gave it, move by move.
use Rattle.std.proofs.Common.{◌≡◌, ℕ, ◌+◌, ◌≤◌, ◌==◌, nat_lt, Bool, true, false, cond, ◌&&◌, List, [], ◌∷◌, ◌++◌, length, take, drop, Option, Some, None, refl, ap, sym, ◌∙◌, subst, arith, if◌then◌else◌}
use Rattle.std.specs.List.{find}
use Rattle.std.specs.Option.{option_map, option_or}
use Rattle.std.proofs.lemmas.Bool.{eqb-true, eqb-false}
use Rattle.std.proofs.lemmas.Bool.Decides.{nat_tests}
use Rattle.std.proofs.lemmas.List.{append-nil, append_cancel_left, length-append, take-append-le, take_all}
use Rattle.std.proofs.lemmas.List.Folds.{find-append}
use Rattle.std.proofs.lemmas.Option.{none-some}
use Rattle.acl_banks.specs.Packets.{DataPacket, IsFresh, Marked, is_all_sent, marked_octets, new_packet, packet_after_acked, packet_after_went, piece_of, sent_length, with_first, without_first}
use Rattle.acl_banks.specs.History.{Past}
use Rattle.acl_banks.proofs.Octets.{piece-again}
use Rattle.acl_banks.proofs.Order.{IsHead, head_left, head_out, is_left-head, is_out-head, link-acked, link-completed, link-went}
use Rattle.acl_banks.proofs.OneLink.{IsKept, all_counted, all_octets, kept-acked, kept-completed, kept-credited, kept-empty, kept-offer, kept-went, outs}
use Rattle.data_pdu.specs.declared.ctrl.Ctrl.{Ctrl}
use Rattle.link_model.specs.Setup.{Setup}
use Rattle.link_model.specs.Acknowledgement.{Acknowledgement, Pdu, empty_pdu, first_acknowledgement, is_acked, next_sent, with_accepted, with_acked}
use Rattle.link_model.specs.Data.{Data, acked_data, data_acked, data_acked_if, data_completed, data_given, data_in, data_of, data_reported, data_sent, first_data, is_completed, is_data, is_out, is_unsent, llid_of, pdu_with, sent_data}
use Rattle.link_model.proofs.Counts.{accepted_counted, acked_counted, AreCounted, first_counted, sent_counted}
use Rattle.link_model.proofs.Outgoing.{all_acked, data-push, none_out, not_out}
use Rattle.link_model.specs.Controls.{pdu_of_control}
use Rattle.link_model.specs.Facts.{Facts}
use Rattle.link_model.specs.Fixing.{data_fixed_by}
use Rattle.link_model.specs.Step.{Step}
use Rattle.link_model.specs.End.{facts_of}
use Rattle.link_model.specs.Delivery.{IsInOrder}
use Rattle.link_model.proofs.Moves.{EachMoveKeeps, past_keeps}
use Rattle.link_model.specs.Sending.{data_sent_as}

-- what became of the data, as the bank of all links has it
abbrev pub past_of : Acknowledgement → Data → Past
past_of ack outgoing =
    record { packets = outgoing.given; sent = sent_data ack; acknowledged = acked_data ack; reported = outgoing.reported }

-- where the fixed PDU is data, it is the next piece, cut at its own length
abbrev pub IsNext : List DataPacket → Pdu → Type 0
IsNext packets fixed = is_data fixed ≡ true → pdu_with (option_map (piece_of (length fixed.body)) (find is_unsent packets)) ≡ fixed

pub record IsTogether (ack : Acknowledgement) (outgoing : Data) : Type 0 where
  pub kept : IsKept outgoing.packets outgoing.complete (past_of ack outgoing)
  pub counts : AreCounted ack
  pub next : IsNext outgoing.packets outgoing.fixed

-- a PDU that is no data is no piece
not_next : (packets : List DataPacket) (fixed : Pdu) → is_data fixed ≡ false → IsNext packets fixed
not_next packets fixed is holds = let no : ◌≡◌ {A = Bool} false true = sym is ∙ holds in absurd cc

empty_next : (packets : List DataPacket) → IsNext packets empty_pdu
empty_next packets = not_next packets empty_pdu refl

pub control_no_data : (control : Option Ctrl) → is_data (pdu_of_control control) ≡ false
control_no_data None = refl
control_no_data (Some ctrl) = refl

first_together : IsTogether first_acknowledgement first_data
first_together = record { kept = kept-empty 0 refl; counts = first_counted; next = empty_next [] }

-- ---- the host gives a packet

pub next-given : (count : ℕ) (found given : Option DataPacket) (fixed : Pdu) → is_data fixed ≡ true
    → pdu_with (option_map (piece_of count) found) ≡ fixed → pdu_with (option_map (piece_of count) (option_or found given)) ≡ fixed
next-given count None given fixed holds is = let no : is_data fixed ≡ false = ap is_data (sym is) in absurd cc
next-given count (Some packet) given fixed holds is = is

given_together : (handle : ℕ) (start : Bool) (body : List ℕ) (ack : Acknowledgement) (outgoing : Data) → IsTogether ack outgoing
    → IsTogether ack (data_given handle start body outgoing)
given_together handle start [] ack outgoing are = are
given_together handle start (octet ∷ octets) ack outgoing are =
    let packet = new_packet handle start (octet ∷ octets) in
    let fresh : IsFresh packet = record { some = omega arith; none_acknowledged = refl; none_out = refl } in
    let count = length outgoing.fixed.body in
    record {
      kept = kept-offer outgoing.packets outgoing.complete (past_of ack outgoing) packet fresh are.kept;
      counts = are.counts;
      next = λ holds.
          ap (λ o. pdu_with (option_map (piece_of count) o)) (find-append is_unsent outgoing.packets (packet ∷ []))
          ∙ next-given count (find is_unsent outgoing.packets) (find is_unsent (packet ∷ [])) outgoing.fixed holds (are.next holds);
    }

reported_together : (ack : Acknowledgement) (outgoing : Data) → IsTogether ack outgoing → IsTogether ack (data_reported outgoing)
reported_together ack outgoing are =
    record {
      kept = kept-credited outgoing.packets outgoing.complete (past_of ack outgoing) are.kept;
      counts = are.counts;
      next = are.next;
    }

-- ---- a PDU is fixed

-- a piece that is cut at its own length is that piece
pub cut_again : (limit : ℕ) (found : Option DataPacket)
    → let next = pdu_with (option_map (piece_of limit) found) in
    pdu_with (option_map (piece_of (length next.body)) found) ≡ next
cut_again limit None = refl
cut_again limit (Some packet) = ap (λ piece. pdu_with (Some piece)) (piece-again limit packet)

fixed_together : (control : Bool) (waiting limit : ℕ) (quiet goes again : Bool) (ack : Acknowledgement) (outgoing : Data)
    → IsTogether ack outgoing
    → IsTogether ack
    (record (data_fixed_by control waiting quiet goes (record outgoing { limit = limit })) { more_again = again })
fixed_together true waiting limit quiet goes again ack outgoing are =
    record { kept = are.kept; counts = are.counts; next = empty_next outgoing.packets }
fixed_together false waiting limit quiet false again ack outgoing are =
    record { kept = are.kept; counts = are.counts; next = empty_next outgoing.packets }
fixed_together false waiting limit quiet true again ack outgoing are =
    record {
      kept = are.kept;
      counts = are.counts;
      next = λ holds. cut_again limit (find is_unsent outgoing.packets);
    }

gone_together : (control : Option Ctrl) (ack : Acknowledgement) (outgoing : Data) → IsTogether ack outgoing
    → IsTogether ack (record outgoing { fixed = pdu_of_control control })
gone_together control ack outgoing are =
    record {
      kept = are.kept;
      counts = are.counts;
      next = not_next outgoing.packets (pdu_of_control control) (control_no_data control);
    }

-- ---- nothing is out

pub nothing_out : (ack : Acknowledgement) (outgoing : Data) → IsTogether ack outgoing → acked_data ack ≡ sent_data ack
    → outs outgoing.packets ≡ []
nothing_out ack outgoing are same =
    sym (append_cancel_left (acked_data ack) [] (outs outgoing.packets) (append-nil (acked_data ack) ∙ same ∙ are.kept.sent))

head_idle : (packet : DataPacket) (rest : List DataPacket) → find is_out (packet ∷ rest) ≡ None → packet.out ≡ 0
head_idle packet rest none = by_test (is_out packet) refl none
  where
    by_test : (b : Bool) → is_out packet ≡ b → cond b (Some packet) (find is_out rest) ≡ None → packet.out ≡ 0
    by_test true e none = absurd (none-some packet (sym none))
    by_test false e none = grind (arith, nat_tests)

-- a past with other words for what was sent and what was acknowledged
kept_at : (packets : List DataPacket) (count : ℕ) (past : Past) (sent acknowledged : List Marked) → past.sent ≡ sent
    → past.acknowledged ≡ acknowledged → IsKept packets count past
    → IsKept packets count (record past { sent = sent; acknowledged = acknowledged })
kept_at packets count past sent acknowledged same_sent same_acknowledged kept =
    subst (λ (s : List Marked). IsKept packets count (record past { sent = s; acknowledged = acknowledged })) same_sent
    (subst (λ (a : List Marked). IsKept packets count (record past { acknowledged = a })) same_acknowledged kept)

-- ---- a PDU is sent

-- what a PDU of data has in it is the octets of the piece
piece_data : (start : Bool) (octets : List ℕ) → is_data (record { llid = llid_of start; body = octets }) ≡ true
    → data_in (record { llid = llid_of start; body = octets }) ≡ marked_octets start octets
piece_data true octets holds = ap (λ b. if b then marked_octets true octets else []) holds
piece_data false octets holds = ap (λ b. if b then marked_octets false octets else []) holds

no_data_in : (pdu : Pdu) → is_data pdu ≡ false → data_in pdu ≡ []
no_data_in pdu is = ap (λ b. if b then marked_octets (pdu.llid == 2) pdu.body else []) is

abbrev packets_went : Bool → ℕ → List DataPacket → List DataPacket
packets_went carries count packets = if carries then with_first is_unsent (packet_after_went count) packets else packets

-- the next piece goes out, in a PDU of this number of octets
piece_sent : (ack : Acknowledgement) (outgoing : Data) (found : Option DataPacket) → IsTogether ack outgoing → ack.acked ≡ length ack.sent
    → is_data outgoing.fixed ≡ true → find is_unsent outgoing.packets ≡ found
    → pdu_with (option_map (piece_of (length outgoing.fixed.body)) found) ≡ outgoing.fixed
    → IsKept (with_first is_unsent (packet_after_went (length outgoing.fixed.body)) outgoing.packets) outgoing.complete
    (record (past_of ack outgoing) { sent = sent_data ack ++ data_in outgoing.fixed })
piece_sent ack outgoing None are all holds found is = let no : is_data outgoing.fixed ≡ false = ap is_data (sym is) in absurd cc
piece_sent ack outgoing (Some packet) are all holds found is =
    let count = length outgoing.fixed.body in
    let order = are.kept.in_order in
    let nothing = nothing_out ack outgoing are (all_acked ack (omega (arith, all))) in
    let none = none_out outgoing.packets order nothing in
    let head = head_left outgoing.packets packet order none found in
    let idle = head_idle packet head.rest (ap (find is_out) (sym head.packets_are) ∙ none) in
    let left = is_left-head outgoing.packets packet found in
    let piece = piece_of count packet in
    let carried : data_in outgoing.fixed ≡ marked_octets piece.start piece.body.items =
    ap data_in (sym is) ∙ piece_data piece.start piece.body.items (ap is_data is ∙ holds) in
    let before : IsKept (packet ∷ head.rest) outgoing.complete (past_of ack outgoing) =
    subst (λ (ps : List DataPacket). IsKept ps outgoing.complete (past_of ack outgoing)) head.packets_are are.kept in
    let after = kept-went packet head.rest outgoing.complete count (past_of ack outgoing) before idle in
    subst (λ (ps : List DataPacket). IsKept ps outgoing.complete
    (record (past_of ack outgoing) { sent = sent_data ack ++ data_in outgoing.fixed })) (sym (link-went outgoing.packets packet count head left))
    (subst (λ (o : List Marked). IsKept (packet_after_went count packet ∷ head.rest) outgoing.complete
    (record (past_of ack outgoing) { sent = sent_data ack ++ o })) (sym carried) after)

kept_sent : (carries : Bool) (ack : Acknowledgement) (outgoing : Data) → IsTogether ack outgoing → ack.acked ≡ length ack.sent
    → is_data outgoing.fixed ≡ carries
    → IsKept (packets_went carries (length outgoing.fixed.body) outgoing.packets) outgoing.complete
    (record (past_of ack outgoing) { sent = sent_data ack ++ data_in outgoing.fixed })
kept_sent true ack outgoing are all holds =
    piece_sent ack outgoing (find is_unsent outgoing.packets) are all holds refl (are.next holds)
kept_sent false ack outgoing are all holds =
    kept_at outgoing.packets outgoing.complete (past_of ack outgoing) (sent_data ack ++ data_in outgoing.fixed) (acked_data ack)
    (sym (append-nil (sent_data ack)) ∙ ap (λ octets. sent_data ack ++ octets) (sym (no_data_in outgoing.fixed holds))) refl are.kept

sent_together : (payload : List ℕ) (is_new : Bool) (ack : Acknowledgement) (outgoing : Data) → is_acked ack ≡ is_new
    → IsTogether ack outgoing
    → IsTogether (next_sent is_new outgoing.fixed ack) (data_sent_as payload is_new outgoing)
sent_together payload true ack outgoing is are =
    let all : ack.acked ≡ length ack.sent = eqb-true ack.acked (length ack.sent) is in
    let next = outgoing.fixed in
    record {
      kept = kept_at (data_sent outgoing).packets outgoing.complete
          (record (past_of ack outgoing) { sent = sent_data ack ++ data_in next })
          (data_of (ack.sent ++ next ∷ [])) (data_of (take ack.acked (ack.sent ++ next ∷ [])))
          (sym (data-push ack.sent next))
          (ap data_of (sym (take-append-le ack.acked ack.sent (next ∷ []) (omega (arith, all)))))
          (kept_sent (is_data next) ack outgoing are all refl);
      counts = sent_counted true next ack is are.counts;
      next = empty_next (data_sent outgoing).packets;
    }
sent_together payload false ack outgoing is are =
    record { kept = are.kept; counts = sent_counted false outgoing.fixed ack is are.counts; next = are.next }

-- ---- the PDU that was sent last is acknowledged

-- where the last PDU is no data, it adds nothing to what is acknowledged
acked_front : (ack : Acknowledgement) (front : List Pdu) → ack.sent ≡ front ++ ack.last ∷ [] → ack.acked ≡ length front
    → data_in ack.last ≡ [] → acked_data ack ≡ sent_data ack
acked_front ack front sent_are count nothing =
    ap (λ n. data_of (take n ack.sent)) count ∙ ap (λ pdus. data_of (take (length front) pdus)) sent_are
    ∙ ap data_of (take-append-le (length front) front (ack.last ∷ []) (omega arith) ∙ take_all (length front) front (omega arith))
    ∙ sym (append-nil (data_of front)) ∙ ap (λ octets. data_of front ++ octets) (sym nothing)
    ∙ sym (data-push front ack.last) ∙ ap data_of (sym sent_are)

pub nothing_acked : (ack : Acknowledgement) → AreCounted ack → ack.acked + 1 ≤ length ack.sent → data_in ack.last ≡ []
    → acked_data ack ≡ sent_data ack
nothing_acked ack are waits nothing =
    acked_front ack are.last_sent.front are.last_sent.sent_are
    (omega (arith, waits, are.one_at_a_time, ap length are.last_sent.sent_are, length-append are.last_sent.front (ack.last ∷ []))) nothing

-- all that was sent is acknowledged then
acked_more : (ack : Acknowledgement) (outgoing : Data) → IsTogether ack outgoing
    → acked_data ack ++ outs outgoing.packets ≡ data_of (take (ack.acked + 1) ack.sent)
acked_more ack outgoing are = sym are.kept.sent ∙ ap data_of (sym (take_all (ack.acked + 1) ack.sent are.counts.one_at_a_time))

none_changed : (packets : List DataPacket) → find is_out packets ≡ None → with_first is_out packet_after_acked packets ≡ packets
none_changed [] none = refl
none_changed (packet ∷ rest) none = by_test (is_out packet) refl none (none_changed rest)
  where
    by_test : (b : Bool) → is_out packet ≡ b → cond b (Some packet) (find is_out rest) ≡ None
        → (find is_out rest ≡ None → with_first is_out packet_after_acked rest ≡ rest)
        → cond b (packet_after_acked packet ∷ rest) (packet ∷ with_first is_out packet_after_acked rest) ≡ packet ∷ rest
    by_test true e none later = absurd (none-some packet (sym none))
    by_test false e none later = ap (λ ps. packet ∷ ps) (later none)

-- the next piece stays the next one
next_completed : (packet : DataPacket) (rest : List DataPacket) (fixed : Pdu) → is_all_sent packet ≡ true
    → IsNext (packet ∷ rest) fixed → IsNext rest fixed
next_completed packet rest fixed all next holds =
    let sent : is_unsent packet ≡ false = grind (arith, nat_tests) in
    sym (ap (λ b. pdu_with (option_map (piece_of (length fixed.body)) (cond b (Some packet) (find is_unsent rest)))) sent) ∙ next holds

piece_mapped : (count : ℕ) (unsent : Bool) (packet : DataPacket) (later : Option DataPacket)
    → option_map (piece_of count) (cond unsent (Some packet) later) ≡ cond unsent (Some (piece_of count packet)) (option_map (piece_of count) later)
piece_mapped count true packet later = refl
piece_mapped count false packet later = refl

piece_acked : (count : ℕ) (packet : DataPacket) (rest : List DataPacket)
    → option_map (piece_of count) (find is_unsent (packet_after_acked packet ∷ rest)) ≡ option_map (piece_of count) (find is_unsent (packet ∷ rest))
piece_acked count packet rest =
    let same : sent_length (packet_after_acked packet) ≡ sent_length packet = omega arith in
    piece_mapped count (is_unsent (packet_after_acked packet)) (packet_after_acked packet) (find is_unsent rest)
    ∙ ap (λ n. cond (nat_lt n (length packet.body))
    (Some (record { start = packet.start && (n == 0); body = record { items = take count (drop n packet.body) } }))
    (option_map (piece_of count) (find is_unsent rest))) same
    ∙ sym (piece_mapped count (is_unsent packet) packet (find is_unsent rest))

next_acked : (packet : DataPacket) (rest : List DataPacket) (fixed : Pdu) → IsNext (packet ∷ rest) fixed
    → IsNext (packet_after_acked packet ∷ rest) fixed
next_acked packet rest fixed next holds = ap pdu_with (piece_acked (length fixed.body) packet rest) ∙ next holds

-- what is kept, and the next piece, once all that is out is acknowledged
record IsAfterAck (packets : List DataPacket) (complete : ℕ) (ack : Acknowledgement) (outgoing : Data) : Type 0 where
  kept : IsKept packets complete (record (past_of ack outgoing) { acknowledged = acked_data ack ++ outs outgoing.packets })
  next : IsNext packets outgoing.fixed

abbrev packets_acked : Bool → List DataPacket → List DataPacket
packets_acked all packets = if all then without_first is_out packets else with_first is_out packet_after_acked packets

-- what is out in these packets is what is out in those
same_out : (packets : List DataPacket) (complete : ℕ) (before after : List DataPacket) (ack : Acknowledgement) (outgoing : Data) → before ≡ after
    → IsKept packets complete (record (past_of ack outgoing) { acknowledged = acked_data ack ++ outs before })
    → IsKept packets complete (record (past_of ack outgoing) { acknowledged = acked_data ack ++ outs after })
same_out packets complete before after ack outgoing same =
    subst (λ (ps : List DataPacket). IsKept packets complete (record (past_of ack outgoing) { acknowledged = acked_data ack ++ outs ps })) same

-- the piece of the first packet is acknowledged, which is complete by that or is not
head_acked : (all : Bool) (ack : Acknowledgement) (outgoing : Data) (packet : DataPacket) (rest : List DataPacket)
    → is_all_sent packet ≡ all → outgoing.packets ≡ packet ∷ rest
    → packets_acked all outgoing.packets ≡ (if all then rest else packet_after_acked packet ∷ rest) → IsTogether ack outgoing
    → IsAfterAck (packets_acked all outgoing.packets) (if all then outgoing.complete + 1 else outgoing.complete) ack outgoing
head_acked true ack outgoing packet rest is packets_are left are =
    let before = subst (λ (ps : List DataPacket). IsKept ps outgoing.complete (past_of ack outgoing)) packets_are are.kept in
    let next = subst (λ (ps : List DataPacket). IsNext ps outgoing.fixed) packets_are are.next in
    subst (λ (ps : List DataPacket). IsAfterAck ps (outgoing.complete + 1) ack outgoing) (sym left)
    (record {
      kept = same_out rest (outgoing.complete + 1) (packet ∷ rest) outgoing.packets ack outgoing (sym packets_are)
          (kept-completed packet rest outgoing.complete (past_of ack outgoing) before is);
      next = next_completed packet rest outgoing.fixed is next;
    })
head_acked false ack outgoing packet rest is packets_are left are =
    let before = subst (λ (ps : List DataPacket). IsKept ps outgoing.complete (past_of ack outgoing)) packets_are are.kept in
    let next = subst (λ (ps : List DataPacket). IsNext ps outgoing.fixed) packets_are are.next in
    subst (λ (ps : List DataPacket). IsAfterAck ps outgoing.complete ack outgoing) (sym left)
    (record {
      kept = same_out (packet_after_acked packet ∷ rest) outgoing.complete (packet ∷ rest) outgoing.packets ack outgoing (sym packets_are)
          (kept-acked packet rest outgoing.complete (past_of ack outgoing) before is);
      next = next_acked packet rest outgoing.fixed next;
    })

packets_left : (all : Bool) (packets : List DataPacket) (packet : DataPacket) (head : IsHead packets packet) → is_out packet ≡ true
    → packets_acked all packets ≡ (if all then head.rest else packet_after_acked packet ∷ head.rest)
packets_left true packets packet head out = link-completed packets packet head out
packets_left false packets packet head out = link-acked packets packet head out

-- the piece that is out is acknowledged, or none is out
kept_acked : (ack : Acknowledgement) (outgoing : Data) → IsTogether ack outgoing → (out : Option DataPacket)
    → find is_out outgoing.packets ≡ out
    → let after = data_completed (is_completed out) outgoing in IsAfterAck after.packets after.complete ack outgoing
kept_acked ack outgoing are None found =
    let same : acked_data ack ≡ acked_data ack ++ outs outgoing.packets =
    sym (append-nil (acked_data ack)) ∙ ap (λ octets. acked_data ack ++ octets) (sym (not_out outgoing.packets found)) in
    subst (λ (ps : List DataPacket). IsAfterAck ps outgoing.complete ack outgoing) (sym (none_changed outgoing.packets found))
    (record {
      kept = kept_at outgoing.packets outgoing.complete (past_of ack outgoing) (sent_data ack) (acked_data ack ++ outs outgoing.packets) refl same are.kept;
      next = are.next;
    })
kept_acked ack outgoing are (Some packet) found =
    let head = head_out outgoing.packets packet are.kept.in_order found in
    head_acked (is_all_sent packet) ack outgoing packet head.rest refl head.packets_are
    (packets_left (is_all_sent packet) outgoing.packets packet head (is_out-head outgoing.packets packet found)) are

-- the PDU that is acknowledged was data, or it was not
acked_together : (carried : Bool) (ack : Acknowledgement) (outgoing : Data) → is_data ack.last ≡ carried → ack.acked + 1 ≤ length ack.sent
    → AreCounted (with_acked true ack) → IsTogether ack outgoing → IsTogether (with_acked true ack) (data_acked_if carried outgoing)
acked_together true ack outgoing is waits counts are =
    let after = kept_acked ack outgoing are (find is_out outgoing.packets) refl in
    record {
      kept = kept_at (data_acked outgoing).packets (data_acked outgoing).complete
          (record (past_of ack outgoing) { acknowledged = acked_data ack ++ outs outgoing.packets })
          (sent_data ack) (data_of (take (ack.acked + 1) ack.sent)) refl (acked_more ack outgoing are) after.kept;
      counts = counts;
      next = after.next;
    }
acked_together false ack outgoing is waits counts are =
    let same = nothing_acked ack are.counts waits (no_data_in ack.last is) in
    record {
      kept = kept_at outgoing.packets outgoing.complete (past_of ack outgoing) (sent_data ack) (data_of (take (ack.acked + 1) ack.sent))
          refl (same ∙ ap data_of (sym (take_all (ack.acked + 1) ack.sent are.counts.one_at_a_time))) are.kept;
      counts = counts;
      next = are.next;
    }

heard_together : (acked : Bool) (ack : Acknowledgement) (outgoing : Data) → (acked ≡ true → is_acked ack ≡ false) → IsTogether ack outgoing
    → IsTogether (with_acked acked ack) (data_acked_if (acked && is_data ack.last) outgoing)
heard_together true ack outgoing out are =
    let waits : ack.acked + 1 ≤ length ack.sent =
    omega (arith, are.counts.sent_only, eqb-false ack.acked (length ack.sent) (out refl)) in
    acked_together (is_data ack.last) ack outgoing refl waits (acked_counted true ack out are.counts) are
heard_together false ack outgoing out are =
    record { kept = are.kept; counts = acked_counted false ack out are.counts; next = are.next }

accepted_together : (accepted : Bool) (pdu : Pdu) (ack : Acknowledgement) (outgoing : Data) → IsTogether ack outgoing
    → IsTogether (with_accepted accepted pdu ack) outgoing
accepted_together accepted pdu ack outgoing are =
    record { kept = are.kept; counts = accepted_counted accepted pdu ack are.counts; next = are.next }

-- ---- all moves

stays_together : EachMoveKeeps IsTogether
stays_together =
    record {
      first = first_together;
      given = given_together;
      reported = reported_together;
      fixed = fixed_together;
      gone = λ control ack outgoing all are. gone_together control ack outgoing are;
      sent = λ payload ack outgoing are. sent_together payload (is_acked ack) ack outgoing refl are;
      acked = heard_together;
      accepted = accepted_together;
    }

pub past_together : (setup : Setup) (past : List Step) → let facts = facts_of setup past in IsTogether facts.acknowledgement facts.outgoing
past_together setup past = past_keeps IsTogether stays_together setup past

pub in_order : (facts : Facts) → IsTogether facts.acknowledgement facts.outgoing → IsInOrder facts
in_order facts are =
    let past = past_of facts.acknowledgement facts.outgoing in
    record {
      sent = all_octets facts.outgoing.packets facts.outgoing.complete past are.kept;
      counted = all_counted facts.outgoing.packets facts.outgoing.complete past are.kept;
    }

pub past_in_order : (setup : Setup) (past : List Step) → IsInOrder (facts_of setup past)
past_in_order setup past = in_order (facts_of setup past) (past_together setup past)
