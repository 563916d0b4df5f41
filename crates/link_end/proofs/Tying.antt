-- The calls on an end keep it tied to the bank.
use Rattle.std.proofs.Common.{◌≡◌, ◌≢◌, ℕ, ◌+◌, ◌<◌, ◌≤◌, IfSome, arith, Bool, true, false, not, ◌&&◌, ◌||◌, is_some, length, List, [], ◌∷◌, Option, Some, None, refl, ap, sym, ◌∙◌, subst, if◌then◌else◌}
use Rattle.std.specs.List.{find}
use Rattle.std.specs.Option.{option_map}
use Rattle.std.proofs.lemmas.List.Folds.{find-append}
use Rattle.ack_bit.specs.AckBits.{acknowledges}
use Rattle.acl_banks.specs.Banks.{Bank, bank_after_credited, bank_after_offer, next_piece, packet_out}
use Rattle.acl_banks.specs.Packets.{has_unsent, new_packet, piece_of}
use Rattle.acl_banks.proofs.AllLinks.{out-offer, own-left, own-out}
use Rattle.acl_banks.proofs.Order.{is_left, is_out}
use Rattle.data_pdu.specs.declared.ctrl.Ctrl.{Ctrl}
use Rattle.control_end.specs.Answers.{next_ctrl}
use Rattle.link_model.specs.declared.events.Reception.{Reception}
use Rattle.link_model.specs.declared.setup.LinkSetup.{LinkSetup}
use Rattle.link_model.specs.Acknowledgement.{Pdu, empty_pdu}
use Rattle.link_model.specs.Data.{is_control, is_data, pdu_with}
use Rattle.link_model.specs.Controls.{pdu_of_control}
use Rattle.link_model.specs.phased_end.Answers.{quiet_now}
use Rattle.link_model.proofs.Sending.{control_no_data, cut_again, next-given}
use Rattle.link_end.specs.Held.{Held}
use Rattle.link_end.specs.Entering.{held_entered, held_entered_if}
use Rattle.link_end.specs.Fixing.{control_is_next, data_goes, held_fixed, pdu_fixed_by}
use Rattle.link_end.specs.declared.pdus.Got.{Got}
use Rattle.link_end.specs.Receiving.{acks, acks_piece, answers_with_control, counts, held_acked_if, held_read, held_read_if, held_received, right_if, takes_body}
use Rattle.link_end.specs.Sending.{carries_next, held_gone, held_gone_if, held_out, takes_leave}
use Rattle.link_end.specs.Tied.{IsAfterAck, IsBefore, IsTied, LeavesOthers, bank_went_if}
use Rattle.link_end.proofs.Banked.{data_has_octets, next_after_acked, next_is_some, went_is_out}

-- where the fixed PDU is data, it is the next piece, cut at its own length
abbrev IsNext : Bank → ℕ → Pdu → Type 0
IsNext bank handle fixed = is_data fixed ≡ true → pdu_with (next_piece bank handle (length fixed.body)) ≡ fixed

-- a PDU that is no data is no piece
not_next : (bank : Bank) (handle : ℕ) (fixed : Pdu) → is_data fixed ≡ false → IsNext bank handle fixed
not_next bank handle fixed is holds = let no : ◌≡◌ {A = Bool} false true = sym is ∙ holds in absurd cc

-- ---- it enters an event

tied_choice : (b : Bool) (one other : Held) (bank : Bank) → IsTied one bank → IsTied other bank → IsTied (if b then one else other) bank
tied_choice true one other bank is also = is
tied_choice false one other bank is also = also

pub entered_tied : (goes : Bool) (slot : ℕ) (held new : Held) (bank : Bank) → new ≡ held_entered_if goes slot held → IsTied held bank
    → IsTied new bank
entered_tied goes slot held new bank is tied =
    subst (λ (h : Held). IsTied h bank) (sym is)
    (tied_choice goes (held_entered slot held) held bank (record { out = tied.out; next = tied.next }) tied)

-- ---- it fixes a PDU

next_fixed : (control goes : Bool) (handle limit : ℕ) (bank : Bank)
    → IsNext bank handle (pdu_fixed_by control goes (next_piece bank handle limit))
next_fixed true goes handle limit bank = not_next bank handle empty_pdu refl
next_fixed false false handle limit bank = not_next bank handle empty_pdu refl
next_fixed false true handle limit bank = λ holds. cut_again limit (find (has_unsent handle) bank.packets)

pub fixed_tied : (limit : ℕ) (left : Bool) (held new : Held) (bank : Bank)
    → new ≡ held_fixed (next_piece bank held.setup.link.handle limit) left held → IsTied held bank → IsTied new bank
fixed_tied limit left held new bank is tied =
    let handle = held.setup.link.handle in
    subst (λ (h : Held). IsTied h bank) (sym is)
    (tied_choice (is_control held.fixed) _ _ bank tied
    (record { out = tied.out; next = next_fixed (control_is_next held) (data_goes held) handle limit bank }))

-- ---- a control PDU leaves the queue

next_gone : (goes fixes : Bool) (control : Option Ctrl) (bank : Bank) (handle : ℕ) (fixed : Pdu) → IsNext bank handle fixed
    → IsNext bank handle (if goes then (if fixes then pdu_of_control control else fixed) else fixed)
next_gone true true control bank handle fixed next = not_next bank handle (pdu_of_control control) (control_no_data control)
next_gone true false control bank handle fixed next = next
next_gone false fixes control bank handle fixed next = next

tied_gone : (goes : Bool) (slot : ℕ) (held : Held) (bank : Bank) → IsTied held bank → IsTied (held_gone_if goes slot held) bank
tied_gone goes slot held bank tied =
    record {
      out = tied.out;
      next = next_gone goes held.fixes_control (next_ctrl (quiet_now held.control) held.control.control) bank held.setup.link.handle held.fixed tied.next;
    }

pub gone_tied : (slot : ℕ) (held new : Held) (bank : Bank) → new ≡ held_gone slot held → IsTied held bank → IsTied new bank
gone_tied slot held new bank is tied =
    subst (λ (h : Held). IsTied h bank) (sym is) (tied_gone (takes_leave held) slot held bank tied)

-- ---- it sends

out_sent : (handle : ℕ) (bank : Bank) (is_acked carries waits : Bool) (fixed last : Pdu) → is_data fixed ≡ carries → is_data last ≡ waits
    → (carries ≡ true → is_some (next_piece bank handle (length fixed.body)) ≡ true)
    → is_some (packet_out bank handle) ≡ (not is_acked && waits)
    → is_some (packet_out (bank_went_if (is_acked && carries) bank handle (length fixed.body)) handle)
    ≡ is_data (if is_acked then fixed else last)
out_sent handle bank true true waits fixed last is_fixed is_last next out =
    went_is_out bank handle (length fixed.body) (data_has_octets fixed is_fixed) (next refl) ∙ sym is_fixed
out_sent handle bank true false waits fixed last is_fixed is_last next out = out ∙ sym is_fixed
out_sent handle bank false carries waits fixed last is_fixed is_last next out = out ∙ sym is_last

next_sent : (handle : ℕ) (bank : Bank) (is_acked carries : Bool) (fixed : Pdu) → IsNext bank handle fixed
    → IsNext (bank_went_if (is_acked && carries) bank handle (length fixed.body)) handle (if is_acked then empty_pdu else fixed)
next_sent handle bank true carries fixed next holds = absurd cc
next_sent handle bank false carries fixed next holds = next holds

tied_sent : (slot : ℕ) (held : Held) (bank : Bank) → IsTied held bank
    → IsTied (held_out slot held) (bank_went_if (carries_next held) bank held.setup.link.handle (length held.fixed.body))
tied_sent slot held bank tied =
    let handle = held.setup.link.handle in
    record {
      out = out_sent handle bank held.is_acked (is_data held.fixed) (is_data held.last) held.fixed held.last refl refl
          (λ carries. next_is_some bank handle (length held.fixed.body) held.fixed carries (tied.next carries)) tied.out;
      next = next_sent handle bank held.is_acked (is_data held.fixed) held.fixed tied.next;
    }

pub sent_tied : (slot : ℕ) (held new : Held) (before after : Bank) → new ≡ held_out slot held
    → after ≡ bank_went_if (carries_next held) before held.setup.link.handle (length held.fixed.body) → IsTied held before → IsTied new after
sent_tied slot held new before after is bank tied =
    subst (λ (h : Held). IsTied h after) (sym is)
    (subst (IsTied (held_out slot held)) (sym bank) (tied_sent slot held before tied))

-- ---- it receives

out_heard : (handle : ℕ) (before after : Bank) (says is_acked waits : Bool)
    → IsAfterAck ((not is_acked && says) && waits) handle before after
    → is_some (packet_out before handle) ≡ (not is_acked && waits)
    → is_some (packet_out after handle) ≡ (not ((not is_acked && says) || is_acked) && waits)
out_heard handle before after says true waits ack out = ap (λ (b : Bank). is_some (packet_out b handle)) ack.bank ∙ out
out_heard handle before after false false waits ack out = ap (λ (b : Bank). is_some (packet_out b handle)) ack.bank ∙ out
out_heard handle before after true false true ack out = ap is_some (ack.none_out refl)
out_heard handle before after true false false ack out = ap (λ (b : Bank). is_some (packet_out b handle)) ack.bank ∙ out

next_kept : (handle count : ℕ) (before after : Bank) (acked : Bool) → IsAfterAck acked handle before after
    → next_piece after handle count ≡ next_piece before handle count
next_kept handle count before after true ack =
    ap (λ (b : Bank). next_piece b handle count) ack.bank ∙ next_after_acked before handle count
next_kept handle count before after false ack = ap (λ (b : Bank). next_piece b handle count) ack.bank

tied_heard : (slot : ℕ) (got : Option Got) (held : Held) (before after : Bank) → IsTied held before
    → IsAfterAck (acks_piece got held) held.setup.link.handle before after → IsTied (held_received slot got held) after
tied_heard slot None held before after tied ack = subst (IsTied held) (sym ack.bank) tied
tied_heard slot (Some got) held before after tied ack =
    let handle = held.setup.link.handle in
    let now = held_acked_if (acks held got.header) held in
    record {
      out = out_heard handle before after (acknowledges held.bits got.header) held.is_acked (is_data held.last) ack tied.out;
      next = next_gone (answers_with_control held.setup.link.role now) now.fixes_control
          (next_ctrl (quiet_now now.control) now.control.control) after handle held.fixed
          (λ holds. ap pdu_with (next_kept handle (length held.fixed.body) before after (acks_piece (Some got) held) ack) ∙ tied.next holds);
    }

pub heard_tied : (slot : ℕ) (got : Option Got) (held new : Held) (before after : Bank) → new ≡ held_received slot got held
    → IsAfterAck (acks_piece got held) held.setup.link.handle before after → IsTied held before → IsTied new after
heard_tied slot got held new before after is ack tied =
    subst (λ (h : Held). IsTied h after) (sym is) (tied_heard slot got held before after tied ack)

heard_same : (slot : ℕ) (got : Option Got) (held : Held) → (held_received slot got held).setup ≡ held.setup
heard_same slot None held = refl
heard_same slot (Some got) held = refl

pub heard_setup : (slot : ℕ) (got : Option Got) (held new : Held) → new ≡ held_received slot got held → new.setup ≡ held.setup
heard_setup slot got held new is = ap (λ (h : Held). h.setup) is ∙ heard_same slot got held

heard_good : (slot : ℕ) (got : Option Got) (held : Held) → (held_received slot got held).last_good ≡ held.last_good
heard_good slot None held = refl
heard_good slot (Some got) held = refl

-- ---- octets are read first

-- what a read leaves, whatever octets they are
module _ (P : Held → Type 0) (slot : ℕ) (held : Held) where
  read_by : (right takes : Bool) (pdu : List ℕ) → P (held_read_if true slot takes pdu held) → P (held_read_if false slot takes pdu held)
      → P (held_read_if right slot takes pdu held)
  read_by true takes pdu good forged = good
  read_by false takes pdu good forged = forged

  reads : (room : Bool) (whole : Option (List ℕ)) → P held
      → ((takes : Bool) (pdu : List ℕ) → P (held_read_if true slot takes pdu held))
      → ((takes : Bool) (pdu : List ℕ) → P (held_read_if false slot takes pdu held)) → P (held_read slot room whole held)
  reads room None stays good forged = stays
  reads room (Some pdu) stays good forged =
      let takes = takes_body room pdu held in
      read_by (right_if (counts pdu held) held.control.end pdu) takes pdu (good takes pdu) (forged takes pdu)

module _ (slot : ℕ) (room : Bool) (whole : Option (List ℕ)) (held new : Held) (is : new ≡ held_read slot room whole held) where
  pub read_tied : (bank : Bank) → IsTied held bank → IsTied new bank
  read_tied bank tied =
      subst (λ (h : Held). IsTied h bank) (sym is)
      (reads (λ h. IsTied h bank) slot held room whole tied
      (λ takes pdu. record { out = tied.out; next = tied.next }) (λ takes pdu. record { out = tied.out; next = tied.next }))

  pub read_setup : new.setup ≡ held.setup
  read_setup =
      ap (λ (h : Held). h.setup) is
      ∙ reads (λ h. h.setup ≡ held.setup) slot held room whole refl (λ takes pdu. refl) (λ takes pdu. refl)

  later : (last : Option Reception) → IfSome last (λ good. good.slot < slot) → IfSome last (λ good. good.slot < slot + 1)
  later None before = tt
  later (Some good) before = omega (arith, before)

  pub read_before : IsBefore held slot → IsBefore new (slot + 1)
  read_before before =
      subst (λ (h : Held). IsBefore h (slot + 1)) (sym is)
      (reads (λ h. IsBefore h (slot + 1)) slot held room whole (later held.last_good before) (λ takes pdu. omega arith)
      (λ takes pdu. later held.last_good before))

pub heard_before : (slot : ℕ) (got : Option Got) (held new : Held) → new ≡ held_received slot got held → IsBefore held (slot + 1)
    → IsBefore new (slot + 1)
heard_before slot got held new is before =
    let same = ap (λ (h : Held). h.last_good) is ∙ heard_good slot got held in
    subst (λ (last : Option Reception). IfSome last (λ good. good.slot < slot + 1)) (sym same) before

-- ---- what is done besides

-- a new end has nothing out and nothing fixed
pub new_tied : (link : LinkSetup) (held : Held) (bank : Bank) → held.setup.link ≡ link → held.last ≡ empty_pdu → held.fixed ≡ empty_pdu
    → packet_out bank link.handle ≡ None → IsTied held bank
new_tied link held bank here last fixed none =
    let is_none : is_some (packet_out bank held.setup.link.handle) ≡ false =
    ap (λ (l : LinkSetup). is_some (packet_out bank l.handle)) here ∙ ap is_some none in
    let no_last : is_data held.last ≡ false = ap is_data last in
    record {
      out = is_none ∙ sym (nothing (not held.is_acked) (is_data held.last) no_last);
      next = not_next bank held.setup.link.handle held.fixed (ap is_data fixed);
    }
  where
    nothing : (b d : Bool) → d ≡ false → (b && d) ≡ false
    nothing true d is = is
    nothing false d is = refl

pub others_tied : (held : Held) (handle : ℕ) (before after : Bank) → LeavesOthers handle before after
    → held.setup.link.handle ≢ handle → IsTied held before → IsTied held after
others_tied held handle before after leaves differs tied =
    let own = held.setup.link.handle in
    let same = (leaves own differs).0 in
    let out_is : packet_out after own ≡ packet_out before own =
    own-out after.packets own ∙ ap (find is_out) same ∙ sym (own-out before.packets own) in
    let count = length held.fixed.body in
    let next_is : next_piece after own count ≡ next_piece before own count =
    ap (option_map (piece_of count)) (own-left after.packets own ∙ ap (find is_left) same ∙ sym (own-left before.packets own)) in
    record { out = ap is_some out_is ∙ tied.out; next = λ holds. ap pdu_with next_is ∙ tied.next holds }

pub offer_tied : (held : Held) (bank : Bank) (handle : ℕ) (start : Bool) (body : List ℕ) → IsTied held bank
    → IsTied held (bank_after_offer bank (new_packet handle start body))
offer_tied held bank handle start body tied =
    let own = held.setup.link.handle in
    let packet = new_packet handle start body in
    record {
      out = ap is_some (out-offer bank.packets handle start body own) ∙ tied.out;
      next = λ holds.
          ap (λ found. pdu_with (option_map (piece_of (length held.fixed.body)) found)) (find-append (has_unsent own) bank.packets (packet ∷ []))
          ∙ next-given (length held.fixed.body) (find (has_unsent own) bank.packets) (find (has_unsent own) (packet ∷ [])) held.fixed holds (tied.next holds);
    }

pub credited_tied : (held : Held) (bank : Bank) (handle : ℕ) → IsTied held bank → IsTied held (bank_after_credited bank handle)
credited_tied held bank handle tied = record { out = tied.out; next = tied.next }

-- a later slot is after the last good packet too
pub before_later : (held : Held) (slot later : ℕ) → slot ≤ later → IsBefore held slot → IsBefore held later
before_later held slot later order before = by_last held.last_good before
  where
    by_last : (last : Option Reception) → IfSome last (λ good. good.slot < slot) → IfSome last (λ good. good.slot < later)
    by_last None before = tt
    by_last (Some good) before = omega (arith, order, before)
