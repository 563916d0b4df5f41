-- The lengths in the effects of a PDU that is taken, and of the one that was kept, are at most that of a payload.
use Rattle.std.proofs.Common.{◌≡◌, ℕ, Bool, true, false, if◌then◌else◌, Option, Some, None, sym, subst}
use Rattle.std.specs.Prelude.{IfSome}
use Rattle.data_pdu.specs.Ranges.{IsInRange}
use Rattle.data_pdu.specs.Reading.{IfKnown}
use Rattle.data_pdu.specs.declared.ctrl.Ctrl.{Ctrl}
use Rattle.data_pdu.specs.declared.ctrl.CtrlRead.{CtrlRead}
use Rattle.data_pdu.specs.declared.ctrl.CtrlRead.TheVariants.{Known}
use Rattle.control_part.specs.control_end.declared.answers.Taken.{Taken}
use Rattle.control_part.specs.control_end.control_model.Control.{Owes, Takes}
use Rattle.control_part.specs.control_end.Answers.{nothing_taken}
use Rattle.control_part.specs.control_end.Held.{Held, control_of, held_after as control_after}
use Rattle.keyed_control.specs.declared.material.Response.{Response}
use Rattle.phased_end.specs.Answers.{quiet_now}
use Rattle.phased_end.specs.Held.{HeldKeyed}
use Rattle.phased_end.specs.Lengths.{HasLengths, HasPayloadLengths}
use Rattle.phased_end.specs.Moves.{lasts}
use Rattle.phased_end.specs.Reached.{IsReached}
use Rattle.phased_end.specs.Taking.{handed_answered, handed_keyed, handed_taken, handing, is_handed, is_refused, kept_taken, kept_taken_if_quiet, nothing_keyed, seen_as, taken_keyed}
use Rattle.phased_end.specs.declared.taking.TakenKeyed.{TakenKeyed}
use Rattle.phased_end.proofs.Lengths.{lengths_after, taken_lengths}
use Rattle.phased_end.proofs.Rooms.{now_answered}
use Rattle.phased_end.proofs.Sized.{reached_keeps, reached_lengths, seen_range}

abbrev Fits : Taken → Type 0
Fits taken = HasPayloadLengths taken.effect

either : (b : Bool) (x y : Taken) → Fits x → Fits y → Fits (if b then x else y)
either true x y one other = one
either false x y one other = other

-- the lengths of a control part are in their ranges, and so is what is kept
abbrev AreSized : Held → Option Ctrl → Type 0
AreSized c kept = HasLengths c.table.lengths × IfSome kept IsInRange

owes_sized : (ctrl : Ctrl) (c : Held) (kept : Option Ctrl) → AreSized c kept
    → AreSized (control_after (Owes ctrl) c) kept
owes_sized ctrl c kept is = (lengths_after (Owes ctrl) (control_of c) tt is.0, is.1)

kept_fits : (slot : ℕ) (kept : Option Ctrl) (g : HeldKeyed) → HasLengths g.control.table.lengths
    → IfSome kept IsInRange → Fits (kept_taken slot kept g)
kept_fits slot None g has range = tt
kept_fits slot (Some ctrl) g has range = taken_lengths (Known ctrl) slot true g.control range has

module _ (slot : ℕ) (response : Response) (read : CtrlRead) (h : HeldKeyed) (range : IfKnown read IsInRange)
    (has : HasLengths h.control.table.lengths) where
  first_fits : Fits (handed_taken slot read h)
  first_fits = taken_lengths (seen_as read h) slot (quiet_now h) h.control (seen_range _ read range) has

  later_fits : IfSome h.kept IsInRange → Fits (handed_keyed slot response read h).kept
  later_fits kept =
      let seen = seen_as read h in
      let refused = is_refused (handed_taken slot read h).refused in
      let g = handed_answered slot response read h in
      let now : AreSized g.control g.kept =
      now_answered AreSized owes_sized refused response read (handing slot read h)
      (lengths_after (Takes seen slot (quiet_now h)) (control_of h.control) (seen_range _ read range) has, kept) in
      either (lasts (handing slot read h)) (kept_taken_if_quiet slot g) nothing_taken
      (either (quiet_now g) (kept_taken slot g.kept g) nothing_taken (kept_fits slot g.kept g now.0 now.1) tt) tt

-- of the PDU, and of what was kept
pub taken_fits : (slot : ℕ) (response : Response) (read : CtrlRead) (h : HeldKeyed) (given : TakenKeyed)
    → IfKnown read IsInRange → IsReached h
    → given ≡ taken_keyed slot response read h
    → HasPayloadLengths given.taken.effect × HasPayloadLengths given.kept.effect
taken_fits slot response read h given range r is =
    subst (λ (t : TakenKeyed). Fits t.taken × Fits t.kept) (sym is) (by (is_handed read h))
  where
    by : (b : Bool) → let t = (if b then handed_keyed slot response read h else nothing_keyed) in
        Fits t.taken × Fits t.kept
    by true =
        let has = reached_lengths h r in
        (first_fits slot response read h range has, later_fits slot response read h range has (reached_keeps h r))
    by false = (tt, tt)
