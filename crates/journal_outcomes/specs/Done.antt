-- What becomes of a control procedure of a peripheral: it is done only where it was answered, and it is not done where
-- it collided with one of the central (Core 5.2, volume 6 part B, sections 5.1.7, 5.1.10 and 5.3).
use Rattle.std.specs.Prelude.{◌≡◌, ℕ, Bool, true, false, List, [], ◌∷◌, ◌++◌, Option, Some, None}
use Rattle.ble_base.specs.Side.{other_side}
use Rattle.ble_base.specs.declared.procedure_kinds.Kind.{Kind}
use Rattle.ble_base.specs.declared.procedure_kinds.Kind.TheVariants.{Phy, Request}
use Rattle.ble_base.specs.declared.roles.Side.{Side}
use Rattle.data_pdu.specs.declared.ctrl.CtrlRead.{CtrlRead}
use Rattle.data_pdu.specs.declared.ctrl.CtrlRead.TheVariants.{Known}
use Rattle.data_pdu.specs.declared.ctrl.Ctrl.TheVariants.{ConnectionUpdateInd, PhyUpdateInd}
use Rattle.journal.specs.declared.entries.Entry.{Entry}
use Rattle.journal.specs.declared.entries.Entry.TheVariants.{Began, Done, Refused, Sent, Took}
use Rattle.journal_crossing.specs.journal_collisions.Collisions.{Collides, any_line, control_in, kind_begun}
use Rattle.journal_crossing.specs.journal_data.Followed.{Mixed}
use Rattle.journal_crossing.specs.journal_links.Begun.{LinkBegun, link_numbered}
use Rattle.journal_crossing.specs.journal_links.LinkLines.{lines_of}
use Rattle.procedure_values.specs.Asks.{is_same_kind}

-- ---- the lines of a procedure

-- this line says that a procedure of this kind began
abbrev pub begins : Kind → Entry → Bool
begins kind (Began side number other) = is_same_kind kind other
begins kind line = false

-- that one is done, or refused
abbrev pub ends : Kind → Entry → Bool
ends kind (Done side number other) = is_same_kind kind other
ends kind (Refused side number other code) = is_same_kind kind other
ends kind line = false

-- ---- the answer

-- the procedure of a peripheral that this indication of its central completes: by 00 a request, by 18 a PHY update
-- (sections 5.1.7 and 5.1.10)
abbrev pub kind_completed : Option CtrlRead → Option Kind
kind_completed (Some (Known (ConnectionUpdateInd win_size win_offset interval latency timeout instant))) = Some Request
kind_completed (Some (Known (PhyUpdateInd to_peripheral to_central instant))) = Some Phy
kind_completed other = None

-- a side takes the indication that completes its procedure among these entries, and none of its lines there says that a
-- procedure of that kind is done or refused
pub record IsAnsweredIn (side : Side) (number : ℕ) (q : Kind) (between : List Entry) : Type 0 where
  pub earlier : List Entry
  pub count : ℕ
  pub llid : ℕ
  pub body : List ℕ
  pub later : List Entry
  pub is : between ≡ earlier ++ Took side number count llid body ∷ later
  pub completes : kind_completed (control_in llid body) ≡ Some q
  pub goes_on : any_line (ends q) (lines_of side number between) ≡ false

-- where a peripheral is done with a procedure, and began no other of its kind since it sent the first PDU, the procedure
-- was answered in between
abbrev pub AllDoneAreAnswered : List Entry → Type 0
AllDoneAreAnswered journal = (start between later : List Entry) (link : LinkBegun) (number count llid : ℕ) (body : List ℕ)
    (q : Kind)
    → journal ≡ start ++ Sent (other_side link.central) number count llid body ∷ between
    ++ Done (other_side link.central) number q ∷ later
    → link_numbered number journal ≡ Some link → kind_begun (control_in llid body) ≡ Some q
    → any_line (begins q) (lines_of (other_side link.central) number between) ≡ false
    → IsAnsweredIn (other_side link.central) number q between

-- ---- procedures that collided

-- where a peripheral is done with a procedure of a kind that collided, it has begun another of that kind since it sent
-- the first PDU of the one that collided. So it is as long as no packet of the link is mixed
abbrev pub NoneIsDone : Mixed → List Entry → Type 0
NoneIsDone mixed journal = (front rest start between later : List Entry) (link : LinkBegun) (number count llid : ℕ)
    (body : List ℕ) (p q : Kind) → journal ≡ front ++ Took link.central number count llid body ∷ rest
    → mixed number (front ++ Took link.central number count llid body ∷ []) ≡ false → Collides front link number llid body p q
    → journal ≡ start ++ Sent (other_side link.central) number count llid body ∷ between
    ++ Done (other_side link.central) number q ∷ later
    → mixed number (start ++ Sent (other_side link.central) number count llid body ∷ between) ≡ false
    → any_line (begins q) (lines_of (other_side link.central) number between) ≡ true
