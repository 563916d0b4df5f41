-- Two control procedures that collide on a link of a journal, and what becomes of them (Core 5.2, volume 6 part B,
-- section 5.3).
use Rattle.std.specs.Prelude.{◌≡◌, ◌⊎◌, ℕ, ◌==◌, Bool, true, false, ◌&&◌, ◌||◌, not, List, [], ◌∷◌, ◌++◌, fold, Option, Some, None, if◌then◌else◌}
use Rattle.ble_base.specs.Side.{other_side}
use Rattle.ble_base.specs.declared.procedure_kinds.Kind.{Kind}
use Rattle.ble_base.specs.declared.procedure_kinds.Kind.TheVariants.{Phy, Request}
use Rattle.ble_base.specs.declared.roles.Side.{Side}
use Rattle.data_pdu.specs.Reading.{ctrl_of}
use Rattle.data_pdu.specs.declared.ctrl.CtrlRead.{CtrlRead}
use Rattle.data_pdu.specs.declared.ctrl.CtrlRead.TheVariants.{Known}
use Rattle.data_pdu.specs.declared.ctrl.Ctrl.TheVariants.{ConnectionParamReq, PhyReq, RejectExtInd, TerminateInd}
use Rattle.journal.specs.declared.entries.Entry.{Entry}
use Rattle.journal.specs.declared.entries.Entry.TheVariants.{Began, Done, Refused, Sent, Took}
use Rattle.journal_endings.specs.journal_indications.journal_data.Followed.{Mixed}
use Rattle.journal_endings.specs.journal_indications.journal_data.journal_links.Begun.{LinkBegun, link_numbered}
use Rattle.journal_endings.specs.journal_indications.journal_data.journal_links.LinkLines.{lines_of}
use Rattle.procedure_stages.specs.Collisions.{are_incompatible, collision_code}
use Rattle.procedure_stages.specs.Opcodes.{connection_param_req_opcode, phy_req_opcode}
use Rattle.procedure_values.specs.Asks.{is_same_kind}

-- ---- the own procedures of an end

-- whether one of this kind is in progress, after one more line of the end
abbrev pub runs_after : Kind → Bool → Entry → Bool
runs_after kind runs (Began side number other) = runs || is_same_kind kind other
runs_after kind runs (Done side number other) = runs && not (is_same_kind kind other)
runs_after kind runs (Refused side number other code) = runs && not (is_same_kind kind other)
runs_after kind runs line = runs

-- a side has begun a procedure of this kind on the link with this number, and it is neither done nor refused
abbrev pub runs_on : Kind → Side → ℕ → List Entry → Bool
runs_on kind side number front = fold (runs_after kind) false (lines_of side number front)

-- ---- what a PDU is

-- a control PDU has LLID 3 (section 2.4.1)
abbrev pub control_in : ℕ → List ℕ → Option CtrlRead
control_in llid body = if llid == 3 then Some (ctrl_of body) else None

-- the procedure of a peripheral that this PDU begins, of those that exclude others (sections 5.1.7 and 5.1.10)
abbrev pub kind_begun : Option CtrlRead → Option Kind
kind_begun (Some (Known (ConnectionParamReq min max latency timeout periodicity reference offsets))) = Some Request
kind_begun (Some (Known (PhyReq tx rx))) = Some Phy
kind_begun other = None

-- its opcode
abbrev pub first_opcode : Kind → ℕ
first_opcode Request = connection_param_req_opcode
first_opcode other = phy_req_opcode

abbrev pub is_kind : Option Kind → Kind → Bool
is_kind None kind = false
is_kind (Some other) kind = is_same_kind other kind

-- ---- a collision

-- after these entries the central takes the first PDU of the peripheral's procedure q, as the PDU with this number,
-- while its own procedure p is in progress, and each of them excludes the other
pub record Collides (front : List Entry) (link : LinkBegun) (number llid : ℕ) (body : List ℕ) (p q : Kind)
    : Type 0 where
  pub is_link : link_numbered number front ≡ Some link
  pub first : kind_begun (control_in llid body) ≡ Some q
  pub runs : runs_on p link.central number front ≡ true
  pub exclude : are_incompatible p q ≡ true

-- ---- the rejection

abbrev pub first_of : List Entry → Option Entry
first_of [] = None
first_of (line ∷ lines) = Some line

-- the rejection of q, with the error of a collision with p
abbrev pub IsRejection : Kind → Kind → ℕ → List ℕ → Type 0
IsRejection p q llid body =
    control_in llid body ≡ Some (Known (RejectExtInd (first_opcode q) (collision_code p q).0))

pub record IsTermination (llid : ℕ) (body : List ℕ) : Type 0 where
  pub code : ℕ
  pub is : control_in llid body ≡ Some (Known (TerminateInd code))

-- the lines of a side on a link say no PDU that it sends
abbrev pub is_sent : Entry → Bool
is_sent (Sent side number count llid body) = true
is_sent line = false

-- one of these lines is such
abbrev pub any_line : (Entry → Bool) → List Entry → Bool
any_line test lines = fold (λ found line. found || test line) false lines

abbrev pub SendsNothing : Side → ℕ → List Entry → Type 0
SendsNothing side number lines = any_line is_sent (lines_of side number lines) ≡ false

-- what the central sends next on the link is the rejection, or LL_TERMINATE_IND, as long as no packet of the link is mixed
abbrev pub AllAreRejectedNext : Mixed → List Entry → Type 0
AllAreRejectedNext mixed journal = (front between rest : List Entry) (link : LinkBegun) (number count llid : ℕ)
    (body : List ℕ) (next_count next_llid : ℕ) (next : List ℕ) (p q : Kind)
    → journal ≡ front ++ Took link.central number count llid body ∷ between
    ++ Sent link.central number next_count next_llid next ∷ rest
    → mixed number (front ++ Took link.central number count llid body ∷ between) ≡ false
    → Collides front link number llid body p q → SendsNothing link.central number between
    → IsRejection p q next_llid next ⊎ IsTermination next_llid next

-- where the peripheral takes that rejection, its next line of the link is that its procedure is refused with that error, as
-- long as no packet of the link is mixed
abbrev pub AllAreRefused : Mixed → List Entry → Type 0
AllAreRefused mixed journal = (front between later rest : List Entry) (link : LinkBegun) (number count llid : ℕ)
    (body : List ℕ) (next_count next_llid : ℕ) (next : List ℕ) (p q : Kind)
    → journal ≡ front ++ Took link.central number count llid body ∷ between
    ++ Sent link.central number next_count next_llid next ∷ later
    ++ Took (other_side link.central) number next_count next_llid next ∷ rest
    → mixed number (front ++ Took link.central number count llid body ∷ between
    ++ Sent link.central number next_count next_llid next ∷ later) ≡ false
    → Collides front link number llid body p q → SendsNothing link.central number between
    → IsRejection p q next_llid next
    → first_of (lines_of (other_side link.central) number rest)
    ≡ Some (Refused (other_side link.central) number q (collision_code p q))
