-- What becomes of a procedure of a peripheral that excludes others, by the notes of the peripheral (Core 5.2, volume 6
-- part B, sections 5.1.7 and 5.1.10).
use Rattle.std.specs.Prelude.{◌≡◌, ℕ, Bool, false, List, ◌∷◌, ◌++◌, Option, Some, None}
use Rattle.std.specs.List.{list_any}
use Rattle.ble_base.specs.declared.notes.Note.{Note}
use Rattle.ble_base.specs.declared.notes.Note.TheVariants.{Began, Done, Refused, Took}
use Rattle.ble_base.specs.declared.procedure_kinds.Kind.{Kind}
use Rattle.data_pdu.specs.Reading.{ctrl_of}
use Rattle.data_pdu.specs.declared.ctrl.Ctrl.TheVariants.{ConnectionParamReq, ConnectionUpdateInd, PhyReq, PhyUpdateInd}
use Rattle.data_pdu.specs.declared.ctrl.CtrlRead.{CtrlRead}
use Rattle.data_pdu.specs.declared.ctrl.CtrlRead.TheVariants.{Known}
use Rattle.exclusive_stages.specs.Kinds.{kind_of}
use Rattle.exclusive_stages.specs.declared.pdus.Exclusive.{Exclusive}
use Rattle.exclusive_stages.specs.declared.pdus.Exclusive.TheVariants.{Phy, Request}
use Rattle.link_model.specs.procedure_values.Asks.{is_same_kind}

-- ---- PDUs

-- the procedure of a peripheral that this PDU begins (sections 2.4.2.16 and 2.4.2.22)
abbrev pub kind_begun : CtrlRead → Option Exclusive
kind_begun (Known (ConnectionParamReq min max latency timeout periodicity reference offsets)) = Some Request
kind_begun (Known (PhyReq tx rx)) = Some Phy
kind_begun read = None

-- the procedure of a peripheral that this indication answers (sections 2.4.2.1 and 2.4.2.23)
abbrev pub kind_answered : CtrlRead → Option Exclusive
kind_answered (Known (ConnectionUpdateInd win_size win_offset interval latency timeout instant)) = Some Request
kind_answered (Known (PhyUpdateInd to_peripheral to_central instant)) = Some Phy
kind_answered read = None

-- ---- notes

-- a procedure of this kind begins
abbrev pub begins : Kind → Note → Bool
begins kind (Began handle other) = is_same_kind kind other
begins kind note = false

-- such a procedure is done, or is refused
abbrev pub ends : Kind → Note → Bool
ends kind (Done handle other) = is_same_kind kind other
ends kind (Refused handle other code) = is_same_kind kind other
ends kind note = false

-- among these notes is that of the indication that answers a procedure of this kind, and none of them ends such a
-- procedure
pub record IsAnsweredIn (kind : Exclusive) (notes : List Note) : Type 0 where
  pub earlier : List Note
  pub handle : ℕ
  pub count : ℕ
  pub body : List ℕ
  pub later : List Note
  pub notes_are : notes ≡ earlier ++ Took handle count 3 (record { items = body }) ∷ later
  pub answers : kind_answered (ctrl_of body) ≡ Some kind
  pub goes_on : list_any (ends (kind_of kind)) notes ≡ false
