-- A control PDU that an end takes in a joint run was on its way to it.
use Rattle.std.proofs.Common.{◌≡◌, ◌&&◌, ℕ, Bool, true, false, sym, ap, ◌∙◌}
use Rattle.data_pdu.specs.declared.ctrl.Ctrl.{Ctrl}
use Rattle.data_pdu.specs.declared.ctrl.CtrlRead.TheVariants.{Known, Unknown}
use Rattle.data_pdu.specs.Reading.{ctrl_of, opcode_of}
use Rattle.joint_laws.specs.joint_controls.Joint.{Control as control_item, Data as data_item, OnAir, Way}
use Rattle.link_pairs.specs.procedure_values.declared.drafts.Outgoing.{Outgoing}
use Rattle.link_pairs.specs.link_model.Acknowledgement.{Acknowledgement, Pdu}
use Rattle.link_pairs.specs.link_model.Controls.{is_procedure_pdu, read_of}
use Rattle.link_pairs.proofs.link_model.Views.{AsRead, AsUnknown, SeenAs, reading_view}
use Rattle.link_pairs.proofs.Items.{data_is_no_procedure}
use Rattle.link_pairs.proofs.Ways.{Arrival, ItemTaken, NothingTaken}

-- this PDU is on its way, as a control PDU that is taken
pub record IsOnWay (way : Way) (takes : Bool) (pdu : Pdu) (ctrl : Ctrl) : Type 0 where
  pub outgoing : Outgoing
  pub sealed : Bool
  pub on_air : way ≡ OnAir (control_item outgoing ctrl) sealed
  pub takes_it : takes ≡ true
  pub read_as : read_of pdu ≡ Known ctrl

same_ctrl : (one other : Ctrl) → Known one ≡ Known other → one ≡ other
same_ctrl one other is = cc

not_unknown : (ctrl : Ctrl) (opcode : ℕ) → Known ctrl ≡ Unknown opcode → ⊥
not_unknown ctrl opcode is = absurd (cc)

-- a body that is read as a PDU is read as what it says
said_as : (pdu : Pdu) (one ctrl : Ctrl) → read_of pdu ≡ Known one → ctrl_of pdu.body ≡ Known ctrl → one ≡ ctrl
said_as pdu one ctrl read said = by (reading_view pdu)
  where
    by : SeenAs (ctrl_of pdu.body) (read_of pdu) → one ≡ ctrl
    by (AsRead is) = same_ctrl one ctrl (sym read ∙ is ∙ said)
    by (AsUnknown other named is seen) = absurd (not_unknown one (opcode_of other) (sym read ∙ seen))

module _ (way : Way) (p c : Acknowledgement) (ctrl : Ctrl) (said : ctrl_of p.last.body ≡ Known ctrl) (procedure : is_procedure_pdu p.last ≡ true) where
  pub came : (takes accepted : Bool) → Arrival way p c takes accepted → accepted ≡ true → IsOnWay way takes p.last ctrl
  came takes accepted (NothingTaken is none no_data uncounted free shown) now = absurd
      (let no : true ≡ false = sym procedure ∙ (λ i. sym now i && is_procedure_pdu p.last) ∙ none in cc)
  came takes accepted (ItemTaken data_item sealed on is taken item shown) now = absurd
      (let no : true ≡ false = sym procedure ∙ data_is_no_procedure p.last item in cc)
  came takes accepted (ItemTaken (control_item outgoing one) sealed on is taken item shown) now =
      let same = said_as p.last one ctrl item.read_as said in
      record {
        outgoing = outgoing;
        sealed = sealed;
        on_air = on ∙ ap (λ (x : Ctrl). OnAir (control_item outgoing x) sealed) same;
        takes_it = is;
        read_as = item.read_as ∙ ap (λ (x : Ctrl). Known x) same;
      }
