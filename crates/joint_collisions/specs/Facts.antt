-- What the laws of joint runs of exclusive procedures need to know of each end alone (Core 5.2, volume 6 part B, sections
-- 5.1.3 and 5.3; our choice of words).
use Rattle.std.specs.Prelude.{◌≡◌, ◌≤◌, ℕ, ◌==◌, ◌||◌, Bool, true, false, not, List, [], ◌∷◌, Option, Some, None, is_some, ⊤}
use Rattle.std.specs.List.{All}
use Rattle.ble_base.specs.declared.roles.Role.TheVariants.{Central}
use Rattle.data_pdu.specs.declared.ctrl.Ctrl.{Ctrl}
use Rattle.data_pdu.specs.declared.ctrl.Ctrl.TheVariants.{EncReq, EncRsp, PauseEncReq, PauseEncRsp, RejectExtInd, StartEncReq, StartEncRsp, TerminateInd}
use Rattle.joint_controls.specs.enc_phase.declared.classes.PduClass.TheVariants.{Request}
use Rattle.joint_controls.specs.enc_phase.Taking.{allows, ctrl_class}
use Rattle.collision_steps.specs.procedure_values.declared.drafts.Outgoing.{Outgoing}
use Rattle.collision_steps.specs.procedure_values.declared.drafts.Outgoing.TheVariants.{Other, Rejection}
use Rattle.collision_steps.specs.procedure_values.declared.drafts.Draft.TheVariants.{Cipher, UnknownRsp}
use Rattle.collision_steps.specs.procedure_stages.Closing.{is_disconnecting}
use Rattle.collision_steps.specs.procedure_stages.Opcodes.{channel_map_ind_opcode, connection_param_req_opcode, connection_update_ind_opcode, enc_req_opcode, phy_req_opcode}
use Rattle.collision_steps.specs.Parts.{rejection_part}
use Rattle.joint_controls.specs.phased_control.Phased.{Phased, is_open_now, is_pause_rsp, is_quiet_now}
use Rattle.joint_controls.specs.Joint.{Control, Data, Item, Joint, JointStep, after, after_all, beginning, is_running, item_on_air}
use Rattle.joint_controls.specs.Ends.{AreStepsInRange}
use Rattle.instants.specs.declared.indications.Params.{Params}

-- ---- one end

-- a central
pub record CentralFacts (s : Phased) : Type 0 where
  -- it keeps one first PDU, and allows no other until that is answered
  pub kept : (ctrl : Ctrl) → s.kept ≡ Some ctrl → allows s.phase Central Request ≡ false
  pub first : (ctrl : Ctrl) → s.kept ≡ Some ctrl → ctrl_class ctrl ≡ Request
  -- it asks for encryption again only after a pause
  pub pauses : is_pause_rsp s.control.table.out ≡ true → is_quiet_now s ≡ false
  -- it rejects the procedures of the peripheral that exclude others, and nothing else
  pub rejections : All (λ rejection. is_some (rejection_part rejection) ≡ true) s.control.table.queue.rejections
  -- until it takes LL_TERMINATE_IND it is to end only by the Disconnect of its host
  pub closing : is_open_now s ≡ false → is_disconnecting s.control.table.closing ≡ true

-- a peripheral keeps nothing
pub record PeripheralFacts (s : Phased) : Type 0 where
  pub kept : s.kept ≡ None

-- ---- what is on its way

-- the PDUs of the encryption that a peripheral sends
abbrev pub is_cipher_up : Ctrl → Bool
is_cipher_up (EncRsp skd_s iv_s) = true
is_cipher_up StartEncReq = true
is_cipher_up StartEncRsp = true
is_cipher_up PauseEncRsp = true
is_cipher_up (TerminateInd code) = true
is_cipher_up (RejectExtInd opcode code) = enc_req_opcode == opcode
is_cipher_up ctrl = false

-- and those that a central sends
abbrev pub is_cipher_down : Ctrl → Bool
is_cipher_down (EncReq rand ediv skd_m iv_m) = true
is_cipher_down StartEncRsp = true
is_cipher_down PauseEncReq = true
is_cipher_down PauseEncRsp = true
is_cipher_down (TerminateInd code) = true
is_cipher_down ctrl = false

-- the first PDUs of the central's procedures that exclude others, and those of the peripheral: each end knows them
abbrev pub is_first_down : ℕ → Bool
is_first_down opcode =
    (connection_update_ind_opcode == opcode) || ((channel_map_ind_opcode == opcode) || (phy_req_opcode == opcode))

abbrev pub is_first_up : ℕ → Bool
is_first_up opcode = (connection_param_req_opcode == opcode) || (phy_req_opcode == opcode)

-- a peripheral rejects nothing but the start of an encryption
abbrev pub fits_up : Outgoing → Bool
fits_up (Rejection rejection) = false
fits_up (Other (UnknownRsp opcode)) = not (is_first_down opcode)
fits_up (Other (Cipher ctrl)) = is_cipher_up ctrl
fits_up outgoing = true

-- a central rejects the procedures of the peripheral that exclude others, and nothing else
abbrev pub fits_down : Outgoing → Bool
fits_down (Rejection rejection) = is_some (rejection_part rejection)
fits_down (Other (UnknownRsp opcode)) = not (is_first_up opcode)
fits_down (Other (Cipher ctrl)) = is_cipher_down ctrl
fits_down outgoing = true

abbrev pub item_fits : (Outgoing → Bool) → Item → Bool
item_fits fits Data = true
item_fits fits (Control outgoing ctrl) = fits outgoing

abbrev pub fits_if : (Outgoing → Bool) → Option Item → Bool
fits_if fits None = true
fits_if fits (Some item) = item_fits fits item

-- ---- both ends, in one state of a joint run

pub record Facts (s : Joint) : Type 0 where
  pub central : CentralFacts s.central
  pub peripheral : PeripheralFacts s.peripheral
  pub down : fits_if fits_down (item_on_air s.down) ≡ true
  pub up : fits_if fits_up (item_on_air s.up) ≡ true

-- in each state of a run in which a step may come
abbrev pub AllFacts : List JointStep → Joint → Type 0
AllFacts [] s = ⊤
AllFacts (step ∷ steps) s = (is_running s ≡ true → Facts s) × AllFacts steps (after step s)

-- a state of a joint run in which a step may come
pub record IsState (s : Joint) : Type 0 where
  pub central_rx : ℕ
  pub peripheral_rx : ℕ
  pub first : Params
  pub slot : ℕ
  pub steps : List JointStep
  pub latency : first.latency ≤ 499
  pub in_range : AreStepsInRange steps
  pub before : AllFacts steps (beginning central_rx peripheral_rx first slot)
  pub now : Facts s
  pub reaches : after_all steps (beginning central_rx peripheral_rx first slot) ≡ s
