-- What the laws of one end with its phase speak of (Core 5.2, volume 6 part B, section 5.1.3; that a central keeps a
-- PDU is our choice).
use Rattle.std.specs.Prelude.{◌≡◌, Bool, true, false, List, [], ◌∷◌, Option, Some, None, Ok, ⊤}
use Rattle.data_pdu.specs.declared.ctrl.Ctrl.{Ctrl}
use Rattle.data_pdu.specs.declared.ctrl.Ctrl.TheVariants.{EncReq}
use Rattle.enc_phase.specs.declared.classes.PduClass.TheVariants.{Request}
use Rattle.enc_phase.specs.declared.facts.PhaseFacts.{PhaseFacts}
use Rattle.enc_phase.specs.declared.facts.PhaseFacts.TheVariants.{Asked, HalfClear, HalfKeyed, Pausing}
use Rattle.enc_phase.specs.Taking.{ctrl_class}
use Rattle.table_laws.specs.procedure_values.Wants.{IsAsk}
use Rattle.phased_control.specs.Taken.{PhasedStep, Answers, Asks}

-- ---- the PDU that a central keeps

-- a phase says that a PDU is kept; HalfKeyed says nothing of it
abbrev pub says_kept : PhaseFacts → Bool
says_kept (Asked after_pause enc_rsp kept) = kept
says_kept (Pausing kept) = kept
says_kept (HalfClear kept) = kept
says_kept phase = false

abbrev pub is_half_keyed : PhaseFacts → Bool
is_half_keyed HalfKeyed = true
is_half_keyed phase = false

-- it is the first PDU of a procedure of the peripheral
abbrev pub IsFirst : Option Ctrl → Type 0
IsFirst None = ⊤
IsFirst (Some ctrl) = ctrl_class ctrl ≡ Request

-- ---- the request of a central's encryption

abbrev pub IsRequest : Option Ctrl → Type 0
IsRequest (Some (EncReq rand ediv skd_m iv_m)) = ⊤
IsRequest request = ⊥

-- ---- what a host asks is in its range

abbrev pub AsksInRange : PhasedStep → Type 0
AsksInRange (Asks ask) = IsAsk ask
AsksInRange (Answers (Ok ask)) = IsAsk ask
AsksInRange step = ⊤

abbrev pub AllAskInRange : List PhasedStep → Type 0
AllAskInRange [] = ⊤
AllAskInRange (step ∷ steps) = AsksInRange step × AllAskInRange steps
