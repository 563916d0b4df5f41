-- The values of an end with its phase of encryption that control PDUs carry are in their ranges (Core 5.2, volume 6 part B,
-- sections 2.4.2 and 5.1.3).
use Rattle.std.specs.Prelude.{Ok, Err, IfSome, ⊤}
use Rattle.data_pdu.specs.Layouts.{IsCtrl}
use Rattle.control_octets.specs.Fitting.{AskFits, CodeFits, FitsOctets, ReadFits}
use Rattle.phased_control.specs.procedure_values.Wants.{IsAsk}
use Rattle.phased_control.specs.Phased.{Phased}
use Rattle.phased_control.specs.Taken.{PhasedStep, Answers, Asks, Disconnects, Takes, response_ctrl}

-- those of its procedures and parameters, LL_ENC_REQ of the encryption that runs, and the PDU that is kept
pub record PhasedFits (s : Phased) : Type 0 where
  pub control : FitsOctets s.control
  pub request : IfSome s.request IsCtrl
  pub kept : IfSome s.kept IsCtrl

-- what the host and the peer give in a step fits, and LL_ENC_RSP as it would be drawn; of the others nothing is asked
abbrev pub PhasedStepFits : PhasedStep → Type 0
PhasedStepFits (Asks ask) = AskFits ask
PhasedStepFits (Answers (Ok ask)) = IsAsk ask
PhasedStepFits (Answers (Err code)) = CodeFits code
PhasedStepFits (Disconnects reason) = CodeFits reason
PhasedStepFits (Takes read slot response) = ReadFits read × IsCtrl (response_ctrl response)
PhasedStepFits step = ⊤
