-- What the host of an end may do on a link (Core 5.2, volume 6 part B, section 5.1).
use Rattle.std.specs.Prelude.{◌≡◌, true, Ok, Err, ⊤}
use Rattle.data_pdu.specs.Layouts.{IsCtrl}
use Rattle.data_pdu.specs.declared.ctrl.Ctrl.TheVariants.{EncRsp}
use Rattle.control_octets.specs.Fitting.{AskFits, CodeFits}
use Rattle.joint_laws.specs.joint_controls.Joint.{may_ask}
use Rattle.control_octets.specs.procedure_values.declared.asks.Ask.{Ask}
use Rattle.control_octets.specs.procedure_values.Wants.{IsAsk}
use Rattle.link_model.specs.Facts.{Facts}
use Rattle.link_model.specs.Step.{Step, DataGiven, DataReported, Disconnected, KeyAnswered, ProcedureAsked, RequestAnswered, WordsGiven}
use Rattle.link_pairs.specs.Ends.{phased_of}

-- it asks for a map, or for another kind that neither runs nor is wanted, with values in their range, and for the version
-- of the peer only until that is known: else it is answered at once
pub record MayAsk (ask : Ask) (facts : Facts) : Type 0 where
  pub in_range : AskFits ask
  pub may : may_ask ask (phased_of facts) ≡ true

-- a step of the host, with values in their range; what a peripheral would draw to answer LL_ENC_REQ fits LL_ENC_RSP
abbrev pub MayHost : Step → Facts → Type 0
MayHost (ProcedureAsked ask) facts = MayAsk ask facts
MayHost (RequestAnswered (Ok ask)) facts = IsAsk ask
MayHost (RequestAnswered (Err code)) facts = CodeFits code
MayHost (KeyAnswered key slot) facts = ⊤
MayHost (Disconnected reason slot) facts = CodeFits reason
MayHost (WordsGiven skd_s iv_s) facts = IsCtrl (EncRsp skd_s iv_s)
MayHost (DataGiven start body) facts = ⊤
MayHost DataReported facts = ⊤
MayHost step facts = ⊥
