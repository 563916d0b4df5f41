-- Worked steps of one end that starts encryption.
use Rattle.std.specs.Prelude.{List, [], ◌∷◌, replicate}
use Rattle.ble_base.specs.declared.channel_map.ChannelMap.{ChannelMap}
use Rattle.ble_base.specs.declared.roles.Role.TheVariants.{Central, Peripheral}
use Rattle.control_model.specs.Worked.{six_slots}
use Rattle.data_pdu.specs.declared.ctrl.Ctrl.TheVariants.{EncReq, EncRsp, RejectExtInd, StartEncReq, StartEncRsp}
use Rattle.data_pdu.specs.declared.ctrl.CtrlRead.{CtrlRead}
use Rattle.data_pdu.specs.declared.ctrl.CtrlRead.TheVariants.{Known}
use Rattle.table_laws.specs.procedure_values.declared.asks.Ask.TheVariants.{Encrypt}
use Rattle.phased_control.specs.Phased.{Phased, first_phased}
use Rattle.phased_control.specs.Taken.{PhasedStep, Response, Asks, Enters, GivesKey, SeesAcknowledged, Sends, Takes, phased_after_all}

abbrev pub central_after : ChannelMap → List PhasedStep → Phased
central_after map steps = phased_after_all steps (first_phased Central 27 (six_slots map) 3)

abbrev pub peripheral_after : ChannelMap → List PhasedStep → Phased
peripheral_after map steps = phased_after_all steps (first_phased Peripheral 27 (six_slots map) 3)

abbrev pub zero_response : Response
zero_response = record { skd_s = 0; iv_s = 0 }

abbrev pub takes : CtrlRead → PhasedStep
takes read = Takes read 0 zero_response

-- the host asks for encryption, which begins with LL_ENC_REQ; the peripheral answers, and has a key
abbrev pub start_at_central : List PhasedStep
start_at_central =
    Asks (Encrypt 0 0 (replicate 16 0) 0 0) ∷ Enters 0 ∷ Sends 0 ∷ SeesAcknowledged ∷ takes (Known (EncRsp 0 0))
    ∷ takes (Known StartEncReq) ∷ Sends 0 ∷ SeesAcknowledged ∷ takes (Known StartEncRsp) ∷ []

-- or it has none
abbrev pub refusal_at_central : List PhasedStep
refusal_at_central =
    Asks (Encrypt 0 0 (replicate 16 0) 0 0) ∷ Enters 0 ∷ Sends 0 ∷ SeesAcknowledged ∷ takes (Known (EncRsp 0 0))
    ∷ takes (Known (RejectExtInd 0x03 0x06)) ∷ []

-- a peer that answers LL_ENC_REQ before it is sent
abbrev pub answers_too_early : List PhasedStep
answers_too_early =
    Asks (Encrypt 0 0 (replicate 16 0) 0 0) ∷ Enters 0 ∷ takes (Known (EncRsp 0 0)) ∷ takes (Known StartEncReq)
    ∷ takes (Known StartEncRsp) ∷ []

-- a peer that goes on before it has LL_ENC_RSP and LL_START_ENC_REQ
abbrev pub goes_on_too_early : List PhasedStep
goes_on_too_early = takes (Known (EncReq 0 0 0 0)) ∷ GivesKey ∷ takes (Known StartEncRsp) ∷ []
