-- Worked steps of one end that starts encryption, with the sample data of the Core specification (Core 5.2, volume 6
-- part C, section 1).
use Rattle.std.specs.Prelude.{ℕ, List, [], ◌∷◌}
use Rattle.ble_base.specs.declared.channel_map.ChannelMap.{ChannelMap}
use Rattle.ble_base.specs.declared.roles.Role.{Role}
use Rattle.ble_base.specs.declared.roles.Role.TheVariants.{Central, Peripheral}
use Rattle.data_pdu.specs.declared.ctrl.Ctrl.TheVariants.{EncReq, EncRsp, StartEncReq, StartEncRsp}
use Rattle.data_pdu.specs.declared.ctrl.CtrlRead.{CtrlRead}
use Rattle.data_pdu.specs.declared.ctrl.CtrlRead.TheVariants.{Known}
use Rattle.phased_control.specs.control_model.Worked.{six_slots}
use Rattle.phased_control.specs.procedure_values.declared.asks.Ask.TheVariants.{Encrypt}
use Rattle.phased_control.specs.Taken.{Response}
use Rattle.keyed_control.specs.declared.material.KeyMaterial.{KeyMaterial}
use Rattle.keyed_control.specs.Keyed.{Keyed, first_keyed}
use Rattle.keyed_control.specs.KeyedSteps.{KeyedStep, Asks, Enters, GivesKey, SeesAcknowledged, Sends, Takes, keyed_after_all}

abbrev pub sample_ltk : List ℕ
sample_ltk =
    0x4C ∷ 0x68 ∷ 0x38 ∷ 0x41 ∷ 0x39 ∷ 0xF5 ∷ 0x74 ∷ 0xD8 ∷ 0x36 ∷ 0xBC ∷ 0xF3 ∷ 0x4E ∷ 0x9D ∷ 0xFB ∷ 0x01 ∷ 0xBF ∷ []

abbrev pub sample_material : KeyMaterial
sample_material =
    record {
      ltk = sample_ltk;
      skd_m = 0xACBDCEDFE0F10213;
      skd_s = 0x0213243546576879;
      iv_m = 0xBADCAB24;
      iv_s = 0xDEAFBABE;
    }

abbrev pub sample_key : List ℕ
sample_key =
    0x99 ∷ 0xAD ∷ 0x1B ∷ 0x52 ∷ 0x26 ∷ 0xA3 ∷ 0x7E ∷ 0x3E ∷ 0x05 ∷ 0x8E ∷ 0x3B ∷ 0x8E ∷ 0x27 ∷ 0xC2 ∷ 0xC6 ∷ 0x66 ∷ []

abbrev pub sample_iv : List ℕ
sample_iv = 0x24 ∷ 0xAB ∷ 0xDC ∷ 0xBA ∷ 0xBE ∷ 0xBA ∷ 0xAF ∷ 0xDE ∷ []

abbrev pub no_response : Response
no_response = record { skd_s = 0; iv_s = 0 }

abbrev pub takes : CtrlRead → KeyedStep
takes read = Takes read 0 no_response

-- the host of a central asks for encryption; the peripheral answers, and has a key
abbrev pub start_at_central : List KeyedStep
start_at_central =
    Asks (Encrypt 0 0 sample_ltk 0xACBDCEDFE0F10213 0xBADCAB24) ∷ Enters 0 ∷ Sends 0 ∷ SeesAcknowledged
    ∷ takes (Known (EncRsp 0x0213243546576879 0xDEAFBABE)) ∷ takes (Known StartEncReq) ∷ Sends 0 ∷ SeesAcknowledged
    ∷ takes (Known StartEncRsp) ∷ []

-- a peripheral answers the request of the central, and its host has a key
abbrev pub start_at_peripheral : List KeyedStep
start_at_peripheral =
    Enters 0 ∷ Takes (Known (EncReq 0 0 0xACBDCEDFE0F10213 0xBADCAB24)) 0 (record { skd_s = 0x0213243546576879; iv_s = 0xDEAFBABE })
    ∷ Sends 0 ∷ SeesAcknowledged ∷ GivesKey sample_ltk ∷ Sends 0 ∷ SeesAcknowledged ∷ takes (Known StartEncRsp) ∷ []

-- wrong: an end that was not asked for encryption takes LL_START_ENC_REQ, or a key of its host
abbrev pub starts_in_clear : List KeyedStep
starts_in_clear = Enters 0 ∷ takes (Known StartEncReq) ∷ []

abbrev pub keyed_in_clear : List KeyedStep
keyed_in_clear = Enters 0 ∷ GivesKey sample_ltk ∷ []

abbrev pub keyed_end_after : Role → ChannelMap → List KeyedStep → Keyed
keyed_end_after role map steps = keyed_after_all steps (first_keyed role 27 (six_slots map) 3)

abbrev pub central_after : ChannelMap → List KeyedStep → Keyed
central_after map steps = keyed_end_after Central map steps

abbrev pub peripheral_after : ChannelMap → List KeyedStep → Keyed
peripheral_after map steps = keyed_end_after Peripheral map steps
