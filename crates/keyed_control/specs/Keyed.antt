-- One end of a link with its phase of encryption, its keys and the counters of its sealed PDUs (Core 5.2, volume 6 part
-- B, sections 5.1.3.1 and 5.1.3.2).
use Rattle.std.specs.Prelude.{ℕ, ◌++◌, replicate}
use Rattle.std.specs.Int.{to_le_bytes, w32}
use Rattle.ble_base.specs.declared.roles.Role.{Role}
use Rattle.ccm_link.specs.Payload.{session_key}
use Rattle.instants.specs.declared.indications.Params.{Params}
use Rattle.phased_control.specs.enc_phase.declared.facts.PhaseFacts.TheVariants.{Clear}
use Rattle.phased_control.specs.enc_phase.declared.session.Session.{Session}
use Rattle.phased_control.specs.enc_phase.Sealing.{EncEnd, clear_end}
use Rattle.phased_control.specs.Phased.{Phased, first_phased}
use Rattle.keyed_control.specs.declared.material.KeyMaterial.{KeyMaterial}

-- nothing was given or taken yet
abbrev pub first_material : KeyMaterial
first_material = record { ltk = replicate 16 0; skd_m = 0; skd_s = 0; iv_m = 0; iv_s = 0 }

-- the session of this material: the initialization vector has the four octets of the central and then those of the
-- peripheral, each in the order on the air (section 5.1.3.1, and part E, section 2.1)
abbrev pub session_of : KeyMaterial → Session
session_of m =
    record { key = session_key m.ltk m.skd_m m.skd_s; iv = to_le_bytes w32 m.iv_m ++ to_le_bytes w32 m.iv_s }

pub record Keyed : Type 0 where
  -- its procedures, its parameters and its phase
  pub phased : Phased
  -- the long term key that its host gave last, and the halves of the session key diversifier and of the initialization
  -- vector of the last LL_ENC_REQ and LL_ENC_RSP that counted
  pub material : KeyMaterial
  -- the session in its phase, with the counters
  pub end : EncEnd

-- an end as the link begins
abbrev pub first_keyed : Role → ℕ → Params → ℕ → Keyed
first_keyed role max_rx first slot =
    record { phased = first_phased role max_rx first slot; material = first_material; end = clear_end role Clear }
