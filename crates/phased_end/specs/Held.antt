-- What one end with its keys holds, and what it holds after a step (Core 5.2, volume 6 part B, section 5.1.3).
use Rattle.std.specs.Prelude.{Bool, false, List, [], ◌∷◌, Option}
use Rattle.data_pdu.specs.declared.ctrl.Ctrl.{Ctrl}
use Rattle.control_part.specs.control_end.Held as control
use Rattle.keyed_control.specs.declared.material.KeyMaterial.{KeyMaterial}
use Rattle.keyed_control.specs.Keyed.{Keyed}
use Rattle.keyed_control.specs.KeyedSteps.{KeyedStep, keyed_after}
use Rattle.keyed_control.specs.enc_phase.Sealing.{EncEnd}
use Rattle.keyed_control.specs.phased_control.Phased.{Phased}

pub record HeldKeyed : Type 0 where
  -- its procedures and its parameters, with the code with which it ended the link
  pub control : control.Held
  -- the session in its phase, with the counters
  pub end : EncEnd
  -- the first PDU of a procedure of the peripheral that a central keeps
  pub kept : Option Ctrl
  -- the host of a peripheral was asked for a key, and has not answered
  pub asks_key : Bool
  -- LL_ENC_REQ of the encryption that the central runs
  pub request : Option Ctrl
  pub material : KeyMaterial

-- what an end holds does not include what it sent, nor whether it knows the version of its peer
abbrev pub held_of : Keyed → HeldKeyed
held_of k =
    record {
      control = control.held_of k.phased.control;
      end = k.end;
      kept = k.phased.kept;
      asks_key = k.phased.asks_key;
      request = k.phased.request;
      material = k.material;
    }

-- an end that holds this
abbrev pub phased_of : HeldKeyed → Phased
phased_of h =
    record {
      control = control.control_of h.control;
      phase = h.end.phase;
      kept = h.kept;
      asks_key = h.asks_key;
      request = h.request;
      knows_version = false;
    }

abbrev pub keyed_of : HeldKeyed → Keyed
keyed_of h = record { phased = phased_of h; material = h.material; end = h.end }

abbrev pub held_after : KeyedStep → HeldKeyed → HeldKeyed
held_after step h = held_of (keyed_after step (keyed_of h))

abbrev pub held_after_all : List KeyedStep → HeldKeyed → HeldKeyed
held_after_all [] h = h
held_after_all (step ∷ steps) h = held_after_all steps (held_after step h)
