-- What one end of a link holds: plain facts of its procedures and parameters, of its encryption, of its events, of
-- acknowledgement, of data and of how the link is to end (our choice).
use Rattle.std.specs.Prelude.{Bool, false, Option, None}
use Rattle.ble_base.specs.Limits.{first_payload_octets}
use Rattle.ble_base.specs.declared.roles.Role.{Role}
use Rattle.instants.specs.declared.indications.Params.{Params}
use Rattle.data_pdu.specs.declared.ctrl.Ctrl.{Ctrl}
use Rattle.phased_end.specs.keyed_control.declared.material.KeyMaterial.{KeyMaterial}
use Rattle.phased_end.specs.keyed_control.Keyed.{Keyed, first_material}
use Rattle.phased_end.specs.keyed_control.declared.material.Response.{Response}
use Rattle.phased_end.specs.enc_phase.declared.facts.PhaseFacts.{PhaseFacts}
use Rattle.phased_end.specs.enc_phase.declared.facts.PhaseFacts.TheVariants.{Clear}
use Rattle.phased_end.specs.enc_phase.Sealing.{EncEnd, clear_end}
use Rattle.phased_end.specs.control_end.control_model.Control.{Control, first_control}
use Rattle.link_model.specs.declared.events.ConnectionEvent.{ConnectionEvent}
use Rattle.link_model.specs.declared.events.Reception.{Reception}
use Rattle.link_model.specs.Setup.{Setup, first_anchor, first_params}
use Rattle.link_model.specs.Acknowledgement.{Acknowledgement, first_acknowledgement}
use Rattle.link_model.specs.Data.{Data, first_data}
use Rattle.link_model.specs.Events.{no_event}
use Rattle.link_model.specs.declared.state.KnownLengths.{KnownLengths}
use Rattle.link_model.specs.declared.state.Leaving.{Leaving}
use Rattle.link_model.specs.declared.state.PeerFacts.{PeerFacts}

-- the encryption of an end (section 5.1.3)
pub record Encryption : Type 0 where
  pub phase : PhaseFacts
  -- the first PDU of a procedure of the peripheral that a central keeps until the phase is Clear or Secure (our choice)
  pub kept : Option Ctrl
  -- the host of a peripheral was asked for a key, and has not answered
  pub asks_key : Bool
  -- LL_ENC_REQ of the encryption that the central runs
  pub request : Option Ctrl
  -- the procedures have seen LL_VERSION_IND of the peer: one that is kept they see later
  pub knows_version : Bool
  -- what the keys are made of
  pub material : KeyMaterial
  -- the session in its phase, with the counters
  pub end : EncEnd
  -- what a peripheral would draw to answer LL_ENC_REQ
  pub response : Response

pub record Facts : Type 0 where
  -- its procedures, its parameters and anchors, and the error with which it ended the link
  pub control : Control
  pub encryption : Encryption
  pub peer : PeerFacts
  -- the connection event that it entered last
  pub event : ConnectionEvent
  -- the longest payloads in it, and those that its host knows
  pub lengths : KnownLengths
  pub acknowledgement : Acknowledgement
  pub outgoing : Data
  -- the PDU that is fixed is the next control PDU, as its procedures have it when it is sent; else it is that of its data
  pub fixes_control : Bool
  -- the last good packet that it received
  pub last_good : Option Reception
  pub leaving : Leaving

abbrev pub no_peer : PeerFacts
no_peer = record { features = None; version = None }

abbrev pub no_lengths : KnownLengths
no_lengths =
    record {
      long = false;
      changed = false;
      reported_rx = first_payload_octets;
      reported_tx = first_payload_octets;
    }

abbrev pub stays : Leaving
stays = record { disconnected = None; acknowledged = false; ended_by_peer = None; answered = false }

abbrev pub no_response : Response
no_response = record { skd_s = 0; iv_s = 0 }

abbrev pub no_encryption : Role → Encryption
no_encryption role =
    record {
      phase = Clear;
      kept = None;
      asks_key = false;
      request = None;
      knows_version = false;
      material = first_material;
      end = clear_end role Clear;
      response = no_response;
    }

abbrev pub first_facts : Setup → Facts
first_facts setup =
    record {
      control =
          first_control setup.link.role setup.link.max_rx (first_params setup.link.fields) (first_anchor setup);
      encryption = no_encryption setup.link.role;
      peer = no_peer;
      event = no_event;
      lengths = no_lengths;
      acknowledgement = first_acknowledgement;
      outgoing = first_data;
      fixes_control = false;
      last_good = None;
      leaving = stays;
    }

-- ---- the end with its procedures, its phase and its keys

abbrev pub keyed_with : Control → Encryption → Keyed
keyed_with control encryption =
    record {
      phased =
          record {
            control = control;
            phase = encryption.phase;
            kept = encryption.kept;
            asks_key = encryption.asks_key;
            request = encryption.request;
            knows_version = encryption.knows_version;
          };
      material = encryption.material;
      end = encryption.end;
    }

abbrev pub keyed_of : Facts → Keyed
keyed_of facts = keyed_with facts.control facts.encryption

-- what a step leaves of it
abbrev pub encryption_of : Keyed → Response → Encryption
encryption_of k response =
    record {
      phase = k.phased.phase;
      kept = k.phased.kept;
      asks_key = k.phased.asks_key;
      request = k.phased.request;
      knows_version = k.phased.knows_version;
      material = k.material;
      end = k.end;
      response = response;
    }

abbrev pub with_keyed : Keyed → Facts → Facts
with_keyed k facts =
    record facts { control = k.phased.control; encryption = encryption_of k facts.encryption.response }

-- the parameters in the event entered last
abbrev pub params_of : Facts → Params
params_of facts = facts.control.track.params
