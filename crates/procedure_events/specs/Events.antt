-- The event that the host of an end gets for one thing that a control procedure of a link did there (Core 5.2, volume 4
-- part E, section 7.7; what makes one where the standard leaves it open is our choice). No mask withholds any here.
use Rattle.std.specs.Prelude.{ℕ, Bool, Option, Some, None, if◌then◌else◌}
use Rattle.ble_base.specs.ErrorCodes.{success}
use Rattle.ble_base.specs.declared.error_codes.ErrCode.{ErrCode}
use Rattle.ble_base.specs.declared.procedure_kinds.Kind.{Kind}
use Rattle.ble_base.specs.declared.procedure_kinds.Kind.TheVariants.{Encrypt, Features, Phy, Request, Version}
use Rattle.data_pdu.specs.declared.ctrl.Ctrl.{Ctrl}
use Rattle.data_pdu.specs.declared.ctrl.Ctrl.TheVariants.{EncReq, StartEncRsp}
use Rattle.hci_evt.specs.declared.event.Event.{Event}
use Rattle.hci_evt.specs.declared.event.Event.TheVariants.{EncryptionChange, KeyRefresh, KeyRequest, LengthChange, ParamRequest, PhyComplete, RemoteFeatures, RemoteVersion, UpdateComplete}
use Rattle.instants.specs.declared.indications.Params.{Params}
use Rattle.procedure_stages.specs.declared.steps.Effect.{Effect}
use Rattle.procedure_stages.specs.declared.steps.Effect.TheVariants.{AskHost, Cipher, Lengths}
use Rattle.procedure_stages.specs.procedure_values.Drafts.{time_of}
use Rattle.link_model.specs.declared.state.PeerFacts.{PeerFacts}
use Rattle.link_model.specs.declared.state.PeerVersion.{PeerVersion}

-- ---- parameters and lengths

-- LE Connection Update Complete with this status, and the parameters of now (section 7.7.65.3)
abbrev pub update_event : ℕ → ℕ → Params → Event
update_event handle status params = UpdateComplete status handle params.interval params.latency params.timeout

-- LE Data Length Change: what is received and transmitted, with the time of each (section 7.7.65.7)
abbrev pub length_event : ℕ → ℕ → ℕ → Event
length_event handle rx tx = LengthChange handle tx (time_of tx) rx (time_of rx)

-- ---- what is known of the peer: where it is not known there is no event

-- Read Remote Version Information Complete (section 7.7.12)
abbrev pub version_event : ℕ → Option PeerVersion → Option Event
version_event handle None = None
version_event handle (Some peer) = Some (RemoteVersion success handle peer.version peer.company peer.sub)

-- LE Read Remote Features Complete (section 7.7.65.4)
abbrev pub features_event : ℕ → Option ℕ → Option Event
features_event handle None = None
features_event handle (Some features) = Some (RemoteFeatures success handle features)

-- ---- PHYs

-- LE 1M, the one PHY of each link (section 7.7.65.12; that there is no other is our choice)
abbrev pub le_1m : ℕ
le_1m = 1

-- LE PHY Update Complete with this status (section 7.7.65.12)
abbrev pub phy_event : ℕ → ℕ → Event
phy_event handle status = PhyComplete status handle le_1m le_1m

-- ---- encryption

-- the link is encrypted from now on: Encryption Change, and Encryption Key Refresh Complete where this end was in phase
-- Secure before on this link (sections 7.7.8 and 7.7.39)
abbrev pub encryption_event : ℕ → Bool → Event
encryption_event handle was_encrypted =
    if was_encrypted then KeyRefresh success handle else EncryptionChange success handle 1

-- a PDU of the encryption goes on with it: a peripheral that takes LL_ENC_REQ asks its host for the key, and an end that
-- takes LL_START_ENC_RSP is encrypted (section 7.7.65.5; volume 6 part B, section 5.1.3.1)
abbrev pub event_of_cipher : ℕ → Bool → Ctrl → Option Event
event_of_cipher handle was_encrypted (EncReq rand ediv skd_m iv_m) = Some (KeyRequest handle rand ediv)
event_of_cipher handle was_encrypted StartEncRsp = Some (encryption_event handle was_encrypted)
event_of_cipher handle was_encrypted other = None

-- ---- by what a procedure did

-- a procedure of this end is done (sections 7.7.12, 7.7.65.4 and 7.7.65.12)
abbrev pub event_of_done : ℕ → PeerFacts → Kind → Option Event
event_of_done handle peer Phy = Some (phy_event handle success)
event_of_done handle peer Features = features_event handle peer.features
event_of_done handle peer Version = version_event handle peer.version
event_of_done handle peer other = None

-- a procedure of this end is refused: the status is the code of the refusal; features, versions and whether the link is
-- encrypted are 0 (sections 7.7.8, 7.7.12, 7.7.65.3, 7.7.65.4 and 7.7.65.12)
abbrev pub event_of_refusal : ℕ → Params → Kind → ErrCode → Option Event
event_of_refusal handle params Request code = Some (update_event handle code.0 params)
event_of_refusal handle params Phy code = Some (phy_event handle code.0)
event_of_refusal handle params Features code = Some (RemoteFeatures code.0 handle 0)
event_of_refusal handle params Version code = Some (RemoteVersion code.0 handle 0 0 0)
event_of_refusal handle params Encrypt code = Some (EncryptionChange code.0 handle 0)
event_of_refusal handle params other code = None

-- a control PDU has this effect on a link where this end was Secure before, or was not (sections 7.7.65.6 and 7.7.65.7)
abbrev pub event_of_effect : ℕ → Bool → Effect → Option Event
event_of_effect handle was_encrypted (Lengths rx tx) = Some (length_event handle rx tx)
event_of_effect handle was_encrypted (AskHost min max latency timeout) =
    Some (ParamRequest handle min max latency timeout)
event_of_effect handle was_encrypted (Cipher ctrl) = event_of_cipher handle was_encrypted ctrl
event_of_effect handle was_encrypted other = None
