-- The events for what the control procedures of links did.
use Rattle.std.proofs.Common.{ℕ, Bool, true, false, Option, Some, None, List, [], ◌∷◌, ◌++◌}
use Rattle.std.specs.Prelude.{⊤}
use Rattle.std.specs.List.{AllByRecursion}
use Rattle.std.specs.Option.{option_to_list}
use Rattle.ble_base.specs.declared.error_codes.ErrCode.{ErrCode}
use Rattle.ble_base.specs.declared.procedure_kinds.Kind.{Kind}
use Rattle.ble_base.specs.declared.procedure_kinds.Kind.TheVariants.{Encrypt, Features, Phy, Request, Version}
use Rattle.data_pdu.specs.declared.ctrl.Ctrl.{Ctrl}
use Rattle.data_pdu.specs.declared.ctrl.Ctrl.TheVariants.{EncReq, StartEncRsp}
use Rattle.hci_evt.specs.declared.event.Event.{Event}
use Rattle.hci_evt.specs.declared.event.Event.TheVariants.{EncryptionChange, KeyRefresh, KeyRequest, LengthChange, ParamRequest, PhyComplete, RemoteFeatures, RemoteVersion, UpdateComplete}
use Rattle.instants.specs.declared.indications.Params.{Params}
use Rattle.link_commands.specs.open_links.link_model.procedure_stages.declared.steps.Effect.{Effect}
use Rattle.link_commands.specs.open_links.link_model.procedure_stages.declared.steps.Effect.TheVariants.{AskHost, Cipher, Lengths}
use Rattle.link_commands.specs.open_links.link_model.control_end.declared.answers.Entry.{Entry}
use Rattle.link_commands.specs.open_links.link_model.declared.state.PeerFacts.{PeerFacts}
use Rattle.link_commands.specs.open_links.link_model.declared.state.PeerVersion.{PeerVersion}
use Rattle.link_commands.specs.open_links.link_model.Facts.{params_of}
use Rattle.link_commands.specs.open_links.link_model.Receiving.{effect_of, kept_effect_of}
use Rattle.link_commands.specs.open_links.link_model.Step.{PacketReceived}
use Rattle.link_commands.specs.open_links.link_end.Answers.{acked_of, given_of, kept_given_of}
use Rattle.link_commands.specs.open_links.OpenLinks.{OpenLink, facts_in, link_after}
use Rattle.link_commands.specs.open_links.Turns.{entry_at, link_entered}
use Rattle.link_commands.specs.procedure_events.Calls.{event_if_done, event_if_refused, events_known, events_of_entry}
use Rattle.link_commands.specs.procedure_events.Events.{encryption_event, event_of_cipher, event_of_done, event_of_effect, event_of_refusal, features_event, version_event}
use Rattle.controller_model.specs.Entering.{events_entering, events_of}
use Rattle.controller_model.specs.Heard.{events_received}

-- the events that control procedures can cause
abbrev pub IsOfProcedure : Event → Type 0
IsOfProcedure (EncryptionChange status handle enabled) = ⊤
IsOfProcedure (KeyRefresh status handle) = ⊤
IsOfProcedure (KeyRequest handle rand ediv) = ⊤
IsOfProcedure (RemoteVersion status handle version company sub) = ⊤
IsOfProcedure (UpdateComplete status handle interval latency timeout) = ⊤
IsOfProcedure (RemoteFeatures status handle features) = ⊤
IsOfProcedure (ParamRequest handle min max latency timeout) = ⊤
IsOfProcedure (LengthChange handle tx_octets tx_time rx_octets rx_time) = ⊤
IsOfProcedure (PhyComplete status handle tx rx) = ⊤
IsOfProcedure other = ⊥

abbrev pub AreOfProcedures : List Event → Type 0
AreOfProcedures events = AllByRecursion IsOfProcedure events

both : (xs ys : List Event) → AreOfProcedures xs → AreOfProcedures ys → AreOfProcedures (xs ++ ys)
both [] ys are also = also
both (x ∷ xs) ys are also = (are.0, both xs ys are.1 also)

-- ---- an event is entered

of_entry : (updated : Bool) (handle : ℕ) (params : Params) → AreOfProcedures (events_of_entry handle updated params)
of_entry true handle params = (tt, tt)
of_entry false handle params = tt

of_entry_if : (handle : ℕ) (params : Params) (entry : Option Entry) → AreOfProcedures (events_of handle params entry)
of_entry_if handle params None = tt
of_entry_if handle params (Some entry) = of_entry entry.updated handle params

pub entering_events : (slot handle : ℕ) (place : Option OpenLink) → AreOfProcedures (events_entering slot handle place)
entering_events slot handle None = tt
entering_events slot handle (Some link) =
    of_entry_if handle (params_of (facts_in (link_entered slot link))) (entry_at slot (Some link))

-- ---- a packet is received

abbrev IsIfAny : Option Event → Type 0
IsIfAny event = AreOfProcedures (option_to_list event)

features_are : (handle : ℕ) (features : Option ℕ) → IsIfAny (features_event handle features)
features_are handle None = tt
features_are handle (Some features) = (tt, tt)

version_is : (handle : ℕ) (version : Option PeerVersion) → IsIfAny (version_event handle version)
version_is handle None = tt
version_is handle (Some version) = (tt, tt)

done_is : (handle : ℕ) (peer : PeerFacts) (kind : Kind) → IsIfAny (event_of_done handle peer kind)
done_is handle peer Phy = (tt, tt)
done_is handle peer Features = features_are handle peer.features
done_is handle peer Version = version_is handle peer.version
done_is handle peer other = tt

if_done : (handle : ℕ) (peer : PeerFacts) (done : Option Kind) → IsIfAny (event_if_done handle peer done)
if_done handle peer None = tt
if_done handle peer (Some kind) = done_is handle peer kind

refusal_is : (handle : ℕ) (params : Params) (kind : Kind) (code : ErrCode) → IsIfAny (event_of_refusal handle params kind code)
refusal_is handle params Request code = (tt, tt)
refusal_is handle params Phy code = (tt, tt)
refusal_is handle params Features code = (tt, tt)
refusal_is handle params Version code = (tt, tt)
refusal_is handle params Encrypt code = (tt, tt)
refusal_is handle params other code = tt

if_refused : (handle : ℕ) (params : Params) (refused : Option (Kind × ErrCode)) → IsIfAny (event_if_refused handle params refused)
if_refused handle params None = tt
if_refused handle params (Some (kind, code)) = refusal_is handle params kind code

encrypted_is : (handle : ℕ) (before : Bool) → IsOfProcedure (encryption_event handle before)
encrypted_is handle true = tt
encrypted_is handle false = tt

cipher_is : (handle : ℕ) (before : Bool) (ctrl : Ctrl) → IsIfAny (event_of_cipher handle before ctrl)
cipher_is handle before (EncReq rand ediv skd_m iv_m) = (tt, tt)
cipher_is handle before StartEncRsp = (encrypted_is handle before, tt)
cipher_is handle before other = tt

effect_is : (handle : ℕ) (before : Bool) (effect : Effect) → IsIfAny (event_of_effect handle before effect)
effect_is handle before (Lengths rx tx) = (tt, tt)
effect_is handle before (AskHost min max latency timeout) = (tt, tt)
effect_is handle before (Cipher ctrl) = cipher_is handle before ctrl
effect_is handle before other = tt

-- ---- what is known already is answered at once

pub known_events : (handle : ℕ) (peer : PeerFacts) (kind : Kind) → AreOfProcedures (events_known handle peer kind)
known_events handle peer Features = features_are handle peer.features
known_events handle peer Version = version_is handle peer.version
known_events handle peer other = tt

-- ---- all of a packet

pub reception_events : (before : Bool) (handle slot : ℕ) (room : Bool) (place : Option OpenLink) (octets : List ℕ)
    → AreOfProcedures (events_received before handle slot room place octets)
reception_events before handle slot room None octets = tt
reception_events before handle slot room (Some link) octets =
    let peer = (facts_in (link_after (PacketReceived slot octets room) link)).peer in
    let given = given_of link.setup (facts_in link) slot octets room in
    both _ _
    (both _ _
    (both _ _
    (both _ _ (if_done handle peer (acked_of link.setup (facts_in link) octets))
    (effect_is handle before (effect_of link.setup (facts_in link) slot octets room)))
    (if_refused handle (params_of (facts_in link)) given.refused))
    (if_done handle peer given.done))
    (both _ _ (effect_is handle before (kept_effect_of link.setup (facts_in link) slot octets room))
    (if_done handle peer (kept_given_of link.setup (facts_in link) slot octets room).done))
