-- The stages of procedures after a PDU was first sent (Core 5.2, volume 6 part B, section 5.1).
use Rattle.std.specs.Prelude.{Option, Some, None, option_map, ℕ, unwrap_or, Bool, is_some, false}
use Rattle.ble_base.specs.declared.counters.EventNo.{EventNo}
use Rattle.procedure_stages.specs.declared.stages.Exchange.{Exchange}
use Rattle.procedure_stages.specs.declared.stages.Exchange.TheVariants.{FeaturesUnsent, FeaturesSent, VersionUnsent, VersionSent, LengthUnsent, LengthSent}
use Rattle.procedure_stages.specs.declared.stages.OwnCentral.{OwnCentral}
use Rattle.procedure_stages.specs.declared.stages.OwnCentral.TheVariants.{Exclusive as exclusive, Exchange as exchange, EncryptUnsent, EncryptSent}
use Rattle.procedure_stages.specs.declared.stages.OwnPeripheral.{OwnPeripheral}
use Rattle.procedure_stages.specs.declared.stages.OwnPeripheral.TheVariants.{Exclusive as exclusive_p, Exchange as exchange_p}
use Rattle.exclusive_stages.specs.declared.pdus.Pdu.{Pdu}
use Rattle.exclusive_stages.specs.declared.stages.CentralStage.{CentralStage}
use Rattle.exclusive_stages.specs.declared.stages.PeerAtCentral.{PeerAtCentral}
use Rattle.exclusive_stages.specs.declared.stages.PeripheralStage.{PeripheralStage}
use Rattle.exclusive_stages.specs.declared.stages.PeerAtPeripheral.{PeerAtPeripheral}
use Rattle.exclusive_stages.specs.Sent.{own_sent_by_central, own_sent_by_peripheral, peer_sent_by_central, peer_sent_by_peripheral}
use Rattle.procedure_stages.specs.Exclusive.{pdu_of_draft}
use Rattle.procedure_values.specs.declared.drafts.Draft.{Draft}
use Rattle.procedure_values.specs.declared.drafts.Draft.TheVariants.{FeatureReq, PeripheralFeatureReq, VersionInd, LengthReq, Update, Map, Cipher, Grant}
use Rattle.procedure_stages.specs.declared.stages.Central.{Central}
use Rattle.procedure_stages.specs.declared.stages.Peripheral.{Peripheral}
use Rattle.procedure_stages.specs.declared.stages.Progress.{Progress}
use Rattle.procedure_stages.specs.declared.stages.Progress.TheVariants.{Central as central, Peripheral as peripheral}
use Rattle.procedure_values.specs.declared.drafts.Outgoing.{Outgoing}
use Rattle.procedure_values.specs.declared.drafts.Outgoing.TheVariants.{Other}
use Rattle.procedure_values.specs.Drafts.{instant_event}

-- ---- features, version, length (sections 5.1.4, 5.1.5 and 5.1.9)

-- LL_FEATURE_REQ or LL_PERIPHERAL_FEATURE_REQ is sent
abbrev pub features_sent : Exchange → Option Exchange
features_sent FeaturesUnsent = Some FeaturesSent
features_sent other = None

-- the own LL_VERSION_IND is sent
abbrev pub version_sent : Exchange → Option Exchange
version_sent VersionUnsent = Some VersionSent
version_sent other = None

-- LL_LENGTH_REQ is sent
abbrev pub length_sent : Exchange → Option Exchange
length_sent LengthUnsent = Some LengthSent
length_sent other = None

-- ---- a PDU of the own procedure is sent: the stage after it, if it is one

abbrev pub exchange_sent : Draft → Exchange → Option Exchange
exchange_sent FeatureReq stage = features_sent stage
exchange_sent PeripheralFeatureReq stage = features_sent stage
exchange_sent VersionInd stage = version_sent stage
exchange_sent (LengthReq rx tx) stage = length_sent stage
exchange_sent other stage = None

-- a PDU of the central's own encryption (section 5.1.3)
abbrev pub encryption_sent : Draft → Option OwnCentral
encryption_sent (Cipher ctrl) = Some EncryptSent
encryption_sent other = None

-- a PDU of a procedure that excludes others
abbrev pub exclusive_sent_by_central : Option Pdu → CentralStage → Option CentralStage
exclusive_sent_by_central None stage = None
exclusive_sent_by_central (Some pdu) stage = own_sent_by_central pdu stage

abbrev pub exclusive_sent_by_peripheral : Option Pdu → PeripheralStage → Option PeripheralStage
exclusive_sent_by_peripheral None stage = None
exclusive_sent_by_peripheral (Some pdu) stage = own_sent_by_peripheral pdu stage

abbrev pub own_draft_sent_by_central : Draft → OwnCentral → Option OwnCentral
own_draft_sent_by_central draft (exclusive stage) =
    option_map (λ next. exclusive next) (exclusive_sent_by_central (pdu_of_draft draft) stage)
own_draft_sent_by_central draft (exchange stage) = option_map (λ next. exchange next) (exchange_sent draft stage)
own_draft_sent_by_central draft EncryptUnsent = encryption_sent draft
own_draft_sent_by_central draft EncryptSent = encryption_sent draft

abbrev pub own_draft_sent_by_peripheral : Draft → OwnPeripheral → Option OwnPeripheral
own_draft_sent_by_peripheral draft (exclusive_p stage) =
    option_map (λ next. exclusive_p next) (exclusive_sent_by_peripheral (pdu_of_draft draft) stage)
own_draft_sent_by_peripheral draft (exchange_p stage) =
    option_map (λ next. exchange_p next) (exchange_sent draft stage)

-- ---- a PDU that answers the peer is sent

abbrev pub peer_draft_sent_by_central : Option Pdu → PeerAtCentral → PeerAtCentral
peer_draft_sent_by_central None peer = peer
peer_draft_sent_by_central (Some pdu) peer = peer_sent_by_central pdu peer

abbrev pub peer_draft_sent_by_peripheral : Option Pdu → PeerAtPeripheral → PeerAtPeripheral
peer_draft_sent_by_peripheral None peer = peer
peer_draft_sent_by_peripheral (Some pdu) peer = peer_sent_by_peripheral pdu peer

-- ---- the procedures after a draft was first sent

-- the event that the Instant of the last indication names
abbrev pub last_instant_after : Draft → ℕ → ℕ → Option EventNo → Option EventNo
last_instant_after (Update params) event skips last = Some (record { 0 = instant_event event skips })
last_instant_after (Grant params) event skips last = Some (record { 0 = instant_event event skips })
last_instant_after (Map map) event skips last = Some (record { 0 = instant_event event skips })
last_instant_after other event skips last = last

abbrev pub central_after : Draft → ℕ → ℕ → Central → Central
central_after draft event skips c =
    record {
      own = unwrap_or (own_draft_sent_by_central draft c.own) c.own;
      peer = peer_draft_sent_by_central (pdu_of_draft draft) c.peer;
      last_instant = last_instant_after draft event skips c.last_instant;
    }

abbrev pub peripheral_after : Draft → Peripheral → Peripheral
peripheral_after draft p =
    record p {
      own = unwrap_or (own_draft_sent_by_peripheral draft p.own) p.own;
      peer = peer_draft_sent_by_peripheral (pdu_of_draft draft) p.peer;
    }

abbrev pub progress_after_draft : Draft → ℕ → ℕ → Progress → Progress
progress_after_draft draft event skips (central c) = central (central_after draft event skips c)
progress_after_draft draft event skips (peripheral p) = peripheral (peripheral_after draft p)

abbrev pub progress_after_sending : Outgoing → ℕ → ℕ → Progress → Progress
progress_after_sending (Other draft) event skips progress = progress_after_draft draft event skips progress
progress_after_sending other event skips progress = progress

-- whether it is a PDU of the own procedure
abbrev pub is_own_draft : Draft → Progress → Bool
is_own_draft draft (central c) = is_some (own_draft_sent_by_central draft c.own)
is_own_draft draft (peripheral p) = is_some (own_draft_sent_by_peripheral draft p.own)

abbrev pub is_own : Outgoing → Progress → Bool
is_own (Other draft) progress = is_own_draft draft progress
is_own other progress = false
