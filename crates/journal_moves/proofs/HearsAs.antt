-- A good packet leads a side by its lines to what its controller does next, or to its answer as a peripheral.
use Rattle.std.proofs.Common.{◌≡◌, ℕ, true, false, Option, Some, None, List, [], ◌∷◌, ◌++◌, refl, sym, ap, ◌∙◌}
use Rattle.std.specs.Option.{option_map}
use Rattle.adv_pdu.specs.declared.pdu.AdvPdu.{AdvPdu}
use Rattle.ble_base.specs.declared.roles.Side.{Side}
use Rattle.scan_init.specs.Reports.{ScannerFacts}
use Rattle.journal.specs.declared.entries.Entry.{Entry}
use Rattle.journal_wants.specs.controller_model.declared.doing.Doing.{Doing}
use Rattle.journal_wants.specs.controller_model.declared.doing.Doing.TheVariants.{Advertises, AwaitsRequest, AwaitsResponse, CentralListens, CentralSends, Connects, Initiates, PeripheralListens, PeripheralSends, Requests, Responds, Rests, Scans}
use Rattle.journal_wants.specs.controller_model.Facts.{Advertising, Facts, Scanning, Setup}
use Rattle.journal_wants.specs.controller_model.Heard.{advertiser_heard, if_pdu, initiator_heard, reply_if, scanner_heard}
use Rattle.journal_wants.specs.controller_model.Packets.{pdu_heard}
use Rattle.journal_wants.specs.journal_controls.journal_ends.Asked.{Words}
use Rattle.journal_wants.specs.Station.{Setups, Station}
use Rattle.journal_wants.proofs.HostSet.{HostSet, IsSetAs, unreported}
use Rattle.journal_moves.specs.Doing.{advertiser_hears, after_hearing, hears_pdu, initiator_hears, scanner_hears}
use Rattle.journal_moves.specs.Moves.{phase_sending}
use Rattle.journal_moves.proofs.NextDoing.{advertisement_next, request_next}
use Rattle.journal_moves.proofs.Phases.{IsSilent}
use Rattle.journal_moves.proofs.SaidDoings.{leads}

module _ (words : Words) (setups : Setups) (side : Side) (front : List Entry) (line : Entry) (said : Station)
    (setup : Setup) (facts : Facts) (octets : List ℕ) (set : IsSetAs said facts)
    (connects : (channel : ℕ) → facts.turn.doing ≡ Initiates channel → (pdu : AdvPdu)
    → initiator_hears words setups side (front ++ line ∷ []) said said.initiator channel pdu
    ≡ (initiator_heard facts.initiator setup channel pdu facts).next) where
  requested : (pdu : Option AdvPdu) (channel : ℕ)
      → hears_pdu pdu (advertiser_hears said.advertising.on said.view.accepted channel)
      ≡ (if_pdu pdu facts (λ one. advertiser_heard facts.advertising.on channel one facts)).next
  requested None channel = refl
  requested (Some pdu) channel =
      ap (λ (advertising : Advertising). advertiser_hears advertising.on said.view.accepted channel pdu)
      set.advertising
      ∙ ap (λ (host : HostSet). advertiser_hears facts.advertising.on host.accepted channel pdu) set.set
      ∙ sym (request_next facts.advertising.on channel pdu facts)

  scanned : (pdu : Option AdvPdu) (channel : ℕ)
      → hears_pdu pdu (scanner_hears said.scanning.on said.view.accepted channel)
      ≡ (if_pdu pdu facts (λ one. scanner_heard facts.scanning.on true channel one facts)).next
  scanned None channel = refl
  scanned (Some pdu) channel =
      ap (λ (scanning : Scanning). scanner_hears scanning.on said.view.accepted channel pdu) set.scanning
      ∙ ap (λ (host : HostSet). scanner_hears
      (option_map unreported facts.scanning.on) host.accepted channel pdu) set.set
      ∙ sym (advertisement_next facts.scanning.on channel pdu facts)

  sought : (pdu : Option AdvPdu) (channel : ℕ) → facts.turn.doing ≡ Initiates channel
      → hears_pdu pdu (initiator_hears words setups side (front ++ line ∷ []) said said.initiator channel)
      ≡ (if_pdu pdu facts (λ one. initiator_heard facts.initiator setup channel one facts)).next
  sought None channel is = refl
  sought (Some pdu) channel is = connects channel is pdu

  answered : (pdu : Option AdvPdu) (channel : ℕ)
      → Rests ≡ (if_pdu pdu facts (λ one. scanner_heard facts.scanning.on false channel one facts)).next
  answered None channel = refl
  answered (Some pdu) channel = by facts.scanning.on
    where
      by : (on : Option ScannerFacts) → Rests ≡ (scanner_heard on false channel pdu facts).next
      by None = refl
      by (Some on) = refl

  pub hears_as : (doing : Doing) → facts.turn.doing ≡ doing → phase_sending doing ≡ None
      → IsSilent setup octets facts doing
      → after_hearing words setups side front line said octets doing
      ≡ leads words side (front ++ line ∷ []) setup facts octets doing
  hears_as (AwaitsRequest channel) is quiet silent = requested (pdu_heard channel octets) channel
  hears_as (Scans channel) is quiet silent = scanned (pdu_heard channel octets) channel
  hears_as (Initiates channel) is quiet silent = sought (pdu_heard channel octets) channel is
  hears_as (AwaitsResponse channel) is quiet silent = answered (pdu_heard channel octets) channel
  hears_as (CentralListens handle) is quiet silent = sym (ap (λ replies. reply_if replies handle) silent)
  hears_as (PeripheralListens handle) is quiet silent = refl
  hears_as Rests is quiet silent = refl
  hears_as (Advertises channel) is quiet silent = absurd (let h : Some 0 ≡ None = quiet in absurd cc)
  hears_as (CentralSends handle) is quiet silent = absurd (let h : Some 0 ≡ None = quiet in absurd cc)
  hears_as (Requests channel advertiser) is quiet silent = absurd (let h : Some 1 ≡ None = quiet in absurd cc)
  hears_as (Connects channel link) is quiet silent = absurd (let h : Some 1 ≡ None = quiet in absurd cc)
  hears_as (PeripheralSends handle) is quiet silent = absurd (let h : Some 1 ≡ None = quiet in absurd cc)
  hears_as (Responds channel) is quiet silent = absurd (let h : Some 2 ≡ None = quiet in absurd cc)
