-- A PDU of one end that is new to the other and not empty was sealed exactly where the other opens what it hears.
use Rattle.std.proofs.Common.{◌≡◌, ℕ, ◌+◌, ◌≤◌, Bool, true, false, List, length, Some, inl, inr, refl, ap, ◌∙◌, sym, arith, if◌then◌else◌}
use Rattle.joint_keys.specs.joint_laws.joint_controls.Joint.{is_running}
use Rattle.joint_keys.specs.joint_laws.joint_parameters.Turns.{Link}
use Rattle.joint_keys.specs.KeyedJoint.{KeyedJoint}
use Rattle.journal_forgeries.specs.link_runs.link_pairs.link_model.enc_phase.Phases.{seals}
use Rattle.journal_forgeries.specs.link_runs.link_pairs.link_model.enc_phase.Sealing.{EncEnd}
use Rattle.journal_forgeries.specs.link_runs.link_pairs.link_model.Acknowledgement.{Pdu, is_acked}
use Rattle.journal_forgeries.specs.link_runs.link_pairs.link_model.Data.{is_empty}
use Rattle.journal_forgeries.specs.link_runs.link_pairs.link_model.Facts.{Facts}
use Rattle.journal_forgeries.specs.link_runs.link_pairs.link_model.Hearing.{air_octets}
use Rattle.journal_forgeries.specs.link_runs.link_pairs.link_model.OneLink.{AreInAgreement}
use Rattle.journal_forgeries.specs.link_runs.link_pairs.link_model.Packets.{counts_here, whole_pdu}
use Rattle.journal_forgeries.specs.link_runs.link_pairs.link_model.Payload.{opens_now, payload_made}
use Rattle.journal_forgeries.specs.link_runs.link_pairs.link_model.Setup.{Setup}
use Rattle.journal_forgeries.proofs.link_runs.link_pairs.link_model.Hearing.{IsHeardWhole}
use Rattle.journal_forgeries.specs.link_runs.link_pairs.Ends.{AreEnds, is_lasting}
use Rattle.journal_forgeries.specs.link_runs.link_pairs.Hearing.{IsPacketOf}
use Rattle.journal_forgeries.specs.link_runs.link_pairs.Parting.{ArePartingFrom}
use Rattle.journal_forgeries.specs.link_runs.link_pairs.Shown.{AreLinked, HaveKeys, Shows, keys_of}
use Rattle.journal_forgeries.proofs.link_runs.link_pairs.Counts.{turned}
use Rattle.journal_forgeries.proofs.link_runs.link_pairs.HasSent.{sent_packet}
use Rattle.journal_forgeries.proofs.link_runs.link_pairs.KeysAt.{can_open_down, can_open_up}
use Rattle.journal_forgeries.proofs.link_runs.link_pairs.LastFits.{fits_down, fits_up}
use Rattle.journal_forgeries.proofs.link_runs.link_pairs.PacketsRead.{expects, fits_listener}
use Rattle.journal_forgeries.proofs.link_runs.link_pairs.Reaching.{IsReached}
use Rattle.journal_forgeries.proofs.link_runs.link_pairs.Sounding.{link_now, reached_now, runs}
use Rattle.journal_forgeries.proofs.link_runs.link_pairs.Understanding.{IsOpenedThere, can_on, some_counted}
use Rattle.journal_forgeries.proofs.link_runs.link_pairs.WholePackets.{FitsListener, longer, made_as, whole}
use Rattle.journal_forgeries.specs.run_pairs.Stages.{AreAnsweredEnds, AreBegunEnds, CentralTook, IsForged, IsLate, IsOver, Lasts, PeripheralTook}

-- the PDU in these octets is new for an end, and not empty
abbrev pub CountsWhole : Setup → Facts → List ℕ → Type 0
CountsWhole to listener octets = (pdu : List ℕ) → whole_pdu to listener octets ≡ Some pdu → counts_here listener pdu ≡ true

-- the payload of the last PDU of an end has an integrity code exactly where the other end opens what it hears
abbrev pub IsSealedFor : Facts → Facts → Type 0
IsSealedFor sender listener =
    length sender.outgoing.payload ≡ length sender.acknowledgement.last.body + (if opens_now listener.encryption.end then 4 else 0)

payload_length : (made : EncEnd) (pdu : Pdu) → is_empty pdu ≡ false → (sealed : Bool) → seals made.role made.phase ≡ sealed
    → length (payload_made made pdu) ≡ length pdu.body + (if sealed then 4 else 0)
payload_length made pdu some true does = ap (λ (octets : List ℕ). length octets) (made_as made pdu false true some does) ∙ longer made pdu
payload_length made pdu some false none =
    let same = ap (λ (octets : List ℕ). length octets) (made_as made pdu false false some none) in omega (arith, same)

module _ (heard : IsHeardWhole) (opened : IsOpenedThere) (from to : Setup) (slot : ℕ) (facts listener : Facts) (channel : ℕ) (octets : List ℕ) (made own : EncEnd)
    (fields : from.link.fields ≡ to.link.fields) (is : IsPacketOf from slot facts channel octets) (same : channel ≡ listener.event.channel)
    (last : FitsListener to made facts listener) (agreed : AreInAgreement listener.acknowledgement facts.acknowledgement)
    (session : own ≡ listener.encryption.end) where
  is_sealed : (counts_here listener (air_octets is.before) ≡ true → is_empty facts.acknowledgement.last ≡ false
      → seals made.role made.phase ≡ opens_now listener.encryption.end)
      → CountsWhole to listener octets → IsSealedFor facts listener
  is_sealed sealing counts =
      let here = counts (air_octets is.before) (whole heard from to slot facts listener channel octets made fields is same last) in
      let some = some_counted heard opened from to slot facts listener channel octets made own fields is same last agreed session here in
      ap (λ (payload : List ℕ). length payload) last.payload
      ∙ payload_length made facts.acknowledgement.last some (opens_now listener.encryption.end) (sealing here some)

-- ---- while the link lasts at both

module _ (heard : IsHeardWhole) (opened : IsOpenedThere) (central peripheral : Setup) (turns slot : ℕ) (answers : Bool) (c p : Facts) (channel : ℕ)
    (octets : List ℕ) (ends : AreEnds central peripheral) (linked : AreLinked central peripheral turns answers c p) (central_lasts : is_lasting c ≡ true)
    (peripheral_lasts : is_lasting p ≡ true) where
  abbrev l : Link
  l = link_now central peripheral ends turns answers c p linked central_lasts peripheral_lasts

  abbrev reached : IsReached central peripheral l
  reached = reached_now central peripheral ends turns answers c p linked central_lasts peripheral_lasts

  abbrev k : KeyedJoint
  k = keys_of central peripheral linked.steps

  running : is_running l.joint ≡ true
  running = runs central peripheral ends turns answers c p linked central_lasts peripheral_lasts

  s : Shows central peripheral turns answers l c p
  s = linked.shows running

  keys : HaveKeys k c p
  keys = linked.keys running

  sealed_down : IsPacketOf central slot c channel octets → channel ≡ p.event.channel → CountsWhole peripheral p octets → IsSealedFor c p
  sealed_down packet same =
      let fits = fits_down central peripheral ends l reached running turns answers c p s keys (sent_packet central slot c channel octets packet).out in
      let agreed = turned c.acknowledgement p.acknowledgement s.agreement in
      let fields = ends.one_link.fields in
      let session = keys.peripheral_keys.session in
      is_sealed heard opened central peripheral slot c p channel octets k.central.made k.peripheral.end fields packet same fits agreed session
      (λ counts some.
      (can_on heard opened central peripheral slot c p channel octets k.central.made k.peripheral.end fields packet same fits agreed session l.joint.down s.down
      (can_open_down central peripheral ends l reached running) counts).sealing
      ∙ ap opens_now session)

  sealed_up : IsPacketOf peripheral slot p channel octets → channel ≡ c.event.channel → CountsWhole central c octets → IsSealedFor p c
  sealed_up packet same =
      let fits = fits_up central peripheral ends l reached running turns answers c p s keys (sent_packet peripheral slot p channel octets packet).out in
      let fields = sym ends.one_link.fields in
      let session = keys.central_keys.session in
      is_sealed heard opened peripheral central slot p c channel octets k.peripheral.made k.central.end fields packet same fits s.agreement session
      (λ counts some.
      (can_on heard opened peripheral central slot p c channel octets k.peripheral.made k.central.end fields packet same fits s.agreement session l.joint.up s.up
      (can_open_up central peripheral ends l reached running) counts).sealing
      ∙ ap opens_now session)

-- ---- after one of them took LL_TERMINATE_IND

module _ (heard : IsHeardWhole) (opened : IsOpenedThere) (taker sender : Setup) (fields : taker.link.fields ≡ sender.link.fields) (most : sender.link.max_rx ≤ 251)
    (t s : Facts) (parting : ArePartingFrom taker sender t s) (slot channel : ℕ) (octets : List ℕ) (packet : IsPacketOf taker slot t channel octets)
    (same : channel ≡ s.event.channel) where
  out : is_acked t.acknowledgement ≡ false
  out = (sent_packet taker slot t channel octets packet).out

  last : FitsListener sender parting.took.made t s
  last = fits_listener sender parting.took.made t s most parting.took.fits (expects s.encryption.end parting.took.made t parting.opens.last out)

  sealed_parting : CountsWhole sender s octets → IsSealedFor t s
  sealed_parting =
      is_sealed heard opened taker sender slot t s channel octets parting.took.made s.encryption.end fields packet same last
      (turned t.acknowledgement s.acknowledgement parting.agreement) refl (λ counts some. (parting.opens.last.can out some).sealing)

-- ---- in a turn

module _ (heard : IsHeardWhole) (opened : IsOpenedThere) (central peripheral : Setup) (ends : AreEnds central peripheral) (slot : ℕ) (c p : Facts) (channel : ℕ)
    (octets : List ℕ) where
  pub begun_sealed : IsPacketOf central slot c channel octets → channel ≡ p.event.channel → AreBegunEnds central peripheral slot true true c p
      → CountsWhole peripheral p octets → IsSealedFor c p
  begun_sealed packet same (inl link) =
      sealed_down heard opened central peripheral (slot + 1) slot false c p channel octets ends link.begun.linked link.central_lasts link.peripheral_lasts packet same
  begun_sealed packet same (inr parting) =
      sealed_parting heard opened central peripheral ends.one_link.fields ends.peripheral_max.to c p parting slot channel octets packet same

  pub answered_sealed : IsPacketOf peripheral slot p channel octets → channel ≡ c.event.channel → AreAnsweredEnds central peripheral slot true c p
      → CountsWhole central c octets → IsSealedFor p c
  answered_sealed packet same (Lasts link) =
      sealed_up heard opened central peripheral (slot + 1) slot true c p channel octets ends link.linked link.central_lasts link.peripheral_lasts packet same
  answered_sealed packet same (PeripheralTook parting) =
      sealed_parting heard opened peripheral central (sym ends.one_link.fields) ends.central_max.to p c parting slot channel octets packet same
  answered_sealed packet same (CentralTook parting none) = absurd (cc)
  answered_sealed packet same (IsLate link none) = absurd (cc)
  answered_sealed packet same (IsOver link none) = absurd (cc)
  answered_sealed packet same (IsForged link none) = absurd (cc)
