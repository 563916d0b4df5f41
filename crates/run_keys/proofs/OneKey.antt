-- With one session key at both ends of a link, a packet of one end is good at the other.
use Rattle.std.proofs.Common.{◌≡◌, ◌≤◌, ℕ, ◌+◌, Bool, true, false, List, inl, inr, refl, sym, ap, ◌∙◌, if◌then◌else◌}
use Rattle.ble_base.specs.declared.roles.Role.{Role}
use Rattle.ble_base.specs.declared.roles.Role.TheVariants.{Central, Peripheral}
use Rattle.ble_base.specs.declared.verdicts.Verdict.TheVariants.{Forged, Good}
use Rattle.joint_laws.specs.joint_controls.Joint.{is_running}
use Rattle.joint_laws.specs.joint_parameters.Turns.{Link}
use Rattle.joint_keys.specs.KeyedJoint.{KeyedJoint, Keys}
use Rattle.joint_keys.specs.Opening as joint
use Rattle.joint_keys.proofs.Made.{IsMade}
use Rattle.link_pairs.specs.link_model.enc_phase.Phases.{seals}
use Rattle.link_pairs.specs.link_model.enc_phase.Sealing.{EncEnd}
use Rattle.link_pairs.specs.link_model.Acknowledgement.{is_acked}
use Rattle.link_pairs.specs.link_model.Data.{is_empty}
use Rattle.link_pairs.specs.link_model.Facts.{Facts}
use Rattle.link_pairs.specs.link_model.Hearing.{IsOpened, air_octets}
use Rattle.link_pairs.specs.link_model.OneLink.{AreInAgreement}
use Rattle.link_pairs.specs.link_model.Packets.{counts_here, verdict_of}
use Rattle.link_pairs.specs.link_model.Setup.{Setup}
use Rattle.link_pairs.proofs.link_model.Hearing.{IsHeardWhole}
use Rattle.link_pairs.specs.Ends.{AreEnds, is_lasting}
use Rattle.link_pairs.specs.Hearing.{IsPacketOf}
use Rattle.link_pairs.specs.Parting.{ArePartingFrom}
use Rattle.link_pairs.specs.Shown.{AreLinked, HasKeys, HaveKeys, Shows, keys_of}
use Rattle.link_pairs.proofs.Counts.{turned}
use Rattle.link_pairs.proofs.HasSent.{sent_packet}
use Rattle.link_pairs.proofs.KeysAt.{can_open_down, can_open_up, made_down_at, made_up_at}
use Rattle.link_pairs.proofs.LastFits.{fits_down, fits_up}
use Rattle.link_pairs.proofs.PacketsRead.{expects, fits_listener}
use Rattle.link_pairs.proofs.Reaching.{IsReached}
use Rattle.link_pairs.proofs.Reading.{unopened}
use Rattle.link_pairs.proofs.Sounding.{link_now, reached_now, runs}
use Rattle.link_pairs.proofs.Understanding.{IsOpenedThere, can_on, genuine, on_the_air, opens_with, some_counted}
use Rattle.link_pairs.proofs.WholePackets.{FitsListener, judged}
use Rattle.run_pairs.specs.Stages.{AreAnsweredEnds, AreBegunEnds, CentralTook, IsForged, IsLate, IsOver, Lasts, PeripheralTook}

-- both ends have one session key
abbrev pub HaveOneSession : Facts → Facts → Type 0
HaveOneSession one other = one.encryption.end.key ≡ other.encryption.end.key

module _ (heard : IsHeardWhole) (opened : IsOpenedThere) (from to : Setup) (slot : ℕ) (facts listener : Facts) (channel : ℕ) (octets : List ℕ) (made own : EncEnd)
    (fields : from.link.fields ≡ to.link.fields) (is : IsPacketOf from slot facts channel octets) (same : channel ≡ listener.event.channel)
    (last : FitsListener to made facts listener) (agreed : AreInAgreement listener.acknowledgement facts.acknowledgement)
    (session : own ≡ listener.encryption.end) (can : counts_here listener (air_octets is.before) ≡ true → joint.CanOpen made own)
    (key : counts_here listener (air_octets is.before) ≡ true → seals made.role made.phase ≡ true → made.key ≡ facts.encryption.end.key)
    (one : HaveOneSession facts listener) where
  opens : (b : Bool) → counts_here listener (air_octets is.before) ≡ b → IsOpened is.before listener
  opens false none = unopened heard from to slot facts listener channel octets made fields is same last none
  opens true counts =
      opens_with heard opened from to slot facts listener channel octets made own fields is same last agreed session (λ does. key counts does ∙ one) can true counts

  is_good : verdict_of to listener octets ≡ Good
  is_good =
      judged heard from to slot facts listener channel octets made fields is same last
      ∙ ap (λ (b : Bool). if b then Forged else Good)
      (genuine heard opened from to slot facts listener channel octets made own fields is same last agreed session (opens _ refl))

-- what was made so was made with the session key that its sender has
key_of : (role : Role) (sealed : Bool) (own : Keys) (facts : Facts) → IsMade role sealed own → HasKeys own facts → seals own.made.role own.made.phase ≡ true
    → own.made.key ≡ facts.encryption.end.key
key_of role sealed own facts made has does = (made.one_less (sym made.sealing ∙ does)).key ∙ ap (λ (e : EncEnd). e.key) has.session

-- ---- while the link lasts at both

module _ (heard : IsHeardWhole) (opened : IsOpenedThere) (central peripheral : Setup) (turns slot : ℕ) (answers : Bool) (c p : Facts) (channel : ℕ)
    (octets : List ℕ) (ends : AreEnds central peripheral) (linked : AreLinked central peripheral turns answers c p) (central_lasts : is_lasting c ≡ true)
    (peripheral_lasts : is_lasting p ≡ true) where
  abbrev l : Link
  l = link_now central peripheral ends turns answers c p linked central_lasts peripheral_lasts

  abbrev reached : IsReached central peripheral l
  reached = reached_now central peripheral ends turns answers c p linked central_lasts peripheral_lasts

  abbrev k : KeyedJoint
  k = keys_of central peripheral linked.steps

  running : is_running l.joint ≡ true
  running = runs central peripheral ends turns answers c p linked central_lasts peripheral_lasts

  s : Shows central peripheral turns answers l c p
  s = linked.shows running

  keys : HaveKeys k c p
  keys = linked.keys running

  good_down : IsPacketOf central slot c channel octets → channel ≡ p.event.channel → HaveOneSession c p → verdict_of peripheral p octets ≡ Good
  good_down packet same =
      let fits = fits_down central peripheral ends l reached running turns answers c p s keys (sent_packet central slot c channel octets packet).out in
      let agreed = turned c.acknowledgement p.acknowledgement s.agreement in
      let fields = ends.one_link.fields in
      let session = keys.peripheral_keys.session in
      is_good heard opened central peripheral slot c p channel octets k.central.made k.peripheral.end fields packet same fits agreed session
      (can_on heard opened central peripheral slot c p channel octets k.central.made k.peripheral.end fields packet same fits agreed session l.joint.down s.down
      (can_open_down central peripheral ends l reached running))
      (λ counts does.
      let on =
      on_the_air heard opened central peripheral slot c p channel octets k.central.made k.peripheral.end fields packet same fits agreed session l.joint.down s.down
      counts in
      key_of Central on.sealed k.central c (made_down_at central peripheral ends l reached running on.item on.sealed on.is_way) keys.central_keys does)

  good_up : IsPacketOf peripheral slot p channel octets → channel ≡ c.event.channel → HaveOneSession p c → verdict_of central c octets ≡ Good
  good_up packet same =
      let fits = fits_up central peripheral ends l reached running turns answers c p s keys (sent_packet peripheral slot p channel octets packet).out in
      let fields = sym ends.one_link.fields in
      let session = keys.central_keys.session in
      is_good heard opened peripheral central slot p c channel octets k.peripheral.made k.central.end fields packet same fits s.agreement session
      (can_on heard opened peripheral central slot p c channel octets k.peripheral.made k.central.end fields packet same fits s.agreement session l.joint.up s.up
      (can_open_up central peripheral ends l reached running))
      (λ counts does.
      let on =
      on_the_air heard opened peripheral central slot p c channel octets k.peripheral.made k.central.end fields packet same fits s.agreement session l.joint.up s.up
      counts in
      key_of Peripheral on.sealed k.peripheral p (made_up_at central peripheral ends l reached running on.item on.sealed on.is_way) keys.peripheral_keys does)

-- ---- after one of them took LL_TERMINATE_IND

module _ (heard : IsHeardWhole) (opened : IsOpenedThere) (taker sender : Setup) (fields : taker.link.fields ≡ sender.link.fields) (most : sender.link.max_rx ≤ 251)
    (t s : Facts) (parting : ArePartingFrom taker sender t s) (slot channel : ℕ) (octets : List ℕ) (packet : IsPacketOf taker slot t channel octets)
    (same : channel ≡ s.event.channel) where
  out : is_acked t.acknowledgement ≡ false
  out = (sent_packet taker slot t channel octets packet).out

  last : FitsListener sender parting.took.made t s
  last = fits_listener sender parting.took.made t s most parting.took.fits (expects s.encryption.end parting.took.made t parting.opens.last out)

  agreed : AreInAgreement s.acknowledgement t.acknowledgement
  agreed = turned t.acknowledgement s.acknowledgement parting.agreement

  some : counts_here s (air_octets packet.before) ≡ true → is_empty t.acknowledgement.last ≡ false
  some = some_counted heard opened taker sender slot t s channel octets parting.took.made s.encryption.end fields packet same last agreed refl

  good_parting : HaveOneSession t s → verdict_of sender s octets ≡ Good
  good_parting =
      is_good heard opened taker sender slot t s channel octets parting.took.made s.encryption.end fields packet same last agreed refl
      (λ counts. parting.opens.last.can out (some counts)) (λ counts. parting.opens.last.key out (some counts))

-- ---- in a turn

module _ (heard : IsHeardWhole) (opened : IsOpenedThere) (central peripheral : Setup) (ends : AreEnds central peripheral) (slot : ℕ) (c p : Facts) (channel : ℕ)
    (octets : List ℕ) where
  pub begun_good : IsPacketOf central slot c channel octets → channel ≡ p.event.channel → AreBegunEnds central peripheral slot true true c p → HaveOneSession c p
      → verdict_of peripheral p octets ≡ Good
  begun_good packet same (inl link) =
      good_down heard opened central peripheral (slot + 1) slot false c p channel octets ends link.begun.linked link.central_lasts link.peripheral_lasts packet same
  begun_good packet same (inr parting) =
      good_parting heard opened central peripheral ends.one_link.fields ends.peripheral_max.to c p parting slot channel octets packet same

  pub answered_good : IsPacketOf peripheral slot p channel octets → channel ≡ c.event.channel → AreAnsweredEnds central peripheral slot true c p
      → HaveOneSession p c → verdict_of central c octets ≡ Good
  answered_good packet same (Lasts link) =
      good_up heard opened central peripheral (slot + 1) slot true c p channel octets ends link.linked link.central_lasts link.peripheral_lasts packet same
  answered_good packet same (PeripheralTook parting) =
      good_parting heard opened peripheral central (sym ends.one_link.fields) ends.central_max.to p c parting slot channel octets packet same
  answered_good packet same (CentralTook parting none) = absurd (cc)
  answered_good packet same (IsLate link none) = absurd (cc)
  answered_good packet same (IsOver link none) = absurd (cc)
  answered_good packet same (IsForged link none) = absurd (cc)
