-- While a link lasts at both ends, a packet of one is read by the other as another than was sent only where it is mixed: it brings
-- a new PDU that is not empty and sealed, it is good, and the session keys of both ends differ.
use Rattle.std.proofs.Common.{◌≡◌, ℕ, ◌&&◌, Bool, true, false, List, Option, Some, None, is_some, refl, sym, ap, ◌∙◌}
use Rattle.std.specs.Str.{bytes_eq}
use Rattle.std.proofs.lemmas.Slice.Eq.{bytes_eq-Decides}
use Rattle.ble_base.specs.declared.roles.Role.{Role}
use Rattle.ble_base.specs.declared.roles.Role.TheVariants.{Central, Peripheral}
use Rattle.joint_laws.specs.joint_controls.Joint.{Item, OnAir, Way, is_running}
use Rattle.joint_laws.specs.joint_parameters.Turns.{Link}
use Rattle.joint_keys.specs.KeyedJoint.{KeyedJoint, Keys}
use Rattle.joint_keys.proofs.Made.{IsMade}
use Rattle.joint_keys.specs.Opening as joint
use Rattle.link_model.specs.enc_phase.Phases.{seals}
use Rattle.link_model.specs.enc_phase.Sealing.{EncEnd}
use Rattle.link_model.specs.Facts.{Facts}
use Rattle.link_model.specs.Hearing.{air_octets}
use Rattle.link_model.specs.OneLink.{AreInAgreement}
use Rattle.link_model.specs.Packets.{counts_here, good_pdu, whole_pdu}
use Rattle.link_model.specs.Payload.{opens_now}
use Rattle.link_model.specs.Setup.{Setup}
use Rattle.link_model.proofs.Hearing.{IsHeardWhole}
use Rattle.ack_bit.proofs.Directions.{not-false}
use Rattle.link_pairs.specs.Ends.{AreEnds, is_lasting}
use Rattle.link_pairs.specs.Hearing.{HaveOneKey, IsPacketOf, brings_sealed, has_other_keys, is_mixed, is_mixed_packet, reads_other}
use Rattle.link_pairs.specs.Shown.{AreLinked, HasKeys, HaveKeys, Shows, keys_of}
use Rattle.link_pairs.specs.Ways.{ShowsWay}
use Rattle.link_pairs.proofs.Counts.{turned}
use Rattle.link_pairs.proofs.HasSent.{sent_packet}
use Rattle.link_pairs.proofs.KeysAt.{can_open_down, can_open_up, made_down_at, made_up_at}
use Rattle.link_pairs.proofs.LastFits.{fits_down, fits_up}
use Rattle.link_pairs.proofs.Reaching.{IsReached}
use Rattle.link_pairs.proofs.Reading.{mixed_as, unopened}
use Rattle.link_pairs.proofs.Sounding.{link_now, reached_now, runs}
use Rattle.link_pairs.proofs.Understanding.{IsOpenedThere, can_on, on_the_air, opens_with, pure}
use Rattle.link_pairs.proofs.WholePackets.{FitsListener, whole}

pub mixed_packet_as : (to : Setup) (listener sender : Facts) (octets : List ℕ)
    → is_mixed_packet to listener sender octets
    ≡ (is_some (good_pdu to listener octets) && (brings_sealed listener (whole_pdu to listener octets) && has_other_keys sender listener))
unfolding is_mixed_packet
mixed_packet_as to listener sender octets = refl

module _ (heard : IsHeardWhole) (opened : IsOpenedThere) (from to : Setup) (slot : ℕ) (facts listener : Facts) (channel : ℕ) (octets : List ℕ) (made own : EncEnd)
    (fields : from.link.fields ≡ to.link.fields) (is : IsPacketOf from slot facts channel octets) (same : channel ≡ listener.event.channel)
    (last : FitsListener to made facts listener) (agreed : AreInAgreement listener.acknowledgement facts.acknowledgement)
    (session : own ≡ listener.encryption.end) where
  abbrev IsPure : Type 0
  IsPure = is_mixed to listener octets facts.acknowledgement.last ≡ false

  -- its PDU is new, and not empty
  abbrev pub Counts : Type 0
  Counts = counts_here listener (air_octets is.before) ≡ true

  module _ (can : Counts → joint.CanOpen made own) (key : Counts → seals made.role made.phase ≡ true → made.key ≡ facts.encryption.end.key)
      (unmixed : is_mixed_packet to listener facts octets ≡ false) where
    pure_with : HaveOneKey made listener.encryption.end → IsPure
    pure_with one =
        pure heard opened from to slot facts listener channel octets made own fields is same last agreed session
        (opens_with heard opened from to slot facts listener channel octets made own fields is same last agreed session one can _ refl)

    module _ (counts : Counts) (seals_it : seals made.role made.phase ≡ true) where
      opens : opens_now listener.encryption.end ≡ true
      opens = ap opens_now (sym session) ∙ sym (can counts).sealing ∙ seals_it

      brings : brings_sealed listener (whole_pdu to listener octets) ≡ true
      brings =
          ap (brings_sealed listener) (whole heard from to slot facts listener channel octets made fields is same last)
          ∙ (λ i. opens i && counts i)

      -- so where it is good both have one key
      one_key : is_some (good_pdu to listener octets) ≡ true → bytes_eq facts.encryption.end.key listener.encryption.end.key ≡ true
      one_key good =
          not-false (bytes_eq facts.encryption.end.key listener.encryption.end.key)
          (sym (mixed_packet_as to listener facts octets ∙ λ i. good i && (brings i && has_other_keys facts listener)) ∙ unmixed)

      sealed_pure : (o : Option (List ℕ)) → good_pdu to listener octets ≡ o → IsPure
      sealed_pure None none = mixed_as to listener octets facts.acknowledgement.last ∙ ap (reads_other listener facts.acknowledgement.last) none
      sealed_pure (Some pdu) good =
          let one = one_key (ap (λ (o : Option (List ℕ)). is_some o) good) in
          pure_with (λ does. key counts does ∙ (bytes_eq-Decides facts.encryption.end.key listener.encryption.end.key).0 one)

    by_sealing : Counts → (b : Bool) → seals made.role made.phase ≡ b → IsPure
    by_sealing counts true does = sealed_pure counts does _ refl
    by_sealing counts false none = pure_with (λ does. absurd (let never = sym none ∙ does in cc))

    by_counts : (b : Bool) → counts_here listener (air_octets is.before) ≡ b → IsPure
    by_counts false none =
        pure heard opened from to slot facts listener channel octets made own fields is same last agreed session
        (unopened heard from to slot facts listener channel octets made fields is same last none)
    by_counts true counts = by_sealing counts _ refl

    pub unmixed_pure : IsPure
    unmixed_pure = by_counts _ refl

  -- its PDU is on this way
  pub unmixed_on : (way : Way) → ShowsWay way facts.acknowledgement listener.acknowledgement
      → ((item : Item) (sealed : Bool) → way ≡ OnAir item sealed → joint.CanOpen made own)
      → ((item : Item) (sealed : Bool) → way ≡ OnAir item sealed → seals made.role made.phase ≡ true → made.key ≡ facts.encryption.end.key)
      → is_mixed_packet to listener facts octets ≡ false → IsPure
  unmixed_on way shown can key =
      unmixed_pure
      (can_on heard opened from to slot facts listener channel octets made own fields is same last agreed session way shown can)
      (λ counts does.
      let on = on_the_air heard opened from to slot facts listener channel octets made own fields is same last agreed session way shown counts in
      key on.item on.sealed on.is_way does)

-- ---- both ends

module _ (heard : IsHeardWhole) (opened : IsOpenedThere) (central peripheral : Setup) (turns slot : ℕ) (answers : Bool) (c p : Facts) (channel : ℕ)
    (octets : List ℕ) (ends : AreEnds central peripheral) (linked : AreLinked central peripheral turns answers c p) (central_lasts : is_lasting c ≡ true)
    (peripheral_lasts : is_lasting p ≡ true) where
  abbrev l : Link
  l = link_now central peripheral ends turns answers c p linked central_lasts peripheral_lasts

  abbrev reached : IsReached central peripheral l
  reached = reached_now central peripheral ends turns answers c p linked central_lasts peripheral_lasts

  abbrev k : KeyedJoint
  k = keys_of central peripheral linked.steps

  running : is_running l.joint ≡ true
  running = runs central peripheral ends turns answers c p linked central_lasts peripheral_lasts

  s : Shows central peripheral turns answers l c p
  s = linked.shows running

  keys : HaveKeys k c p
  keys = linked.keys running

  -- what is on the air was made with the session key that its sender has
  key_of : (role : Role) (sealed : Bool) (own : Keys) (facts : Facts) → IsMade role sealed own → HasKeys own facts
      → seals own.made.role own.made.phase ≡ true → own.made.key ≡ facts.encryption.end.key
  key_of role sealed own facts made has does = (made.one_less (sym made.sealing ∙ does)).key ∙ ap (λ (e : EncEnd). e.key) has.session

  pub mixed_at_peripheral : IsPacketOf central slot c channel octets → channel ≡ p.event.channel → is_mixed_packet peripheral p c octets ≡ false
      → is_mixed peripheral p octets c.acknowledgement.last ≡ false
  mixed_at_peripheral packet same =
      unmixed_on heard opened central peripheral slot c p channel octets k.central.made k.peripheral.end ends.one_link.fields packet same
      (fits_down central peripheral ends l reached running turns answers c p s keys (sent_packet central slot c channel octets packet).out)
      (turned c.acknowledgement p.acknowledgement s.agreement) keys.peripheral_keys.session l.joint.down s.down
      (can_open_down central peripheral ends l reached running)
      (λ item sealed at. key_of Central sealed k.central c (made_down_at central peripheral ends l reached running item sealed at) keys.central_keys)

  pub mixed_at_central : IsPacketOf peripheral slot p channel octets → channel ≡ c.event.channel → is_mixed_packet central c p octets ≡ false
      → is_mixed central c octets p.acknowledgement.last ≡ false
  mixed_at_central packet same =
      unmixed_on heard opened peripheral central slot p c channel octets k.peripheral.made k.central.end (sym ends.one_link.fields) packet same
      (fits_up central peripheral ends l reached running turns answers c p s keys (sent_packet peripheral slot p channel octets packet).out)
      s.agreement keys.central_keys.session l.joint.up s.up (can_open_up central peripheral ends l reached running)
      (λ item sealed at. key_of Peripheral sealed k.peripheral p (made_up_at central peripheral ends l reached running item sealed at) keys.peripheral_keys)
