-- The packet of an end is good or forged at the other, while the link lasts at both; and it is read as it was sent where the
-- keys of both are equal.
use Rattle.std.proofs.Common.{◌≡◌, ℕ, ◌<◌, ◌&&◌, ◌||◌, not, Bool, true, false, List, refl, sym, ap, ◌∙◌, subst, if◌then◌else◌}
use Rattle.std.specs.Str.{bytes_eq}
use Rattle.std.proofs.lemmas.Bool.{and_parts}
use Rattle.std.proofs.lemmas.Slice.Eq.{bytes_eq-Decides}
use Rattle.ble_base.specs.declared.verdicts.Verdict.TheVariants.{Forged, Good}
use Rattle.data_pdu.specs.declared.header.DataHeader.{DataHeader}
use Rattle.joint_laws.specs.joint_controls.Joint.{Clear, Fixed, Item, OnAir, Taken, Way, is_running}
use Rattle.joint_laws.specs.joint_parameters.Turns.{Link}
use Rattle.joint_laws.proofs.Common.{not_true}
use Rattle.joint_keys.specs.KeyedJoint.{KeyedJoint}
use Rattle.joint_keys.specs.Opening as joint
use Rattle.link_model.specs.enc_phase.Sealing.{AreMatched, EncEnd, sent_payload}
use Rattle.link_model.specs.Acknowledgement.{Pdu, is_acked}
use Rattle.link_model.specs.Data.{is_empty}
use Rattle.link_model.specs.Facts.{Facts}
use Rattle.link_model.specs.Hearing.{IsOpened, IsUnderstood, air_octets, body_read}
use Rattle.link_model.specs.OneLink.{AreInAgreement}
use Rattle.link_model.specs.Packets.{counts_here, good_pdu, has_new_pdu, header_sent, is_forged, payload_sent, pdu_sent, verdict_of}
use Rattle.link_model.specs.Payload.{CanOpen, opens_now, payload_made}
use Rattle.link_model.specs.Setup.{Setup}
use Rattle.link_model.proofs.Hearing.{IsHeardWhole}
use Rattle.link_model.proofs.Received.{has_header, heard_good, not_forged}
use Rattle.link_pairs.specs.Ends.{AreEnds, is_lasting}
use Rattle.link_pairs.specs.Hearing.{HaveOneKey, IsPacketOf, is_mixed, reads_other}
use Rattle.link_pairs.specs.Shown.{AreLinked, HaveKeys, Shows, keys_of}
use Rattle.link_pairs.specs.Ways.{ShowsWay}
use Rattle.link_pairs.proofs.Counts.{Says, acknowledged_by, says_right, turned, unseen_is_taken}
use Rattle.link_pairs.proofs.HasSent.{HasSent, sent_packet}
use Rattle.link_pairs.proofs.KeysAt.{can_open_down, can_open_up}
use Rattle.link_pairs.proofs.LastFits.{fits_down, fits_up}
use Rattle.link_pairs.proofs.PacketsRead.{AreRead, read_pure, understood_pure}
use Rattle.link_pairs.proofs.Reaching.{IsReached, not_both}
use Rattle.link_pairs.proofs.Reading.{bits_heard, counts_as, mixed_as, payload_made_so, two_bits, understood, unopened}
use Rattle.link_pairs.proofs.Sounding.{link_now, reached_now, runs}
use Rattle.link_pairs.proofs.WholePackets.{FitsListener, judged}

-- a packet that was sealed so is opened
abbrev pub IsOpenedThere : Type 0
IsOpenedThere =
    (made : EncEnd) (sender listener : Facts) → (pdu_sent sender).llid < 4 → payload_sent sender ≡ payload_made made (pdu_sent sender)
    → CanOpen made listener.encryption.end → IsOpened sender listener

-- one of two tests holds, and the other does not
or_first : (one other : Bool) → other ≡ false → (one || other) ≡ true → one ≡ true
or_first true other none is = refl
or_first false other none is = absurd (cc)

-- a PDU is on the air
pub record IsOnAir (way : Way) : Type 0 where
  pub item : Item
  pub sealed : Bool
  pub is_way : way ≡ OnAir item sealed

-- with one key, both have one session and one counter
one_session : (made own : EncEnd) (listener : EncEnd) → own ≡ listener → HaveOneKey made listener → joint.CanOpen made own → CanOpen made listener
one_session made own listener same one can =
    record {
      sealing = can.sealing ∙ ap opens_now same;
      session = λ sealed. subst (AreMatched made) same (can.session sealed (one sealed ∙ ap (λ (e : EncEnd). e.key) (sym same)));
    }

module _ (heard : IsHeardWhole) (opened : IsOpenedThere) (from to : Setup) (slot : ℕ) (facts listener : Facts) (channel : ℕ) (octets : List ℕ) (made own : EncEnd)
    (fields : from.link.fields ≡ to.link.fields) (is : IsPacketOf from slot facts channel octets) (same : channel ≡ listener.event.channel)
    (last : FitsListener to made facts listener) (agreed : AreInAgreement listener.acknowledgement facts.acknowledgement)
    (session : own ≡ listener.encryption.end) where
  abbrev pdu : Pdu
  pdu = pdu_sent is.before

  abbrev payload : List ℕ
  payload = payload_sent is.before

  abbrev fresh : Bool
  fresh = has_new_pdu listener (header_sent is.before)

  abbrev counts : Bool
  counts = counts_here listener (air_octets is.before)

  was_sent : HasSent is.before facts
  was_sent = sent_packet from slot facts channel octets is

  llid_small : pdu.llid < 4
  llid_small = two_bits heard from to slot facts listener channel octets made fields is same last

  made_so : payload ≡ payload_made made pdu
  made_so = payload_made_so heard from to slot facts listener channel octets made fields is same last

  says : Says listener.acknowledgement facts.acknowledgement (acknowledged_by listener.acknowledgement (header_sent is.before)) fresh
  says =
      says_right listener.acknowledgement facts.acknowledgement agreed (header_sent is.before)
      (bits_heard heard from to slot facts listener channel octets made fields is same last) was_sent.out

  both : counts ≡ true → (fresh && not (is_empty (record { llid = pdu.llid; body = payload }))) ≡ true
  both is_counted = sym (counts_as heard from to slot facts listener channel octets made fields is same last) ∙ is_counted

  -- an empty PDU has its body as its payload
  empty_none : is_empty facts.acknowledgement.last ≡ true → counts ≡ true → ⊥
  empty_none empty is_counted =
      let none : is_empty pdu ≡ true = ap is_empty (sym was_sent.last) ∙ empty in
      let payload_same : payload ≡ pdu.body = made_so ∙ ap (λ (b : Bool). if b then pdu.body else sent_payload made pdu.llid pdu.body) none in
      let empty_too : is_empty (record { llid = pdu.llid; body = payload }) ≡ true =
      ap (λ (body : List ℕ). is_empty (record { llid = pdu.llid; body = body })) payload_same ∙ none in
      let some = (and_parts fresh (not (is_empty (record { llid = pdu.llid; body = payload }))) (both is_counted)).1 in
      not_both (is_empty (record { llid = pdu.llid; body = payload })) (not_true (is_empty (record { llid = pdu.llid; body = payload })) some) empty_too

  -- what counts is on the air
  pub on_the_air : (way : Way) → ShowsWay way facts.acknowledgement listener.acknowledgement → counts ≡ true → IsOnAir way
  on_the_air Clear shown counted =
      absurd (empty_none (or_first (is_empty facts.acknowledgement.last) (is_acked facts.acknowledgement) was_sent.out shown) counted)
  on_the_air (Fixed item sealed) shown counted = absurd shown
  on_the_air (OnAir item sealed) shown counted = record { item = item; sealed = sealed; is_way = refl }
  on_the_air (Taken item) shown counted =
      absurd
      (unseen_is_taken facts.acknowledgement listener.acknowledgement shown.1
      (says.untaken (and_parts fresh (not (is_empty (record { llid = pdu.llid; body = payload }))) (both counted)).0))

  -- so it is not empty
  pub some_counted : counts ≡ true → is_empty facts.acknowledgement.last ≡ false
  some_counted counted = by (is_empty facts.acknowledgement.last) refl
    where
      by : (b : Bool) → is_empty facts.acknowledgement.last ≡ b → b ≡ false
      by true empty = absurd (empty_none empty counted)
      by false some = refl

  pub opens_with : HaveOneKey made listener.encryption.end → (counts ≡ true → joint.CanOpen made own) → (b : Bool) → counts ≡ b → IsOpened is.before listener
  opens_with one can false none = unopened heard from to slot facts listener channel octets made fields is same last none
  opens_with one can true counted =
      opened made is.before listener llid_small made_so (one_session made own listener.encryption.end session one (can counted))

  pub can_on : (way : Way) → ShowsWay way facts.acknowledgement listener.acknowledgement
      → ((item : Item) (sealed : Bool) → way ≡ OnAir item sealed → joint.CanOpen made own) → counts ≡ true → joint.CanOpen made own
  can_on way shown can counted = let on = on_the_air way shown counted in can on.item on.sealed on.is_way

  -- so it is not forged, and not read as another
  module _ (opens : IsOpened is.before listener) where
    pub genuine : is_forged to listener octets ≡ false
    genuine =
        ap (is_forged to listener) is.packet
        ∙ not_forged heard from to is.before listener (understood heard from to slot facts listener channel octets made fields is same last opens)

    other_by : (b : Bool) → fresh ≡ b → (b && not (bytes_eq (if fresh then pdu.body else payload) facts.acknowledgement.last.body)) ≡ false
    other_by true at =
        ap (λ (b : Bool). not (bytes_eq (if b then pdu.body else payload) facts.acknowledgement.last.body)) at
        ∙ ap not ((bytes_eq-Decides pdu.body facts.acknowledgement.last.body).1 (ap (λ (x : Pdu). x.body) (sym was_sent.last)))
    other_by false at = refl

    pub pure : is_mixed to listener octets facts.acknowledgement.last ≡ false
    pure =
        mixed_as to listener octets facts.acknowledgement.last
        ∙ ap (reads_other listener facts.acknowledgement.last)
        (ap (good_pdu to listener) is.packet
        ∙ heard_good heard from to is.before listener (understood heard from to slot facts listener channel octets made fields is same last opens))
        ∙ ap (λ (h : DataHeader). has_new_pdu listener h && not (bytes_eq (if fresh then pdu.body else payload) facts.acknowledgement.last.body))
        ((has_header is.before listener llid_small (body_read is.before listener)).read)
        ∙ other_by fresh refl

-- what is read is what was sent
pub record IsReadSo (to : Setup) (listener : Facts) (octets : List ℕ) (sent : Pdu) : Type 0 where
  pub genuine : is_forged to listener octets ≡ false
  pub pure : is_mixed to listener octets sent ≡ false

module _ (heard : IsHeardWhole) (central peripheral : Setup) (turns slot : ℕ) (answers : Bool) (c p : Facts) (channel : ℕ) (octets : List ℕ) (ends : AreEnds central peripheral)
    (linked : AreLinked central peripheral turns answers c p) (central_lasts : is_lasting c ≡ true) (peripheral_lasts : is_lasting p ≡ true) where
  abbrev l : Link
  l = link_now central peripheral ends turns answers c p linked central_lasts peripheral_lasts

  abbrev reached : IsReached central peripheral l
  reached = reached_now central peripheral ends turns answers c p linked central_lasts peripheral_lasts

  abbrev k : KeyedJoint
  k = keys_of central peripheral linked.steps

  running : is_running l.joint ≡ true
  running = runs central peripheral ends turns answers c p linked central_lasts peripheral_lasts

  s : Shows central peripheral turns answers l c p
  s = linked.shows running

  keys : HaveKeys k c p
  keys = linked.keys running

  module _ (packet : IsPacketOf central slot c channel octets) (same : channel ≡ p.event.channel) where
    fits_it : FitsListener peripheral k.central.made c p
    fits_it = fits_down central peripheral ends l reached running turns answers c p s keys (sent_packet central slot c channel octets packet).out

    pub judged_at_peripheral : verdict_of peripheral p octets ≡ (if is_forged peripheral p octets then Forged else Good)
    judged_at_peripheral = judged heard central peripheral slot c p channel octets k.central.made ends.one_link.fields packet same fits_it

    -- where it is neither forged nor mixed, all of it is read
    pub whole_at_peripheral : IsReadSo peripheral p octets c.acknowledgement.last → AreRead peripheral p slot octets c.acknowledgement
    whole_at_peripheral so =
        read_pure heard central peripheral slot c p channel octets k.central.made ends.one_link.fields packet same fits_it so.pure so.genuine

    pub understood_at_peripheral : IsReadSo peripheral p octets c.acknowledgement.last → IsUnderstood central packet.before peripheral p
    understood_at_peripheral so =
        understood_pure heard central peripheral slot c p channel octets k.central.made ends.one_link.fields packet same fits_it so.pure so.genuine

    pub read_at_peripheral : IsOpenedThere → HaveOneKey k.central.made p.encryption.end → IsReadSo peripheral p octets c.acknowledgement.last
    read_at_peripheral opened one =
        let agreed = turned c.acknowledgement p.acknowledgement s.agreement in
        let opens =
        opens_with heard opened central peripheral slot c p channel octets k.central.made k.peripheral.end ends.one_link.fields packet same fits_it agreed
        keys.peripheral_keys.session one
        (can_on heard opened central peripheral slot c p channel octets k.central.made k.peripheral.end ends.one_link.fields packet same fits_it agreed
        keys.peripheral_keys.session l.joint.down s.down (can_open_down central peripheral ends l reached running)) _ refl in
        record {
          genuine =
              genuine heard opened central peripheral slot c p channel octets k.central.made k.peripheral.end ends.one_link.fields packet same fits_it agreed
              keys.peripheral_keys.session opens;
          pure =
              pure heard opened central peripheral slot c p channel octets k.central.made k.peripheral.end ends.one_link.fields packet same fits_it agreed
              keys.peripheral_keys.session opens;
        }

  module _ (packet : IsPacketOf peripheral slot p channel octets) (same : channel ≡ c.event.channel) where
    fits_up_it : FitsListener central k.peripheral.made p c
    fits_up_it = fits_up central peripheral ends l reached running turns answers c p s keys (sent_packet peripheral slot p channel octets packet).out

    pub judged_at_central : verdict_of central c octets ≡ (if is_forged central c octets then Forged else Good)
    judged_at_central = judged heard peripheral central slot p c channel octets k.peripheral.made (sym ends.one_link.fields) packet same fits_up_it

    pub understood_at_central : IsReadSo central c octets p.acknowledgement.last → IsUnderstood peripheral packet.before central c
    understood_at_central so =
        understood_pure heard peripheral central slot p c channel octets k.peripheral.made (sym ends.one_link.fields) packet same fits_up_it so.pure so.genuine

    pub read_at_central : IsOpenedThere → HaveOneKey k.peripheral.made c.encryption.end → IsReadSo central c octets p.acknowledgement.last
    read_at_central opened one =
        let opens =
        opens_with heard opened peripheral central slot p c channel octets k.peripheral.made k.central.end (sym ends.one_link.fields) packet same fits_up_it s.agreement
        keys.central_keys.session one
        (can_on heard opened peripheral central slot p c channel octets k.peripheral.made k.central.end (sym ends.one_link.fields) packet same fits_up_it s.agreement
        keys.central_keys.session l.joint.up s.up (can_open_up central peripheral ends l reached running)) _ refl in
        record {
          genuine =
              genuine heard opened peripheral central slot p c channel octets k.peripheral.made k.central.end (sym ends.one_link.fields) packet same fits_up_it s.agreement
              keys.central_keys.session opens;
          pure =
              pure heard opened peripheral central slot p c channel octets k.peripheral.made k.central.end (sym ends.one_link.fields) packet same fits_up_it s.agreement
              keys.central_keys.session opens;
        }
