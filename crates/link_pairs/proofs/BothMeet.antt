-- Two linked ends, at both of which the link lasts, as one of them hears a packet of the other: what both hold of LL_TERMINATE_IND
-- that may be in it.
use Rattle.std.proofs.Common.{◌≡◌, ◌⊎◌, inl, inr, ◌+◌, ◌≤◌, ℕ, Bool, true, false, List, Option, None, is_none, is_some, refl, sym, ap, ◌∙◌, subst}
use Rattle.std.proofs.lemmas.Bool.{and_parts}
use Rattle.ble_base.specs.declared.error_codes.ErrCode.{ErrCode}
use Rattle.ble_base.specs.declared.roles.Role.{Role}
use Rattle.ble_base.specs.declared.roles.Role.TheVariants.{Central, Peripheral}
use Rattle.control_octets.specs.procedure_stages.Closing.{is_open}
use Rattle.joint_laws.specs.joint_controls.Ends.{IsSentOn, outgoing_on}
use Rattle.joint_laws.specs.joint_controls.phased_control.Phased.{Phased}
use Rattle.joint_laws.specs.joint_controls.Joint.{Control as control_item, OnAir, is_running}
use Rattle.joint_laws.specs.joint_controls.Joint.{is_terminate as ends_link}
use Rattle.joint_laws.proofs.joint_controls.Running.{none_of}
use Rattle.joint_laws.specs.joint_parameters.Turns.{Link}
use Rattle.joint_keys.specs.KeyedJoint.{KeyedJoint, Keys}
use Rattle.joint_keys.specs.Opening.{CanOpen}
use Rattle.joint_keys.proofs.Keyless.{IsKeyless}
use Rattle.joint_keys.proofs.Made.{IsMade}
use Rattle.link_model.specs.Acknowledgement.{is_acked}
use Rattle.link_model.specs.Setup.{Setup}
use Rattle.link_model.specs.Controls.{goes_on}
use Rattle.link_model.specs.Facts.{Facts}
use Rattle.link_model.specs.Packets.{is_forged}
use Rattle.link_model.specs.enc_phase.Phases.{seals}
use Rattle.link_model.specs.enc_phase.Sealing.{EncEnd}
use Rattle.link_pairs.specs.Ends.{AreEnds, is_lasting}
use Rattle.link_pairs.specs.Hearing.{received}
use Rattle.link_pairs.specs.Parting.{HasFittingPdu}
use Rattle.link_pairs.specs.Shown.{HasKeys, HaveKeys, Shows}
use Rattle.link_pairs.proofs.Counts.{acknowledged_by, is_fresh, says_right, turned}
use Rattle.link_pairs.proofs.KeysAt.{can_open_down, can_open_up, made_down_at, made_up_at}
use Rattle.link_pairs.proofs.LastCiphers.{central_ends_none, peripheral_ends_keyless, peripheral_ends_shut}
use Rattle.link_pairs.proofs.LastControl.{EndsSo, disconnects, ends_shut, is_disconnect, is_end_out}
use Rattle.link_pairs.proofs.LastFits.{fits_down, fits_up}
use Rattle.link_pairs.proofs.PacketsRead.{AreRead}
use Rattle.link_pairs.proofs.Reaching.{IsReached, keys_at}
use Rattle.link_pairs.proofs.ReachedRuns.{central_knows, ends_so, peripheral_knows, tied_link}
use Rattle.link_pairs.proofs.Replying.{received_forged}
use Rattle.link_pairs.proofs.SeenAcknowledged.{ends_nothing}
use Rattle.link_pairs.proofs.TakingLast.{HasControlOn, HasSentSo, Meets}
use Rattle.link_pairs.proofs.WholePackets.{FitsListener}

-- ---- what both hold before it, while the run goes on

pub record Lasts (facts : Facts) : Type 0 where
  pub procedures : facts.control.ends ≡ None
  pub peer : facts.leaving.ended_by_peer ≡ None

pub lasts : (facts : Facts) → is_lasting facts ≡ true → Lasts facts
lasts facts is =
    let parts = and_parts (goes_on facts) (is_none facts.leaving.ended_by_peer) is in
    record { procedures = none_of facts.control.ends parts.0; peer = none_of facts.leaving.ended_by_peer parts.1 }

-- an end that takes it hears no forged packet
pub genuine : (setup : Setup) (facts : Facts) (slot : ℕ) (octets : List ℕ) (room : Bool) → Lasts facts
    → is_some (received setup slot octets room facts).leaving.ended_by_peer ≡ true → is_forged setup facts octets ≡ false
genuine setup facts slot octets room goes ended = by (is_forged setup facts octets) refl
  where
    by : (b : Bool) → is_forged setup facts octets ≡ b → is_forged setup facts octets ≡ false
    by true wrong =
        absurd (let same =
        ap (λ (f : Facts). is_some f.leaving.ended_by_peer) (received_forged setup facts slot octets room wrong) ∙ ap (λ (o : Option ErrCode). is_some o) goes.peer in
        let never = sym same ∙ ended in cc)
    by false is = is

module _ (central peripheral : Setup) (ends : AreEnds central peripheral) (slot : ℕ) (answers : Bool) (c p : Facts) (l : Link)
    (reached : IsReached central peripheral l) (running : is_running l.joint ≡ true)
    (s : Shows central peripheral (slot + 1) answers l c p) (keys : HaveKeys (keys_at central peripheral l reached) c p)
    (central_lasts : Lasts c) (peripheral_lasts : Lasts p) (room : Bool) where
  abbrev k : KeyedJoint
  k = keys_at central peripheral l reached

  central_fits : HasFittingPdu peripheral k.central.made c
  central_fits = record { payload = keys.central_keys.made; two_bits = s.central_rests.two_bits; short = s.central_fits }

  peripheral_fits : HasFittingPdu central k.peripheral.made p
  peripheral_fits = record { payload = keys.peripheral_keys.made; two_bits = s.peripheral_rests.two_bits; short = s.peripheral_fits }

  pub fits_down_it : is_acked c.acknowledgement ≡ false → FitsListener peripheral k.central.made c p
  fits_down_it = fits_down central peripheral ends l reached running (slot + 1) answers c p s keys

  pub fits_up_it : is_acked p.acknowledgement ≡ false → FitsListener central k.peripheral.made p c
  fits_up_it = fits_up central peripheral ends l reached running (slot + 1) answers c p s keys

  central_receives : c.control.table.lengths.peer_rx ≤ peripheral.link.max_rx
  central_receives =
      subst (λ (x : Phased). x.control.table.lengths.peer_rx ≤ peripheral.link.max_rx) s.central_part (central_knows central peripheral ends l reached running)

  pub peripheral_receives : p.control.table.lengths.peer_rx ≤ central.link.max_rx
  peripheral_receives =
      subst (λ (x : Phased). x.control.table.lengths.peer_rx ≤ central.link.max_rx) s.peripheral_part (peripheral_knows central peripheral ends l reached running)

  -- LL_TERMINATE_IND that the central has sent is that of its host
  central_sends_so : (on : HasControlOn l.joint.down c.acknowledgement.last) → ends_link on.ctrl ≡ true → HasSentSo c
  central_sends_so on is = by (disconnects on.outgoing on.ctrl sent_as.event sent_as.latency sent_as.is is)
    where
      sent_as : IsSentOn (OnAir (control_item on.outgoing on.ctrl) on.sealed)
      sent_as = subst IsSentOn on.way_is (tied_link central peripheral ends l reached).sent_down

      out_is : l.joint.central.control.table.out ≡ on.outgoing
      out_is = (tied_link central peripheral ends l reached).central ∙ ap outgoing_on on.way_is

      by : (is_disconnect on.outgoing ≡ true) ⊎ (is_end_out on.outgoing ≡ true) → HasSentSo c
      by (inl at) =
          let over =
          subst (λ (x : Phased). EndsSo x.control) s.central_part (ends_so central peripheral ends l reached).central
          (ap (λ (x : Phased). is_disconnect x.control.table.out) (sym s.central_part) ∙ ap is_disconnect out_is ∙ at) in
          record { over = inl over; shut = ends_shut c.control.table.closing over.closing }
      by (inr at) = absurd (let no = sym (central_ends_none central peripheral ends l reached running) ∙ ap is_end_out out_is ∙ at in cc)

  -- that of the peripheral may also be for want of a key
  peripheral_sends_so : (on : HasControlOn l.joint.up p.acknowledgement.last) → ends_link on.ctrl ≡ true → HasSentSo p
  peripheral_sends_so on is = by (disconnects on.outgoing on.ctrl sent_as.event sent_as.latency sent_as.is is)
    where
      sent_as : IsSentOn (OnAir (control_item on.outgoing on.ctrl) on.sealed)
      sent_as = subst IsSentOn on.way_is (tied_link central peripheral ends l reached).sent_up

      out_is : l.joint.peripheral.control.table.out ≡ on.outgoing
      out_is = (tied_link central peripheral ends l reached).peripheral ∙ ap outgoing_on on.way_is

      by : (is_disconnect on.outgoing ≡ true) ⊎ (is_end_out on.outgoing ≡ true) → HasSentSo p
      by (inl at) =
          let over =
          subst (λ (x : Phased). EndsSo x.control) s.peripheral_part (ends_so central peripheral ends l reached).peripheral
          (ap (λ (x : Phased). is_disconnect x.control.table.out) (sym s.peripheral_part) ∙ ap is_disconnect out_is ∙ at) in
          record { over = inl over; shut = ends_shut p.control.table.closing over.closing }
      by (inr at) =
          let lacks = subst IsKeyless s.peripheral_part (peripheral_ends_keyless central peripheral ends l reached running (ap is_end_out out_is ∙ at)) in
          record {
            over = inr (record { role = lacks.role; asked = lacks.asked; none = lacks.none });
            shut =
                ap (λ (x : Phased). is_open x.control.table.closing) (sym s.peripheral_part)
                ∙ peripheral_ends_shut central peripheral ends l reached running on.outgoing on.ctrl on.sealed on.way_is is;
          }

  -- what is on the air its listener opens, and it was made with the session key of its sender
  can_at : (made end listener : EncEnd) → end ≡ listener → CanOpen made end → CanOpen made listener
  can_at made end listener is can = subst (CanOpen made) is can

  key_of : (role : Role) (sealed : Bool) (own : Keys) (facts : Facts) → IsMade role sealed own → HasKeys own facts
      → seals own.made.role own.made.phase ≡ true → own.made.key ≡ facts.encryption.end.key
  key_of role sealed own facts made has does = (made.one_less (sym made.sealing ∙ does)).key ∙ ap (λ (e : EncEnd). e.key) has.session

  -- the peripheral hears the central
  module _ (octets : List ℕ) (read : AreRead peripheral p slot octets c.acknowledgement) where
    pub down_meets : Meets peripheral central slot room read.header p c l.joint.down l.joint.up
    down_meets =
        let agreed = turned c.acknowledgement p.acknowledgement s.agreement in
        record {
          agreement = agreed;
          bits = read.bits;
          out = read.out;
          shown = s.down;
          ends_none =
              ends_nothing p.acknowledgement c.acknowledgement (acknowledged_by p.acknowledgement read.header) (is_fresh p.acknowledgement read.header)
              (says_right p.acknowledgement c.acknowledgement agreed read.header read.bits read.out) l.joint.up s.up;
          goes_on = peripheral_lasts.procedures;
          took_none = peripheral_lasts.peer;
          stays = s.peripheral_rests.stays;
          peer_receives = peripheral_receives;
          made = k.peripheral.made;
          fits = peripheral_fits;
          shown_back = s.up;
          can =
              λ item sealed at.
              can_at k.peripheral.made k.central.end c.encryption.end keys.central_keys.session
              (can_open_up central peripheral ends l reached running item sealed at);
          key = λ item sealed at. key_of Peripheral sealed k.peripheral p (made_up_at central peripheral ends l reached running item sealed at) keys.peripheral_keys;
          sender_goes_on = central_lasts.procedures;
          sender_took_none = central_lasts.peer;
          sender_stays = s.central_rests.stays;
          sender_made = k.central.made;
          sender_fits = central_fits;
          sends_so = central_sends_so;
        }

  -- the central hears the peripheral
  module _ (octets : List ℕ) (read : AreRead central c slot octets p.acknowledgement) where
    pub up_meets : Meets central peripheral slot room read.header c p l.joint.up l.joint.down
    up_meets =
        record {
          agreement = s.agreement;
          bits = read.bits;
          out = read.out;
          shown = s.up;
          ends_none =
              ends_nothing c.acknowledgement p.acknowledgement (acknowledged_by c.acknowledgement read.header) (is_fresh c.acknowledgement read.header)
              (says_right c.acknowledgement p.acknowledgement s.agreement read.header read.bits read.out) l.joint.down s.down;
          goes_on = central_lasts.procedures;
          took_none = central_lasts.peer;
          stays = s.central_rests.stays;
          peer_receives = central_receives;
          made = k.central.made;
          fits = central_fits;
          shown_back = s.down;
          can =
              λ item sealed at.
              can_at k.central.made k.peripheral.end p.encryption.end keys.peripheral_keys.session
              (can_open_down central peripheral ends l reached running item sealed at);
          key = λ item sealed at. key_of Central sealed k.central c (made_down_at central peripheral ends l reached running item sealed at) keys.central_keys;
          sender_goes_on = peripheral_lasts.procedures;
          sender_took_none = peripheral_lasts.peer;
          sender_stays = s.peripheral_rests.stays;
          sender_made = k.peripheral.made;
          sender_fits = peripheral_fits;
          sends_so = peripheral_sends_so;
        }
