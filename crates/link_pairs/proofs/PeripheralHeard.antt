-- A peripheral that hears a packet of the central: both ends stay linked, also where the packet is forged for it.
use Rattle.std.proofs.Common.{◌≡◌, ◌⊎◌, inl, inr, ℕ, ◌+◌, ◌≤◌, ◌&&◌, ◌||◌, Bool, true, false, not, List, is_none, refl, ap, sym, subst, ◌∙◌}
use Rattle.two_tracks.specs.TwoEnds.{MayReach}
use Rattle.link_model.specs.phased_end.Taking.{drawn}
use Rattle.joint_laws.specs.joint_controls.phased_control.Phased.{Phased}
use Rattle.joint_laws.specs.joint_controls.Joint.{is_running, item_on_air}
use Rattle.joint_laws.specs.joint_parameters.Turns.{Link, PeripheralShuts, takes_item}
use Rattle.link_model.specs.Data.{is_data}
use Rattle.link_model.specs.Setup.{Setup}
use Rattle.link_model.specs.Facts.{Facts}
use Rattle.link_model.specs.Packets.{is_forged}
use Rattle.link_model.specs.Receiving.{ended_by_forgery, replies_of}
use Rattle.link_model.specs.Step.{PacketReceived, PacketSent}
use Rattle.link_model.proofs.Hearing.{IsHeardWhole}
use Rattle.link_model.proofs.KeyedPasts.{forged_over as forged_lasts_not}
use Rattle.link_pairs.specs.Ends.{AreEnds, heard_turns, is_lasting}
use Rattle.link_pairs.specs.Hearing.{IsPacketOf, is_mixed, received}
use Rattle.link_pairs.specs.Hearing as hearing
use Rattle.link_pairs.specs.Shown.{AreLinked, HaveKeys, Shows, link_of}
use Rattle.link_pairs.specs.Turns.{AreReady, HaveBegun, sent_if}
use Rattle.link_pairs.proofs.Replying.{forged_unanswered, received_forged}
use Rattle.link_pairs.proofs.LastPdus.{last_reached}
use Rattle.link_pairs.proofs.Lasting.{lasts_before, lasts_before_if}
use Rattle.link_pairs.proofs.HasSent.{sent_packet}
use Rattle.link_pairs.proofs.LastFits.{fits_down}
use Rattle.link_pairs.proofs.Reaching.{IsReached, IsShown, keys_at, linked, linked_stopped, not_both, reached_by, shut_on}
use Rattle.link_pairs.proofs.Reading.{IsRead, read_or_forged}
use Rattle.link_pairs.proofs.Shutting.{shut_joint}
use Rattle.link_pairs.proofs.PeripheralHears.{Meets, TakesAt, hears_shown, reaches, received_now, takes_at}

module _ (heard : IsHeardWhole) (central peripheral : Setup) (slot : ℕ) (c p : Facts) (channel : ℕ) (octets : List ℕ) (room : Bool)
    (ends : AreEnds central peripheral) (begun : HaveBegun central peripheral slot true true c p)
    (packet : IsPacketOf central slot c channel octets) (same : channel ≡ p.event.channel) (supervised : slot + 1 ≤ heard_turns peripheral p + 32768)
    (pure : is_mixed peripheral p octets c.acknowledgement.last ≡ false) where
  abbrev answer_now : Facts
  answer_now = hearing.answered peripheral slot octets room p

  abbrev replies_then : Bool
  replies_then = replies_of peripheral p slot octets room

  module _ (ready : AreReady central peripheral slot true c p) (l : Link) (reached : IsReached central peripheral l) (running : is_running l.joint ≡ true)
      (s : Shows central peripheral (slot + 1) false l c p) (keys : HaveKeys (keys_at central peripheral l reached) c p) where
    pub read : IsRead peripheral p slot octets c.acknowledgement ⊎ (is_forged peripheral p octets ≡ true)
    read =
        read_or_forged heard central peripheral slot c p channel octets (keys_at central peripheral l reached).central.made ends.one_link.fields packet same
        (fits_down central peripheral ends l reached running (slot + 1) false c p s keys (sent_packet central slot c channel octets packet).out) pure

    module _ (is : IsRead peripheral p slot octets c.acknowledgement) where
      meets : Meets central peripheral slot l c p is.header
      meets =
          record {
            ends = ends;
            reached = reached;
            running = running;
            shows = s;
            keys = keys;
            out_last =
                ap (λ (x : Phased). x.control.table.out) (sym s.peripheral_part) ∙ (last_reached central peripheral ends l reached).peripheral;
            bits = is.bits;
            out = is.out;
            central_heard = ready.central_heard;
            peripheral_heard = ready.peripheral_heard;
            supervised = supervised;
            transmits = begun.transmits_in refl;
            listens = begun.listens_in refl;
            has_fixed = ready.fixed refl;
          }

      -- the packet reaches it by turns, and it takes the PDU or does not
      pub reaches_now : MayReach l.turns
      reaches_now = reaches central peripheral slot l c p is.header meets room

      pub takes_now : TakesAt l.joint (takes_item (room || not (is_data c.acknowledgement.last)) (item_on_air l.joint.down)) slot
          (drawn p.encryption.response) (received peripheral slot octets room p).control
      takes_now =
          subst (λ (f : Facts). TakesAt l.joint (takes_item (room || not (is_data c.acknowledgement.last)) (item_on_air l.joint.down)) slot (drawn p.encryption.response) f.control)
          (sym (received_now central peripheral slot l c p is.header meets room octets is.good (is.facts room)))
          (takes_at central peripheral slot l c p is.header meets room)

      read_on : IsShown central peripheral (slot + 1) replies_then c answer_now
      read_on = hears_shown central peripheral slot l c p is.header meets room octets is.good (is.facts room)

    module _ (forged : is_forged peripheral p octets ≡ true) where
      answer_forged : answer_now ≡ record p { control = ended_by_forgery p.control }
      answer_forged =
          (λ i. sent_if (forged_unanswered peripheral p slot octets room forged i) peripheral slot (received peripheral slot octets room p))
          ∙ received_forged peripheral p slot octets room forged

      forged_on : IsShown central peripheral (slot + 1) replies_then c answer_now
      forged_on =
          shut_on central peripheral (slot + 1) replies_then PeripheralShuts l c answer_now reached running tt tt
          (shut_joint l running)
          (λ central_lasts peripheral_lasts. not_both (is_lasting answer_now)
          (ap is_lasting answer_forged ∙ ap (λ (b : Bool). b && is_none p.leaving.ended_by_peer) (forged_lasts_not p.control)) peripheral_lasts)

    hears_on : IsRead peripheral p slot octets c.acknowledgement ⊎ (is_forged peripheral p octets ≡ true)
        → IsShown central peripheral (slot + 1) replies_then c answer_now
    hears_on (inl is) = read_on is
    hears_on (inr forged) = forged_on forged

  lasts_then : is_lasting answer_now ≡ true → is_lasting p ≡ true
  lasts_then is =
      lasts_before peripheral p (PacketReceived slot octets room)
      (lasts_before_if replies_then peripheral (received peripheral slot octets room p) (PacketSent slot) is)

  pub hears_linked : AreLinked central peripheral (slot + 1) replies_then c answer_now
  hears_linked = by (is_running (link_of central peripheral begun.linked.steps).joint) refl
    where
      by : (b : Bool) → is_running (link_of central peripheral begun.linked.steps).joint ≡ b → AreLinked central peripheral (slot + 1) replies_then c answer_now
      by true running =
          let l = link_of central peripheral begun.linked.steps in
          let reached = reached_by central peripheral begun.linked.steps begun.linked.may begun.linked.in_range in
          let s = begun.linked.shows running in
          let keys = begun.linked.keys running in
          linked central peripheral (slot + 1) replies_then c answer_now
          (hears_on (begun.ready running) l reached running s keys (read (begun.ready running) l reached running s keys))
      by false stopped =
          linked_stopped central peripheral (slot + 1) (slot + 1) false replies_then c p c answer_now begun.linked (λ is. is) lasts_then stopped
