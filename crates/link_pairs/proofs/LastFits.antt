-- While a link goes on, the last PDU of each end fits the other end.
use Rattle.std.proofs.Common.{◌≡◌, ◌⊎◌, inl, inr, ◌+◌, ◌≤◌, ◌||◌, ℕ, Bool, true, false, length, refl, sym, ap, ◌∙◌, arith}
use Rattle.wire_fields.specs.Field.{little_endian}
use Rattle.data_pdu.specs.declared.ctrl.Ctrl.TheVariants.{PauseEncReq, PauseEncRsp}
use Rattle.joint_laws.specs.joint_controls.Joint.{Clear, Control, Fixed, Item, OnAir, Taken, Way, is_running}
use Rattle.joint_laws.specs.joint_parameters.Turns.{Link}
use Rattle.joint_keys.specs.KeyedJoint.{KeyedJoint, Keys}
use Rattle.joint_keys.specs.Opening.{CanOpen}
use Rattle.link_model.specs.Acknowledgement.{Acknowledgement, Pdu, is_acked}
use Rattle.link_model.specs.Data.{is_empty}
use Rattle.link_model.specs.Facts.{Facts}
use Rattle.link_model.specs.Payload.{opens_now}
use Rattle.link_model.specs.Setup.{Setup}
use Rattle.link_model.specs.enc_phase.Phases.{seals}
use Rattle.link_model.specs.enc_phase.Sealing.{EncEnd}
use Rattle.link_pairs.specs.Ends.{AreEnds}
use Rattle.link_pairs.specs.Shown.{HasKeys, HaveKeys, Shows}
use Rattle.link_pairs.specs.Ways.{IsItem, ShowsWay}
use Rattle.link_pairs.proofs.KeysAt.{can_open_down, can_open_up}
use Rattle.link_pairs.proofs.Reaching.{IsReached, keys_at}
use Rattle.link_pairs.proofs.SealedTaken.{IsExpected, taken_down, taken_up}
use Rattle.link_pairs.proofs.StillOpening.{is_pause}
use Rattle.link_pairs.proofs.WholePackets.{FitsListener}

-- a PDU that pauses the encryption has one octet
pause_short : (item : Item) (pdu : Pdu) → IsItem item pdu → is_pause item ≡ true → length pdu.body ≡ 1
unfolding little_endian
pause_short (Control outgoing PauseEncReq) pdu is pauses = ap (λ (x : Pdu). length x.body) is.written_as
pause_short (Control outgoing PauseEncRsp) pdu is pauses = ap (λ (x : Pdu). length x.body) is.written_as
pause_short item pdu is pauses = absurd (cc)

-- the last PDU of one end is on this way
module _ (from to : Acknowledgement) (made listener : EncEnd) (most : ℕ) (enough : 27 ≤ most) (out : is_acked from ≡ false) where
  code_on : (way : Way) → ShowsWay way from to → ((item : Item) (sealed : Bool) → way ≡ OnAir item sealed → CanOpen made listener)
      → ((item : Item) → way ≡ Taken item → IsExpected item made listener) → is_empty from.last ≡ false → seals made.role made.phase ≡ true
      → (opens_now listener ≡ true) ⊎ (length from.last.body + 4 ≤ most)
  code_on Clear shown on_air taken some does = absurd (let never : (is_empty from.last || is_acked from) ≡ false = λ i. some i || out i in cc)
  code_on (Fixed item sealed) shown on_air taken some does = absurd shown
  code_on (OnAir item sealed) shown on_air taken some does = inl (sym (on_air item sealed refl).sealing ∙ does)
  code_on (Taken item) shown on_air taken some does = by (taken item refl does)
    where
      by : (opens_now listener ≡ true) ⊎ (is_pause item ≡ true) → (opens_now listener ≡ true) ⊎ (length from.last.body + 4 ≤ most)
      by (inl opens) = inl opens
      by (inr pauses) = let one = pause_short item from.last shown.0 pauses in inr (omega (arith, one, enough))

module _ (central peripheral : Setup) (ends : AreEnds central peripheral) (l : Link) (reached : IsReached central peripheral l)
    (running : is_running l.joint ≡ true) (turns : ℕ) (answers : Bool) (c p : Facts) (s : Shows central peripheral turns answers l c p)
    (keys : HaveKeys (keys_at central peripheral l reached) c p) where
  abbrev k : KeyedJoint
  k = keys_at central peripheral l reached

  -- at the end that has these keys
  at_end : (own : Keys) (facts : Facts) (room : Type 0) → HasKeys own facts → (opens_now own.end ≡ true) ⊎ room → (opens_now facts.encryption.end ≡ true) ⊎ room
  at_end own facts room has (inl opens) = inl (ap opens_now (sym has.session) ∙ opens)
  at_end own facts room has (inr is) = inr is

  pub fits_down : is_acked c.acknowledgement ≡ false → FitsListener peripheral k.central.made c p
  fits_down out =
      record {
        payload = keys.central_keys.made;
        two_bits = s.central_rests.two_bits;
        fits_any = s.central_rests.fits_any;
        short = s.central_fits;
        code =
            λ some does.
            at_end k.peripheral p (length c.acknowledgement.last.body + 4 ≤ peripheral.link.max_rx) keys.peripheral_keys
            (code_on c.acknowledgement p.acknowledgement k.central.made k.peripheral.end peripheral.link.max_rx ends.peripheral_max.from out l.joint.down s.down
            (can_open_down central peripheral ends l reached running) (taken_down central peripheral ends l reached running) some does);
      }

  pub fits_up : is_acked p.acknowledgement ≡ false → FitsListener central k.peripheral.made p c
  fits_up out =
      record {
        payload = keys.peripheral_keys.made;
        two_bits = s.peripheral_rests.two_bits;
        fits_any = s.peripheral_rests.fits_any;
        short = s.peripheral_fits;
        code =
            λ some does.
            at_end k.central c (length p.acknowledgement.last.body + 4 ≤ central.link.max_rx) keys.central_keys
            (code_on p.acknowledgement c.acknowledgement k.peripheral.made k.central.end central.link.max_rx ends.central_max.from out l.joint.up s.up
            (can_open_up central peripheral ends l reached running) (taken_up central peripheral ends l reached running) some does);
      }
