-- An end fixes its next PDU: its next control PDU, or a piece of its data, or an empty PDU.
use Rattle.std.proofs.Common.{◌≡◌, ◌<◌, ◌≤◌, ◌==◌, ◌&&◌, ℕ, Bool, true, false, List, length, take, drop, Option, Some, None, is_some, refl, ◌∙◌, arith, if◌then◌else◌}
use Rattle.std.specs.List.{find}
use Rattle.std.specs.Option.{option_map}
use Rattle.std.proofs.lemmas.Bool.{ne_eqb}
use Rattle.std.proofs.lemmas.List.{length-take}
use Rattle.std.proofs.Math.Nat.{min-le_left}
use Rattle.acl_banks.specs.Packets.{DataPacket, piece_of, sent_length}
use Rattle.data_pdu.specs.declared.ctrl.Ctrl.{Ctrl}
use Rattle.control_octets.specs.procedure_stages.Queue.{waiting_in}
use Rattle.control_octets.specs.procedure_values.Limits.{tx_of}
use Rattle.link_model.specs.Acknowledgement.{Pdu}
use Rattle.link_model.specs.Data.{Data, is_control, is_data, is_unsent, llid_of, pdu_with}
use Rattle.link_model.specs.Setup.{Setup}
use Rattle.link_model.specs.Controls.{is_quiet_now, next_control}
use Rattle.link_model.specs.Facts.{Facts}
use Rattle.link_model.specs.Fixing.{data_cut, data_fixed_by, data_goes, fixed_anew}
use Rattle.link_model.proofs.BodyPayloads.{anew_same}
use Rattle.joint_keys.specs.KeyedJoint.{Keys}
use Rattle.link_pairs.specs.Ends.{IsAtRest}
use Rattle.link_pairs.specs.Shown.{HasKeys}
use Rattle.link_pairs.specs.Turns.{HasFixed, fixed_if}

-- ---- a piece of data

-- at most this number of octets, under an LLID of data
pub record IsPiece (limit : ℕ) (pdu : Pdu) : Type 0 where
  pub llid : pdu.llid < 3
  pub short : length pdu.body ≤ limit

llid_small : (start : Bool) → llid_of start < 3
llid_small true = omega arith
llid_small false = omega arith

taken_short : (limit : ℕ) (octets : List ℕ) → length (take limit octets) ≤ limit
taken_short limit octets =
    let count = length-take limit octets in
    let least = min-le_left limit (length octets) in
    omega (arith, count, least)

found_piece : (limit : ℕ) (found : Option DataPacket) → IsPiece limit (pdu_with (option_map (piece_of limit) found))
found_piece limit None = record { llid = omega arith; short = omega arith }
found_piece limit (Some packet) =
    record { llid = llid_small (packet.start && (sent_length packet == 0)); short = taken_short limit (drop (sent_length packet) packet.body) }

fixed_piece : (control : Bool) (waiting : ℕ) (quiet goes : Bool) (o : Data) → IsPiece o.limit (data_fixed_by control waiting quiet goes o).fixed
fixed_piece true waiting quiet goes o = record { llid = omega arith; short = omega arith }
fixed_piece false waiting quiet true o = found_piece o.limit (find is_unsent o.packets)
fixed_piece false waiting quiet false o = record { llid = omega arith; short = omega arith }

pub piece_no_control : (limit : ℕ) (pdu : Pdu) → IsPiece limit pdu → is_control pdu ≡ false
piece_no_control limit pdu is = let less = is.llid in ne_eqb pdu.llid 3 (λ same. omega (arith, less, same))

-- ---- data is fixed only where it goes and no control PDU goes

none_next : (next : Option Ctrl) → is_some next ≡ false → next ≡ None
none_next None is = refl
none_next (Some ctrl) is = absurd (cc)

goes_first : (control : Bool) (waiting : ℕ) (quiet goes : Bool) (o : Data)
    → is_data (data_fixed_by control waiting quiet goes o).fixed ≡ true → (control ≡ false) × (goes ≡ true)
goes_first true waiting quiet goes o is = absurd (cc)
goes_first false waiting quiet true o is = (refl, refl)
goes_first false waiting quiet false o is = absurd (cc)

-- ---- an end that has an exchange in this turn fixes its PDU

abbrev pub fixing : Bool → Facts → Facts
fixing fixes facts = if fixes then fixed_anew facts else facts

pub fixing_is : (fixes : Bool) (setup : Setup) (facts : Facts) → is_control facts.outgoing.fixed ≡ false → fixed_if fixes setup facts ≡ fixing fixes facts
fixing_is fixes setup facts none = λ i. if fixes then (if none i then facts else fixed_anew facts) else facts

pub fixing_sends : (fixes : Bool) (facts : Facts) → (fixing fixes facts).acknowledgement ≡ facts.acknowledgement
fixing_sends true facts = refl
fixing_sends false facts = refl

pub fixing_hears : (fixes : Bool) (facts : Facts) → (fixing fixes facts).last_good ≡ facts.last_good
fixing_hears true facts = refl
fixing_hears false facts = refl

module _ (facts : Facts) where
  abbrev control : Bool
  control = is_some (next_control facts)

  abbrev waiting : ℕ
  waiting = waiting_in facts.control.table.queue

  -- it is a piece of at most the effective length
  pub anew_piece : IsPiece (tx_of facts.control.table.lengths) (fixed_anew facts).outgoing.fixed
  anew_piece = fixed_piece control waiting (is_quiet_now facts) (data_goes facts) (data_cut facts)

  pub anew_fixed : HasFixed (fixed_anew facts)
  anew_fixed =
      record {
        control = refl;
        data_first =
            λ is. let first = goes_first control waiting (is_quiet_now facts) (data_goes facts) (data_cut facts) is in (none_next (next_control facts) first.0, first.1);
        short = anew_piece.short;
        two_bits = let small = anew_piece.llid in omega (arith, small);
      }

pub fixing_rests : (setup : Setup) (turns : ℕ) (fixes : Bool) (facts : Facts) → IsAtRest setup turns facts → IsAtRest setup turns (fixing fixes facts)
fixing_rests setup turns false facts r = r
fixing_rests setup turns true facts r =
    record {
      fits = r.fits;
      holds = record { request = r.holds.request; kept = r.holds.kept; response = r.holds.response };
      role = r.role;
      none_gone = piece_no_control (tx_of facts.control.table.lengths) (fixed_anew facts).outgoing.fixed (anew_piece facts);
      fits_any = r.fits_any;
      two_bits = r.two_bits;
      slot = r.slot;
      number = r.number;
      heard = r.heard;
      past = r.past;
      stays = r.stays;
    }

pub fixing_has : (keys : Keys) (fixes : Bool) (facts : Facts) → HasKeys keys facts → HasKeys keys (fixing fixes facts)
fixing_has keys false facts has = has
fixing_has keys true facts has =
    record {
      material = has.material;
      session = has.session;
      made =
          anew_same (is_some (next_control facts)) (waiting_in facts.control.table.queue) (is_quiet_now facts) (data_goes facts) (data_cut facts)
          ∙ has.made;
    }
