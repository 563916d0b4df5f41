-- An end whose link is to end keeps its phase and its session in the steps of its host, and as it enters an event: no key counts
-- any more, and no procedure begins.
use Rattle.std.proofs.Common.{◌≡◌, ℕ, ◌&&◌, Bool, true, false, List, Option, Some, None, is_none, is_some, refl, sym, ap, ◌∙◌, if◌then◌else◌}
use Rattle.instants.specs.Track.{next_number}
use Rattle.control_octets.specs.procedure_values.declared.asks.Ask.{Ask}
use Rattle.control_octets.specs.procedure_stages.Closing.{is_open}
use Rattle.control_octets.specs.procedures.Beginning.{ask_at, begin_at, begin_step, place_to_begin}
use Rattle.control_octets.specs.procedures.Going.{entered_step}
use Rattle.control_octets.specs.procedures.Table.{TableFacts}
use Rattle.joint_laws.proofs.joint_controls.table_laws.Begun.{begins_of}
use Rattle.link_model.specs.enc_phase.declared.facts.Transition.TheVariants.{Refuse}
use Rattle.link_model.specs.Hosts.{key_step}
use Rattle.link_model.specs.keyed_control.Keyed.{Keyed}
use Rattle.link_model.specs.keyed_control.KeyedSteps.{Enters, GivesKey, LacksKey, end_changed, keyed_after, keyed_moved, material_entered, with_key}
use Rattle.link_model.specs.phased_control.PhaseChanges.{Starts, Stays, first_change, moves_if}
use Rattle.link_model.specs.phased_control.Phased.{Phased, ask_begun, encrypting_if, is_encrypt, is_open_now, is_quiet_now, key_given, key_lacking, request_of, table_entered, with_step}
use Rattle.control_octets.specs.control_model.Control.{Enters as control_enters}
use Rattle.link_pairs.proofs.Items.{never}

-- nothing begins
begins_none : (f : TableFacts) (slot : ℕ) (quiet : Bool) → is_open f.closing ≡ false → (begin_step f slot quiet).1 ≡ None
begins_none f slot quiet shut = by (place_to_begin f quiet) (ask_at (place_to_begin f quiet) f.wanted) refl refl
  where
    by : (place : Option ℕ) (ask : Option Ask) → place_to_begin f quiet ≡ place → ask_at place f.wanted ≡ ask → (begin_at f slot place ask).1 ≡ None
    by None ask at is = refl
    by (Some place) None at is = refl
    by (Some place) (Some ask) at is = absurd (let lasts = (begins_of f quiet place ask at is).lasts in let no = sym lasts ∙ shut in cc)

entered_shut : (f : TableFacts) (holds : Bool) → is_open f.closing ≡ false → is_open (entered_step f holds).0.closing ≡ false
entered_shut f true shut = shut
entered_shut f false shut = shut

module _ (k : Keyed) (shut : is_open k.phased.control.table.closing ≡ false) where
  abbrev s : Phased
  s = k.phased

  -- ---- the host has a key or none

  none_asked : (s.asks_key && is_open_now s) ≡ false
  none_asked = ap (λ (b : Bool). s.asks_key && b) shut ∙ never s.asks_key

  pub key_shut : (key : Option (List ℕ)) → keyed_after (key_step key) k ≡ k
  key_shut None = by (is_none s.control.ends)
    where
      by : (b : Bool) → (if b then keyed_moved LacksKey k else k) ≡ k
      by true =
          (λ i. record {
            phased = if none_asked i then key_lacking s else s;
            material = k.material;
            end = end_changed (if none_asked i then moves_if Refuse s.phase else Stays) k.material k.end;
          })
      by false = refl
  key_shut (Some ltk) = by (is_none s.control.ends)
    where
      by : (b : Bool) → (if b then keyed_moved (GivesKey ltk) k else k) ≡ k
      by true =
          (λ i. record {
            phased = if none_asked i then key_given s else s;
            material = with_key (if none_asked i then Starts else Stays) ltk k.material;
            end = end_changed (if none_asked i then Starts else Stays) (with_key (if none_asked i then Starts else Stays) ltk k.material) k.end;
          })
      by false = refl

  -- ---- an event is entered

  pub record IsSameSession (now : Keyed) : Type 0 where
    pub end : now.end ≡ k.end
    pub phase : now.phased.phase ≡ s.phase

  begins_not : (slot : ℕ) → is_encrypt (begin_step (table_entered s) slot (is_quiet_now s)).1 ≡ false
  begins_not slot =
      ap is_encrypt
      (begins_none (table_entered s) slot (is_quiet_now s) (entered_shut s.control.table (is_some (next_number s.control.track)) shut))

  pub enters_shut : (slot : ℕ) → IsSameSession (keyed_after (Enters slot) k)
  enters_shut slot = by (is_none s.control.ends)
    where
      by : (b : Bool) → IsSameSession (if b then keyed_moved (Enters slot) k else k)
      by true =
          record {
            end = ap (λ (b : Bool). end_changed (if b then first_change s.phase else Stays) (material_entered slot s k.material) k.end) (begins_not slot);
            phase =
                ap
                (λ (b : Bool). (encrypting_if b (request_of (ask_begun (table_entered s) (is_quiet_now s))) (with_step (control_enters slot (is_quiet_now s)) s)).phase)
                (begins_not slot);
          }
      by false = record { end = refl; phase = refl }
