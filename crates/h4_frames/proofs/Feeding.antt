-- The step of a framer that was fed the past.
use Rattle.std.proofs.Common.{◌≡◌, ◌≢◌, ◌↔◌, ℕ, ◌+◌, Bool, true, false, ◌||◌, cond, eqb, List, [], ◌∷◌, ◌++◌, length, Option, Some, None, refl, ap, ◌∙◌, subst, arith}
use Rattle.std.proofs.lemmas.Bool.{eqb-true, eqb-false}
use Rattle.std.proofs.lemmas.List.{length_push}
use Rattle.h4_frames.specs.declared.packet.Fed.{Fed}
use Rattle.h4_frames.specs.declared.packet.Fed.TheVariants.{More, Packet, LostSync}
use Rattle.h4_frames.specs.declared.stage.Stage.{Stage}
use Rattle.h4_frames.specs.Packets.{SizedPacket}
use Rattle.h4_frames.specs.Frames.{frames_from, frames, Rest, Begun, Passed, rest_from, rest, frame_entry, IsBetweenPackets}
use Rattle.h4_frames.specs.Machine.{step, framer_after, IsEnd}
use Rattle.h4_frames.proofs.Steps.{found_fed, fed_of, next, goes_on}
use Rattle.h4_frames.proofs.Stages.{IsRest, is_rest, steps}

found_not_lost : (o : Option SizedPacket) → found_fed o ≡ LostSync → ⊥
found_not_lost None e = absurd (cc)
found_not_lost (Some found) e = absurd (cc)

lost_first : (x : ℕ) (a b : Bool) → eqb x 1 ≡ a → eqb x 2 ≡ b
    → (cond (a || b) More LostSync ≡ LostSync) ↔ ((Begun [] ≡ Begun []) × (x ≢ 1) × (x ≢ 2))
lost_first x true b p q = (λ e. absurd (cc), λ is. absurd (is.1 (eqb-true x 1 p)))
lost_first x false true p q = (λ e. absurd (cc), λ is. absurd (is.2 (eqb-true x 2 q)))
lost_first x false false p q = (λ e. (refl, eqb-false x 1 p, eqb-false x 2 q), λ is. refl)

-- a loss is exactly at an octet between packets that is not an indicator
lost_of : (r : Rest) (x : ℕ) → (fed_of r x ≡ LostSync) ↔ ((r ≡ Begun []) × (x ≢ 1) × (x ≢ 2))
lost_of (Begun []) x = lost_first x (eqb x 1) (eqb x 2) refl refl
lost_of (Begun (y ∷ ys)) x = (λ e. absurd (found_not_lost _ e), λ is. let no = is.0 in absurd (cc no))
lost_of (Passed ys) x = (λ e. absurd (found_not_lost _ e), λ is. let no = is.0 in absurd (cc no))

pub frames_step : (past : List ℕ) (x : ℕ) → frames (past ++ x ∷ []) ≡ frames past ++ frame_entry (length past + 1) (fed_of (rest past) x)
unfolding frames rest
frames_step past x =
    let on = goes_on (length past) (length (past ++ x ∷ [])) 0 past x (omega arith) (omega (arith, length_push past x)) in
    on.frames ∙ ap (λ n. frames_from (length past) 0 past ++ frame_entry n (fed_of (rest_from (length past) past) x)) (omega arith)

rest_step : (past : List ℕ) (x : ℕ) → rest (past ++ x ∷ []) ≡ next (rest past) x
unfolding rest
rest_step past x =
    (goes_on (length past) (length (past ++ x ∷ [])) 0 past x (omega arith) (omega (arith, length_push past x))).rest

is_rest_of : (past : List ℕ) → IsRest (rest past)
unfolding rest
is_rest_of past = is_rest (length past) past

stage_step : (past : List ℕ) (x : ℕ) → ◌≡◌ {A = Stage × Fed} (step (framer_after past) x) (framer_after (past ++ x ∷ []), fed_of (rest past) x)
unfolding framer_after
stage_step past x = rw (rest_step past x) (steps (rest past) x (is_rest_of past))

-- the stage and the result after one octet more
pub record Feeds (past : List ℕ) (x : ℕ) (stage : Stage) (fed : Fed) : Type 0 where
  pub frames : frames (past ++ x ∷ []) ≡ frames past ++ frame_entry (length past + 1) fed
  pub framer_after : stage ≡ framer_after (past ++ x ∷ [])
  pub lost : (fed ≡ LostSync) ↔ (IsBetweenPackets past × (x ≢ 1) × (x ≢ 2))

pub feeds : (past : List ℕ) (x : ℕ) (before stage : Stage) (fed : Fed) → before ≡ framer_after past
    → ◌≡◌ {A = Stage × Fed} (stage, fed) (step before x) → Feeds past x stage fed
feeds past x before stage fed is e =
    let both : ◌≡◌ {A = Stage × Fed} (stage, fed) (framer_after (past ++ x ∷ []), fed_of (rest past) x) = e ∙ rw is (stage_step past x) in
    let same : fed ≡ fed_of (rest past) x = ap (λ p. p.1) both in
    record {
      frames = rw same (frames_step past x);
      framer_after = ap (λ p. p.0) both;
      lost = rw same (lost_of (rest past) x);
    }

-- ---- an octet that ends something

is_new : (entries : List (ℕ × Fed)) (place : ℕ) (fed : Fed) → IsEnd fed → entries ++ frame_entry place fed ≢ entries
is_new entries place More ended = absurd ended
is_new entries place (Packet packet) ended = λ same.
    omega (arith, ap length same, length_push entries (place, Packet packet))
is_new entries place LostSync ended = λ same.
    omega (arith, ap length same, length_push entries (place, LostSync))

pub ends_add : (past : List ℕ) (x : ℕ) (before : Stage) → before ≡ framer_after past → IsEnd (step before x).1
    → frames (past ++ x ∷ []) ≢ frames past
ends_add past x before is ended =
    let fed_is : (step before x).1 ≡ fed_of (rest past) x = rw is (ap (λ p. p.1) (stage_step past x)) in
    let new = is_new (frames past) (length past + 1) (fed_of (rest past) x) (subst IsEnd fed_is ended) in
    rw (frames_step past x) new
