-- What a step that may come says of the state before it, and induction over the steps of a run.
use Rattle.std.proofs.Common.{◌≡◌, Bool, true, false, not, ◌&&◌, if◌then◌else◌, List, [], ◌∷◌, Option, Some, None, is_none, is_some, refl}
use Rattle.std.proofs.lemmas.Bool.{and_parts}
use Rattle.joint_controls.specs.Joint.{Joint, JointStep, Way, Clear, Fixed, OnAir, Taken, Item, act, after, after_all, is_clear, is_fixed, is_running, is_taken, item_on_air, may, may_act}

-- the run goes on
pub record GoesOn (s : Joint) : Type 0 where
  pub stopped : s.stopped ≡ false
  pub central : s.central.control.ends ≡ None
  pub peripheral : s.peripheral.control.ends ≡ None

not_true : (b : Bool) → not b ≡ true → b ≡ false
not_true true is = absurd (cc)
not_true false is = refl

module _ {A : Type 0} where
  pub none_of : (o : Option A) → is_none o ≡ true → o ≡ None
  none_of None is = refl
  none_of (Some a) is = absurd (cc)

pub goes_on : (s : Joint) → is_running s ≡ true → GoesOn s
goes_on s is =
    let all = and_parts (not s.stopped) (is_none s.central.control.ends && is_none s.peripheral.control.ends) is in
    let ends = and_parts (is_none s.central.control.ends) (is_none s.peripheral.control.ends) all.1 in
    record { stopped = not_true s.stopped all.0; central = none_of _ ends.0; peripheral = none_of _ ends.1 }

pub comes_on : (step : JointStep) (s : Joint) → may step s ≡ true → GoesOn s
comes_on step s comes = goes_on s (and_parts (is_running s) (may_act step s) comes).0

pub comes_by : (step : JointStep) (s : Joint) → may step s ≡ true → may_act step s ≡ true
comes_by step s comes = (and_parts (is_running s) (may_act step s) comes).1

-- ---- one step, and all

by_may : (P : Joint → Type 0) (b : Bool) (s t : Joint) → P s → (b ≡ true → P t) → P (if b then t else s)
by_may P true s t here next = next refl
by_may P false s t here next = here

pub after_one : (P : Joint → Type 0) (step : JointStep) (s : Joint) → P s → (may step s ≡ true → P (act step s)) → P (after step s)
after_one P step s here next = by_may P (may step s) s (act step s) here next

pub after_each : (P : Joint → Type 0) → ((step : JointStep) (s : Joint) → P s → may step s ≡ true → P (act step s))
    → (steps : List JointStep) (s : Joint) → P s → P (after_all steps s)
after_each P next [] s here = here
after_each P next (step ∷ steps) s here =
    after_each P next steps (after step s) (after_one P step s here (λ comes. next step s here comes))

-- ---- where the PDU of a way is

pub clear_way : (P : Way → Type 0) (way : Way) → is_clear way ≡ true → P Clear → P way
clear_way P Clear is h = h
clear_way P (Fixed item sealed) is h = absurd (cc)
clear_way P (OnAir item sealed) is h = absurd (cc)
clear_way P (Taken item) is h = absurd (cc)

pub fixed_way : (P : Way → Type 0) (way : Way) → is_fixed way ≡ true → ((item : Item) (sealed : Bool) → P (Fixed item sealed)) → P way
fixed_way P Clear is h = absurd (cc)
fixed_way P (Fixed item sealed) is h = h item sealed
fixed_way P (OnAir item sealed) is h = absurd (cc)
fixed_way P (Taken item) is h = absurd (cc)

pub way_on_air : (P : Way → Type 0) (way : Way) → is_some (item_on_air way) ≡ true → ((item : Item) (sealed : Bool) → P (OnAir item sealed)) → P way
way_on_air P Clear is h = absurd (cc)
way_on_air P (Fixed item sealed) is h = absurd (cc)
way_on_air P (OnAir item sealed) is h = h item sealed
way_on_air P (Taken item) is h = absurd (cc)

pub taken_way : (P : Way → Type 0) (way : Way) → is_taken way ≡ true → ((item : Item) → P (Taken item)) → P way
taken_way P Clear is h = absurd (cc)
taken_way P (Fixed item sealed) is h = absurd (cc)
taken_way P (OnAir item sealed) is h = absurd (cc)
taken_way P (Taken item) is h = h item
