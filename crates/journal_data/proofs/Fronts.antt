-- What holds after each event of a run, from what holds after each call and in its middle.
use Rattle.std.proofs.Common.{◌≡◌, ℕ, List, [], ◌∷◌, ◌++◌, refl, sym, subst, ◌∙◌, append-nil, append_assoc}
use Rattle.std.specs.Prelude.{map}
use Rattle.std.specs.List.{AllByRecursion}
use Rattle.journal_acks.specs.controller_model.Side.{notes_after}
use Rattle.journal_acks.specs.controller_model.Step.{HostOctet}
use Rattle.journal_acks.specs.run_model.History.{Event, Called, HostFed, Noted}
use Rattle.journal_acks.specs.run_model.Run.{Given, after_feed, after_octets, facts_at, setup_at}
use Rattle.journal_data.proofs.EachLine.{IsElsewhere, IsOutside, call_outside, lines_at, outside_lines}

-- ---- the front of two lists

pub data IsSplit (history more before rest : List Event) : Type 0 where
  -- it is one of the first list
  Inside : (later : List Event) → history ≡ before ++ later → IsSplit history more before rest
  -- it has all of that, and a front of the second
  Beyond : (mid : List Event) → before ≡ history ++ mid → more ≡ mid ++ rest → IsSplit history more before rest

record SameParts (one other : Event) (ones others : List Event) : Type 0 where
  heads : one ≡ other
  tails : ones ≡ others

parts : (one other : Event) (ones others : List Event) → one ∷ ones ≡ other ∷ others → SameParts one other ones others
parts one other ones others is = record { heads = cc; tails = cc }

pub split : (history more before rest : List Event) → history ++ more ≡ before ++ rest → IsSplit history more before rest
split [] more before rest is = Beyond before refl is
split (event ∷ history) more [] rest is = Inside (event ∷ history) refl
split (event ∷ history) more (other ∷ before) rest is =
    let same = parts event other (history ++ more) (before ++ rest) is in by same.heads (split history more before rest same.tails)
  where
    by : event ≡ other → IsSplit history more before rest → IsSplit (event ∷ history) more (other ∷ before) rest
    by heads (Inside later inside) = Inside later (λ i. heads i ∷ inside i)
    by heads (Beyond mid beyond more_is) = Beyond mid (λ i. sym heads i ∷ beyond i) more_is

-- ---- at all times

-- this holds after each front of the events
abbrev pub AreAlways : (List Event → Type 0) → List Event → Type 0
AreAlways T history = (before rest : List Event) → history ≡ before ++ rest → T before

pub always_first : (T : List Event → Type 0) → T [] → AreAlways T []
always_first T first [] rest is = first
always_first T first (event ∷ before) rest is = absurd cc

pub always_more : (T : List Event → Type 0) (history more : List Event) → AreAlways T history → ((mid rest : List Event) → more ≡ mid ++ rest → T (history ++ mid))
    → AreAlways T (history ++ more)
always_more T history more always then = λ before rest is. by before rest (split history more before rest is)
  where
    by : (before rest : List Event) → IsSplit history more before rest → T before
    by before rest (Inside later inside) = always before later inside
    by before rest (Beyond mid beyond more_is) = subst T (sym beyond) (then mid rest more_is)

pub always_event : (T : List Event → Type 0) (history : List Event) (event : Event) → AreAlways T history → T history → T (history ++ event ∷ [])
    → AreAlways T (history ++ event ∷ [])
always_event T history event always here after = always_more T history (event ∷ []) always by
  where
    by : (mid rest : List Event) → event ∷ [] ≡ mid ++ rest → T (history ++ mid)
    by [] rest is = subst T (sym (append-nil history)) here
    by (one ∷ []) rest is = let same : event ≡ one = cc in subst (λ e. T (history ++ e ∷ [])) same after
    by (one ∷ two ∷ mid) rest is = absurd cc

-- ---- the events of a call, and of a feed

pub front_all : {X : Type 0} (P : X → Type 0) (xs ys : List X) → AllByRecursion P (xs ++ ys) → AllByRecursion P xs
front_all P [] ys all = tt
front_all P (x ∷ xs) ys all = (all.0, front_all P xs ys all.1)

both_all : {X : Type 0} (P : X → Type 0) (xs ys : List X) → AllByRecursion P xs → AllByRecursion P ys → AllByRecursion P (xs ++ ys)
both_all P [] ys all also = also
both_all P (x ∷ xs) ys all also = (all.0, both_all P xs ys all.1 also)

-- in the middle of events of the other station its lines are the same
pub mid_same : (station : ℕ) (history more mid rest : List Event) → AllByRecursion (IsOutside station) more → more ≡ mid ++ rest
    → lines_at station (history ++ mid) ≡ lines_at station history
mid_same station history more mid rest outside is =
    outside_lines station mid history (front_all (IsOutside station) mid rest (subst (AllByRecursion (IsOutside station)) is outside))

-- what a feed adds
pub record HasMore (station : ℕ) (history after : List Event) : Type 0 where
  pub more : List Event
  pub is : after ≡ history ++ more
  pub outside : AllByRecursion (IsOutside station) more

octets_more : (given : Given) (station other : ℕ) (octets : List ℕ) (history : List Event) → IsElsewhere station other
    → HasMore station history (after_octets given other octets history)
octets_more given station other [] history apart = record { more = []; is = sym (append-nil history); outside = tt }
octets_more given station other (octet ∷ octets) history apart =
    let notes = notes_after (setup_at given other) (facts_at given other history) (HostOctet octet) in
    let call = Called other (HostOctet octet) ∷ map (Noted other) notes in
    let later = octets_more given station other octets (history ++ call) apart in
    record {
      more = call ++ later.more;
      is = later.is ∙ append_assoc history call later.more;
      outside = both_all (IsOutside station) call later.more (call_outside station other (HostOctet octet) notes apart) later.outside;
    }

pub feed_more : (given : Given) (station other octet : ℕ) (octets : List ℕ) (history : List Event) → IsElsewhere station other
    → HasMore station (history ++ HostFed other (octet ∷ octets) ∷ []) (after_feed given other (octet ∷ octets) history)
feed_more given station other octet octets history apart =
    octets_more given station other (octet ∷ octets) (history ++ HostFed other (octet ∷ octets) ∷ []) apart
