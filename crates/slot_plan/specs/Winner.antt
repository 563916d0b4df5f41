-- Which of the activities that want a slot has the radio in it (our choice: Core 5.2, volume 6 part B, leaves it open).
use Rattle.std.specs.Prelude.{◌≡◌, ℕ, Bool, false, ◌&&◌, ◌||◌, ◌==◌, nat_lt, List, [], ◌∷◌, Option, Some, None, if◌then◌else◌}
use Rattle.std.specs.List.{All, Contains}
use Rattle.slot_plan.specs.declared.activities.Activity.{Activity}
use Rattle.slot_plan.specs.declared.activities.Activity.TheVariants.{Link, Advertise, Scan, Initiate}
use Rattle.slot_plan.specs.declared.wants.Want.{Want}

-- the class of an activity: a connection event is 0, the advertiser 1, the scanner and the initiator are 2
abbrev pub class_of : Activity → ℕ
class_of (Link handle) = 0
class_of Advertise = 1
class_of Scan = 2
class_of Initiate = 2

-- what an activity goes by within its class: a link by its connection handle, the scanner before the initiator
abbrev pub handle_of : Activity → ℕ
handle_of (Link handle) = handle
handle_of Advertise = 0
handle_of Scan = 0
handle_of Initiate = 1

-- of two that want a slot one comes before the other: by class, then by the slot last served, then by handle
abbrev pub is_before : Want → Want → Bool
is_before a b =
    nat_lt (class_of a.activity) (class_of b.activity)
    || ((class_of a.activity == class_of b.activity) && (nat_lt a.last_served.0 b.last_served.0
    || ((a.last_served.0 == b.last_served.0) && nat_lt (handle_of a.activity) (handle_of b.activity))))

-- one that wants, and none that wants is before it
pub record IsFirst (wants : List Want) (first : Want) : Type 0 where
  pub wants_it : Contains wants first
  pub none_before : All (λ other. is_before other first ≡ false) wants

-- the activity of such a one has the radio
abbrev pub IsWinner : List Want → Activity → Type 0
IsWinner wants activity = (first : Want) × IsFirst wants first × (first.activity ≡ activity)

-- the same computed: the first of two, of one and of others, and the activity of the first of all
abbrev pub earlier_of : Want → Want → Want
earlier_of want other = if is_before want other then want else other

abbrev pub first_of : Want → List Want → Want
first_of want [] = want
first_of want (next ∷ wants) = earlier_of want (first_of next wants)

abbrev pub first_activity : List Want → Option Activity
first_activity [] = None
first_activity (want ∷ wants) = Some (first_of want wants).activity
