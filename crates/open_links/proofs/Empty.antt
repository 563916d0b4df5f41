-- No link is open where nothing is held.
use Rattle.std.proofs.Common.{◌≡◌, ℕ, zero, suc, ◌+◌, ◌==◌, Bool, true, false, [], replicate, None, if◌then◌else◌, refl, ap, sym, subst}
use Rattle.std.specs.List.{filter}
use Rattle.acl_banks.specs.Packets.{is_of}
use Rattle.acl_banks.specs.Banks.{Bank, credits_of}
use Rattle.open_links.specs.OpenLinks.{link_from}
use Rattle.open_links.specs.Ended.{HasNone}
use Rattle.open_links.specs.Knowing.{HeldLinks, HoldsUnder, Knows, KnowsPlaces}
use Rattle.open_links.specs.Sound.{AreSound, IsWithinAt}
use Rattle.open_links.proofs.Handles.{none_have}

pub empty_known : (n : ℕ) → KnowsPlaces (replicate n None) (replicate n None)
empty_known zero = tt
empty_known (suc n) = (tt, empty_known n)

pub none_at : (first handle n : ℕ) → link_from first handle (replicate n None) ≡ None
none_at first handle zero = refl
none_at first handle (suc n) = by_test (first == handle) (none_at (first + 1) handle n)
  where
    by_test : (test : Bool) → link_from (first + 1) handle (replicate n None) ≡ None
        → (if test then None else link_from (first + 1) handle (replicate n None)) ≡ None
    by_test true rest = refl
    by_test false rest = rest

nothing_in : (bank : Bank) → bank.packets ≡ [] → ((handle : ℕ) → credits_of bank handle ≡ 0) → (handle : ℕ) → HasNone handle bank
nothing_in bank empty none handle =
    record { packets = ap (filter (is_of handle)) empty; complete = none handle }

pub new_known : (n : ℕ) (held : HeldLinks) → KnowsPlaces held.places (replicate n None) → held.bank.packets ≡ []
    → ((handle : ℕ) → credits_of held.bank handle ≡ 0) → held.received ≡ [] → Knows held (replicate n None) []
unfolding Knows
new_known n held places empty none received =
    record {
      places = places;
      handles = none_have 0 n;
      data_of = λ handle. subst (HoldsUnder handle held.bank) (sym (none_at 0 handle n)) (nothing_in held.bank empty none handle);
      pieces = received;
    }

pub new_sound : (n : ℕ) (held : HeldLinks) → KnowsPlaces held.places (replicate n None) → held.bank.packets ≡ []
    → ((handle : ℕ) → credits_of held.bank handle ≡ 0) → held.received ≡ [] → AreSound held
new_sound n held places empty none received =
    record {
      links = replicate n None;
      know = subst (λ received. Knows held (replicate n None) received) (sym received) (new_known n held places empty none received);
      within = λ handle. subst (IsWithinAt held.heard_to held.unreported) (sym (none_at 0 handle n)) tt;
    }
