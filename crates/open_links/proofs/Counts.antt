-- How many places there are, before and after a change.
use Rattle.std.proofs.Common.{◌≡◌, ℕ, suc, zero, ◌+◌, ◌==◌, Bool, true, false, List, [], ◌∷◌, length, replicate, Option, if◌then◌else◌, refl, ap}
use Rattle.std.proofs.lemmas.List.{length-map}
use Rattle.link_end.specs.link_model.Setup.{Setup}
use Rattle.open_links.specs.Data.{links_reported}
use Rattle.open_links.specs.OpenLinks.{Links, OpenLink, with_change, with_change_from, with_link, without_link, without_links}
use Rattle.ble_base.specs.declared.channel_map.ChannelMap.{ChannelMap}
use Rattle.open_links.specs.Hosts.{links_asked_map}
use Rattle.open_links.specs.Turns.{links_without}
use Rattle.open_links.specs.Knowing.{HeldLink, KnowsPlaces}

same_count : (change : Option OpenLink → Option OpenLink) (first handle : ℕ) (links : Links)
    → length (with_change_from first handle change links) ≡ length links
same_count change first handle [] = refl
same_count change first handle (place ∷ links) = at (first == handle) (same_count change (first + 1) handle links)
  where
    at : (test : Bool) → length (with_change_from (first + 1) handle change links) ≡ length links
        → length (if test then change place ∷ links else place ∷ with_change_from (first + 1) handle change links)
        ≡ suc (length links)
    at true same = refl
    at false same = ap suc same

pub count_at_first : (n : ℕ) (place : Option OpenLink) → length (replicate n place) ≡ n
count_at_first zero place = refl
count_at_first (suc n) place = ap suc (count_at_first n place)

pub count_opening : (setup : Setup) (links : Links) → length (with_link setup links) ≡ length links
count_opening setup links = same_count _ 0 setup.link.handle links

pub count_shutting : (handle : ℕ) (links : Links) → length (without_link handle links) ≡ length links
count_shutting handle links = same_count _ 0 handle links

pub count_changing : (handle : ℕ) (change : OpenLink → OpenLink) (links : Links) → length (with_change handle change links) ≡ length links
count_changing handle change links = same_count _ 0 handle links

pub count_ending : (reason : OpenLink → Option ℕ) (links : Links) → length (links_without reason links) ≡ length links
count_ending reason links = length-map links _

pub count_mapped : (map : ChannelMap) (links : Links) → length (links_asked_map map links) ≡ length links
count_mapped map links = length-map links _

pub count_resetting : (links : Links) → length (without_links links) ≡ length links
count_resetting links = length-map links _

pub count_reporting : (links : Links) → length (links_reported links) ≡ length links
count_reporting links = length-map links _

-- those that are held are as many
pub count_known : (helds : List (Option HeldLink)) (links : Links) → KnowsPlaces helds links → length helds ≡ length links
count_known [] [] known = refl
count_known [] (link ∷ links) known = absurd known
count_known (held ∷ helds) [] known = absurd known
count_known (held ∷ helds) (link ∷ links) known = ap suc (count_known helds links known.1)

-- the lemmas of the law, but for that on changes
pub ruleset counts = (count_at_first, count_opening, count_shutting, count_ending, count_mapped, count_resetting, count_reporting)
