-- The open links of a controller, each under its handle (Core 5.2, volume 4 part E, section 5.3.1).
use Rattle.std.specs.Prelude.{◌≡◌, ℕ, ◌+◌, ◌<◌, ◌≤◌, ◌==◌, ◌&&◌, nat_lt, Bool, false, List, [], ◌∷◌, ◌++◌, length, map, Option, Some, None, IsSome, ⊤, if◌then◌else◌}
use Rattle.std.specs.List.{list_any}
use Rattle.std.specs.Option.{option_map}
use Rattle.ble_base.specs.declared.addresses.Address.{Address}
use Rattle.scan_init.specs.Addresses.{is_same_address}
use Rattle.link_end.specs.link_model.Setup.{Setup}
use Rattle.link_end.specs.link_model.Step.{Step}
use Rattle.link_end.specs.link_model.Facts.{Facts}
use Rattle.link_end.specs.link_model.End.{facts_of}

-- an open link, by what happened to it (our choice)
pub record OpenLink : Type 0 where
  -- what its end is set up with
  pub setup : Setup
  -- what happened to its end since
  pub past : List Step
  -- the slot in which it had the radio last; at first that of its CONNECT_IND (our choice)
  pub last_served : ℕ

-- what its end holds
abbrev pub facts_in : OpenLink → Facts
facts_in link = facts_of link.setup link.past

-- the links by handle, from 0 on: one place for each link that the controller can hold
abbrev pub Links : Type 0
Links = List (Option OpenLink)

-- the open link under a handle, of the links from this handle on (volume 4 part E, section 5.3.1)
abbrev pub link_from : ℕ → ℕ → Links → Option OpenLink
link_from first handle [] = None
link_from first handle (place ∷ links) = if first == handle then place else link_from (first + 1) handle links

-- the link that may be under a handle
abbrev pub link_at : ℕ → Links → Option OpenLink
link_at handle links = link_from 0 handle links

-- the links with a change of what is under a handle
abbrev pub with_change_from : ℕ → ℕ → (Option OpenLink → Option OpenLink) → Links → Links
with_change_from first handle change [] = []
with_change_from first handle change (place ∷ links) =
    if first == handle then change place ∷ links else place ∷ with_change_from (first + 1) handle change links

-- the links with a change of the one under a handle, if it is open
abbrev pub with_change : ℕ → (OpenLink → OpenLink) → Links → Links
with_change handle change links = with_change_from 0 handle (option_map change) links

-- a link after a step of its end
abbrev pub link_after : Step → OpenLink → OpenLink
link_after step link = record link { past = link.past ++ step ∷ [] }

-- a link as it gets the radio in a slot (our choice)
abbrev pub link_served : ℕ → OpenLink → OpenLink
link_served slot link = record link { last_served = slot }

-- ---- a link that entered an event: before its first event it neither sends nor receives (our choice)

-- it entered an event (volume 6 part B, section 4.5.1)
abbrev pub has_entered : OpenLink → Bool
has_entered link = nat_lt 0 (facts_in link).control.track.entered

-- the link that may be under a handle, once it entered an event
abbrev pub in_event : Option OpenLink → Option OpenLink
in_event None = None
in_event (Some link) = if has_entered link then Some link else None

-- a link after a step that its end takes only once it entered an event
abbrev pub link_after_in_event : Step → OpenLink → OpenLink
link_after_in_event step link = if has_entered link then link_after step link else link

-- ---- opening and ending

-- the handle of a new link: the least one, from this one on, that no open link has (our choice)
abbrev pub free_from : ℕ → Links → Option ℕ
free_from handle [] = None
free_from handle (None ∷ links) = Some handle
free_from handle (Some link ∷ links) = free_from (handle + 1) links

-- a link as it is opened
abbrev pub new_link : Setup → OpenLink
new_link setup = record { setup = setup; past = []; last_served = setup.opened }

-- a link is opened under the handle of its setup
abbrev pub with_link : Setup → Links → Links
with_link setup links = with_change_from 0 setup.link.handle (λ place. Some (new_link setup)) links

-- a link is shut
abbrev pub without_link : ℕ → Links → Links
without_link handle links = with_change_from 0 handle (λ place. None) links

-- what a free handle is, of the links from a handle on
pub record IsLeastFree (first handle : ℕ) (links : Links) : Type 0 where
  pub from_first : first ≤ handle
  pub within : handle < first + length links
  pub free : link_from first handle links ≡ None
  pub least : (other : ℕ) → first ≤ other → other < handle → IsSome (link_from first other links)

-- there is none exactly where each handle has a link
abbrev pub IsFreeHandle : ℕ → Links → Option ℕ → Type 0
IsFreeHandle first links None =
    (other : ℕ) → first ≤ other → other < first + length links → IsSome (link_from first other links)
IsFreeHandle first links (Some handle) = IsLeastFree first handle links

-- all links are shut
abbrev pub without_links : Links → Links
without_links links = map (λ place. None) links

-- the handles of the open links, from this one on
abbrev pub handles_from : ℕ → Links → List ℕ
handles_from handle [] = []
handles_from handle (None ∷ links) = handles_from (handle + 1) links
handles_from handle (Some link ∷ links) = handle ∷ handles_from (handle + 1) links

-- the link that may be under a handle has it by its setup
abbrev pub HasHandle : ℕ → Option OpenLink → Type 0
HasHandle handle None = ⊤
HasHandle handle (Some link) = link.setup.link.handle ≡ handle

-- each link is under the handle of its setup, from this handle on
abbrev pub HaveHandles : ℕ → Links → Type 0
HaveHandles handle [] = ⊤
HaveHandles handle (place ∷ links) = HasHandle handle place × HaveHandles (handle + 1) links

-- ---- addresses

-- the link that may be under a handle is between these two addresses
abbrev pub is_between : Address → Address → Option OpenLink → Bool
is_between own peer None = false
is_between own peer (Some link) =
    is_same_address own link.setup.link.own && is_same_address peer link.setup.link.peer

-- a link between these two addresses is open
abbrev pub has_link_between : Address → Address → Links → Bool
has_link_between own peer links = list_any (is_between own peer) links
