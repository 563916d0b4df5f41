-- Links that end, and their data (Core 5.2, volume 6 part B, sections 4.5.2 and 5.1.6; what becomes of the data is our
-- choice).
use Rattle.std.specs.Prelude.{◌≡◌, ℕ, ◌+◌, ◌≤◌, ◌==◌, not, List, [], ◌∷◌, filter, fold, Option, Some, None, ⊤}
use Rattle.std.specs.List.{Contains}
use Rattle.acl_banks.specs.declared.pieces.Piece.{Piece}
use Rattle.acl_banks.specs.Packets.{is_of}
use Rattle.acl_banks.specs.Banks.{Bank, credits_of}
use Rattle.open_links.specs.declared.ended.LinkEnded.{LinkEnded}

-- a link under this handle that ends, if there is a reason
abbrev pub end_by : ℕ → Option ℕ → List LinkEnded
end_by handle None = []
end_by handle (Some reason) = (record { handle = handle; reason = record { 0 = reason } }) ∷ []

-- the handles of links that end ascend, from this one on
abbrev pub HandlesAscend : ℕ → List LinkEnded → Type 0
HandlesAscend first [] = ⊤
HandlesAscend first (ended ∷ others) = (first ≤ ended.handle) × HandlesAscend (ended.handle + 1) others

-- where there is a reason, the end under this handle is one of these, with it
abbrev pub IsAmong : ℕ → Option ℕ → List LinkEnded → Type 0
IsAmong handle None ended = ⊤
IsAmong handle (Some reason) ended = Contains ended (record { handle = handle; reason = record { 0 = reason } })

-- what the host has not received of a link that ends is dropped
abbrev pub received_without : ℕ → List (ℕ × Piece) → List (ℕ × Piece)
received_without handle received = filter (λ piece. not (piece.0 == handle)) received

abbrev pub received_ended : List LinkEnded → List (ℕ × Piece) → List (ℕ × Piece)
received_ended ended received = fold (λ pieces one. received_without one.handle pieces) received ended

-- a bank has nothing under a handle
pub record HasNone (handle : ℕ) (bank : Bank) : Type 0 where
  pub packets : filter (is_of handle) bank.packets ≡ []
  pub complete : credits_of bank handle ≡ 0
