-- How content that may be unknown grows (our choice).
use Rattle.std.specs.Prelude.{◌≡◌, ℕ, List, ◌++◌, Option, Some, None}

-- some octets are the front of others
abbrev pub IsPrefixOf : List ℕ → List ℕ → Type 0
IsPrefixOf front octets = (rest : List ℕ) × (front ++ rest ≡ octets)

-- the content has grown by exactly these octets, where it is known; unknown content stays unknown
abbrev pub HasGrownBy : Option (List ℕ) → Option (List ℕ) → List ℕ → Type 0
HasGrownBy None new octets = new ≡ None
HasGrownBy (Some written) new octets = new ≡ Some (written ++ octets)

-- the content has grown by a prefix of these octets, which may be empty or all of them
abbrev pub HasGrownByPrefix : Option (List ℕ) → Option (List ℕ) → List ℕ → Type 0
HasGrownByPrefix old new octets = (front : List ℕ) × IsPrefixOf front octets × HasGrownBy old new front
