-- Two places of one journal: one is before the other, or they are the same.
use Rattle.std.proofs.Common.{◌≡◌, List, [], ◌∷◌, ◌++◌, sym}
use Rattle.journal.specs.declared.entries.Entry.{Entry}

-- how the place of one line is to that of the other
pub data InOrder (xs ys us vs : List Entry) (one other : Entry) : Type 0 where
  Before : (mid : List Entry) → us ≡ xs ++ one ∷ mid → ys ≡ mid ++ other ∷ vs → InOrder xs ys us vs one other
  Same : one ≡ other → InOrder xs ys us vs one other
  After : (mid : List Entry) → xs ≡ us ++ other ∷ mid → vs ≡ mid ++ one ∷ ys → InOrder xs ys us vs one other

pub in_order : (xs ys us vs : List Entry) (one other : Entry) → xs ++ one ∷ ys ≡ us ++ other ∷ vs → InOrder xs ys us vs one other
in_order [] ys [] vs one other is = let head : one ≡ other = cc in Same head
in_order [] ys (first ∷ us) vs one other is =
    let head : one ≡ first = cc in
    let tails : ys ≡ us ++ other ∷ vs = cc in Before us (λ i. sym head i ∷ us) tails
in_order (first ∷ xs) ys [] vs one other is =
    let head : first ≡ other = cc in
    let tails : vs ≡ xs ++ one ∷ ys = cc in After xs (λ i. head i ∷ xs) tails
in_order (first ∷ xs) ys (second ∷ us) vs one other is =
    let head : first ≡ second = cc in
    let tails : xs ++ one ∷ ys ≡ us ++ other ∷ vs = cc in by head (in_order xs ys us vs one other tails)
  where
    by : first ≡ second → InOrder xs ys us vs one other → InOrder (first ∷ xs) ys (second ∷ us) vs one other
    by head (Before mid front rest) = Before mid (λ i. sym head i ∷ front i) rest
    by head (Same same) = Same same
    by head (After mid front rest) = After mid (λ i. head i ∷ front i) rest
