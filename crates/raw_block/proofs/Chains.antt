-- Each change of a block keeps the chain of its free cells right.
use Rattle.std.proofs.Common.{◌≡◌, ◌≢◌, inl, inr, ℕ, ◌+◌, ◌-◌, ◌^◌, ◌<◌, ◌≤◌, List, [], ◌∷◌, length, get_or, set, replicate, Option, Some, None, IsSome, refl, sym, ap, subst, ◌∙◌, arith, length-set}
use Rattle.std.proofs.lemmas.Bool.{cases_eq}
use Rattle.std.proofs.lemmas.List.{get_or-set_same, get_or-set_other, length-replicate, get_or-replicate}
use Rattle.std.specs.Ordering.{nat_cmp}
use Rattle.std.specs.FinMap as map
use Rattle.raw_block.specs.declared.cell.Cell.{Cell}
use Rattle.raw_block.specs.declared.cell.Cell.TheVariants.{Free, Held}
use Rattle.raw_block.specs.Cells.{value_in, values_of, IsNoneOf, IsChain, IsSound}
use Rattle.raw_block.specs.Places.{IsTaken}
use Rattle.raw_block.proofs.Rows.{taken_within}
use Rattle.raw_block.proofs.Values.{get-values_of, values_of-empty, values_of-hold, values_of-free, values_of-chain, len_after_insert, len_after_write, len_after_remove}

abbrev Row : Type 0 → Type 0
Row T = List (Option (Cell T))

module _ {T : Type 0} where
  -- a cell that is not in the chain may become anything
  stays_chained : (cells : Row T) (k : ℕ) (place : Option (Cell T)) (first : ℕ) (free : List ℕ) → IsNoneOf k free → IsChain cells first free → IsChain (set cells k place) first free
  stays_chained cells k place first [] apart chain = chain ∙ sym (length-set cells k place)
  stays_chained cells k place first (cell ∷ rest) apart chain =
      let leads = get_or-set_other cells k cell place None apart.0 ∙ chain.1.1.1.0 in
      (chain.0, (chain.1.0, (chain.1.1.0, (leads, stays_chained cells k place chain.1.1.0 rest apart.1 chain.1.1.1.1))))

  -- a cell that is not free is not in the chain
  not_chained : (cells : Row T) (k : ℕ) (first : ℕ) (free : List ℕ) → ((next : ℕ) → get_or cells k None ≢ Some (Free next)) → IsChain cells first free → IsNoneOf k free
  not_chained cells k first [] busy chain = tt
  not_chained cells k first (cell ∷ rest) busy chain = (
    λ e. busy chain.1.1.0 (subst (λ n. get_or cells n None ≡ Some (Free chain.1.1.0)) e chain.1.1.1.0),
    not_chained cells k chain.1.1.0 rest busy chain.1.1.1.1,
  )

  -- it becomes the first of the chain
  one_more : (cells : Row T) (k : ℕ) (first : ℕ) (free : List ℕ) → k < length cells → ((next : ℕ) → get_or cells k None ≢ Some (Free next)) → IsChain cells first free
      → IsChain (set cells k (Some (Free first))) k (k ∷ free)
  one_more cells k first free within busy chain =
      let apart = not_chained cells k first free busy chain in
      let leads = get_or-set_same cells k (Some (Free first)) None within in
      (refl, (apart, (first, (leads, stays_chained cells k (Some (Free first)) first free apart chain))))

  -- the first of the chain is taken out of it
  pub record OneLess (cells : Row T) (first next : ℕ) (v : T) (free : List ℕ) : Type 0 where
    pub rest : List ℕ
    pub fewer : length free ≡ length rest + 1
    pub chained : IsChain (set cells first (Some (Held v))) next rest

  one_less : (cells : Row T) (first next : ℕ) (v : T) (free : List ℕ) → get_or cells first None ≡ Some (Free next) → IsChain cells first free → OneLess cells first next v free
  one_less cells first next v [] there chain = absurd (omega (arith, chain, taken_within cells first (Free next) there))
  one_less cells first next v (cell ∷ rest) there chain =
      let here : get_or cells first None ≡ Some (Free chain.1.1.0) = subst (λ n. get_or cells n None ≡ Some (Free chain.1.1.0)) chain.0 chain.1.1.1.0 in
      let same : chain.1.1.0 ≡ next = same_next (sym here ∙ there) in
      let apart : IsNoneOf first rest = subst (λ n. IsNoneOf n rest) chain.0 chain.1.0 in record {
        rest = rest;
        fewer = omega arith;
        chained = subst (λ n. IsChain (set cells first (Some (Held v))) n rest) same (stays_chained cells first (Some (Held v)) chain.1.1.0 rest apart chain.1.1.1.1);
      }
    where
      same_next : {m n : ℕ} → ◌≡◌ {A = Option (Cell T)} (Some (Free m)) (Some (Free n)) → m ≡ n
      same_next e = cc

  pub not_free : (cells : Row T) (k : ℕ) (v : T) → get_or cells k None ≡ Some (Held v) → (next : ℕ) → get_or cells k None ≢ Some (Free next)
  not_free cells k v held next e = cc

  none_there : (cells : Row T) (k : ℕ) → get_or cells k None ≡ None → (next : ℕ) → get_or cells k None ≢ Some (Free next)
  none_there cells k none next e = cc

  -- one place holds one cell
  pub same_cell : (cells : Row T) (k : ℕ) (x y : Cell T) → get_or cells k None ≡ Some x → get_or cells k None ≡ Some y → x ≡ y
  same_cell cells k x y one other = cc

  pub record IsFreeAt (cells : Row T) (k : ℕ) : Type 0 where
    pub next : ℕ
    pub there : get_or cells k None ≡ Some (Free next)

  module _ (most : ℕ) (cells : Row T) (first : ℕ) (sound : IsSound most cells first) where
    pub within : (k : ℕ) (cell : Cell T) → get_or cells k None ≡ Some cell → k < most
    within k cell e = omega (arith, taken_within cells k cell e, sound.long)

    -- the first number is that of a free cell, while a cell is free
    pub first_is_free : first < most → IsFreeAt cells first
    first_is_free below = by_chain sound.free sound.chained
      where
        by_chain : (free : List ℕ) → IsChain cells first free → IsFreeAt cells first
        by_chain [] chain = absurd (omega (arith, chain, sound.long))
        by_chain (cell ∷ rest) chain = record { next = chain.1.1.0; there = subst (λ n. get_or cells n None ≡ Some (Free chain.1.1.0)) chain.0 chain.1.1.1.0 }

    pub room_left : first < most → map.len (values_of cells) < most
    room_left below = omega (arith, some_free sound.free sound.chained, sound.total)
      where
        some_free : (free : List ℕ) → IsChain cells first free → 0 < length free
        some_free [] chain = absurd (omega (arith, chain, sound.long))
        some_free (cell ∷ rest) chain = omega arith

    pub is_full : most ≤ first → map.len (values_of cells) ≡ most
    is_full past = omega (arith, none_free sound.free sound.chained, sound.total)
      where
        none_free : (free : List ℕ) → IsChain cells first free → length free ≡ 0
        none_free [] chain = refl
        none_free (cell ∷ rest) chain =
            let here = subst (λ n. get_or cells n None ≡ Some (Free chain.1.1.0)) chain.0 chain.1.1.1.0 in
            absurd (omega (arith, within first (Free chain.1.1.0) here))

    still_filled : (k : ℕ) (cell : Cell T) → k < most → (q : ℕ) → q < most → IsTaken (set cells k (Some cell)) q
    still_filled k cell inside q below = elim (cases_eq q k) [
      | inl same ↦ (cell, rw same (get_or-set_same cells k (Some cell) None (omega (arith, sound.long))))
      | inr differs ↦ let was = sound.filled q below in (was.0, get_or-set_other cells k q (Some cell) None differs ∙ was.1)
    ]

    pub IsSound-put : (next : ℕ) (v : T) → get_or cells first None ≡ Some (Free next) → IsSound most (set cells first (Some (Held v))) next
    IsSound-put next v there =
        let inside = within first (Free next) there in let row = taken_within cells first (Free next) there in
        let less = one_less cells first next v sound.free there sound.chained in
        let none : map.get (values_of cells) first ≡ None = get-values_of cells first ∙ ap value_in there in
        let more = ap map.len (values_of-hold cells first row v) ∙ len_after_insert (values_of cells) first v none in record {
          numbered = sound.numbered;
          long = length-set cells first (Some (Held v)) ∙ sound.long;
          filled = still_filled first (Held v) inside;
          free = less.rest;
          chained = less.chained;
          total = omega (arith, more, less.fewer, sound.total);
        }

    pub IsSound-take : (k : ℕ) (v : T) → get_or cells k None ≡ Some (Held v) → IsSound most (set cells k (Some (Free first))) k
    IsSound-take k v held =
        let inside = within k (Held v) held in let row = taken_within cells k (Held v) held in
        let some : IsSome (map.get (values_of cells) k) = subst IsSome (sym (get-values_of cells k ∙ ap value_in held)) refl in
        let less = ap map.len (values_of-free cells k row first) in record {
          numbered = sound.numbered;
          long = length-set cells k (Some (Free first)) ∙ sound.long;
          filled = still_filled k (Free first) inside;
          free = k ∷ sound.free;
          chained = one_more cells k first sound.free row (not_free cells k v held) sound.chained;
          total = omega (arith, less, len_after_remove (values_of cells) k some, sound.total);
        }

    pub IsSound-write : (k : ℕ) (v w : T) → get_or cells k None ≡ Some (Held v) → IsSound most (set cells k (Some (Held w))) first
    IsSound-write k v w held =
        let inside = within k (Held v) held in let row = taken_within cells k (Held v) held in
        let some : IsSome (map.get (values_of cells) k) = subst IsSome (sym (get-values_of cells k ∙ ap value_in held)) refl in
        let same = ap map.len (values_of-hold cells k row w) ∙ len_after_write (values_of cells) k w some in record {
          numbered = sound.numbered;
          long = length-set cells k (Some (Held w)) ∙ sound.long;
          filled = still_filled k (Held w) inside;
          free = sound.free;
          chained = stays_chained cells k (Some (Held w)) first sound.free (not_chained cells k first sound.free (not_free cells k v held) sound.chained) sound.chained;
          total = omega (arith, same, sound.total);
        }

  -- the last of the places are free cells, chained, and the others are empty
  pub record IsLaid (most done : ℕ) (cells : Row T) : Type 0 where
    pub fits : done ≤ most
    pub long : length cells ≡ most
    pub empty : (k : ℕ) → k + done < most → get_or cells k None ≡ None
    pub filled : (k : ℕ) → most ≤ k + done → k < most → IsTaken cells k
    pub free : List ℕ
    pub chained : IsChain cells (most - done) free
    pub count : length free ≡ done
    pub values : values_of cells ≡ map.empty

  pub IsLaid-start : (most : ℕ) (cells : Row T) → cells ≡ replicate most None → IsLaid most 0 cells
  IsLaid-start most cells e =
      let long : length cells ≡ most = ap length e ∙ length-replicate most None in record {
        fits = omega arith;
        long = long;
        empty = λ k below. ap (λ l. get_or l k None) e ∙ get_or-replicate most k None None (omega arith);
        filled = λ k past below. absurd (omega arith);
        free = [];
        chained = omega (arith, long);
        count = refl;
        values = ap values_of e ∙ values_of-empty most;
      }

  pub IsLaid-more : (most done : ℕ) (cells : Row T) (k next : ℕ) → done < most → k ≡ most - 1 - done → next ≡ most - done → IsLaid most done cells → IsLaid most (done + 1) (set cells k (Some (Free next)))
  IsLaid-more most done cells k next below is_k is_next laid =
      let row : k < length cells = omega (arith, laid.long) in
      let none = laid.empty k (omega arith) in
      let chain : IsChain cells next laid.free = subst (λ n. IsChain cells n laid.free) (sym is_next) laid.chained in
      let at : k ≡ most - (done + 1) = omega arith in record {
        fits = omega arith;
        long = length-set cells k (Some (Free next)) ∙ laid.long;
        empty = λ q under. get_or-set_other cells k q (Some (Free next)) None (λ e. omega arith) ∙ laid.empty q (omega arith);
        filled = λ q past under. elim (cases_eq q k) [
          | inl same ↦ (Free next, rw same (get_or-set_same cells k (Some (Free next)) None row))
          | inr differs ↦ let was = laid.filled q (omega (arith, differs)) under in (was.0, get_or-set_other cells k q (Some (Free next)) None differs ∙ was.1)
        ];
        free = k ∷ laid.free;
        chained = subst (λ n. IsChain (set cells k (Some (Free next))) n (k ∷ laid.free)) at (one_more cells k next laid.free row (none_there cells k none) chain);
        count = omega (arith, laid.count);
        values = values_of-chain cells k row next none ∙ laid.values;
      }

  pub IsSound-laid : (most : ℕ) (cells : Row T) → most < 2 ^ 32 → IsLaid most most cells → IsSound most cells 0
  IsSound-laid most cells numbered laid =
      let start : most - most ≡ 0 = omega arith in
      let nothing : map.len (values_of cells) ≡ 0 = ap map.len laid.values ∙ map.len-empty nat_cmp T in record {
        numbered = numbered;
        long = laid.long;
        filled = λ k below. laid.filled k (omega arith) below;
        free = laid.free;
        chained = subst (λ n. IsChain cells n laid.free) start laid.chained;
        total = omega (arith, nothing, laid.count);
      }
