-- Which packets mix two session keys, whatever the lines of a journal are.
use Rattle.std.proofs.Common.{◌≡◌, ℕ, ◌&&◌, ◌||◌, not, Bool, true, false, Option, Some, None, List, [], ◌∷◌, ◌++◌, refl, sym, ap, ◌∙◌, append-nil, append_assoc}
use Rattle.std.proofs.Math.Bool.{and-false}
use Rattle.std.proofs.lemmas.Slice.Eq.{bytes_eq-Decides}
use Rattle.std.specs.Str.{bytes_eq}
use Rattle.ble_base.specs.Side.{other_side}
use Rattle.ble_base.specs.declared.roles.Side.{Side}
use Rattle.ble_base.specs.declared.verdicts.Verdict.{Verdict}
use Rattle.journal.specs.declared.entries.Entry.{Entry}
use Rattle.journal.specs.declared.entries.Entry.TheVariants.{Air, Turn}
use Rattle.journal.specs.declared.entries.Mark.{Mark}
use Rattle.journal_controls.specs.LineSteps.{keyed_on}
use Rattle.journal_controls.specs.journal_acks.Exchange.{exchange_of}
use Rattle.journal_controls.specs.journal_acks.Shut.{is_of_link}
use Rattle.journal_controls.specs.journal_ends.Asked.{Words}
use Rattle.journal_controls.specs.journal_ends.Left.{is_unchanged}
use Rattle.journal_controls.specs.journal_links.Begun.{link_numbered}
use Rattle.journal_controls.specs.link_model.Payload.{opens_now}
use Rattle.journal_controls.specs.link_model.keyed_control.Keyed.{Keyed}
use Rattle.journal_controls.specs.run_model.History.{is_good}
use Rattle.journal_sealing.specs.Forged.{NeverOpens}
use Rattle.journal_sealing.specs.Mixed.{HaveOneKey, counts_on, is_mixed, is_mixed_at, mixed_from, mixes_keys, opens_other}

-- ---- a journal with more lines

or_same : (a b c : Bool) → (a || (b || c)) ≡ ((a || b) || c)
or_same true b c = refl
or_same false b c = refl

neither : (a b : Bool) → (a || b) ≡ false → (a ≡ false) × (b ≡ false)
neither true b is = absurd cc
neither false b is = (refl, is)

module _ (words : Words) (number : ℕ) where
  mixed_more : (front lines more : List Entry)
      → mixed_from words number front (lines ++ more) ≡ (mixed_from words number front lines || mixed_from words number (front ++ lines) more)
  mixed_more front [] more = ap (λ xs. mixed_from words number xs more) (sym (append-nil front))
  mixed_more front (line ∷ lines) more =
      let next = front ++ line ∷ [] in
      ap (λ b. is_mixed_at words number front line || b)
      (mixed_more next lines more ∙ ap (λ xs. mixed_from words number next lines || mixed_from words number xs more) (append_assoc front (line ∷ []) lines))
      ∙ or_same (is_mixed_at words number front line) (mixed_from words number next lines) (mixed_from words number (front ++ line ∷ lines) more)

  pub mixed_parts : (front more : List Entry) → is_mixed words number (front ++ more) ≡ (is_mixed words number front || mixed_from words number front more)
  unfolding is_mixed
  mixed_parts front more = mixed_more [] front more

  both_parts : (front more : List Entry) → is_mixed words number (front ++ more) ≡ false → (is_mixed words number front ≡ false) × (mixed_from words number front more ≡ false)
  both_parts front more is = neither (is_mixed words number front) (mixed_from words number front more) (sym (mixed_parts front more) ∙ is)

  -- a part of a journal that is not mixed is not
  pub front_unmixed : (front more : List Entry) → is_mixed words number (front ++ more) ≡ false → is_mixed words number front ≡ false
  front_unmixed front more is = (both_parts front more is).0

  -- nor is a line of it
  pub unmixed_at : (front rest : List Entry) (line : Entry) → is_mixed words number (front ++ line ∷ rest) ≡ false → is_mixed_at words number front line ≡ false
  unmixed_at front rest line is =
      (neither (is_mixed_at words number front line) (mixed_from words number (front ++ line ∷ []) rest) (both_parts front (line ∷ rest) is).1).0

-- ---- a packet that does not

unmixed : (of_link heard mixes : Bool) → (of_link ≡ true → mixes ≡ false) → (of_link && heard && mixes) ≡ false
unmixed true heard mixes is = ap (λ b. heard && b) (is refl) ∙ and-false heard
unmixed false heard mixes is = refl

module _ (words : Words) (number : ℕ) (front : List Entry) (side : Side) (channel : ℕ) (octets : List ℕ) (fate : Mark) (verdict : Verdict) where
  -- its listener has the key of its sender, where it opens what it hears
  same_keys : (one other : Option Keyed) → ((k other_k : Keyed) → one ≡ Some k → other ≡ Some other_k → opens_now other_k.end ≡ true → k.end.key ≡ other_k.end.key)
      → opens_other one other ≡ false
  same_keys None other same = refl
  same_keys (Some k) None same = refl
  same_keys (Some k) (Some other_k) same = by (opens_now other_k.end) refl
    where
      by : (opens : Bool) → opens_now other_k.end ≡ opens → (opens && not (bytes_eq k.end.key other_k.end.key)) ≡ false
      by true opens = ap not ((bytes_eq-Decides k.end.key other_k.end.key).1 (same k other_k refl refl opens))
      by false opens = refl

  one_key_on_link : (is_of_link number front side channel octets ≡ true → (k other_k : Keyed) → keyed_on words side number front ≡ Some k
      → keyed_on words (other_side side) number front ≡ Some other_k → opens_now other_k.end ≡ true → k.end.key ≡ other_k.end.key)
      → is_mixed_at words number front (Air side channel octets fate verdict) ≡ false
  one_key_on_link same =
      let counts = counts_on (link_numbered number front) (exchange_of number front (other_side side)) channel octets in
      unmixed (is_of_link number front side channel octets) (is_good verdict && is_unchanged fate octets) (mixes_keys words number front side channel octets)
      (λ of_link. ap (λ b. counts && b) (same_keys (keyed_on words side number front) (keyed_on words (other_side side) number front) (same of_link)) ∙ and-false counts)

  pub one_key_at : ((k other_k : Keyed) → keyed_on words side number front ≡ Some k → keyed_on words (other_side side) number front ≡ Some other_k
      → opens_now other_k.end ≡ true → k.end.key ≡ other_k.end.key)
      → is_mixed_at words number front (Air side channel octets fate verdict) ≡ false
  one_key_at same = one_key_on_link (λ of_link. same)

-- ---- where no packet does, no journal does

module _ (words : Words) (number : ℕ) (journal : List Entry) where
  -- each packet in it is none of these
  abbrev AreUnmixed : Type 0
  AreUnmixed =
      (front rest : List Entry) (side : Side) (channel : ℕ) (octets : List ℕ) (fate : Mark) (verdict : Verdict)
      → journal ≡ front ++ Air side channel octets fate verdict ∷ rest → is_mixed_at words number front (Air side channel octets fate verdict) ≡ false

  line_unmixed : AreUnmixed → (front rest : List Entry) (line : Entry) → journal ≡ front ++ line ∷ rest → is_mixed_at words number front line ≡ false
  line_unmixed each front rest (Air side channel octets fate verdict) at = each front rest side channel octets fate verdict at
  line_unmixed each front rest (Turn slot a b) at = refl
  line_unmixed each front rest other at = refl

  lines_unmixed : AreUnmixed → (front lines : List Entry) → journal ≡ front ++ lines → mixed_from words number front lines ≡ false
  lines_unmixed each front [] at = refl
  lines_unmixed each front (line ∷ lines) at =
      ap (λ b. b || mixed_from words number (front ++ line ∷ []) lines) (line_unmixed each front lines line at)
      ∙ lines_unmixed each (front ++ line ∷ []) lines (at ∙ sym (append_assoc front (line ∷ []) lines))

  journal_unmixed : AreUnmixed → is_mixed words number journal ≡ false
  unfolding is_mixed
  journal_unmixed each = lines_unmixed each [] journal refl

  -- no end opens anything
  pub none_mixed : ((side : Side) → NeverOpens words number journal side) → is_mixed words number journal ≡ false
  none_mixed never = journal_unmixed (λ front rest side channel octets fate verdict at.
      one_key_at words number front side channel octets fate verdict (λ k other_k one other opens.
      absurd (let h : true ≡ false = sym opens ∙ never (other_side side) front (Air side channel octets fate verdict ∷ rest) at other_k other in absurd cc)))

  -- or both ends have one key, wherever one of them opens
  pub one_key_unmixed : HaveOneKey words number journal → is_mixed words number journal ≡ false
  one_key_unmixed alike = journal_unmixed (λ front rest side channel octets fate verdict at.
      one_key_on_link words number front side channel octets fate verdict (alike front rest side channel octets fate verdict at))
