-- Runs of two stations.
use Rattle.std.proofs.Common.{◌≡◌, ◌≢◌, ℕ, ◌==◌, ◌⊎◌, inl, inr, true, false, [], ◌∷◌, refl, sym, ap, subst, ◌∙◌}
use Rattle.std.specs.List.{IsDistinct}
use Rattle.std.proofs.lemmas.Bool.{eqb-false}
use Rattle.ble_base.specs.Side.{other_side}
use Rattle.ble_base.specs.declared.roles.Side.TheVariants.{A, B}
use Rattle.run_laws.specs.run_model.Feeding.{AreDistinct}
use Rattle.run_laws.specs.run_model.Journal.{side_of}
use Rattle.run_laws.specs.run_model.Run.{Given}
use Rattle.run_laws.proofs.run_model.Journals.{two}
use Rattle.run_laws.proofs.run_model.Stations.{is_in}
use Rattle.journal_links.proofs.LinkLines.{IsApart}

pub are_distinct : (given : Given) → given.stations ≡ 0 ∷ 1 ∷ [] → AreDistinct given.stations
unfolding IsDistinct
are_distinct given are = subst AreDistinct (sym are) ((refl, tt), (tt, tt))

pub of_two_stations : (given : Given) → given.stations ≡ 0 ∷ 1 ∷ [] → (station : ℕ) → is_in station given.stations ≡ true → (station ≡ 0) ⊎ (station ≡ 1)
of_two_stations given are station is = two station (subst (λ xs. is_in station xs ≡ true) are is)

-- they have two sides
pub two_apart : (given : Given) → given.stations ≡ 0 ∷ 1 ∷ [] → (station : ℕ) → is_in station given.stations ≡ true → IsApart given station
two_apart given are station is = λ other is_too differs. by other differs (of_two_stations given are station is) (of_two_stations given are other is_too)
  where
    by : (other : ℕ) → (station == other) ≡ false → (station ≡ 0) ⊎ (station ≡ 1) → (other ≡ 0) ⊎ (other ≡ 1) → side_of station ≢ side_of other
    by other differs (inl a) (inl b) = absurd (eqb-false station other differs (a ∙ sym b))
    by other differs (inl a) (inr b) = λ same. absurd (let h : A ≡ B = sym (ap side_of a) ∙ same ∙ ap side_of b in absurd cc)
    by other differs (inr a) (inl b) = λ same. absurd (let h : B ≡ A = sym (ap side_of a) ∙ same ∙ ap side_of b in absurd cc)
    by other differs (inr a) (inr b) = absurd (eqb-false station other differs (a ∙ sym b))

-- two stations of a pair that are not one are of two sides
pub other_of : (one other : ℕ) → (one ≡ 0) ⊎ (one ≡ 1) → (other ≡ 0) ⊎ (other ≡ 1) → one ≢ other → side_of one ≡ other_side (side_of other)
other_of one other (inl first) (inl second) differs = absurd (differs (first ∙ sym second))
other_of one other (inl first) (inr second) differs = ap side_of first ∙ ap (λ n. other_side (side_of n)) (sym second)
other_of one other (inr first) (inl second) differs = ap side_of first ∙ ap (λ n. other_side (side_of n)) (sym second)
other_of one other (inr first) (inr second) differs = absurd (differs (first ∙ sym second))
