-- An answer that is the message where the octets are genuine, and an error where they are not.
use Rattle.std.proofs.Common.{◌≡◌, ◌≢◌, Bool, true, false, IsTrue, is_ok, leb, ℕ, ◌-◌, ◌<◌, ◌≤◌, ◌⊎◌, ◌↔◌, List, length, drop, Result, Ok, Err, IsOk, IsErr, IsOkAnd, MatchResult, inl, inr, refl, ap, subst, sym, ◌∙◌, arith}
use Rattle.std.specs.Bool.{Decides}
use Rattle.std.proofs.lemmas.Bool.{cases_lt, le-leb, true≢false}
use Rattle.std.proofs.lemmas.Bool.Decides.{Decides-and, leb_tells}
use Rattle.std.proofs.lemmas.Slice.Eq.{bytes_eq-Decides}
use Rattle.arrayvec.specs.ArrayVec.{ArrayVec}
use Rattle.ccm_link.specs.Ccm.{mic, opened_payload, sealed_payload}
use Rattle.ccm_link.specs.Payload.{IsGenuine, is_genuine}
use Rattle.ccm_link.proofs.Sealing.{IsGenuine-sealed_payload, opened_payload-sealed_payload}

is_false : (b : Bool) → (b ≡ true → ⊥) → b ≡ false
is_false true none = absurd (none refl)
is_false false none = refl

leb_decides : (a b : ℕ) → Decides (leb a b) (a ≤ b)
leb_decides a b = (leb-true, le-leb a b)
  where
    leb-true : leb a b ≡ true → a ≤ b
    leb-true e = elim (leb_tells a b) [ inl holds ↦ holds.1 | inr fails ↦ absurd (true≢false (sym e ∙ fails.0)) ]

pub is_genuine-Decides : (key nonce extra octets : List ℕ) → IsTrue (is_genuine key nonce extra octets) ↔ IsGenuine key nonce extra octets
is_genuine-Decides key nonce extra octets =
    let fresh = mic key nonce extra (opened_payload key nonce octets) in
    let both = Decides-and _ _ (leb_decides 5 (length octets)) (bytes_eq-Decides (drop (length octets - 4) octets) fresh) in
    (λ holds. record { long = (both.0 holds).0; mic = (both.0 holds).1 }, λ genuine. both.1 (genuine.long, genuine.mic))

module _ {E : Type 0} (key nonce extra octets : List ℕ) where
  abbrev pub IsAnswer : Result (ArrayVec ℕ) E → Type 0
  IsAnswer r = MatchResult r (λ o. IsGenuine key nonce extra octets × (o.items ≡ opened_payload key nonce octets)) (λ _. ¬ IsGenuine key nonce extra octets)

  pub answers_sealed : (r : Result (ArrayVec ℕ) E) → IsAnswer r → (plain : List ℕ) → 1 ≤ length plain → octets ≡ sealed_payload key nonce extra plain
      → IsOkAnd r (λ o. o.items ≡ plain)
  answers_sealed (Ok o) right plain some is = right.1 ∙ ap (opened_payload key nonce) is ∙ opened_payload-sealed_payload key nonce extra plain
  answers_sealed (Err e) right plain some is =
      absurd (right (subst (λ (x : List ℕ). IsGenuine key nonce extra x) (sym is) (IsGenuine-sealed_payload key nonce extra plain some)))

  pub answers_genuine : (r : Result (ArrayVec ℕ) E) → IsAnswer r → IsOk r ↔ IsGenuine key nonce extra octets
  answers_genuine (Ok o) right = (λ _. right.0, λ _. refl)
  answers_genuine (Err e) right = (λ no. absurd (cc no), λ g. absurd (right g))

  pub answers_forged : (r : Result (ArrayVec ℕ) E) → IsAnswer r
      → IsErr r ↔ ((length octets < 5) ⊎ (drop (length octets - 4) octets ≢ mic key nonce extra (opened_payload key nonce octets)))
  answers_forged (Ok o) right =
      (λ no. absurd (cc no), λ bad. elim bad [ inl short ↦ absurd (omega (arith, right.0.long)) | inr other ↦ absurd (other right.0.mic) ])
  answers_forged (Err e) right = (
    λ _. elim (cases_lt (length octets) 5) [ inl short ↦ inl short | inr long ↦ inr (λ mic. right (record { long = long; mic = mic })) ],
    λ _. refl,
  )

  pub answers_tested : (r : Result (ArrayVec ℕ) E) → IsAnswer r → is_ok r ≡ is_genuine key nonce extra octets
  answers_tested (Ok o) right = sym ((is_genuine-Decides key nonce extra octets).1 right.0)
  answers_tested (Err e) right = sym (is_false (is_genuine key nonce extra octets) (λ holds. right ((is_genuine-Decides key nonce extra octets).0 holds)))
