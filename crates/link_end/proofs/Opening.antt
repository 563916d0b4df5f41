-- The octets of a PDU as they are opened: its header stays, and a body that is right has an octet.
use Rattle.std.proofs.Common.{◌≡◌, ℕ, zero, suc, ◌+◌, ◌-◌, ◌≤◌, ◌==◌, nat_le, Bool, true, false, not, ◌&&◌, ◌||◌, if◌then◌else◌, List, [], ◌∷◌, ◌++◌, length, take, drop, refl, sym, ◌∙◌, arith}
use Rattle.std.proofs.lemmas.Bool.{and_parts, ne_eqb}
use Rattle.std.proofs.lemmas.Bool.Decides.{nat_tests}
use Rattle.std.proofs.lemmas.List.{length-take-le}
use Rattle.ccm_link.specs.Ccm.{opened_payload}
use Rattle.ccm_link.proofs.Sealing.{length-ciphertext}
use Rattle.data_pdu.specs.Header.{header_in}
use Rattle.link_model.specs.phased_end.enc_phase.Phases.{is_central, opens}
use Rattle.link_model.specs.phased_end.enc_phase.Sealing.{EncEnd, is_right, opened_body}
use Rattle.ccm_link.specs.Payload.{additional_data, is_genuine, nonce}

-- ---- the header

pub header_opened : (pdu body : List ℕ) → 1 ≤ length (drop 2 pdu) → header_in (take 2 pdu ++ body) ≡ header_in pdu
header_opened [] body some = absurd (omega (arith, some))
header_opened (x ∷ []) body some = absurd (omega (arith, some))
header_opened (x ∷ y ∷ payload) body some = refl

pub body_opened : (pdu body : List ℕ) → 1 ≤ length (drop 2 pdu) → drop 2 (take 2 pdu ++ body) ≡ body
body_opened [] body some = absurd (omega (arith, some))
body_opened (x ∷ []) body some = absurd (omega (arith, some))
body_opened (x ∷ y ∷ payload) body some = refl

-- ---- the body

-- a PDU that counts has octets
pub some_octets : (fresh reserved : Bool) (count : ℕ) → (fresh && not (reserved || count == 0)) ≡ true → 1 ≤ count
some_octets true false zero is = absurd cc
some_octets true true zero is = absurd cc
some_octets false reserved zero is = absurd cc
some_octets fresh reserved (suc count) is = omega arith

none_zero : (count : ℕ) → 1 ≤ count → (count == 0) ≡ false
none_zero count some = ne_eqb count 0 (λ same. omega (arith, some, same))

some_opened : (key nonce payload : List ℕ) → 5 ≤ length payload → 1 ≤ length (opened_payload key nonce payload)
unfolding opened_payload
some_opened key nonce payload long =
    omega (arith, long, length-ciphertext key nonce (take (length payload - 4) payload), length-take-le (length payload - 4) payload (omega arith))

genuine_long : (key nonce extra payload : List ℕ) → is_genuine key nonce extra payload ≡ true → 5 ≤ length payload
genuine_long key nonce extra payload is =
    let long : nat_le 5 (length payload) ≡ true = (and_parts _ _ is).0 in
    grind (arith, nat_tests)

-- what is right is not empty
pub some_right : (end : EncEnd) (header : ℕ) (payload : List ℕ) → 1 ≤ length payload → is_right end header payload ≡ true
    → 1 ≤ length (opened_body end payload)
some_right end header payload some is = by (opens end.role end.phase) is
  where
    by : (b : Bool)
        → (if b then is_genuine end.key (nonce end.opened (not (is_central end.role)) end.iv) (additional_data header) payload else true) ≡ true
        → 1 ≤ length (if b then opened_payload end.key (nonce end.opened (not (is_central end.role)) end.iv) payload else payload)
    by true genuine = some_opened end.key _ payload (genuine_long end.key _ _ payload genuine)
    by false genuine = some

-- so the test whether it is empty is the same before it is opened
pub zero_same : (one other : ℕ) → 1 ≤ one → 1 ≤ other → (one == 0) ≡ (other == 0)
zero_same one other some also = none_zero one some ∙ sym (none_zero other also)
