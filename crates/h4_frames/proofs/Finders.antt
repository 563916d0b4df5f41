-- The packet with which octets begin, after one octet more.
use Rattle.std.proofs.Common.{◌≡◌, ℕ, suc, ◌+◌, ◌<◌, ◌≤◌, Bool, true, false, ◌&&◌, cond, eqb, leb, List, [], ◌∷◌, ◌++◌, length, take, Option, Some, None, refl, arith}
use Rattle.std.specs.Prelude.{nat_eq}
use Rattle.std.specs.List.{starts_with}
use Rattle.std.proofs.lemmas.Bool.{leb-true, leb-false, le-leb}
use Rattle.std.proofs.lemmas.List.{take-append-le, length_push}
use Rattle.ble_base.specs.declared.limits.TheConstants.{PAYLOAD_OCTETS}
use Rattle.h4_frames.specs.declared.packet.HostPacket.{HostPacket}
use Rattle.h4_frames.specs.declared.packet.HostPacket.TheVariants.{Command, Acl}
use Rattle.h4_frames.specs.Packets.{word_of, handle_of, is_start, SizedPacket, first_command, first_acl, first_packet}
use Rattle.h4_frames.specs.Frames.{reset, reset_octets, one_later, first_reset}

-- the packets found in n octets and in one octet more
pub data Goes : ℕ → Option SizedPacket → Option SizedPacket → Type 0 where
  -- what was found stays
  stays : {n : ℕ} (found : SizedPacket) → 0 < found.size → found.size ≤ n → Goes n (Some found) (Some found)
  -- what is new takes all
  ends : {n : ℕ} (found : SizedPacket) → found.size ≡ n + 1 → Goes n None (Some found)
  lacks : {n : ℕ} → Goes n None None

goes_tests : {n : ℕ} (b d : Bool) (f g : SizedPacket) → (b ≡ true → (0 < f.size) × (f.size ≤ n) × (d ≡ true) × (g ≡ f))
    → (b ≡ false → d ≡ true → g.size ≡ n + 1) → Goes n (cond b (Some f) None) (cond d (Some g) None)
goes_tests {n} true true f g stay end = rw (stay refl).3 (stays f (stay refl).0 (stay refl).1)
goes_tests true false f g stay end = let same : ◌≡◌ {A = Bool} false true = (stay refl).2 in absurd (cc same)
goes_tests false true f g stay end = ends g (end refl refl)
goes_tests false false f g stay end = lacks

goes_new : {n : ℕ} (d : Bool) (g : SizedPacket) → (d ≡ true → g.size ≡ n + 1) → Goes n None (cond d (Some g) None)
goes_new true g end = ends g (end refl)
goes_new false g end = lacks

goes_cond : {n : ℕ} (b : Bool) {f g f' g' : Option SizedPacket} → Goes n f f' → Goes n g g' → Goes n (cond b f g) (cond b f' g')
goes_cond true p q = p
goes_cond false p q = q

goes_later : {n : ℕ} {f g : Option SizedPacket} → Goes n f g → Goes (suc n) (one_later f) (one_later g)
goes_later (stays found positive within) = stays _ (omega arith) (omega arith)
goes_later (ends found all) = ends _ (omega arith)
goes_later lacks = lacks

-- a body of `count` octets after a head
abbrev whole : ℕ → ℕ → (List ℕ → HostPacket) → List ℕ → SizedPacket
whole head count packet octets = record { size = head + count; packet = packet (take count octets) }

goes_body : (n head count : ℕ) (packet : List ℕ → HostPacket) (octets : List ℕ) (octet : ℕ) → 0 < head → n ≡ head + length octets
    → Goes n (cond (leb count (length octets)) (Some (whole head count packet octets)) None)
    (cond (leb count (length (octets ++ octet ∷ []))) (Some (whole head count packet (octets ++ octet ∷ []))) None)
goes_body n head count packet octets octet positive all =
    goes_tests (leb count (length octets)) (leb count (length (octets ++ octet ∷ []))) (whole head count packet octets)
    (whole head count packet (octets ++ octet ∷ []))
    (λ fits. let short : count ≤ length octets = leb-true _ _ fits in (
      omega arith,
      omega arith,
      le-leb _ _ (omega (arith, length_push octets octet)),
      rw take-append-le,
    ))
    (λ no yes. omega (arith, leb-false _ _ no, leb-true _ _ yes, length_push octets octet))

goes_command : (octets : List ℕ) (octet : ℕ) → Goes (suc (length octets)) (first_command octets) (first_command (octets ++ octet ∷ []))
goes_command [] octet = lacks
goes_command (a ∷ []) octet = lacks
goes_command (a ∷ b ∷ []) octet = goes_new (leb octet 0) _ (λ fits. omega (arith, leb-true octet 0 fits))
goes_command (a ∷ b ∷ c ∷ octets) octet =
    goes_body _ 4 c (λ body. Command (word_of a b) (record { items = body })) octets octet (omega arith) (omega arith)

goes_acl : (octets : List ℕ) (octet : ℕ) → Goes (suc (length octets)) (first_acl octets) (first_acl (octets ++ octet ∷ []))
goes_acl [] octet = lacks
goes_acl (a ∷ []) octet = lacks
goes_acl (a ∷ b ∷ []) octet = lacks
goes_acl (a ∷ b ∷ c ∷ []) octet = goes_new (leb (word_of c octet) 0) _ (λ fits. omega (arith, leb-true (word_of c octet) 0 fits))
goes_acl (a ∷ b ∷ c ∷ d ∷ octets) octet =
    goes_body _ 5 (word_of c d)
    (λ body. Acl (handle_of (word_of a b)) (is_start (word_of a b)) (word_of c d) (record { items = take PAYLOAD_OCTETS body }))
    octets octet (omega arith) (omega arith)

neither : (b : Bool) → ◌≡◌ {A = Option SizedPacket} (cond b None None) None
neither true = refl
neither false = refl

-- one octet is no packet
pub first-one : (octet : ℕ) → first_packet (octet ∷ []) ≡ None
first-one octet = neither (eqb octet 1)

pub goes_packet : (octets : List ℕ) (octet : ℕ) → Goes (length octets) (first_packet octets) (first_packet (octets ++ octet ∷ []))
goes_packet [] octet = rw first-one lacks
goes_packet (indicator ∷ octets) octet = goes_cond (eqb indicator 1) (goes_command octets octet) (goes_acl octets octet)

abbrev found_reset : SizedPacket
found_reset = record { size = 4; packet = reset }

and_false : (b : Bool) → b && false ≡ false
and_false true = refl
and_false false = refl

pub goes_reset : (octets : List ℕ) (octet : ℕ) → Goes (length octets) (first_reset octets) (first_reset (octets ++ octet ∷ []))
goes_reset [] octet = simp and_false lacks
goes_reset (a ∷ []) octet = simp and_false lacks
goes_reset (a ∷ b ∷ []) octet = simp and_false lacks
goes_reset (a ∷ b ∷ c ∷ []) octet =
    simp and_false (goes_new (starts_with nat_eq (a ∷ b ∷ c ∷ octet ∷ []) reset_octets) found_reset (λ _. refl))
goes_reset (a ∷ b ∷ c ∷ d ∷ octets) octet =
    goes_cond (starts_with nat_eq (a ∷ b ∷ c ∷ d ∷ []) reset_octets) (stays found_reset (omega arith) (omega arith))
    (goes_later (goes_reset (b ∷ c ∷ d ∷ octets) octet))
