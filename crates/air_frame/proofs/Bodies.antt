-- PDUs with their CRC, whitened, and after an access address.
use Rattle.std.proofs.Common.{◌≡◌, ◌≢◌, ◌↔◌, ℕ, ◌+◌, ◌-◌, Bool, false, IsTrue, List, ◌++◌, length, take, drop, refl, ap, sym, subst, ◌∙◌, arith}
use Rattle.std.proofs.lemmas.Bool.{false≢true}
use Rattle.std.proofs.lemmas.List.{append_cancel_left, drop_at, length-append, take_at}
use Rattle.frame_bits.specs.Crc.{crc, crc_octets}
use Rattle.frame_bits.specs.Whitening.{whitening_of}
use Rattle.air_frame.specs.declared.Heard.{Heard}
use Rattle.air_frame.specs.declared.Heard.TheVariants.{NotOurs, Broken, Whole}
use Rattle.air_frame.specs.Hearing.{IsWhole, MatchHeard}
use Rattle.air_frame.specs.Packet.{access_octets, on_air, pdu_in, with_crc, IsPdu}

pub refuted : (b : Bool) (P : Type 0) → (IsTrue b ↔ P) → b ≡ false → P → ⊥
refuted b P iff fails p = false≢true (sym fails ∙ iff.1 p)

length-crc_octets : (sum : ℕ) → length (crc_octets sum) ≡ 3
unfolding crc_octets
length-crc_octets sum = refl

pub length-with_crc : (init : ℕ) (pdu : List ℕ) → length (with_crc init pdu) ≡ length pdu + 3
length-with_crc init pdu =
    length-append pdu (crc_octets (crc init pdu)) ∙ ap (λ n. length pdu + n) (length-crc_octets (crc init pdu))

front_length : (init : ℕ) (octets pdu : List ℕ) → octets ≡ with_crc init pdu → length octets - 3 ≡ length pdu
front_length init octets pdu e = omega (arith, ap length e, length-with_crc init pdu)

pub pdu_of : (init : ℕ) (octets pdu : List ℕ) → octets ≡ with_crc init pdu → take (length octets - 3) octets ≡ pdu
pdu_of init octets pdu e =
    (λ i. take (front_length init octets pdu e i) (e i)) ∙ take_at pdu (crc_octets (crc init pdu)) (length pdu) refl

pub sum_of : (init : ℕ) (octets pdu : List ℕ) → octets ≡ with_crc init pdu → drop (length octets - 3) octets ≡ crc_octets (crc init pdu)
sum_of init octets pdu e =
    (λ i. drop (front_length init octets pdu e i) (e i)) ∙ drop_at pdu (crc_octets (crc init pdu)) (length pdu) refl

-- no PDU makes these octets
abbrev pub NoPdu : (List ℕ → List ℕ) → List ℕ → Type 0
NoPdu made octets = (pdu : List ℕ) → IsPdu pdu → octets ≢ made pdu

-- what is whitened twice is as it was
abbrev pub TurnsBack : Type 0
TurnsBack = (channel : ℕ) (octets : List ℕ) → whitening_of channel (whitening_of channel octets) ≡ octets

pub undone : (channel init : ℕ) (octets body : List ℕ) → TurnsBack → body ≡ whitening_of channel octets → (r : Heard)
    → MatchHeard r ⊥ (NoPdu (with_crc init) body) (λ pdu. IsPdu pdu × (body ≡ with_crc init pdu))
    → MatchHeard r ⊥ (NoPdu (λ pdu. whitening_of channel (with_crc init pdu)) octets) (λ pdu. IsPdu pdu × (octets ≡ whitening_of channel (with_crc init pdu)))
undone channel init octets body twice is NotOurs h = h
undone channel init octets body twice is Broken h =
    λ pdu form e. h pdu form (is ∙ ap (whitening_of channel) e ∙ twice channel (with_crc init pdu))
undone channel init octets body twice is (Whole pdu) h =
    (h.0, sym (twice channel octets) ∙ ap (whitening_of channel) (sym is ∙ h.1))

-- octets that are an access address and more begin with that address
front_of : (access : ℕ) (octets body : List ℕ) → octets ≡ access_octets access ++ body → take 4 octets ≡ access_octets access
front_of access octets body e = ap (take 4) e

-- ---- each answer, both ways

pub same_pdu : (channel access init : ℕ) (p q : List ℕ) → TurnsBack → on_air channel access init p ≡ on_air channel access init q → p ≡ q
same_pdu channel access init p q twice e =
    let same : with_crc init p ≡ with_crc init q =
    sym (twice channel (with_crc init p))
    ∙ ap (whitening_of channel) (append_cancel_left (access_octets access) (whitening_of channel (with_crc init p)) (whitening_of channel (with_crc init q)) e)
    ∙ twice channel (with_crc init q) in
    sym (pdu_of init (with_crc init p) p refl) ∙ pdu_of init (with_crc init p) q same

-- the PDU in the packet of a PDU
pub found_again : (channel access init : ℕ) (pdu : List ℕ) → TurnsBack → length (on_air channel access init pdu) ≡ length pdu + 7 → pdu_in channel (on_air channel access init pdu) ≡ pdu
found_again channel access init pdu twice len =
    let count : length (on_air channel access init pdu) - 7 ≡ length pdu = omega (arith, len) in
    (λ i. take (count i) (twice channel (with_crc init pdu) i)) ∙ take_at pdu (crc_octets (crc init pdu)) (length pdu) refl

-- the fact for each answer of a listener
abbrev pub Answers : ℕ → ℕ → ℕ → List ℕ → Heard → Type 0
Answers channel access init octets r = MatchHeard r (take 4 octets ≢ access_octets access)
    ((take 4 octets ≡ access_octets access) × NoPdu (on_air channel access init) octets)
    (λ pdu. IsPdu pdu × (octets ≡ on_air channel access init pdu))

pub whole_is : (channel access init : ℕ) (octets : List ℕ) (r : Heard) → TurnsBack → Answers channel access init octets r
    → (pdu : List ℕ) → IsWhole r pdu ↔ (IsPdu pdu × (octets ≡ on_air channel access init pdu))
whole_is channel access init octets NotOurs twice h pdu =
    (λ none. absurd none, λ is. absurd (h (front_of access octets (whitening_of channel (with_crc init pdu)) is.1)))
whole_is channel access init octets Broken twice h pdu = (λ none. absurd none, λ is. absurd (h.1 pdu is.0 is.1))
whole_is channel access init octets (Whole found) twice h pdu = (
  λ e. (subst IsPdu e h.0, h.1 ∙ ap (on_air channel access init) e),
  λ is. same_pdu channel access init found.items pdu twice (sym h.1 ∙ is.1),
)
