-- What is heard, by its definition.
use Rattle.std.proofs.Common.{◌≡◌, ◌≢◌, ℕ, Bool, true, false, List, take, refl, ap, ◌∙◌}
use Rattle.std.specs.Bool.{Decides}
use Rattle.std.specs.Str.{bytes_eq}
use Rattle.std.proofs.lemmas.Bool.Decides.{Decides-and}
use Rattle.std.proofs.lemmas.Slice.Eq.{bytes_eq-Decides}
use Rattle.air_frame.specs.declared.Heard.{Heard}
use Rattle.air_frame.specs.declared.Heard.TheVariants.{NotOurs, Broken, Whole}
use Rattle.air_frame.specs.Hearing.{heard_in}
use Rattle.air_frame.specs.Packet.{access_octets, is_packet, on_air, pdu_in, IsPdu}
use Rattle.air_frame.proofs.Bodies.{Answers, NoPdu}

-- the PDU in the packet of a PDU is that PDU
abbrev pub GivesPdu : Type 0
GivesPdu = (channel access init : ℕ) (pdu : List ℕ) → pdu_in channel (on_air channel access init pdu) ≡ pdu

is_packet-Decides : (channel access init : ℕ) (octets : List ℕ)
    → Decides (is_packet channel access init octets) (IsPdu (pdu_in channel octets) × (octets ≡ on_air channel access init (pdu_in channel octets)))
is_packet-Decides channel access init octets =
    Decides-and _ _ ((λ holds. holds), (λ holds. holds)) (bytes_eq-Decides octets (on_air channel access init (pdu_in channel octets)))

not_true : (r : Bool) → (r ≡ true → ⊥) → r ≡ false
not_true true fails = absurd (fails refl)
not_true false fails = refl

begins : (access : ℕ) (octets : List ℕ) → take 4 octets ≡ access_octets access → bytes_eq (take 4 octets) (access_octets access) ≡ true
begins access octets = (bytes_eq-Decides (take 4 octets) (access_octets access)).1

is_not_ours : (channel access init : ℕ) (octets : List ℕ) → take 4 octets ≢ access_octets access → NotOurs ≡ heard_in channel access init octets
unfolding heard_in
is_not_ours channel access init octets other =
    let front : bytes_eq (take 4 octets) (access_octets access) ≡ false =
    not_true _ (λ same. other ((bytes_eq-Decides (take 4 octets) (access_octets access)).0 same)) in
    rw front refl

is_broken : (channel access init : ℕ) (octets : List ℕ) → take 4 octets ≡ access_octets access → NoPdu (on_air channel access init) octets
    → Broken ≡ heard_in channel access init octets
unfolding heard_in
is_broken channel access init octets front none =
    let broken : is_packet channel access init octets ≡ false =
    not_true _ (λ holds. let is = (is_packet-Decides channel access init octets).0 holds in none (pdu_in channel octets) is.0 is.1) in
    rw (begins access octets front, broken) refl

pub is_whole : (channel access init : ℕ) (octets pdu : List ℕ) → GivesPdu → IsPdu pdu → octets ≡ on_air channel access init pdu
    → Whole (record { items = pdu }) ≡ heard_in channel access init octets
unfolding heard_in
is_whole channel access init octets pdu gives form is =
    let inside : pdu_in channel octets ≡ pdu = ap (pdu_in channel) is ∙ gives channel access init pdu in
    let packet : is_packet channel access init octets ≡ true =
    (is_packet-Decides channel access init octets).1 (rw inside (form, is)) in
    rw (begins access octets (ap (take 4) is), packet, inside) refl

-- each answer of a listener is the one by the definition
pub answer_is : (channel access init : ℕ) (octets : List ℕ) (r : Heard) → GivesPdu → Answers channel access init octets r → r ≡ heard_in channel access init octets
answer_is channel access init octets NotOurs gives h = is_not_ours channel access init octets h
answer_is channel access init octets Broken gives h = is_broken channel access init octets h.0 h.1
answer_is channel access init octets (Whole pdu) gives h = is_whole channel access init octets pdu.items gives h.0 h.1
