-- The links that one station began have different access addresses, so the first one that fits a packet is the link of
-- that packet.
use Rattle.std.proofs.Common.{◌≡◌, ◌≢◌, ℕ, zero, suc, ◌+◌, ◌-◌, ◌^◌, ◌<◌, ◌≤◌, ◌==◌, ◌⊎◌, inl, inr, ◌&&◌, Bool, true, false, Option, Some, List, [], ◌∷◌, ◌++◌, take, refl, sym, ap, subst, ◌∙◌, arith}
use Rattle.std.specs.Prelude.{IfSome, slice_get, if◌then◌else◌}
use Rattle.std.specs.Str.{bytes_eq}
use Rattle.std.proofs.Math.Nat.{mod-lt}
use Rattle.std.proofs.lemmas.Bool.{eqb-true}
use Rattle.std.proofs.lemmas.Slice.Eq.{bytes_eq-Decides}
use Rattle.ble_base.specs.declared.addresses.Address.{Address}
use Rattle.ble_base.specs.declared.roles.Side.{Side}
use Rattle.adv_pdu.specs.declared.pdu.AdvPdu.{AdvPdu}
use Rattle.adv_pdu.specs.declared.pdu.AdvPdu.TheVariants.{Connect}
use Rattle.adv_pdu.specs.declared.pdu.ConnectFields.{ConnectFields}
use Rattle.air_frame.specs.Packet.{access_octets}
use Rattle.scan_init.specs.Access.{IsNthAccess, access_at, nth_access}
use Rattle.journal_links.specs.controller_model.Heard.{access_found}
use Rattle.journal_links.specs.controller_model.Packets.{pdu_heard}
use Rattle.journal_links.specs.run_model.Due.{Each}
use Rattle.journal_links.specs.run_model.History.{Event, TurnBegan, HostFed, Called, Noted, Transmitted, turns_begun}
use Rattle.journal_links.specs.run_model.Journal.{side_of}
use Rattle.journal_links.specs.run_model.Links.{begins_link, is_advertising, is_connect_ind}
use Rattle.journal_links.specs.run_model.Run.{Given, setup_at}
use Rattle.journal_links.specs.run_laws.Access.{connects_in, connects_sent}
use Rattle.journal_links.proofs.run_laws.ConnectInds.{TakenInOrder, count_event}
use Rattle.journal_links.proofs.run_laws.DistinctAccess.{AreApart, found_at}
use Rattle.journal_links.proofs.run_laws.OwnLinks.{same_access}
use Rattle.journal_links.specs.Begun.{LinkBegun, begun_by}
use Rattle.journal_packets.specs.Addresses.{AreInOrder}
use Rattle.journal_packets.specs.Belonging.{first_number, fits, is_side}
use Rattle.journal_packets.proofs.SentLinks.{IsOfTwo, is_answered, link_in, links_sent}

-- ---- access addresses

-- each address is one of 32 bits
abbrev pub AreNth : Type 0
AreNth = (cursor number : ℕ) → IfSome (nth_access cursor number) (λ found. IsNthAccess cursor number found.0 found.1)

below_32 : (cursor travel : ℕ) → access_at cursor travel < 2 ^ 32
below_32 cursor travel = mod-lt (cursor + travel) (omega arith)

access_below : AreNth → (cursor number access : ℕ) → access_found (nth_access cursor number) ≡ Some access → access < 2 ^ 32
access_below nth cursor number access is =
    let found = found_at (nth_access cursor number) access is in
    let fact = subst (λ may. IfSome may (λ pair. IsNthAccess cursor number pair.0 pair.1)) found.is (nth cursor number) in
    subst (λ n. n < 2 ^ 32) (sym fact.address) (below_32 cursor (found.after - 1))

differ_before : AreNth → AreApart → (cursor m n a b : ℕ) → m < n → access_found (nth_access cursor m) ≡ Some a → access_found (nth_access cursor n) ≡ Some b
    → access_octets a ≢ access_octets b
differ_before nth apart cursor m n a b less is is_too = λ same.
    let one = found_at (nth_access cursor m) a is in
    let other = found_at (nth_access cursor n) b is_too in
    apart cursor m n a b one.after other.after less one.is other.is
    (same_access a b (access_below nth cursor m a is) (access_below nth cursor n b is_too) same)

-- ---- the links of one side

record IsLater (cursor number access : ℕ) : Type 0 where
  at : ℕ
  from : number ≤ at
  is : access_found (nth_access cursor at) ≡ Some access

later_at : (side : Side) (cursor number place : ℕ) (links : List LinkBegun) (link : LinkBegun) → AreInOrder side cursor number links → slice_get links place ≡ Some link
    → is_side link.central side ≡ true → IsLater cursor number link.fields.access
later_at side cursor number place [] link ordered at own = absurd cc
later_at side cursor number zero (first ∷ links) link ordered at own =
    let same : first ≡ link = cc in
    record {
      at = number;
      from = omega arith;
      is = subst (λ (l : LinkBegun). access_found (nth_access cursor number) ≡ Some l.fields.access) same
          (ordered.0 (subst (λ (l : LinkBegun). is_side l.central side ≡ true) (sym same) own));
    }
later_at side cursor number (suc place) (first ∷ links) link ordered at own =
    let rest = later_at side cursor (number + (if is_side first.central side then 1 else 0)) place links link ordered.1 at own in
    let from = rest.from in
    record { at = rest.at; from = omega (arith, from); is = rest.is }

-- ---- the first link that fits

abbrev begins_with : List ℕ → LinkBegun → Bool
begins_with octets link = bytes_eq (take 4 octets) (access_octets link.fields.access)

no_begin : (octets : List ℕ) (one other : LinkBegun) → take 4 octets ≡ access_octets other.fields.access → access_octets one.fields.access ≢ access_octets other.fields.access
    → begins_with octets one ≡ false
no_begin octets one other begins differ = by (begins_with octets one) refl
  where
    by : (b : Bool) → begins_with octets one ≡ b → b ≡ false
    by true is = absurd (differ (sym ((bytes_eq-Decides (take 4 octets) (access_octets one.fields.access)).0 is) ∙ begins))
    by false is = refl

-- an earlier link does not fit
skips : AreNth → AreApart → (side : Side) (cursor number place : ℕ) (octets : List ℕ) (first link : LinkBegun) (links : List LinkBegun) → AreInOrder side cursor number (first ∷ links)
    → slice_get links place ≡ Some link → is_side link.central side ≡ true → take 4 octets ≡ access_octets link.fields.access → fits side octets first ≡ false
skips nth apart side cursor number place octets first link links ordered at own begins = by (is_side first.central side) refl
  where
    by : (same : Bool) → is_side first.central side ≡ same → (same && begins_with octets first) ≡ false
    by false is = refl
    by true is =
        let rest = later_at side cursor (number + (if is_side first.central side then 1 else 0)) place links link ordered.1 at own in
        let from = subst (λ b. number + (if b then 1 else 0) ≤ rest.at) is rest.from in
        no_begin octets first link begins (differ_before nth apart cursor number rest.at first.fields.access link.fields.access (omega (arith, from)) (ordered.0 is) rest.is)

pub first_is : AreNth → AreApart → (side : Side) (cursor number start place : ℕ) (octets : List ℕ) (links : List LinkBegun) (link : LinkBegun) → AreInOrder side cursor number links
    → slice_get links place ≡ Some link → is_side link.central side ≡ true → take 4 octets ≡ access_octets link.fields.access
    → first_number side octets start links ≡ Some (start + place)
first_is nth apart side cursor number start place octets [] link ordered at own begins = absurd cc
first_is nth apart side cursor number start zero octets (first ∷ links) link ordered at own begins =
    let same : first ≡ link = cc in
    let one : is_side first.central side ≡ true = subst (λ (l : LinkBegun). is_side l.central side ≡ true) (sym same) own in
    let other : begins_with octets first ≡ true = subst (λ (l : LinkBegun). begins_with octets l ≡ true) (sym same)
    ((bytes_eq-Decides (take 4 octets) (access_octets link.fields.access)).1 begins) in
    let none : start ≡ start + 0 = omega arith in
    ap (λ b. if b && begins_with octets first then Some start else first_number side octets (start + 1) links) one
    ∙ ap (λ b. if b then Some start else first_number side octets (start + 1) links) other ∙ ap Some none
first_is nth apart side cursor number start (suc place) octets (first ∷ links) link ordered at own begins =
    let further : start + 1 + place ≡ start + suc place = omega arith in
    ap (λ b. if b then Some start else first_number side octets (start + 1) links) (skips nth apart side cursor number place octets first link links ordered at own begins)
    ∙ first_is nth apart side cursor (number + (if is_side first.central side then 1 else 0)) (start + 1) place octets links link ordered.1 at own begins
    ∙ ap Some further

-- ---- in a history

zero_more : (n : ℕ) → n + 0 ≡ n
zero_more n = omega arith

same_test : (one other : ℕ) → (one ≡ 0) ⊎ (one ≡ 1) → (other ≡ 0) ⊎ (other ≡ 1) → is_side (side_of one) (side_of other) ≡ (other == one)
same_test one other (inl is) (inl is_too) = subst (λ m. is_side (side_of m) (side_of other) ≡ (other == m)) (sym is) (subst (λ n. is_side (side_of 0) (side_of n) ≡ (n == 0)) (sym is_too) refl)
same_test one other (inl is) (inr is_too) = subst (λ m. is_side (side_of m) (side_of other) ≡ (other == m)) (sym is) (subst (λ n. is_side (side_of 0) (side_of n) ≡ (n == 0)) (sym is_too) refl)
same_test one other (inr is) (inl is_too) = subst (λ m. is_side (side_of m) (side_of other) ≡ (other == m)) (sym is) (subst (λ n. is_side (side_of 1) (side_of n) ≡ (n == 1)) (sym is_too) refl)
same_test one other (inr is) (inr is_too) = subst (λ m. is_side (side_of m) (side_of other) ≡ (other == m)) (sym is) (subst (λ n. is_side (side_of 1) (side_of n) ≡ (n == 1)) (sym is_too) refl)

-- a packet, by what is heard in it
packet_ordered : (given : Given) (station sender count slot : ℕ) (offered : Bool) (rest : List LinkBegun) (same : Bool) → is_side (side_of sender) (side_of station) ≡ same
    → (on : Bool) (found : Option AdvPdu)
    → ((from to : Address) (ch_sel : Bool) (fields : ConnectFields) → on ≡ true → found ≡ Some (Connect from to ch_sel fields) → same ≡ true
    → access_found (nth_access (setup_at given station).cursor count) ≡ Some fields.access)
    → AreInOrder (side_of station) (setup_at given station).cursor (count + (if same && (on && is_connect_ind found) then 1 else 0)) rest
    → AreInOrder (side_of station) (setup_at given station).cursor count ((if on then begun_by (side_of sender) slot offered found else []) ++ rest)
packet_ordered given station sender count slot offered rest true is true (Some (Connect from to ch_sel fields)) taken ordered =
    ((λ own. taken from to ch_sel fields refl refl refl), subst (λ b. AreInOrder (side_of station) (setup_at given station).cursor (count + (if b then 1 else 0)) rest) (sym is) ordered)
packet_ordered given station sender count slot offered rest false is true (Some (Connect from to ch_sel fields)) taken ordered = (
  (λ own. absurd (let h : true ≡ false = sym own ∙ is in absurd cc)),
  subst (λ b. AreInOrder (side_of station) (setup_at given station).cursor (count + (if b then 1 else 0)) rest) (sym is) ordered,
)
packet_ordered given station sender count slot offered rest true is true other taken ordered = subst (λ n. AreInOrder (side_of station) (setup_at given station).cursor n rest) (zero_more count) ordered
packet_ordered given station sender count slot offered rest false is true other taken ordered = subst (λ n. AreInOrder (side_of station) (setup_at given station).cursor n rest) (zero_more count) ordered
packet_ordered given station sender count slot offered rest true is false found taken ordered = subst (λ n. AreInOrder (side_of station) (setup_at given station).cursor n rest) (zero_more count) ordered
packet_ordered given station sender count slot offered rest false is false found taken ordered = subst (λ n. AreInOrder (side_of station) (setup_at given station).cursor n rest) (zero_more count) ordered

-- an event
event_ordered : (given : Given) (station : ℕ) → (station ≡ 0) ⊎ (station ≡ 1) → (before : List Event) (event : Event) (rest : List LinkBegun) → IsOfTwo before event
    → TakenInOrder given before event
    → AreInOrder (side_of station) (setup_at given station).cursor (connects_sent station before + connects_in station event) rest
    → AreInOrder (side_of station) (setup_at given station).cursor (connects_sent station before) (link_in before event ++ rest)
unfolding begins_link
event_ordered given station is before (Transmitted sender channel octets hearings) rest sent taken ordered =
    packet_ordered given station sender (connects_sent station before) (turns_begun before - 1) (is_answered sender before) rest (station == sender) (same_test sender station sent.is_one is)
    (is_advertising channel) (pdu_heard channel octets)
    (λ from to ch_sel fields on says same.
    let one = eqb-true station sender same in
    subst (λ n. access_found (nth_access (setup_at given n).cursor (connects_sent n before)) ≡ Some fields.access) (sym one) (taken from to ch_sel fields on says))
    ordered
event_ordered given station is before (TurnBegan slot radios) rest sent taken ordered =
    subst (λ n. AreInOrder (side_of station) (setup_at given station).cursor n rest) (zero_more (connects_sent station before)) ordered
event_ordered given station is before (HostFed other octets) rest sent taken ordered =
    subst (λ n. AreInOrder (side_of station) (setup_at given station).cursor n rest) (zero_more (connects_sent station before)) ordered
event_ordered given station is before (Called other step) rest sent taken ordered =
    subst (λ n. AreInOrder (side_of station) (setup_at given station).cursor n rest) (zero_more (connects_sent station before)) ordered
event_ordered given station is before (Noted other note) rest sent taken ordered =
    subst (λ n. AreInOrder (side_of station) (setup_at given station).cursor n rest) (zero_more (connects_sent station before)) ordered

pub sent_ordered : (given : Given) (station : ℕ) → (station ≡ 0) ⊎ (station ≡ 1) → (before events : List Event) → Each IsOfTwo before events
    → Each (TakenInOrder given) before events
    → AreInOrder (side_of station) (setup_at given station).cursor (connects_sent station before) (links_sent before events)
sent_ordered given station is before [] sent taken = tt
sent_ordered given station is before (event ∷ events) sent taken =
    event_ordered given station is before event (links_sent (before ++ event ∷ []) events) sent.0 taken.0
    (subst (λ n. AreInOrder (side_of station) (setup_at given station).cursor n (links_sent (before ++ event ∷ []) events)) (count_event station before event)
    (sent_ordered given station is (before ++ event ∷ []) events sent.1 taken.1))
