-- Of what a side makes a new link, by its lines: with its next access address, under its least free handle, and with its next
-- random word.
use Rattle.std.proofs.Common.{◌≡◌, ℕ, zero, suc, ◌+◌, ◌≤◌, ◌==◌, ◌⊎◌, inl, inr, Bool, true, false, cond, Option, Some, None, List, [], ◌∷◌, ◌++◌, length, refl, sym, ap, ◌∙◌, arith}
use Rattle.std.specs.Prelude.{◌%◌, ◌/◌, ◌^◌, ◌&&◌, filter, fold, is_none, if◌then◌else◌}
use Rattle.std.proofs.lemmas.List.{length-append}
use Rattle.std.proofs.lemmas.List.Elements.{filter-append}
use Rattle.adv_pdu.specs.declared.pdu.AdvPdu.{AdvPdu}
use Rattle.adv_pdu.specs.declared.pdu.AdvPdu.TheVariants.{Connect}
use Rattle.adv_pdu.specs.declared.pdu.ConnectFields.{ConnectFields}
use Rattle.ble_base.specs.declared.roles.Side.{Side}
use Rattle.scan_init.specs.Initiating.{connect_fields}
use Rattle.journal_events.specs.journal_sending.controller_model.Packets.{pdu_heard}
use Rattle.journal_events.specs.journal_sending.journal_data.HostLines.{OpenUnder, link_under}
use Rattle.journal_events.specs.journal_sending.journal_data.open_links.OpenLinks.{Links, OpenLink, free_from, link_from}
use Rattle.journal_events.specs.journal_sending.journal_links.Begun.{LinkBegun, begun_by, links_begun}
use Rattle.journal_events.specs.journal_sending.journal_packets.Belonging.{is_side}
use Rattle.journal_events.specs.journal_sending.run_model.Due.{Each}
use Rattle.journal_events.specs.journal_sending.run_model.History.{Event, TurnBegan, HostFed, Called, Noted, Transmitted}
use Rattle.journal_events.specs.journal_sending.run_model.Journal.{journal_of, side_of}
use Rattle.journal_events.specs.journal_sending.run_model.Links.{begins_link, is_advertising, is_connect_ind}
use Rattle.journal_events.proofs.journal_sending.journal_data.open_links.Handles.{here, later}
use Rattle.journal_events.proofs.journal_sending.journal_packets.SentLinks.{IsOfTwo, begun_are_sent, is_answered, link_in, links_sent}
use Rattle.journal_events.specs.journal_sending.journal_packets.run_laws.Access.{connects_in, connects_sent}

-- ---- the links that a side began

abbrev pub own_links : Side → List LinkBegun → ℕ
own_links side links = length (filter (λ (link : LinkBegun). is_side link.central side) links)

own_more : (side : Side) (links more : List LinkBegun) → own_links side (links ++ more) ≡ own_links side links + own_links side more
own_more side links more =
    ap (λ (all : List LinkBegun). length all) (filter-append (λ (link : LinkBegun). is_side link.central side) links more)
    ∙ length-append (filter (λ (link : LinkBegun). is_side link.central side) links) (filter (λ (link : LinkBegun). is_side link.central side) more)

count_one : (own : Bool) (link : LinkBegun) → ◌≡◌ {A = ℕ} (length (cond own (link ∷ []) [])) (if own && true then 1 else 0)
count_one true link = refl
count_one false link = refl

none_own : (own : Bool) → ◌≡◌ {A = ℕ} 0 (if own && false then 1 else 0)
none_own true = refl
none_own false = refl

begun_own : (on : Bool) (side sender : Side) (slot : ℕ) (offered : Bool) (found : Option AdvPdu)
    → ◌≡◌ {A = ℕ} (own_links side (if on then begun_by sender slot offered found else [])) (if is_side sender side && (on && is_connect_ind found) then 1 else 0)
begun_own false side sender slot offered found = none_own (is_side sender side)
begun_own true side sender slot offered None = none_own (is_side sender side)
begun_own true side sender slot offered (Some (Connect from to ch_sel fields)) = count_one (is_side sender side) _
begun_own true side sender slot offered (Some other) = none_own (is_side sender side)

pub sides_are : (station sender : ℕ) → (station ≡ 0) ⊎ (station ≡ 1) → (sender ≡ 0) ⊎ (sender ≡ 1) → is_side (side_of sender) (side_of station) ≡ (station == sender)
sides_are station sender (inl a) (inl b) = (λ i. is_side (side_of (b i)) (side_of (a i))) ∙ sym (λ i. a i == b i)
sides_are station sender (inl a) (inr b) = (λ i. is_side (side_of (b i)) (side_of (a i))) ∙ sym (λ i. a i == b i)
sides_are station sender (inr a) (inl b) = (λ i. is_side (side_of (b i)) (side_of (a i))) ∙ sym (λ i. a i == b i)
sides_are station sender (inr a) (inr b) = (λ i. is_side (side_of (b i)) (side_of (a i))) ∙ sym (λ i. a i == b i)

module _ (station : ℕ) (one : (station ≡ 0) ⊎ (station ≡ 1)) where
  event_own : (before : List Event) (event : Event) → IsOfTwo before event → own_links (side_of station) (link_in before event) ≡ connects_in station event
  unfolding begins_link
  event_own before (Transmitted sender channel octets hearings) two =
      begun_own (is_advertising channel) (side_of station) (side_of sender) _ (is_answered sender before) (pdu_heard channel octets)
      ∙ ap (λ own. if own && (is_advertising channel && is_connect_ind (pdu_heard channel octets)) then 1 else 0) (sides_are station sender one two.is_one)
  event_own before (TurnBegan slot radios) two = refl
  event_own before (HostFed other octets) two = refl
  event_own before (Called other step) two = refl
  event_own before (Noted other note) two = refl

  events_own : (before events : List Event) (count : ℕ) → Each IsOfTwo before events
      → fold (λ sent event. sent + connects_in station event) count events ≡ count + own_links (side_of station) (links_sent before events)
  events_own before [] count each = omega arith
  events_own before (event ∷ events) count each =
      let rest = events_own (before ++ event ∷ []) events (count + connects_in station event) each.1 in
      let first = event_own before event each.0 in
      let both = own_more (side_of station) (link_in before event) (links_sent (before ++ event ∷ []) events) in
      omega (arith, rest, first, both)

  -- as many as the CONNECT_INDs that it sent
  pub own_begun : (history : List Event) → Each IsOfTwo [] history → own_links (side_of station) (links_begun (journal_of history)) ≡ connects_sent station history
  unfolding connects_sent
  own_begun history each =
      ap (own_links (side_of station)) (begun_are_sent history each)
      ∙ (let all = events_own [] history 0 each in omega (arith, all))

-- ---- the least free handle

-- a search among this number of handles from one on, by the lines, finds what the controller finds among its places
module _ (free : ℕ → ℕ → List OpenUnder → Option ℕ) (none : (handle : ℕ) (links : List OpenUnder) → free zero handle links ≡ None)
    (next : (left handle : ℕ) (links : List OpenUnder)
    → free (suc left) handle links ≡ (if is_none (link_under handle links) then Some handle else free left (handle + 1) links)) where
  pub free_is : (first : ℕ) (places : Links) (links : List OpenUnder)
      → ((handle : ℕ) → first ≤ handle → is_none (link_under handle links) ≡ is_none (link_from first handle places))
      → free (length places) first links ≡ free_from first places
  free_is first [] links same = none first links
  free_is first (place ∷ places) links same =
      next (length places) first links
      ∙ ap (λ b. if b then Some first else free (length places) (first + 1) links) (same first (omega arith) ∙ ap (λ (p : Option OpenLink). is_none p) (here first place places))
      ∙ by place (free_is (first + 1) places links
      (λ handle from. same handle (omega (arith, from)) ∙ ap (λ (p : Option OpenLink). is_none p) (later first handle place places (omega (arith, from)))))
    where
      by : (one : Option OpenLink) → free (length places) (first + 1) links ≡ free_from (first + 1) places
          → (if is_none one then Some first else free (length places) (first + 1) links) ≡ free_from first (one ∷ places)
      by None rest = refl
      by (Some link) rest = rest

-- ---- the random word

-- the fields of a CONNECT_IND come of its low 64 bits
pub word_is : (link : ConnectFields) (access word map : ℕ) → connect_fields link access (word % 2 ^ 64) map ≡ connect_fields link access word map
word_is link access word map =
    let low : word % 18446744073709551616 % 16777216 ≡ word % 16777216 = omega arith in
    let high : word % 18446744073709551616 / 16777216 % 256 ≡ word / 16777216 % 256 = omega arith in
    λ i. record link { access = access; crc_init = low i; map = map; hop = 5 + high i % 12 }
