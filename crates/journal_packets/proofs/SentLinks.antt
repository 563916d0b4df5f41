-- The links of a journal of two stations, read off its history: one for each CONNECT_IND on the air.
use Rattle.std.proofs.Common.{◌≡◌, ℕ, ◌+◌, ◌-◌, ◌⊎◌, ◌&&◌, Bool, true, false, Option, Some, None, List, [], ◌∷◌, ◌++◌, length, refl, sym, ap, ◌∙◌, append-nil, append_assoc, arith}
use Rattle.std.specs.Prelude.{fold, slice_get, if◌then◌else◌}
use Rattle.std.proofs.lemmas.List.{length-append}
use Rattle.ble_base.specs.Side.{other_side}
use Rattle.ble_base.specs.declared.addresses.Address.{Address}
use Rattle.ble_base.specs.declared.notes.Note.{Note}
use Rattle.ble_base.specs.declared.notes.Note.TheVariants.{Up}
use Rattle.ble_base.specs.declared.roles.Side.{Side}
use Rattle.adv_pdu.specs.declared.pdu.AdvPdu.{AdvPdu}
use Rattle.adv_pdu.specs.declared.pdu.AdvPdu.TheVariants.{Connect}
use Rattle.adv_pdu.specs.declared.pdu.ConnectFields.{ConnectFields}
use Rattle.journal.specs.declared.entries.Entry.{Entry}
use Rattle.journal.specs.declared.entries.Entry.TheVariants.{Air}
use Rattle.journal_links.specs.controller_model.Packets.{pdu_heard}
use Rattle.journal_links.specs.run_model.Due.{Each}
use Rattle.journal_links.specs.run_model.History.{Event, TurnBegan, HostFed, Called, Noted, Transmitted, Hearing, turns_begun}
use Rattle.journal_links.specs.run_model.Journal.{entries_of, journal_from, journal_of, mark_of, side_of}
use Rattle.journal_links.specs.run_model.Links.{Links, begins_link, first_links, is_advertising, is_connect_ind, links_after, links_of, with_link}
use Rattle.journal_links.proofs.run_model.Fates.{turns_are}
use Rattle.journal_links.proofs.run_model.LinksKnown.{links_event}
use Rattle.journal_links.proofs.run_model.Parts.{journal_event}
use Rattle.journal_links.specs.Begun.{LinkBegun, begun_by, begun_in, is_offered, links_begun, links_from, offers_in}
use Rattle.journal_links.proofs.LinksBegun.{get_next, note_begins}

-- a packet is one of two stations, and the other one has judged it
pub record IsHeardOnce (station : ℕ) (hearings : List Hearing) : Type 0 where
  pub is_one : (station ≡ 0) ⊎ (station ≡ 1)
  pub once : length hearings ≡ 1

abbrev pub IsOfTwo : List Event → Event → Type 0
IsOfTwo before (Transmitted station channel octets hearings) = IsHeardOnce station hearings
IsOfTwo before (TurnBegan slot radios) = Unit {0}
IsOfTwo before (HostFed station octets) = Unit {0}
IsOfTwo before (Called station step) = Unit {0}
IsOfTwo before (Noted station note) = Unit {0}

-- the advertisement that a CONNECT_IND of a station answers, which comes after these events, offers channel selection
-- algorithm #2
abbrev pub is_answered : ℕ → List Event → Bool
is_answered station before = is_offered (offers_in (other_side (side_of station)) (journal_of before))

-- the link that an event begins, which comes after these events
abbrev pub link_in : List Event → Event → List LinkBegun
link_in before (Transmitted station channel octets hearings) =
    if is_advertising channel then begun_by (side_of station) (turns_begun before - 1) (is_answered station before) (pdu_heard channel octets) else []
link_in before (TurnBegan slot radios) = []
link_in before (HostFed station octets) = []
link_in before (Called station step) = []
link_in before (Noted station note) = []

abbrev pub links_sent : List Event → List Event → List LinkBegun
links_sent before [] = []
links_sent before (event ∷ events) = link_in before event ++ links_sent (before ++ event ∷ []) events

-- ---- the journal has the same links

zero_more : (n : ℕ) → n + 0 ≡ n
zero_more n = omega arith

-- one entry, and the link that it begins
one_entry : (front : List Entry) (entry : Entry) (rest : List Entry) (begun : List LinkBegun) → begun_in front entry ≡ begun
    → links_from front (entry ∷ rest) ≡ begun ++ links_from (front ++ entry ∷ []) rest
one_entry front entry rest begun is = ap (λ xs. xs ++ links_from (front ++ entry ∷ []) rest) is

entry_links : (before : List Event) (event : Event) → IsOfTwo [] event → (rest : List Entry)
    → links_from (journal_of before) (entries_of (links_of before) event ++ rest)
    ≡ link_in before event ++ links_from (journal_of before ++ entries_of (links_of before) event) rest
entry_links before (TurnBegan slot radios) is rest = refl
entry_links before (HostFed station octets) is rest = refl
entry_links before (Called station step) is rest = ap (λ xs. links_from xs rest) (sym (append-nil (journal_of before)))
entry_links before (Noted station note) is rest =
    one_entry (journal_of before) _ rest [] (note_begins (journal_of before) (side_of station) ((links_of before).link_of station) ((links_of before).last_of station) note)
entry_links before (Transmitted station channel octets []) is rest = absurd (let once = is.once in omega (arith, once))
entry_links before (Transmitted station channel octets (hearing ∷ [])) is rest =
    one_entry (journal_of before) (Air (side_of station) channel octets (mark_of hearing.fate) hearing.verdict) rest (link_in before (Transmitted station channel octets (hearing ∷ [])))
    (ap (λ n. if is_advertising channel then begun_by (side_of station) (n - 1) (is_answered station before) (pdu_heard channel octets) else []) (turns_are before))
entry_links before (Transmitted station channel octets (hearing ∷ other ∷ more)) is rest = absurd (let once = is.once in omega (arith, once))

event_links : (before : List Event) (event : Event) (rest : List Entry) → IsOfTwo [] event
    → links_from (journal_of before) (entries_of (links_of before) event ++ rest) ≡ link_in before event ++ links_from (journal_of (before ++ event ∷ [])) rest
event_links before event rest is =
    entry_links before event is rest ∙ ap (λ xs. link_in before event ++ links_from xs rest) (sym (journal_event before event))

of_two : (before : List Event) (event : Event) → IsOfTwo before event → IsOfTwo [] event
of_two before (Transmitted station channel octets hearings) is = is
of_two before (TurnBegan slot radios) is = tt
of_two before event is = tt

pub links_are_sent : (before events : List Event) → Each IsOfTwo before events
    → links_from (journal_of before) (journal_from (links_of before) events) ≡ links_sent before events
links_are_sent before [] each = refl
links_are_sent before (event ∷ events) each =
    event_links before event (journal_from (links_after (links_of before) event) events) (of_two before event each.0)
    ∙ ap (λ xs. link_in before event ++ xs)
    (ap (λ links. links_from (journal_of (before ++ event ∷ [])) (journal_from links events)) (sym (links_event before event))
    ∙ links_are_sent (before ++ event ∷ []) events each.1)

pub begun_are_sent : (history : List Event) → Each IsOfTwo [] history → links_begun (journal_of history) ≡ links_sent [] history
unfolding links_begun journal_of links_of
begun_are_sent history each = links_are_sent [] history each

-- ---- their number

some_begun : (on : Bool) (side : Side) (slot : ℕ) (offered : Bool) (found : Option AdvPdu)
    → length (if on then begun_by side slot offered found else []) ≡ (if on && is_connect_ind found then 1 else 0)
some_begun false side slot offered found = refl
some_begun true side slot offered None = refl
some_begun true side slot offered (Some (Connect from to ch_sel fields)) = refl
some_begun true side slot offered (Some other) = refl

one_more : (begins : Bool) (station : ℕ) (hearings : List Hearing) (links : Links)
    → (if begins then with_link station hearings links else links).begun ≡ links.begun + (if begins then 1 else 0)
one_more true station hearings links = refl
one_more false station hearings links = sym (zero_more links.begun)

same_begun : (links : Links) (station : ℕ) (note : Note) → (links_after links (Noted station note)).begun ≡ links.begun
same_begun links station (Up packet) = refl
same_begun links station note = refl

event_begun : (before : List Event) (links : Links) (event : Event) → (links_after links event).begun ≡ links.begun + length (link_in before event)
unfolding begins_link
event_begun before links (Transmitted station channel octets hearings) =
    one_more (begins_link channel octets) station hearings links
    ∙ ap (λ n. links.begun + n)
    (sym (some_begun (is_advertising channel) (side_of station) (turns_begun before - 1) (is_answered station before) (pdu_heard channel octets)))
event_begun before links (TurnBegan slot radios) = sym (zero_more links.begun)
event_begun before links (HostFed station octets) = sym (zero_more links.begun)
event_begun before links (Called station step) = sym (zero_more links.begun)
event_begun before links (Noted station note) = same_begun links station note ∙ sym (zero_more links.begun)

number_from : (before : List Event) (links : Links) (events : List Event) → (fold links_after links events).begun ≡ links.begun + length (links_sent before events)
number_from before links [] = sym (zero_more links.begun)
number_from before links (event ∷ events) =
    let rest = number_from (before ++ event ∷ []) (links_after links event) events in
    let here = event_begun before links event in
    let both = length-append (link_in before event) (links_sent (before ++ event ∷ []) events) in
    omega (arith, rest, here, both)

pub number_sent : (history : List Event) → (links_of history).begun ≡ length (links_sent [] history)
unfolding links_of
number_sent history = let all = number_from [] first_links history in omega (arith, all)

-- ---- the link of a CONNECT_IND

sent_more : (before events more : List Event) → links_sent before (events ++ more) ≡ links_sent before events ++ links_sent (before ++ events) more
sent_more before [] more = ap (λ xs. links_sent xs more) (sym (append-nil before))
sent_more before (event ∷ events) more =
    let next = before ++ event ∷ [] in
    ap (λ xs. link_in before event ++ xs) (sent_more next events more)
    ∙ sym (append_assoc (link_in before event) (links_sent next events) (links_sent (next ++ events) more))
    ∙ ap (λ xs. (link_in before event ++ links_sent next events) ++ links_sent xs more) (append_assoc before (event ∷ []) events)

-- the link of a CONNECT_IND of a station that comes after these events
abbrev pub link_begun : ℕ → List Event → Bool → ConnectFields → LinkBegun
link_begun station before ch_sel fields = record {
  central = side_of station;
  slot = turns_begun before - 1;
  fields = fields;
  two = ch_sel && is_answered station before;
}

one_link : (before : List Event) (station channel : ℕ) (octets : List ℕ) (hearings : List Hearing) (from to : Address) (ch_sel : Bool) (fields : ConnectFields)
    → is_advertising channel ≡ true → pdu_heard channel octets ≡ Some (Connect from to ch_sel fields)
    → link_in before (Transmitted station channel octets hearings) ≡ link_begun station before ch_sel fields ∷ []
one_link before station channel octets hearings from to ch_sel fields on says =
    let slot = turns_begun before - 1 in
    let offered = is_answered station before in
    ap (λ b. if b then begun_by (side_of station) slot offered (pdu_heard channel octets) else []) on
    ∙ ap (begun_by (side_of station) slot offered) says

pub sent_at : (before after : List Event) (station channel : ℕ) (octets : List ℕ) (hearings : List Hearing) (from to : Address) (ch_sel : Bool) (fields : ConnectFields)
    → is_advertising channel ≡ true → pdu_heard channel octets ≡ Some (Connect from to ch_sel fields)
    → slice_get (links_sent [] (before ++ Transmitted station channel octets hearings ∷ after)) (links_of before).begun ≡ Some (link_begun station before ch_sel fields)
sent_at before after station channel octets hearings from to ch_sel fields on says =
    let event = Transmitted station channel octets hearings in
    let rest = links_sent (before ++ event ∷ []) after in
    ap (slice_get (links_sent [] (before ++ event ∷ after))) (number_sent before)
    ∙ ap (λ xs. slice_get xs (length (links_sent [] before)))
    (sent_more [] before (event ∷ after)
    ∙ ap (λ xs. links_sent [] before ++ (xs ++ rest)) (one_link before station channel octets hearings from to ch_sel fields on says))
    ∙ get_next (links_sent [] before) rest (link_begun station before ch_sel fields)
