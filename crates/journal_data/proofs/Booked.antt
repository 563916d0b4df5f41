-- What the lines of a side say of a link is what its notes under the handle of that link say since it was opened.
use Rattle.std.proofs.Common.{◌≡◌, ℕ, ◌+◌, ◌==◌, ◌&&◌, Bool, true, false, Option, Some, None, List, [], ◌∷◌, ◌++◌, cond, refl, sym, ap, ◌∙◌, append-nil, arith}
use Rattle.std.specs.Prelude.{drop, filter, ⊤}
use Rattle.std.specs.List.{flat_map, sum_by}
use Rattle.std.proofs.lemmas.Bool.{eqb-true}
use Rattle.std.proofs.lemmas.List.Concat.{flat_map-append}
use Rattle.std.proofs.lemmas.List.Elements.{filter-append}
use Rattle.std.proofs.lemmas.List.Sums.{sum_by-append}
use Rattle.arrayvec.specs.ArrayVec.{ArrayVec}
use Rattle.acl_banks.specs.Packets.{Marked, marked_octets}
use Rattle.ble_base.specs.declared.roles.Side.{Side}
use Rattle.ble_base.specs.declared.notes.Note.{Note}
use Rattle.ble_base.specs.declared.notes.Note.TheVariants.{Up, Sent, Took}
use Rattle.host_view.specs.Noted.{acl_handle, is_acl_data, two_octets}
use Rattle.journal_acks.specs.controller_model.Notes.{is_event}
use Rattle.journal_acks.specs.controller_model.Since.{data_up, is_data_on, starts_message}
use Rattle.journal_acks.specs.run_model.Journal.{entry_of}
use Rattle.journal_acks.specs.Exchange.{is_number}
use Rattle.journal_data.specs.HostLines.{OpenUnder, link_under}
use Rattle.journal_data.specs.Lines.{Credited, Lines, PduLine, Received, credit_up, credited_in, credited_on, data_received, line_after, pdus_on, received_in, received_on}

-- ---- what a note says

abbrev pub line_if : Bool → ℕ → ℕ → ℕ → List ℕ → List PduLine
line_if of_one link number llid octets =
    cond of_one (record { link = link; number = number; pdu = record { llid = llid; body = octets } } ∷ []) []

abbrev pub sent_line : ℕ → ℕ → Note → List PduLine
sent_line handle link (Sent other number llid body) = line_if (other == handle) link number llid body.items
sent_line handle link note = []

abbrev pub took_line : ℕ → ℕ → Note → List PduLine
took_line handle link (Took other number llid body) = line_if (other == handle) link number llid body.items
took_line handle link note = []

-- a packet of data that the host receives
abbrev pub received_line : ℕ → List ℕ → Received
received_line link octets = record { link = link; octets = marked_octets (starts_message octets) (drop 5 octets) }

abbrev pub up_line : ℕ → ℕ → Note → List Received
up_line handle link (Up packet) = cond (is_data_on handle packet.items) (received_line link packet.items ∷ []) []
up_line handle link note = []

-- those of a link
abbrev pub received_at : ℕ → List Received → List Received
received_at link received = filter (λ (one : Received). one.link == link) received

abbrev pub count_if : Bool → List ℕ → ℕ
count_if completed octets = cond completed (two_octets 6 octets) 0

abbrev pub is_completion_on : ℕ → List ℕ → Bool
is_completion_on handle octets = is_event 0x13 octets && (two_octets 4 octets == handle)

abbrev pub count_up : ℕ → Note → ℕ
count_up handle (Up packet) = count_if (is_completion_on handle packet.items) packet.items
count_up handle note = 0

-- the lines say of the link with this number what these notes of its handle say
pub record IsBook (handle link : ℕ) (lines : Lines) (since : List Note) : Type 0 where
  pub sent : pdus_on link lines.sent ≡ flat_map (sent_line handle link) since
  pub taken : pdus_on link lines.taken ≡ flat_map (took_line handle link) since
  pub received : received_at link lines.received ≡ flat_map (up_line handle link) since
  pub credited : credited_on link lines ≡ sum_by (count_up handle) since

-- ---- a note more

-- what is under a handle is the link just where that is its handle
abbrev IsUnder : ℕ → ℕ → List OpenUnder → ℕ → Type 0
IsUnder handle link links other = is_number (link_under other links) link ≡ (other == handle)

pub record IsFitting (handle link : ℕ) (links : List OpenUnder) (octets : List ℕ) : Type 0 where
  pub data_of : is_acl_data octets ≡ true → IsUnder handle link links (acl_handle octets)
  pub completed : is_event 0x13 octets ≡ true → IsUnder handle link links (two_octets 4 octets)

-- a note is of the link just where it is of its handle
abbrev pub FitsLink : ℕ → ℕ → (ℕ → ℕ) → List OpenUnder → Note → Type 0
FitsLink handle link link_of links (Up packet) = IsFitting handle link links packet.items
FitsLink handle link link_of links (Sent other number llid body) = (link_of other == link) ≡ (other == handle)
FitsLink handle link link_of links (Took other number llid body) = (link_of other == link) ≡ (other == handle)
FitsLink handle link link_of links note = ⊤

-- this is added to a list
added : {X Y : Type 0} (of : X → List Y) (before : List Y) (since : List X) (note : X) (more : List Y)
    → before ≡ flat_map of since → more ≡ of note → before ++ more ≡ flat_map of (since ++ note ∷ [])
added of before since note more is one =
    (λ i. is i ++ one i) ∙ ap (λ xs. flat_map of since ++ xs) (sym (append-nil (of note))) ∙ sym (flat_map-append of since (note ∷ []))

kept_same : {X Y : Type 0} (of : X → List Y) (before : List Y) (since : List X) (note : X) → of note ≡ [] → before ≡ flat_map of since
    → before ≡ flat_map of (since ++ note ∷ [])
kept_same of before since note none is = sym (append-nil before) ∙ added of before since note [] is (sym none)

counted_same : (of : Note → ℕ) (before : ℕ) (since : List Note) (note : Note) → of note ≡ 0 → before ≡ sum_by of since → before ≡ sum_by of (since ++ note ∷ [])
counted_same of before since note none is =
    let more = sum_by-append of since (note ∷ []) in
    let one : sum_by of (note ∷ []) ≡ 0 + of note = refl in omega (arith, is, none, more, one)

-- a PDU line more, of this link or of another one
line_by : (one link number llid : ℕ) (octets : List ℕ) (same : Bool) → (one == link) ≡ same → line_if same one number llid octets ≡ line_if same link number llid octets
line_by one link number llid octets true is = ap (λ n. line_if true n number llid octets) (eqb-true one link is)
line_by one link number llid octets false is = refl

pdu_more : (link one number llid : ℕ) (lines : List PduLine) (octets : List ℕ) (same : Bool) → (one == link) ≡ same
    → pdus_on link (lines ++ record { link = one; number = number; pdu = record { llid = llid; body = octets } } ∷ [])
    ≡ pdus_on link lines ++ line_if same link number llid octets
pdu_more link one number llid lines octets same is =
    let line : PduLine = record { link = one; number = number; pdu = record { llid = llid; body = octets } } in
    filter-append (λ (pdu : PduLine). pdu.link == link) lines (line ∷ [])
    ∙ ap (λ (more : List PduLine). pdus_on link lines ++ more)
    (line_by one link number llid octets (one == link) refl ∙ ap (λ (b : Bool). line_if b link number llid octets) is)

-- data of a handle
abbrev pub octets_on : ℕ → List Received → List Marked
octets_on link received = flat_map (λ (one : Received). one.octets) (filter (λ (one : Received). one.link == link) received)

pub octets_more : (link : ℕ) (received more : List Received) → octets_on link (received ++ more) ≡ octets_on link received ++ octets_on link more
octets_more link received more =
    ap (flat_map (λ (one : Received). one.octets)) (filter-append (λ (one : Received). one.link == link) received more)
    ∙ flat_map-append (λ (one : Received). one.octets) (filter (λ (one : Received). one.link == link) received)
    (filter (λ (one : Received). one.link == link) more)

pub data_by : (acl one : Bool) (link : ℕ) (under : Option ℕ) (octets : List ℕ) → (acl ≡ true → is_number under link ≡ one)
    → received_at link (cond acl (data_received under octets) []) ≡ cond (acl && one) (received_line link octets ∷ []) []
data_by false one link under octets is = refl
data_by true one link None octets is = ap (λ (b : Bool). cond b (received_line link octets ∷ []) []) (is refl)
data_by true one link (Some other) octets is = by (other == link) refl ∙ ap (λ (b : Bool). cond b (received_line link octets ∷ []) []) (is refl)
  where
    by : (same : Bool) → (other == link) ≡ same → cond same (received_line other octets ∷ []) [] ≡ cond same (received_line link octets ∷ []) []
    by true is = ap (λ n. received_line n octets ∷ []) (eqb-true other link is)
    by false is = refl

one_received : (same : Bool) (one : Received) → flat_map (λ (r : Received). r.octets) (cond same (one ∷ []) []) ≡ cond same one.octets []
one_received true one = append-nil one.octets
one_received false one = refl

-- its octets
data_noted : (handle link : ℕ) (since : List Note) → flat_map (λ (one : Received). one.octets) (flat_map (up_line handle link) since) ≡ flat_map (data_up handle) since
data_noted handle link [] = refl
data_noted handle link (note ∷ since) =
    flat_map-append (λ (one : Received). one.octets) (up_line handle link note) (flat_map (up_line handle link) since)
    ∙ (λ i. by note i ++ data_noted handle link since i)
  where
    by : (note : Note) → flat_map (λ (one : Received). one.octets) (up_line handle link note) ≡ data_up handle note
    by (Up packet) = one_received (is_data_on handle packet.items) (received_line link packet.items)
    by note = refl

pub data_booked : (handle link : ℕ) (lines : Lines) (since : List Note) → IsBook handle link lines since → received_on link lines ≡ flat_map (data_up handle) since
data_booked handle link lines since book = ap (flat_map (λ (one : Received). one.octets)) book.received ∙ data_noted handle link since

-- complete packets of a handle
abbrev pub counts_on : ℕ → List Credited → ℕ
counts_on link credited = sum_by (λ (one : Credited). one.count) (filter (λ (one : Credited). one.link == link) credited)

pub counts_more : (link : ℕ) (credited more : List Credited) → counts_on link (credited ++ more) ≡ counts_on link credited + counts_on link more
counts_more link credited more =
    ap (sum_by (λ (one : Credited). one.count)) (filter-append (λ (one : Credited). one.link == link) credited more)
    ∙ sum_by-append (λ (one : Credited). one.count) (filter (λ (one : Credited). one.link == link) credited)
    (filter (λ (one : Credited). one.link == link) more)

one_credited : (same : Bool) (one : Credited) → sum_by (λ (r : Credited). r.count) (cond same (one ∷ []) []) ≡ cond same one.count 0
one_credited true one = let all : sum_by (λ (r : Credited). r.count) (one ∷ []) ≡ 0 + one.count = refl in omega (arith, all)
one_credited false one = refl

pub credit_by : (event one : Bool) (link : ℕ) (under : Option ℕ) (octets : List ℕ) → (event ≡ true → is_number under link ≡ one)
    → counts_on link (cond event (credit_up under (two_octets 6 octets)) []) ≡ count_if (event && one) octets
credit_by false one link under octets is = refl
credit_by true one link None octets is = ap (λ (b : Bool). count_if b octets) (is refl)
credit_by true one link (Some other) octets is =
    one_credited (other == link) (record { link = other; count = two_octets 6 octets }) ∙ ap (λ (b : Bool). count_if b octets) (is refl)

up_booked : (handle link : ℕ) (lines : Lines) (since : List Note) (side : Side) (link_of : ℕ → ℕ) (last : ℕ) (packet : ArrayVec ℕ)
    → IsFitting handle link lines.links packet.items → IsBook handle link lines since
    → IsBook handle link (line_after 8 lines (entry_of side link_of last (Up packet))) (since ++ Up packet ∷ [])
up_booked handle link lines since side link_of last packet fits book =
    let octets = packet.items in record {
      sent = kept_same (sent_line handle link) (pdus_on link lines.sent) since (Up packet) refl book.sent;
      taken = kept_same (took_line handle link) (pdus_on link lines.taken) since (Up packet) refl book.taken;
      received =
          filter-append (λ (one : Received). one.link == link) lines.received (received_in lines.links octets)
          ∙ added (up_line handle link) (received_at link lines.received) since (Up packet) (received_at link (received_in lines.links octets)) book.received
          (data_by (is_acl_data octets) (acl_handle octets == handle) link (link_under (acl_handle octets) lines.links) octets fits.data_of);
      credited =
          let parts = counts_more link lines.credited (credited_in lines.links octets) in
          let one = credit_by (is_event 0x13 octets) (two_octets 4 octets == handle) link (link_under (two_octets 4 octets) lines.links) octets fits.completed in
          let more = sum_by-append (count_up handle) since (Up packet ∷ []) in
          let last_one : sum_by (count_up handle) (Up packet ∷ []) ≡ 0 + count_up handle (Up packet) = refl in
          let before = book.credited in
          omega (arith, parts, one, more, last_one, before);
    }

-- a note that says nothing of data
silent_booked : (handle link : ℕ) (lines after : Lines) (since : List Note) (note : Note) → after.sent ≡ lines.sent → after.taken ≡ lines.taken
    → after.received ≡ lines.received → after.credited ≡ lines.credited → sent_line handle link note ≡ [] → took_line handle link note ≡ []
    → up_line handle link note ≡ [] → count_up handle note ≡ 0 → IsBook handle link lines since → IsBook handle link after (since ++ note ∷ [])
silent_booked handle link lines after since note s t r c no_sent no_took no_data no_count book = record {
  sent = ap (pdus_on link) s ∙ kept_same (sent_line handle link) (pdus_on link lines.sent) since note no_sent book.sent;
  taken = ap (pdus_on link) t ∙ kept_same (took_line handle link) (pdus_on link lines.taken) since note no_took book.taken;
  received = ap (received_at link) r ∙ kept_same (up_line handle link) (received_at link lines.received) since note no_data book.received;
  credited = ap (counts_on link) c ∙ counted_same (count_up handle) (credited_on link lines) since note no_count book.credited;
}

pub note_booked : (handle link : ℕ) (lines : Lines) (since : List Note) (side : Side) (link_of : ℕ → ℕ) (last : ℕ) (note : Note)
    → FitsLink handle link link_of lines.links note → IsBook handle link lines since
    → IsBook handle link (line_after 8 lines (entry_of side link_of last note)) (since ++ note ∷ [])
note_booked handle link lines since side link_of last (Up packet) fits book = up_booked handle link lines since side link_of last packet fits book
note_booked handle link lines since side link_of last (Sent other number llid body) fits book =
    let note = Sent other number llid body in record {
      sent = pdu_more link (link_of other) number llid lines.sent body.items (other == handle) fits
          ∙ added (sent_line handle link) (pdus_on link lines.sent) since note (line_if (other == handle) link number llid body.items) book.sent refl;
      taken = kept_same (took_line handle link) (pdus_on link lines.taken) since note refl book.taken;
      received = kept_same (up_line handle link) (received_at link lines.received) since note refl book.received;
      credited = counted_same (count_up handle) (credited_on link lines) since note refl book.credited;
    }
note_booked handle link lines since side link_of last (Took other number llid body) fits book =
    let note = Took other number llid body in record {
      sent = kept_same (sent_line handle link) (pdus_on link lines.sent) since note refl book.sent;
      taken = pdu_more link (link_of other) number llid lines.taken body.items (other == handle) fits
          ∙ added (took_line handle link) (pdus_on link lines.taken) since note (line_if (other == handle) link number llid body.items) book.taken refl;
      received = kept_same (up_line handle link) (received_at link lines.received) since note refl book.received;
      credited = counted_same (count_up handle) (credited_on link lines) since note refl book.credited;
    }
note_booked handle link lines since side link_of last note fits book =
    silent_booked handle link lines _ since note refl refl refl refl refl refl refl refl book
