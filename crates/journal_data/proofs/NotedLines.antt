-- What the notes of a station add to its lines: each open link has what was noted under its handle since it was opened, and
-- of any other link the lines say what they said before.
use Rattle.std.proofs.Common.{length, if◌then◌else◌, ◌≡◌, ℕ, suc, ◌+◌, ◌<◌, ◌==◌, Bool, true, false, Option, Some, None, List, [], ◌∷◌, ◌++◌, map, cond, refl, ap, sym, subst, ◌∙◌, append-nil, append_assoc, arith}
use Rattle.std.specs.Prelude.{◌&&◌, ◌||◌, fold, is_some, ⊤}
use Rattle.std.specs.List.{AllByRecursion}
use Rattle.std.proofs.Math.Bool.{and-false}
use Rattle.std.proofs.lemmas.Bool.{eq-eqb, eqb-true, false_from_ne_true, or_left, or_right, and_from}
use Rattle.std.proofs.lemmas.List.Elements.{filter-append}
use Rattle.std.proofs.lemmas.List.Sums.{fold-append}
use Rattle.arrayvec.specs.ArrayVec.{ArrayVec}
use Rattle.ble_base.specs.declared.addresses.Address.{Address}
use Rattle.ble_base.specs.declared.roles.Role.{Role}
use Rattle.ble_base.specs.declared.roles.Side.{Side}
use Rattle.ble_base.specs.declared.notes.Note.{Note}
use Rattle.ble_base.specs.declared.notes.Note.TheVariants.{Up, Opened, Shut, Sent, Took}
use Rattle.host_view.specs.Noted.{acl_handle, is_acl_data, two_octets}
use Rattle.journal_acks.specs.open_links.OpenLinks.{Links as OpenLinks, OpenLink, link_from}
use Rattle.journal_acks.specs.controller_model.Notes.{is_event, is_opening}
use Rattle.journal_acks.specs.controller_model.Since.{is_data_note, note_since, since_opened}
use Rattle.journal_acks.specs.run_model.History.{Event, Noted, noted_by}
use Rattle.journal_acks.specs.run_model.Journal.{entry_of, side_of}
use Rattle.journal_acks.specs.run_model.Links.{Links, links_after, links_of}
use Rattle.journal_acks.proofs.run_model.Calls.{same_station}
use Rattle.journal_acks.proofs.run_model.LinksKnown.{links_event}
use Rattle.journal_acks.proofs.journal_links.LineNotes.{note_added}
use Rattle.journal_acks.specs.Exchange.{is_number}
use Rattle.journal_acks.proofs.Exchanging.{number_at}
use Rattle.journal_data.specs.HostLines.{link_under}
use Rattle.journal_data.specs.Lines.{Lines, PduLine, Received, credited_in, credited_on, line_after, pdus_on, received_in}
use Rattle.journal_data.proofs.Booked.{FitsLink, IsBook, counts_on, credit_by, data_by, note_booked, counts_more, received_at, received_line}
use Rattle.journal_data.proofs.EachLine.{lines_at, note_lines, numbers_at}
use Rattle.journal_data.proofs.HeldLinks.{HoldsLinks, holds_same, opened_holds, shut_holds, under_is}
use Rattle.journal_data.proofs.Openness.{AreNot, note_open}

-- ---- what the lines say of a link

-- no line says anything of it
pub record IsUnused (link : ℕ) (lines : Lines) : Type 0 where
  pub sent : pdus_on link lines.sent ≡ []
  pub taken : pdus_on link lines.taken ≡ []
  pub received : received_at link lines.received ≡ []
  pub credited : credited_on link lines ≡ 0

-- what the lines say of a link stays
pub record IsSameOn (link : ℕ) (before after : Lines) : Type 0 where
  pub sent : pdus_on link after.sent ≡ pdus_on link before.sent
  pub taken : pdus_on link after.taken ≡ pdus_on link before.taken
  pub received : received_at link after.received ≡ received_at link before.received
  pub credited : credited_on link after ≡ credited_on link before

pub same_itself : (link : ℕ) (lines : Lines) → IsSameOn link lines lines
same_itself link lines = record { sent = refl; taken = refl; received = refl; credited = refl }

pub same_then : (link : ℕ) (first second third : Lines) → IsSameOn link first second → IsSameOn link second third → IsSameOn link first third
same_then link first second third one next = record {
  sent = next.sent ∙ one.sent;
  taken = next.taken ∙ one.taken;
  received = next.received ∙ one.received;
  credited = next.credited ∙ one.credited;
}

-- a place that has a link
pub record IsLink (place : Option OpenLink) : Type 0 where
  pub link : OpenLink
  pub is : place ≡ Some link

pub is_link : (place : Option OpenLink) → is_some place ≡ true → IsLink place
is_link None is = absurd cc
is_link (Some link) is = record { link = link; is = refl }

-- links are under handles below the number of places
pub below_from : (first handle : ℕ) (links : OpenLinks) (link : OpenLink) → link_from first handle links ≡ Some link → handle < first + length links
below_from first handle [] link at = absurd (let h : None ≡ Some link = at in absurd cc)
below_from first handle (place ∷ links) link at = by (first == handle) refl at (below_from (first + 1) handle links link)
  where
    by : (own : Bool) → (first == handle) ≡ own → (if own then place else link_from (first + 1) handle links) ≡ Some link
        → (link_from (first + 1) handle links ≡ Some link → handle < first + 1 + length links) → handle < first + suc (length links)
    by true is found rest = let equal = eqb-true first handle is in omega (arith, equal)
    by false is found rest = let below = rest found in omega (arith, below)

-- ---- one note, over plain variables

pub record IsBookedAs (many : ℕ) (number : ℕ → ℕ) (lines : Lines) (since : ℕ → List Note) (opened : ℕ → Bool) : Type 0 where
  pub book : (handle : ℕ) → opened handle ≡ true → IsBook handle (number handle) lines (since handle)
  pub links : HoldsLinks many lines.links number opened

-- the numbers of the links under these handles differ
abbrev pub AreApart : (ℕ → ℕ) → (ℕ → Bool) → Type 0
AreApart number base = (one other : ℕ) → base one ≡ true → base other ≡ true → (one == other) ≡ false → (number one == number other) ≡ false

-- a note of a PDU, or of the end of a link, is of one of these handles
abbrev pub IsOfBase : (ℕ → Bool) → Note → Type 0
IsOfBase base (Sent handle counted llid body) = base handle ≡ true
IsOfBase base (Took handle counted llid body) = base handle ≡ true
IsOfBase base (Shut handle reason) = base handle ≡ true
IsOfBase base note = ⊤

-- a note is not of the data of the link with this number
abbrev pub IsNotOf : ℕ → (ℕ → ℕ) → Note → Type 0
IsNotOf other number note = (handle : ℕ) → is_data_note handle note ≡ true → (number handle == other) ≡ false

pub swapped : (one other : ℕ) → (one == other) ≡ (other == one)
swapped one other = by (other == one) refl
  where
    by : (same : Bool) → (other == one) ≡ same → (one == other) ≡ same
    by true is = eq-eqb one other (sym (eqb-true other one is))
    by false is = grind (arith, is)

same_number : (number : ℕ → ℕ) (base : ℕ → Bool) (one other : ℕ) → AreApart number base → base one ≡ true → base other ≡ true
    → (number one == number other) ≡ (one == other)
same_number number base one other apart is is_too = by (one == other) refl
  where
    by : (same : Bool) → (one == other) ≡ same → (number one == number other) ≡ same
    by true same = eq-eqb (number one) (number other) (ap number (eqb-true one other same))
    by false differs = apart one other is is_too differs

pub sent_data : (handle counted llid : ℕ) (body : ArrayVec ℕ) → is_data_note handle (Sent handle counted llid body) ≡ true
sent_data handle counted llid body = ap (λ (b : Bool). (b || false) || (false || false)) (eq-eqb handle handle refl)

pub took_data : (handle counted llid : ℕ) (body : ArrayVec ℕ) → is_data_note handle (Took handle counted llid body) ≡ true
took_data handle counted llid body = ap (λ (b : Bool). (false || b) || (false || false)) (eq-eqb handle handle refl)

pub received_data : (packet : ArrayVec ℕ) → is_acl_data packet.items ≡ true → is_data_note (acl_handle packet.items) (Up packet) ≡ true
received_data packet acl =
    let octets = packet.items in
    or_left (is_acl_data octets && (acl_handle octets == acl_handle octets)) (is_event 0x13 octets && (two_octets 4 octets == acl_handle octets))
    (and_from (is_acl_data octets) (acl_handle octets == acl_handle octets) acl (eq-eqb (acl_handle octets) (acl_handle octets) refl))

pub completed_data : (packet : ArrayVec ℕ) → is_event 0x13 packet.items ≡ true → is_data_note (two_octets 4 packet.items) (Up packet) ≡ true
completed_data packet event =
    let octets = packet.items in
    or_right (is_acl_data octets && (acl_handle octets == two_octets 4 octets)) (is_event 0x13 octets && (two_octets 4 octets == two_octets 4 octets))
    (and_from (is_event 0x13 octets) (two_octets 4 octets == two_octets 4 octets) event (eq-eqb (two_octets 4 octets) (two_octets 4 octets) refl))

module _ (many : ℕ) (number : ℕ → ℕ) (lines : Lines) (opened : ℕ → Bool) (holds : HoldsLinks many lines.links number opened) where
  -- what is under a handle has the number of its link
  under_by : (other link : ℕ) (same : Bool) → (opened other ≡ true → (number other == link) ≡ same) → (opened other ≡ false → same ≡ false)
      → is_number (link_under other lines.links) link ≡ same
  under_by other link same is none = ap (λ (under : Option ℕ). is_number under link) (under_is many lines.links number opened holds other) ∙ by (opened other) refl
    where
      by : (on : Bool) → opened other ≡ on → is_number (cond on (Some (number other)) None) link ≡ same
      by true on = is on
      by false off = sym (none off)

  -- a note is of an open link just where it is of its handle
  note_fits : (base : ℕ → Bool) (handle : ℕ) (note : Note) → AreApart number base → ((other : ℕ) → opened other ≡ true → base other ≡ true)
      → opened handle ≡ true → IsOfBase base note → FitsLink handle (number handle) number lines.links note
  note_fits base handle (Up packet) apart within on of = record { data_of = λ acl. under (acl_handle packet.items); completed = λ event. under (two_octets 4 packet.items) }
    where
      under : (other : ℕ) → is_number (link_under other lines.links) (number handle) ≡ (other == handle)
      under other =
          under_by other (number handle) (other == handle) (λ is. same_number number base other handle apart (within other is) (within handle on))
          (λ off. false_from_ne_true (other == handle) (λ same. let h : true ≡ false = sym on ∙ ap opened (sym (eqb-true other handle same)) ∙ off in absurd cc))
  note_fits base handle (Sent other counted llid body) apart within on of = same_number number base other handle apart of (within handle on)
  note_fits base handle (Took other counted llid body) apart within on of = same_number number base other handle apart of (within handle on)
  note_fits base handle (Opened other role own peer) apart within on of = tt
  note_fits base handle (Shut other reason) apart within on of = tt
  note_fits base handle note apart within on of = tt

  pub note_links : (base : ℕ → Bool) (side : Side) (last : ℕ) (note : Note) → AreApart number base → ((other : ℕ) → opened other ≡ true → base other ≡ true)
      → is_opening note ≡ false → IsOfBase base note
      → HoldsLinks many (line_after 8 lines (entry_of side number last note)).links number (λ handle. note_open handle (opened handle) note)
  note_links base side last (Opened other role own peer) apart within none of = absurd cc
  note_links base side last (Shut other reason) apart within none of =
      shut_holds many lines.links number opened other
      (λ one on. same_number number base one other apart (within one on) of ∙ swapped one other) holds
  note_links base side last (Up packet) apart within none of = holds
  note_links base side last note apart within none of = holds

  pdu_apart : (other : ℕ) (all : List PduLine) (one : PduLine) → (one.link == other) ≡ false → pdus_on other (all ++ one ∷ []) ≡ pdus_on other all
  pdu_apart other all one differs =
      filter-append (λ (pdu : PduLine). pdu.link == other) all (one ∷ [])
      ∙ ap (λ (same : Bool). pdus_on other all ++ cond same (one ∷ []) []) differs ∙ append-nil (pdus_on other all)

  none_under : (other handle : ℕ) → (number handle == other) ≡ false → is_number (link_under handle lines.links) other ≡ false
  none_under other handle differs = under_by handle other false (λ on. differs) (λ off. refl)

  -- a note that is not of a link says nothing of it
  same_note : (other : ℕ) (side : Side) (last : ℕ) (note : Note) → IsNotOf other number note → is_opening note ≡ false
      → IsSameOn other lines (line_after 8 lines (entry_of side number last note))
  same_note other side last (Sent handle counted llid body) apart none = record {
    sent = pdu_apart other lines.sent _ (apart handle (sent_data handle counted llid body));
    taken = refl;
    received = refl;
    credited = refl;
  }
  same_note other side last (Took handle counted llid body) apart none = record {
    sent = refl;
    taken = pdu_apart other lines.taken _ (apart handle (took_data handle counted llid body));
    received = refl;
    credited = refl;
  }
  same_note other side last (Up packet) apart none =
      let octets = packet.items in
      let parts = counts_more other lines.credited (credited_in lines.links octets) in
      let counts : counts_on other (credited_in lines.links octets) ≡ 0 =
      credit_by (is_event 0x13 octets) false other (link_under (two_octets 4 octets) lines.links) octets
      (λ event. none_under other (two_octets 4 octets) (apart (two_octets 4 octets) (completed_data packet event)))
      ∙ ap (λ (b : Bool). cond b (two_octets 6 octets) 0) (and-false (is_event 0x13 octets)) in
      record {
        sent = refl;
        taken = refl;
        received =
            filter-append (λ (one : Received). one.link == other) lines.received (received_in lines.links octets)
            ∙ ap (λ (all : List Received). received_at other lines.received ++ all)
            (data_by (is_acl_data octets) false other (link_under (acl_handle octets) lines.links) octets
            (λ acl. none_under other (acl_handle octets) (apart (acl_handle octets) (received_data packet acl)))
            ∙ ap (λ (b : Bool). cond b (received_line other octets ∷ []) []) (and-false (is_acl_data octets)))
            ∙ append-nil (received_at other lines.received);
        credited = omega (arith, parts, counts);
      }
  same_note other side last (Opened handle role own peer) apart none = absurd cc
  same_note other side last (Shut handle reason) apart none = record { sent = refl; taken = refl; received = refl; credited = refl }
  same_note other side last note apart none = same_itself other lines

-- it was open before a note that opens none
pub still_open : (handle : ℕ) (linked : Bool) (note : Note) → is_opening note ≡ false → note_open handle linked note ≡ true → linked ≡ true
still_open handle linked (Opened other role own peer) none on = absurd cc
still_open handle linked (Shut other reason) none on = by (other == handle) on
  where
    by : (same : Bool) → cond same false linked ≡ true → linked ≡ true
    by true on = absurd (let h : false ≡ true = on in absurd cc)
    by false on = on
still_open handle linked (Up packet) none on = on
still_open handle linked note none on = on

pub since_plain : (handle : ℕ) (since : List Note) (note : Note) → is_opening note ≡ false → since ++ note ∷ [] ≡ note_since handle since note
since_plain handle since (Opened other role own peer) none = absurd cc
since_plain handle since (Up packet) none = refl
since_plain handle since note none = refl

note_plain : (many : ℕ) (number : ℕ → ℕ) (lines : Lines) (since : ℕ → List Note) (opened base : ℕ → Bool) (side : Side) (last : ℕ) (note : Note) → AreApart number base
    → ((other : ℕ) → opened other ≡ true → base other ≡ true) → is_opening note ≡ false → IsOfBase base note → IsBookedAs many number lines since opened
    → IsBookedAs many number (line_after 8 lines (entry_of side number last note)) (λ handle. note_since handle (since handle) note)
    (λ handle. note_open handle (opened handle) note)
note_plain many number lines since opened base side last note apart within none of booked = record {
  book = λ handle on.
      let was = still_open handle (opened handle) note none on in
      subst (IsBook handle (number handle) (line_after 8 lines (entry_of side number last note))) (since_plain handle (since handle) note none)
      (note_booked handle (number handle) lines (since handle) side number last note
      (note_fits many number lines opened booked.links base handle note apart within was of) (booked.book handle was));
  links = note_links many number lines opened booked.links base side last note apart within none of;
}

-- ---- one note at a station

abbrev pub IsBookedSo : ℕ → ℕ → List Event → (ℕ → Bool) → Type 0
IsBookedSo many station history opened =
    IsBookedAs many (numbers_at station history) (lines_at station history) (λ handle. since_opened handle (noted_by station history)) opened

pub booked_along : (many : ℕ) (number next : ℕ → ℕ) (lines others : Lines) (since more : ℕ → List Note) (opened : ℕ → Bool) → next ≡ number → others ≡ lines
    → ((handle : ℕ) → more handle ≡ since handle) → IsBookedAs many number lines since opened → IsBookedAs many next others more opened
booked_along many number next lines others since more opened same is also booked =
    subst (λ (of : ℕ → ℕ). IsBookedAs many of others more opened) (sym same)
    (subst (λ (all : Lines). IsBookedAs many number all more opened) (sym is)
    (record { book = λ handle on. subst (IsBook handle (number handle) lines) (sym (also handle)) (booked.book handle on); links = booked.links }))

pub booked_where : (many : ℕ) (number : ℕ → ℕ) (lines : Lines) (since : ℕ → List Note) (opened after : ℕ → Bool) → ((handle : ℕ) → after handle ≡ opened handle)
    → IsBookedAs many number lines since opened → IsBookedAs many number lines since after
booked_where many number lines since opened after same booked = record {
  book = λ handle on. booked.book handle (sym (same handle) ∙ on);
  links = holds_same many lines.links number number opened after (λ handle. refl) same booked.links;
}

since_more : (station : ℕ) (history : List Event) (note : Note) (handle : ℕ)
    → since_opened handle (noted_by station (history ++ Noted station note ∷ [])) ≡ note_since handle (since_opened handle (noted_by station history)) note
since_more station history note handle =
    ap (since_opened handle) (note_added station history note) ∙ fold-append (note_since handle) [] (noted_by station history) (note ∷ [])

pub numbers_noted : (station : ℕ) (history : List Event) (note : Note) → is_opening note ≡ false
    → numbers_at station (history ++ Noted station note ∷ []) ≡ numbers_at station history
numbers_noted station history note none = ap (λ (links : Links). links.link_of station) (links_event history (Noted station note)) ∙ by note none
  where
    by : (note : Note) → is_opening note ≡ false → (links_after (links_of history) (Noted station note)).link_of station ≡ numbers_at station history
    by (Opened handle role own peer) none = absurd cc
    by (Up packet) none = refl
    by note none = refl

pub number_opened : (station handle : ℕ) (history : List Event) (role : Role) (own peer : Address) (other : ℕ)
    → number_at station other (history ++ Noted station (Opened handle role own peer) ∷ [])
    ≡ cond (handle == other) ((links_of history).last_of station) (number_at station other history)
number_opened station handle history role own peer other =
    ap (λ (links : Links). links.link_of station other) (links_event history (Noted station (Opened handle role own peer)))
    ∙ ap (λ (same : Bool). cond (same && (other == handle)) ((links_of history).last_of station) (number_at station other history)) (same_station station)
    ∙ ap (λ (same : Bool). cond same ((links_of history).last_of station) (number_at station other history)) (swapped other handle)

note_kept : (many station : ℕ) (history : List Event) (opened base : ℕ → Bool) (note : Note) → AreApart (numbers_at station history) base
    → ((other : ℕ) → opened other ≡ true → base other ≡ true) → is_opening note ≡ false → IsOfBase base note → IsBookedSo many station history opened
    → IsBookedSo many station (history ++ Noted station note ∷ []) (λ handle. note_open handle (opened handle) note)
note_kept many station history opened base note apart within none of booked =
    booked_along many (numbers_at station history) _ _ _ _ _ (λ handle. note_open handle (opened handle) note) (numbers_noted station history note none)
    (note_lines station history note) (since_more station history note)
    (note_plain many (numbers_at station history) (lines_at station history) (λ handle. since_opened handle (noted_by station history)) opened base (side_of station)
    ((links_of history).last_of station) note apart within none of booked)

-- a link is opened under a free handle
pub opening_kept : (many station : ℕ) (history : List Event) (opened : ℕ → Bool) (handle : ℕ) (role : Role) (own peer : Address) → opened handle ≡ false → handle < many
    → IsUnused ((links_of history).last_of station) (lines_at station history) → IsBookedSo many station history opened
    → IsBookedSo many station (history ++ Noted station (Opened handle role own peer) ∷ []) (λ other. note_open other (opened other) (Opened handle role own peer))
opening_kept many station history opened handle role own peer free few unused booked =
    let note = Opened handle role own peer in
    let next = history ++ Noted station note ∷ [] in
    let last = (links_of history).last_of station in
    let lines = lines_at station history in
    let after = line_after 8 lines (entry_of (side_of station) (numbers_at station history) last note) in
    subst (λ (all : Lines). IsBookedAs many (numbers_at station next) all (λ other. since_opened other (noted_by station next))
    (λ other. note_open other (opened other) note)) (sym (note_lines station history note)) (record {
      book = λ other on. by other (handle == other) refl on;
      links = opened_holds many lines.links (numbers_at station history) (numbers_at station next) opened (λ other. note_open other (opened other) note) handle last few free
          (ap (λ (b : Bool). cond b true (opened handle)) (eq-eqb handle handle refl))
          (number_opened station handle history role own peer handle ∙ ap (λ (b : Bool). cond b last (number_at station handle history)) (eq-eqb handle handle refl))
          (λ other differs. number_opened station handle history role own peer other ∙ ap (λ (b : Bool). cond b last (number_at station other history)) differs)
          (λ other differs. ap (λ (b : Bool). cond b true (opened other)) differs) booked.links;
    })
  where
    since_is : (other : ℕ) → since_opened other (noted_by station (history ++ Noted station (Opened handle role own peer) ∷ []))
        ≡ cond (handle == other) [] (since_opened other (noted_by station history) ++ Opened handle role own peer ∷ [])
    since_is other = since_more station history (Opened handle role own peer) other

    by : (other : ℕ) (same : Bool) → (handle == other) ≡ same → cond (handle == other) true (opened other) ≡ true
        → IsBook other (number_at station other (history ++ Noted station (Opened handle role own peer) ∷ []))
        (line_after 8 (lines_at station history) (entry_of (side_of station) (numbers_at station history) ((links_of history).last_of station) (Opened handle role own peer)))
        (since_opened other (noted_by station (history ++ Noted station (Opened handle role own peer) ∷ [])))
    by other true same on =
        let next = history ++ Noted station (Opened handle role own peer) ∷ [] in
        let last = (links_of history).last_of station in
        let lines = line_after 8 (lines_at station history) (entry_of (side_of station) (numbers_at station history) last (Opened handle role own peer)) in
        let number = number_opened station handle history role own peer other ∙ ap (λ (b : Bool). cond b last (number_at station other history)) same in
        let since = since_is other ∙ ap (λ (b : Bool). cond b [] (since_opened other (noted_by station history) ++ Opened handle role own peer ∷ [])) same in
        subst (λ n. IsBook other n lines (since_opened other (noted_by station next))) (sym number)
        (subst (IsBook other last lines) (sym since)
        (record { sent = unused.sent; taken = unused.taken; received = unused.received; credited = unused.credited }))
    by other false differs on =
        let next = history ++ Noted station (Opened handle role own peer) ∷ [] in
        let last = (links_of history).last_of station in
        let was_number = number_at station other history in
        let lines = line_after 8 (lines_at station history) (entry_of (side_of station) (numbers_at station history) last (Opened handle role own peer)) in
        let number = number_opened station handle history role own peer other ∙ ap (λ (b : Bool). cond b last was_number) differs in
        let since = since_is other ∙ ap (λ (b : Bool). cond b [] (since_opened other (noted_by station history) ++ Opened handle role own peer ∷ [])) differs in
        let was : opened other ≡ true = sym (ap (λ (b : Bool). cond b true (opened other)) differs) ∙ on in
        subst (λ n. IsBook other n lines (since_opened other (noted_by station next))) (sym number)
        (subst (IsBook other was_number lines) (sym since)
        (note_booked other was_number (lines_at station history) (since_opened other (noted_by station history)) (side_of station)
        (numbers_at station history) last (Opened handle role own peer) tt (booked.book other was)))

-- ---- the notes of a call

-- a history with notes of a station
abbrev pub with_noted : ℕ → List Event → List Note → List Event
with_noted station history notes = history ++ map (Noted station) notes

pub one_on : (station : ℕ) (history : List Event) (note : Note) (notes : List Note)
    → with_noted station (history ++ Noted station note ∷ []) notes ≡ with_noted station history (note ∷ notes)
one_on station history note notes = append_assoc history (Noted station note ∷ []) (map (Noted station) notes)

pub numbers_quiet : (station : ℕ) (history : List Event) (notes : List Note) → AreNot is_opening notes
    → numbers_at station (with_noted station history notes) ≡ numbers_at station history
numbers_quiet station history [] none = ap (numbers_at station) (append-nil history)
numbers_quiet station history (note ∷ notes) none =
    ap (numbers_at station) (sym (one_on station history note notes)) ∙ numbers_quiet station (history ++ Noted station note ∷ []) notes none.1
    ∙ numbers_noted station history note none.0

-- what notes that open no link keep, and what they say of other links
pub record KeepsBook (many station : ℕ) (history after : List Event) (opened : ℕ → Bool) (notes : List Note) : Type 0 where
  pub booked : IsBookedSo many station after opened
  pub same : (other : ℕ) → AllByRecursion (IsNotOf other (numbers_at station history)) notes → IsSameOn other (lines_at station history) (lines_at station after)

pub notes_kept : (many station : ℕ) (history : List Event) (opened base : ℕ → Bool) (notes : List Note) → AreApart (numbers_at station history) base
    → ((other : ℕ) → opened other ≡ true → base other ≡ true) → AreNot is_opening notes → AllByRecursion (IsOfBase base) notes → IsBookedSo many station history opened
    → KeepsBook many station history (with_noted station history notes) (λ handle. fold (note_open handle) (opened handle) notes) notes
notes_kept many station history opened base [] apart within none of booked =
    subst (λ (all : List Event). KeepsBook many station history all opened []) (sym (append-nil history))
    (record { booked = booked; same = λ other not_of. same_itself other (lines_at station history) })
notes_kept many station history opened base (note ∷ notes) apart within none of booked =
    let next = history ++ Noted station note ∷ [] in
    let numbers = numbers_noted station history note none.0 in
    let rest = notes_kept many station next (λ handle. note_open handle (opened handle) note) base notes
    (subst (λ (number : ℕ → ℕ). AreApart number base) (sym numbers) apart)
    (λ other on. within other (still_open other (opened other) note none.0 on)) none.1 of.1
    (note_kept many station history opened base note apart within none.0 of.0 booked) in
    subst (λ (all : List Event). KeepsBook many station history all (λ handle. fold (note_open handle) (opened handle) (note ∷ notes)) (note ∷ notes))
    (one_on station history note notes)
    (record {
      booked = rest.booked;
      same = λ other not_of. same_then other (lines_at station history) (lines_at station next) _
          (subst (IsSameOn other (lines_at station history)) (sym (note_lines station history note))
          (same_note many (numbers_at station history) (lines_at station history) opened booked.links other (side_of station) ((links_of history).last_of station) note
          not_of.0 none.0))
          (rest.same other (subst (λ (number : ℕ → ℕ). AllByRecursion (IsNotOf other number) notes) (sym numbers) not_of.1));
    })
