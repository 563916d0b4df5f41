-- The CONNECT_INDs of a journal, and that of an end with a number.
use Rattle.std.proofs.Common.{◌≡◌, ℕ, zero, suc, ◌+◌, ◌⊎◌, inl, inr, ◌&&◌, Bool, true, false, Option, Some, None, List, [], ◌∷◌, ◌++◌, length, refl, sym, ap, subst, ◌∙◌, append_assoc, arith}
use Rattle.std.specs.Prelude.{fold, slice_get, if◌then◌else◌}
use Rattle.std.proofs.lemmas.Grind.{flat_map-append}
use Rattle.std.proofs.lemmas.List.{length-append}
use Rattle.ble_base.specs.declared.notes.Note.{Note}
use Rattle.ble_base.specs.declared.notes.Note.TheVariants.{Up as UpNote}
use Rattle.ble_base.specs.declared.roles.Side.{Side}
use Rattle.adv_pdu.specs.declared.pdu.AdvPdu.{AdvPdu}
use Rattle.adv_pdu.specs.declared.pdu.AdvPdu.TheVariants.{Connect}
use Rattle.journal_data.specs.controller_model.Packets.{pdu_heard}
use Rattle.journal_data.specs.link_model.Setup.{Setup}
use Rattle.journal_data.specs.run_model.Due.{Each}
use Rattle.journal_data.specs.run_model.History.{Event, TurnBegan, HostFed, Called, Noted, Transmitted, Hearing}
use Rattle.journal_data.specs.run_model.Journal.{air_entries, entry_of, journal_from, journal_of, side_of}
use Rattle.journal_data.specs.run_model.LinkEnds.{ConnectInd}
use Rattle.journal_data.specs.run_model.Links.{Links, begins_link, first_links, is_advertising, is_connect_ind, links_after, links_noted, links_of, with_link}
use Rattle.journal_data.specs.run_model.Numbers.{HasNumber}
use Rattle.journal_data.specs.run_model.Run.{Given, history_of, others_than, run_of}
use Rattle.journal_data.proofs.run_model.Fates.{FatesBefore, HasOneOther, run_fated}
use Rattle.journal_data.proofs.run_model.Journals.{each_front, two}
use Rattle.journal_data.proofs.run_model.Parts.{journal_more}
use Rattle.journal_data.proofs.run_model.Places.{each_at}
use Rattle.journal_data.proofs.run_model.Stations.{is_in}
use Rattle.journal_data.proofs.journal_links.LinksBegun.{note_counts, add_by, begun_if}
use Rattle.journal_data.proofs.journal_acks.TwoStations.{IsOfTwo}
use Rattle.journal_hearings.specs.Connects.{ConnectLine, pdu_connects, connect_numbered, entry_connects, all_connects, nth_connect}

-- ---- how many there are

note_none : (side : Side) (link : ℕ → ℕ) (last : ℕ) (note : Note) → entry_connects (entry_of side link last note) ≡ []
note_none side link last (UpNote packet) = refl
note_none side link last note = refl

pdu_count : (on : Bool) (side : Side) (found : Option AdvPdu)
    → length (if on then pdu_connects side found else []) ≡ (if on && is_connect_ind found then 1 else 0)
pdu_count false side found = refl
pdu_count true side None = refl
pdu_count true side (Some (Connect from to ch_sel fields)) = refl
pdu_count true side (Some other) = refl

packet_count : (side : Side) (channel : ℕ) (octets : List ℕ)
    → length (if is_advertising channel then pdu_connects side (pdu_heard channel octets) else []) ≡ (if begins_link channel octets then 1 else 0)
unfolding begins_link
packet_count side channel octets = pdu_count (is_advertising channel) side (pdu_heard channel octets)

zero_add : (n : ℕ) → 0 + n ≡ n
zero_add n = omega arith

add_zero : (n : ℕ) → n ≡ n + 0
add_zero n = omega arith

module _ (given : Given) (one : HasOneOther given) where
  count_from : (links : Links) (before history : List Event) → Each (FatesBefore given) before history
      → length (all_connects (journal_from links history)) + links.begun ≡ (fold links_after links history).begun
  count_from links before [] each = zero_add links.begun
  count_from links before (TurnBegan slot radios ∷ history) each = count_from links _ history each.1
  count_from links before (HostFed station octets ∷ history) each = count_from links _ history each.1
  count_from links before (Called station step ∷ history) each = count_from links _ history each.1
  count_from links before (Noted station note ∷ history) each =
      let next = links_noted station note links in
      let rest = all_connects (journal_from next history) in
      ap (λ xs. length (xs ++ rest) + links.begun) (note_none (side_of station) (links.link_of station) (links.last_of station) note)
      ∙ ap (λ n. length rest + n) (sym (note_counts station note links)) ∙ count_from next _ history each.1
  count_from links before (Transmitted station channel octets [] ∷ history) each = absurd (let h : 0 ≡ 1 = (each.0 one).1 in omega (arith, h))
  count_from links before (Transmitted station channel octets (hearing ∷ hearings) ∷ history) each =
      let next = links_after links (Transmitted station channel octets (hearing ∷ hearings)) in
      let begins = begins_link channel octets in
      let here = if is_advertising channel then pdu_connects (side_of station) (pdu_heard channel octets) else [] in
      let rest = all_connects (journal_from next history) in
      ap (λ n. n + links.begun) (length-append here rest ∙ ap (λ n. n + length rest) (packet_count (side_of station) channel octets))
      ∙ add_by begins (length rest) links.begun
      ∙ ap (λ n. length rest + n) (sym (begun_if begins links (with_link station (hearing ∷ hearings) links)))
      ∙ count_from next _ history each.1

  pub connects_counted : (before rest : List Event) → history_of (run_of given) ≡ before ++ rest → length (all_connects (journal_of before)) ≡ (links_of before).begun
  unfolding journal_of links_of
  connects_counted before rest is =
      add_zero _ ∙ count_from first_links [] before (each_front (FatesBefore given) [] before rest (subst (Each (FatesBefore given) []) is (run_fated given)))

pub one_other : (given : Given) → IsOfTwo given → HasOneOther given
one_other given pair = λ station is. ap (λ xs. length (others_than station xs)) pair ∙ by station (two station (ap (is_in station) (sym pair) ∙ is))
  where
    by : (station : ℕ) → (station ≡ 0) ⊎ (station ≡ 1) → length (others_than station (0 ∷ 1 ∷ [])) ≡ 1
    by station (inl a) = ap (λ n. length (others_than n (0 ∷ 1 ∷ []))) a
    by station (inr b) = ap (λ n. length (others_than n (0 ∷ 1 ∷ []))) b

-- ---- one CONNECT_IND

-- the line of a packet with one hearing
one_line : (side : Side) (sent : ConnectInd) (hearings : List Hearing) → length hearings ≡ 1 → is_advertising sent.channel ≡ true
    → pdu_heard sent.channel sent.octets ≡ Some (Connect sent.from sent.to sent.ch_sel sent.fields)
    → all_connects (air_entries side sent.channel sent.octets hearings) ≡ record { central = side; from = sent.from; to = sent.to } ∷ []
one_line side sent [] once on says = absurd (omega (arith, once))
one_line side sent (hearing ∷ []) once on says =
    ap (λ b. (if b then pdu_connects side (pdu_heard sent.channel sent.octets) else []) ++ []) on
    ∙ ap (λ found. pdu_connects side found ++ []) says
one_line side sent (hearing ∷ other ∷ more) once on says = absurd (omega (arith, once))

get_next : (connects more : List ConnectLine) (connect : ConnectLine) → slice_get (connects ++ connect ∷ more) (length connects) ≡ Some connect
get_next [] more connect = refl
get_next (one ∷ connects) more connect = get_next connects more connect

number_next : (number : ℕ) (connects more : List ConnectLine) (connect : ConnectLine) → number ≡ length connects + 1
    → nth_connect number (connects ++ connect ∷ more) ≡ Some connect
number_next zero connects more connect is = absurd (omega (arith, is))
number_next (suc number) connects more connect is =
    let same : number ≡ length connects = omega (arith, is) in ap (slice_get (connects ++ connect ∷ more)) same ∙ get_next connects more connect

-- that from which an end with a number comes
pub connect_of : (given : Given) → IsOfTwo given → (station number : ℕ) (end : Setup) (before rest : List Event) → history_of (run_of given) ≡ before ++ rest
    → (numbered : HasNumber before number station end)
    → connect_numbered number (journal_of before)
    ≡ Some (record { central = side_of numbered.has.sent.sender; from = numbered.has.sent.from; to = numbered.has.sent.to })
connect_of given pair station number end before rest is numbered =
    let has = numbered.has in
    let sent = has.sent in
    let event = Transmitted sent.sender sent.channel sent.octets sent.hearings in
    let whole : history_of (run_of given) ≡ has.before ++ event ∷ (has.after ++ rest) =
    is ∙ ap (λ xs. xs ++ rest) has.is_at ∙ append_assoc has.before (event ∷ has.after) rest in
    let one = one_other given pair in
    let once = (each_at (FatesBefore given) (history_of (run_of given)) has.before (has.after ++ rest) event (run_fated given) whole one).1 in
    let heres = air_entries (side_of sent.sender) sent.channel sent.octets sent.hearings in
    let connect : ConnectLine = record { central = side_of sent.sender; from = sent.from; to = sent.to } in
    let later = journal_from (links_after (links_of has.before) event) has.after in
    let front = all_connects (journal_of has.before) in
    let connects : all_connects (journal_of before) ≡ front ++ connect ∷ all_connects later =
    ap (λ xs. all_connects (journal_of xs)) has.is_at ∙ ap all_connects (journal_more has.before (event ∷ has.after))
    ∙ flat_map-append entry_connects (journal_of has.before) (heres ++ later)
    ∙ ap (λ xs. front ++ xs)
    (flat_map-append entry_connects heres later ∙ ap (λ xs. xs ++ all_connects later) (one_line (side_of sent.sender) sent sent.hearings once has.on_channel has.says)) in
    ap (nth_connect number) connects
    ∙ number_next number front (all_connects later) connect
    (numbered.number_is ∙ ap (λ n. n + 1) (sym (connects_counted given one has.before (event ∷ (has.after ++ rest)) whole)))

pub begins_one : (channel : ℕ) (octets : List ℕ) → is_advertising channel ≡ true → is_connect_ind (pdu_heard channel octets) ≡ true → begins_link channel octets ≡ true
unfolding begins_link
begins_one channel octets on says = ap (λ b. b && is_connect_ind (pdu_heard channel octets)) on ∙ says
