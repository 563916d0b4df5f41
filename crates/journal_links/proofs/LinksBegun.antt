-- The links of a journal with more entries, and how many there are.
use Rattle.std.proofs.Common.{◌≡◌, ℕ, zero, suc, ◌+◌, ◌-◌, ◌&&◌, Bool, true, false, Option, Some, None, List, [], ◌∷◌, ◌++◌, length, refl, sym, ap, subst, ◌∙◌, append-nil, append_assoc, length-append, arith}
use Rattle.std.specs.Prelude.{fold, slice_get, if◌then◌else◌}
use Rattle.ble_base.specs.Side.{other_side}
use Rattle.ble_base.specs.declared.notes.Note.{Note}
use Rattle.ble_base.specs.declared.notes.Note.TheVariants.{Up, Opened}
use Rattle.ble_base.specs.declared.roles.Side.{Side}
use Rattle.ble_base.specs.declared.verdicts.Verdict.{Verdict}
use Rattle.adv_pdu.specs.declared.pdu.AdvPdu.{AdvPdu}
use Rattle.adv_pdu.specs.declared.pdu.AdvPdu.TheVariants.{Connect}
use Rattle.journal.specs.declared.entries.Entry.{Entry}
use Rattle.journal.specs.declared.entries.Entry.TheVariants.{Air}
use Rattle.journal.specs.declared.entries.Mark.{Mark}
use Rattle.run_laws.specs.controller_model.Packets.{pdu_heard}
use Rattle.radio_replay.specs.Script.{Script}
use Rattle.run_laws.specs.run_model.Due.{Each}
use Rattle.run_laws.specs.run_model.History.{Event, TurnBegan, HostFed, Called, Noted, Transmitted}
use Rattle.run_laws.specs.run_model.Journal.{entry_of, journal_from, journal_of, mark_of, side_of}
use Rattle.run_laws.specs.run_model.Links.{Links, begins_link, first_links, is_advertising, is_connect_ind, links_after, links_noted, links_of, with_link}
use Rattle.run_laws.specs.run_model.Pair.{given_of}
use Rattle.run_laws.specs.run_model.Readers.{turns_of}
use Rattle.run_laws.specs.run_model.Run.{Given, history_of, run_of}
use Rattle.run_laws.proofs.run_model.Fates.{FatesBefore, HasOneOther, pair_other, run_fated}
use Rattle.run_laws.proofs.run_model.Journals.{each_front}
use Rattle.journal_links.specs.Begun.{LinkBegun, begun_by, begun_in, is_offered, link_numbered, links_begun, links_from, offers_in, with_number}

-- ---- more entries

add_zero : (n : ℕ) → n ≡ n + 0
add_zero n = omega arith

zero_add : (n : ℕ) → 0 + n ≡ n
zero_add n = omega arith

links_append : (before front rest : List Entry) → links_from before (front ++ rest) ≡ links_from before front ++ links_from (before ++ front) rest
links_append before [] rest = ap (λ xs. links_from xs rest) (sym (append-nil before))
links_append before (entry ∷ front) rest =
    let next = before ++ entry ∷ [] in
    ap (λ links. begun_in before entry ++ links) (links_append next front rest)
    ∙ sym (append_assoc (begun_in before entry) (links_from next front) (links_from (next ++ front) rest))
    ∙ ap (λ xs. (begun_in before entry ++ links_from next front) ++ links_from xs rest) (append_assoc before (entry ∷ []) front)

pub links_more : (front rest : List Entry) → links_begun (front ++ rest) ≡ links_begun front ++ links_from front rest
unfolding links_begun
links_more front rest = links_append [] front rest

-- ---- the link with a number

get_more : (links more : List LinkBegun) (place : ℕ) (link : LinkBegun) → slice_get links place ≡ Some link → slice_get (links ++ more) place ≡ Some link
get_more [] more place link is = absurd cc
get_more (one ∷ links) more zero link is = is
get_more (one ∷ links) more (suc place) link is = get_more links more place link is

number_more : (number : ℕ) (links more : List LinkBegun) (link : LinkBegun) → with_number number links ≡ Some link → with_number number (links ++ more) ≡ Some link
number_more zero links more link is = is
number_more (suc number) links more link is = get_more links more number link is

-- the link with a number stays so
pub number_stays : (number : ℕ) (front rest : List Entry) (link : LinkBegun) → link_numbered number front ≡ Some link → link_numbered number (front ++ rest) ≡ Some link
number_stays number front rest link is =
    ap (with_number number) (links_more front rest) ∙ number_more number (links_begun front) (links_from front rest) link is

pub get_next : (links more : List LinkBegun) (link : LinkBegun) → slice_get (links ++ link ∷ more) (length links) ≡ Some link
get_next [] more link = refl
get_next (one ∷ links) more link = get_next links more link

pub number_next : (links more : List LinkBegun) (link : LinkBegun) (number : ℕ) → number ≡ length links + 1 → with_number number (links ++ link ∷ more) ≡ Some link
number_next links more link zero is = absurd (omega (arith, is))
number_next links more link (suc number) is =
    let same : number ≡ length links = omega (arith, is) in
    ap (slice_get (links ++ link ∷ more)) same ∙ get_next links more link

-- ---- how many links there are

pdu_counts : (side : Side) (slot : ℕ) (offered : Bool) (pdu : Option AdvPdu) → length (begun_by side slot offered pdu) ≡ (if is_connect_ind pdu then 1 else 0)
pdu_counts side slot offered None = refl
pdu_counts side slot offered (Some (Connect from to ch_sel fields)) = refl
pdu_counts side slot offered (Some other) = refl

channel_counts : (side : Side) (slot : ℕ) (offered : Bool) (pdu : Option AdvPdu) (on : Bool)
    → length (if on then begun_by side slot offered pdu else []) ≡ (if on && is_connect_ind pdu then 1 else 0)
channel_counts side slot offered pdu true = pdu_counts side slot offered pdu
channel_counts side slot offered pdu false = refl

packet_counts : (front : List Entry) (side : Side) (channel : ℕ) (octets : List ℕ) (mark : Mark) (verdict : Verdict)
    → length (begun_in front (Air side channel octets mark verdict)) ≡ (if begins_link channel octets then 1 else 0)
unfolding begins_link
packet_counts front side channel octets mark verdict =
    channel_counts side (length (turns_of front) - 1) (is_offered (offers_in (other_side side) front)) (pdu_heard channel octets) (is_advertising channel)

pub note_begins : (front : List Entry) (side : Side) (link : ℕ → ℕ) (last : ℕ) (note : Note) → begun_in front (entry_of side link last note) ≡ []
note_begins front side link last (Up packet) = refl
note_begins front side link last note = refl

pub note_counts : (station : ℕ) (note : Note) (links : Links) → (links_noted station note links).begun ≡ links.begun
note_counts station (Opened handle role own peer) links = refl
note_counts station note links = refl

pub add_by : (begins : Bool) (n begun : ℕ) → (if begins then 1 else 0) + n + begun ≡ n + (if begins then begun + 1 else begun)
add_by true n begun = omega arith
add_by false n begun = omega arith

pub begun_if : (begins : Bool) (links more : Links) → (if begins then more else links).begun ≡ (if begins then more.begun else links.begun)
begun_if true links more = refl
begun_if false links more = refl

-- each packet has one hearing, and so one entry
count_from : (given : Given) → HasOneOther given → (links : Links) (front : List Entry) (before history : List Event) → Each (FatesBefore given) before history
    → length (links_from front (journal_from links history)) + links.begun ≡ (fold links_after links history).begun
count_from given one links front before [] each = zero_add links.begun
count_from given one links front before (TurnBegan slot radios ∷ history) each = count_from given one links _ _ history each.1
count_from given one links front before (HostFed station octets ∷ history) each = count_from given one links _ _ history each.1
count_from given one links front before (Called station step ∷ history) each = count_from given one links front _ history each.1
count_from given one links front before (Noted station note ∷ history) each =
    let entry = entry_of (side_of station) (links.link_of station) (links.last_of station) note in
    let next = links_noted station note links in
    let after = front ++ entry ∷ [] in
    ap (λ more. length (more ++ links_from after (journal_from next history)) + links.begun)
    (note_begins front (side_of station) (links.link_of station) (links.last_of station) note)
    ∙ ap (λ n. length (links_from after (journal_from next history)) + n) (sym (note_counts station note links))
    ∙ count_from given one next after _ history each.1
count_from given one links front before (Transmitted station channel octets [] ∷ history) each =
    absurd (let h : 0 ≡ 1 = (each.0 one).1 in omega (arith, h))
count_from given one links front before (Transmitted station channel octets (hearing ∷ hearings) ∷ history) each =
    let event = Transmitted station channel octets (hearing ∷ hearings) in
    let next = links_after links event in
    let entry = Air (side_of station) channel octets (mark_of hearing.fate) hearing.verdict in
    let begun = begun_in front entry in
    let after = front ++ entry ∷ [] in
    let rest = links_from after (journal_from next history) in
    let begins = begins_link channel octets in
    ap (λ n. n + links.begun) (length-append begun rest ∙ ap (λ n. n + length rest) (packet_counts front (side_of station) channel octets (mark_of hearing.fate) hearing.verdict))
    ∙ add_by begins (length rest) links.begun
    ∙ ap (λ n. length rest + n) (sym (begun_if begins links (with_link station (hearing ∷ hearings) links)))
    ∙ count_from given one next after _ history each.1

count_is : (given : Given) → HasOneOther given → (history : List Event) → Each (FatesBefore given) [] history
    → length (links_begun (journal_of history)) ≡ (links_of history).begun
unfolding links_begun journal_of links_of
count_is given one history each = add_zero _ ∙ count_from given one first_links [] [] history each

-- what is known of the packets up to a place of a run of a pair
pub fated_before : (a b : List ℕ) (script : Script) (before rest : List Event) → history_of (run_of (given_of a b script)) ≡ before ++ rest
    → Each (FatesBefore (given_of a b script)) [] before
fated_before a b script before rest is =
    let given = given_of a b script in
    each_front (FatesBefore given) [] before rest (subst (Each (FatesBefore given) []) is (run_fated given))

-- at any time of a run of a pair, the journal has as many links as began
pub links_counted : (a b : List ℕ) (script : Script) (before rest : List Event) → history_of (run_of (given_of a b script)) ≡ before ++ rest
    → length (links_begun (journal_of before)) ≡ (links_of before).begun
links_counted a b script before rest is =
    count_is (given_of a b script) (pair_other a b script) before (fated_before a b script before rest is)
