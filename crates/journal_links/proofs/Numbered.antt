-- The end of a link with a number is an end of the link of the journal with that number.
use Rattle.std.proofs.Common.{◌≡◌, ℕ, ◌+◌, ◌-◌, true, List, [], ◌∷◌, ◌++◌, length, Some, refl, sym, ap, ◌∙◌, append_assoc, arith}
use Rattle.std.specs.Prelude.{◌&&◌, ◌⊎◌, if◌then◌else◌}
use Rattle.std.proofs.lemmas.Bool.{and_from}
use Rattle.ble_base.specs.Side.{other_side}
use Rattle.ble_base.specs.declared.roles.Role.{Role}
use Rattle.ble_base.specs.declared.roles.Role.TheVariants.{Central, Peripheral}
use Rattle.ble_base.specs.declared.roles.Side.{Side}
use Rattle.ble_base.specs.declared.verdicts.Verdict.{Verdict}
use Rattle.adv_pdu.specs.declared.pdu.AdvPdu.TheVariants.{Connect}
use Rattle.journal.specs.declared.entries.Entry.{Entry}
use Rattle.journal.specs.declared.entries.Entry.TheVariants.{Air}
use Rattle.journal.specs.declared.entries.Mark.{Mark}
use Rattle.run_laws.specs.link_model.Setup.{Setup}
use Rattle.run_laws.specs.controller_model.Packets.{pdu_heard}
use Rattle.radio_replay.specs.Script.{Script}
use Rattle.run_laws.specs.run_model.History.{Event, Transmitted, Hearing}
use Rattle.run_laws.specs.run_model.Journal.{air_entries, journal_from, journal_of, mark_of, side_of}
use Rattle.run_laws.specs.run_model.LinkEnds.{ConnectInd, IsAtEnd}
use Rattle.run_laws.specs.run_model.Links.{is_advertising, links_after, links_of}
use Rattle.run_laws.specs.run_model.Numbers.{HasNumber}
use Rattle.run_laws.specs.run_model.Pair.{given_of}
use Rattle.run_laws.specs.run_model.Readers.{turns_of}
use Rattle.run_laws.specs.run_model.Run.{history_of, run_of}
use Rattle.run_laws.proofs.run_model.Fates.{FatesBefore, pair_other, turns_are}
use Rattle.run_laws.proofs.run_model.Journals.{two}
use Rattle.run_laws.proofs.run_model.LinkEnds.{IsUnderstood, pair_addresses}
use Rattle.run_laws.proofs.run_model.OfStations.{OfStations, run_of_stations}
use Rattle.run_laws.proofs.run_model.Ordered.{pair_distinct}
use Rattle.run_laws.proofs.run_model.Parts.{journal_more}
use Rattle.run_laws.proofs.run_model.Places.{each_at}
use Rattle.run_laws.proofs.run_model.Stations.{is_in}
use Rattle.run_laws.proofs.ByCalls.{last_turn}
use Rattle.journal_links.specs.Begun.{LinkBegun, begun_by, begun_in, is_offered, link_numbered, links_begun, links_from, offers_in, with_number}
use Rattle.journal_links.specs.Opened.{central_side}
use Rattle.journal_links.proofs.LinksBegun.{fated_before, links_counted, links_more, number_next}
use Rattle.journal_links.proofs.Offers.{offers_both}
use Rattle.journal_links.proofs.OfTwo.{other_of}

-- the link of a journal with a number, of which this is an end at a station
pub record IsLinkOf (journal : List Entry) (number station : ℕ) (end : Setup) : Type 0 where
  pub link : LinkBegun
  pub is_link : link_numbered number journal ≡ Some link
  pub fields_are : link.fields ≡ end.link.fields
  pub slot_is : link.slot ≡ end.opened
  pub central_is : link.central ≡ central_side end.link.role (side_of station)
  pub offers_two : link.two ≡ true

central_by : (role : Role) (station : ℕ) (end : Setup) (sent : ConnectInd) → (station ≡ 0) ⊎ (station ≡ 1) → (sent.sender ≡ 0) ⊎ (sent.sender ≡ 1)
    → IsAtEnd role station end sent → side_of sent.sender ≡ central_side role (side_of station)
central_by Central station end sent here there at = ap side_of at.0
central_by Peripheral station end sent here there at = other_of sent.sender station there here at.0

-- the link of a CONNECT_IND that comes after these entries
abbrev link_after : List Entry → Side → ConnectInd → LinkBegun
link_after front side sent = record {
  central = side;
  slot = length (turns_of front) - 1;
  fields = sent.fields;
  two = sent.ch_sel && is_offered (offers_in (other_side side) front);
}

-- the entry of a packet with a CONNECT_IND
begun_one : (front : List Entry) (channel : ℕ) (octets : List ℕ) (side : Side) (sent : ConnectInd) → is_advertising channel ≡ true
    → pdu_heard channel octets ≡ Some (Connect sent.from sent.to sent.ch_sel sent.fields)
    → (mark : Mark) (verdict : Verdict) → begun_in front (Air side channel octets mark verdict) ≡ link_after front side sent ∷ []
begun_one front channel octets side sent on says mark verdict =
    let slot = length (turns_of front) - 1 in
    let offered = is_offered (offers_in (other_side side) front) in
    ap (λ b. if b then begun_by side slot offered (pdu_heard channel octets) else []) on ∙ ap (begun_by side slot offered) says

-- a packet with one hearing has one entry
record BeginsOne (front entries more : List Entry) (link : LinkBegun) : Type 0 where
  rest : List LinkBegun
  are : links_from front (entries ++ more) ≡ link ∷ rest

air_begins : (front : List Entry) (side : Side) (channel : ℕ) (octets : List ℕ) (hearings : List Hearing) (sent : ConnectInd) (more : List Entry) → length hearings ≡ 1
    → is_advertising channel ≡ true → pdu_heard channel octets ≡ Some (Connect sent.from sent.to sent.ch_sel sent.fields)
    → BeginsOne front (air_entries side channel octets hearings) more (link_after front side sent)
air_begins front side channel octets [] sent more one on says = absurd (omega (arith, one))
air_begins front side channel octets (hearing ∷ hearings) sent more one on says = record {
  rest = links_from (front ++ Air side channel octets (mark_of hearing.fate) hearing.verdict ∷ []) more;
  are = ap (λ links. links ++ links_from (front ++ Air side channel octets (mark_of hearing.fate) hearing.verdict ∷ []) more)
      (begun_one front channel octets side sent on says (mark_of hearing.fate) hearing.verdict);
}

-- at any time of a run of a pair
pub link_of_number : IsUnderstood → (a b : List ℕ) (script : Script) → length script.a.public ≡ 6 → length script.b.public ≡ 6 → (before rest : List Event)
    (number station : ℕ) (end : Setup) → history_of (run_of (given_of a b script)) ≡ before ++ rest → is_in station (given_of a b script).stations ≡ true
    → HasNumber before number station end → IsLinkOf (journal_of before) number station end
link_of_number understood a b script six six_too before rest number station end is in_it numbered =
    let given = given_of a b script in
    let has = numbered.has in
    let sent = has.sent in
    let event = Transmitted sent.sender sent.channel sent.octets sent.hearings in
    let front = journal_of has.before in
    let whole : history_of (run_of given) ≡ has.before ++ event ∷ (has.after ++ rest) =
    is ∙ ap (λ xs. xs ++ rest) has.is_at ∙ append_assoc has.before (event ∷ has.after) rest in
    let one = (each_at (FatesBefore given) before has.before has.after event (fated_before a b script before rest is) has.is_at (pair_other a b script)).1 in
    let sender = each_at (OfStations given) (history_of (run_of given)) has.before (has.after ++ rest) event (run_of_stations given) whole in
    let begun = link_after front (side_of sent.sender) sent in
    let more = journal_from (links_after (links_of has.before) event) has.after in
    let first = links_begun front in
    let begins = air_begins front (side_of sent.sender) sent.channel sent.octets sent.hearings sent more one has.on_channel has.says in
    let links : links_begun (journal_of before) ≡ first ++ begun ∷ begins.rest =
    ap (λ events. links_begun (journal_of events)) has.is_at ∙ ap links_begun (journal_more has.before (event ∷ has.after))
    ∙ links_more front (journal_from (links_of has.before) (event ∷ has.after)) ∙ ap (λ xs. first ++ xs) begins.are in
    let counted = links_counted a b script has.before (event ∷ (has.after ++ rest)) whole in
    let offers = offers_both understood given refl (pair_addresses a b script six six_too) (pair_distinct a b script) has.before (has.after ++ rest) sent.sender sent.channel
    sent.octets sent.hearings sent.from sent.to sent.ch_sel sent.fields whole has.on_channel has.says in record {
      link = begun;
      is_link = ap (with_number number) links
          ∙ number_next first begins.rest begun number (numbered.number_is ∙ ap (λ n. n + 1) (sym counted));
      fields_are = has.fields_are;
      slot_is = last_turn (length (turns_of front)) end.opened (turns_are has.before ∙ has.in_turn);
      central_is = central_by end.link.role station end sent (two station in_it) (two sent.sender sender) has.is_at_end;
      offers_two = and_from sent.ch_sel (is_offered (offers_in (other_side (side_of sent.sender)) front)) offers.own offers.other;
    }
