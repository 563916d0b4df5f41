-- A line of a packet that is judged forged although it was not changed: the keys of both ends differ by the lines before it.
use Rattle.std.proofs.Common.{◌≡◌, ℕ, ◌&&◌, not, Bool, true, false, Option, Some, List, ◌∷◌, ◌++◌, refl, sym, ap, ◌∙◌}
use Rattle.std.proofs.lemmas.Bool.{eqb-true}
use Rattle.std.proofs.lemmas.Slice.Eq.{bytes_eq-Decides}
use Rattle.ble_base.specs.Side.{other_side}
use Rattle.ble_base.specs.declared.roles.Side.{Side}
use Rattle.ble_base.specs.declared.verdicts.Verdict.{Verdict}
use Rattle.ble_base.specs.declared.verdicts.Verdict.TheVariants.{Forged}
use Rattle.journal.specs.declared.entries.Entry.{Entry}
use Rattle.journal.specs.declared.entries.Entry.TheVariants.{Air}
use Rattle.journal.specs.declared.entries.Mark.{Mark}
use Rattle.journal_sealing.specs.journal_controls.LineSteps.{keyed_on}
use Rattle.journal_sealing.specs.journal_controls.journal_acks.Exchange.{is_number}
use Rattle.journal_sealing.specs.journal_controls.journal_acks.HeardBy.{IsHeardLine}
use Rattle.journal_sealing.specs.journal_controls.journal_acks.Held.{HasPayloadOfEnd}
use Rattle.journal_sealing.specs.journal_controls.journal_ends.Asked.{Words}
use Rattle.journal_sealing.specs.journal_controls.journal_ends.Left.{left_of}
use Rattle.journal_sealing.specs.journal_controls.journal_packets.Belonging.{link_of_packet}
use Rattle.journal_sealing.specs.journal_controls.link_model.Facts.{keyed_of}
use Rattle.journal_sealing.specs.journal_controls.link_model.keyed_control.Keyed.{Keyed}
use Rattle.journal_sealing.specs.journal_controls.open_links.OpenLinks.{facts_in}
use Rattle.journal_sealing.specs.journal_controls.run_model.History.{Event, Hearing, Transmitted, is_handed}
use Rattle.journal_sealing.specs.journal_controls.run_model.Journal.{journal_of, side_of}
use Rattle.journal_sealing.specs.journal_controls.run_model.LinkEnds.{HaveAddresses}
use Rattle.journal_sealing.specs.journal_controls.run_model.Links.{is_advertising, links_of}
use Rattle.journal_sealing.specs.journal_controls.run_model.Run.{Given, history_of, run_of}
use Rattle.radio_replay.specs.Damage.{damaged_packet}
use Rattle.journal_sealing.proofs.journal_acks.run_laws.DistinctAccess.{AreApart}
use Rattle.journal_sealing.proofs.journal_controls.journal_acks.TwoStations.{IsOfTwo}
use Rattle.journal_sealing.proofs.journal_controls.journal_links.OfTwo.{are_distinct}
use Rattle.journal_sealing.proofs.journal_controls.run_model.LinkEnds.{AreTaken, IsUnderstood}
use Rattle.journal_sealing.proofs.journal_controls.journal_ends.ForgedLinks.{left_is}
use Rattle.journal_data.proofs.Followed.{is_of_two}
use Rattle.journal_sealing.specs.Mixed.{is_mixed}
use Rattle.journal_sealing.proofs.UnmixedEnds.{KeysAreGiven}
use Rattle.journal_forgeries.specs.Forgeries.{AllForgedAreOfOtherKeys}
use Rattle.journal_forgeries.proofs.AirEnds.{ForgedDown, ForgedUp, HearInTurns, HearPure, other_keys}
use Rattle.journal_forgeries.proofs.PacketEnds.{far_link, far_number_is}
use Rattle.journal_forgeries.proofs.SentNow.{sent_now}

pub on_data : (on named : Bool) → (not on && named) ≡ true → (on ≡ false) × (named ≡ true)
on_data false true is = (refl, refl)
on_data false false is = absurd cc
on_data true named is = absurd cc

pub one_number : (found : Option ℕ) (number n : ℕ) → found ≡ Some n → is_number found number ≡ true → n ≡ number
one_number found number n is named = eqb-true n number (ap (λ may. is_number may number) (sym is) ∙ named)

-- an end by the lines before the packet is the one that the station holds
same_end : (words : Words) (side held : Side) (number n : ℕ) (front journal : List Entry) (one k : Keyed) → side ≡ held → number ≡ n → front ≡ journal
    → keyed_on words side number front ≡ Some one → keyed_on words held n journal ≡ Some k → one ≡ k
same_end words side held number n front journal one k sides numbers fronts is keeps =
    let h : Some one ≡ Some k = sym is ∙ (λ i. keyed_on words (sides i) (numbers i) (fronts i)) ∙ keeps in cc

same_keys : (one other far own : Keyed) → one ≡ far → other ≡ own → one.end.key ≡ other.end.key → far.end.key ≡ own.end.key
same_keys one other far own is is_too same = ap (λ (k : Keyed). k.end.key) (sym is) ∙ same ∙ ap (λ (k : Keyed). k.end.key) is_too

-- ---- what the laws of runs give

module _ (words : Words) (given : Given) where
  abbrev pub Heard : Type 0
  Heard =
      (front rest : List Entry) (side : Side) (channel : ℕ) (octets : List ℕ) (fate : Mark) (verdict : Verdict)
      → journal_of (history_of (run_of given)) ≡ front ++ Air side channel octets fate verdict ∷ rest → is_advertising channel ≡ false
      → is_handed verdict ≡ true → IsHeardLine given front side channel octets fate verdict

  abbrev pub HavePayloads : Type 0
  HavePayloads =
      (before rest : List Event) (station channel : ℕ) (octets : List ℕ) (hearings : List Hearing)
      → history_of (run_of given) ≡ before ++ Transmitted station channel octets hearings ∷ rest → is_advertising channel ≡ false
      → HasPayloadOfEnd given before station channel octets

  abbrev pub AllHear : Type 0
  AllHear = (before rest : List Event) → history_of (run_of given) ≡ before ++ rest → HearInTurns given before

  abbrev pub AllPure : Type 0
  AllPure =
      (before rest : List Event) (number : ℕ) → history_of (run_of given) ≡ before ++ rest → is_mixed words number (journal_of before) ≡ false
      → HearPure given before number

  abbrev pub AllDown : Type 0
  AllDown =
      (before rest : List Event) (station channel : ℕ) (octets : List ℕ) (hearings : List Hearing)
      → history_of (run_of given) ≡ before ++ Transmitted station channel octets hearings ∷ rest → ForgedDown given before station octets

  abbrev pub AllUp : Type 0
  AllUp =
      (before rest : List Event) (station channel : ℕ) (octets : List ℕ) (hearings : List Hearing)
      → history_of (run_of given) ≡ before ++ Transmitted station channel octets hearings ∷ rest → ForgedUp given before station octets

-- ---- a line

pub forged_line : (words : Words) → IsUnderstood → AreTaken → AreApart → (given : Given) → IsOfTwo given → HaveAddresses given → Heard words given → HavePayloads words given
    → KeysAreGiven words given → AllHear words given → AllPure words given → AllDown words given → AllUp words given
    → AllForgedAreOfOtherKeys words (journal_of (history_of (run_of given)))
forged_line words understood taken apart given are_two six heard payloads keys hear pure down up =
    λ front rest side channel octets fate number at of_link unchanged unmixed one other is_one is_other one_key.
    let parts = on_data (is_advertising channel) (is_number (link_of_packet front side octets) number) of_link in
    let off = parts.0 in
    let line = heard front rest side channel octets fate Forged at off refl in
    let aired = line.aired in
    let by_end = line.by_end in
    let before = aired.before in
    let station = aired.station in
    let from = payloads before aired.after station channel octets (aired.hearing ∷ aired.others) aired.is_at off in
    let now = sent_now given six (are_distinct given are_two) before aired.after station channel octets (aired.hearing ∷ aired.others) aired.is_at off in
    let in_station = is_of_two given are_two station now.in_it in
    let same : damaged_packet aired.hearing.fate octets ≡ octets =
    sym (ap (λ mark. left_of mark octets) aired.fate_is ∙ left_is aired.hearing.fate octets) ∙ (bytes_eq-Decides (left_of fate octets) octets).0 unchanged in
    let number_is : by_end.number ≡ number =
    one_number (link_of_packet front side octets) number by_end.number
    ((λ i. link_of_packet (aired.front_is i) (aired.side_is i) octets) ∙ by_end.belongs same) parts.1 in
    let far_is = far_number_is understood taken apart given are_two six before aired.after station channel octets aired.hearing aired.others aired.is_at by_end from.sent now same in
    let far = far_link understood taken apart given are_two six before aired.after station channel octets aired.hearing aired.others aired.is_at by_end from.sent now same in
    let event = Transmitted station channel octets (aired.hearing ∷ aired.others) in
    let one_is = same_end words side (side_of station) number ((links_of before).link_of station now.handle) front (journal_of before) one (keyed_of (facts_in far))
    aired.side_is (sym number_is ∙ far_is) aired.front_is is_one
    (keys before aired.after station channel octets (aired.hearing ∷ aired.others) station now.handle far in_station aired.is_at now.is_open) in
    let listener = aired.hearing.listener in
    let other_is = same_end words (other_side side) (side_of listener) number ((links_of before).link_of listener by_end.handle) front (journal_of before) other
    (keyed_of (facts_in by_end.link)) (ap other_side aired.side_is ∙ sym by_end.side_is) (sym number_is ∙ by_end.number_is) aired.front_is is_other
    (keys before aired.after station channel octets (aired.hearing ∷ aired.others) listener by_end.handle by_end.link by_end.listens aired.is_at by_end.is_open) in
    other_keys understood taken apart given are_two six before aired.after station channel octets aired.hearing aired.others aired.is_at in_station by_end from.sent now
    same (sym aired.verdict_is) (hear before (event ∷ aired.after) aired.is_at)
    (pure before (event ∷ aired.after) by_end.number aired.is_at ((λ i. is_mixed words (number_is i) (sym aired.front_is i)) ∙ unmixed))
    (down before aired.after station channel octets (aired.hearing ∷ aired.others) aired.is_at)
    (up before aired.after station channel octets (aired.hearing ∷ aired.others) aired.is_at)
    (same_keys one other (keyed_of (facts_in far)) (keyed_of (facts_in by_end.link)) one_is other_is one_key)
