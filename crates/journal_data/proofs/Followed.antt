-- A link is followed as long as neither of its ends hears a packet that is mixed; then both ends are in agreement.
use Rattle.std.proofs.Common.{◌≡◌, ℕ, ◌+◌, ◌⊎◌, inl, inr, true, false, Some, List, [], ◌∷◌, ◌++◌, map, refl, sym, ap, subst, ◌∙◌, append_assoc, arith}
use Rattle.std.specs.List.{Contains}
use Rattle.ble_base.specs.declared.notes.Note.{Note}
use Rattle.journal.specs.declared.entries.Entry.{Entry}
use Rattle.journal_acks.specs.controller_model.Step.{PacketHeard}
use Rattle.journal_acks.specs.link_model.OneLink.{AreInAgreement}
use Rattle.journal_acks.specs.link_model.Setup.{Setup as EndSetup}
use Rattle.journal_acks.specs.open_links.OpenLinks.{OpenLink, facts_in, link_at}
use Rattle.journal_acks.specs.run_laws.Ends.{AreEnds, IsOpen, OpenEnd}
use Rattle.journal_acks.specs.run_model.Feeding.{AreDistinct, is_note}
use Rattle.journal_acks.specs.run_model.History.{Event, Called, Noted, Transmitted}
use Rattle.journal_acks.specs.run_model.Journal.{journal_of}
use Rattle.journal_acks.specs.run_model.LinkEnds.{HasConnectInd, HaveAddresses}
use Rattle.journal_acks.specs.run_model.Links.{links_of}
use Rattle.journal_acks.specs.run_model.NoteLines.{IsLineInCall, LinkLine}
use Rattle.journal_acks.specs.run_model.Run.{Given, facts_at, history_of, run_of}
use Rattle.journal_acks.proofs.run_model.Stations.{is_in}
use Rattle.journal_acks.proofs.run_laws.Agreed.{ack_of}
use Rattle.journal_acks.proofs.journal_links.OfTwo.{of_two_stations}
use Rattle.journal_acks.proofs.Exchanging.{number_at}
use Rattle.journal_acks.proofs.TwoStations.{IsOfTwo, other_of}
use Rattle.run_pairs.specs.InTurns.{HearEachInTurn, HearNoMixed, HearsNoMixed}
use Rattle.journal_data.specs.Followed.{Follows, Mixed}

-- a station of two is one of the list
pub is_of_two : (given : Given) → IsOfTwo given → (station : ℕ) → is_in station given.stations ≡ true → Contains given.stations station
is_of_two given are station found = by (of_two_stations given are station found)
  where
    by : (station ≡ 0) ⊎ (station ≡ 1) → Contains given.stations station
    by (inl is) = subst (λ xs. Contains xs station) (sym are) (subst (Contains (0 ∷ 1 ∷ [])) (sym is) (0, omega arith, refl))
    by (inr is) = subst (λ xs. Contains xs station) (sym are) (subst (Contains (0 ∷ 1 ∷ [])) (sym is) (1, omega arith, refl))

-- ---- more events

abbrev connect_more : (history more : List Event) (station : ℕ) (end : EndSetup) → HasConnectInd history station end → HasConnectInd (history ++ more) station end
connect_more history more station end has = record {
  sent = has.sent;
  before = has.before;
  after = has.after ++ more;
  is_at = ap (λ events. events ++ more) has.is_at
      ∙ append_assoc has.before (Transmitted has.sent.sender has.sent.channel has.sent.octets has.sent.hearings ∷ has.after) more;
  in_turn = has.in_turn;
  on_channel = has.on_channel;
  says = has.says;
  fields_are = has.fields_are;
  is_at_end = has.is_at_end;
}

abbrev pub ends_more : (history more : List Event) (central peripheral : OpenEnd) → AreEnds history central peripheral → AreEnds (history ++ more) central peripheral
ends_more history more central peripheral ends = record {
  of_central = connect_more history more central.station central.link.setup ends.of_central;
  of_peripheral = connect_more history more peripheral.station peripheral.link.setup ends.of_peripheral;
  same = ends.same;
  is_central = ends.is_central;
  is_peripheral = ends.is_peripheral;
}

-- what is heard in them is heard in more
hears_fewer : (given : Given) (history more : List Event) (end far : OpenEnd) → HearsNoMixed given (history ++ more) end far → HearsNoMixed given history end far
hears_fewer given history more end far hears before after octets link there is =
    hears before (after ++ more) octets link there
    (ap (λ events. events ++ more) is ∙ append_assoc before (Called end.station (PacketHeard octets) ∷ after) more)

pub hear_fewer : (given : Given) (history more : List Event) (one other : OpenEnd) → HearNoMixed given (history ++ more) one other
    → HearNoMixed given history one other
hear_fewer given history more one other hear = record {
  one_hears = hears_fewer given history more one other hear.one_hears;
  other_hears = hears_fewer given history more other one hear.other_hears;
}

-- ---- more notes

-- an event that is no note comes before notes that follow
record IsEarlier (history before : List Event) (event : Event) : Type 0 where
  after : List Event
  is : history ≡ before ++ event ∷ after

none_noted : (station : ℕ) (notes : List Note) (before after : List Event) (event : Event) → is_note event ≡ false
    → map (Noted station) notes ≡ before ++ event ∷ after → ⊥
none_noted station [] [] after event none is = absurd cc
none_noted station [] (first ∷ before) after event none is = absurd cc
none_noted station (note ∷ notes) [] after event none is =
    let same : Noted station note ≡ event = cc in absurd (let h : true ≡ false = ap is_note same ∙ none in absurd cc)
none_noted station (note ∷ notes) (first ∷ before) after event none is = none_noted station notes before after event none cc

earlier : (station : ℕ) (notes : List Note) (history before after : List Event) (event : Event) → is_note event ≡ false
    → history ++ map (Noted station) notes ≡ before ++ event ∷ after → IsEarlier history before event
earlier station notes [] before after event none is = absurd (none_noted station notes before after event none is)
earlier station notes (first ∷ history) [] after event none is =
    let same : first ≡ event = cc in record { after = history; is = λ i. same i ∷ history }
earlier station notes (first ∷ history) (other ∷ before) after event none is =
    let same : first ≡ other = cc in
    let rest = earlier station notes history before after event none cc in record { after = rest.after; is = λ i. same i ∷ rest.is i }

module _ (given : Given) (station : ℕ) (notes : List Note) (history : List Event) where
  abbrev noted : List Event
  noted = history ++ map (Noted station) notes

  abbrev connect_fewer : (at : ℕ) (end : EndSetup) → HasConnectInd noted at end → HasConnectInd history at end
  connect_fewer at end has =
      let place = earlier station notes history has.before has.after
      (Transmitted has.sent.sender has.sent.channel has.sent.octets has.sent.hearings) refl has.is_at in
      record {
        sent = has.sent;
        before = has.before;
        after = place.after;
        is_at = place.is;
        in_turn = has.in_turn;
        on_channel = has.on_channel;
        says = has.says;
        fields_are = has.fields_are;
        is_at_end = has.is_at_end;
      }

  abbrev ends_fewer : (central peripheral : OpenEnd) → AreEnds noted central peripheral → AreEnds history central peripheral
  ends_fewer central peripheral ends = record {
    of_central = connect_fewer central.station central.link.setup ends.of_central;
    of_peripheral = connect_fewer peripheral.station peripheral.link.setup ends.of_peripheral;
    same = ends.same;
    is_central = ends.is_central;
    is_peripheral = ends.is_peripheral;
  }

  hears_noted : (end far : OpenEnd) → HearsNoMixed given history end far → HearsNoMixed given noted end far
  hears_noted end far hears before after octets link there is =
      let place = earlier station notes history before after (Called end.station (PacketHeard octets)) refl is in
      hears before place.after octets link there place.is

  hear_noted : (one other : OpenEnd) → HearNoMixed given history one other → HearNoMixed given noted one other
  hear_noted one other hear =
      record { one_hears = hears_noted one other hear.one_hears; other_hears = hears_noted other one hear.other_hears }

-- ---- a link that is followed

-- both ends of the link with this number: that of their CONNECT_IND
pub record AreEndsOf (history : List Event) (number : ℕ) (central peripheral : OpenEnd) : Type 0 where
  pub ends : AreEnds history central peripheral
  pub number_is : number ≡ (links_of ends.of_central.before).begun + 1

-- neither end of the link with this number has heard a packet that is mixed
abbrev pub IsFollowed : Given → List Event → ℕ → Type 0
IsFollowed given history number =
    (central peripheral : OpenEnd) → is_in central.station given.stations ≡ true → is_in peripheral.station given.stations ≡ true
    → AreEndsOf history number central peripheral → HearNoMixed given history central peripheral

pub followed_before : (given : Given) (history more : List Event) (number : ℕ) → IsFollowed given (history ++ more) number → IsFollowed given history number
followed_before given history more number followed central peripheral in_it in_too two =
    hear_fewer given history more central peripheral
    (followed central peripheral in_it in_too (record { ends = ends_more history more central peripheral two.ends; number_is = two.number_is }))

-- notes change nothing
pub followed_noted : (given : Given) (station : ℕ) (notes : List Note) (history : List Event) (number : ℕ) → IsFollowed given history number
    → IsFollowed given (history ++ map (Noted station) notes) number
followed_noted given station notes history number followed central peripheral in_it in_too two =
    hear_noted given station notes history central peripheral
    (followed central peripheral in_it in_too
    (record { ends = ends_fewer given station notes history central peripheral two.ends; number_is = two.number_is }))

-- a link that is not mixed by its lines is followed
pub followed_at : (given : Given) (mixed : Mixed) → Follows given mixed → IsOfTwo given → (before rest : List Event) → history_of (run_of given) ≡ before ++ rest
    → (number : ℕ) → mixed number (journal_of before) ≡ false → IsFollowed given before number
followed_at given mixed follows are_two before rest at number unmixed central peripheral in_it in_too two =
    follows.hears before rest central peripheral two.ends number at (is_of_two given are_two central.station in_it)
    (is_of_two given are_two peripheral.station in_too) two.number_is unmixed

-- and so it is before each line of a call, up to that call
pub followed_in_call : (given : Given) (mixed : Mixed) → Follows given mixed → IsOfTwo given → (front : List Entry) (line : LinkLine)
    (call : IsLineInCall given front line) → mixed line.number front ≡ false
    → IsFollowed given (call.base ++ Called call.station call.step ∷ []) line.number
followed_in_call given mixed follows are_two front line call unmixed =
    let called = call.base ++ Called call.station call.step ∷ [] in
    let notes = map (Noted call.station) call.earlier in
    let before = followed_at given mixed follows are_two call.before (Noted call.station (line.note call.handle) ∷ call.rest) call.is_at line.number
    (ap (mixed line.number) (sym call.front_is) ∙ unmixed) in
    followed_before given called notes line.number
    (subst (λ h. IsFollowed given h line.number)
    (call.before_is ∙ sym (append_assoc call.base (Called call.station call.step ∷ []) notes)) before)

-- so neither end of its link hears a packet that is mixed up to a call with a packet
pub hear_in_call : (given : Given) (mixed : Mixed) → Follows given mixed → IsOfTwo given → (front : List Entry) (line : LinkLine)
    (call : IsLineInCall given front line) → mixed line.number front ≡ false → (octets : List ℕ) → call.step ≡ PacketHeard octets
    → (number : ℕ) (central peripheral : OpenEnd) → is_in central.station given.stations ≡ true → is_in peripheral.station given.stations ≡ true
    → AreEndsOf call.base number central peripheral → number ≡ line.number
    → HearNoMixed given (call.base ++ Called call.station (PacketHeard octets) ∷ []) central peripheral
hear_in_call given mixed follows are_two front line call unmixed octets is number central peripheral in_it in_too two same =
    let called = Called call.station call.step ∷ [] in
    subst (λ s. HearNoMixed given (call.base ++ Called call.station s ∷ []) central peripheral) is
    (subst (IsFollowed given (call.base ++ called)) (sym same) (followed_in_call given mixed follows are_two front line call unmixed) central peripheral in_it in_too
    (record { ends = ends_more call.base called central peripheral two.ends; number_is = two.number_is }))

-- ---- agreement

-- both ends are in agreement as long as they hear no packet that is mixed
abbrev pub AgreeUnmixed : Given → Type 0
AgreeUnmixed given =
    (before rest : List Event) (central peripheral : OpenEnd) → Contains given.stations central.station → Contains given.stations peripheral.station
    → history_of (run_of given) ≡ before ++ rest → AreEnds before central peripheral → HearNoMixed given before central peripheral
    → IsOpen given before central → IsOpen given before peripheral
    → AreInAgreement (facts_in central.link).acknowledgement (facts_in peripheral.link).acknowledgement

-- an end of a station and the other one are in agreement, where their link is one of these
abbrev pub AgreeWhereFollowed : Given → (ℕ → Type 0) → ℕ → List Event → Type 0
AgreeWhereFollowed given Followed station history =
    (handle far_handle : ℕ) (link far : OpenLink) → link_at handle (facts_at given station history).links ≡ Some link
    → link_at far_handle (facts_at given (other_of station) history).links ≡ Some far
    → number_at (other_of station) far_handle history ≡ number_at station handle history → Followed (number_at station handle history)
    → AreInAgreement (ack_of link) (ack_of far)

-- which run_pairs gives, where the ends of two stations hear each other in turns
pub agree_unmixed : (given : Given) → IsOfTwo given → AreDistinct given.stations → HaveAddresses given
    → ((given : Given) (one other : ℕ) (before rest : List Event) (central peripheral : OpenEnd) → given.stations ≡ one ∷ other ∷ []
    → AreDistinct given.stations → HaveAddresses given → Contains given.stations central.station → Contains given.stations peripheral.station
    → history_of (run_of given) ≡ before ++ rest → AreEnds before central peripheral → HearEachInTurn given before central peripheral)
    → ((given : Given) (before rest : List Event) (central peripheral : OpenEnd) → AreDistinct given.stations → HaveAddresses given
    → Contains given.stations central.station → Contains given.stations peripheral.station → history_of (run_of given) ≡ before ++ rest
    → AreEnds before central peripheral → HearEachInTurn given before central peripheral → HearNoMixed given before central peripheral
    → IsOpen given before central → IsOpen given before peripheral
    → AreInAgreement (facts_in central.link).acknowledgement (facts_in peripheral.link).acknowledgement)
    → AgreeUnmixed given
agree_unmixed given are_two distinct six hear agree = λ before rest central peripheral is is_too at ends unmixed is_open is_open_too.
    agree given before rest central peripheral distinct six is is_too at ends
    (hear given 0 1 before rest central peripheral are_two distinct six is is_too at ends) unmixed is_open is_open_too
