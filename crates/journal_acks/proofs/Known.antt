-- What is known of the links of a journal at each place of a run of two stations.
use Rattle.std.proofs.Common.{◌≡◌, ℕ, suc, ◌⊎◌, Some, List, [], ◌∷◌, ◌++◌, take, sym, ap, ◌∙◌, append_assoc, arith}
use Rattle.std.specs.Prelude.{slice_get}
use Rattle.ble_base.specs.declared.notes.Note.TheVariants.{Opened}
use Rattle.ble_base.specs.declared.roles.Role.{Role}
use Rattle.ble_base.specs.declared.roles.Role.TheVariants.{Central, Peripheral}
use Rattle.air_frame.specs.Packet.{access_octets}
use Rattle.journal_packets.specs.link_model.Setup.{Setup as EndSetup}
use Rattle.link_calls.specs.run_model.Due.{Each}
use Rattle.link_calls.specs.run_model.History.{Event, Noted, Transmitted}
use Rattle.link_calls.specs.run_model.Journal.{journal_of, side_of}
use Rattle.link_calls.specs.run_model.LinkEnds.{ConnectInd, HaveAddresses, IsAtEnd}
use Rattle.link_calls.specs.run_model.Links.{links_of}
use Rattle.link_calls.specs.run_model.Numbers.{HasNumber}
use Rattle.link_calls.specs.run_model.Run.{Given, setup_at}
use Rattle.link_calls.proofs.run_model.Fronts.{front_at}
use Rattle.link_calls.proofs.run_model.LinkEnds.{AreTaken, IsUnderstood}
use Rattle.link_calls.proofs.run_model.Numbers.{opening_at}
use Rattle.link_calls.proofs.run_model.Places.{each_at}
use Rattle.journal_packets.specs.run_laws.Access.{connects_sent}
use Rattle.journal_packets.proofs.run_laws.ConnectInds.{TakenInOrder}
use Rattle.journal_packets.proofs.run_laws.DistinctAccess.{AreApart}
use Rattle.journal_packets.proofs.run_laws.OpenedOnce.{opened_once}
use Rattle.link_calls.proofs.InRange.{ranges_in}
use Rattle.journal_packets.proofs.run_laws.TwoEnds.{all_in_shape}
use Rattle.journal_packets.proofs.run_laws.TwoStations.{are_two as of_both}
use Rattle.journal_packets.specs.journal_links.Begun.{LinkBegun, links_begun, with_number}
use Rattle.journal_packets.specs.journal_links.Opened.{central_side}
use Rattle.journal_packets.specs.Belonging.{first_number}
use Rattle.journal_packets.proofs.AccessOrder.{AreNth, first_is, sent_ordered}
use Rattle.journal_packets.proofs.journal_links.LineNotes.{lines_of_end}
use Rattle.journal_packets.proofs.journal_links.LinkLines.{fresh}
use Rattle.journal_packets.proofs.journal_links.OfTwo.{are_distinct, of_two_stations, other_of, two_apart}
use Rattle.journal_packets.proofs.SentLinks.{IsOfTwo, begun_are_sent, link_begun, links_sent, sent_at}
use Rattle.journal_packets.proofs.SoFar.{IsBelongingSoFar, belonging_kept, sends_on_its_link}
use Rattle.journal_acks.proofs.Counting.{AreKnown, IsBegun}
use Rattle.journal_acks.proofs.TwoStations.{side_same}

-- the CONNECT_IND of an end with a number is the link of the journal with that number
module _ (history : List Event) (number station : ℕ) (end : EndSetup) (two : Each IsOfTwo [] history) (has : HasNumber history number station end) where
  abbrev sent : ConnectInd
  sent = has.has.sent

  abbrev place : ℕ
  place = (links_of has.has.before).begun

  abbrev link : LinkBegun
  link = link_begun sent.sender has.has.before sent.ch_sel sent.fields

  at_place : slice_get (links_sent [] history) place ≡ Some link
  at_place =
      ap (λ (h : List Event). slice_get (links_sent [] h) place) has.has.is_at
      ∙ sent_at has.has.before has.has.after sent.sender sent.channel sent.octets sent.hearings sent.from sent.to sent.ch_sel sent.fields has.has.on_channel has.has.says

  next_number : number ≡ suc place
  next_number = has.number_is ∙ omega arith

  pub begun_as : IsBegun history number station end
  begun_as = record {
    link = link;
    is_link = ap (λ n. with_number n (links_begun (journal_of history))) next_number ∙ ap (λ xs. slice_get xs place) (begun_are_sent history two) ∙ at_place;
    fields = has.has.fields_are;
    slot = let turn = has.has.in_turn in omega (arith, turn);
  }

  sender_one : (sent.sender ≡ 0) ⊎ (sent.sender ≡ 1)
  sender_one = (each_at IsOfTwo history has.has.before has.has.after (Transmitted sent.sender sent.channel sent.octets sent.hearings) two has.has.is_at).is_one

  sender_side : (role : Role) → (station ≡ 0) ⊎ (station ≡ 1) → IsAtEnd role station end sent → side_of sent.sender ≡ central_side role (side_of station)
  sender_side Central one at = ap side_of at.0
  sender_side Peripheral one at = other_of sent.sender station sender_one one at.0

  -- the first link of its central that begins with its access address is this one
  pub fits_first : AreNth → AreApart → (given : Given) → Each (TakenInOrder given) [] history → (octets : List ℕ) → (station ≡ 0) ⊎ (station ≡ 1)
      → take 4 octets ≡ access_octets end.link.fields.access
      → first_number (central_side end.link.role (side_of station)) octets 1 (links_begun (journal_of history)) ≡ Some number
  fits_first nth apart given taken octets one begins =
      ap (λ s. first_number s octets 1 (links_begun (journal_of history))) (sym (sender_side end.link.role one has.has.is_at_end))
      ∙ ap (first_number (side_of sent.sender) octets 1) (begun_are_sent history two)
      ∙ first_is nth apart (side_of sent.sender) (setup_at given sent.sender).cursor (connects_sent sent.sender []) 1 place octets (links_sent [] history) link
      (sent_ordered given sent.sender sender_one [] history two taken) at_place (side_same sent.sender) (begins ∙ ap (λ f. access_octets f.access) (sym has.has.fields_are))
      ∙ ap Some (let is = has.number_is in omega (arith, is))

pub known_of : IsUnderstood → AreTaken → AreNth → AreApart → (given : Given) → given.stations ≡ 0 ∷ 1 ∷ [] → HaveAddresses given → AreKnown given (IsBelongingSoFar given)
known_of understood taken nth apart given are_two six = record {
  kept = belonging_kept understood taken given are_two six;
  front = λ at history q. front_at given at history q.front;
  begun = λ at history q station handle link in_it is_open. begun_as history _ station link.setup q.asked.sent (q.numbered.numbered station handle link is_open);
  fits = λ at history q station handle link octets in_it is_open begins.
      fits_first history _ station link.setup q.asked.sent (q.numbered.numbered station handle link is_open) nth apart given q.asked.counted.each octets
      (of_two_stations given are_two station in_it) begins;
  sends = λ phases done left station history are q channel octets wanted off. sends_on_its_link nth apart given are_two six phases done left station history are q channel octets wanted off;
  alone = λ at history q station one other a b in_it is_open is_open_too same.
      let front = front_at given at history q.front in
      opened_once given history front.rest station one other a b (are_distinct given are_two) in_it front.at is_open is_open_too same;
  lines = λ at history q station handle link in_it is_open.
      let front = front_at given at history q.front in
      lines_of_end understood taken given (are_distinct given are_two) six station (two_apart given are_two station in_it) history front.rest handle link front.at
      q.numbered.numbered (q.noted.noted station) is_open;
  fresh = λ at history q station handle role own peer before more in_it is.
      let front = front_at given at history q.front in
      let event = Noted station (Opened handle role own peer) in
      let whole = front.at ∙ ap (λ xs. xs ++ front.rest) is ∙ append_assoc before (event ∷ more) front.rest in
      let opening = opening_at understood taken given before (more ++ front.rest) station handle role own peer (are_distinct given are_two) six whole in
      fresh given station (two_apart given are_two station in_it) before opening.known opening.since (event ∷ (more ++ front.rest)) ((links_of before).last_of station) whole
      opening.is_at opening.number_is opening.unnoted;
  ranges = λ at history q station handle link in_it is_open.
      let front = front_at given at history q.front in
      ranges_in given history front.rest station handle link (are_distinct given are_two) in_it front.at is_open;
  shapes = λ whole at history q one other in_it in_too differs.
      let front = front_at given at history q.front in
      all_in_shape whole understood taken apart given six (are_distinct given are_two) (of_both given 0 1 are_two) history front.rest front.at one other in_it in_too differs;
}
