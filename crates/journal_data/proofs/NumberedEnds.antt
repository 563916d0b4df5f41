-- An open end with a number is an end of the link of the journal with that number, in a run of two stations.
use Rattle.std.proofs.Common.{◌≡◌, ℕ, suc, ◌⊎◌, Some, List, [], ◌∷◌, ◌++◌, ap, subst, ◌∙◌, arith}
use Rattle.std.specs.Prelude.{slice_get}
use Rattle.ble_base.specs.declared.roles.Role.{Role}
use Rattle.ble_base.specs.declared.roles.Role.TheVariants.{Central, Peripheral}
use Rattle.journal_acks.specs.journal_links.Begun.{LinkBegun, link_numbered, links_begun, with_number}
use Rattle.journal_acks.specs.journal_links.Opened.{central_side}
use Rattle.journal_acks.specs.link_model.Setup.{Setup as EndSetup}
use Rattle.journal_acks.specs.run_model.Due.{Each}
use Rattle.journal_acks.specs.run_model.History.{Event, Transmitted}
use Rattle.journal_acks.specs.run_model.Journal.{journal_of, side_of}
use Rattle.journal_acks.specs.run_model.LinkEnds.{ConnectInd, HaveAddresses, IsAtEnd}
use Rattle.journal_acks.specs.run_model.Links.{links_of}
use Rattle.journal_acks.specs.run_model.Numbers.{HasNumber}
use Rattle.journal_acks.specs.run_model.Run.{Given, history_of, run_of}
use Rattle.journal_acks.proofs.journal_links.OfTwo.{other_of}
use Rattle.journal_acks.proofs.journal_packets.SentLinks.{IsOfTwo, begun_are_sent, link_begun, links_sent, sent_at}
use Rattle.journal_acks.proofs.journal_packets.SoFar.{IsBelongingSoFar, belonging_first, belonging_kept}
use Rattle.journal_acks.proofs.run_model.Journals.{each_front}
use Rattle.journal_acks.proofs.run_model.LinkEnds.{AreTaken, IsUnderstood}
use Rattle.journal_acks.proofs.run_model.Places.{each_at}
use Rattle.journal_acks.proofs.run_model.Walk.{IsStopped, IsWhole, ends_with, run_kept}

-- a number names one link
pub same_link : (one other : LinkBegun) → Some one ≡ Some other → one ≡ other
same_link one other same = cc

-- an end at a station with this number: the link with it, and its central
pub record IsNumberedEnd (history : List Event) (number station : ℕ) (end : EndSetup) : Type 0 where
  pub link : LinkBegun
  pub is_link : link_numbered number (journal_of history) ≡ Some link
  pub central_is : link.central ≡ central_side end.link.role (side_of station)

module _ (history : List Event) (number station : ℕ) (end : EndSetup) (two : Each IsOfTwo [] history) (one : (station ≡ 0) ⊎ (station ≡ 1))
    (has : HasNumber history number station end) where
  abbrev sent : ConnectInd
  sent = has.has.sent

  abbrev place : ℕ
  place = (links_of has.has.before).begun

  abbrev begun : LinkBegun
  begun = link_begun sent.sender has.has.before sent.ch_sel sent.fields

  at_place : slice_get (links_sent [] history) place ≡ Some begun
  at_place =
      ap (λ (h : List Event). slice_get (links_sent [] h) place) has.has.is_at
      ∙ sent_at has.has.before has.has.after sent.sender sent.channel sent.octets sent.hearings sent.from sent.to sent.ch_sel sent.fields
      has.has.on_channel has.has.says

  next_number : number ≡ suc place
  next_number = has.number_is ∙ omega arith

  sender_one : (sent.sender ≡ 0) ⊎ (sent.sender ≡ 1)
  sender_one = (each_at IsOfTwo history has.has.before has.has.after (Transmitted sent.sender sent.channel sent.octets sent.hearings) two has.has.is_at).is_one

  sender_side : (role : Role) → IsAtEnd role station end sent → side_of sent.sender ≡ central_side role (side_of station)
  sender_side Central at = ap side_of at.0
  sender_side Peripheral at = other_of sent.sender station sender_one one at.0

  pub numbered_end : IsNumberedEnd history number station end
  numbered_end = record {
    link = begun;
    is_link = ap (λ n. with_number n (links_begun (journal_of history))) next_number ∙ ap (λ xs. slice_get xs place) (begun_are_sent history two) ∙ at_place;
    central_is = sender_side end.link.role has.has.is_at_end;
  }

-- each packet of a run of two stations is of one of them, and is heard once
run_of_two : IsUnderstood → AreTaken → (given : Given) → given.stations ≡ 0 ∷ 1 ∷ [] → HaveAddresses given → Each IsOfTwo [] (history_of (run_of given))
run_of_two understood taken given are_two six =
    ends_with (run_of given) (IsWhole given (IsBelongingSoFar given)) (IsStopped given (IsBelongingSoFar given)) (Each IsOfTwo [])
    (run_kept given (IsBelongingSoFar given) (belonging_kept understood taken given are_two six) (belonging_first given))
    (λ history whole. whole.is.asked.sent) (λ history stop stopped. stopped.kept.asked.sent)

pub front_of_two : IsUnderstood → AreTaken → (given : Given) → given.stations ≡ 0 ∷ 1 ∷ [] → HaveAddresses given → (before rest : List Event)
    → history_of (run_of given) ≡ before ++ rest → Each IsOfTwo [] before
front_of_two understood taken given are_two six before rest is =
    each_front IsOfTwo [] before rest (subst (Each IsOfTwo []) is (run_of_two understood taken given are_two six))
