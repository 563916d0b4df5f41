-- An event that is of no call of a station changes nothing of what is known of its lines.
use Rattle.std.proofs.Common.{Some, ◌≡◌, ℕ, Bool, false, List, [], ◌∷◌, ◌++◌, refl, sym, ap, subst, ◌∙◌, append-nil}
use Rattle.std.specs.Option.{option_map}
use mathlib.Core.Path.{fun_ext}
use Rattle.journal_acks.specs.open_links.OpenLinks.{OpenLink, facts_in, link_at}
use Rattle.journal_acks.specs.controller_model.Facts.{Facts}
use Rattle.journal_acks.specs.controller_model.Side.{facts_of, notes_after, notes_of}
use Rattle.journal_acks.specs.controller_model.Since.{data_waiting, empties_of}
use Rattle.journal_acks.specs.controller_model.Step.{Step, HostOctet}
use Rattle.journal_acks.specs.run_model.History.{Event, TurnBegan, HostFed, Transmitted, Hearing, noted_by, notes_in, past_of, steps_in}
use Rattle.journal_acks.specs.run_model.Journal.{side_of}
use Rattle.journal_acks.specs.run_model.Run.{Given, after_call, after_feed, after_octets, facts_at, setup_at}
use Rattle.journal_acks.proofs.run_model.Calls.{flat_nothing, noted_called, past_other}
use Rattle.journal_acks.proofs.run_model.LinksKnown.{link_by_other}
use Rattle.journal_acks.specs.journal_packets.Belonging.{is_side}
use Rattle.journal_data.specs.Lines.{Lines, data_on, empties_on}
use Rattle.journal_data.proofs.EachLine.{air_lines, fed_other, lines_at, turn_lines, other_lines}
use Rattle.journal_data.proofs.Ends.{IsWell, end_at}
use Rattle.journal_data.proofs.FewComplete.{IsFedBetween}
use Rattle.journal_data.proofs.StationLines.{not_one, numbers_event, same_booked, same_lines}
use Rattle.journal_data.proofs.Submitting.{IsSubmitted}
use Rattle.journal_data.proofs.EachLine.{numbers_at}

pub record SeesSame (station : ℕ) (history after : List Event) : Type 0 where
  pub lines : lines_at station after ≡ lines_at station history
  pub number : numbers_at station after ≡ numbers_at station history
  pub past : past_of station after ≡ past_of station history
  pub noted : noted_by station after ≡ noted_by station history

pub sees_then : (station : ℕ) (first second third : List Event) → SeesSame station first second → SeesSame station second third → SeesSame station first third
sees_then station first second third one next = record {
  lines = next.lines ∙ one.lines;
  number = next.number ∙ one.number;
  past = next.past ∙ one.past;
  noted = next.noted ∙ one.noted;
}

sees_itself : (station : ℕ) (history : List Event) → SeesSame station history history
sees_itself station history = record { lines = refl; number = refl; past = refl; noted = refl }

-- ---- what stays

module _ (given : Given) (station : ℕ) (history after : List Event) (same : SeesSame station history after) where
  pub same_facts : facts_at given station after ≡ facts_at given station history
  same_facts = ap (facts_of (setup_at given station)) same.past

  was_at : (handle : ℕ) (link : OpenLink) → link_at handle (facts_at given station after).links ≡ Some link
      → link_at handle (facts_at given station history).links ≡ Some link
  was_at handle link at = ap (λ (f : Facts). link_at handle f.links) (sym same_facts) ∙ at

  same_submitted : IsSubmitted given station history → IsSubmitted given station after
  same_submitted submitted = record {
    data_is = λ handle link at. (λ i. data_on (same.number i handle) (same.lines i)) ∙ submitted.data_is handle link (was_at handle link at);
    empties_are = λ handle link at. (λ i. empties_on (same.number i handle) (same.lines i)) ∙ submitted.empties_are handle link (was_at handle link at)
        ∙ ap (empties_of (setup_at given station) handle) (sym same.past);
  }

  pub same_well : IsWell given station history → IsWell given station after
  same_well well = record {
    noted = same.noted ∙ well.noted ∙ ap (notes_of (setup_at given station)) (sym same.past);
    booked = same_booked given station history after same.number same_facts same.noted (same_lines (lines_at station history) (lines_at station after) same.lines) well.booked;
    submitted = same_submitted well.submitted;
    fed = ap (λ (lines : Lines). lines.fed) same.lines ∙ well.fed ∙ ap (λ (f : Facts). f.octets) (sym same_facts);
    few = record { fed = subst IsFedBetween (sym same.past) well.few.fed };
  }

  pub same_end : end_at given station after ≡ end_at given station history
  same_end = λ i handle. option_map (λ (link : OpenLink). record { link = same.number i handle; facts = facts_in link; waiting = data_waiting handle (same_facts i).received })
      (link_at handle (same_facts i).links)

-- ---- events that are of no call of it

pub sees_turn : (station : ℕ) (history : List Event) (slot : ℕ) (radios : List Bool) → SeesSame station history (history ++ TurnBegan slot radios ∷ [])
sees_turn station history slot radios = record {
  lines = turn_lines station history slot radios;
  number = numbers_event station history (TurnBegan slot radios) refl;
  past = flat_nothing (steps_in station) history (TurnBegan slot radios) refl;
  noted = flat_nothing (notes_in station) history (TurnBegan slot radios) refl;
}

pub sees_packet : (station : ℕ) (history : List Event) (sender channel : ℕ) (octets : List ℕ) (hearings : List Hearing)
    → SeesSame station history (history ++ Transmitted sender channel octets hearings ∷ [])
sees_packet station history sender channel octets hearings = record {
  lines = air_lines station history sender channel octets hearings;
  number = numbers_event station history (Transmitted sender channel octets hearings) refl;
  past = flat_nothing (steps_in station) history (Transmitted sender channel octets hearings) refl;
  noted = flat_nothing (notes_in station) history (Transmitted sender channel octets hearings) refl;
}

pub sees_other_call : (given : Given) (station other : ℕ) (step : Step) (history : List Event) → is_side (side_of other) (side_of station) ≡ false
    → SeesSame station history (after_call given other step history)
sees_other_call given station other step history differs =
    let notes = notes_after (setup_at given other) (facts_at given other history) step in
    let apart = not_one station other differs in
    record {
      lines = other_lines station other step notes history differs;
      number = fun_ext (λ handle. link_by_other other step notes history station handle apart);
      past = past_other station other step notes history apart;
      noted = noted_called station other step notes history false apart ∙ append-nil (noted_by station history);
    }

sees_fed : (station other : ℕ) (octets : List ℕ) (history : List Event) → is_side (side_of other) (side_of station) ≡ false
    → SeesSame station history (history ++ HostFed other octets ∷ [])
sees_fed station other octets history differs = record {
  lines = fed_other station other history octets differs;
  number = numbers_event station history (HostFed other octets) refl;
  past = flat_nothing (steps_in station) history (HostFed other octets) refl;
  noted = flat_nothing (notes_in station) history (HostFed other octets) refl;
}

sees_other_octets : (given : Given) (station other : ℕ) (octets : List ℕ) (history : List Event) → is_side (side_of other) (side_of station) ≡ false
    → SeesSame station history (after_octets given other octets history)
sees_other_octets given station other [] history differs = sees_itself station history
sees_other_octets given station other (octet ∷ octets) history differs =
    let next = after_call given other (HostOctet octet) history in
    sees_then station history next _ (sees_other_call given station other (HostOctet octet) history differs)
    (sees_other_octets given station other octets next differs)

pub sees_other_feed : (given : Given) (station other : ℕ) (octets : List ℕ) (history : List Event) → is_side (side_of other) (side_of station) ≡ false
    → SeesSame station history (after_feed given other octets history)
sees_other_feed given station other [] history differs = sees_itself station history
sees_other_feed given station other (octet ∷ octets) history differs =
    let fed = history ++ HostFed other (octet ∷ octets) ∷ [] in
    sees_then station history fed _ (sees_fed station other (octet ∷ octets) history differs)
    (sees_other_octets given station other (octet ∷ octets) fed differs)
