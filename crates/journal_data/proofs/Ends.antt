-- The ends that a station has of its links, and what is known of its lines.
use Rattle.std.proofs.Common.{◌≡◌, ℕ, ◌≤◌, Option, Some, None, List, [], length, refl, sym, ap, ◌∙◌, append-nil, arith}
use Rattle.std.specs.Option.{option_map}
use Rattle.std.specs.Prelude.{not}
use Rattle.std.specs.List.{filter, flat_map}
use Rattle.acl_banks.specs.History.{HostData}
use Rattle.journal_data.specs.HostLines.{has_octets}
use Rattle.journal_acks.proofs.link_model.Counts.{past_counted}
use Rattle.journal_acks.proofs.link_model.Sending.{past_in_order}
use Rattle.journal_acks.specs.open_links.OpenLinks.{OpenLink, facts_in, link_at}
use Rattle.journal_acks.specs.controller_model.Since.{data_waiting}
use Rattle.journal_acks.specs.run_model.Feeding.{HasNoted}
use Rattle.journal_acks.specs.run_model.History.{Event}
use Rattle.journal_acks.specs.run_model.Run.{Given, facts_at, setup_at}
use Rattle.journal_acks.proofs.Exchanging.{number_at}
use Rattle.journal_data.specs.Lines.{Lines, Received, empties_on, submitted_on}
use Rattle.journal_data.proofs.Credits.{AreFew, credited}
use Rattle.journal_data.proofs.EachLine.{lines_at}
use Rattle.journal_data.proofs.Middle.{IsFed}
use Rattle.journal_data.proofs.Sides.{End, IsFound, IsSound, found}
use Rattle.journal_data.proofs.NotedLines.{IsSameOn, below_from}
use Rattle.journal_data.proofs.StationLines.{IsStationBooked}
use Rattle.journal_data.proofs.Submitting.{HasFed, IsSubmitted}
use Rattle.journal_data.proofs.Tied.{tied}

abbrev pub end_of : ℕ → ℕ → List Event → Given → OpenLink → End
end_of station handle history given link =
    record { link = number_at station handle history; facts = facts_in link; waiting = data_waiting handle (facts_at given station history).received }

-- the ends that a station has, by handle
abbrev pub end_at : Given → ℕ → List Event → ℕ → Option End
end_at given station history handle = option_map (end_of station handle history given) (link_at handle (facts_at given station history).links)

-- what is known of the lines of a station
pub record IsWell (given : Given) (station : ℕ) (history : List Event) : Type 0 where
  pub noted : HasNoted given station history
  pub booked : IsStationBooked given station history
  pub submitted : IsSubmitted given station history
  pub fed : HasFed given station history
  pub few : AreFew given station history

pub sound : (given : Given) (station handle : ℕ) (history : List Event) (link : OpenLink) → (setup_at given station).links ≤ 4096
    → (setup_at given station).host_buffers ≡ 8 → IsWell given station history → link_at handle (facts_at given station history).links ≡ Some link
    → IsSound (end_of station handle history given link) (lines_at station history)
sound given station handle history link few eight well at = record {
  booked = tied given station handle history link few well.noted at (well.booked.book handle link at)
      (credited given station handle history link few eight well.noted well.few at)
      (well.submitted.data_is handle link at) (well.submitted.empties_are handle link at);
  order = past_in_order link.setup link.past;
  one_out = (past_counted link.setup link.past).1;
}

-- the link of an end
pub record IsEndOf (given : Given) (station : ℕ) (history : List Event) (handle : ℕ) (end : End) : Type 0 where
  pub link : OpenLink
  pub at : link_at handle (facts_at given station history).links ≡ Some link
  pub is : end_of station handle history given link ≡ end

pub from_end : (given : Given) (station : ℕ) (history : List Event) (handle : ℕ) (end : End) → end_at given station history handle ≡ Some end
    → IsEndOf given station history handle end
from_end given station history handle end is = by (link_at handle (facts_at given station history).links) refl is
  where
    by : (place : Option OpenLink) → link_at handle (facts_at given station history).links ≡ place
        → option_map (end_of station handle history given) place ≡ Some end → IsEndOf given station history handle end
    by None at is = absurd cc
    by (Some link) at is =
        let equal : Some (end_of station handle history given link) ≡ Some end = is in
        record { link = link; at = at; is = cc }

pub found_at : (given : Given) (station : ℕ) (history : List Event) (link : ℕ) → IsFound (end_at given station history) link
found_at given station history link =
    let links = (facts_at given station history).links in
    found (length links) (end_at given station history) link
    (λ handle end is. let of = from_end given station history handle end is in let below = below_from 0 handle links of.link of.at in omega (arith, below))

-- lines that say the same of a link
pub same_fed : (link : ℕ) (before after : Lines) → IsSameOn link before after → submitted_on link after ≡ submitted_on link before → IsFed link before after
same_fed link before after same submitted =
    let credits = same.credited in
    let empties : empties_on link after ≡ empties_on link before = ap (λ all. length (filter (λ (packet : HostData). not (has_octets packet)) all)) submitted in
    record {
      sent = same.sent;
      taken = same.taken;
      received = ap (flat_map (λ (one : Received). one.octets)) same.received;
      credited = omega (arith, credits, empties);
      submitted = record { more = []; is = submitted ∙ sym (append-nil (submitted_on link before)) };
    }
