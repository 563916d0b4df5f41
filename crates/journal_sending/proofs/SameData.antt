-- Steps of an end in which its host gives it no data, and it sends none.
use Rattle.std.proofs.Common.{◌≡◌, ℕ, Bool, false, List, refl, sym, ap, ◌∙◌}
use Rattle.journal_leaving.specs.link_model.Acknowledgement.{Acknowledgement}
use Rattle.journal_leaving.specs.link_model.End.{facts_after}
use Rattle.journal_leaving.specs.link_model.Facts.{Facts}
use Rattle.journal_leaving.specs.link_model.Hearing.{is_on_air}
use Rattle.journal_leaving.specs.link_model.Step.{Step, PacketReceived}
use Rattle.journal_leaving.specs.journal_data.open_links.OpenLinks.{OpenLink, facts_in, link_after}
use Rattle.journal_leaving.proofs.journal_data.DataSteps.{IsOwnStep}
use Rattle.journal_leaving.proofs.journal_data.SameGiven.{own_same}
use Rattle.journal_leaving.proofs.journal_acks.PhaseNotes.{sent_same}
use Rattle.journal_leaving.proofs.link_model.Agreeing.{others_leave}
use Rattle.journal_leaving.proofs.journal_data.run_laws.Agreed.{step_facts}

-- an end with these facts was given, and has sent, what one with those was and has
pub record HasSameData (one other : Facts) : Type 0 where
  pub given : one.outgoing.given ≡ other.outgoing.given
  pub sent : one.acknowledgement.sent ≡ other.acknowledgement.sent

pub same_data : (facts : Facts) → HasSameData facts facts
same_data facts = record { given = refl; sent = refl }

pub same_then : (one two three : Facts) → HasSameData one two → HasSameData two three → HasSameData one three
same_then one two three first later = record { given = first.given ∙ later.given; sent = first.sent ∙ later.sent }

pub step_same : (step : Step) (link : OpenLink) → IsOwnStep step → is_on_air step ≡ false → HasSameData (facts_after link.setup (facts_in link) step) (facts_in link)
step_same step link own off = record {
  given = sym (ap (λ (f : Facts). f.outgoing.given) (step_facts link step)) ∙ own_same step link own;
  sent = ap (λ (a : Acknowledgement). a.sent) (others_leave link.setup (facts_in link) step off);
}

pub received_same : (slot : ℕ) (octets : List ℕ) (room : Bool) (link : OpenLink) → HasSameData (facts_in (link_after (PacketReceived slot octets room) link)) (facts_in link)
received_same slot octets room link =
    record { given = own_same (PacketReceived slot octets room) link tt; sent = (sent_same slot octets room link).sent }

pub same_back : (one two : Facts) → HasSameData one two → HasSameData two one
same_back one two same = record { given = sym same.given; sent = sym same.sent }
