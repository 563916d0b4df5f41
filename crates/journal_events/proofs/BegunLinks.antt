-- A link that stays as a turn begins is open once the turn has begun.
use Rattle.std.proofs.Common.{◌≡◌, ℕ, Bool, Some, sym, ap, ◌∙◌}
use Rattle.journal_sending.specs.journal_leaving.controller_model.Facts.{Facts, Setup}
use Rattle.journal_sending.specs.journal_leaving.controller_model.Links.{facts_ending}
use Rattle.journal_sending.specs.journal_leaving.controller_model.Side.{facts_after}
use Rattle.journal_sending.specs.journal_leaving.controller_model.Step.{TurnBegins}
use Rattle.journal_sending.specs.journal_leaving.journal_data.open_links.OpenLinks.{OpenLink, link_at}
use Rattle.journal_sending.specs.journal_leaving.journal_data.open_links.Turns.{due_in}
use Rattle.journal_sending.proofs.journal_leaving.controller_model.Always.{ending_is}
use Rattle.journal_sending.proofs.journal_leaving.journal_acks.link_calls.LinkCalls.{WasLinked}
use Rattle.journal_sending.proofs.journal_leaving.journal_acks.link_calls.UnderHandles.{HasStayed, staying_under}
use Rattle.journal_sending.proofs.journal_leaving.journal_data.NotedLines.{is_link}
use Rattle.journal_sending.proofs.journal_leaving.journal_data.Openness.{staying_open}

-- it was open before
pub has_stayed : (facts : Facts) (slot handle : ℕ) (link : OpenLink)
    → link_at handle (facts_ending slot facts).links ≡ Some link
    → HasStayed (due_in slot) (link_at handle facts.links) link
has_stayed facts slot handle link is_open =
    staying_under (due_in slot) handle facts.links link
    (ap (λ (f : Facts). link_at handle f.links) (sym (ending_is slot facts)) ∙ is_open)

pub begun_open : (setup : Setup) (facts : Facts) (slot : ℕ) (on : Bool) (handle : ℕ) (link : OpenLink)
    → link_at handle (facts_ending slot facts).links ≡ Some link
    → WasLinked handle (facts_after setup facts (TurnBegins slot on)).links
begun_open setup facts slot on handle link is_open =
    let stayed = has_stayed facts slot handle link is_open in
    let found = is_link (link_at handle (facts_after setup facts (TurnBegins slot on)).links)
    (staying_open setup facts slot on handle link stayed.was stayed.stays) in
    record { link = found.link; was = found.is }
