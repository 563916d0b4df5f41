-- Proof of `delivery::only_open_links_have_notes`.
use Rattle.controller_model.proofs.OpenNotes.{open_after, open_before}
use Rattle.controller_model.proofs.delivery.only_open_links_have_notes.Goals as goal

pub returns-clause-before : goal.returns-clause-before
returns-clause-before c = open_before

pub returns-clause-after : goal.returns-clause-after
returns-clause-after c = open_after
