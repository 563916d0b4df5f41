-- Proof of `delivery::a_link_notes_its_pdus`.
use Rattle.controller_model.proofs.NoteBooks.{sent_notes_are, took_notes_are}
use Rattle.controller_model.proofs.delivery.a_link_notes_its_pdus.Goals as goal

pub returns-clause-sent : goal.returns-clause-sent
returns-clause-sent c = sent_notes_are

pub returns-clause-took : goal.returns-clause-took
returns-clause-took c = took_notes_are
