-- Proof of `delivery::a_link_notes_what_its_end_notes`.
use Rattle.controller_model.proofs.UnderNotes.{open_noted, shut_noted}
use Rattle.controller_model.proofs.delivery.a_link_notes_what_its_end_notes.Goals as goal

pub returns : goal.returns
returns c = record {
  open_link = λ setup past handle link is. open_noted handle setup past link is;
  shut_link = λ setup past handle is was. shut_noted handle setup past is was;
}
