-- Proof of `lines::lines_of_a_link_are_its_notes`.
use Rattle.std.proofs.Common.{[], ◌∷◌, append-nil, sym}
use Rattle.run_laws.specs.run_model.Run.{history_of, run_of}
use Rattle.run_laws.proofs.run_model.Notes.{NotedBefore, run_noted}
use Rattle.run_laws.proofs.run_model.Numbers.{numbered_at, numbered_last}
use Rattle.run_laws.proofs.run_model.Places.{each_at}
use Rattle.run_laws.proofs.run_model.Stations.{contains_in}
use Rattle.journal_links.proofs.LineNotes.{lines_are_notes, lines_of_end, open_was_opened}
use Rattle.journal_links.proofs.OfTwo.{are_distinct, two_apart}
use Rattle.journal_links.proofs.lines.lines_of_a_link_are_its_notes.Goals as goal

pub returns : goal.returns
returns c = let understood = c.a_pdu_is_understood.ensures.says in let taken = c.connections_are_taken.ensures.taken in record {
  at_any_time = λ given before rest station handle are six contains is was.
      let in_it = contains_in given.stations station contains in
      lines_are_notes understood taken given (are_distinct given are) six station (two_apart given are station in_it) before rest handle is was;
  where_open = λ given before rest event station handle link are six contains is outside at.
      let in_it = contains_in given.stations station contains in
      let distinct = are_distinct given are in
      open_was_opened understood taken given distinct six station (two_apart given are station in_it) before (event ∷ rest) handle link is
      (numbered_at understood taken given before rest event distinct six is outside) at;
  of_its_end = λ given before rest event station handle link are six contains is outside at.
      let in_it = contains_in given.stations station contains in
      let distinct = are_distinct given are in
      lines_of_end understood taken given distinct six station (two_apart given are station in_it) before (event ∷ rest) handle link is
      (numbered_at understood taken given before rest event distinct six is outside)
      (each_at (NotedBefore given) (history_of (run_of given)) before rest event (run_noted given).each is outside station) at;
  open_at_the_end = λ given station handle link are six contains at.
      let in_it = contains_in given.stations station contains in
      let distinct = are_distinct given are in
      open_was_opened understood taken given distinct six station (two_apart given are station in_it) (history_of (run_of given)) [] handle link
      (sym (append-nil (history_of (run_of given)))) (numbered_last understood taken given distinct six) at;
  of_its_end_at_the_end = λ given station handle link are six contains at.
      let in_it = contains_in given.stations station contains in
      let distinct = are_distinct given are in
      lines_of_end understood taken given distinct six station (two_apart given are station in_it) (history_of (run_of given)) [] handle link
      (sym (append-nil (history_of (run_of given)))) (numbered_last understood taken given distinct six) ((run_noted given).noted station) at;
}
