-- Proof of `notes::write_notes`.
use Rattle.std.proofs.Common.{◌∷◌, [], ◌<◌, List, get_or, length, subst, ap, ◌∙◌}
use Rattle.ble_base.specs.declared.notes.Note.{Note}
use Rattle.pair_world.specs.Logs.{entry_noted, with_entries}
use Rattle.pair_world.specs.KnownLinks.{with_note}
use Rattle.pair_world.proofs.Noting.{known_more, log_more}
use Rattle.pair_world.proofs.notes.write_notes.Goals as goal

pub loop-note-preserved : goal.loop-note-preserved
loop-note-preserved c =
    let notes = c.args.out.now.items in
    let place = c.loop-note.note-index in
    let note = c.note-item.result in
    let all = c.as_slice-note-items.ensures.value in
    let below = subst (λ (notes : List Note). place < length notes) all c.loop-note-test.true in
    let is = c.note-item.is ∙ ap (λ (notes : List Note). get_or notes place note) all in
    record {
      log = log_more c.args.side c.args.links.now c.args.log.now c.loop-note.log c.write_note.new.log c.loop-note.links notes place note
          c.loop-note.invariant.log c.loop-note.invariant.links below
          (c.in_ok-write_note.ensures.log
          ∙ ap (λ (note : Note). with_entries (entry_noted c.args.side c.loop-note.links note ∷ []) c.loop-note.log) is);
      links = known_more c.args.links.now c.loop-note.links c.write_note.new.links notes place note c.loop-note.invariant.links below
          (c.in_ok-write_note.ensures.links ∙ ap (with_note c.loop-note.links) is);
    }
