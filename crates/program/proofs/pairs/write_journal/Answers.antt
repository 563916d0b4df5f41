-- Proof of `pairs::write_journal`.
use Rattle.std.proofs.Common.{◌≡◌, List, ◌++◌, ◌∙◌, ap, sym, append_assoc, arith}
use Rattle.std.proofs.lemmas.Grind.{flat_map-append}
use Rattle.journal.specs.declared.entries.Entry.{Entry}
use Rattle.journal.specs.Text.{line, text}
use Rattle.program.proofs.Endings.{handed_on, part_not_written}
use Rattle.program.proofs.Growth.{grew_more}
use Rattle.program.proofs.pairs.write_journal.Goals as goal

-- the text of a block, and then that of what comes after it
text_parts : (block later entries : List Entry) → block ++ later ≡ entries → text block ++ text later ≡ text entries
text_parts block later entries is = sym (flat_map-append line block later) ∙ ap text is

pub returns-in_err-write_block-clause-err : goal.returns-in_err-write_block-clause-err
returns-in_err-write_block-clause-err g c =
    let front = c.loop-rest.invariant.0 in
    let at = c.loop-rest.invariant.1 in
    let parts = text_parts _ _ _ c.split_block.ensures.all in
    handed_on c.from_residual.result _ c.in_err-write_block.field-0.0 c.from_residual.ensures.1
    (part_not_written g.O.Sink.written g.O.Sink.is_reliable g.O.Sink.faults _ _ _ front _ (text c.split_block.result.1.now) _ _
    at.wrote at.stays at.counts (ap (λ xs. front ++ xs) parts ∙ at.parts) c.in_err-write_block.ensures.err)

pub loop-rest-preserved : goal.loop-rest-preserved
loop-rest-preserved g c =
    let front = c.loop-rest.invariant.0 in
    let at = c.loop-rest.invariant.1 in
    let parts = text_parts _ _ _ c.split_block.ensures.all in (
      front ++ text c.split_block.result.0.now,
      record {
        wrote = grew_more _ _ _ _ _ at.wrote c.in_ok-write_block.ensures.ok;
        parts = append_assoc front _ _ ∙ ap (λ xs. front ++ xs) parts ∙ at.parts;
        stays = λ reliable. c.write_block.ensures.stays_reliable (at.stays reliable);
        counts = omega (arith, at.counts, c.write_block.ensures.counts);
      },
    )
