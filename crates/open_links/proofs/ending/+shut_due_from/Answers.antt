-- The answer of `ending::shut_due_from`.
use Rattle.std.proofs.Common.{Bool, None, if◌then◌else◌, set, ap, ◌∙◌, arith}
use Rattle.open_links.specs.Turns.{due_in, place_without}
use Rattle.open_links.proofs.InTables.{left_one, left_others, swept_from}
use Rattle.open_links.proofs.ending.+shut_due_from.Goals as goal

-- the place of the handle, and those after it
pub returns-clause-knows : goal.returns-clause-knows
returns-clause-knows g t c =
    let old = c.args.places.now in
    let is = c.shut_if.ensures ∙ ap (λ (shuts : Bool). if shuts then set old c.args.handle None else old)
    c.is_some.ensures in
    swept_from c.args.handle old _ _ (omega (arith, c.if-place-places.false, c.places.ensures.count))
    (left_others c.args.handle c.due_at-reason.result old _ is) c.shut_due_from.ensures.places
    c.shut_due_from.ensures.before
    (place_without (due_in c.args.slot.0)) (left_one c.args.handle c.due_at-reason.result old _ is (due_in
    c.args.slot.0) c.due_at-reason.ensures)
    c.shut_due_from.ensures.knows
