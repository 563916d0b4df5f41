-- The answer of `ending::shut_ended_from`.
use Rattle.std.proofs.Common.{◌≡◌, None, is_some, if◌then◌else◌, set, arith, rules}
use Rattle.open_links.specs.Turns.{ending_in, place_without}
use Rattle.open_links.proofs.InTables.{left_one, left_others, swept_from}
use Rattle.open_links.proofs.ending.+shut_ended_from.Goals as goal

-- the place of the handle, and those after it
pub returns-clause-knows : goal.returns-clause-knows
returns-clause-knows g t c =
    let old = c.args.places.now in
    let is : c.shut_if.new.places ≡ (if is_some c.ending_at-reason.result then set old c.args.handle None else old)
    = search rules in
    swept_from c.args.handle old _ _ (omega (arith, c.if-place-places.false, c.places.ensures.count))
    (left_others c.args.handle c.ending_at-reason.result old _ is) c.shut_ended_from.ensures.places
    c.shut_ended_from.ensures.before
    (place_without ending_in) (left_one c.args.handle c.ending_at-reason.result old _ is ending_in
    c.ending_at-reason.ensures.reason)
    c.shut_ended_from.ensures.knows
