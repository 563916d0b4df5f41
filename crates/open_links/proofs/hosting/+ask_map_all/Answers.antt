-- The answer of `hosting::ask_map_all`.
use Rattle.std.proofs.Common.{arith}
use Rattle.std.specs.Option.{option_map}
use Rattle.open_links.specs.Hosts.{link_asked_map}
use Rattle.open_links.proofs.InTables.{swept_from}
use Rattle.open_links.proofs.hosting.+ask_map_all.Goals as goal

-- the place of the handle, and those after it
pub returns-clause-knows : goal.returns-clause-knows
returns-clause-knows g t c =
    swept_from c.args.handle c.args.places.now _ _ (omega (arith, c.if-place-places.false, c.places.ensures.count))
    c.ask_map_at.ensures.others c.ask_map_all.ensures.places c.ask_map_all.ensures.before
    (option_map (link_asked_map c.args.map)) c.ask_map_at.ensures.knows c.ask_map_all.ensures.knows
