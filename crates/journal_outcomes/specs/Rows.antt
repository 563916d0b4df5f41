-- Lines of the first link of a small run, in which the central's channel map and the peripheral's request cross, with
-- one mistake (Core 5.2, volume 6 part B, section 5.3).
use Rattle.std.specs.Prelude.{List, [], ◌∷◌, ◌++◌}
use Rattle.ble_base.specs.declared.procedure_kinds.Kind.TheVariants.{Request}
use Rattle.ble_base.specs.declared.roles.Side.TheVariants.{A}
use Rattle.journal.specs.declared.entries.Entry.{Entry}
use Rattle.journal.specs.declared.entries.Entry.TheVariants.{Done}
use Rattle.journal_crossing.specs.journal_collisions.Rows.{request_taken}

-- the central took the request, and sent nothing since, but the request is done
abbrev pub done_untaken : List Entry
done_untaken = request_taken ++ Done A 1 Request ∷ []
