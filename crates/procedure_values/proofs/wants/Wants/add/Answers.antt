-- An ask takes the place of one of its kind, or there is none of its kind and so room for it.
use Rattle.std.proofs.Common.{sym, ◌∙◌, arith}
use Rattle.procedure_values.specs.Asks.{kind_of_ask}
use Rattle.procedure_values.proofs.Counts.{wants_set, wants_push, none_wanted, room, same_place}
use Rattle.procedure_values.proofs.wants.Wants.add.Goals as goal

pub invariant_of-self : goal.invariant_of-self
invariant_of-self c =
    rw c.replace.ensures (wants_set c.self.inside.asks.items c.in-Some.place c.args.ask c.self.invariant c.requires
    (same_place _ _ _ _ _ c.kind.ensures (sym c.self.view_is) (sym c.place_of.ensures ∙ c.in-Some.is)))

pub push-requires : goal.push-requires
push-requires c = (
  omega arith,
  room (kind_of_ask c.args.ask) c.self.inside.asks.items c.self.invariant.once
      (none_wanted (kind_of_ask c.args.ask) c.self.inside.asks.items
      (same_place _ _ _ _ _ c.kind.ensures (sym c.self.view_is) (sym c.place_of.ensures ∙ c.in-None.is))),
)

pub invariant_of-self-in-None : goal.invariant_of-self-in-None
invariant_of-self-in-None c =
    rw c.push.ensures.items (wants_push c.self.inside.asks.items c.args.ask c.self.invariant c.requires
    (none_wanted (kind_of_ask c.args.ask) c.self.inside.asks.items
    (same_place _ _ _ _ _ c.kind.ensures (sym c.self.view_is) (sym c.place_of.ensures ∙ c.in-None.is))))
