-- Proof of `turns::feed_both`.
use Rattle.pair_world.proofs.Outcomes.{on_ok_more}
use Rattle.pair_world.proofs.WholeTurns.{fed_both, there_is}
use Rattle.pair_world.proofs.turns.feed_both.Goals as goal

pub returns-clause-ok : goal.returns-clause-ok
returns-clause-ok c =
    on_ok_more c.feed-2.result _ _ (λ go_b given plan history there up.
    fed_both given c.args.number c.from.result plan history c.args.pair.now.a c.args.pair.now.b c.feed.new.self c.feed-2.new.self
    c.args.log.now c.write.new.self c.feed.new.log c.feed-2.new.log c.a_on.result c.b_on.result c.feed_a.result c.feed_b.result up
    c.in_ok-write.ensures.ok c.from.ensures (there_is _ plan _ there c.a_on.ensures) (there_is _ plan _ there c.b_on.ensures)
    (there_is _ plan _ there c.feed_a.ensures) (there_is _ plan _ there c.feed_b.ensures) c.in_ok-feed.ensures.at go_b)
    c.feed-2.ensures.at
