-- The proof of `chain_all`.
use Rattle.std.proofs.Common.{◌≡◌, ◌-◌, ◌+◌, sym, refl, subst, ◌∙◌, arith}
use Rattle.raw_block.proofs.Chains.{IsLaid, IsLaid-start, IsLaid-more, IsSound-laid}
use Rattle.raw_block.proofs.block.chain_all.Goals as goal

pub put-requires : goal.put-requires
put-requires g c =
    let kept = c.loop-done.invariant in let more = c.loop-done-test.true in
    (kept.region, (omega (arith, kept.laid.long, more), kept.laid.empty _ (omega (arith, more))))

pub loop-done-init : goal.loop-done-init
loop-done-init g c = record {
  region = c.requires.region.0;
  long = c.requires.region.1;
  laid = IsLaid-start c.args.most c.args.region.now.places.held c.requires.empty;
}

pub loop-done-preserved : goal.loop-done-preserved
loop-done-preserved g c =
    let kept = c.loop-done.invariant in let most = c.args.most in let done = c.loop-done.done in record {
      region = c.put.ensures.region;
      long = c.put.ensures.long ∙ kept.long;
      laid = subst (λ cells. IsLaid most (done + 1) cells) (sym c.put.ensures.held)
          (IsLaid-more most done c.loop-done.region.places.held (most - 1 - done) (most - done) c.loop-done-test.true refl refl kept.laid);
    }

pub returns-clause-sound : goal.returns-clause-sound
returns-clause-sound g c =
    let most = c.args.most in let cells = c.loop-done.region.places.held in
    let all : c.loop-done.done ≡ most = omega (arith, c.loop-done.auto.done-end, c.loop-done-test.false) in
    IsSound-laid most cells c.ranges.most.fits (subst (λ n. IsLaid most n cells) all c.loop-done.invariant.laid)
