-- The proof of `push_sum`.
use Rattle.std.proofs.Common.{◌≡◌, ◌-◌, ◌++◌, length, take, replicate, rules, ap, ◌∙◌, arith}
use Rattle.ccm_link.proofs.BlockOctets.{take-xor_of}
use Rattle.ccm_link.proofs.block.push_sum.Goals as goal

pub returns : goal.returns
returns g c =
    let octets = c.args.octets.now in
    let whole : length c.args.block ≡ 16 = search rules in
    c.put_octets.ensures.items
    ∙ ap (λ o. c.args.out.now.items ++ o)
    (ap (take (length octets)) c.add-sum.ensures ∙ take-xor_of c.args.block octets (replicate (16 - length octets) 0) (omega (arith, whole)))
