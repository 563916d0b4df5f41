-- The proof of `add`.
use Rattle.std.proofs.Common.{◌≡◌, ◌∙◌, length, get_or, bit_xor, rules, ap, sym, arith, add-one}
use Rattle.std.proofs.Math.ListN.{set}
use Rattle.ccm_link.proofs.BlockOctets.{partly, partly-more, partly_all}
use Rattle.ccm_link.proofs.block.add.Goals as goal

pub loop-place-preserved : goal.loop-place-preserved
loop-place-preserved c =
    let block = c.args.block in
    let octets = c.args.octets.now in
    let place = c.loop-place.place in
    let len : length block ≡ 16 = search rules in
    ap (λ sum. set sum place (bit_xor (get_or sum place 0) (get_or octets place 0))) c.loop-place.invariant
    ∙ partly-more block octets place (omega arith) (omega arith)
    ∙ ap (partly block octets) (sym (add-one place))

pub returns : goal.returns
returns c =
    let block = c.args.block in
    let octets = c.args.octets.now in
    let len : length block ≡ 16 = search rules in
    let end : c.loop-place.place ≡ length octets = omega arith in
    c.loop-place.invariant ∙ ap (partly block octets) end ∙ partly_all block octets len (omega arith)
