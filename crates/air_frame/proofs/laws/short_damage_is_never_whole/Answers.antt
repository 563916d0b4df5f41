-- The proof of `short_damage_is_never_whole`.
use Rattle.air_frame.proofs.Damage.{short_damage}
use Rattle.air_frame.proofs.laws.short_damage_is_never_whole.Goals as goal

pub returns : goal.returns
returns c =
    short_damage c.short_change_is_seen.ensures c.whitening_goes_bit_by_bit.ensures c.whitening_is_linear.ensures.length
