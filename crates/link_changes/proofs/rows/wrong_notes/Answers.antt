-- Proof of `rows::wrong_notes`: there is one indication, and its Instant is event 6.
use Rattle.std.proofs.Common.{◌≡◌, inl, inr, Some, refl, sym, subst, arith}
use Rattle.ble_base.specs.ChannelMap.{data_channels, used_channels}
use Rattle.data_pdu.specs.Layouts.{makers}
use Rattle.data_pdu.specs.Reading.{ctrl_of}
use Rattle.link_changes.specs.InForce.{ComesIntoForce}
use Rattle.link_changes.specs.Worked.{update_at}
use Rattle.link_changes.proofs.rows.wrong_notes.Goals as goal

not_early : ComesIntoForce 5 (record { change = update_at 6 6; taken_in = 0 }) → ⊥
not_early (inl is) = omega (arith, is)
not_early (inr (is, taken)) = omega (arith, is)

pub returns-clause-early : goal.returns-clause-early
unfolding ctrl_of makers used_channels data_channels
returns-clause-early c = λ rest is.
    let same : Some (record { change = update_at 6 6; taken_in = 0 }) ≡ Some is.taking = is.is_next in
    let one : record { change = update_at 6 6; taken_in = 0 } ≡ is.taking = cc in
    not_early (subst (ComesIntoForce 5) (sym one) is.in_time)

pub returns-clause-number : goal.returns-clause-number
unfolding ctrl_of makers used_channels data_channels
returns-clause-number c = λ rest is. let next = is.next in omega (arith, next)

pub returns-clause-alone : goal.returns-clause-alone
unfolding ctrl_of makers used_channels data_channels
returns-clause-alone c = λ is. let next = is.then_enters in absurd (cc)

pub returns-clause-right : goal.returns-clause-right
unfolding ctrl_of makers used_channels data_channels
returns-clause-right c = λ rest. record {
  next = refl;
  taking = record { change = update_at 6 6; taken_in = 0 };
  is_next = refl;
  in_time = inl refl;
  channel = 9;
  rest = rest;
  then_enters = refl;
}
