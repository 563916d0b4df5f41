-- The answers of `OpenLinks::shut_ended`.
use Rattle.std.proofs.Common.{◌∙◌, ◌++◌, ap, fold, map, subst, sym, refl}
use Rattle.acl_banks.specs.Banks.{bank_after_drop}
use Rattle.open_links.specs.declared.ended.LinkEnded.{LinkEnded}
use Rattle.open_links.specs.Ended.{received_ended}
use Rattle.open_links.specs.Turns.{ending_in, ends_by, links_without}
use Rattle.open_links.specs.Knowing.{HeldLinks, Knows}
use Rattle.open_links.proofs.Steps.{ended_known, knows_pieces, knows_place, sound_after}
use Rattle.open_links.proofs.Within.{stay_within}
use Rattle.open_links.proofs.links.OpenLinks.shut_ended.Goals as goal

pub returns-clause-knows : goal.returns-clause-knows
returns-clause-knows g c = λ links received known.
    let held = subst (λ (h : HeldLinks). Knows h links received) (sym c.self.view_is) known in
    let place = knows_place _ links received held in
    let ends = c.as_slice.ensures.value ∙ c.shut_ended_from.ensures.ends links place
    ∙ ap (λ items. items ++ ends_by ending_in 0 links) c.new-ended.ensures in
    ended_known ending_in _ _ links received _ held (c.shut_ended_from.ensures.knows links place)
    (c.drop_ended.ensures.tx ∙ ap (λ ends. fold bank_after_drop c.self.inside.tx (map (λ (one : LinkEnded). one.handle) ends)) ends)
    (c.drop_ended.ensures.rx ∙ ap (λ ends. received_ended ends c.self.inside.rx) ends
    ∙ ap (received_ended (ends_by ending_in 0 links)) (knows_pieces _ links received held))

pub invariant_of-self : goal.invariant_of-self
invariant_of-self g c = (
  c.self.invariant.0,
  sound_after _ _ (links_without ending_in) c.self.invariant.1
      (λ links known.
      let place = knows_place _ links _ known in
      let ends = c.as_slice.ensures.value ∙ c.shut_ended_from.ensures.ends links place
      ∙ ap (λ items. items ++ ends_by ending_in 0 links) c.new-ended.ensures in
      ended_known ending_in _ _ links _ _ known (c.shut_ended_from.ensures.knows links place)
      (c.drop_ended.ensures.tx ∙ ap (λ ends. fold bank_after_drop c.self.inside.tx (map (λ (one : LinkEnded). one.handle) ends)) ends) refl)
      (λ links inside. stay_within ending_in _ _ links inside),
)
