-- The answers of `OpenLinks::report`.
use Rattle.std.proofs.Common.{◌∙◌, ◌++◌, ap, fold, map, subst, sym, refl}
use Rattle.acl_banks.specs.Banks.{bank_after_credited}
use Rattle.open_links.specs.declared.offers.Completed.{Completed}
use Rattle.open_links.specs.Data.{completed_from, links_reported}
use Rattle.open_links.specs.Knowing.{HeldLinks, Knows}
use Rattle.open_links.proofs.Steps.{holds_places, knows_handles, knows_pieces, knows_place, report_known, sound_after}
use Rattle.open_links.proofs.Within.{report_within}
use Rattle.open_links.proofs.links.OpenLinks.report.Goals as goal

pub returns-clause-completed : goal.returns-clause-completed
returns-clause-completed g c = λ links received known.
    let held = subst (λ (h : HeldLinks). Knows h links received) (sym c.self.view_is) known in
    c.completed_from.ensures.items links (knows_place _ links received held) (knows_handles _ links received held)
    (holds_places _ links received held) ∙ ap (λ items. items ++ completed_from 0 links) c.new-completed.ensures

pub returns-clause-knows : goal.returns-clause-knows
returns-clause-knows g c = λ links received known.
    let held = subst (λ (h : HeldLinks). Knows h links received) (sym c.self.view_is) known in
    let listed = c.as_slice.ensures.value ∙ c.completed_from.ensures.items links (knows_place _ links received held) (knows_handles _ links received held)
    (holds_places _ links received held) ∙ ap (λ items. items ++ completed_from 0 links) c.new-completed.ensures in
    report_known _ _ links received received held refl
    (c.report_all.ensures ∙ ap (λ items. fold bank_after_credited c.self.inside.tx (map (λ (one : Completed). one.handle) items)) listed)
    (knows_pieces _ links received held)

pub invariant_of-self : goal.invariant_of-self
invariant_of-self g c = (
  c.self.invariant.0,
  sound_after _ _ links_reported c.self.invariant.1
      (λ links known.
      let listed = c.as_slice.ensures.value ∙ c.completed_from.ensures.items links (knows_place _ links _ known) (knows_handles _ links _ known)
      (holds_places _ links _ known) ∙ ap (λ items. items ++ completed_from 0 links) c.new-completed.ensures in
      report_known _ _ links _ _ known refl
      (c.report_all.ensures ∙ ap (λ items. fold bank_after_credited c.self.inside.tx (map (λ (one : Completed). one.handle) items)) listed) refl)
      (λ links inside. report_within _ _ links inside),
)
