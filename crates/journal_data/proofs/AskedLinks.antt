-- The open links of a controller have the same data after a command that asks something of them.
use Rattle.std.proofs.Common.{◌≡◌, ℕ, ◌+◌, ◌==◌, Bool, true, false, Option, Some, None, [], ◌∷◌, length, ap, refl, subst, sym, ◌∙◌, arith}
use Rattle.std.specs.Prelude.{⊤, if◌then◌else◌}
use Rattle.std.proofs.lemmas.List.Sums.{sum_by-cons}
use Rattle.hci_cmd.specs.declared.command.Command.{Command}
use Rattle.journal_acks.specs.link_model.Data.{Data}
use Rattle.journal_acks.specs.link_model.Facts.{Facts as EndFacts}
use Rattle.journal_acks.specs.link_model.Step.{Step as EndStep}
use Rattle.journal_acks.proofs.link_model.Pasts.{grows}
use Rattle.journal_acks.specs.open_links.Data.{buffers_in, buffers_taken}
use Rattle.journal_acks.specs.open_links.OpenLinks.{Links, OpenLink, facts_in, link_after, link_from}
use Rattle.journal_acks.specs.controller_model.link_commands.declared.moments.Moment.{Moment}
use Rattle.journal_acks.specs.controller_model.link_commands.Commands.{is_about}
use Rattle.journal_acks.specs.controller_model.link_commands.LinksCommanded.{links_commanded_from, place_commanded}
use Rattle.journal_acks.proofs.controller_model.Asked.{IsAskedStep, asked_leaves_data, place_asked}

-- place by place
abbrev pub HasSameData : Option OpenLink → Option OpenLink → Type 0
HasSameData None None = ⊤
HasSameData (Some link) (Some after) = (facts_in after).outgoing ≡ (facts_in link).outgoing
HasSameData place after = ⊥

abbrev pub HaveSameData : Links → Links → Type 0
HaveSameData [] [] = ⊤
HaveSameData (place ∷ links) (other ∷ after) = HasSameData place other × HaveSameData links after
HaveSameData links after = ⊥

same_place : (place : Option OpenLink) → HasSameData place place
same_place None = tt
same_place (Some link) = refl

pub same_links : (links : Links) → HaveSameData links links
same_links [] = tt
same_links (place ∷ links) = (same_place place, same_links links)

pub asked_outgoing : (step : EndStep) (link : OpenLink) → IsAskedStep step → (facts_in (link_after step link)).outgoing ≡ (facts_in link).outgoing
asked_outgoing step link asks =
    ap (λ (facts : EndFacts). facts.outgoing) (grows link.setup link.past step) ∙ (asked_leaves_data step asks).outgoing link.setup (facts_in link)

place_same : (command : Command) (moment : Moment) (about : Bool) (place : Option OpenLink) → HasSameData place (place_commanded about command moment place)
place_same command moment about place =
    place_asked (HasSameData place) command moment about place (same_place place)
    (λ link step is asked asks. subst (λ one. HasSameData one (Some (link_after step link))) (sym is) (asked_outgoing step link asks))

pub commanded_same : (command : Command) (moment : Moment) (first : ℕ) (links : Links) → HaveSameData links (links_commanded_from first command moment links)
commanded_same command moment first [] = tt
commanded_same command moment first (place ∷ links) =
    (place_same command moment (is_about first command) place, commanded_same command moment (first + 1) links)

-- so they take the same buffers
place_buffers : (place after : Option OpenLink) → HasSameData place after → buffers_in after ≡ buffers_in place
place_buffers None None same = refl
place_buffers None (Some after) same = absurd same
place_buffers (Some link) None same = absurd same
place_buffers (Some link) (Some after) same = ap (λ (outgoing : Data). length outgoing.packets) same

pub same_buffers : (links after : Links) → HaveSameData links after → buffers_taken after ≡ buffers_taken links
same_buffers [] [] same = refl
same_buffers [] (other ∷ after) same = absurd same
same_buffers (place ∷ links) [] same = absurd same
same_buffers (place ∷ links) (other ∷ after) same =
    let before = sum_by-cons buffers_in place links in
    let now = sum_by-cons buffers_in other after in
    let here = place_buffers place other same.0 in
    let later = same_buffers links after same.1 in
    omega (arith, before, now, here, later)

-- and so under each handle
pub same_under : (first handle : ℕ) (links after : Links) → HaveSameData links after → HasSameData (link_from first handle links) (link_from first handle after)
same_under first handle [] [] same = tt
same_under first handle [] (other ∷ after) same = absurd same
same_under first handle (place ∷ links) [] same = absurd same
same_under first handle (place ∷ links) (other ∷ after) same = by (first == handle) (same_under (first + 1) handle links after same.1)
  where
    by : (own : Bool) → HasSameData (link_from (first + 1) handle links) (link_from (first + 1) handle after)
        → HasSameData (if own then place else link_from (first + 1) handle links) (if own then other else link_from (first + 1) handle after)
    by true rest = same.0
    by false rest = rest
