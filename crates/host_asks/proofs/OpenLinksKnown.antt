-- The view knows the ends of all open links after an accepted command.
use Rattle.std.proofs.Common.{◌≡◌, ℕ, ◌+◌, ◌==◌, Bool, true, false, [], ◌∷◌, Option, Some, None, if◌then◌else◌, refl, ap, sym, ◌∙◌, subst, eqb-true}
use Rattle.ble_base.specs.declared.procedure_kinds.Kind.{Kind}
use Rattle.ble_base.specs.declared.notes.Note.TheVariants.{Done}
use Rattle.ble_base.specs.declared.roles.Role.{Role}
use Rattle.hci_cmd.specs.declared.command.Command.{Command}
use Rattle.hci_cmd.specs.declared.command.Command.TheVariants.{LeReadRemoteFeatures, ReadRemoteVersion}
use Rattle.procedure_events.specs.procedure_stages.Kinds.{role_of}
use Rattle.link_commands.specs.open_links.link_model.Setup.{Setup}
use Rattle.link_commands.specs.open_links.link_model.Facts.{Facts}
use Rattle.link_commands.specs.open_links.link_model.Step.{Step}
use Rattle.link_commands.proofs.open_links.link_model.KeyedPasts.{keeps_role}
use Rattle.link_commands.proofs.open_links.link_model.Pasts.{grows}
use Rattle.link_commands.specs.open_links.OpenLinks.{HasHandle, HaveHandles, Links, OpenLink, facts_in, link_at, link_from}
use Rattle.link_commands.proofs.open_links.Handles.{has_its_handle}
use Rattle.host_view.specs.View.{View}
use Rattle.host_view.specs.Changes.{view_after}
use Rattle.host_view.specs.Status.{status_of}
use Rattle.link_commands.specs.declared.moments.Moment.{Moment}
use Rattle.link_commands.specs.Commands.{facts_commanded, host_step_of, is_about}
use Rattle.host_asks.specs.Commands.{MayComeIf, WordsFit}
use Rattle.link_commands.specs.LinksCommanded.{known_in, link_after_if, links_commanded, links_commanded_from, open_link_commanded, place_commanded, view_commanded_on}
use Rattle.host_asks.specs.OpenEnds.{KnowsOpenEnds}
use Rattle.link_commands.specs.Views.{view_answered, view_commanded}
use Rattle.host_asks.specs.Views.{KnowsAt, leaves_other_links}
use Rattle.host_asks.proofs.EndsViewed.{command_known, command_may, other_known}
use Rattle.host_asks.proofs.Lasting.{lasted_if}
use Rattle.host_asks.proofs.LinksViewed.{differs, notes_other}

-- ---- one link

pub commanded_facts : (step : Option Step) (link : OpenLink) → facts_in (link_after_if step link) ≡ facts_commanded link.setup step (facts_in link)
commanded_facts None link = refl
commanded_facts (Some step) link = grows link.setup link.past step

commanded_setup : (step : Option Step) (link : OpenLink) → (link_after_if step link).setup ≡ link.setup
commanded_setup None link = refl
commanded_setup (Some step) link = refl

-- ---- what is under a handle

commanded_from : (command : Command) (moment : Moment) (first handle : ℕ) (links : Links)
    → link_from first handle (links_commanded_from first command moment links) ≡ place_commanded (is_about handle command) command moment (link_from first handle links)
commanded_from command moment first handle [] = none (is_about handle command)
  where
    none : (about : Bool) → None ≡ place_commanded about command moment None
    none true = refl
    none false = refl
commanded_from command moment first handle (place ∷ links) = by (first == handle) refl (commanded_from command moment (first + 1) handle links)
  where
    by : (same : Bool) → (first == handle) ≡ same
        → link_from (first + 1) handle (links_commanded_from (first + 1) command moment links)
        ≡ place_commanded (is_about handle command) command moment (link_from (first + 1) handle links)
        → (if same then place_commanded (is_about first command) command moment place else link_from (first + 1) handle (links_commanded_from (first + 1) command moment links))
        ≡ place_commanded (is_about handle command) command moment (if same then place else link_from (first + 1) handle links)
    by true is rest = ap (λ (h : ℕ). place_commanded (is_about h command) command moment place) (eqb-true first handle is)
    by false is rest = rest

commanded_handle : (command : Command) (moment : Moment) (handle : ℕ) (about : Bool) (place : Option OpenLink) → HasHandle handle place
    → HasHandle handle (place_commanded about command moment place)
commanded_handle command moment handle true None has = tt
commanded_handle command moment handle true (Some link) has =
    ap (λ (s : Setup). s.link.handle) (commanded_setup (host_step_of command moment link.setup.link.role (facts_in link).peer) link) ∙ has
commanded_handle command moment handle false place has = has

commanded_handles : (command : Command) (moment : Moment) (first : ℕ) (links : Links) → HaveHandles first links → HaveHandles first (links_commanded_from first command moment links)
commanded_handles command moment first [] have = tt
commanded_handles command moment first (place ∷ links) have =
    (commanded_handle command moment first (is_about first command) place have.0, commanded_handles command moment (first + 1) links have.1)

-- ---- the view

pub some_is : (one other : OpenLink) → Some one ≡ Some other → one ≡ other
some_is one other is = ap (λ (link : Option OpenLink). or_link link) is
  where
    or_link : Option OpenLink → OpenLink
    or_link None = one
    or_link (Some link) = link

-- for the link that the command is about, the view is that of one end
view_about : (view : View) (command : Command) (handle : ℕ) (links : Links) (link : OpenLink) → is_about handle command ≡ true → link_at handle links ≡ Some link
    → view_commanded_on view command links ≡ view_commanded view command handle (facts_in link).peer
view_about view (ReadRemoteVersion given) handle links link about is =
    subst (λ (h : ℕ). view_commanded_on view (ReadRemoteVersion given) links ≡ view_commanded view (ReadRemoteVersion given) h (facts_in link).peer) (eqb-true given handle about)
    (ap (λ (found : Option OpenLink). view_answered given (known_in (ReadRemoteVersion given) found) (view_after view (ReadRemoteVersion given)))
    (subst (λ (h : ℕ). link_at h links ≡ Some link) (sym (eqb-true given handle about)) is))
view_about view (LeReadRemoteFeatures given) handle links link about is =
    subst (λ (h : ℕ). view_commanded_on view (LeReadRemoteFeatures given) links ≡ view_commanded view (LeReadRemoteFeatures given) h (facts_in link).peer) (eqb-true given handle about)
    (ap (λ (found : Option OpenLink). view_answered given (known_in (LeReadRemoteFeatures given) found) (view_after view (LeReadRemoteFeatures given)))
    (subst (λ (h : ℕ). link_at h links ≡ Some link) (sym (eqb-true given handle about)) is))
view_about view command handle links link about is = refl

-- what is answered on one link is not known of another
answered_other : (view : View) (given handle : ℕ) (kind : Option Kind) (facts : Facts) → (given == handle) ≡ false → KnowsAt view handle facts
    → KnowsAt (view_answered given kind view) handle facts
answered_other view given handle None facts other known = known
answered_other view given handle (Some kind) facts other known =
    record {
      link = known.link;
      is_open = notes_other given handle view (Done given kind ∷ []) (refl, tt) (differs given handle other) ∙ known.is_open;
      knows = known.knows;
    }

view_other : (view : View) (command : Command) (handle : ℕ) (links : Links) (facts : Facts) → is_about handle command ≡ false → KnowsAt (view_after view command) handle facts
    → KnowsAt (view_commanded_on view command links) handle facts
view_other view (ReadRemoteVersion given) handle links facts about known = answered_other _ given handle _ facts about known
view_other view (LeReadRemoteFeatures given) handle links facts about known = answered_other _ given handle _ facts about known
view_other view command handle links facts about known = known

-- ---- the link under a handle

-- the view knows the end of it, until a procedure ends the link
abbrev pub IsKnownAt : View → Links → ℕ → Type 0
IsKnownAt view links handle = (link : OpenLink) → link_at handle links ≡ Some link → (facts_in link).control.ends ≡ None → KnowsAt view handle (facts_in link)

module _ (view : View) (command : Command) (moment : Moment) (links : Links) (ok : status_of view command ≡ 0)
    (leaves : leaves_other_links command ≡ true) (have : HaveHandles 0 links) (handle : ℕ) (known : IsKnownAt view links handle) where
  own_link : (link : OpenLink) → is_about handle command ≡ true → link_at handle links ≡ Some link
      → (facts_in (open_link_commanded command moment link)).control.ends ≡ None
      → KnowsAt (view_commanded_on view command links) handle (facts_in (open_link_commanded command moment link))
  own_link link about is lasts =
      subst (λ (f : Facts). KnowsAt (view_commanded_on view command links) handle f) (sym facts_are)
      (subst (λ (v : View). KnowsAt v handle (facts_commanded link.setup step (facts_in link))) (sym (view_about view command handle links link about is)) own)
    where
      step_by : Role → Option Step
      step_by role = host_step_of command moment role (facts_in link).peer

      step : Option Step
      step = host_step_of command moment link.setup.link.role (facts_in link).peer

      facts_are : facts_in (open_link_commanded command moment link) ≡ facts_commanded link.setup step (facts_in link)
      facts_are = commanded_facts step link

      goes : (facts_commanded link.setup step (facts_in link)).control.ends ≡ None
      goes = ap (λ (f : Facts). f.control.ends) (sym facts_are) ∙ lasts

      has : link.setup.link.handle ≡ handle
      has = subst (HasHandle handle) is (has_its_handle 0 handle links have)

      role : role_of (facts_in link).control.table.progress ≡ link.setup.link.role
      role = keeps_role link.setup link.past

      here_known : KnowsAt view handle (facts_in link)
      here_known = known link is (lasted_if link.setup (facts_in link) step (record { past = link.past; is = refl }) goes)

      -- by the role of its end
      by_end : (h : ℕ) → link.setup.link.handle ≡ h → is_about h command ≡ true → KnowsAt view h (facts_in link)
          → (facts_commanded link.setup (step_by (role_of (facts_in link).control.table.progress)) (facts_in link)).control.ends ≡ None
          → KnowsAt (view_commanded view command h (facts_in link).peer) h
          (facts_commanded link.setup (step_by (role_of (facts_in link).control.table.progress)) (facts_in link))
      by_end h is_handle about_h known_h lasts_h =
          subst (λ (n : ℕ). KnowsAt (view_commanded view command n (facts_in link).peer) n
          (facts_commanded link.setup (step_by (role_of (facts_in link).control.table.progress)) (facts_in link))) is_handle
          (command_known view link.setup command moment (facts_in link) ok (subst (λ (n : ℕ). is_about n command ≡ true) (sym is_handle) about_h)
          (subst (λ (n : ℕ). KnowsAt view n (facts_in link)) (sym is_handle) known_h) lasts_h)

      own : KnowsAt (view_commanded view command handle (facts_in link).peer) handle (facts_commanded link.setup step (facts_in link))
      own =
          subst (λ (r : Role). KnowsAt (view_commanded view command handle (facts_in link).peer) handle (facts_commanded link.setup (step_by r) (facts_in link))) role
          (by_end handle has about here_known
          (subst (λ (r : Role). (facts_commanded link.setup (step_by r) (facts_in link)).control.ends ≡ None) (sym role) goes))

  one_link : (about : Bool) (place : Option OpenLink) (link : OpenLink) → is_about handle command ≡ about → link_at handle links ≡ place
      → place_commanded about command moment place ≡ Some link → (facts_in link).control.ends ≡ None
      → KnowsAt (view_commanded_on view command links) handle (facts_in link)
  one_link true None link about found is lasts = absurd (cc)
  one_link true (Some before) link about found is lasts =
      subst (λ (l : OpenLink). KnowsAt (view_commanded_on view command links) handle (facts_in l)) (some_is (open_link_commanded command moment before) link is)
      (own_link before about found (subst (λ (l : OpenLink). (facts_in l).control.ends ≡ None) (sym (some_is (open_link_commanded command moment before) link is)) lasts))
  one_link false place link about found is lasts =
      view_other view command handle links (facts_in link) about (other_known view command handle (facts_in link) about leaves (known link (found ∙ is) lasts))

  pub link_known : IsKnownAt (view_commanded_on view command links) (links_commanded command moment links) handle
  link_known link is lasts =
      one_link (is_about handle command) (link_at handle links) link refl refl (sym (commanded_from command moment 0 handle links) ∙ is) lasts

-- ---- all links

pub links_known : (view : View) (command : Command) (moment : Moment) (links : Links) → status_of view command ≡ 0 → leaves_other_links command ≡ true
    → KnowsOpenEnds view links → KnowsOpenEnds (view_commanded_on view command links) (links_commanded command moment links)
links_known view command moment links ok leaves known =
    record {
      handles = commanded_handles command moment 0 links known.handles;
      each = λ handle. link_known view command moment links ok leaves known.handles handle (known.each handle);
    }

-- ---- the step on each link may come

pub end_may : (view : View) (command : Command) (handle : ℕ) (moment : Moment) (link : OpenLink) → status_of view command ≡ 0
    → is_about handle command ≡ true → KnowsAt view handle (facts_in link) → WordsFit moment
    → MayComeIf (host_step_of command moment link.setup.link.role (facts_in link).peer) (facts_in link)
end_may view command handle moment link ok about known words =
    subst (λ (r : Role). MayComeIf (host_step_of command moment r (facts_in link).peer) (facts_in link)) (keeps_role link.setup link.past)
    (command_may view command handle moment (facts_in link) ok about known words)

pub step_may : (view : View) (command : Command) (handle : ℕ) (moment : Moment) (links : Links) (link : OpenLink) → status_of view command ≡ 0
    → is_about handle command ≡ true → KnowsOpenEnds view links → link_at handle links ≡ Some link → (facts_in link).control.ends ≡ None
    → WordsFit moment → MayComeIf (host_step_of command moment link.setup.link.role (facts_in link).peer) (facts_in link)
step_may view command handle moment links link ok about known is lasts words =
    end_may view command handle moment link ok about (known.each handle link is lasts) words
