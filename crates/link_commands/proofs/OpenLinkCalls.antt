-- The links after a command are those after one call on them.
use Rattle.std.proofs.Common.{◌≡◌, ℕ, ◌+◌, ◌<◌, ◌==◌, Bool, true, false, List, [], ◌∷◌, Option, Some, None, is_some, if◌then◌else◌, refl, ap, sym, ◌∙◌, subst, eqb-true, arith}
use Rattle.std.specs.Option.{option_map}
use Rattle.ble_base.specs.declared.roles.Role.{Role}
use Rattle.ble_base.specs.declared.roles.Role.TheVariants.{Central, Peripheral}
use Rattle.hci_cmd.specs.declared.command.Command.{Command}
use Rattle.hci_cmd.specs.declared.command.Command.TheVariants.{LeConnectionUpdate, LeReadRemoteFeatures, LeSetChannels, ReadRemoteVersion}
use Rattle.open_links.specs.procedure_values.declared.asks.Ask.{Ask}
use Rattle.open_links.specs.procedure_values.declared.asks.Ask.TheVariants.{Features, Version}
use Rattle.open_links.specs.link_model.Step.{ProcedureAsked}
use Rattle.open_links.specs.Hosts.{asked_map_by, link_asked_map, links_asked, links_asked_map}
use Rattle.open_links.specs.OpenLinks.{Links, OpenLink, facts_in, link_after, link_at, link_from, with_change, with_change_from}
use Rattle.link_commands.specs.declared.moments.Moment.{Moment}
use Rattle.link_commands.specs.Commands.{ask_unless, is_about, map_by, update_by}
use Rattle.link_commands.specs.LinksCommanded.{link_after_if, links_commanded, links_commanded_from, open_link_commanded, place_commanded}

-- ---- a command on one link

not_same : (a b : ℕ) → a < b → (a == b) ≡ false
not_same a b less = by (a == b) refl
  where
    by : (same : Bool) → (a == b) ≡ same → same ≡ false
    by true is = let h : a ≡ b = eqb-true a b is in absurd (omega (arith, h, less))
    by false is = refl

turned : (a b : ℕ) → (a == b) ≡ (b == a)
turned a b = by (a == b) (b == a) refl refl
  where
    self : (n : ℕ) → (n == n) ≡ true
    self n = grind (arith)

    by : (one other : Bool) → (a == b) ≡ one → (b == a) ≡ other → one ≡ other
    by true true e f = refl
    by false false e f = refl
    by true false e f = sym (subst (λ (n : ℕ). (n == a) ≡ true) (eqb-true a b e) (self a)) ∙ f
    by false true e f = sym e ∙ subst (λ (n : ℕ). (n == b) ≡ true) (eqb-true b a f) (self b)

module _ (command : Command) (moment : Moment) (given : ℕ) (about : (handle : ℕ) → is_about handle command ≡ (given == handle)) where
  passed : (first : ℕ) (links : Links) → given < first → links_commanded_from first command moment links ≡ links
  passed first [] less = refl
  passed first (place ∷ links) less =
      λ i. place_commanded ((about first ∙ not_same given first less) i) command moment place ∷ passed (first + 1) links (omega (arith, less)) i

  one_from : (first : ℕ) (links : Links) → links_commanded_from first command moment links ≡ with_change_from first given (option_map (open_link_commanded command moment)) links
  one_from first [] = refl
  one_from first (place ∷ links) = by (first == given) refl (one_from (first + 1) links)
    where
      by : (same : Bool) → (first == given) ≡ same
          → links_commanded_from (first + 1) command moment links ≡ with_change_from (first + 1) given (option_map (open_link_commanded command moment)) links
          → place_commanded (is_about first command) command moment place ∷ links_commanded_from (first + 1) command moment links
          ≡ (if same then option_map (open_link_commanded command moment) place ∷ links
          else place ∷ with_change_from (first + 1) given (option_map (open_link_commanded command moment)) links)
      by true is rest =
          λ i. place_commanded ((about first ∙ turned given first ∙ is) i) command moment place
          ∷ passed (first + 1) links (let same = eqb-true first given is in omega (arith, same)) i
      by false is rest = λ i. place_commanded ((about first ∙ turned given first ∙ is) i) command moment place ∷ rest i

  pub one_change : (links : Links) → links_commanded command moment links ≡ with_change given (open_link_commanded command moment) links
  one_change links = one_from 0 links

-- ---- a change of the link that is there

module _ (f g : OpenLink → OpenLink) where
  changed_alike : (first given : ℕ) (links : Links) (link : OpenLink) → link_from first given links ≡ Some link → f link ≡ g link
      → with_change_from first given (option_map f) links ≡ with_change_from first given (option_map g) links
  changed_alike first given [] link is same = refl
  changed_alike first given (place ∷ links) link is same = by (first == given) is (changed_alike (first + 1) given links link)
    where
      by : (here : Bool) → (if here then place else link_from (first + 1) given links) ≡ Some link
          → (link_from (first + 1) given links ≡ Some link → f link ≡ g link
          → with_change_from (first + 1) given (option_map f) links ≡ with_change_from (first + 1) given (option_map g) links)
          → (if here then option_map f place ∷ links else place ∷ with_change_from (first + 1) given (option_map f) links)
          ≡ (if here then option_map g place ∷ links else place ∷ with_change_from (first + 1) given (option_map g) links)
      by true is rest = λ i. (ap (option_map f) is ∙ ap Some same ∙ sym (ap (option_map g) is)) i ∷ links
      by false is rest = λ i. place ∷ rest is same i

changed_none : (first given : ℕ) (links : Links) → with_change_from first given (option_map (λ link. link)) links ≡ links
changed_none first given [] = refl
changed_none first given (place ∷ links) = by (first == given) (changed_none (first + 1) given links)
  where
    same : (found : Option OpenLink) → option_map (λ link. link) found ≡ found
    same None = refl
    same (Some link) = refl

    by : (here : Bool) → with_change_from (first + 1) given (option_map (λ link. link)) links ≡ links
        → (if here then option_map (λ link. link) place ∷ links else place ∷ with_change_from (first + 1) given (option_map (λ link. link)) links) ≡ place ∷ links
    by true rest = λ i. same place i ∷ links
    by false rest = λ i. place ∷ rest i

-- ---- where no link is

pub none_changed : (f : OpenLink → OpenLink) (first given : ℕ) (links : Links) → link_from first given links ≡ None
    → with_change_from first given (option_map f) links ≡ links
none_changed f first given [] is = refl
none_changed f first given (place ∷ links) is = by (first == given) is (none_changed f (first + 1) given links)
  where
    by : (here : Bool) → (if here then place else link_from (first + 1) given links) ≡ None
        → (link_from (first + 1) given links ≡ None → with_change_from (first + 1) given (option_map f) links ≡ links)
        → (if here then option_map f place ∷ links else place ∷ with_change_from (first + 1) given (option_map f) links) ≡ place ∷ links
    by true is rest = λ i. (ap (option_map f) is ∙ sym is) i ∷ links
    by false is rest = λ i. place ∷ rest is i

pub none_commanded : (command : Command) (moment : Moment) (given : ℕ) (links : Links) → ((handle : ℕ) → is_about handle command ≡ (given == handle))
    → link_at given links ≡ None → links_commanded command moment links ≡ links
none_commanded command moment given links about is =
    one_change command moment given about links ∙ none_changed (open_link_commanded command moment) 0 given links is

-- ---- what may be known

pub asked_unless_known : (command : Command) (moment : Moment) (given : ℕ) (ask : Ask) (known : Bool) (links : Links) (link : OpenLink)
    → ((handle : ℕ) → is_about handle command ≡ (given == handle)) → link_at given links ≡ Some link
    → open_link_commanded command moment link ≡ link_after_if (ask_unless known ask) link
    → links_commanded command moment links ≡ (if known then links else links_asked given ask links)
asked_unless_known command moment given ask true links link about is same =
    one_change command moment given about links ∙ changed_alike (open_link_commanded command moment) (λ l. l) 0 given links link is same ∙ changed_none 0 given links
asked_unless_known command moment given ask false links link about is same =
    one_change command moment given about links ∙ changed_alike (open_link_commanded command moment) (link_after (ProcedureAsked ask)) 0 given links link is same

pub version_asked : (handle : ℕ) (moment : Moment) (links : Links) (link : OpenLink) → link_at handle links ≡ Some link
    → links_commanded (ReadRemoteVersion handle) moment links ≡ (if is_some (facts_in link).peer.version then links else links_asked handle Version links)
version_asked handle moment links link is =
    asked_unless_known (ReadRemoteVersion handle) moment handle Version (is_some (facts_in link).peer.version) links link (λ h. refl) is refl

pub features_asked : (handle : ℕ) (moment : Moment) (links : Links) (link : OpenLink) → link_at handle links ≡ Some link
    → links_commanded (LeReadRemoteFeatures handle) moment links ≡ (if is_some (facts_in link).peer.features then links else links_asked handle Features links)
features_asked handle moment links link is =
    asked_unless_known (LeReadRemoteFeatures handle) moment handle Features (is_some (facts_in link).peer.features) links link (λ h. refl) is refl

pub update_asked : (handle : ℕ) (moment : Moment) (min max latency timeout : ℕ) (lengths : List ℕ) (links : Links) (link : OpenLink) → link_at handle links ≡ Some link
    → links_commanded (LeConnectionUpdate handle min max latency timeout lengths) moment links ≡ links_asked handle (update_by link.setup.link.role min max latency timeout) links
update_asked handle moment min max latency timeout lengths links link is =
    asked_unless_known (LeConnectionUpdate handle min max latency timeout lengths) moment handle (update_by link.setup.link.role min max latency timeout) false links link
    (λ h. refl) is refl

-- ---- a map, on all links

map_one : (map : ℕ) (moment : Moment) (link : OpenLink) → open_link_commanded (LeSetChannels map) moment link ≡ link_asked_map map link
map_one map moment link = by link.setup.link.role
  where
    by : (role : Role) → link_after_if (map_by role map) link ≡ asked_map_by role map link
    by Central = refl
    by Peripheral = refl

map_place : (map : ℕ) (moment : Moment) (place : Option OpenLink) → option_map (open_link_commanded (LeSetChannels map) moment) place ≡ option_map (link_asked_map map) place
map_place map moment None = refl
map_place map moment (Some link) = ap Some (map_one map moment link)

map_from : (map : ℕ) (moment : Moment) (first : ℕ) (links : Links) → links_commanded_from first (LeSetChannels map) moment links ≡ links_asked_map map links
map_from map moment first [] = refl
map_from map moment first (place ∷ links) = λ i. map_place map moment place i ∷ map_from map moment (first + 1) links i

pub map_asked : (map : ℕ) (moment : Moment) (links : Links) → links_commanded (LeSetChannels map) moment links ≡ links_asked_map map links
map_asked map moment links = map_from map moment 0 links
