-- The view knows the ends of all open links as these go on, are opened and are shut.
use Rattle.std.proofs.Common.{◌≡◌, ℕ, ◌<◌, ◌==◌, Bool, true, false, List, fold, length, Some, None, Err, refl, ap, sym, ◌∙◌, subst, eqb-true, arith}
use Rattle.std.specs.Option.{option_map}
use Rattle.std.proofs.lemmas.List.{get_or-set_other}
use Rattle.ble_base.specs.declared.addresses.Address.{Address}
use Rattle.ble_base.specs.declared.error_codes.ErrCode.{ErrCode}
use Rattle.ble_base.specs.declared.notes.Note.TheVariants.{Opened, Shut, Up}
use Rattle.hci_evt.specs.Event.{written}
use Rattle.hci_evt.specs.declared.event.Event.TheVariants.{ParamRequest}
use Rattle.procedure_events.specs.procedure_stages.declared.steps.Effect.{Effect}
use Rattle.procedure_events.specs.procedure_stages.declared.steps.Effect.TheVariants.{AskHost, Nothing}
use Rattle.procedure_events.specs.procedure_stages.Steps.{asks_host}
use Rattle.link_commands.specs.open_links.link_model.Setup.{Setup}
use Rattle.link_commands.specs.open_links.link_model.Facts.{Facts, first_facts}
use Rattle.link_commands.specs.open_links.link_model.Hosts.{facts_answered}
use Rattle.link_commands.specs.open_links.link_model.Step.{Step, RequestAnswered}
use Rattle.link_commands.specs.open_links.link_model.End.{facts_after, facts_of, notes_after}
use Rattle.link_commands.proofs.open_links.link_model.Pasts.{grows}
use Rattle.link_commands.specs.open_links.Hosts.{links_answered}
use Rattle.link_commands.specs.open_links.OpenLinks.{Links, OpenLink, facts_in, link_after, link_at, new_link, with_change, with_link, without_link}
use Rattle.link_commands.proofs.open_links.Handles.{changed_have, changed_is, opened_at, opened_has, other_stays, shut_have}
use Rattle.host_view.specs.View.{View}
use Rattle.host_view.specs.Links.{link_in}
use Rattle.host_view.specs.Noted.{opened_link, view_noted}
use Rattle.host_asks.specs.OpenEnds.{KnowsOpenEnds, KnowsOpenEndsOnceReported}
use Rattle.host_asks.specs.Noting.{effect_after, is_of_host}
use Rattle.host_asks.specs.Views.{KnowsAt, KnowsOnceReported}
use Rattle.host_asks.proofs.EndsViewed.{none_reported, packet_known, request_refused_at_once, request_reported, step_known}
use Rattle.host_asks.proofs.Lasting.{lasted}
use Rattle.host_asks.proofs.LinksViewed.{notes_of_step, notes_other, opened_known}
use Rattle.host_asks.proofs.OpenLinksKnown.{IsKnownAt, some_is}

-- ---- the link under a handle, and the others

own_or_other : (handle other : ℕ) (P : ℕ → Type 0) → P handle → ((other ≡ handle → ⊥) → P other) → P other
own_or_other handle other P own others = by (other == handle) refl
  where
    self : (n : ℕ) → (n == n) ≡ true
    self n = grind (arith)

    by : (same : Bool) → (other == handle) ≡ same → P other
    by true is = subst P (sym (eqb-true other handle is)) own
    by false is = others (λ same. let h : false ≡ true = sym is ∙ subst (λ (n : ℕ). (other == n) ≡ true) same (self other) in absurd cc)

all_known : (handle : ℕ) (effect : Effect) (before view : View) (links : Links) → KnowsOpenEndsOnceReported handle effect before links → IsKnownAt view links handle
    → ((other : ℕ) → (other ≡ handle → ⊥) → IsKnownAt view links other) → KnowsOpenEnds view links
all_known handle effect before view links known own others =
    record {
      handles = known.handles;
      each = λ other. own_or_other handle other (IsKnownAt view links) own (others other);
    }

-- what a change of one link makes of it
changed_link : (change : OpenLink → OpenLink) (handle : ℕ) (links : Links) (link after : OpenLink) → link_at handle links ≡ Some link
    → link_at handle (with_change handle change links) ≡ Some after → change link ≡ after
changed_link change handle links link after is found =
    some_is (change link) after (sym (ap (option_map change) is) ∙ sym (changed_is (option_map change) 0 handle links refl) ∙ found)

-- the facts after a step
after_facts : (link : OpenLink) (step : Step) → facts_in (link_after step link) ≡ facts_after link.setup (facts_in link) step
after_facts link step = grows link.setup link.past step

-- ---- a step of one end

pub links_step : (view : View) (links : Links) (link : OpenLink) (step : Step) → is_of_host step ≡ false → KnowsOpenEnds view links
    → link_at link.setup.link.handle links ≡ Some link
    → KnowsOpenEndsOnceReported link.setup.link.handle (effect_after link.setup (facts_in link) step)
    (fold view_noted view (notes_after link.setup (facts_in link) step)) (with_change link.setup.link.handle (link_after step) links)
links_step view links link step other known is =
    record {
      handles = changed_have handle (link_after step) links (λ l. refl) known.handles;
      own = λ after found lasts.
          subst (λ (l : OpenLink). KnowsOnceReported (effect_after link.setup (facts_in link) step) noted handle (facts_in l)) (changed_link (link_after step) handle links link after is found)
          (own (subst (λ (l : OpenLink). (facts_in l).control.ends ≡ None) (sym (changed_link (link_after step) handle links link after is found)) lasts));
      others = λ apart after differs found lasts.
          let before = known.each apart after (sym (other_stays (option_map (link_after step)) 0 handle apart links differs) ∙ found) lasts in
          record {
            link = before.link;
            is_open = notes_other handle apart view (notes_after link.setup (facts_in link) step) (notes_of_step link.setup (facts_in link) step) differs ∙ before.is_open;
            knows = before.knows;
          };
    }
  where
    handle : ℕ
    handle = link.setup.link.handle

    noted : View
    noted = fold view_noted view (notes_after link.setup (facts_in link) step)

    own : (facts_in (link_after step link)).control.ends ≡ None
        → KnowsOnceReported (effect_after link.setup (facts_in link) step) noted handle (facts_in (link_after step link))
    own lasts =
        let goes : (facts_after link.setup (facts_in link) step).control.ends ≡ None = ap (λ (f : Facts). f.control.ends) (sym (after_facts link step)) ∙ lasts in
        subst (λ (f : Facts). KnowsOnceReported (effect_after link.setup (facts_in link) step) noted handle f) (sym (after_facts link step))
        (step_known view link.setup (facts_in link) step (record { past = link.past; is = refl }) other
        (known.each handle link is (lasted link.setup (facts_in link) step (record { past = link.past; is = refl }) goes)) goes)

-- ---- what the host receives

pub links_packet : (handle : ℕ) (effect : Effect) (view : View) (links : Links) (octets : List ℕ) → KnowsOpenEndsOnceReported handle effect view links
    → KnowsOpenEndsOnceReported handle effect (view_noted view (Up (record { items = octets }))) links
links_packet handle effect view links octets known =
    record {
      handles = known.handles;
      own = λ link is lasts. packet_known effect view octets handle (facts_in link) (known.own link is lasts);
      others = λ other link differs is lasts. packet_known Nothing view octets other (facts_in link) (known.others other link differs is lasts);
    }

pub links_request : (view : View) (links : Links) (handle least most latency timeout : ℕ) → handle < 65536
    → KnowsOpenEndsOnceReported handle (AskHost least most latency timeout) view links
    → KnowsOpenEnds (view_noted view (Up (record { items = written (ParamRequest handle least most latency timeout) }))) links
links_request view links handle least most latency timeout fits known =
    all_known handle (AskHost least most latency timeout) view _ links known
    (λ link is lasts. request_reported view handle least most latency timeout (facts_in link) fits (known.own link is lasts))
    (λ other differs link is lasts.
    packet_known Nothing view (written (ParamRequest handle least most latency timeout)) other (facts_in link) (known.others other link differs is lasts))

pub links_none : (handle : ℕ) (effect : Effect) (view : View) (links : Links) → asks_host effect ≡ false → KnowsOpenEndsOnceReported handle effect view links
    → KnowsOpenEnds view links
links_none handle effect view links none known =
    all_known handle effect view view links known
    (λ link is lasts. none_reported effect view handle (facts_in link) none (known.own link is lasts))
    (λ other differs link is lasts. known.others other link differs is lasts)

-- a request that is withheld is refused at once
pub links_refused : (handle : ℕ) (effect : Effect) (view : View) (links : Links) (link : OpenLink) (code : ErrCode) → link_at handle links ≡ Some link
    → KnowsOpenEndsOnceReported handle effect view links → KnowsOpenEnds view (links_answered handle (Err code) links)
links_refused handle effect view links link code is known =
    record {
      handles = changed_have handle (link_after (RequestAnswered (Err code))) links (λ l. refl) known.handles;
      each = λ other. own_or_other handle other (IsKnownAt view (links_answered handle (Err code) links)) own
          (λ differs after found lasts.
          known.others other after differs (sym (other_stays (option_map (link_after (RequestAnswered (Err code)))) 0 handle other links differs) ∙ found) lasts);
    }
  where
    refused : (facts_in (link_after (RequestAnswered (Err code)) link)).control.ends ≡ None
        → KnowsAt view handle (facts_in (link_after (RequestAnswered (Err code)) link))
    refused lasts =
        let goes : (facts_answered (Err code) (facts_in link)).control.ends ≡ None =
        ap (λ (f : Facts). f.control.ends) (sym (after_facts link (RequestAnswered (Err code)))) ∙ lasts in
        subst (λ (f : Facts). KnowsAt view handle f) (sym (after_facts link (RequestAnswered (Err code))))
        (request_refused_at_once effect view handle (facts_in link) code (known.own link is (lasted link.setup (facts_in link) (RequestAnswered (Err code)) (record { past = link.past; is = refl }) goes)) goes)

    own : IsKnownAt view (links_answered handle (Err code) links) handle
    own after found lasts =
        let same = changed_link (link_after (RequestAnswered (Err code))) handle links link after is found in
        subst (λ (l : OpenLink). KnowsAt view handle (facts_in l)) same
        (refused (subst (λ (l : OpenLink). (facts_in l).control.ends ≡ None) (sym same) lasts))

-- ---- a link is opened, and one is shut

opened_other : (view : View) (setup : Setup) (own peer : Address) (other : ℕ) → (other ≡ setup.link.handle → ⊥)
    → link_in (view_noted view (Opened setup.link.handle setup.link.role own peer)).links other ≡ link_in view.links other
unfolding view_noted
opened_other view setup own peer other differs =
    get_or-set_other view.links setup.link.handle other (Some (opened_link setup.link.role own peer)) None differs

shut_other : (view : View) (handle other : ℕ) (code : ErrCode) → (other ≡ handle → ⊥)
    → link_in (view_noted view (Shut handle code)).links other ≡ link_in view.links other
unfolding view_noted
shut_other view handle other code differs = get_or-set_other view.links handle other None None differs

pub known_still : (before after : View) (handle : ℕ) (facts : Facts) → link_in after.links handle ≡ link_in before.links handle → KnowsAt before handle facts
    → KnowsAt after handle facts
known_still before after handle facts same known = record { link = known.link; is_open = same ∙ known.is_open; knows = known.knows }

new_facts : (setup : Setup) → facts_in (new_link setup) ≡ first_facts setup
unfolding facts_of
new_facts setup = refl

pub links_opened : (view : View) (links : Links) (setup : Setup) (own peer : Address) → setup.link.handle < length view.links → setup.link.handle < length links
    → KnowsOpenEnds view links → KnowsOpenEnds (view_noted view (Opened setup.link.handle setup.link.role own peer)) (with_link setup links)
links_opened view links setup own peer viewed within known =
    record {
      handles = opened_has setup links known.handles;
      each = λ other. own_or_other setup.link.handle other (IsKnownAt (view_noted view (Opened setup.link.handle setup.link.role own peer)) (with_link setup links))
          (λ link found lasts.
          subst (λ (l : OpenLink). KnowsAt (view_noted view (Opened setup.link.handle setup.link.role own peer)) setup.link.handle (facts_in l))
          (some_is (new_link setup) link (sym (opened_at setup links within) ∙ found))
          (subst (λ (f : Facts). KnowsAt (view_noted view (Opened setup.link.handle setup.link.role own peer)) setup.link.handle f) (sym (new_facts setup))
          (opened_known view setup own peer viewed)))
          (λ differs link found lasts.
          known_still view _ other (facts_in link) (opened_other view setup own peer other differs)
          (known.each other link (sym (other_stays (λ place. Some (new_link setup)) 0 setup.link.handle other links differs) ∙ found) lasts));
    }

pub links_shut : (view : View) (links : Links) (handle : ℕ) (code : ErrCode) → KnowsOpenEnds view links
    → KnowsOpenEnds (view_noted view (Shut handle code)) (without_link handle links)
links_shut view links handle code known =
    record {
      handles = shut_have handle links known.handles;
      each = λ other. own_or_other handle other (IsKnownAt (view_noted view (Shut handle code)) (without_link handle links))
          (λ link found lasts. absurd (none_is link (sym (changed_is (λ place. None) 0 handle links refl) ∙ found)))
          (λ differs link found lasts.
          known_still view _ other (facts_in link) (shut_other view handle other code differs)
          (known.each other link (sym (other_stays (λ place. None) 0 handle other links differs) ∙ found) lasts));
    }
  where
    none_is : (link : OpenLink) → None ≡ Some link → ⊥
    none_is link is = cc
