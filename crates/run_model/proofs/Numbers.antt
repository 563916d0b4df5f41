-- Each open link has, under its handle, the number of its CONNECT_IND.
use Rattle.std.proofs.Common.{◌≡◌, ℕ, ◌==◌, Bool, true, false, Some, None, List, [], ◌∷◌, ◌++◌, refl, sym, ap, subst, ◌∙◌}
use Rattle.std.specs.Prelude.{map, take, if◌then◌else◌}
use Rattle.std.proofs.lemmas.Bool.{eqb-true}
use Rattle.ble_base.specs.declared.addresses.Address.{Address}
use Rattle.ble_base.specs.declared.notes.Note.{Note}
use Rattle.ble_base.specs.declared.notes.Note.TheVariants.{Opened}
use Rattle.ble_base.specs.declared.roles.Role.{Role}
use Rattle.controller_model.specs.link_model.Setup.{Setup as EndSetup}
use Rattle.controller_model.specs.open_links.OpenLinks.{Links as Places, OpenLink, link_at}
use Rattle.controller_model.proofs.open_links.Handles.{handle_is}
use Rattle.controller_model.specs.Step.{Step, HostOctet, TurnBegins, TurnEnds}
use Rattle.controller_model.specs.Facts.{Facts}
use Rattle.controller_model.specs.Side.{facts_after, facts_of, notes_after}
use Rattle.controller_model.proofs.Handles.{own_handles}
use Rattle.controller_model.proofs.LinkNotes.{all_in}
use Rattle.controller_model.proofs.Pasts.{facts_more}
use Rattle.run_model.specs.History.{Event, TurnBegan, HostFed, Called, Noted, Transmitted, packet_received, past_of, steps_in}
use Rattle.run_model.specs.Links.{Links, begins_link, links_after, links_of, with_link}
use Rattle.run_model.specs.Run.{Given, setup_at, facts_at, octets_left, after_call, after_octets, after_feed, hearings_of, step_of, run_of, history_of}
use Rattle.run_model.specs.Due.{Each}
use Rattle.run_model.specs.Feeding.{AreDistinct, is_note}
use Rattle.run_model.specs.LinkEnds.{HaveAddresses}
use Rattle.run_model.specs.Numbers.{AreNumbered, HasNumber}
use Rattle.run_model.proofs.Calls.{flat_nothing, past_other, past_own}
use Rattle.run_model.proofs.Places.{each_append, each_at, each_called, each_event}
use Rattle.run_model.proofs.Walk.{Place, NoTurn, IsKept, IsWhole, IsStopped, ends_with, run_kept}
use Rattle.run_model.proofs.OpenedNotes.{is_opened, made_is_noted, opened_was_free, taken_is_noted}
use Rattle.run_model.proofs.LinksKnown.{link_by_other, link_by_own, links_event}
use Rattle.run_model.proofs.LinkSteps.{EachLink, MayOpen, MayOpenNew, each_in, link_has, none_linked, step_opens}
use Rattle.run_model.proofs.Linked.{numbered_more, opens_none}
use Rattle.run_model.proofs.OpenedLinks.{IsOpening, OpensLast, call_opens_last, opens_nothing}
use Rattle.run_model.proofs.LinkEnds.{AreTaken, IsLast, IsLinkedSoFar, IsUnderstood, linked_kept, may_open_at, no_turn_linked}

-- the end of a link has the number that its station has under the handle of the link
abbrev IsNumbered : List Event → ℕ → EndSetup → Type 0
IsNumbered history station end = HasNumber history ((links_of history).link_of station end.link.handle) station end

-- ---- a history that grows

-- where neither the links of a station nor the numbers of links change
still_numbered : (given : Given) (history more : List Event) (station handle : ℕ) (link : OpenLink) → past_of station (history ++ more) ≡ past_of station history
    → (links_of (history ++ more)).link_of station handle ≡ (links_of history).link_of station handle → AreNumbered given history
    → link_at handle (facts_at given station (history ++ more)).links ≡ Some link
    → HasNumber (history ++ more) ((links_of (history ++ more)).link_of station handle) station link.setup
still_numbered given history more station handle link past same numbered at =
    let before = ap (λ steps. link_at handle (facts_of (setup_at given station) steps).links) (sym past) ∙ at in
    let has = numbered station handle link before in
    numbered_more history more _ station link.setup has.has (same ∙ has.number_is)

-- an event that is no note opens no link
outside_link : (links : Links) (event : Event) (station handle : ℕ) → is_note event ≡ false
    → (links_after links event).link_of station handle ≡ links.link_of station handle
outside_link links (TurnBegan slot radios) station handle is = refl
outside_link links (HostFed other octets) station handle is = refl
outside_link links (Called other step) station handle is = refl
outside_link links (Noted other note) station handle is = absurd cc
outside_link links (Transmitted sender channel octets hearings) station handle is = by (begins_link channel octets)
  where
    by : (begins : Bool) → (if begins then with_link sender hearings links else links).link_of station handle ≡ links.link_of station handle
    by true = refl
    by false = refl

event_numbered : (given : Given) (history : List Event) (event : Event) → ((station : ℕ) → steps_in station event ≡ []) → is_note event ≡ false
    → AreNumbered given history → AreNumbered given (history ++ event ∷ [])
event_numbered given history event none is numbered = λ station handle link at.
    still_numbered given history (event ∷ []) station handle link (flat_nothing (steps_in station) history event (none station))
    (ap (λ (links : Links). links.link_of station handle) (links_event history event) ∙ outside_link (links_of history) event station handle is) numbered at

-- ---- a call

module _ (given : Given) (station : ℕ) (step : Step) (history : List Event) where
  abbrev notes : List Note
  notes = notes_after (setup_at given station) (facts_at given station history) step

  abbrev after : List Event
  after = after_call given station step history

  own_facts : facts_at given station after ≡ facts_after (setup_at given station) (facts_at given station history) step
  own_facts =
      let setup = setup_at given station in
      ap (facts_of setup) (past_own station step notes history) ∙ facts_more setup (past_of station history) step

  -- a link that is opened
  new_numbered : (end : EndSetup) → is_opened end.link.handle notes ≡ true → IsLast history station end → IsNumbered after station end
  new_numbered end noted last =
      numbered_more history (Called station step ∷ map (Noted station) notes) _ station end last.has
      (link_by_own station step notes history end.link.handle
      ∙ ap (λ b. if b then (links_of history).last_of station else (links_of history).link_of station end.link.handle) noted ∙ last.number)

  opens_numbered : MayOpen (IsLast history station) (facts_at given station history) step
      → MayOpenNew (IsNumbered after station) (facts_at given station history) step
  opens_numbered may =
      let setup = setup_at given station in
      let facts = facts_at given station history in record {
        made = λ channel link ends doing.
            new_numbered (record { link = link; opened = facts.turn.slot }) (made_is_noted setup facts step channel link ends doing)
            (may.made channel link ends doing);
        taken = λ channel octets on pdu fields handle is doing found is_on takes new free.
            new_numbered _ (ap (λ s. is_opened handle (notes_after setup facts s)) is
            ∙ taken_is_noted setup facts channel octets on pdu fields handle doing found is_on takes new free)
            (may.taken channel octets on pdu fields handle is doing found takes);
      }

  -- a link that was open: no other one is opened under its handle
  not_opened : (handle : ℕ) (link : OpenLink) → link_at handle (facts_at given station history).links ≡ Some link → (opened : Bool)
      → is_opened handle notes ≡ opened → opened ≡ false
  not_opened handle link at true is =
      let own = own_handles (setup_at given station) (past_of station history) in
      let free = opened_was_free handle (setup_at given station) (facts_at given station history) step own is in
      absurd (let h : None ≡ Some link = sym free ∙ at in absurd cc)
  not_opened handle link at false is = refl

  old_numbered : AreNumbered given history → (handle : ℕ) (link : OpenLink) → link_at handle (facts_at given station history).links ≡ Some link
      → IsNumbered after station link.setup
  old_numbered numbered handle link at =
      let own = own_handles (setup_at given station) (past_of station history) in
      let under = handle_is 0 handle (facts_at given station history).links link own.handles at in
      let has = numbered station handle link at in
      subst (λ n. HasNumber after ((links_of after).link_of station n) station link.setup) (sym under)
      (numbered_more history (Called station step ∷ map (Noted station) notes) _ station link.setup has.has
      (link_by_own station step notes history handle
      ∙ ap (λ b. if b then (links_of history).last_of station else (links_of history).link_of station handle)
      (not_opened handle link at (is_opened handle notes) refl) ∙ has.number_is))

  own_numbered : MayOpen (IsLast history station) (facts_at given station history) step → AreNumbered given history → (handle : ℕ) (link : OpenLink)
      → link_at handle (facts_at given station after).links ≡ Some link → HasNumber after ((links_of after).link_of station handle) station link.setup
  own_numbered may numbered handle link at =
      let setup = setup_at given station in
      let facts = facts_at given station history in
      let under = handle_is 0 handle (facts_at given station after).links link (own_handles setup (past_of station after)).handles at in
      let each = subst (λ (f : Facts). EachLink (IsNumbered after station) f.links) (sym own_facts)
      (step_opens (IsNumbered after station) setup facts step (opens_numbered may)
      (each_in (IsNumbered after station) facts.links facts.links 0 (all_in facts.links) (old_numbered numbered))) in
      subst (λ n. HasNumber after ((links_of after).link_of station n) station link.setup) under
      (link_has (IsNumbered after station) 0 handle (facts_at given station after).links link each at)

  numbered_by : MayOpen (IsLast history station) (facts_at given station history) step → AreNumbered given history
      → (other handle : ℕ) (link : OpenLink) → (same : Bool) → (other == station) ≡ same
      → link_at handle (facts_at given other after).links ≡ Some link → HasNumber after ((links_of after).link_of other handle) other link.setup
  numbered_by may numbered other handle link true is at =
      let one = eqb-true other station is in
      subst (λ n. HasNumber after ((links_of after).link_of n handle) n link.setup) (sym one)
      (own_numbered may numbered handle link (ap (λ n. link_at handle (facts_at given n after).links) (sym one) ∙ at))
  numbered_by may numbered other handle link false is at =
      still_numbered given history _ other handle link (past_other other station step notes history is)
      (link_by_other station step notes history other handle is) numbered at

  call_numbered : MayOpen (IsLast history station) (facts_at given station history) step → AreNumbered given history → AreNumbered given after
  call_numbered may numbered = λ other handle link at. numbered_by may numbered other handle link (other == station) refl at

-- ---- what each step keeps

abbrev NumberedBefore : Given → List Event → Event → Type 0
NumberedBefore given before event = is_note event ≡ false → AreNumbered given before

not_note : (given : Given) (before : List Event) (station : ℕ) (note : Note) → NumberedBefore given before (Noted station note)
not_note given before station note is = absurd cc

pub record IsNumberedSoFar (given : Given) (place : Place) (history : List Event) : Type 0 where
  pub linked : IsLinkedSoFar given place history
  pub numbered : AreNumbered given history
  pub each : Each (NumberedBefore given) [] history
  pub opened : Each OpensLast [] history

-- without the place
record AreSoFar (given : Given) (history : List Event) : Type 0 where
  numbered : AreNumbered given history
  each : Each (NumberedBefore given) [] history
  opened : Each OpensLast [] history

event_so_far : (given : Given) (history : List Event) (event : Event) → ((station : ℕ) → steps_in station event ≡ []) → is_note event ≡ false
    → AreSoFar given history → AreSoFar given (history ++ event ∷ [])
event_so_far given history event none is so_far = record {
  numbered = event_numbered given history event none is so_far.numbered;
  each = each_event (NumberedBefore given) history event so_far.each (λ not. so_far.numbered);
  opened = each_event OpensLast history event so_far.opened (opens_nothing history event is);
}

call_so_far : (given : Given) (station : ℕ) (step : Step) (history : List Event) → MayOpen (IsLast history station) (facts_at given station history) step
    → AreSoFar given history → AreSoFar given (after_call given station step history)
call_so_far given station step history may so_far = record {
  numbered = call_numbered given station step history may so_far.numbered;
  each = each_called (NumberedBefore given) station step (notes_after (setup_at given station) (facts_at given station history) step) history so_far.each
      (λ not. so_far.numbered) (λ before note. not_note given before station note);
  opened = each_append OpensLast [] history _ so_far.opened (call_opens_last given station step history may);
}

octets_so_far : (given : Given) (station : ℕ) (octets : List ℕ) (history : List Event) → AreSoFar given history → AreSoFar given (after_octets given station octets history)
octets_so_far given station [] history so_far = so_far
octets_so_far given station (octet ∷ octets) history so_far =
    octets_so_far given station octets (after_call given station (HostOctet octet) history)
    (call_so_far given station (HostOctet octet) history (opens_none _ _ (HostOctet octet) refl) so_far)

feed_so_far : (given : Given) (station : ℕ) (octets : List ℕ) (history : List Event) → AreSoFar given history → AreSoFar given (after_feed given station octets history)
feed_so_far given station [] history so_far = so_far
feed_so_far given station (octet ∷ octets) history so_far =
    octets_so_far given station (octet ∷ octets) (history ++ HostFed station (octet ∷ octets) ∷ [])
    (event_so_far given history (HostFed station (octet ∷ octets)) (λ other. refl) refl so_far)

so_far_at : (given : Given) (place : Place) (history : List Event) → IsNumberedSoFar given place history → AreSoFar given history
so_far_at given place history all = record { numbered = all.numbered; each = all.each; opened = all.opened }

at_place : (given : Given) (place : Place) (history : List Event) → IsLinkedSoFar given place history → AreSoFar given history → IsNumberedSoFar given place history
at_place given place history linked so_far = record { linked = linked; numbered = so_far.numbered; each = so_far.each; opened = so_far.opened }

pub numbered_kept : IsUnderstood → AreTaken → (given : Given) → HaveAddresses given → AreDistinct given.stations → IsKept given (IsNumberedSoFar given)
numbered_kept understood taken given six distinct = let kept = linked_kept understood taken given six distinct in record {
  on_turn = λ slot plan history begun at all. at_place given _ _ (kept.on_turn slot plan history begun at all.linked)
      (event_so_far given history (TurnBegan slot (map plan.radio_of given.stations)) (λ station. refl) refl (so_far_at given _ history all));
  on_feed = λ plan done left station history are some now all. at_place given _ _ (kept.on_feed plan done left station history are some now all.linked)
      (feed_so_far given station (take (plan.feed_of station) (octets_left given station history)) history (so_far_at given _ history all));
  on_fed = λ history all. at_place given _ _ (kept.on_fed history all.linked) (so_far_at given _ history all);
  on_begin = λ slot plan done left station history are due all. let step = TurnBegins slot (plan.radio_of station) in
      at_place given _ _ (kept.on_begin slot plan done left station history are due all.linked)
      (call_so_far given station step history (opens_none _ _ step refl) (so_far_at given _ history all));
  on_begun = λ history all. at_place given _ _ (kept.on_begun history all.linked) (so_far_at given _ history all);
  on_phase = λ phases history few all. at_place given _ _ (kept.on_phase phases history few all.linked) (so_far_at given _ history all);
  on_silence = λ phases done left station history are none all.
      at_place given _ _ (kept.on_silence phases done left station history are none all.linked) (so_far_at given _ history all);
  on_packet = λ phases plan done left station channel octets history are some due all.
      at_place given _ _ (kept.on_packet phases plan done left station channel octets history are some due all.linked)
      (event_so_far given history (Transmitted station channel octets (hearings_of given plan.fates station channel octets history)) (λ other. refl) refl
      (so_far_at given _ history all));
  on_air = λ phases history all. at_place given _ _ (kept.on_air phases history all.linked) (so_far_at given _ history all);
  on_hearing = λ phases done left station history are some all.
      at_place given _ _ (kept.on_hearing phases done left station history are some all.linked)
      (call_so_far given station (step_of (packet_received station history)) history
      (may_open_at understood taken given six distinct phases done left station history are all.linked) (so_far_at given _ history all));
  on_heard = λ phases history all. at_place given _ _ (kept.on_heard phases history all.linked) (so_far_at given _ history all);
  on_phases = λ history all. at_place given _ _ (kept.on_phases history all.linked) (so_far_at given _ history all);
  on_end = λ done left station history are some all. at_place given _ _ (kept.on_end done left station history are some all.linked)
      (call_so_far given station TurnEnds history (opens_none _ _ TurnEnds refl) (so_far_at given _ history all));
  on_ended = λ history all. at_place given _ _ (kept.on_ended history all.linked) (so_far_at given _ history all);
}

-- ---- the run

none_at : (P : EndSetup → Type 0) (handle : ℕ) (links : Places) (link : OpenLink) → EachLink (λ end. ⊥) links → link_at handle links ≡ Some link → P link.setup
none_at P handle links link none at = absurd (link_has (λ end. ⊥) 0 handle links link none at)

pub numbered_first : (given : Given) → IsNumberedSoFar given NoTurn []
unfolding facts_of
numbered_first given = record {
  linked = no_turn_linked given;
  numbered = λ station handle link at. none_at (λ end. HasNumber [] ((links_of []).link_of station handle) station end) handle _ link
      (none_linked (λ end. ⊥) (setup_at given station).links) at;
  each = tt;
  opened = tt;
}

run_numbered : IsUnderstood → AreTaken → (given : Given) → HaveAddresses given → AreDistinct given.stations → AreSoFar given (history_of (run_of given))
run_numbered understood taken given six distinct =
    ends_with (run_of given) (IsWhole given (IsNumberedSoFar given)) (IsStopped given (IsNumberedSoFar given)) (AreSoFar given)
    (run_kept given (IsNumberedSoFar given) (numbered_kept understood taken given six distinct) (numbered_first given))
    (λ history whole. so_far_at given _ history whole.is) (λ history stop stopped. so_far_at given _ history stopped.kept)

-- before each event that is no note, and at the end of a run or at its stop
pub numbered_at : IsUnderstood → AreTaken → (given : Given) (before rest : List Event) (event : Event) → AreDistinct given.stations → HaveAddresses given
    → history_of (run_of given) ≡ before ++ event ∷ rest → is_note event ≡ false → AreNumbered given before
numbered_at understood taken given before rest event distinct six is not_noted =
    each_at (NumberedBefore given) (history_of (run_of given)) before rest event (run_numbered understood taken given six distinct).each is not_noted

pub numbered_last : IsUnderstood → AreTaken → (given : Given) → AreDistinct given.stations → HaveAddresses given → AreNumbered given (history_of (run_of given))
numbered_last understood taken given distinct six = (run_numbered understood taken given six distinct).numbered

-- a link that is noted as opened is the one that its station knows last
pub opening_at : IsUnderstood → AreTaken → (given : Given) (before rest : List Event) (station handle : ℕ) (role : Role) (own peer : Address) → AreDistinct given.stations
    → HaveAddresses given → history_of (run_of given) ≡ before ++ Noted station (Opened handle role own peer) ∷ rest → IsOpening before station handle role
opening_at understood taken given before rest station handle role own peer distinct six is =
    each_at OpensLast (history_of (run_of given)) before rest (Noted station (Opened handle role own peer))
    (run_numbered understood taken given six distinct).opened is
