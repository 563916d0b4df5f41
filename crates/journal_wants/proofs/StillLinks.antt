-- A link does not begin to end in a turn in which its end sends nothing and hears nothing.
use Rattle.std.proofs.Common.{◌≡◌, ℕ, ◌+◌, ◌==◌, Bool, true, false, Option, Some, None, [], ◌∷◌, ◌++◌, fold, refl, ap, ◌∙◌, if◌then◌else◌}
use Rattle.std.specs.Option.{option_map}
use Rattle.ble_base.specs.ErrorCodes.{terminated_by_local_host}
use Rattle.ble_base.specs.declared.error_codes.ErrCode.{ErrCode}
use Rattle.journal_events.specs.journal_sending.controller_model.declared.doing.Doing.{Doing}
use Rattle.journal_events.specs.journal_sending.controller_model.declared.doing.Doing.TheVariants.{Advertises, CentralSends, Connects, Requests}
use Rattle.journal_events.specs.journal_sending.controller_model.Data.{facts_handed}
use Rattle.journal_events.specs.journal_sending.controller_model.Facts.{Facts, Setup}
use Rattle.journal_events.specs.journal_sending.controller_model.Heard.{unheard}
use Rattle.journal_events.specs.journal_sending.controller_model.Links.{ends_for}
use Rattle.journal_events.specs.journal_sending.controller_model.Outcome.{facts_passed}
use Rattle.journal_events.specs.journal_sending.controller_model.Side.{facts_after}
use Rattle.journal_events.specs.journal_sending.controller_model.Step.{NothingHeard, TurnBegins}
use Rattle.journal_events.specs.journal_sending.controller_model.link_model.Data.{is_control}
use Rattle.journal_events.specs.journal_sending.controller_model.link_model.Controls.{goes_on, is_quiet_now}
use Rattle.journal_events.specs.journal_sending.controller_model.link_model.End.{facts_after as end_after, facts_of as end_of}
use Rattle.journal_events.specs.journal_sending.controller_model.link_model.Entering.{facts_entered_if}
use Rattle.journal_events.specs.journal_sending.controller_model.link_model.Facts.{Facts as EndFacts}
use Rattle.journal_events.specs.journal_sending.controller_model.link_model.Fixing.{fixed_anew}
use Rattle.journal_events.specs.journal_sending.controller_model.link_model.Setup.{Setup as EndSetup}
use Rattle.journal_events.specs.journal_sending.controller_model.link_model.Step.{EventEntered, PduFixed}
use Rattle.journal_events.specs.journal_sending.controller_model.link_model.Times.{ended_by_procedures, ending_of}
use Rattle.journal_events.specs.journal_sending.controller_model.link_model.control_model.Control.{Control, Enters, Owes, after}
use Rattle.journal_events.specs.journal_sending.journal_acks.link_calls.Uses.{fixes_under, sends_under}
use Rattle.journal_events.specs.journal_sending.journal_controls.TurnSteps.{first_if, steps_begun}
use Rattle.journal_events.specs.journal_sending.journal_data.open_links.Data.{links_reported}
use Rattle.journal_events.specs.journal_sending.journal_data.open_links.Ended.{end_by}
use Rattle.journal_events.specs.journal_sending.journal_data.open_links.OpenLinks.{Links, OpenLink, facts_in, link_at, new_link}
use Rattle.journal_events.specs.journal_sending.journal_data.open_links.Turns.{ending_in, ends_by, enters_in}
use Rattle.journal_events.proofs.journal_sending.controller_model.Always.{opening_passes}
use Rattle.journal_events.proofs.journal_sending.journal_acks.link_calls.LinkCalls.{turn_begun_under}
use Rattle.journal_events.proofs.journal_sending.journal_acks.link_calls.UnderHandles.{IsOpenedIf, opened_under, reported_ends}
use Rattle.journal_events.proofs.journal_sending.journal_data.link_model.Ending.{entered_stays}
use Rattle.journal_events.proofs.journal_sending.journal_data.link_model.Views.{Owed, Owing, Same, entered_view}
use Rattle.journal_events.proofs.journal_sending.journal_data.run_laws.OpenSteps.{EachOpen, each_under}
use Rattle.journal_events.proofs.journal_sending.journal_leaving.journal_ends.HostedLinks.{ends_moved}
use Rattle.journal_events.proofs.journal_sending.journal_leaving.journal_controls.FixedEnds.{begun_past, grown_facts}

-- ---- one end as a turn begins

entered_ends : (goes : Bool) (setup : EndSetup) (slot : ℕ) (facts : EndFacts)
    → (facts_entered_if goes setup slot facts).control.ends ≡ facts.control.ends
entered_ends false setup slot facts = refl
entered_ends true setup slot facts = by (entered_view slot facts)
  where
    entering : Control
    entering = after (Enters slot (is_quiet_now facts)) facts.control

    enters : entering.ends ≡ facts.control.ends
    enters = ends_moved (Enters slot (is_quiet_now facts)) facts.control (λ c. refl)

    by : {d : Control} → Owing entering d → d.ends ≡ facts.control.ends
    by (Same is) = ap (λ (c : Control). c.ends) is ∙ enters
    by (Owed ctrl may is) = ap (λ (c : Control). c.ends) is ∙ ends_moved (Owes ctrl) entering (λ c. refl) ∙ enters

entered_ending : (setup : EndSetup) (slot : ℕ) (facts : EndFacts)
    → ending_of (end_after setup facts (EventEntered slot)) ≡ ending_of facts
entered_ending setup slot facts =
    let ends = entered_ends (goes_on facts) setup slot facts in
    let leaving = entered_stays (goes_on facts) setup slot facts in
    λ i. if (leaving i).acknowledged then Some (record { 0 = terminated_by_local_host })
    else ended_by_procedures (ends i) (leaving i)

fixed_ending : (stays : Bool) (facts : EndFacts)
    → ending_of (if stays then facts else fixed_anew facts) ≡ ending_of facts
fixed_ending true facts = refl
fixed_ending false facts = refl

fixes_ending : (fixes : Bool) (setup : EndSetup) (slot : ℕ) (facts : EndFacts)
    → ending_of (fold (end_after setup) facts (first_if fixes PduFixed [])) ≡ ending_of facts
fixes_ending true setup slot facts = fixed_ending (is_control facts.outgoing.fixed) facts
fixes_ending false setup slot facts = refl

begins_ending : (enters fixes : Bool) (setup : EndSetup) (slot : ℕ) (facts : EndFacts)
    → ending_of (fold (end_after setup) facts (steps_begun enters fixes false slot)) ≡ ending_of facts
begins_ending true fixes setup slot facts =
    fixes_ending fixes setup slot (end_after setup facts (EventEntered slot)) ∙ entered_ending setup slot facts
begins_ending false fixes setup slot facts = fixes_ending fixes setup slot facts

-- ---- the links of a controller

-- none is to end as the turn does
abbrev pub LinksStay : Facts → Type 0
LinksStay facts = (handle : ℕ) (link : OpenLink) → link_at handle facts.links ≡ Some link → ending_in link ≡ None

-- but for one on which a packet is to be sent
abbrev pub OthersStay : Facts → Type 0
OthersStay facts =
    (handle : ℕ) (link : OpenLink) → link_at handle facts.links ≡ Some link
    → sends_under handle facts.turn.doing ≡ false
    → ending_in link ≡ None

abbrev pub NoneSends : Facts → Type 0
NoneSends facts =
    (handle : ℕ) (link : OpenLink) → link_at handle facts.links ≡ Some link
    → sends_under handle facts.turn.doing ≡ false

pub begin_stays : (setup : Setup) (facts : Facts) (slot : ℕ) (on : Bool) → LinksStay facts
    → OthersStay (facts_after setup facts (TurnBegins slot on))
begin_stays setup facts slot on stay = λ handle after at silent.
    let doing = (facts_after setup facts (TurnBegins slot on)).turn.doing in
    let has = turn_begun_under setup facts slot on handle after at in
    let base = has.link in
    let enters = enters_in slot base in
    let fixes = fixes_under handle doing in
    let steps = λ (sends : Bool). steps_begun enters fixes sends slot in
    let grown = grown_facts base after (steps (sends_under handle doing)) has.setup_is
    (has.past_is ∙ begun_past slot handle doing base) in
    let code_after = λ (sends : Bool).
    option_map (λ (code : ErrCode). code.0) (ending_of (fold (end_after base.setup) (facts_in base) (steps sends))) in
    ap (λ (f : EndFacts). option_map (λ (code : ErrCode). code.0) (ending_of f)) grown
    ∙ ap code_after silent
    ∙ ap (option_map (λ (code : ErrCode). code.0)) (begins_ending enters fixes base.setup slot (facts_in base))
    ∙ stay handle base has.was

-- ---- a phase in which nothing is heard and no link sends

new_stays : (setup : EndSetup) → ending_in (new_link setup) ≡ None
unfolding end_of
new_stays setup = refl

silence_by : (doing : Doing) (facts : Facts) → LinksStay facts → OthersStay (facts_passed (unheard doing facts))
silence_by (Connects channel link) facts stay =
    let end : EndSetup = record { link = link; opened = facts.turn.slot } in
    opening_passes OthersStay link facts (λ handle after at silent.
    by end handle after (link.handle == handle)
    (opened_under end handle facts.links after at (link.handle == handle) refl))
  where
    by : (end : EndSetup) (handle : ℕ) (after : OpenLink) (same : Bool)
        → IsOpenedIf same end (link_at handle facts.links) after → ending_in after ≡ None
    by end handle after true is = ap ending_in is ∙ new_stays end
    by end handle after false is = stay handle after is
silence_by (Advertises channel) facts stay = λ handle link at silent. stay handle link at
silence_by (Requests channel advertiser) facts stay = λ handle link at silent. stay handle link at
silence_by (CentralSends handle) facts stay = λ handle link at silent. stay handle link at
silence_by other facts stay = λ handle link at silent. stay handle link at

pub silence_stays : (setup : Setup) (facts : Facts) → NoneSends facts → OthersStay facts
    → OthersStay (facts_after setup facts NothingHeard)
silence_stays setup facts none stay =
    silence_by facts.turn.doing facts (λ handle link at. stay handle link at (none handle link at))

-- ---- as the turn ends

none_by : (first : ℕ) (links : Links) → EachOpen (λ link. ending_in link ≡ None) links
    → ends_by ending_in first (links_reported links) ≡ []
none_by first [] stay = refl
none_by first (None ∷ links) stay = none_by (first + 1) links stay.1
none_by first (Some link ∷ links) stay =
    let rest = ends_by ending_in (first + 1) (links_reported links) in
    ap (λ (code : Option ErrCode). end_by first (option_map (λ (one : ErrCode). one.0) code) ++ rest)
    (reported_ends link)
    ∙ ap (λ reason. end_by first reason ++ rest) stay.0
    ∙ none_by (first + 1) links stay.1

pub none_ends : (facts : Facts) → LinksStay facts → ends_for ending_in (facts_handed facts) ≡ []
none_ends facts stay = none_by 0 facts.links (each_under (λ link. ending_in link ≡ None) 0 facts.links stay)
