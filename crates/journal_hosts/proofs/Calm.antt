-- While a controller hears no packet in a turn, each complete packet is reported.
use Rattle.std.proofs.Common.{◌≡◌, ℕ, ◌+◌, Bool, true, false, Some, None, List, [], ◌∷◌, ◌++◌, map, refl, ap, ◌∙◌, append-nil}
use Rattle.journal_data.specs.link_model.End.{facts_of as end_of}
use Rattle.journal_data.specs.link_model.Facts.{Facts as EndFacts}
use Rattle.journal_data.specs.link_model.Setup.{Setup as EndSetup}
use Rattle.journal_data.specs.link_model.Step.{DataGiven, DataReported, EventEntered, PacketSent, PduFixed, Step as EndStep}
use Rattle.journal_data.proofs.link_model.Pasts.{grows}
use Rattle.journal_data.specs.open_links.Data.{complete_in, completed_from}
use Rattle.journal_data.specs.open_links.Offered.{completed_by}
use Rattle.journal_data.specs.open_links.OpenLinks.{Links, OpenLink, facts_in, link_at, new_link, link_after}
use Rattle.journal_data.specs.open_links.Turns.{entered_if, enters_in}
use Rattle.journal_data.specs.controller_model.declared.doing.Doing.{Doing}
use Rattle.journal_data.specs.controller_model.declared.doing.Doing.TheVariants.{Advertises, CentralSends, Connects, Requests, Rests}
use Rattle.journal_data.specs.controller_model.Between.{is_between_turns}
use Rattle.journal_data.specs.controller_model.Data.{event_completed, notes_handed, notes_pieces}
use Rattle.journal_data.specs.controller_model.Events.{notes_of_events}
use Rattle.journal_data.specs.controller_model.Facts.{Setup, Facts}
use Rattle.journal_data.specs.controller_model.Heard.{unheard}
use Rattle.journal_data.specs.controller_model.Outcome.{facts_passed}
use Rattle.journal_data.specs.controller_model.Packets.{facts_doing}
use Rattle.journal_data.specs.controller_model.Side.{facts_after, facts_of}
use Rattle.journal_data.specs.controller_model.Step.{Step, NothingHeard, TurnBegins}
use Rattle.journal_data.proofs.controller_model.Always.{facts_opening, opening_passes}
use Rattle.journal_data.proofs.controller_model.BetweenTurns.{none_complete}
use Rattle.journal_data.proofs.run_laws.OpenSteps.{EachOpen, IsKeptServed, begin_open, open_has, opened, sends, each_under}
use Rattle.journal_data.proofs.DataSteps.{IsDeafStep, IsKeptBySending, deaf_link_keeps}
use Rattle.journal_data.proofs.open_links.Within.{given_complete, sent_complete}

-- no complete packet of a link waits to be reported
abbrev pub IsReported : OpenLink → Type 0
IsReported link = complete_in link ≡ 0

pub record IsCalm (facts : Facts) : Type 0 where
  pub reported : EachOpen IsReported facts.links

-- ---- between turns

pub calm_between : (setup : Setup) (past : List Step) → is_between_turns past ≡ true → IsCalm (facts_of setup past)
calm_between setup past is = record {
  reported = each_under IsReported 0 (facts_of setup past).links (λ handle link found. none_complete setup past handle link is found);
}

-- ---- one link

kept_complete : IsKeptBySending (λ outgoing. outgoing.complete ≡ 0)
kept_complete = record { fixed = λ limit pdu more again outgoing is. is; sent = λ payload is_new outgoing is. sent_complete payload is_new outgoing ∙ is }

deaf_reported : (step : EndStep) (link : OpenLink) → IsDeafStep step → IsReported link → IsReported (link_after step link)
deaf_reported step link deaf is = deaf_link_keeps (λ outgoing. outgoing.complete ≡ 0) kept_complete step link deaf is

served_reported : IsKeptServed IsReported
served_reported = record {
  hosts = record {
    given = λ start body link is. ap (λ (facts : EndFacts). facts.outgoing.complete) (grows link.setup link.past (DataGiven start body))
        ∙ given_complete link.setup.link.handle start body (facts_in link).outgoing ∙ is;
    reported = λ link is. ap (λ (facts : EndFacts). facts.outgoing.complete) (grows link.setup link.past DataReported);
  };
  served = λ slot link is. is;
  fixed = λ link is. deaf_reported PduFixed link tt is;
  sent = λ slot link is. deaf_reported (PacketSent slot) link tt is;
}

entered_reported : (enters : Bool) (slot : ℕ) (link : OpenLink) → IsReported link → IsReported (entered_if enters slot link)
entered_reported true slot link is = deaf_reported (EventEntered slot) link tt is
entered_reported false slot link is = is

new_reported : (setup : EndSetup) → IsReported (new_link setup)
unfolding end_of
new_reported setup = refl

-- ---- a turn begins

pub begin_calm : (setup : Setup) (slot : ℕ) (on : Bool) (facts : Facts) → IsCalm facts → IsCalm (facts_after setup facts (TurnBegins slot on))
begin_calm setup slot on facts calm = record {
  reported = begin_open IsReported IsReported served_reported setup slot on facts
      (λ link is. entered_reported (enters_in slot link) slot link is) calm.reported;
}

-- ---- a phase passes in which nothing is heard

doing_calm : (doing : Doing) (facts : Facts) → IsCalm facts → IsCalm (facts_doing doing facts)
doing_calm doing facts calm =
    record { reported = sends IsReported served_reported facts.turn.slot doing facts.links calm.reported }

unheard_calm : (doing : Doing) (facts : Facts) → IsCalm facts → IsCalm (facts_passed (unheard doing facts))
unheard_calm (Connects channel link) facts calm =
    let end : EndSetup = record { link = link; opened = facts.turn.slot } in
    opening_passes IsCalm link facts (doing_calm Rests (facts_opening link facts) (record {
      reported = opened IsReported end facts.links (new_reported end) calm.reported;
    }))
unheard_calm (Advertises channel) facts calm = doing_calm _ facts calm
unheard_calm (Requests channel advertiser) facts calm = doing_calm _ facts calm
unheard_calm (CentralSends handle) facts calm = doing_calm _ facts calm
unheard_calm other facts calm = doing_calm Rests facts calm

pub pass_calm : (setup : Setup) (facts : Facts) → IsCalm facts → IsCalm (facts_after setup facts NothingHeard)
pass_calm setup facts calm = unheard_calm facts.turn.doing facts calm

-- ---- as a turn ends

none_completed : (first : ℕ) (links : Links) → EachOpen IsReported links → completed_from first links ≡ []
none_completed first [] are = refl
none_completed first (None ∷ links) are = none_completed (first + 1) links are.1
none_completed first (Some link ∷ links) are =
    ap (λ n. completed_by first n ++ completed_from (first + 1) links) are.0 ∙ none_completed (first + 1) links are.1

-- what the host receives then is data alone
pub only_pieces : (facts : Facts) → IsCalm facts → notes_handed facts ≡ notes_pieces facts
only_pieces facts calm =
    (λ i. notes_pieces facts ++ notes_of_events facts.view (map event_completed (none_completed 0 facts.links calm.reported i)))
    ∙ append-nil (notes_pieces facts)

pub calm_under : (facts : Facts) (handle : ℕ) (link : OpenLink) → IsCalm facts → link_at handle facts.links ≡ Some link → complete_in link ≡ 0
calm_under facts handle link calm is = open_has IsReported 0 handle facts.links link calm.reported is
