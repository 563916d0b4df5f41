-- The view knows an end while it lasts.
use Rattle.std.proofs.Common.{◌≡◌, true, false, List, [], ◌∷◌, Option, Some, None, Err, is_none, refl, ap, sym, ◌∙◌}
use Rattle.ble_base.specs.declared.addresses.Address.{Address}
use Rattle.ble_base.specs.declared.error_codes.ErrCode.{ErrCode}
use Rattle.link_commands.specs.open_links.control_model.Control.{Answers}
use Rattle.link_commands.specs.open_links.link_model.Setup.{Setup}
use Rattle.link_commands.specs.open_links.link_model.Facts.{Facts}
use Rattle.link_commands.specs.open_links.link_model.Step.{Step, KeyAnswered, RequestAnswered}
use Rattle.link_commands.specs.open_links.link_model.End.{facts_after}
use Rattle.link_commands.proofs.open_links.link_model.KnownEnds.{IsPast, first_past, stays_over, step_past}
use Rattle.link_commands.specs.Commands.{facts_commanded, host_step_of}
use Rattle.host_asks.specs.Knowing.{KnowsAsks}
use Rattle.host_asks.specs.Lasting.{AllMayHappen, IsCommanded, LacksKey, LinkEvent, Makes, MakesUnreported, MayHappen, ViewedEnd, first_viewed, viewed_after, viewed_after_all}
use Rattle.host_asks.proofs.Accepting.{command_keeps, withheld_knows}
use Rattle.host_asks.proofs.Controls.{ends_before}
use Rattle.host_asks.proofs.Ends.{first_knows, key_knows, step_knows}

-- ---- an end that did not end the link did not before

pub lasted : (setup : Setup) (facts : Facts) (step : Step) → IsPast setup facts → (facts_after setup facts step).control.ends ≡ None → facts.control.ends ≡ None
lasted setup facts step p lasts = by facts.control.ends refl
  where
    by : (ends : Option ErrCode) → facts.control.ends ≡ ends → facts.control.ends ≡ None
    by None is = is
    by (Some code) is =
        let stays = stays_over setup facts step p (ap (λ (e : Option ErrCode). is_none e) is) in
        absurd (let h : false ≡ true = sym stays ∙ ap (λ (e : Option ErrCode). is_none e) lasts in cc)

pub lasted_if : (setup : Setup) (facts : Facts) (step : Option Step) → IsPast setup facts → (facts_commanded setup step facts).control.ends ≡ None → facts.control.ends ≡ None
lasted_if setup facts None p lasts = lasts
lasted_if setup facts (Some step) p lasts = lasted setup facts step p lasts

-- ---- one event after the other

abbrev Knows : ViewedEnd → Type 0
Knows end = end.facts.control.ends ≡ None → KnowsAsks end.link end.facts

commanded_past : (setup : Setup) (facts : Facts) (step : Option Step) → IsPast setup facts → IsPast setup (facts_commanded setup step facts)
commanded_past setup facts None p = p
commanded_past setup facts (Some step) p = step_past setup facts step p

event_past : (setup : Setup) (end : ViewedEnd) (event : LinkEvent) → IsPast setup end.facts → IsPast setup (viewed_after setup end event).facts
event_past setup end (IsCommanded view command moment) p =
    commanded_past setup end.facts (host_step_of command moment end.link.role end.facts.peer) p
event_past setup end (Makes step) p = step_past setup end.facts step p
event_past setup end (MakesUnreported step code) p =
    step_past setup (facts_after setup end.facts step) (RequestAnswered (Err code)) (step_past setup end.facts step p)
event_past setup end (LacksKey slot) p = step_past setup end.facts (KeyAnswered None slot) p

one_event : (setup : Setup) (end : ViewedEnd) (event : LinkEvent) → IsPast setup end.facts → MayHappen setup end event → Knows end
    → Knows (viewed_after setup end event)
one_event setup end (IsCommanded view command moment) p may knows lasts =
    command_keeps setup view command setup.link.handle moment end.link end.facts may.accepted may.about may.is_open
    (knows (lasted_if setup end.facts (host_step_of command moment end.link.role end.facts.peer) p lasts)) lasts
one_event setup end (Makes step) p may knows lasts =
    step_knows setup step end.link end.facts p may (knows (lasted setup end.facts step p lasts)) lasts
one_event setup end (MakesUnreported step code) p may knows lasts =
    withheld_knows setup step end.link end.facts code p may
    (knows (lasted setup end.facts step p (ends_before (Answers (Err code)) (facts_after setup end.facts step).control lasts))) lasts
one_event setup end (LacksKey slot) p may knows lasts =
    key_knows None slot end.link end.facts (knows (lasted setup end.facts (KeyAnswered None slot) p lasts))

each_event : (setup : Setup) (end : ViewedEnd) (events : List LinkEvent) → IsPast setup end.facts → AllMayHappen setup end events → Knows end
    → Knows (viewed_after_all setup end events)
each_event setup end [] p may knows = knows
each_event setup end (event ∷ events) p may knows =
    each_event setup (viewed_after setup end event) events (event_past setup end event p) may.1 (one_event setup end event p may.0 knows)

pub known_while_it_lasts : (setup : Setup) (own peer : Address) (events : List LinkEvent) → AllMayHappen setup (first_viewed setup own peer) events
    → (viewed_after_all setup (first_viewed setup own peer) events).facts.control.ends ≡ None
    → KnowsAsks (viewed_after_all setup (first_viewed setup own peer) events).link (viewed_after_all setup (first_viewed setup own peer) events).facts
known_while_it_lasts setup own peer events may =
    each_event setup (first_viewed setup own peer) events (first_past setup) may (λ lasts. first_knows setup own peer)
