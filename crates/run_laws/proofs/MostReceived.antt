-- In every run, a link that is open receives payloads of as many octets as its host can take: while a link is open, the
-- host may not change that.
use Rattle.std.proofs.Common.{◌≡◌, ℕ, ◌-◌, ◌≤◌, ◌==◌, Bool, true, false, Option, Some, None, List, [], ◌∷◌, ◌++◌, replicate, refl, sym, ap, subst, ◌∙◌}
use Rattle.std.specs.Prelude.{is_some, min}
use Rattle.std.specs.List.{list_any}
use Rattle.std.proofs.lemmas.Bool.{eqb-true}
use Rattle.std.proofs.lemmas.List.Sums.{fold-append}
use Rattle.ble_base.specs.Limits.{payload_octets}
use Rattle.h4_frames.specs.declared.packet.HostPacket.TheVariants.{Command as HostCommand, Acl}
use Rattle.h4_frames.specs.declared.packet.Fed.{Fed}
use Rattle.h4_frames.specs.declared.packet.Fed.TheVariants.{More, Packet, LostSync}
use Rattle.hci_cmd.specs.declared.command.Command.{Command}
use Rattle.hci_cmd.specs.declared.command.Command.TheVariants.{HostBufferSize, HostCompleted, Reset}
use Rattle.hci_cmd.specs.declared.command.CmdRead.{CmdRead}
use Rattle.hci_cmd.specs.declared.command.CmdRead.TheVariants.{Known, UnknownOpcode, BadLength}
use Rattle.hci_cmd.specs.Command.{command_of}
use Rattle.host_view.specs.declared.links.Link.{Link as ViewLink}
use Rattle.host_view.specs.Changes.{view_after}
use Rattle.host_view.specs.Flow.{most_received}
use Rattle.host_view.specs.Status.{has_link, status_of}
use Rattle.host_view.specs.View.{View}
use Rattle.run_model.specs.link_model.Setup.{Setup as EndSetup}
use Rattle.run_model.specs.open_links.OpenLinks.{Links, OpenLink, link_at}
use Rattle.run_model.specs.open_links.declared.offers.Offer.{Offer}
use Rattle.run_model.specs.open_links.declared.offers.Offer.TheVariants.{NoLink, Empty, Overflow, Kept}
use Rattle.run_model.specs.controller_model.Commands.{facts_accepted, facts_commanded, facts_known, is_asking, moment_of}
use Rattle.run_model.specs.controller_model.Data.{facts_offered, offer_of}
use Rattle.run_model.specs.controller_model.Facts.{Setup, Facts, first_facts}
use Rattle.run_model.specs.controller_model.Heard.{link_taken}
use Rattle.run_model.specs.controller_model.Side.{facts_after, facts_fed, facts_of, result_of}
use Rattle.run_model.specs.controller_model.Step.{Step, HostOctet, TurnBegins, TurnEnds}
use Rattle.run_model.proofs.controller_model.link_commands.Ranges.{passes as row_passes}
use Rattle.run_model.proofs.controller_model.Accepted.{same_after_counts}
use Rattle.run_model.proofs.controller_model.Always.{IsInTurn as IsOfTurn, IsKeptInTurns, opening_passes, turn_keeps}
use Rattle.run_model.proofs.controller_model.Asked.{asking_leaves, facts_asked, of_asking}
use Rattle.run_model.proofs.controller_model.Following.{receiving_passes}
use Rattle.run_model.proofs.controller_model.FreeHandles.{places_agree}
use Rattle.run_model.proofs.controller_model.OpenPlaces.{opens}
use Rattle.run_model.specs.Feeding.{AreDistinct}
use Rattle.run_model.specs.History.{Event, past_of}
use Rattle.run_model.specs.Run.{Given, facts_at, history_of, run_of, setup_at, step_of}
use Rattle.run_model.proofs.LinkSteps.{EachLink, MayOpen, each_more, link_has, none_linked, offered_linked, places_linked, resets, step_linked}
use Rattle.run_model.proofs.Stations.{is_in}
use Rattle.run_laws.proofs.Entering.{IsInTurn, turn_first, turn_kept}
use Rattle.run_laws.proofs.TurnPlaces.{Between, IsTurned, Stage, Within, stands_in_run, turned}
use Rattle.run_laws.proofs.TurnSteps.{MakesWell}

-- an end receives payloads that a host can take which takes this many octets
abbrev Receives : ℕ → EndSetup → Type 0
Receives acl_length end = end.link.max_rx ≡ min payload_octets acl_length

-- ---- where the view has no link

abbrev IsNoLink : EndSetup → Type 0
IsNoLink end = ⊥

abbrev rest_of : List Bool → List Bool
rest_of [] = []
rest_of (place ∷ places) = places

none_held : (views : List (Option ViewLink)) (links : Links) (spare : ℕ) → list_any is_some views ≡ false
    → opens views ≡ opens links ++ replicate spare false → EachLink IsNoLink links
none_held views [] spare none agree = tt
none_held [] (place ∷ links) spare none agree = absurd cc
none_held (None ∷ views) (None ∷ links) spare none agree = (tt, none_held views links spare none (ap rest_of agree))
none_held (None ∷ views) (Some link ∷ links) spare none agree = absurd cc
none_held (Some view ∷ views) (place ∷ links) spare none agree = absurd (let h : true ≡ false = none in absurd cc)

-- some calls lead to what a controller holds
record IsReached (setup : Setup) (facts : Facts) : Type 0 where
  past : List Step
  is : facts_of setup past ≡ facts

reached_step : (setup : Setup) (facts : Facts) (step : Step) → IsReached setup facts → IsReached setup (facts_after setup facts step)
unfolding facts_of
reached_step setup facts step reached = record {
  past = reached.past ++ step ∷ [];
  is =
      fold-append (facts_after setup) (first_facts setup) reached.past (step ∷ [])
      ∙ ap (λ (before : Facts). facts_after setup before step) reached.is;
}

no_link : (setup : Setup) (facts : Facts) → setup.links ≤ 6 → IsReached setup facts → has_link facts.view ≡ false → EachLink IsNoLink facts.links
no_link setup facts few reached = subst (λ (of : Facts). has_link of.view ≡ false → EachLink IsNoLink of.links) reached.is (λ none.
    let of = facts_of setup reached.past in
    none_held of.view.links of.links (6 - setup.links) none (places_agree setup reached.past few))

-- ---- an octet of the host

module _ (setup : Setup) (facts : Facts) (none : has_link facts.view ≡ false → EachLink IsNoLink facts.links)
    (each : EachLink (Receives facts.view.flow.acl_length) facts.links) where
  abbrev Receive : Facts → Type 0
  Receive after = EachLink (Receives after.view.flow.acl_length) after.links

  accepted_receives : (command : Command) → status_of facts.view command ≡ 0 → Receive (facts_accepted setup facts command)
  unfolding view_after status_of
  accepted_receives Reset accepted = resets (Receives (facts_accepted setup facts Reset).view.flow.acl_length) facts.links
  accepted_receives (HostBufferSize acl_length sco_length acl_count sco_count) accepted =
      each_more IsNoLink (Receives acl_length) facts.links (λ end no. absurd no) (none (row_passes (has_link facts.view) _ _ accepted).0)
  accepted_receives (HostCompleted counts) accepted =
      subst (λ (n : ℕ). EachLink (Receives n) facts.links) (sym (same_after_counts (λ (view : View). view.flow.acl_length) facts.view counts refl)) each
  accepted_receives other accepted = each

  known_receives : (command : Command) (accepted : Bool) → (status_of facts.view command == 0) ≡ accepted → Receive (facts_known accepted setup facts command)
  known_receives command true is = accepted_receives command (eqb-true (status_of facts.view command) 0 is)
  known_receives command false is = each

  asked_receives : (command : Command) → is_asking facts.view command ≡ true → Receive (facts_accepted setup facts command) → Receive (facts_asked setup facts command)
  asked_receives command asks left =
      let most = (view_after facts.view command).flow.acl_length in
      places_linked (Receives most) command (moment_of setup facts) 0 facts.links (subst (EachLink (Receives most)) (asking_leaves facts command asks) left)

  read_receives : (read : CmdRead) → Receive (facts_commanded setup facts read)
  read_receives (Known command) =
      of_asking setup facts command Receive (known_receives command (status_of facts.view command == 0) refl) (asked_receives command)
  read_receives UnknownOpcode = each
  read_receives BadLength = each

  offered_receives : (offer : Offer) (handle : ℕ) (start : Bool) (octets : List ℕ) → Receive (facts_offered offer handle start octets facts)
  offered_receives Kept handle start octets = offered_linked (Receives facts.view.flow.acl_length) Kept handle start octets facts each
  offered_receives NoLink handle start octets = each
  offered_receives Empty handle start octets = each
  offered_receives Overflow handle start octets = each

  fed_receives : (fed : Fed) → Receive (facts_fed setup facts fed)
  fed_receives (Packet (HostCommand opcode body)) = read_receives (command_of opcode body.items)
  fed_receives (Packet (Acl handle start count body)) = offered_receives (offer_of setup facts handle count) handle start body.items
  fed_receives LostSync = each
  fed_receives More = each

  octet_receives : (octet : ℕ) → Receive (facts_after setup facts (HostOctet octet))
  octet_receives octet = fed_receives (result_of facts.octets octet)

-- ---- a call of a turn

-- it changes nothing of what the host can take
abbrev HasLength : ℕ → Facts → Type 0
HasLength length facts = facts.view.flow.acl_length ≡ length

length_kept : (setup : Setup) (length : ℕ) → IsKeptInTurns setup (HasLength length) (HasLength length)
length_kept setup length = record {
  starts = record {
    weakens = λ facts is. is;
    ends = λ reason facts is. is;
    begins = λ slot facts is. is;
    enters = λ slot facts is. is;
    wins = λ slot activity facts is. is;
    fixes = λ doing facts is. is;
    does = λ doing facts may is. is;
  };
  reports = λ facts is. is;
  words = λ handle facts listens is. is;
  passes = λ facts is. record {
    rests = is;
    awaits_request = λ channel doing. is;
    awaits_response = λ channel advertiser doing. is;
    central_listens = λ handle doing. is;
    sent = λ channel link doing. opening_passes (HasLength length) link facts is;
    responds = λ channel on doing is_on. is;
    taken = λ channel octets pdu on fields handle is_on hears takes free.
        opening_passes (HasLength length) (link_taken facts.view on.params.own pdu fields handle) facts is;
    scanned = λ channel octets pdu on doing is_on hears. is;
    answered = λ channel octets pdu on doing is_on hears. is;
    connects = λ channel octets pdu on access handle doing is_on hears answers next free in_range. is;
    received = λ handle octets. receiving_passes (HasLength length) setup handle octets facts is;
  };
}

turn_receives : (setup : Setup) (facts : Facts) (step : Step) → IsOfTurn step → MayOpen (Receives facts.view.flow.acl_length) facts step
    → EachLink (Receives facts.view.flow.acl_length) facts.links
    → EachLink (Receives (facts_after setup facts step).view.flow.acl_length) (facts_after setup facts step).links
turn_receives setup facts step turn may each =
    let length = facts.view.flow.acl_length in
    subst (λ (n : ℕ). EachLink (Receives n) (facts_after setup facts step).links)
    (sym (turn_keeps setup (HasLength length) (HasLength length) (length_kept setup length) facts step turn refl))
    (step_linked (Receives length) setup facts step may each)

-- a link that is opened receives what the host can take
opens_well : (setup : Setup) (stage : Stage) (begun : ℕ) (facts : Facts) (step : Step) → IsInTurn setup stage begun facts
    → MayOpen (Receives facts.view.flow.acl_length) facts step
opens_well setup stage begun facts step in_turn = record {
  made = λ channel link ends doing.
      let made = subst (MakesWell setup facts.view facts.connections) doing in_turn.makes in made.receives;
  taken = λ channel octets on pdu fields handle is doing found takes. refl;
}

is_of_turn : (received : Option (List ℕ)) → IsOfTurn (step_of received)
is_of_turn None = tt
is_of_turn (Some octets) = tt

-- ---- at any time of a controller

record AreReceiving (setup : Setup) (stage : Stage) (begun : ℕ) (facts : Facts) : Type 0 where
  in_turn : IsInTurn setup stage begun facts
  reached : IsReached setup facts
  each : EachLink (Receives facts.view.flow.acl_length) facts.links

receiving_kept : (setup : Setup) → setup.links ≤ 6 → IsTurned setup (AreReceiving setup)
receiving_kept setup few = record {
  feeds = λ begun octet facts is. record {
    in_turn = (turn_kept setup).feeds begun octet facts is.in_turn;
    reached = reached_step setup facts (HostOctet octet) is.reached;
    each = octet_receives setup facts (no_link setup facts few is.reached) is.each octet;
  };
  begins = λ begun on facts is. record {
    in_turn = (turn_kept setup).begins begun on facts is.in_turn;
    reached = reached_step setup facts (TurnBegins begun on) is.reached;
    each = turn_receives setup facts (TurnBegins begun on) tt (opens_well setup Between begun facts (TurnBegins begun on) is.in_turn) is.each;
  };
  passes = λ phases begun received facts is. record {
    in_turn = (turn_kept setup).passes phases begun received facts is.in_turn;
    reached = reached_step setup facts (step_of received) is.reached;
    each = turn_receives setup facts (step_of received) (is_of_turn received) (opens_well setup (Within phases) begun facts (step_of received) is.in_turn) is.each;
  };
  ends = λ begun facts is. record {
    in_turn = (turn_kept setup).ends begun facts is.in_turn;
    reached = reached_step setup facts TurnEnds is.reached;
    each = turn_receives setup facts TurnEnds tt (opens_well setup (Within 3) begun facts TurnEnds is.in_turn) is.each;
  };
}

receiving_first : (setup : Setup) → AreReceiving setup Between 0 (first_facts setup)
unfolding facts_of
receiving_first setup = record {
  in_turn = turn_first setup;
  reached = record { past = []; is = refl };
  each = none_linked (Receives (first_facts setup).view.flow.acl_length) setup.links;
}

-- ---- in a run

pub max_received : (given : Given) (before rest : List Event) (station handle : ℕ) (link : OpenLink) → AreDistinct given.stations
    → is_in station given.stations ≡ true → (setup_at given station).links ≤ 6 → history_of (run_of given) ≡ before ++ rest
    → link_at handle (facts_at given station before).links ≡ Some link → link.setup.link.max_rx ≡ most_received (facts_at given station before).view
max_received given before rest station handle link distinct in_it few at is =
    let setup = setup_at given station in
    let past = past_of station before in
    let stands = stands_in_run given before rest station distinct in_it at in
    let are = turned setup (AreReceiving setup) (receiving_kept setup few) past stands.at (receiving_first setup) stands.is in
    link_has (Receives (facts_of setup past).view.flow.acl_length) 0 handle (facts_of setup past).links link are.each is
