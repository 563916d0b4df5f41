-- Between turns no piece of data waits for a host whose flow control is off, and each complete packet is reported.
use Rattle.std.proofs.Common.{◌≡◌, ℕ, zero, suc, ◌+◌, ◌≤◌, ◌==◌, Bool, true, false, Option, Some, None, List, [], ◌∷◌, ◌++◌, replicate, cond, refl, ap, sym, subst, ◌∙◌, append-nil, append_assoc, arith}
use Rattle.std.specs.Prelude.{fold, nat_lt, ⊤}
use Rattle.std.specs.List.{AllByRecursion}
use Rattle.std.specs.Option.{option_map}
use Rattle.std.proofs.lemmas.Bool.{eqb-true}
use Rattle.std.proofs.lemmas.Bool.Decides.{nat_tests}
use Rattle.acl_banks.specs.declared.pieces.Piece.{Piece}
use Rattle.h4_frames.specs.declared.packet.HostPacket.TheVariants.{Command as HostCommand, Acl}
use Rattle.h4_frames.specs.declared.packet.Fed.{Fed}
use Rattle.h4_frames.specs.declared.packet.Fed.TheVariants.{More, Packet, LostSync}
use Rattle.hci_cmd.specs.declared.command.Command.{Command}
use Rattle.hci_cmd.specs.declared.command.Command.TheVariants.{Reset}
use Rattle.hci_cmd.specs.declared.command.CmdRead.{CmdRead}
use Rattle.hci_cmd.specs.declared.command.CmdRead.TheVariants.{Known, UnknownOpcode, BadLength}
use Rattle.hci_cmd.specs.Command.{command_of}
use Rattle.host_view.specs.Status.{status_of}
use Rattle.link_commands.specs.open_links.link_model.Data.{Data, data_given}
use Rattle.link_commands.specs.open_links.link_model.Facts.{Facts as EndFacts}
use Rattle.link_commands.specs.open_links.link_model.Step.{Step as EndStep, DataGiven, DataReported}
use Rattle.link_commands.proofs.open_links.link_model.Pasts.{grows}
use Rattle.link_commands.specs.open_links.Data.{complete_in, links_reported}
use Rattle.link_commands.specs.open_links.OpenLinks.{Links, OpenLink, facts_in, link_after, link_at, link_from, with_change_from, without_links}
use Rattle.link_commands.specs.open_links.Turns.{ending_in, links_without, staying_by}
use Rattle.controller_model.specs.Step.{Step, HostOctet, TurnBegins, PacketHeard, NothingHeard, TurnEnds}
use Rattle.controller_model.specs.Facts.{Setup, Facts}
use Rattle.controller_model.specs.Commands.{facts_commanded, facts_known, links_after, moment_of}
use Rattle.link_commands.specs.open_links.declared.ended.LinkEnded.{LinkEnded}
use Rattle.link_commands.specs.open_links.declared.offers.Offer.{Offer}
use Rattle.link_commands.specs.open_links.declared.offers.Offer.TheVariants.{NoLink, Empty, Overflow, Kept}
use Rattle.controller_model.specs.Data.{facts_handed, facts_offered, offer_of}
use Rattle.controller_model.specs.Links.{ends_for, facts_leaving}
use Rattle.controller_model.specs.Side.{facts_after, facts_fed, facts_of, result_of}
use Rattle.controller_model.specs.Between.{between_after, is_between_turns}
use Rattle.controller_model.proofs.Always.{leaving_is, received_shut}
use Rattle.controller_model.proofs.FlowOff.{Closes, WaitsNot, closes_at, command_waits_not}
use Rattle.controller_model.proofs.Handing.{left_where_off}
use Rattle.controller_model.proofs.Pasts.{facts_more}
use Rattle.controller_model.proofs.Asked.{IsAskedStep, all_asked, asked_leaves_data, of_asking}

-- no complete packet of the link in a place waits to be reported
abbrev IsReported : Option OpenLink → Type 0
IsReported None = ⊤
IsReported (Some link) = complete_in link ≡ 0

record IsSettled (setup : Setup) (facts : Facts) : Type 0 where
  pub received : WaitsNot setup facts
  pub reported : AllByRecursion IsReported facts.links

-- ---- a turn ends

none_left : (n : ℕ) → nat_lt 0 n ≡ false → n ≡ 0
none_left n is = grind (arith, nat_tests)

reported_by : (reports : Bool) (link : OpenLink) → nat_lt 0 (complete_in link) ≡ reports
    → complete_in (cond reports (link_after DataReported link) link) ≡ 0
reported_by true link is = ap (λ (facts : EndFacts). facts.outgoing.complete) (grows link.setup link.past DataReported)
reported_by false link is = none_left (complete_in link) is

all_reported : (links : Links) → AllByRecursion IsReported (links_reported links)
all_reported [] = tt
all_reported (None ∷ links) = (tt, all_reported links)
all_reported (Some link ∷ links) = (reported_by (nat_lt 0 (complete_in link)) link refl, all_reported links)

-- then links may end
staying_reported : (reason : OpenLink → Option ℕ) (links : Links) → AllByRecursion IsReported links
    → AllByRecursion IsReported (links_without reason links)
staying_reported reason [] are = tt
staying_reported reason (None ∷ links) are = (tt, staying_reported reason links are.1)
staying_reported reason (Some link ∷ links) are = (at (reason link), staying_reported reason links are.1)
  where
    at : (code : Option ℕ) → IsReported (staying_by code link)
    at None = are.0
    at (Some code) = tt

pub shut_none : (ended : List LinkEnded) → received_shut [] ended ≡ []
shut_none [] = refl
shut_none (one ∷ ended) = shut_none ended

leaving_settled : (setup : Setup) (facts : Facts) → IsSettled setup facts → IsSettled setup (facts_leaving facts)
leaving_settled setup facts settled =
    let ended = ends_for ending_in facts in
    subst (IsSettled setup) (sym (leaving_is facts)) (record {
      received = λ few off. ap (λ (received : List (ℕ × Piece)). received_shut received ended) (settled.received few off) ∙ shut_none ended;
      reported = staying_reported ending_in facts.links settled.reported;
    })

-- ---- an octet of the host

given_same : (handle : ℕ) (start : Bool) (octets : List ℕ) (outgoing : Data)
    → (data_given handle start octets outgoing).complete ≡ outgoing.complete
given_same handle start [] outgoing = refl
given_same handle start (octet ∷ octets) outgoing = refl

given_place : (start : Bool) (octets : List ℕ) (place : Option OpenLink) → IsReported place
    → IsReported (option_map (link_after (DataGiven start octets)) place)
given_place start octets None is = tt
given_place start octets (Some link) is =
    ap (λ (facts : EndFacts). facts.outgoing.complete) (grows link.setup link.past (DataGiven start octets))
    ∙ given_same link.setup.link.handle start octets (facts_in link).outgoing ∙ is

given_from : (start : Bool) (octets : List ℕ) (first handle : ℕ) (links : Links) → AllByRecursion IsReported links
    → AllByRecursion IsReported (with_change_from first handle (option_map (link_after (DataGiven start octets))) links)
given_from start octets first handle [] are = tt
given_from start octets first handle (place ∷ links) are =
    at (first == handle) (given_from start octets (first + 1) handle links are.1)
  where
    at : (test : Bool) → AllByRecursion IsReported (with_change_from (first + 1) handle (option_map (link_after (DataGiven start octets))) links)
        → AllByRecursion IsReported (cond test (option_map (link_after (DataGiven start octets)) place ∷ links)
        (place ∷ with_change_from (first + 1) handle (option_map (link_after (DataGiven start octets))) links))
    at true rest = (given_place start octets place are.0, are.1)
    at false rest = (are.0, rest)

asked_reported : (link : OpenLink) (step : EndStep) → IsAskedStep step → IsReported (Some link) → IsReported (Some (link_after step link))
asked_reported link step asks is =
    ap (λ (facts : EndFacts). facts.outgoing.complete) (grows link.setup link.past step)
    ∙ ap (λ (outgoing : Data). outgoing.complete) ((asked_leaves_data step asks).outgoing link.setup (facts_in link)) ∙ is

none_open : (links : Links) → AllByRecursion IsReported (without_links links)
none_open [] = tt
none_open (place ∷ links) = (tt, none_open links)

command_reported : (command : Command) (links : Links) → AllByRecursion IsReported links → AllByRecursion IsReported (links_after command links)
command_reported Reset links are = none_open links
command_reported other links are = are

known_settled : (accepted : Bool) (setup : Setup) (facts : Facts) (command : Command) → (status_of facts.view command == 0) ≡ accepted
    → (setup.links ≤ 6 → Closes facts) → IsSettled setup facts → IsSettled setup (facts_known accepted setup facts command)
known_settled true setup facts command takes closes settled = record {
  received = λ few. command_waits_not command facts (eqb-true (status_of facts.view command) 0 takes) (closes few) (settled.received few);
  reported = command_reported command facts.links settled.reported;
}
known_settled false setup facts command takes closes settled = settled

read_settled : (setup : Setup) (facts : Facts) (read : CmdRead) → (setup.links ≤ 6 → Closes facts) → IsSettled setup facts → IsSettled setup (facts_commanded setup facts read)
read_settled setup facts (Known command) closes settled =
    of_asking setup facts command (IsSettled setup) (known_settled (status_of facts.view command == 0) setup facts command refl closes settled)
    (λ asks left. record {
      received = left.received;
      reported = all_asked IsReported asked_reported command (moment_of setup facts) 0 facts.links settled.reported;
    })
read_settled setup facts UnknownOpcode closes settled = settled
read_settled setup facts BadLength closes settled = settled

offered_settled : (setup : Setup) (offer : Offer) (handle : ℕ) (start : Bool) (octets : List ℕ) (facts : Facts) → IsSettled setup facts
    → IsSettled setup (facts_offered offer handle start octets facts)
offered_settled setup Kept handle start octets facts settled =
    record { received = settled.received; reported = given_from start octets 0 handle facts.links settled.reported }
offered_settled setup NoLink handle start octets facts settled = settled
offered_settled setup Empty handle start octets facts settled = settled
offered_settled setup Overflow handle start octets facts settled = settled

fed_settled : (setup : Setup) (facts : Facts) (fed : Fed) → (setup.links ≤ 6 → Closes facts) → IsSettled setup facts → IsSettled setup (facts_fed setup facts fed)
fed_settled setup facts (Packet (HostCommand opcode body)) closes settled =
    read_settled setup facts (command_of opcode body.items) closes settled
fed_settled setup facts (Packet (Acl handle start count body)) closes settled =
    offered_settled setup (offer_of setup facts handle count) handle start body.items facts settled
fed_settled setup facts LostSync closes settled = settled
fed_settled setup facts More closes settled = settled

-- ---- all steps

step_settled : (setup : Setup) (facts : Facts) (between : Bool) (step : Step) → (setup.links ≤ 6 → Closes facts) → (between ≡ true → IsSettled setup facts)
    → between_after between step ≡ true → IsSettled setup (facts_after setup facts step)
step_settled setup facts between (HostOctet octet) closes settled is =
    let after = fed_settled setup facts (result_of facts.octets octet) closes (settled is) in
    record { received = after.received; reported = after.reported }
step_settled setup facts between TurnEnds closes settled is =
    let after = leaving_settled setup (facts_handed facts) (record {
      received = λ few off. left_where_off facts.view facts.received off;
      reported = all_reported facts.links;
    }) in
    record { received = after.received; reported = after.reported }
step_settled setup facts between (TurnBegins slot on) closes settled is = absurd (let h : false ≡ true = is in absurd cc)
step_settled setup facts between (PacketHeard octets) closes settled is = absurd (let h : false ≡ true = is in absurd cc)
step_settled setup facts between NothingHeard closes settled is = absurd (let h : false ≡ true = is in absurd cc)

-- after those before
settled_from : (setup : Setup) (before : List Step) (between : Bool) (steps : List Step)
    → (between ≡ true → IsSettled setup (facts_of setup before)) → fold between_after between steps ≡ true
    → IsSettled setup (facts_of setup (before ++ steps))
settled_from setup before between [] settled is =
    subst (λ (past : List Step). IsSettled setup (facts_of setup past)) (sym (append-nil before)) (settled is)
settled_from setup before between (step ∷ steps) settled is =
    subst (λ (past : List Step). IsSettled setup (facts_of setup past)) (append_assoc before (step ∷ []) steps)
    (settled_from setup (before ++ step ∷ []) (between_after between step) steps
    (λ between_then. subst (IsSettled setup) (sym (facts_more setup before step))
    (step_settled setup (facts_of setup before) between step (closes_at setup before) settled between_then)) is)

first_reported : (n : ℕ) → AllByRecursion IsReported (replicate n None)
first_reported zero = tt
first_reported (suc n) = (tt, first_reported n)

first_settled : (setup : Setup) → IsSettled setup (facts_of setup [])
unfolding facts_of
first_settled setup = record { received = λ few off. refl; reported = first_reported setup.links }

settled_between : (setup : Setup) (past : List Step) → is_between_turns past ≡ true → IsSettled setup (facts_of setup past)
settled_between setup past is = settled_from setup [] true past (λ first. first_settled setup) is

pub nothing_waits : (setup : Setup) (past : List Step) → setup.links ≤ 6 → is_between_turns past ≡ true
    → (facts_of setup past).view.flow.on ≡ false → (facts_of setup past).received ≡ []
nothing_waits setup past few is off = (settled_between setup past is).received few off

found_reported : (first handle : ℕ) (links : Links) → AllByRecursion IsReported links → IsReported (link_from first handle links)
found_reported first handle [] are = tt
found_reported first handle (place ∷ links) are = at (first == handle) (found_reported (first + 1) handle links are.1)
  where
    at : (test : Bool) → IsReported (link_from (first + 1) handle links) → IsReported (cond test place (link_from (first + 1) handle links))
    at true rest = are.0
    at false rest = rest

pub none_complete : (setup : Setup) (past : List Step) (handle : ℕ) (link : OpenLink) → is_between_turns past ≡ true
    → link_at handle (facts_of setup past).links ≡ Some link → complete_in link ≡ 0
none_complete setup past handle link is is_open =
    let links = (facts_of setup past).links in
    subst IsReported is_open (found_reported 0 handle links (settled_between setup past is).reported)
