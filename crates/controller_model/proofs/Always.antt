-- A fact of what a controller holds is true at any time if each kind of change keeps it.
use Rattle.std.proofs.Common.{◌≡◌, ℕ, ◌+◌, ◌-◌, ◌/◌, ◌%◌, ◌≤◌, ◌==◌, Bool, true, false, Option, Some, None, List, [], ◌∷◌, inl, inr, cond, refl, sym, subst, ◌∙◌, arith}
use Rattle.std.specs.Prelude.{fold, nat_lt, slice_set, ⊤}
use Rattle.std.proofs.lemmas.Bool.Decides.{eqb_tells, nat_tests}
use Rattle.ble_base.specs.Bits.{has_bit}
use Rattle.acl_banks.specs.declared.pieces.Piece.{Piece}
use Rattle.ble_base.specs.declared.roles.Role.{Role}
use Rattle.ble_base.specs.declared.roles.Role.TheVariants.{Central, Peripheral}
use Rattle.h4_frames.specs.declared.packet.HostPacket.TheVariants.{Command as HostCommand, Acl}
use Rattle.h4_frames.specs.declared.packet.Fed.{Fed}
use Rattle.h4_frames.specs.declared.packet.Fed.TheVariants.{More, Packet, LostSync}
use Rattle.hci_cmd.specs.declared.command.Command.{Command}
use Rattle.hci_cmd.specs.declared.command.CmdRead.{CmdRead}
use Rattle.hci_cmd.specs.declared.command.CmdRead.TheVariants.{Known, UnknownOpcode, BadLength}
use Rattle.hci_cmd.specs.Command.{command_of}
use Rattle.advertise.specs.Advertising.{AdvertiserFacts, event_channel}
use Rattle.host_view.specs.View.{View}
use Rattle.host_view.specs.declared.links.Link.{Link as ViewLink}
use Rattle.host_view.specs.declared.view.Advertising.{Advertising as ViewAdvertising}
use Rattle.host_view.specs.Noted.{opened_link, stopped_by, view_noted}
use Rattle.host_view.specs.Status.{status_of}
use Rattle.host_view.specs.scan_init.Initiating.{InitiatorFacts}
use Rattle.host_view.specs.scan_init.Reports.{ScannerFacts}
use Rattle.host_view.specs.scan_init.Windows.{slots_of}
use Rattle.slot_plan.specs.declared.Activity.{Activity}
use Rattle.slot_plan.specs.declared.Activity.TheVariants.{Link, Advertise, Scan, Initiate}
use Rattle.slot_plan.specs.Holding.{is_held_in, winner_of}
use Rattle.link_commands.specs.open_links.link_model.declared.setup.LinkSetup.{LinkSetup}
use Rattle.link_commands.specs.open_links.link_model.Times.{has_second_exchange}
use Rattle.link_commands.specs.open_links.declared.ended.LinkEnded.{LinkEnded}
use Rattle.link_commands.specs.open_links.Data.{links_given, received_past}
use Rattle.link_commands.specs.open_links.OpenLinks.{Links, OpenLink, facts_in, in_event, link_at, link_served, with_change, with_link}
use Rattle.controller_model.specs.declared.doing.Doing.{Doing}
use Rattle.controller_model.specs.declared.doing.Doing.TheVariants.{Advertises, Scans, Initiates, CentralSends, PeripheralListens, Rests}
use Rattle.controller_model.specs.Step.{Step, HostOctet, TurnBegins, PacketHeard, NothingHeard, TurnEnds}
use Rattle.controller_model.specs.Facts.{Setup, Facts, Radio, first_facts, free_radio}
use Rattle.controller_model.specs.Commands.{facts_accepted, facts_commanded, facts_known, is_asking}
use Rattle.link_commands.specs.open_links.declared.offers.Offer.{Offer}
use Rattle.link_commands.specs.open_links.declared.offers.Offer.TheVariants.{NoLink, Empty, Overflow, Kept}
use Rattle.link_commands.specs.open_links.Ended.{received_without}
use Rattle.controller_model.specs.Data.{facts_ended_turn, facts_handed, facts_offered, offer_of}
use Rattle.controller_model.specs.Heard.{opens, facts_with_words}
use Rattle.controller_model.specs.Links.{ends_for, facts_ending, facts_leaving, facts_opened, facts_shut, facts_without, note_opened, radio_without, stopped}
use Rattle.controller_model.specs.Outcome.{Outcome, facts_passed, goes_on}
use Rattle.controller_model.specs.Packets.{facts_doing}
use Rattle.controller_model.specs.Radio.{advertises_at, advertises_on, doing_held, doing_won, exchange_begins, exchange_if, facts_entering, facts_won, first_exchange, fixing, initiates_on, initiator_channel, links_fixing, outcome_begun, plan_in, radio_held, radio_served, scanner_channel, scans_on, second_exchange, served, served_if_on, slots_since, span_at, turn_begins, winner_served}
use Rattle.controller_model.specs.Side.{facts_after, facts_fed, facts_of, result_of, with_octet}
use Rattle.controller_model.proofs.Following.{entering_is, facts_at_events}
use Rattle.controller_model.proofs.Phases.{EachOutcome, listening_is, unheard_is}
use Rattle.link_commands.specs.open_links.Turns.{due_in, ending_in, links_without}
use Rattle.controller_model.proofs.Asked.{facts_asked, of_asking}

-- ---- links that end

-- the view, the radio and what was received after these links ended
abbrev pub links_shut : List (Option ViewLink) → List LinkEnded → List (Option ViewLink)
links_shut links [] = links
links_shut links (one ∷ ended) = links_shut (slice_set links one.handle None) ended

abbrev pub view_shut : View → List LinkEnded → View
view_shut view ended = record view { links = links_shut view.links ended }

abbrev pub radio_shut : Radio → List LinkEnded → Radio
radio_shut radio [] = radio
radio_shut radio (one ∷ ended) = radio_shut (radio_without one.handle radio) ended

abbrev pub received_shut : List (ℕ × Piece) → List LinkEnded → List (ℕ × Piece)
received_shut received [] = received
received_shut received (one ∷ ended) = received_shut (received_without one.handle received) ended

abbrev pub facts_ended : (OpenLink → Option ℕ) → Facts → Facts
facts_ended reason facts = record facts {
  view = view_shut facts.view (ends_for reason facts);
  radio = radio_shut facts.radio (ends_for reason facts);
  links = links_without reason facts.links;
  received = received_shut facts.received (ends_for reason facts);
}

shut_is : (facts : Facts) (ended : List LinkEnded) → fold facts_shut facts ended ≡ record facts {
  view = view_shut facts.view ended;
  radio = radio_shut facts.radio ended;
  received = received_shut facts.received ended;
}
unfolding view_noted
shut_is facts [] = refl
shut_is facts (one ∷ ended) = shut_is (facts_shut facts one) ended

pub without_is : (reason : OpenLink → Option ℕ) (facts : Facts) → facts_without reason facts ≡ facts_ended reason facts
without_is reason facts = shut_is (record facts { links = links_without reason facts.links }) (ends_for reason facts)

-- as a turn begins, and as it ends
pub ending_is : (slot : ℕ) (facts : Facts) → facts_ending slot facts ≡ facts_ended (due_in slot) facts
ending_is slot facts = without_is (due_in slot) facts

pub leaving_is : (facts : Facts) → facts_leaving facts ≡ facts_ended ending_in facts
leaving_is facts = without_is ending_in facts

-- ---- what wins a slot

abbrev pub links_won : ℕ → Activity → Links → Links
links_won slot (Link handle) links = with_change handle (link_served slot) links
links_won slot Advertise links = links
links_won slot Scan links = links
links_won slot Initiate links = links

abbrev pub radio_won : ℕ → Activity → Links → Radio → Radio
radio_won slot (Link handle) links radio = radio_held (Link handle) slot (span_at (link_at handle links))
radio_won slot Advertise links radio = radio_held Advertise slot 3
radio_won slot Scan links radio = radio
radio_won slot Initiate links radio = radio

abbrev pub advertiser_won : ℕ → Activity → Option AdvertiserFacts → Option AdvertiserFacts
advertiser_won slot (Link handle) advertiser = advertiser
advertiser_won slot Advertise advertiser = served_if_on slot advertiser
advertiser_won slot Scan advertiser = advertiser
advertiser_won slot Initiate advertiser = advertiser

abbrev pub facts_winning : ℕ → Activity → Facts → Facts
facts_winning slot activity facts = record facts {
  links = links_won slot activity facts.links;
  radio = radio_won slot activity facts.links facts.radio;
  advertising = record facts.advertising { on = advertiser_won slot activity facts.advertising.on };
}

pub winning_is : (slot : ℕ) (activity : Activity) (facts : Facts) → facts_won slot activity facts ≡ facts_winning slot activity facts
winning_is slot (Link handle) facts = refl
winning_is slot Advertise facts = refl
winning_is slot Scan facts = refl
winning_is slot Initiate facts = refl

-- ---- a link that is opened

abbrev pub initiator_stopped : Role → Option InitiatorFacts → Option InitiatorFacts
initiator_stopped Central initiator = None
initiator_stopped Peripheral initiator = initiator

abbrev pub advertiser_stopped : Role → Option AdvertiserFacts → Option AdvertiserFacts
advertiser_stopped Central advertiser = advertiser
advertiser_stopped Peripheral advertiser = None

abbrev pub radio_stopped : Role → Radio → Radio
radio_stopped Central radio = radio
radio_stopped Peripheral radio = free_radio

abbrev pub advertising_noted : Role → ViewAdvertising → ViewAdvertising
advertising_noted Central advertising = advertising
advertising_noted Peripheral advertising = record advertising { on = false }

abbrev pub initiating_noted : Role → Option ℕ → Option ℕ
initiating_noted Central initiating = None
initiating_noted Peripheral initiating = initiating

abbrev pub view_opened : LinkSetup → View → View
view_opened link view = record view {
  advertising = advertising_noted link.role view.advertising;
  initiating = initiating_noted link.role view.initiating;
  links = slice_set view.links link.handle (Some (opened_link link.role link.own link.peer));
}

view_stopped : (role : Role) (view : View) → stopped_by role view
    ≡ record view { advertising = advertising_noted role view.advertising; initiating = initiating_noted role view.initiating }
view_stopped Central view = refl
view_stopped Peripheral view = refl

opened_view : (link : LinkSetup) (view : View) → view_noted view (note_opened link) ≡ view_opened link view
unfolding view_noted
opened_view link view =
    λ i. record (view_stopped link.role view i) { links = slice_set view.links link.handle (Some (opened_link link.role link.own link.peer)) }

abbrev pub facts_opening : LinkSetup → Facts → Facts
facts_opening link facts = record facts {
  view = view_opened link facts.view;
  links = with_link (record { link = link; opened = facts.turn.slot }) facts.links;
  received = received_past (link_at link.handle facts.links) link.handle facts.received;
  radio = radio_stopped link.role facts.radio;
  advertising = record facts.advertising { on = advertiser_stopped link.role facts.advertising.on };
  initiator = initiator_stopped link.role facts.initiator;
}

stopped_is : (role : Role) (facts : Facts) → stopped role facts ≡ record facts {
  radio = radio_stopped role facts.radio;
  advertising = record facts.advertising { on = advertiser_stopped role facts.advertising.on };
  initiator = initiator_stopped role facts.initiator;
}
stopped_is Central facts = refl
stopped_is Peripheral facts = refl

pub opening_is : (link : LinkSetup) (facts : Facts) → facts_opened link facts ≡ facts_opening link facts
opening_is link facts =
    stopped_is link.role (record facts {
      view = view_noted facts.view (note_opened link);
      links = with_link (record { link = link; opened = facts.turn.slot }) facts.links;
      received = received_past (link_at link.handle facts.links) link.handle facts.received;
    })
    ∙ (λ i. record (facts_opening link facts) { view = opened_view link facts.view i })

-- ---- what a turn may begin with

abbrev pub IsAdvertisingChannel : ℕ → Type 0
IsAdvertisingChannel channel = (37 ≤ channel) × (channel ≤ 39)

-- an advertising channel, or an exchange on a link; no request, no response and no new link
abbrev pub MayBegin : Doing → Type 0
MayBegin (Advertises channel) = IsAdvertisingChannel channel
MayBegin (Scans channel) = IsAdvertisingChannel channel
MayBegin (Initiates channel) = IsAdvertisingChannel channel
MayBegin (CentralSends handle) = ⊤
MayBegin (PeripheralListens handle) = ⊤
MayBegin Rests = ⊤
MayBegin other = ⊥

third : (n : ℕ) → (37 ≤ 37 + n % 3) × (37 + n % 3 ≤ 39)
third n = (omega arith, omega arith)

place_is : (place : ℕ) → nat_lt place 3 ≡ true → place ≤ 2
place_is place short = grind (arith, nat_tests)

event_may : (listed : Bool) (place : ℕ) → place ≤ 2 → MayBegin (advertises_on (cond listed (Some (37 + place)) None))
event_may true place short = (omega arith, omega arith)
event_may false place short = tt

placed_may : (early : Bool) (place channels : ℕ) → nat_lt place 3 ≡ early
    → MayBegin (cond early (advertises_on (event_channel channels place)) Rests)
placed_may true place channels is = event_may (has_bit channels place) place (place_is place is)
placed_may false place channels is = tt

advertises_may : (place : ℕ) (advertiser : Option AdvertiserFacts) → MayBegin (advertises_at place advertiser)
advertises_may place None = tt
advertises_may place (Some on) = placed_may (nat_lt place 3) place on.params.channels refl

scans_if : (inside : Bool) (n : ℕ) → MayBegin (scans_on (cond inside (Some (37 + n % 3)) None))
scans_if true n = third n
scans_if false n = tt

scans_may : (slot : ℕ) (scanner : Option ScannerFacts) → MayBegin (scans_on (scanner_channel slot scanner))
scans_may slot None = tt
scans_may slot (Some on) =
    scans_if (nat_lt ((slot - on.since) % slots_of on.params.interval) (slots_of on.params.window))
    ((slot - on.since) / slots_of on.params.interval)

initiates_if : (inside : Bool) (n : ℕ) → MayBegin (initiates_on (cond inside (Some (37 + n % 3)) None))
initiates_if true n = third n
initiates_if false n = tt

initiates_may : (slot : ℕ) (initiator : Option InitiatorFacts) → MayBegin (initiates_on (initiator_channel slot initiator))
initiates_may slot None = tt
initiates_may slot (Some on) =
    initiates_if (nat_lt ((slot - on.since) % slots_of on.params.interval) (slots_of on.params.window))
    ((slot - on.since) / slots_of on.params.interval)

exchange_may : (role : Role) (handle : ℕ) → MayBegin (exchange_begins role handle)
exchange_may Central handle = tt
exchange_may Peripheral handle = tt

first_may : (handle : ℕ) (link : Option OpenLink) → MayBegin (first_exchange handle link)
first_may handle None = tt
first_may handle (Some link) = exchange_may link.setup.link.role handle

exchange_if_may : (continues : Bool) (role : Role) (handle : ℕ) → MayBegin (exchange_if continues role handle)
exchange_if_may true role handle = exchange_may role handle
exchange_if_may false role handle = tt

second_may : (handle : ℕ) (link : Option OpenLink) → MayBegin (second_exchange handle link)
second_may handle None = tt
second_may handle (Some link) = exchange_if_may (has_second_exchange (facts_in link)) link.setup.link.role handle

won_may : (slot : ℕ) (activity : Activity) (facts : Facts) → MayBegin (doing_won slot activity facts)
won_may slot (Link handle) facts = first_may handle (in_event (link_at handle facts.links))
won_may slot Advertise facts = advertises_may 0 facts.advertising.on
won_may slot Scan facts = scans_may slot facts.scanning.on
won_may slot Initiate facts = initiates_may slot facts.initiator

held_may : (slot : ℕ) (activity : Activity) (facts : Facts) → MayBegin (doing_held slot activity facts)
held_may slot (Link handle) facts = second_may handle (in_event (link_at handle facts.links))
held_may slot Advertise facts = advertises_may (slots_since slot facts.radio.hold) facts.advertising.on
held_may slot Scan facts = tt
held_may slot Initiate facts = tt

-- ---- what keeps a fact

-- the steps of a turn are all but an octet of the host
abbrev pub IsInTurn : Step → Type 0
IsInTurn (HostOctet octet) = ⊥
IsInTurn (TurnBegins slot on) = ⊤
IsInTurn (PacketHeard octets) = ⊤
IsInTurn NothingHeard = ⊤
IsInTurn TurnEnds = ⊤

-- a link that is to have an exchange fixes its PDU
abbrev pub facts_fixing : Doing → Facts → Facts
facts_fixing doing facts = record facts { links = links_fixing doing facts.links }

-- each part of the beginning of a turn keeps what is left of it there, and what is done next makes it whole again
pub record IsKeptAtStarts (weak fact : Facts → Type 0) : Type 0 where
  pub weakens : (facts : Facts) → fact facts → weak facts
  -- for any reason, at the start of a turn or at its end
  pub ends : (reason : OpenLink → Option ℕ) (facts : Facts) → weak facts → weak (facts_ended reason facts)
  pub begins : (slot : ℕ) (facts : Facts) → weak facts → weak (turn_begins slot facts)
  pub enters : (slot : ℕ) (facts : Facts) → weak facts → weak (facts_at_events slot facts)
  pub wins : (slot : ℕ) (activity : Activity) (facts : Facts) → weak facts → weak (facts_winning slot activity facts)
  pub fixes : (doing : Doing) (facts : Facts) → weak facts → weak (facts_fixing doing facts)
  pub does : (doing : Doing) (facts : Facts) → MayBegin doing → weak facts → fact (facts_doing doing facts)

-- and so does what comes of a phase, and what the host receives as the turn ends
pub record IsKeptInTurns (setup : Setup) (weak fact : Facts → Type 0) : Type 0 where
  pub starts : IsKeptAtStarts weak fact
  pub reports : (facts : Facts) → weak facts → weak (facts_handed facts)
  pub passes : (facts : Facts) → fact facts → EachOutcome setup facts (λ outcome. fact (facts_passed outcome))
  -- a peripheral that is to hear is given words
  pub words : (handle : ℕ) (facts : Facts) → facts.turn.doing ≡ PeripheralListens handle → fact facts → fact (facts_with_words setup handle facts)

-- a packet of the host is kept
abbrev pub facts_given : ℕ → Bool → List ℕ → Facts → Facts
facts_given handle start octets facts = record facts { links = links_given handle start octets facts.links }

-- and so does each command that is read and accepted, and each packet that is kept
pub record IsKept (setup : Setup) (weak fact : Facts → Type 0) : Type 0 where
  pub accepted : (facts : Facts) (opcode : ℕ) (octets : List ℕ) (command : Command) → command_of opcode octets ≡ Known command
      → status_of facts.view command ≡ 0 → fact facts → fact (facts_accepted setup facts command)
  -- with what it asks of links
  pub asked : (facts : Facts) (command : Command) → is_asking facts.view command ≡ true → fact facts → fact (facts_accepted setup facts command)
      → fact (facts_asked setup facts command)
  pub given : (facts : Facts) (handle count : ℕ) (start : Bool) (octets : List ℕ) → offer_of setup facts handle count ≡ Kept
      → fact facts → fact (facts_given handle start octets facts)
  pub octet : (facts : Facts) (octet : ℕ) → fact facts → fact (with_octet octet facts)
  pub turns : IsKeptInTurns setup weak fact

-- a link that is opened, and nothing is done in the next phase
pub opening_passes : (fact : Facts → Type 0) (link : LinkSetup) (facts : Facts) → fact (facts_doing Rests (facts_opening link facts))
    → fact (facts_passed (opens link facts))
opening_passes fact link facts holds = subst (λ (opened : Facts). fact (facts_doing Rests opened)) (sym (opening_is link facts)) holds

is_zero : (status : ℕ) → (status == 0) ≡ true → status ≡ 0
is_zero status is = elim (eqb_tells status 0) [
  | inl same ↦ same.1
  | inr other ↦ absurd (let h : true ≡ false = sym is ∙ other.0 in absurd cc)
]

holds_by : (setup : Setup) (fact : Facts → Type 0) (accepted : Bool) (facts : Facts) (command : Command)
    → (accepted ≡ true → fact (facts_accepted setup facts command)) → fact facts → fact (facts_known accepted setup facts command)
holds_by setup fact true facts command later holds = later refl
holds_by setup fact false facts command later holds = holds

-- ---- a turn

-- what is done as a turn begins, whatever has the radio
module _ (weak : Facts → Type 0)
    (wins : (slot : ℕ) (activity : Activity) (facts : Facts) → weak facts → weak (facts_winning slot activity facts))
    (P : Outcome → Type 0) (does : (doing : Doing) (facts : Facts) → MayBegin doing → weak facts → P (goes_on facts doing)) where
  winner_is : (slot : ℕ) (winner : Option Activity) (facts : Facts) → weak facts → P (winner_served slot winner facts)
  winner_is slot None facts holds = does Rests facts tt holds
  winner_is slot (Some activity) facts holds =
      does (doing_won slot activity facts) (facts_won slot activity facts) (won_may slot activity facts)
      (subst weak (sym (winning_is slot activity facts)) (wins slot activity facts holds))

  radio_is : (held : Bool) (slot : ℕ) (winner : Option Activity) (facts : Facts) → weak facts → P (radio_served held slot winner facts)
  radio_is true slot winner facts holds =
      does (doing_held slot facts.radio.holder facts) facts (held_may slot facts.radio.holder facts) holds
  radio_is false slot winner facts holds = winner_is slot winner facts holds

  pub served_is : (on : Bool) (slot : ℕ) (winner : Option Activity) (facts : Facts) → weak facts → P (served on slot winner facts)
  served_is false slot winner facts holds = does Rests facts tt holds
  served_is true slot winner facts holds = radio_is (is_held_in facts.radio.hold slot) slot winner facts holds

-- what is held as the links enter their events, and what is left of a fact there
abbrev pub facts_before_doing : ℕ → Facts → Facts
facts_before_doing slot facts = facts_entering slot (turn_begins slot (facts_ending slot facts))

abbrev pub winner_before_doing : ℕ → Facts → Option Activity
winner_before_doing slot facts = winner_of (plan_in slot (turn_begins slot (facts_ending slot facts))) slot

-- the same of what is left of a fact, without what is done next
module _ (weak : Facts → Type 0) (ends : (reason : OpenLink → Option ℕ) (facts : Facts) → weak facts → weak (facts_ended reason facts))
    (begins : (slot : ℕ) (facts : Facts) → weak facts → weak (turn_begins slot facts))
    (enters : (slot : ℕ) (facts : Facts) → weak facts → weak (facts_at_events slot facts))
    (wins : (slot : ℕ) (activity : Activity) (facts : Facts) → weak facts → weak (facts_winning slot activity facts))
    (fixes : (doing : Doing) (facts : Facts) → weak facts → weak (facts_fixing doing facts)) where
  pub left_entering : (slot : ℕ) (facts : Facts) → weak facts → weak (facts_before_doing slot facts)
  left_entering slot facts holds =
      let ended = subst weak (sym (ending_is slot facts)) (ends (due_in slot) facts holds) in
      let begun = turn_begins slot (facts_ending slot facts) in
      subst weak (sym (entering_is slot begun)) (enters slot begun (begins slot (facts_ending slot facts) ended))

  pub left_doing : (P : Doing → Facts → Type 0) → ((doing : Doing) (facts : Facts) → MayBegin doing → weak facts → P doing facts)
      → (slot : ℕ) (on : Bool) (facts : Facts) → weak facts → P (outcome_begun slot on facts).next (outcome_begun slot on facts).facts
  left_doing P does slot on facts holds =
      served_is weak wins (λ outcome. P (fixing outcome).next (fixing outcome).facts)
      (λ doing facts may holds. does doing (facts_fixing doing facts) may (fixes doing facts holds)) on slot
      (winner_before_doing slot facts) (facts_before_doing slot facts) (left_entering slot facts holds)

module _ (weak fact : Facts → Type 0) (kept : IsKeptAtStarts weak fact) where
  pub begun_doing : (P : Doing → Facts → Type 0) → ((doing : Doing) (facts : Facts) → MayBegin doing → weak facts → P doing facts)
      → (slot : ℕ) (on : Bool) (facts : Facts) → fact facts → P (outcome_begun slot on facts).next (outcome_begun slot on facts).facts
  begun_doing P does slot on facts holds =
      left_doing weak kept.ends kept.begins kept.enters kept.wins kept.fixes P does slot on facts (kept.weakens facts holds)

  pub start_keeps : (slot : ℕ) (on : Bool) (facts : Facts) → fact facts → fact (facts_passed (outcome_begun slot on facts))
  start_keeps slot on facts holds = begun_doing (λ doing facts. fact (facts_doing doing facts)) kept.does slot on facts holds

module _ (setup : Setup) (weak fact : Facts → Type 0) (kept : IsKeptInTurns setup weak fact) where
  -- what is left of it as the turn ends
  pub left_leaving : (facts : Facts) → weak facts → weak (facts_ended_turn facts)
  left_leaving facts holds =
      subst weak (sym (leaving_is (facts_handed facts)))
      (kept.starts.ends ending_in (facts_handed facts) (kept.reports facts holds))

  pub turn_keeps : (facts : Facts) (step : Step) → IsInTurn step → fact facts → fact (facts_after setup facts step)
  turn_keeps facts (HostOctet octet) turn holds = absurd turn
  turn_keeps facts (TurnBegins slot on) turn holds = start_keeps weak fact kept.starts slot on facts holds
  turn_keeps facts (PacketHeard octets) turn holds =
      listening_is setup facts (λ outcome. fact (facts_passed outcome)) (kept.passes facts holds) facts.turn.doing octets refl
      (λ handle listens. (kept.passes (facts_with_words setup handle facts) (kept.words handle facts listens holds)).received handle octets)
  turn_keeps facts NothingHeard turn holds =
      unheard_is setup facts (λ outcome. fact (facts_passed outcome)) (kept.passes facts holds) facts.turn.doing refl
  turn_keeps facts TurnEnds turn holds =
      kept.starts.does Rests (facts_ended_turn facts) tt (left_leaving facts (kept.starts.weakens facts holds))

-- ---- an octet of the host

module _ (setup : Setup) (fact : Facts → Type 0)
    (accepted : (facts : Facts) (opcode : ℕ) (octets : List ℕ) (command : Command) → command_of opcode octets ≡ Known command
    → status_of facts.view command ≡ 0 → fact facts → fact (facts_accepted setup facts command))
    (asked : (facts : Facts) (command : Command) → is_asking facts.view command ≡ true → fact facts → fact (facts_accepted setup facts command)
    → fact (facts_asked setup facts command))
    (given : (facts : Facts) (handle count : ℕ) (start : Bool) (octets : List ℕ) → offer_of setup facts handle count ≡ Kept
    → fact facts → fact (facts_given handle start octets facts))
    (kept : (facts : Facts) (octet : ℕ) → fact facts → fact (with_octet octet facts)) where
  holds_read : (facts : Facts) (opcode : ℕ) (octets : List ℕ) (read : CmdRead) → command_of opcode octets ≡ read → fact facts
      → fact (facts_commanded setup facts read)
  holds_read facts opcode octets (Known command) is holds =
      let status = status_of facts.view command in
      of_asking setup facts command fact
      (holds_by setup fact (status == 0) facts command (λ took. accepted facts opcode octets command is (is_zero status took) holds) holds)
      (λ asks left. asked facts command asks holds left)
  holds_read facts opcode octets UnknownOpcode is holds = holds
  holds_read facts opcode octets BadLength is holds = holds

  holds_offered : (offer : Offer) (facts : Facts) (handle count : ℕ) (start : Bool) (octets : List ℕ) → offer_of setup facts handle count ≡ offer
      → fact facts → fact (facts_offered offer handle start octets facts)
  holds_offered Kept facts handle count start octets is holds = given facts handle count start octets is holds
  holds_offered NoLink facts handle count start octets is holds = holds
  holds_offered Empty facts handle count start octets is holds = holds
  holds_offered Overflow facts handle count start octets is holds = holds

  holds_fed : (facts : Facts) (fed : Fed) → fact facts → fact (facts_fed setup facts fed)
  holds_fed facts (Packet (HostCommand opcode body)) holds = holds_read facts opcode body.items (command_of opcode body.items) refl holds
  holds_fed facts (Packet (Acl handle start count body)) holds =
      holds_offered (offer_of setup facts handle count) facts handle count start body.items refl holds
  holds_fed facts LostSync holds = holds
  holds_fed facts More holds = holds

  pub octet_keeps : (facts : Facts) (octet : ℕ) → fact facts → fact (facts_after setup facts (HostOctet octet))
  octet_keeps facts octet holds =
      kept (facts_fed setup facts (result_of facts.octets octet)) octet (holds_fed facts (result_of facts.octets octet) holds)

-- ---- all steps

-- a fact that each step keeps
module _ (setup : Setup) (fact : Facts → Type 0) (keeps : (facts : Facts) (step : Step) → fact facts → fact (facts_after setup facts step)) where
  pub kept_from : (facts : Facts) (past : List Step) → fact facts → fact (fold (facts_after setup) facts past)
  kept_from facts [] holds = holds
  kept_from facts (step ∷ past) holds = kept_from (facts_after setup facts step) past (keeps facts step holds)

  pub kept_always : fact (first_facts setup) → (past : List Step) → fact (facts_of setup past)
  unfolding facts_of
  kept_always holds past = kept_from (first_facts setup) past holds

module _ (setup : Setup) (weak fact : Facts → Type 0) (kept : IsKept setup weak fact) where
  pub holds_step : (facts : Facts) (step : Step) → fact facts → fact (facts_after setup facts step)
  holds_step facts (HostOctet octet) holds = octet_keeps setup fact kept.accepted kept.asked kept.given kept.octet facts octet holds
  holds_step facts (TurnBegins slot on) holds = turn_keeps setup weak fact kept.turns facts (TurnBegins slot on) tt holds
  holds_step facts (PacketHeard octets) holds = turn_keeps setup weak fact kept.turns facts (PacketHeard octets) tt holds
  holds_step facts NothingHeard holds = turn_keeps setup weak fact kept.turns facts NothingHeard tt holds
  holds_step facts TurnEnds holds = turn_keeps setup weak fact kept.turns facts TurnEnds tt holds

  pub holds_from : (facts : Facts) (past : List Step) → fact facts → fact (fold (facts_after setup) facts past)
  holds_from facts past holds = kept_from setup fact holds_step facts past holds

  pub always : fact (first_facts setup) → (past : List Step) → fact (facts_of setup past)
  always holds past = kept_always setup fact holds_step holds past
