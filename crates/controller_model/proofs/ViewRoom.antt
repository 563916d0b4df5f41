-- The view of a controller knows its limit, its links and whether it initiates. A room for links that each change leaves is left
-- by each step.
use Rattle.std.proofs.Common.{◌≡◌, ℕ, ◌+◌, ◌-◌, ◌<◌, ◌≤◌, Bool, true, false, Option, Some, None, List, [], ◌∷◌, ◌++◌, length, replicate, refl, ap, sym, subst, ◌∙◌, arith}
use Rattle.std.specs.Prelude.{fold, is_some, slice_set, ◌&&◌, ⊤, if◌then◌else◌}
use Rattle.std.proofs.Math.ListN.{set}
use Rattle.std.proofs.lemmas.List.{length-map, map-set, replicate-append-replicate, set-append_left}
use Rattle.ble_base.specs.declared.roles.Role.{Role}
use Rattle.ble_base.specs.declared.roles.Role.TheVariants.{Central, Peripheral}
use Rattle.ble_base.specs.declared.addresses.Address.{Address}
use Rattle.ble_base.specs.declared.notes.Note.{Note}
use Rattle.adv_pdu.specs.declared.pdu.AdvPdu.{AdvPdu}
use Rattle.adv_pdu.specs.declared.pdu.AdvPdu.TheVariants.{ScanReq, Connect}
use Rattle.adv_pdu.specs.declared.pdu.ConnectFields.{ConnectFields}
use Rattle.hci_cmd.specs.declared.command.Command.{Command}
use Rattle.hci_cmd.specs.declared.command.Command.TheVariants.{Reset}
use Rattle.host_view.specs.declared.view.Advertising.{Advertising as ViewAdvertising}
use Rattle.host_view.specs.declared.links.Link.{Link as ViewLink}
use Rattle.host_view.specs.View.{View, no_links}
use Rattle.host_view.specs.Changes.{view_after}
use Rattle.host_view.specs.Noted.{view_noted}
use Rattle.host_view.specs.Refusals.{is_connectable}
use Rattle.host_view.specs.Status.{status_of}
use Rattle.advertise.specs.declared.answers.AdvAnswer.TheVariants.{Ignore, Respond, Connect as Takes}
use Rattle.advertise.specs.declared.params.AdvParams.{AdvParams}
use Rattle.advertise.specs.Answers.{advertiser_answer, is_scan_answered}
use Rattle.advertise.proofs.Takings.{taken_connection}
use Rattle.host_view.specs.scan_init.Initiating.{InitiatorFacts}
use Rattle.host_view.specs.scan_init.Reports.{does_ask, scan_answer}
use Rattle.link_commands.specs.open_links.link_model.declared.setup.LinkSetup.{LinkSetup}
use Rattle.link_commands.specs.open_links.link_model.Step.{DataGiven, WordsGiven}
use Rattle.link_commands.specs.open_links.declared.ended.LinkEnded.{LinkEnded}
use Rattle.link_commands.specs.open_links.Data.{link_reported}
use Rattle.link_commands.specs.open_links.OpenLinks.{Links, OpenLink, free_from, link_after, link_at, new_link, with_link}
use Rattle.link_commands.specs.open_links.Turns.{ending_in, link_entered}
use Rattle.link_commands.specs.LinksCommanded.{view_commanded_on}
use Rattle.controller_model.specs.declared.doing.Doing.{Doing}
use Rattle.controller_model.specs.declared.doing.Doing.TheVariants.{Advertises, AwaitsRequest, Responds, AwaitsResponse, Connects, CentralListens, Rests}
use Rattle.controller_model.specs.Step.{Step, HostOctet, TurnBegins, PacketHeard, NothingHeard, TurnEnds}
use Rattle.controller_model.specs.Facts.{Setup, Facts, first_facts}
use Rattle.controller_model.specs.Commands.{facts_accepted, initiator_after, is_asking, links_after, moment_of}
use Rattle.controller_model.specs.Data.{facts_ended_turn, facts_handed, notes_pieces}
use Rattle.controller_model.proofs.Handing.{handed_open}
use Rattle.controller_model.specs.Heard.{has_room, asks_if, facts_connecting, fields_sent, link_made, link_taken, notes_received, replies_in, reply_if, scanner_after, with_scanner, facts_with_words}
use Rattle.controller_model.specs.Outcome.{facts_passed}
use Rattle.controller_model.specs.Packets.{facts_doing}
use Rattle.controller_model.specs.Radio.{notes_entered}
use Rattle.controller_model.specs.Side.{facts_after, facts_of}
use Rattle.controller_model.proofs.Asked.{asking_leaves, facts_asked}
use Rattle.controller_model.proofs.Following.{AreOfOpenLinks, all_entering_are, facts_receiving, received_are, receiving_passes, view_followed}
use Rattle.controller_model.proofs.Always.{IsInTurn, MayBegin, advertising_noted, facts_ended, facts_opening, holds_step, initiating_noted, initiator_stopped, leaving_is, left_doing, links_shut, octet_keeps, opening_passes}
use Rattle.controller_model.proofs.AdvertisersKnown.{AdvertisersKnown, advertisers_kept, advertisers_known, connectable_known}
use Rattle.controller_model.proofs.Handles.{HaveOwnHandles, IsNew, free_is_new, handles_kept, own_handles, words_own}
use Rattle.controller_model.proofs.OpenPlaces.{asked_opens, changed_opens, ended_agree, first_opens, fixed_opens, followed_opens, known_opens, many, many-append, many_full, many_none, many_opened, many_shut, mapped_opens, opened_opens, opens, received_opens, reset_opens, sent_opens, view_opens, won_opens}
use Rattle.controller_model.proofs.Phases.{EachOutcome, heard_is, unheard_is}
use Rattle.controller_model.proofs.Room.{initiates_after, limit_after, may_connect}
use Rattle.controller_model.specs.Links.{ends_for}

-- ---- what the view tells

-- the view has six places, of which a controller of fewer links leaves the last ones free
abbrev spare : Setup → List Bool
spare setup = replicate (6 - setup.links) false

-- a room is a relation of whether it initiates, how many links are open, what the view tells of advertising, and the limit
pub record FitsView (Room : Bool → ℕ → ViewAdvertising → ℕ → Type 0) (setup : Setup) (limit : ℕ) (seen : List Bool)
    (advertising : ViewAdvertising) (seeks initiates : Bool) (held : List Bool) : Type 0 where
  pub limit_is : limit ≡ setup.links
  pub places : seen ≡ held ++ spare setup
  pub initiates_is : seeks ≡ initiates
  pub room : Room initiates (many seen) advertising limit

-- by the view of a controller that holds links in these places
abbrev pub Holding : (Bool → ℕ → ViewAdvertising → ℕ → Type 0) → Setup → Facts → List Bool → Type 0
Holding Room setup facts held =
    FitsView Room setup facts.view.limit (opens facts.view.links) facts.view.advertising (is_some facts.view.initiating)
    (is_some facts.initiator) held

abbrev pub IsKnown : (Bool → ℕ → ViewAdvertising → ℕ → Type 0) → Setup → Facts → Type 0
IsKnown Room setup facts = Holding Room setup facts (opens facts.links)

six_places : (n : ℕ) → n ≤ 6 → replicate 6 false ≡ replicate n false ++ replicate (6 - n) false
six_places n few =
    ap (λ (k : ℕ). replicate k false) (let same : 6 ≡ n + (6 - n) = omega arith in same) ∙ sym (replicate-append-replicate n (6 - n) false)

pub first_known : (Room : Bool → ℕ → ViewAdvertising → ℕ → Type 0) (setup : Setup) → setup.links ≤ 6
    → Room false (many (opens (first_facts setup).view.links)) (first_facts setup).view.advertising setup.links → IsKnown Room setup (first_facts setup)
first_known Room setup few room = record {
  limit_is = refl;
  places = six_places setup.links few ∙ ap (λ (places : List Bool). places ++ spare setup) (sym (first_opens setup.links));
  initiates_is = refl;
  room = room;
}

-- so while its handles are all taken, as many links are open in the view as there may be
pub full_view : (Room : Bool → ℕ → ViewAdvertising → ℕ → Type 0) (setup : Setup) (facts : Facts) → free_from 0 facts.links ≡ None
    → HaveOwnHandles setup facts → IsKnown Room setup facts → many (opens facts.view.links) ≡ facts.view.limit
full_view Room setup facts is own known =
    let full = many_full 0 facts.links is in
    let counted : many (opens facts.view.links) ≡ many (opens facts.links) + 0 =
    ap many known.places ∙ many-append (opens facts.links) (spare setup)
    ∙ ap (λ (n : ℕ). many (opens facts.links) + n) (many_none (6 - setup.links)) in
    counted ∙ (let same : many (opens facts.links) + 0 ≡ facts.view.limit = omega (arith, full, own.many, known.limit_is) in same)

-- ---- what is to be made

-- a CONNECT_IND that is to be sent is that of such a link
abbrev pub Makes : (LinkSetup → Type 0) → Doing → Type 0
Makes P (Connects channel link) = P link
Makes P other = ⊤

pub begin_makes : (P : LinkSetup → Type 0) (doing : Doing) → MayBegin doing → Makes P doing
begin_makes P (Connects channel link) may = absurd may
begin_makes P (Advertises channel) may = tt
begin_makes P other may = tt

pub asks_makes : (P : LinkSetup → Type 0) (asks : Bool) (channel : ℕ) (pdu : AdvPdu) → Makes P (asks_if asks channel pdu)
asks_makes P true channel pdu = tt
asks_makes P false channel pdu = tt

pub reply_makes : (P : LinkSetup → Type 0) (replies : Bool) (handle : ℕ) → Makes P (reply_if replies handle)
reply_makes P true handle = tt
reply_makes P false handle = tt

-- ---- a link that is taken is of connectable advertising

answers_by : (test : Bool) (fields : ConnectFields) → (if test then Respond else Ignore) ≡ Takes fields → ⊥
answers_by true fields is = absurd cc
answers_by false fields is = absurd cc

takes_connectable : (params : AdvParams) (list : List Address) (pdu : AdvPdu) (fields : ConnectFields)
    → advertiser_answer params list pdu ≡ Takes fields → is_connectable params.kind ≡ true
takes_connectable params list (Connect from to ch_sel given) fields is =
    (taken_connection params list from to ch_sel given fields is).0.connectable
takes_connectable params list (ScanReq from to) fields is = absurd (answers_by (is_scan_answered params list from to) fields is)
takes_connectable params list other fields is = absurd cc

-- ---- the places

reset_places : (setup : Setup) (links : Links) → setup.links ≤ 6 → length links ≡ setup.links → opens no_links ≡ opens (links_after Reset links) ++ spare setup
reset_places setup links few long =
    six_places setup.links few
    ∙ ap (λ (n : ℕ). replicate n false ++ spare setup) (sym long)
    ∙ ap (λ (places : List Bool). places ++ spare setup) (sym (reset_opens links))

reset_view : (view : View) → (view_after view Reset).links ≡ no_links
unfolding view_after
reset_view view = refl

places_after : (setup : Setup) (facts : Facts) (command : Command) → setup.links ≤ 6 → length facts.links ≡ setup.links
    → opens facts.view.links ≡ opens facts.links ++ spare setup
    → opens (view_after facts.view command).links ≡ opens (links_after command facts.links) ++ spare setup
places_after setup facts Reset few long agree = ap opens (reset_view facts.view) ∙ reset_places setup facts.links few long
places_after setup facts other few long agree = view_opens facts.view other refl ∙ agree

shut_fewer : (links : List (Option ViewLink)) (ended : List LinkEnded) → many (opens (links_shut links ended)) ≤ many (opens links)
shut_fewer links [] = omega arith
shut_fewer links (one ∷ ended) =
    let rest = shut_fewer (slice_set links one.handle None) ended in
    let first : many (opens (slice_set links one.handle None)) ≤ many (opens links) =
    subst (λ (places : List Bool). many places ≤ many (opens links)) (sym (map-set is_some links one.handle None)) (many_shut (opens links) one.handle) in
    omega (arith, rest, first)

opened_places : (setup : Setup) (link : LinkSetup) (facts : Facts) (opened : ViewLink) → link.handle < length facts.links
    → opens facts.view.links ≡ opens facts.links ++ spare setup
    → opens (slice_set facts.view.links link.handle (Some opened))
    ≡ opens (with_link (record { link = link; opened = facts.turn.slot }) facts.links) ++ spare setup
opened_places setup link facts opened below agree =
    let within : link.handle < length (opens facts.links) = omega (arith, length-map facts.links (is_some {T = OpenLink}), below) in
    map-set is_some facts.view.links link.handle (Some opened)
    ∙ ap (λ (places : List Bool). set places link.handle true) agree
    ∙ set-append_left (opens facts.links) (spare setup) link.handle true within
    ∙ ap (λ (places : List Bool). places ++ spare setup)
    (sym (opened_opens (new_link (record { link = link; opened = facts.turn.slot })) link.handle facts.links))

opened_many : (links : List (Option ViewLink)) (handle : ℕ) (link : ViewLink)
    → many (opens (slice_set links handle (Some link))) ≤ many (opens links) + 1
opened_many links handle link =
    subst (λ (places : List Bool). many places ≤ many (opens links) + 1) (sym (map-set is_some links handle (Some link)))
    (many_opened (opens links) handle)

opened_initiates : (role : Role) (view : Option ℕ) (initiator : Option InitiatorFacts) → is_some view ≡ is_some initiator
    → is_some (initiating_noted role view) ≡ is_some (initiator_stopped role initiator)
opened_initiates Central view initiator same = refl
opened_initiates Peripheral view initiator same = same

-- ---- what holds at any time

-- its handles are its own, and its view knows what it advertises
abbrev pub KnowsOwn : Setup → Facts → Type 0
KnowsOwn setup facts = HaveOwnHandles setup facts × AdvertisersKnown facts

pub own_after : (setup : Setup) (facts : Facts) (step : Step) → KnowsOwn setup facts → KnowsOwn setup (facts_after setup facts step)
own_after setup facts step own = (
  holds_step setup (HaveOwnHandles setup) (HaveOwnHandles setup) (handles_kept setup) facts step own.0,
  holds_step setup AdvertisersKnown AdvertisersKnown (advertisers_kept setup) facts step own.1,
)

pub first_own : (setup : Setup) → KnowsOwn setup (first_facts setup)
unfolding facts_of
first_own setup = (own_handles setup [], advertisers_known setup [])

-- ---- what each step leaves

-- each change leaves a room that was left before it; what is known of a link that is to be made may depend on whether its
-- controller initiates
pub record IsRoomLeft (setup : Setup) (Room : Bool → ℕ → ViewAdvertising → ℕ → Type 0) (P : Bool → LinkSetup → Type 0) : Type 0 where
  pub accepted : (view : View) (slot : ℕ) (command : Command) (initiator : Option InitiatorFacts) → status_of view command ≡ 0
      → is_some view.initiating ≡ is_some initiator → Room (is_some initiator) (many (opens view.links)) view.advertising view.limit
      → Room (is_some (initiator_after setup view slot command initiator)) (many (opens (view_after view command).links))
      (view_after view command).advertising (view_after view command).limit
  pub fewer : (initiates : Bool) (opened less : ℕ) (advertising : ViewAdvertising) (limit : ℕ) → less ≤ opened
      → Room initiates opened advertising limit → Room initiates less advertising limit
  pub connects : (link : LinkSetup) → link.role ≡ Central → P true link
  pub sent : (link : LinkSetup) (initiator : Option InitiatorFacts) (opened more : ℕ) (advertising : ViewAdvertising) (limit : ℕ)
      → P (is_some initiator) link → more ≤ opened + 1 → Room (is_some initiator) opened advertising limit
      → Room (is_some (initiator_stopped link.role initiator)) more (advertising_noted link.role advertising) limit
  pub taken : (initiates : Bool) (opened more : ℕ) (advertising : ViewAdvertising) (limit : ℕ) → may_connect advertising ≡ true
      → more ≤ opened + 1 → Room initiates opened advertising limit → Room initiates more (record advertising { on = false }) limit

module _ (setup : Setup) (few : setup.links ≤ 6) (Room : Bool → ℕ → ViewAdvertising → ℕ → Type 0) (P : Bool → LinkSetup → Type 0)
    (left : IsRoomLeft setup Room P) where
  -- where links are open as they were
  still_known : (facts : Facts) (held : List Bool) → held ≡ opens facts.links → IsKnown Room setup facts → Holding Room setup facts held
  still_known facts held same known = subst (Holding Room setup facts) (sym same) known

  -- and in the view
  seen_known : (facts : Facts) (links : List (Option ViewLink)) (held : List Bool) → opens links ≡ opens facts.view.links → held ≡ opens facts.links
      → IsKnown Room setup facts → Holding Room setup (record facts { view = record facts.view { links = links } }) held
  seen_known facts links held seen same known = record {
    limit_is = known.limit_is;
    places = seen ∙ known.places ∙ ap (λ (places : List Bool). places ++ spare setup) (sym same);
    initiates_is = known.initiates_is;
    room = subst (λ (places : List Bool). Room (is_some facts.initiator) (many places) facts.view.advertising facts.view.limit) (sym seen) known.room;
  }

  followed_known : (facts : Facts) (notes : List Note) (held : List Bool) → AreOfOpenLinks notes → held ≡ opens facts.links → IsKnown Room setup facts
      → Holding Room setup (record facts { view = view_followed facts.view notes }) held
  followed_known facts notes held of same known = seen_known facts (fold view_noted facts.view notes).links held (followed_opens facts.view notes of) same known

  accepted_known : (facts : Facts) (command : Command) → length facts.links ≡ setup.links → status_of facts.view command ≡ 0
      → IsKnown Room setup facts → IsKnown Room setup (facts_accepted setup facts command)
  accepted_known facts command long accepted known = record {
    limit_is = limit_after facts.view command ∙ known.limit_is;
    places = places_after setup facts command few long known.places;
    initiates_is = initiates_after setup facts.view facts.turn.begun command facts.initiator known.initiates_is;
    room = left.accepted facts.view facts.turn.begun command facts.initiator accepted known.initiates_is known.room;
  }

  asked_known : (facts : Facts) (command : Command) → is_asking facts.view command ≡ true → IsKnown Room setup (facts_accepted setup facts command)
      → IsKnown Room setup (facts_asked setup facts command)
  asked_known facts command asks known =
      seen_known (facts_accepted setup facts command) (view_commanded_on facts.view command facts.links).links _
      (known_opens (view_after facts.view command) command facts.links)
      (asked_opens command (moment_of setup facts) facts.links ∙ sym (ap opens (asking_leaves facts command asks))) known

  pub octet_known : (facts : Facts) (octet : ℕ) → HaveOwnHandles setup facts → IsKnown Room setup facts
      → IsKnown Room setup (facts_after setup facts (HostOctet octet))
  octet_known facts octet own known =
      (octet_keeps setup (λ facts. HaveOwnHandles setup facts × IsKnown Room setup facts)
      (λ facts opcode octets command is accepted both. (
        (handles_kept setup).accepted facts opcode octets command is accepted both.0,
        accepted_known facts command both.0.many accepted both.1,
      ))
      (λ facts command asks both left. (
        (handles_kept setup).asked facts command asks both.0 left.0,
        asked_known facts command asks left.1,
      ))
      (λ facts handle count start octets is both. (
        (handles_kept setup).given facts handle count start octets is both.0,
        still_known facts _ (changed_opens (link_after (DataGiven start octets)) handle facts.links) both.1,
      ))
      (λ facts octet both. ((handles_kept setup).octet facts octet both.0, both.1)) facts octet (own, known)).1

  ended_known : (reason : OpenLink → Option ℕ) (facts : Facts) → IsKnown Room setup facts → IsKnown Room setup (facts_ended reason facts)
  ended_known reason facts known = record {
    limit_is = known.limit_is;
    places = ended_agree reason [] (spare setup) facts.view.links 0 facts.links refl known.places;
    initiates_is = known.initiates_is;
    room = left.fewer (is_some facts.initiator) (many (opens facts.view.links)) _ facts.view.advertising facts.view.limit
        (shut_fewer facts.view.links (ends_for reason facts)) known.room;
  }

  doing_known : (doing : Doing) (facts : Facts) → IsKnown Room setup facts → IsKnown Room setup (facts_doing doing facts)
  doing_known doing facts known = still_known facts _ (sent_opens facts.turn.slot doing facts.links) known

  -- a link is opened
  opened_known : (link : LinkSetup) (facts : Facts) → link.handle < length facts.links → IsKnown Room setup facts
      → Room (is_some (initiator_stopped link.role facts.initiator)) (many (opens (facts_opening link facts).view.links))
      (advertising_noted link.role facts.view.advertising) facts.view.limit
      → IsKnown Room setup (facts_opening link facts)
  opened_known link facts below known room = record {
    limit_is = known.limit_is;
    places = opened_places setup link facts _ below known.places;
    initiates_is = opened_initiates link.role facts.view.initiating facts.initiator known.initiates_is;
    room = room;
  }

  abbrev pub InTurn : Facts → Type 0
  InTurn facts = IsKnown Room setup facts × Makes (P (is_some facts.initiator)) facts.turn.doing

  passes_known : (facts : Facts) → KnowsOwn setup facts → InTurn facts → EachOutcome setup facts (λ outcome. InTurn (facts_passed outcome))
  passes_known facts own both =
      let known = both.0 in
      let opened = many (opens facts.view.links) in
      let limit = facts.view.limit in
      record {
        rests = (doing_known Rests facts known, tt);
        awaits_request = λ channel doing. (doing_known (AwaitsRequest channel) facts known, tt);
        awaits_response = λ channel advertiser doing. (doing_known (AwaitsResponse channel) facts known, tt);
        central_listens = λ handle doing. (doing_known (CentralListens handle) facts known, tt);
        sent = λ channel link doing. opening_passes InTurn link facts (
          doing_known Rests (facts_opening link facts)
              (opened_known link facts (subst (IsNew facts.links) doing own.0.new).0 known
              (left.sent link facts.initiator opened _ facts.view.advertising limit (subst (Makes (P (is_some facts.initiator))) doing both.1)
              (opened_many facts.view.links link.handle _) known.room)),
          tt,
        );
        responds = λ channel on doing is_on. (doing_known (Responds channel) facts known, tt);
        taken = λ channel octets pdu on fields handle is_on hears takes free.
            let link = link_taken facts.view on.params.own pdu fields handle in
            opening_passes InTurn link facts (
              doing_known Rests (facts_opening link facts)
                  (opened_known link facts (free_is_new facts.links handle free).0 known
                  (left.taken (is_some facts.initiator) opened _ facts.view.advertising limit
                  (connectable_known facts.view.advertising facts.advertising on own.1 is_on
                  (takes_connectable on.params facts.view.accepted pdu fields takes))
                  (opened_many facts.view.links handle _) known.room)),
              tt,
            );
        scanned = λ channel octets pdu on doing is_on hears.
            let asks = true && does_ask (scan_answer on.params facts.view.accepted on.recent pdu) in
            let after = scanner_after on facts.view.accepted pdu in
            (doing_known (asks_if asks channel pdu) (with_scanner after facts) known, asks_makes (P (is_some facts.initiator)) asks channel pdu);
        answered = λ channel octets pdu on doing is_on hears.
            let asks = false && does_ask (scan_answer on.params facts.view.accepted on.recent pdu) in
            let after = scanner_after on facts.view.accepted pdu in
            (doing_known (asks_if asks channel pdu) (with_scanner after facts) known, asks_makes (P (is_some facts.initiator)) asks channel pdu);
        connects = λ channel octets pdu on access handle doing is_on hears answers next free in_range.
            let link = link_made facts.view on.params.own pdu (fields_sent setup on access facts) handle in (
              doing_known (Connects channel link) (facts_connecting setup facts) known,
              subst (λ (initiates : Bool). P initiates link) (sym (ap is_some is_on)) (left.connects link refl),
            );
        received = λ handle octets.
            let room = has_room setup facts in
            let replies = replies_in facts.turn.slot room (link_at handle facts.links) octets in
            receiving_passes InTurn setup handle octets facts (
              doing_known (reply_if replies handle) (facts_receiving handle room octets facts)
                  (followed_known facts (notes_received handle room octets facts) _ (received_are handle room octets facts)
                  (received_opens handle room octets facts) known),
              reply_makes (P (is_some facts.initiator)) replies handle,
            );
      }

  begins_known : (slot : ℕ) (on : Bool) (facts : Facts) → IsKnown Room setup facts → InTurn (facts_after setup facts (TurnBegins slot on))
  begins_known slot on facts known =
      left_doing (IsKnown Room setup) ended_known (λ slot facts known. known)
      (λ slot facts known. followed_known facts (notes_entered slot facts) _ (all_entering_are facts.view slot 0 facts.links)
      (mapped_opens (link_entered slot) facts.links) known)
      (λ slot activity facts known. still_known facts _ (won_opens slot activity facts.links) known)
      (λ doing facts known. still_known facts _ (fixed_opens doing facts.links) known)
      (λ doing facts. InTurn (facts_doing doing facts))
      (λ doing facts may known. (doing_known doing facts known, begin_makes (P (is_some facts.initiator)) doing may)) slot on facts known

  -- each step of a turn
  pub turn_known : (facts : Facts) (step : Step) → IsInTurn step → KnowsOwn setup facts → InTurn facts → InTurn (facts_after setup facts step)
  turn_known facts (HostOctet octet) turn own both = absurd turn
  turn_known facts (TurnBegins slot on) turn own both = begins_known slot on facts both.0
  turn_known facts (PacketHeard octets) turn own both =
      heard_is setup facts (λ outcome. InTurn (facts_passed outcome)) (passes_known facts own both) facts.turn.doing octets refl
      (λ handle. (passes_known (facts_with_words setup handle facts) (words_own setup handle facts own.0, own.1)
      (still_known facts _ (changed_opens (link_after (WordsGiven _ _)) handle facts.links) both.0, both.1)).received handle octets)
  turn_known facts NothingHeard turn own both =
      unheard_is setup facts (λ outcome. InTurn (facts_passed outcome)) (passes_known facts own both) facts.turn.doing refl
  turn_known facts TurnEnds turn own both =
      let handed = followed_known facts (notes_pieces facts) _ (handed_open facts) (mapped_opens link_reported facts.links) both.0 in
      let left = subst (IsKnown Room setup) (sym (leaving_is (facts_handed facts))) (ended_known ending_in (facts_handed facts) handed) in
      (doing_known Rests (facts_ended_turn facts) left, tt)
