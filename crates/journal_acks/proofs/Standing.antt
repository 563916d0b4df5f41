-- What the facts of a station say of one of its links at each place of a run of a pair.
use Rattle.std.proofs.Common.{◌≡◌, ℕ, ◌<◌, ◌==◌, ◌⊎◌, inl, inr, Bool, true, false, Option, Some, List, [], ◌∷◌, refl, sym, ap, subst, ◌∙◌, arith}
use Rattle.std.proofs.lemmas.Bool.{eqb-true, eqb-false, false_from_ne_true}
use Rattle.ble_base.specs.declared.roles.Role.{Role}
use Rattle.ble_base.specs.declared.roles.Role.TheVariants.{Central, Peripheral}
use Rattle.journal_packets.specs.link_model.Packets.{packet_sent}
use Rattle.journal_packets.specs.open_links.OpenLinks.{Links, OpenLink, facts_in, link_at}
use Rattle.journal_packets.specs.controller_model.declared.doing.Doing.{Doing}
use Rattle.journal_packets.specs.controller_model.declared.doing.Doing.TheVariants.{Advertises, CentralSends, CentralListens, PeripheralListens}
use Rattle.journal_packets.specs.controller_model.declared.doing.Doing.TheVariants.{PeripheralSends}
use Rattle.journal_packets.specs.controller_model.Facts.{Setup, Facts, Sends, Listens}
use Rattle.journal_packets.specs.controller_model.Heard.{reply_if}
use Rattle.journal_packets.specs.controller_model.Packets.{listens_on}
use Rattle.journal_packets.specs.controller_model.Sent.{SendsOn}
use Rattle.journal_packets.proofs.controller_model.DataChannels.{link_channel}
use Rattle.link_calls.specs.run_model.Due.{packet_in}
use Rattle.link_calls.specs.run_model.History.{Event, past_of, turns_begun}
use Rattle.link_calls.specs.run_model.Links.{is_advertising}
use Rattle.link_calls.specs.run_model.Run.{Given, facts_at, setup_at}
use Rattle.link_calls.proofs.run_model.Stations.{is_in}
use Rattle.link_calls.proofs.run_model.Walk.{Place}
use Rattle.journal_packets.proofs.run_laws.Agreed.{ack_of}
use Rattle.journal_packets.proofs.run_laws.ConnectInds.{no_advertising}
use Rattle.journal_packets.proofs.run_laws.InAgreement.{IsFresh, IsStation, OpenedBefore}
use Rattle.journal_packets.proofs.run_laws.LinkPasses.{is_on_link}
use Rattle.journal_packets.proofs.run_laws.LinkPhases.{HasRole, IsInPhase}
use Rattle.journal_packets.proofs.run_laws.OpenSteps.{open_has}
use Rattle.journal_packets.proofs.run_laws.TurnPlaces.{AllStand, Standing, stands_at, turned}
use Rattle.journal_packets.proofs.run_laws.TurnSteps.{IsListening}
use Rattle.journal_acks.specs.Counted.{IsCounted}
use Rattle.journal_acks.specs.Exchange.{Exchanged, first_exchanged}
use Rattle.journal_acks.proofs.Acks.{first_counted}
use Rattle.journal_acks.proofs.Counting.{IsEndCounted, from_plain}
use Rattle.link_calls.proofs.LinkCalls.{off_listens, off_sends}
use Rattle.link_calls.proofs.LinkPhases.{IsPhased, phased_first, phased_kept}
use Rattle.link_calls.proofs.LinkUses.{IsSendingOpen}
use Rattle.link_calls.specs.Uses.{listens_under, sends_under}
use Rattle.journal_acks.proofs.TwoStations.{same_number}

abbrev pub PhasedBy : Given → List Event → ℕ → Standing → Type 0
PhasedBy given history station at = IsPhased (setup_at given station) at.stage at.begun (facts_at given station history)

pub phased_at : (given : Given) (place : Place) (history : List Event) → AllStand given place history → (station : ℕ) → is_in station given.stations ≡ true
    → PhasedBy given history station (stands_at place station (turns_begun history))
phased_at given place history stand station is =
    let setup = setup_at given station in
    turned setup (IsPhased setup) (phased_kept setup) (past_of station history) (stands_at place station (turns_begun history)) (phased_first setup) (stand station is)

-- ---- the link on which a station sends or listens

pub record AreOne (handle other : ℕ) (one two : OpenLink) : Type 0 where
  pub handles : handle ≡ other
  pub links : one ≡ two

listens_once : (handle other : ℕ) (doing : Doing) → listens_under handle doing ≡ true → listens_under other doing ≡ true → handle ≡ other
listens_once handle other (CentralListens one) on on_too = sym (eqb-true one handle on) ∙ eqb-true one other on_too
listens_once handle other (PeripheralListens one) on on_too = sym (eqb-true one handle on) ∙ eqb-true one other on_too
listens_once handle other (Advertises channel) on on_too = absurd cc
listens_once handle other doing on on_too = absurd cc

pub one_listened : (links : Links) (doing : Doing) (handle other : ℕ) (one two : OpenLink) → listens_under handle doing ≡ true → listens_under other doing ≡ true
    → link_at handle links ≡ Some one → link_at other links ≡ Some two → AreOne handle other one two
one_listened links doing handle other one two on on_too is is_too =
    let same = listens_once handle other doing on on_too in
    let equal : Some one ≡ Some two = sym is ∙ ap (λ n. link_at n links) same ∙ is_too in
    record { handles = same; links = cc }

pub sends_once : (handle other : ℕ) (doing : Doing) → sends_under handle doing ≡ true → sends_under other doing ≡ true → handle ≡ other
sends_once handle other (CentralSends one) on on_too = sym (eqb-true one handle on) ∙ eqb-true one other on_too
sends_once handle other (PeripheralSends one) on on_too = sym (eqb-true one handle on) ∙ eqb-true one other on_too
sends_once handle other (Advertises channel) on on_too = absurd cc
sends_once handle other doing on on_too = absurd cc

-- a reply is sent on the link that received a packet
pub reply_under : (replies : Bool) (handle other : ℕ) → sends_under other (reply_if replies handle) ≡ true → other ≡ handle
reply_under true handle other on = sym (eqb-true handle other on)
reply_under false handle other on = absurd cc

-- it sends on no other
pub sends_other : (handle other : ℕ) (doing : Doing) → sends_under handle doing ≡ true → (handle == other) ≡ false → sends_under other doing ≡ false
sends_other handle other doing on differs = false_from_ne_true (sends_under other doing) (λ on_too. eqb-false handle other differs (sends_once handle other doing on on_too))

-- ---- what a link sends or listens for is wanted, on a data channel

pub off_channels : (channel : ℕ) → channel < 37 → is_advertising channel ≡ false
off_channels channel below = no_advertising channel (is_advertising channel) refl below

-- what is sent on a link is wanted
pub sends_none : (facts : Facts) (handle : ℕ) (link : OpenLink) → IsSendingOpen facts → link_at handle facts.links ≡ Some link
    → ((sent : OpenLink) → facts.wanted ≡ Sends (facts_in sent).event.channel (packet_sent sent.setup (facts_in sent)) → ⊥) → sends_under handle facts.turn.doing ≡ false
sends_none facts handle link sends is none =
    false_from_ne_true (sends_under handle facts.turn.doing) (λ on. let sending = sends handle link on is in none sending.link sending.wanted)

pub silent_sends : (facts : Facts) (handle : ℕ) (link : OpenLink) → IsSendingOpen facts → link_at handle facts.links ≡ Some link → packet_in facts.wanted ≡ []
    → sends_under handle facts.turn.doing ≡ false
silent_sends facts handle link sends is silent = sends_none facts handle link sends is (λ sent wanted. absurd (let h : (_, _) ∷ [] ≡ [] = ap packet_in (sym wanted) ∙ silent in absurd cc))

-- a packet on an advertising channel is of no link
pub other_sends : (facts : Facts) (handle channel : ℕ) (octets : List ℕ) (link : OpenLink) → IsSendingOpen facts → link_at handle facts.links ≡ Some link
    → facts.wanted ≡ Sends channel octets → is_advertising channel ≡ true → sends_under handle facts.turn.doing ≡ false
other_sends facts handle channel octets link sends is wanted on = sends_none facts handle link sends is (λ sent sends_it.
    let one : Sends channel octets ≡ Sends (facts_in sent).event.channel (packet_sent sent.setup (facts_in sent)) = sym wanted ∙ sends_it in
    let same : channel ≡ (facts_in sent).event.channel = cc in
    let h : true ≡ false = sym on ∙ ap is_advertising same ∙ off_channels (facts_in sent).event.channel (link_channel sent) in absurd cc)

some_listened : (found : Option OpenLink) (link : OpenLink) → found ≡ Some link → listens_on found ≡ Listens (facts_in link).event.channel
some_listened found link is = ap listens_on is

listened_by : (facts : Facts) (handle other : ℕ) (link : OpenLink) → (other == handle) ≡ true → facts.wanted ≡ listens_on (link_at other facts.links)
    → link_at handle facts.links ≡ Some link → facts.wanted ≡ Listens (facts_in link).event.channel
listened_by facts handle other link same wanted is =
    wanted ∙ some_listened (link_at other facts.links) link (ap (λ n. link_at n facts.links) (eqb-true other handle same) ∙ is)

pub listens_wanted : (facts : Facts) (handle : ℕ) (link : OpenLink) (doing : Doing) → listens_under handle doing ≡ true → IsListening facts doing
    → link_at handle facts.links ≡ Some link → facts.wanted ≡ Listens (facts_in link).event.channel
listens_wanted facts handle link (CentralListens other) on listens is = listened_by facts handle other link on listens is
listens_wanted facts handle link (PeripheralListens other) on listens is = listened_by facts handle other link on listens is
listens_wanted facts handle link (Advertises channel) on listens is = absurd cc
listens_wanted facts handle link other on listens is = absurd cc

-- what is heard on an advertising channel is of no link
pub other_listens : (facts : Facts) (handle channel : ℕ) (link : OpenLink) → IsListening facts facts.turn.doing → link_at handle facts.links ≡ Some link
    → facts.wanted ≡ Listens channel → is_advertising channel ≡ true → listens_under handle facts.turn.doing ≡ false
other_listens facts handle channel link listens is wanted on = false_from_ne_true (listens_under handle facts.turn.doing) (λ does.
    let one : Listens channel ≡ Listens (facts_in link).event.channel = sym wanted ∙ listens_wanted facts handle link facts.turn.doing does listens is in
    let same : channel ≡ (facts_in link).event.channel = cc in
    let h : true ≡ false = sym on ∙ ap is_advertising same ∙ off_channels (facts_in link).event.channel (link_channel link) in absurd cc)

pub sends_on : (handle : ℕ) (doing : Doing) → SendsOn handle doing → sends_under handle doing ≡ true
sends_on handle (CentralSends other) sends = ap (λ n. n == handle) sends ∙ same_number handle
sends_on handle (PeripheralSends other) sends = ap (λ n. n == handle) sends ∙ same_number handle
sends_on handle (Advertises channel) sends = absurd sends
sends_on handle other sends = absurd sends

pub sending_on_link : (handle : ℕ) (doing : Doing) → SendsOn handle doing → is_on_link doing ≡ true
sending_on_link handle (CentralSends other) sends = refl
sending_on_link handle (PeripheralSends other) sends = refl
sending_on_link handle (Advertises channel) sends = absurd sends
sending_on_link handle other sends = absurd sends

-- who listens does not send
pub listener_sends : (handle : ℕ) (doing : Doing) → listens_under handle doing ≡ true → sends_under handle doing ≡ false
listener_sends handle (CentralListens other) on = refl
listener_sends handle (PeripheralListens other) on = refl
listener_sends handle (Advertises channel) on = absurd cc
listener_sends handle other on = absurd cc

-- nobody sends on a link after the last phase
pub last_phase : (links : Links) (doing : Doing) (handle : ℕ) → IsInPhase 3 links doing → sends_under handle doing ≡ false
last_phase links (CentralSends other) handle is = absurd (let same = is.0 in omega (arith, same))
last_phase links (PeripheralSends other) handle is = absurd (let same = is.0 in omega (arith, same))
last_phase links (Advertises channel) handle is = refl
last_phase links other handle is = refl

-- ---- the roles of both ends in a phase

role_at : (role : Role) (links : Links) (handle other : ℕ) (link : OpenLink) → (other == handle) ≡ true → HasRole role (link_at other links) → link_at handle links ≡ Some link
    → link.setup.link.role ≡ role
role_at role links handle other link same has is = subst (HasRole role) (ap (λ n. link_at n links) (eqb-true other handle same) ∙ is) has

pub sender_role : (phases : ℕ) (links : Links) (doing : Doing) (handle : ℕ) (link : OpenLink) → IsInPhase phases links doing → sends_under handle doing ≡ true
    → link_at handle links ≡ Some link → ((phases ≡ 0) × (link.setup.link.role ≡ Central)) ⊎ ((phases ≡ 1) × (link.setup.link.role ≡ Peripheral))
sender_role phases links (CentralSends other) handle link is on at = inl (is.0, role_at Central links handle other link on is.1 at)
sender_role phases links (PeripheralSends other) handle link is on at = inr (is.0, role_at Peripheral links handle other link on is.1 at)
sender_role phases links (Advertises channel) handle link is on at = absurd cc
sender_role phases links other handle link is on at = absurd cc

pub listener_role : (phases : ℕ) (links : Links) (doing : Doing) (handle : ℕ) (link : OpenLink) → IsInPhase phases links doing → listens_under handle doing ≡ true
    → link_at handle links ≡ Some link → ((phases ≡ 0) × (link.setup.link.role ≡ Peripheral)) ⊎ ((phases ≡ 1) × (link.setup.link.role ≡ Central))
listener_role phases links (PeripheralListens other) handle link is on at = inl (is.0, role_at Peripheral links handle other link on is.1 at)
listener_role phases links (CentralListens other) handle link is on at = inr (is.0, role_at Central links handle other link on is.1 at)
listener_role phases links (Advertises channel) handle link is on at = absurd cc
listener_role phases links other handle link is on at = absurd cc

-- ---- a link that was opened in this turn

pub fresh_counted : (setup : Setup) (facts : Facts) (handle : ℕ) (link : OpenLink) (unsent : Bool) (received : Option (List ℕ)) (end : Exchanged) → IsStation setup facts
    → link_at handle facts.links ≡ Some link → link.setup.opened ≡ facts.turn.slot → end ≡ first_exchanged → IsEndCounted unsent received handle facts.turn link end
fresh_counted setup facts handle link unsent received end station is now first =
    let off : is_on_link facts.turn.doing ≡ false = false_from_ne_true (is_on_link facts.turn.doing) (λ on.
    let before : link.setup.opened < facts.turn.slot = open_has (OpenedBefore facts.turn.slot) 0 handle facts.links link (station.old on) is in absurd (omega (arith, before, now))) in
    let none = off_listens handle facts.turn.doing off in
    from_plain unsent received handle facts.turn link end (off_sends handle facts.turn.doing off) (λ listens. absurd (let h : true ≡ false = sym listens ∙ none in absurd cc))
    (subst (λ e. IsCounted e (ack_of link)) (sym first)
    (subst (IsCounted first_exchanged) (sym (open_has (IsFresh facts.turn.slot) 0 handle facts.links link station.fresh is now)) first_counted))
