-- A controller holds no more packets of its host, and no more pieces for it, than it has buffers.
use Rattle.std.proofs.Common.{◌≡◌, ℕ, zero, suc, ◌+◌, ◌≤◌, ◌==◌, Bool, true, false, Option, Some, None, List, [], ◌∷◌, length, map, replicate, cond, refl, ap, sym, subst, length-append, arith, IfSome}
use Rattle.std.specs.Prelude.{◌||◌, ◌&&◌, filter, is_some, nat_lt, not}
use Rattle.std.specs.List.{find}
use Rattle.std.specs.Option.{option_map}
use Rattle.std.proofs.lemmas.Bool.{ltb-true}
use Rattle.std.proofs.lemmas.List.Sums.{sum_by-cons}
use Rattle.acl_banks.specs.declared.pieces.Piece.{Piece}
use Rattle.acl_banks.specs.Packets.{new_packet, packet_after_acked, packet_after_went, with_first, without_first}
use Rattle.data_pdu.specs.Header.{header_in}
use Rattle.ble_base.specs.declared.roles.Role.{Role}
use Rattle.link_commands.specs.open_links.link_model.procedure_stages.Queue.{waiting_in}
use Rattle.link_commands.proofs.open_links.Unmoved.{LeavesData, asked_leaves, entered_leaves}
use Rattle.hci_cmd.specs.declared.command.Command.{Command}
use Rattle.hci_cmd.specs.declared.command.Command.TheVariants.{Reset}
use Rattle.link_commands.specs.open_links.link_model.Acknowledgement.{Pdu, is_acked}
use Rattle.link_commands.specs.open_links.link_model.Data.{Data, data_acked_if, data_completed, data_given, is_completed, is_control, is_data, is_empty, is_out, is_unsent}
use Rattle.link_commands.specs.open_links.link_model.Facts.{Facts as EndFacts}
use Rattle.link_commands.specs.open_links.link_model.Packets.{good_pdu, has_new_pdu, is_forged}
use Rattle.link_commands.specs.open_links.link_model.Payload.{payload_made}
use Rattle.link_commands.specs.open_links.link_model.Verdicts.{pdu_of}
use Rattle.link_commands.specs.open_links.link_model.Setup.{Setup as EndSetup}
use Rattle.link_commands.specs.open_links.link_model.declared.setup.LinkSetup.{LinkSetup}
use Rattle.link_commands.specs.open_links.link_model.Step.{Step as EndStep, DataGiven, ProcedureAsked, RequestAnswered, KeyAnswered, Disconnected, EventEntered, PduFixed, PacketSent, WordsGiven, PacketReceived, DataReported}
use Rattle.link_commands.specs.open_links.link_model.End.{facts_after as end_after, facts_of as end_facts}
use Rattle.link_commands.specs.open_links.link_model.Controls.{is_procedure_pdu, is_quiet_now, next_control}
use Rattle.link_commands.specs.open_links.link_model.Fixing.{data_cut, data_fixed_by, data_goes, fixed_anew}
use Rattle.link_commands.specs.open_links.link_model.Receiving.{accepted_if, accepts, acknowledged_if, answers_with_control, facts_before_taking, facts_received, has_acknowledged, heard_in_slot, procedures_take_if}
use Rattle.link_commands.specs.open_links.link_model.Sending.{control_gone_if, data_sent_as, facts_sent, takes_leave}
use Rattle.link_commands.specs.open_links.link_model.Kept.{kept_from}
use Rattle.link_commands.specs.open_links.link_model.Pieces.{kept_if as piece_if}
use Rattle.link_commands.proofs.open_links.link_model.Choices.{either_data, either_forged}
use Rattle.link_commands.proofs.open_links.link_model.Pasts.{grows}
use Rattle.host_view.specs.scan_init.Reports.{does_ask, scan_answer}
use Rattle.slot_plan.specs.declared.Activity.{Activity}
use Rattle.slot_plan.specs.declared.Activity.TheVariants.{Link, Advertise, Scan, Initiate}
use Rattle.link_commands.specs.open_links.declared.ended.LinkEnded.{LinkEnded}
use Rattle.link_commands.specs.open_links.Data.{buffers_in, buffers_taken, complete_in, link_reported, links_given, links_reported}
use Rattle.link_commands.specs.open_links.OpenLinks.{Links, OpenLink, facts_in, link_after, link_at, link_served, new_link, with_change, with_change_from, with_link, without_links}
use Rattle.link_commands.specs.open_links.Turns.{entered_if, enters_in, link_entered, links_without, place_without, staying_by}
use Rattle.controller_model.specs.declared.doing.Doing.{Doing}
use Rattle.controller_model.specs.declared.doing.Doing.TheVariants.{Advertises, CentralSends, PeripheralListens, PeripheralSends, Rests}
use Rattle.link_commands.specs.Commands.{is_about}
use Rattle.link_commands.specs.declared.moments.Moment.{Moment}
use Rattle.link_commands.specs.LinksCommanded.{links_commanded, links_commanded_from, place_commanded}
use Rattle.controller_model.specs.Step.{Step}
use Rattle.controller_model.specs.Facts.{Setup, Facts}
use Rattle.controller_model.specs.Commands.{links_after, moment_of, received_after}
use Rattle.link_commands.specs.open_links.declared.offers.Offer.TheVariants.{Kept, Empty, Overflow}
use Rattle.link_commands.specs.open_links.Data.{offer_by, received_past}
use Rattle.link_commands.specs.open_links.Ended.{received_without}
use Rattle.controller_model.specs.Data.{is_full, offer_of}
use Rattle.controller_model.specs.Heard.{asks_if, has_room, link_received, link_taken, links_refusing, piece_taken, replies_in, reply_if}
use Rattle.controller_model.specs.Packets.{facts_doing, links_sending}
use Rattle.controller_model.specs.Radio.{links_fixing}
use Rattle.controller_model.specs.Side.{facts_of}
use Rattle.controller_model.proofs.Handing.{left_less}
use Rattle.controller_model.proofs.Asked.{IsAskedStep, place_asked}
use Rattle.controller_model.proofs.Always.{IsKept, always, facts_opening, links_won, opening_passes, received_shut}
use Rattle.controller_model.proofs.Places.{refusal_at, refusal_is}
use Rattle.controller_model.specs.Entering.{all_entered}
use Rattle.controller_model.specs.Links.{ends_for}

-- ---- the packets that wait on a link

length-with : {A : Type 0} (test : A → Bool) (change : A → A) (xs : List A) → length (with_first test change xs) ≡ length xs
length-with test change [] = refl
length-with test change (x ∷ xs) = at (test x) (length-with test change xs)
  where
    at : (first : Bool) → length (with_first test change xs) ≡ length xs
        → length (cond first (change x ∷ xs) (x ∷ with_first test change xs)) ≡ length (x ∷ xs)
    at true same = refl
    at false same = ap (λ n. suc n) same

length-without : {A : Type 0} (test : A → Bool) (xs : List A) → length (without_first test xs) ≤ length xs
length-without test [] = omega arith
length-without test (x ∷ xs) = at (test x) (length-without test xs)
  where
    at : (first : Bool) → length (without_first test xs) ≤ length xs → length (cond first xs (x ∷ without_first test xs)) ≤ length (x ∷ xs)
    at true less = omega arith
    at false less = omega (arith, less)

abbrev waiting : EndFacts → ℕ
waiting facts = length facts.outgoing.packets

given_more : (handle : ℕ) (start : Bool) (octets : List ℕ) (outgoing : Data)
    → length (data_given handle start octets outgoing).packets ≤ length outgoing.packets + 1
given_more handle start [] outgoing = omega arith
given_more handle start (octet ∷ octets) outgoing = let more = length-append outgoing.packets (new_packet handle start (octet ∷ octets) ∷ []) in omega (arith, more)

sent_as : (is_piece : Bool) (outgoing : Data)
    → length (cond is_piece (with_first is_unsent (packet_after_went (length outgoing.fixed.body)) outgoing.packets) outgoing.packets) ≤ length outgoing.packets
sent_as true outgoing = let same = length-with is_unsent (packet_after_went (length outgoing.fixed.body)) outgoing.packets in omega (arith, same)
sent_as false outgoing = omega arith

sent_less : (payload : List ℕ) (is_new : Bool) (outgoing : Data) → length (data_sent_as payload is_new outgoing).packets ≤ length outgoing.packets
sent_less payload true outgoing = sent_as (is_data outgoing.fixed) outgoing
sent_less payload false outgoing = omega arith

completed_less : (completes : Bool) (outgoing : Data) → length (data_completed completes outgoing).packets ≤ length outgoing.packets
completed_less true outgoing = length-without is_out outgoing.packets
completed_less false outgoing = let same = length-with is_out packet_after_acked outgoing.packets in omega (arith, same)

acked_less : (acked : Bool) (outgoing : Data) → length (data_acked_if acked outgoing).packets ≤ length outgoing.packets
acked_less true outgoing = completed_less (is_completed (find is_out outgoing.packets)) outgoing
acked_less false outgoing = omega arith

gone_same : (goes : Bool) (slot : ℕ) (facts : EndFacts) → waiting (control_gone_if goes slot facts) ≡ waiting facts
gone_same true slot facts = refl
gone_same false slot facts = refl

took_same : (takes : Bool) (pdu : Pdu) (slot : ℕ) (facts : EndFacts) → waiting (procedures_take_if takes pdu slot facts) ≡ waiting facts
took_same true pdu slot facts = refl
took_same false pdu slot facts = refl

received_less : (role : Role) (slot : ℕ) (room : Bool) (found : Option (List ℕ)) (facts : EndFacts)
    → waiting (facts_received role slot room found facts) ≤ waiting facts
received_less role slot room None facts = omega arith
received_less role slot room (Some octets) facts =
    let header = header_in octets in
    let pdu = pdu_of octets in
    let acked = has_acknowledged facts header in
    let seen = acknowledged_if acked (heard_in_slot slot header.md facts) in
    let now = facts_before_taking role slot header facts in
    let accepted = accepts room header pdu now in
    let takes = accepted && is_procedure_pdu pdu in
    let taken = procedures_take_if takes pdu slot (accepted_if accepted pdu now) in
    let took = took_same takes pdu slot (accepted_if accepted pdu now) in
    let gone = gone_same (answers_with_control role seen) slot seen in
    let less = acked_less (acked && is_data facts.acknowledgement.last) facts.outgoing in
    let in_all : waiting taken ≤ waiting facts = omega (arith, took, gone, less) in
    either_data (λ f. waiting f ≤ waiting facts) (accepted && is_data pdu) taken in_all in_all

-- an end that fixes its PDU, and one that sends it
anew_same : (stays : Bool) (facts : EndFacts) → waiting (cond stays facts (fixed_anew facts)) ≡ waiting facts
anew_same true facts = refl
anew_same false facts = by_control (is_some (next_control facts)) (data_goes facts)
  where
    by_control : (control goes : Bool) → length (data_fixed_by control (waiting_in facts.control.table.queue) (is_quiet_now facts) goes (data_cut facts)).packets ≡ waiting facts
    by_control true goes = refl
    by_control false true = refl
    by_control false false = refl

gone_less : (slot : ℕ) (facts : EndFacts) → waiting (facts_sent slot facts) ≤ waiting facts
gone_less slot facts =
    let gone = control_gone_if (takes_leave facts) slot facts in
    let same = gone_same (takes_leave facts) slot facts in
    let less = sent_less (payload_made gone.encryption.end gone.outgoing.fixed) (is_acked gone.acknowledgement) gone.outgoing in
    omega (arith, same, less)

-- a step that leaves its data
left_same : (setup : EndSetup) (facts : EndFacts) (step : EndStep) → LeavesData step → waiting (end_after setup facts step) ≤ waiting facts + 0
left_same setup facts step leaves =
    let same = ap (λ (outgoing : Data). length outgoing.packets) (leaves.outgoing setup facts) in omega (arith, same)

-- a packet that its host gives is one more at most, and any other step leaves no more
abbrev more_in : EndStep → ℕ
more_in (DataGiven start body) = 1
more_in step = 0

step_waiting : (setup : EndSetup) (facts : EndFacts) (step : EndStep) → waiting (end_after setup facts step) ≤ waiting facts + more_in step
step_waiting setup facts (DataGiven start body) = given_more setup.link.handle start body facts.outgoing
step_waiting setup facts (ProcedureAsked ask) = left_same setup facts (ProcedureAsked ask) (asked_leaves ask)
step_waiting setup facts (RequestAnswered answer) = omega arith
step_waiting setup facts (KeyAnswered key slot) = omega arith
step_waiting setup facts (Disconnected reason slot) = omega arith
step_waiting setup facts (EventEntered slot) = left_same setup facts (EventEntered slot) (entered_leaves slot)
step_waiting setup facts PduFixed = let same = anew_same (is_control facts.outgoing.fixed) facts in omega (arith, same)
step_waiting setup facts (PacketSent slot) = let less = gone_less slot facts in omega (arith, less)
step_waiting setup facts (WordsGiven skd_s iv_s) = omega arith
step_waiting setup facts (PacketReceived slot octets room) =
    let found = good_pdu setup facts octets in
    let less = received_less setup.link.role slot room found facts in
    let in_all : waiting (facts_received setup.link.role slot room found facts) ≤ waiting facts + 0 = omega (arith, less) in
    either_forged (λ f. waiting f ≤ waiting facts + 0) (is_forged setup facts octets) (facts_received setup.link.role slot room found facts) in_all in_all
step_waiting setup facts DataReported = omega arith

after_waiting : (step : EndStep) (link : OpenLink) → waiting (facts_in (link_after step link)) ≤ waiting (facts_in link) + more_in step
after_waiting step link =
    subst (λ (facts : EndFacts). waiting facts ≤ waiting (facts_in link) + more_in step) (sym (grows link.setup link.past step))
    (step_waiting link.setup (facts_in link) step)

-- ---- the buffers of all links

-- a change of a place that takes no more than so many buffers
abbrev TakesAtMost : ℕ → (Option OpenLink → Option OpenLink) → Type 0
TakesAtMost more change = (place : Option OpenLink) → buffers_in (change place) ≤ buffers_in place + more

changed_takes : (more : ℕ) (change : Option OpenLink → Option OpenLink) → TakesAtMost more change → (first handle : ℕ) (links : Links)
    → buffers_taken (with_change_from first handle change links) ≤ buffers_taken links + more
changed_takes more change takes first handle [] = omega arith
changed_takes more change takes first handle (place ∷ links) =
    at (first == handle) (changed_takes more change takes (first + 1) handle links)
  where
    at : (test : Bool) → buffers_taken (with_change_from (first + 1) handle change links) ≤ buffers_taken links + more
        → buffers_taken (cond test (change place ∷ links) (place ∷ with_change_from (first + 1) handle change links))
        ≤ buffers_taken (place ∷ links) + more
    at true rest =
        let a = sum_by-cons buffers_in (change place) links in
        let b = sum_by-cons buffers_in place links in
        let c = takes place in
        omega (arith, a, b, c)
    at false rest =
        let a = sum_by-cons buffers_in place (with_change_from (first + 1) handle change links) in
        let b = sum_by-cons buffers_in place links in
        omega (arith, a, b, rest)

mapped_takes : (change : Option OpenLink → Option OpenLink) → TakesAtMost 0 change → (links : Links)
    → buffers_taken (map change links) ≤ buffers_taken links
mapped_takes change takes [] = omega arith
mapped_takes change takes (place ∷ links) =
    let a = sum_by-cons buffers_in (change place) (map change links) in
    let b = sum_by-cons buffers_in place links in
    let c = takes place in
    let rest = mapped_takes change takes links in
    omega (arith, a, b, c, rest)

step_takes : (step : EndStep) → TakesAtMost (more_in step) (option_map (link_after step))
step_takes step None = omega arith
step_takes step (Some link) = after_waiting step link

-- what a host asks takes none
asks_none : (step : EndStep) → IsAskedStep step → more_in step ≡ 0
asks_none (ProcedureAsked ask) asks = refl
asks_none (RequestAnswered answer) asks = refl
asks_none (KeyAnswered key slot) asks = refl
asks_none (Disconnected reason slot) asks = refl
asks_none step asks = absurd asks

asked_less : (place : Option OpenLink) (link : OpenLink) (step : EndStep) → place ≡ Some link → IsAskedStep step
    → buffers_in (Some (link_after step link)) ≤ buffers_in place
asked_less place link step is asks =
    let more = after_waiting step link in
    let none = asks_none step asks in
    let same : buffers_in place ≡ waiting (facts_in link) = ap buffers_in is in
    omega (arith, more, none, same)

asked_takes : (command : Command) (moment : Moment) (first : ℕ) (links : Links)
    → buffers_taken (links_commanded_from first command moment links) ≤ buffers_taken links
asked_takes command moment first [] = omega arith
asked_takes command moment first (place ∷ links) =
    let now = place_commanded (is_about first command) command moment place in
    let a = sum_by-cons buffers_in now (links_commanded_from (first + 1) command moment links) in
    let b = sum_by-cons buffers_in place links in
    let c : buffers_in now ≤ buffers_in place =
    place_asked (λ (now : Option OpenLink). buffers_in now ≤ buffers_in place) command moment (is_about first command) place (omega arith)
    (λ link step is asked asks. asked_less place link step is asks) in
    let rest = asked_takes command moment (first + 1) links in
    omega (arith, a, b, c, rest)

served_takes : (slot : ℕ) → TakesAtMost 0 (option_map (link_served slot))
served_takes slot None = omega arith
served_takes slot (Some link) = omega arith

reset_takes : TakesAtMost 0 (λ place. None)
reset_takes place = omega arith

staying_less : (reason : Option ℕ) (link : OpenLink) → buffers_in (staying_by reason link) ≤ buffers_in (Some link) + 0
staying_less None link = omega arith
staying_less (Some reason) link = omega arith

staying_takes : (reason : OpenLink → Option ℕ) → TakesAtMost 0 (place_without reason)
staying_takes reason None = omega arith
staying_takes reason (Some link) = staying_less (reason link) link

entered_less : (anchor : Bool) (slot : ℕ) (link : OpenLink) → waiting (facts_in (entered_if anchor slot link)) ≤ waiting (facts_in link) + 0
entered_less true slot link = after_waiting (EventEntered slot) link
entered_less false slot link = omega arith

entering_takes : (slot : ℕ) → TakesAtMost 0 (option_map (link_entered slot))
entering_takes slot None = omega arith
entering_takes slot (Some link) = entered_less (enters_in slot link) slot link

reported_less : (reports : Bool) (link : OpenLink)
    → waiting (facts_in (cond reports (link_after DataReported link) link)) ≤ waiting (facts_in link) + 0
reported_less true link = after_waiting DataReported link
reported_less false link = omega arith

reporting_takes : TakesAtMost 0 (option_map link_reported)
reporting_takes None = omega arith
reporting_takes (Some link) = reported_less (nat_lt 0 (complete_in link)) link

none_yet : (setup : EndSetup) → waiting (facts_in (new_link setup)) ≡ 0
unfolding end_facts
none_yet setup = refl

opening_takes : (setup : EndSetup) → TakesAtMost 0 (λ place. Some (new_link setup))
opening_takes setup place = let none = none_yet setup in omega (arith, none)

-- ---- at any time

abbrev FitsBuffers : Setup → Facts → Type 0
FitsBuffers setup facts = buffers_taken facts.links ≤ setup.host_buffers

fewer : (setup : Setup) (before after : Links) → buffers_taken after ≤ buffers_taken before → buffers_taken before ≤ setup.host_buffers
    → buffers_taken after ≤ setup.host_buffers
fewer setup before after less fits = omega (arith, less, fits)

changed_fits : (setup : Setup) (step : EndStep) (handle : ℕ) (links : Links) → more_in step ≡ 0 → buffers_taken links ≤ setup.host_buffers
    → buffers_taken (with_change handle (link_after step) links) ≤ setup.host_buffers
changed_fits setup step handle links none fits =
    let less = changed_takes (more_in step) (option_map (link_after step)) (step_takes step) 0 handle links in
    omega (arith, less, none, fits)

refused_fits : (setup : Setup) (refusal : Option EndStep) → IfSome refusal IsAskedStep → (handle : ℕ) (links : Links)
    → buffers_taken links ≤ setup.host_buffers → buffers_taken (links_refusing refusal handle links) ≤ setup.host_buffers
refused_fits setup (Some step) asks handle links fits = changed_fits setup step handle links (asks_none step asks) fits
refused_fits setup None asks handle links fits = fits

received_fits : (setup : Setup) (handle : ℕ) (room : Bool) (octets : List ℕ) (facts : Facts) → FitsBuffers setup facts
    → FitsBuffers setup (link_received handle room octets facts)
received_fits setup handle room octets facts fits =
    let step = PacketReceived facts.turn.slot octets room in
    refused_fits setup (refusal_at handle room octets facts) (refusal_is handle room octets facts) handle (with_change handle (link_after step) facts.links)
    (changed_fits setup step handle facts.links refl fits)

commanded_fits : (setup : Setup) (command : Command) (links : Links) → buffers_taken links ≤ setup.host_buffers
    → buffers_taken (links_after command links) ≤ setup.host_buffers
commanded_fits setup Reset links fits = fewer setup links (without_links links) (mapped_takes (λ place. None) reset_takes links) fits
commanded_fits setup other links fits = fits

kept_if : (none long full : Bool) → cond none Empty (cond (long || full) Overflow Kept) ≡ Kept → full ≡ false
kept_if true long full is = absurd cc
kept_if false true full is = absurd cc
kept_if false false true is = absurd cc
kept_if false false false is = refl

kept_not_full : (place : Option OpenLink) (count : ℕ) (full : Bool) → offer_by place count full ≡ Kept → full ≡ false
kept_not_full None count full is = absurd cc
kept_not_full (Some link) count full is = kept_if (count == 0) (nat_lt 251 count) full is

one_left : (taken most : ℕ) → (taken == most) ≡ false → taken ≤ most → taken + 1 ≤ most
one_left taken most other fits = grind (arith, other, fits)

given_fits : (setup : Setup) (facts : Facts) (handle count : ℕ) (start : Bool) (octets : List ℕ) → offer_of setup facts handle count ≡ Kept
    → FitsBuffers setup facts → buffers_taken (links_given handle start octets facts.links) ≤ setup.host_buffers
given_fits setup facts handle count start octets is fits =
    let left = one_left (buffers_taken facts.links) setup.host_buffers
    (kept_not_full (link_at handle facts.links) count (is_full setup facts) is) fits in
    let more = changed_takes 1 (option_map (link_after (DataGiven start octets))) (step_takes (DataGiven start octets)) 0 handle facts.links in
    omega (arith, left, more)

won_fits : (setup : Setup) (slot : ℕ) (activity : Activity) (links : Links) → buffers_taken links ≤ setup.host_buffers
    → buffers_taken (links_won slot activity links) ≤ setup.host_buffers
won_fits setup slot (Link handle) links fits =
    let less = changed_takes 0 (option_map (link_served slot)) (served_takes slot) 0 handle links in omega (arith, less, fits)
won_fits setup slot Advertise links fits = fits
won_fits setup slot Scan links fits = fits
won_fits setup slot Initiate links fits = fits

fixed_fits : (setup : Setup) (doing : Doing) (links : Links) → buffers_taken links ≤ setup.host_buffers
    → buffers_taken (links_fixing doing links) ≤ setup.host_buffers
fixed_fits setup (CentralSends handle) links fits = changed_fits setup PduFixed handle links refl fits
fixed_fits setup (PeripheralListens handle) links fits = changed_fits setup PduFixed handle links refl fits
fixed_fits setup (Advertises channel) links fits = fits
fixed_fits setup other links fits = fits

sent_fits : (setup : Setup) (slot : ℕ) (doing : Doing) (links : Links) → buffers_taken links ≤ setup.host_buffers
    → buffers_taken (links_sending slot doing links) ≤ setup.host_buffers
sent_fits setup slot (CentralSends handle) links fits = changed_fits setup (PacketSent slot) handle links refl fits
sent_fits setup slot (PeripheralSends handle) links fits = changed_fits setup (PacketSent slot) handle links refl fits
sent_fits setup slot (Advertises channel) links fits = fits
sent_fits setup slot other links fits = fits

opened_fits : (setup : Setup) (link : EndSetup) (links : Links) → buffers_taken links ≤ setup.host_buffers
    → buffers_taken (with_link link links) ≤ setup.host_buffers
opened_fits setup link links fits =
    let less = changed_takes 0 (λ place. Some (new_link link)) (opening_takes link) 0 link.link.handle links in omega (arith, less, fits)

buffers_kept : (setup : Setup) → IsKept setup (FitsBuffers setup) (FitsBuffers setup)
buffers_kept setup = record {
  accepted = λ facts opcode octets command is accepted fits. commanded_fits setup command facts.links fits;
  asked = λ facts command asks fits left. fewer setup facts.links (links_commanded command (moment_of setup facts) facts.links) (asked_takes command (moment_of setup facts) 0 facts.links) fits;
  given = λ facts handle count start octets is fits. given_fits setup facts handle count start octets is fits;
  octet = λ facts octet fits. fits;
  turns = record {
    starts = record {
      weakens = λ facts fits. fits;
      ends = λ reason facts fits. fewer setup facts.links (links_without reason facts.links) (mapped_takes (place_without reason) (staying_takes reason) facts.links) fits;
      begins = λ slot facts fits. fits;
      enters = λ slot facts fits. fewer setup facts.links (all_entered slot facts.links) (mapped_takes (option_map (link_entered slot)) (entering_takes slot) facts.links) fits;
      wins = λ slot activity facts fits. won_fits setup slot activity facts.links fits;
      fixes = λ doing facts fits. fixed_fits setup doing facts.links fits;
      does = λ doing facts may fits. sent_fits setup facts.turn.slot doing facts.links fits;
    };
    reports = λ facts fits. fewer setup facts.links (links_reported facts.links) (mapped_takes (option_map link_reported) reporting_takes facts.links) fits;
    words = λ handle facts listens fits. changed_fits setup (WordsGiven _ _) handle facts.links refl fits;
    passes = λ facts fits. record {
      rests = fits;
      awaits_request = λ channel doing. fits;
      awaits_response = λ channel advertiser doing. fits;
      central_listens = λ handle doing. fits;
      sent = λ channel link doing.
          opening_passes (FitsBuffers setup) link facts (opened_fits setup (record { link = link; opened = facts.turn.slot }) facts.links fits);
      responds = λ channel on doing is_on. fits;
      taken = λ channel octets pdu on fields handle is_on hears takes free.
          let link = link_taken facts.view on.params.own pdu fields handle in
          opening_passes (FitsBuffers setup) link facts (opened_fits setup (record { link = link; opened = facts.turn.slot }) facts.links fits);
      scanned = λ channel octets pdu on doing is_on hears.
          sent_fits setup facts.turn.slot (asks_if (true && does_ask (scan_answer on.params facts.view.accepted on.recent pdu)) channel pdu) facts.links fits;
      answered = λ channel octets pdu on doing is_on hears.
          sent_fits setup facts.turn.slot (asks_if (false && does_ask (scan_answer on.params facts.view.accepted on.recent pdu)) channel pdu) facts.links fits;
      connects = λ channel octets pdu on access handle doing is_on hears answers next free in_range. fits;
      received = λ handle octets.
          let room = has_room setup facts in
          sent_fits setup facts.turn.slot (reply_if (replies_in facts.turn.slot room (link_at handle facts.links) octets) handle)
          (link_received handle room octets facts).links (received_fits setup handle room octets facts fits);
    };
  };
}

none_taken : (n : ℕ) → buffers_taken (replicate n None) ≡ 0
none_taken zero = refl
none_taken (suc n) = let a = sum_by-cons buffers_in None (replicate n None) in let rest = none_taken n in omega (arith, a, rest)

pub fits_buffers : (setup : Setup) (past : List Step) → buffers_taken (facts_of setup past).links ≤ setup.host_buffers
fits_buffers setup past =
    always setup (FitsBuffers setup) (FitsBuffers setup) (buffers_kept setup) (let none = none_taken setup.links in omega (arith, none)) past

-- ---- the pieces for the host

-- a piece is taken only where there is room
few_by : (test : Bool) (handle : ℕ) (pdu : Pdu) → length (piece_if test handle pdu) ≤ 1
few_by true handle pdu = omega arith
few_by false handle pdu = omega arith

few_if : (room fresh may is_piece : Bool) (handle : ℕ) (pdu : Pdu)
    → length (piece_if ((fresh && (room || not is_piece) && may) && is_piece) handle pdu) ≤ cond room 1 0
few_if true fresh may is_piece handle pdu = few_by ((fresh && (true || not is_piece) && may) && is_piece) handle pdu
few_if false true true true handle pdu = omega arith
few_if false true false true handle pdu = omega arith
few_if false true true false handle pdu = omega arith
few_if false true false false handle pdu = omega arith
few_if false false may is_piece handle pdu = omega arith

few_found : (room : Bool) (setup : EndSetup) (slot : ℕ) (found : Option (List ℕ)) (facts : EndFacts)
    → length (kept_from setup slot room found facts) ≤ cond room 1 0
few_found room setup slot None facts = omega arith
few_found room setup slot (Some octets) facts =
    let pdu = pdu_of octets in
    let now = facts_before_taking setup.link.role slot (header_in octets) facts in
    few_if room (has_new_pdu now (header_in octets)) (is_empty pdu || not now.leaving.acknowledged) (is_data pdu) setup.link.handle pdu

few_taken : (slot : ℕ) (room : Bool) (place : Option OpenLink) (octets : List ℕ) → length (piece_taken slot room place octets) ≤ cond room 1 0
few_taken slot room None octets = omega arith
few_taken slot room (Some link) octets = few_found room link.setup slot (good_pdu link.setup (facts_in link) octets) (facts_in link)

room_left : (room : Bool) (held more most : ℕ) → nat_lt held most ≡ room → more ≤ cond room 1 0 → held ≤ most → held + more ≤ most
room_left true held more most is few fits = let less = ltb-true held most is in omega (arith, less, few)
room_left false held more most is few fits = omega (arith, few, fits)

abbrev FitsPieces : Setup → Facts → Type 0
FitsPieces setup facts = length facts.received ≤ setup.air_buffers

filter_less : {A : Type 0} (test : A → Bool) (xs : List A) → length (filter test xs) ≤ length xs
filter_less test [] = omega arith
filter_less test (x ∷ xs) = at (test x) (filter_less test xs)
  where
    at : (passes : Bool) → length (filter test xs) ≤ length xs → length (cond passes (x ∷ filter test xs) (filter test xs)) ≤ length (x ∷ xs)
    at true less = omega (arith, less)
    at false less = omega (arith, less)

shut_less : (received : List (ℕ × Piece)) (ended : List LinkEnded) → length (received_shut received ended) ≤ length received
shut_less received [] = omega arith
shut_less received (one ∷ ended) =
    let first = filter_less (λ piece. not (piece.0 == one.handle)) received in
    let rest = shut_less (received_without one.handle received) ended in
    omega (arith, first, rest)

past_less : (place : Option OpenLink) (handle : ℕ) (received : List (ℕ × Piece)) → length (received_past place handle received) ≤ length received
past_less None handle received = omega arith
past_less (Some link) handle received = filter_less (λ piece. not (piece.0 == handle)) received

opened_pieces : (setup : Setup) (link : LinkSetup) (facts : Facts) → FitsPieces setup facts → FitsPieces setup (facts_doing Rests (facts_opening link facts))
opened_pieces setup link facts fits =
    let less = past_less (link_at link.handle facts.links) link.handle facts.received in omega (arith, less, fits)

commanded_less : (command : Command) (received : List (ℕ × Piece)) → length (received_after command received) ≤ length received
commanded_less Reset received = omega arith
commanded_less other received = omega arith

pieces_kept : (setup : Setup) → IsKept setup (FitsPieces setup) (FitsPieces setup)
pieces_kept setup = record {
  accepted = λ facts opcode octets command is accepted fits. let less = commanded_less command facts.received in omega (arith, less, fits);
  asked = λ facts command asks fits left. left;
  given = λ facts handle count start octets is fits. fits;
  octet = λ facts octet fits. fits;
  turns = record {
    starts = record {
      weakens = λ facts fits. fits;
      ends = λ reason facts fits. let less = shut_less facts.received (ends_for reason facts) in omega (arith, less, fits);
      begins = λ slot facts fits. fits;
      enters = λ slot facts fits. fits;
      wins = λ slot activity facts fits. fits;
      fixes = λ doing facts fits. fits;
      does = λ doing facts may fits. fits;
    };
    reports = λ facts fits. let less = left_less facts.view facts.received in omega (arith, less, fits);
    words = λ handle facts listens fits. fits;
    passes = λ facts fits. record {
      rests = fits;
      awaits_request = λ channel doing. fits;
      awaits_response = λ channel advertiser doing. fits;
      central_listens = λ handle doing. fits;
      sent = λ channel link doing. opening_passes (FitsPieces setup) link facts (opened_pieces setup link facts fits);
      responds = λ channel on doing is_on. fits;
      taken = λ channel octets pdu on fields handle is_on hears takes free.
          let link = link_taken facts.view on.params.own pdu fields handle in
          opening_passes (FitsPieces setup) link facts (opened_pieces setup link facts fits);
      scanned = λ channel octets pdu on doing is_on hears. fits;
      answered = λ channel octets pdu on doing is_on hears. fits;
      connects = λ channel octets pdu on access handle doing is_on hears answers next free in_range. fits;
      received = λ handle octets.
          let room = has_room setup facts in
          let pieces = piece_taken facts.turn.slot room (link_at handle facts.links) octets in
          let left = room_left room (length facts.received) (length pieces) setup.air_buffers refl
          (few_taken facts.turn.slot room (link_at handle facts.links) octets) fits in
          let more = length-append facts.received pieces in
          omega (arith, left, more);
    };
  };
}

pub fits_pieces : (setup : Setup) (past : List Step) → length (facts_of setup past).received ≤ setup.air_buffers
fits_pieces setup past = always setup (FitsPieces setup) (FitsPieces setup) (pieces_kept setup) (omega arith) past
