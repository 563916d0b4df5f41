-- The channel of an event is a data channel.
use Rattle.std.proofs.Common.{ℕ, ◌%◌, ◌^◌, ◌<◌, Bool, true, false, Option, Some, None, List, [], ◌∷◌, length, get_or, cond, inl, inr, sym, subst, arith}
use Rattle.std.specs.Prelude.{◌&&◌, fold}
use Rattle.std.proofs.Math.Nat.{mod-lt}
use Rattle.std.proofs.lemmas.Bool.{cases_lt}
use Rattle.std.proofs.lemmas.List.{get_or_past}
use Rattle.std.proofs.lemmas.List.Elements.{Contains-get_or}
use Rattle.ble_base.specs.ChannelMap.{is_used, used_channels}
use Rattle.ble_base.proofs.UsedChannels.{used_if_listed}
use Rattle.chan_select.specs.declared.selection.Algorithm.{Algorithm}
use Rattle.chan_select.specs.declared.selection.Algorithm.TheVariants.{One, Two}
use Rattle.chan_select.specs.Channel.{channel_of}
use Rattle.chan_select.specs.Hopping.{unmapped_channel}
use Rattle.chan_select.specs.PseudoRandom.{channel_identifier, prn}
use Rattle.ble_base.specs.declared.roles.Role.{Role}
use Rattle.data_pdu.specs.Header.{header_in}
use Rattle.instants.specs.Track.{event_of}
use Rattle.link_commands.specs.open_links.link_model.procedure_values.declared.asks.Ask.{Ask}
use Rattle.link_commands.specs.open_links.link_model.Setup.{Setup, algorithm_of}
use Rattle.link_commands.specs.open_links.link_model.Acknowledgement.{Pdu}
use Rattle.link_commands.specs.open_links.link_model.Data.{is_control, is_data}
use Rattle.link_commands.specs.open_links.link_model.Verdicts.{pdu_of}
use Rattle.link_commands.specs.open_links.link_model.Facts.{Facts as EndFacts, first_facts}
use Rattle.link_commands.specs.open_links.link_model.Step.{Step, DataGiven, DataReported, Disconnected, EventEntered, KeyAnswered, PacketReceived, PacketSent, PduFixed, ProcedureAsked, RequestAnswered, WordsGiven}
use Rattle.link_commands.specs.open_links.link_model.Controls.{goes_on, is_procedure_pdu}
use Rattle.link_commands.specs.open_links.link_model.Entering.{control_entered, facts_entered_if}
use Rattle.link_commands.specs.open_links.link_model.Fixing.{fixed_anew}
use Rattle.link_commands.specs.open_links.link_model.Hosts.{asked_unless, is_to_come}
use Rattle.link_commands.specs.open_links.link_model.Packets.{good_pdu, is_forged}
use Rattle.link_commands.specs.open_links.link_model.Receiving.{accepted_if, accepts, acknowledged_if, answers_with_control, facts_before_taking, facts_received, has_acknowledged, heard_in_slot, procedures_take_if}
use Rattle.link_commands.specs.open_links.link_model.Sending.{control_gone_if, takes_leave}
use Rattle.link_commands.specs.open_links.link_model.End.{facts_after, facts_of}
use Rattle.link_commands.proofs.open_links.link_model.Choices.{either_data, either_forged}
use Rattle.link_commands.specs.open_links.OpenLinks.{OpenLink, facts_in}

used_below : (bits i : ℕ) → get_or (used_channels bits) i 0 < 37
used_below bits i = elim (cases_lt i (length (used_channels bits))) [
  | inl less ↦ (used_if_listed bits (get_or (used_channels bits) i 0) (Contains-get_or (used_channels bits) i 0 less)).0
  | inr more ↦ subst (λ (n : ℕ). n < 37) (sym (get_or_past (used_channels bits) i 0 more)) (omega arith)
]

mapped_below : (used : Bool) (channel bits i : ℕ) → channel < 37 → cond used channel (get_or (used_channels bits) i 0) < 37
mapped_below true channel bits i below = below
mapped_below false channel bits i below = used_below bits i

below_37 : (n : ℕ) → n % 37 < 37
below_37 n = mod-lt n (omega arith)

channel_below : (algorithm : Algorithm) (event bits : ℕ) → channel_of algorithm event bits < 37
unfolding channel_of
channel_below (One hop) event bits =
    mapped_below (is_used bits (unmapped_channel hop event)) (unmapped_channel hop event) bits _ (below_37 _)
channel_below (Two access) event bits =
    mapped_below (is_used bits (prn (channel_identifier access) (event % 2 ^ 16) % 37)) _ bits _ (below_37 _)

-- ---- each step of an end keeps that

abbrev IsBelow : EndFacts → Type 0
IsBelow facts = facts.event.channel < 37

asked_below : (comes : Bool) (ask : Ask) (facts : EndFacts) → IsBelow facts → IsBelow (asked_unless comes ask facts)
asked_below true ask facts below = below
asked_below false ask facts below = below

entered_below : (goes : Bool) (setup : Setup) (slot : ℕ) (facts : EndFacts) → IsBelow facts → IsBelow (facts_entered_if goes setup slot facts)
entered_below true setup slot facts below =
    channel_below (algorithm_of setup.link) (event_of (control_entered slot facts).track) (control_entered slot facts).track.params.map
entered_below false setup slot facts below = below

fixed_below : (stays : Bool) (facts : EndFacts) → IsBelow facts → IsBelow (cond stays facts (fixed_anew facts))
fixed_below true facts below = below
fixed_below false facts below = below

gone_below : (goes : Bool) (slot : ℕ) (facts : EndFacts) → IsBelow facts → IsBelow (control_gone_if goes slot facts)
gone_below true slot facts below = below
gone_below false slot facts below = below

taken_below : (takes : Bool) (pdu : Pdu) (slot : ℕ) (facts : EndFacts) → IsBelow facts → IsBelow (procedures_take_if takes pdu slot facts)
taken_below true pdu slot facts below = below
taken_below false pdu slot facts below = below

received_below : (role : Role) (slot : ℕ) (room : Bool) (found : Option (List ℕ)) (facts : EndFacts) → IsBelow facts
    → IsBelow (facts_received role slot room found facts)
received_below role slot room None facts below = below
received_below role slot room (Some octets) facts below =
    let header = header_in octets in
    let pdu = pdu_of octets in
    let own = acknowledged_if (has_acknowledged facts header) (heard_in_slot slot header.md facts) in
    let now = facts_before_taking role slot header facts in
    let accepted = accepts room header pdu now in
    let takes = accepted && is_procedure_pdu pdu in
    let taken = taken_below takes pdu slot (accepted_if accepted pdu now) (gone_below (answers_with_control role own) slot own below) in
    either_data IsBelow (accepted && is_data pdu) (procedures_take_if takes pdu slot (accepted_if accepted pdu now)) taken taken

step_below : (setup : Setup) (facts : EndFacts) (step : Step) → IsBelow facts → IsBelow (facts_after setup facts step)
step_below setup facts (DataGiven start body) below = below
step_below setup facts (ProcedureAsked ask) below = asked_below (is_to_come ask facts) ask facts below
step_below setup facts (RequestAnswered answer) below = below
step_below setup facts (KeyAnswered key slot) below = below
step_below setup facts (Disconnected reason slot) below = below
step_below setup facts (EventEntered slot) below = entered_below (goes_on facts) setup slot facts below
step_below setup facts PduFixed below = fixed_below (is_control facts.outgoing.fixed) facts below
step_below setup facts (PacketSent slot) below = gone_below (takes_leave facts) slot facts below
step_below setup facts (WordsGiven skd_s iv_s) below = below
step_below setup facts (PacketReceived slot octets room) below =
    let found = good_pdu setup facts octets in
    let received = received_below setup.link.role slot room found facts below in
    either_forged IsBelow (is_forged setup facts octets) (facts_received setup.link.role slot room found facts) received received
step_below setup facts DataReported below = below

from_below : (setup : Setup) (facts : EndFacts) (past : List Step) → IsBelow facts → IsBelow (fold (facts_after setup) facts past)
from_below setup facts [] below = below
from_below setup facts (step ∷ past) below = from_below setup (facts_after setup facts step) past (step_below setup facts step below)

-- before the first event the channel is 0
pub link_channel : (link : OpenLink) → (facts_in link).event.channel < 37
unfolding facts_of
link_channel link = from_below link.setup (first_facts link.setup) link.past (omega arith)
