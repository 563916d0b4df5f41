-- What is promised of the turns, the links and the data of each journal.
use Rattle.std.specs.Prelude.{◌≡◌, ℕ, List, ◌∷◌, ◌++◌}
use Rattle.ble_base.specs.declared.roles.Role.{Role}
use Rattle.ble_base.specs.declared.roles.Side.{Side}
use Rattle.journal.specs.declared.entries.Entry.{Entry}
use Rattle.journal.specs.declared.entries.Entry.TheVariants.{Opened}
use Rattle.radio_replay.specs.Script.{Script}
use Rattle.journal_moves.specs.journal_wants.journal_sending.journal_links.Entered.{AllAreEntered}
use Rattle.journal_moves.specs.journal_wants.journal_sending.journal_links.Opened.{IsOpenedInTime}
use Rattle.journal_moves.specs.journal_wants.journal_sending.journal_packets.Addresses.{AllAddressesAreNext}
use Rattle.journal_moves.specs.journal_wants.journal_sending.journal_acks.EventOrder.{AllAreInOrder}
use Rattle.journal_moves.specs.journal_wants.journal_sending.journal_data.Delivered.{AllDataArrives}
use Rattle.journal_moves.specs.journal_wants.journal_sending.journal_data.Followed.{Mixed}
use Rattle.journal_moves.specs.journal_wants.journal_sending.journal_data.Held.{LinesAreOfOpenLinks}
use Rattle.journal_moves.specs.journal_wants.journal_sending.journal_controls.journal_ends.Asked.{Words}
use Rattle.journal_moves.specs.journal_wants.journal_sending.journal_due.ProcedureLines.{AllIndicationsAreDue, AllProceduresAreDue, NoneIsDue}
use Rattle.journal_moves.specs.journal_wants.journal_sending.journal_due.ProcedureLines.{NoneIsLeftOut}
use Rattle.journal_failures.specs.Failures.{AllFailuresAreForged}
use Rattle.journal_failures.specs.journal_outcomes.Done.{NoneIsDone}
use Rattle.journal_failures.specs.journal_outcomes.journal_collisions.Collisions.{AllAreRefused, AllAreRejectedNext}
use Rattle.journal_failures.specs.journal_outcomes.journal_collisions.Outcomes.{NoneIsIndicated}
use Rattle.journal_failures.specs.journal_outcomes.journal_collisions.journal_endings.Endings.{NoneEndsByProtocolError}
use Rattle.journal_failures.specs.journal_outcomes.journal_collisions.journal_agreement.Indications.{AllAreEnteredAlike, AllFollowCentral}
use Rattle.journal_hearings.specs.Openings.{AllHeardLinksAreOpened, HeardLinksAreOpened, OpenedLinksWereToOpen}
use Rattle.journal_hearings.specs.Requests.{AllRequestsAreHeard}
use Rattle.journal_moves.specs.journal_wants.journal_sending.journal_hosts.Answered.{AllAreAnswered}
use Rattle.journal_moves.specs.journal_wants.journal_sending.journal_hosts.Credits.{AllCreditsAreOfOne, AllCreditsAreOfSome, AllCreditsAscend}
use Rattle.journal_moves.specs.journal_wants.journal_sending.journal_hosts.Credits.{AllEarlyCreditsComeAtOnce, AllLateCreditsComeLast}
use Rattle.journal_moves.specs.journal_wants.journal_sending.journal_hosts.Ends.{AllLateEndsAreReported}
use Rattle.journal_moves.specs.journal_wants.journal_sending.journal_hosts.HostFlow.{KeepsHostFlow}
use Rattle.journal_moves.specs.journal_wants.journal_sending.journal_hosts.HostOrder.{AllComeInOrder, AllDataComesLast}
use Rattle.journal_moves.specs.journal_wants.journal_sending.journal_leaving.Reasons.{AllAreShutAs, AllEndInTime, AllStayOpen}
use Rattle.journal_moves.specs.journal_wants.journal_sending.Resting.{IsAtRest}
use Rattle.journal_moves.specs.journal_anchors.Anchors.{NoEventIsMissed, NoEventsAreMissed}
use Rattle.journal_moves.specs.Moves.{NothingIsOwed}
use Rattle.journal_moves.specs.Owed.{MovesAreOwed}
use Rattle.journal_moves.specs.Verdicts.{AllListenedForAreJudged}
use Rattle.journal_moves.specs.journal_wants.Setups.{setups_by}
use Rattle.journal_rules.specs.Rules.{KeepsRules}
use Rattle.journal_seals.specs.journal_sealing.Mixed.{is_mixed}
use Rattle.journal_slots.specs.SecondSlot.{AllAreContinued}
use Rattle.journal_turns.specs.Follows.{FollowsSchedule}
use Rattle.journal_turns.specs.Scheduled.{AreAllTurns}
use Rattle.journal_words.specs.Drawn.{words_by}
use Rattle.journal_pdus.specs.Answered.{AllAnswersAreHeard}
use Rattle.journal_pdus.specs.AtOnce.{AllAreCreditedAtOnce}
use Rattle.journal_pdus.specs.Exchanged.{PdusAreDue}
use Rattle.journal_pdus.specs.InEvent.{AllAreInEvents}
use Rattle.journal_pdus.specs.OpenedLinks.{AllAreOpenedByThen, AreOpened}
use Rattle.journal_pdus.specs.Resetting.{ResetsLeaveNoLink}
use Rattle.journal_pdus.specs.Sealed.{PacketsAreSealed}
use Rattle.journal_pdus.specs.Settled.{AreSettled}

-- each line of a link that a side holds from there on is in the turn of the CONNECT_IND of that link
abbrev pub AllAreOpened : List Entry → Type 0
AllAreOpened journal = (front rest : List Entry) (side : Side) (number handle : ℕ) (role : Role)
    → journal ≡ front ++ Opened side number handle role ∷ rest → IsOpenedInTime front side number role

-- when complete packets are reported to a host, and in which order
pub record CreditsAreInOrder (journal : List Entry) : Type 0 where
  pub of_some : AllCreditsAreOfSome journal
  -- before the first packet of a turn they are those of packets without octets, each by itself, as it comes
  pub of_one : AllCreditsAreOfOne journal
  pub early : AllEarlyCreditsComeAtOnce journal
  pub at_once : AllAreCreditedAtOnce journal
  -- after it they come last, by ascending handle, but for the ends of links, each of which is reported at once
  pub ascend : AllCreditsAscend journal
  pub late : AllLateCreditsComeLast journal
  pub ends : AllLateEndsAreReported journal

-- a line of a control procedure comes exactly where it is due by the lines before. `words` are those that a side would
-- draw after any lines
pub record ProcedureLinesAreDue (words : Words) (journal : List Entry) : Type 0 where
  -- that a procedure begins, is done or is refused
  pub procedures : AllProceduresAreDue words journal
  -- that an indication comes into force
  pub indications : AllIndicationsAreDue words journal
  -- before each packet and each turn nothing of the kind is due
  pub none_left_out : NoneIsLeftOut words journal

-- what becomes of two procedures that collide on a link, up to the first packet of it that mixes two session keys
pub record CollisionsAreRefused (mixed : Mixed) (journal : List Entry) : Type 0 where
  -- the next PDU of the central is the rejection of the peripheral's procedure, or LL_TERMINATE_IND
  pub rejected : AllAreRejectedNext mixed journal
  -- a peripheral that takes the rejection says next that its procedure is refused with that error
  pub refused : AllAreRefused mixed journal
  -- no indication of the central comes of it, and the peripheral is never done with it
  pub indicated : NoneIsIndicated mixed journal
  pub done : NoneIsDone mixed journal

-- a journal of a run of these streams by this script, up to its end or to some place in a turn. `words` are those that a
-- side would draw after any lines; two ends of a link are followed up to the first packet that mixes two session keys
pub record IsLawfulWith (words : Words) (mixed : Mixed) (a b : List ℕ) (script : Script)
    (journal : List Entry) : Type 0 where
  -- its turns, what is fed in them, and the fates of packets are those of the script
  pub follows : FollowsSchedule a b script journal
  -- links and their events are those of their CONNECT_INDs, each of which has the next access address
  pub addresses : AllAddressesAreNext script journal
  pub opened : AllAreOpened journal
  -- each CONNECT_IND opens its link at the side that sent it, before the next turn, and at the other side exactly if that
  -- heard it and is to open it
  pub begun : AllAreOpenedByThen journal
  pub taken : AllHeardLinksAreOpened journal
  pub to_open : OpenedLinksWereToOpen journal
  pub entered : AllAreEntered journal
  pub events : AllAreInOrder journal
  -- each open end enters each event of its link, unless it ended that
  pub none_missed : NoEventsAreMissed words journal
  -- each end lets the indications hold that its central sent, and both ends enter an event in one turn, on one channel and
  -- with equal parameters wherever the same number of them is in force
  pub follows_central : AllFollowCentral mixed journal
  pub alike : AllAreEnteredAlike mixed journal
  -- a packet of a link is in the turn of the event that its side entered last, or in the next one
  pub in_events : AllAreInEvents journal
  -- in the next one only where a packet in the turn of the event says that more waits
  pub continued : AllAreContinued journal
  -- each packet is what its side is to send next, by what has the radio there; all that a side is to send is on the air
  -- before the next turn; and the other side listens for what it hears
  pub moves : MovesAreOwed words (setups_by script) journal
  -- what is listened for, and not lost, has the verdict of the lines
  pub judged : AllListenedForAreJudged words (setups_by script) journal
  -- lines name links that are open at their side, and a link is opened under the next free handle
  pub held : LinesAreOfOpenLinks journal
  -- each link that is shut has its reason, and one that is open as a turn begins had none in the turn before
  pub shut : AllAreShutAs words journal
  pub in_time : AllEndInTime words journal
  -- and a Reset leaves none
  pub resets : ResetsLeaveNoLink journal
  -- each line of a control procedure is due, and each that is due is there
  pub procedure_lines : ProcedureLinesAreDue words journal
  -- of two procedures that collide the peripheral's is rejected, and refused
  pub collisions : CollisionsAreRefused mixed journal
  -- no link ends for want of room, or by procedures that collide otherwise than the rules let them
  pub no_protocol_error : NoneEndsByProtocolError mixed journal
  -- and one ends for a wrong integrity code only where its side judged a packet of it forged
  pub failures : AllFailuresAreForged mixed journal
  -- an answer on a link that passes is heard, and so are requests and responses on the advertising channels
  pub answered : AllAnswersAreHeard journal
  pub requested : AllRequestsAreHeard journal
  -- each command of a host is answered once
  pub commands : AllAreAnswered journal
  -- complete packets are reported in their order
  pub credits : CreditsAreInOrder journal
  -- what goes out on links and what is taken is what is due, line by line
  pub due : PdusAreDue words journal
  -- MD, the events that a peripheral skips, and what a side seals are as the standard says it, by what was sent, taken and
  -- heard before
  pub in_words : KeepsRules words journal
  -- the packets of links are sealed and judged as the keys and the counters of their ends say
  pub sealed : PacketsAreSealed words journal
  -- a host whose flow control is on never holds more packets of data than it can take, and none is longer than its buffers
  pub host_flow : KeepsHostFlow journal
  -- and each packet of data to a host is of the first piece that waits for it, of whichever link
  pub host_order : AllComeInOrder journal
  -- as its turn ends
  pub data_last : AllDataComesLast journal
  -- data arrives in order, and is credited only as it is accepted
  pub arrives : AllDataArrives mixed journal

-- with the words of the script; and a packet mixes two keys where the lines say so
abbrev pub IsLawful : (a b : List ℕ) (script : Script) → List Entry → Type 0
IsLawful a b script journal = IsLawfulWith (words_by script) (is_mixed (words_by script)) a b script journal

-- the journal of a whole run: all turns of the script begin, and at the end nothing is under way, nothing waits for a
-- host that could take it, no open link was to end, no event of a link was missed, neither side is to send anything
-- more, no line of a procedure is due, and each CONNECT_IND has opened its link at the side that sent it, and at the
-- side that heard it and is to open it
pub record IsWhole (script : Script) (journal : List Entry) : Type 0 where
  pub turns : AreAllTurns script journal
  pub at_rest : IsAtRest (words_by script) journal
  pub settled : AreSettled journal
  pub in_time : AllStayOpen (words_by script) journal
  pub none_missed : NoEventIsMissed (words_by script) journal
  pub nothing_owed : NothingIsOwed (words_by script) (setups_by script) journal
  pub procedure_lines : NoneIsDue (words_by script) journal
  pub begun : AreOpened journal
  pub taken : HeardLinksAreOpened journal
