-- Proof of `lawful::each_journal_is_lawful`.
use Rattle.std.proofs.Common.{◌≡◌, ◌≤◌, ℕ, zero, suc, List, refl, arith, subst}
use mathlib.Core.Path.{fun_ext}
use Rattle.ble_base.specs.declared.roles.Side.{Side}
use Rattle.ble_base.specs.declared.roles.Side.TheVariants.{A, B}
use Rattle.host_view.specs.declared.view.TheConstants.{MOST_LINKS}
use Rattle.radio_replay.specs.Script.{Script}
use Rattle.journal_moves.specs.journal_wants.journal_sending.run_model.Run.{history_of, run_of, setup_at}
use Rattle.journal_moves.specs.journal_wants.journal_sending.run_model.Journal.{journal_of, side_of}
use Rattle.journal_moves.specs.journal_wants.journal_sending.run_model.Pair.{given_of, pair_links as links_of_pair}
use Rattle.journal_moves.proofs.journal_wants.journal_sending.run_model.LinkEnds.{pair_addresses}
use Rattle.journal_moves.proofs.journal_wants.journal_sending.journal_data.FewLinks.{pair_links}
use Rattle.journal_moves.proofs.journal_wants.journal_sending.journal_data.Law.{eight_of}
use Rattle.journal_seals.specs.journal_sealing.Mixed.{is_mixed}
use Rattle.journal_moves.specs.journal_wants.journal_sending.journal_controls.journal_ends.GivenWords.{GivesWords}
use Rattle.journal_moves.specs.journal_wants.journal_sending.journal_data.Followed.{Follows}
use Rattle.journal_moves.specs.journal_wants.journal_sending.journal_due.ProcedureLines.{NoneIsDue}
use Rattle.journal_moves.proofs.journal_wants.journal_sending.TakenInRuns.{eight_air}
use Rattle.journal_moves.specs.Moves.{IsOwed, NothingIsOwed}
use Rattle.journal_moves.specs.Owed.{MovesAreOwed}
use Rattle.journal_moves.specs.Verdicts.{AllListenedForAreJudged}
use Rattle.journal_moves.specs.journal_wants.Setups.{setups_by, setups_of}
use Rattle.journal_moves.specs.journal_wants.Station.{Setups}
use Rattle.journal_words.specs.Drawn.{words_by}
use Rattle.journal_pdus.proofs.Law.{journal_settled, journal_settled_as_shut, settled_at_the_end}
use Rattle.journal_pdus.proofs.lawful.each_journal_is_lawful.Goals as goal

few_of : (a b : List ℕ) (script : Script) (station : ℕ) → (setup_at (given_of a b script) station).links ≤ MOST_LINKS
few_of a b script zero = omega arith
few_of a b script (suc station) = omega arith

buffers_of : (a b : List ℕ) (script : Script) (station : ℕ) → (setup_at (given_of a b script) station).host_buffers ≤ 65535
buffers_of a b script zero = omega arith
buffers_of a b script (suc station) = omega arith

-- both sides are set up as the script says
setups_are : (a b : List ℕ) (script : Script) → setups_of (given_of a b script) ≡ setups_by script
setups_are a b script = fun_ext by
  where
    by : (side : Side) → setups_of (given_of a b script) side ≡ setups_by script side
    by A = refl
    by B = refl

pub returns-clause-lawful : goal.returns-clause-lawful
returns-clause-lawful c = λ a b script six six_too.
    let words = words_by script in
    let mixed = is_mixed words in
    let given = given_of a b script in
    let addresses = pair_addresses a b script six six_too in
    let gives : GivesWords given words = c.the_words_of_a_run_are_given.ensures.pair links_of_pair a b script addresses in
    let followed : Follows given mixed = record {
      hears = λ before rest central peripheral ends number at one other is none.
          c.ends_hear_no_mixed_packet_while_their_journal_is_not_mixed.ensures words given before rest central peripheral ends number refl addresses gives at one other is none;
      front = c.a_mixed_journal_stays_mixed.ensures.front words;
    } in
    let tells = c.each_packet_of_a_link_tells_what_waits.ensures.aired words given refl addresses gives (pair_links a b script).links (eight_of a b script) in
    let next = c.each_new_pdu_is_next_by_the_lines.ensures words given refl addresses gives (pair_links a b script).links (eight_of a b script) in
    let goes = c.the_line_of_each_new_pdu_is_just_before_its_packet.ensures.aired given refl addresses (pair_links a b script).links (eight_of a b script) in
    let rests =
    c.nothing_is_under_way_between_turns.ensures.before_a_turn words given refl addresses gives (pair_links a b script).links (eight_of a b script) (eight_air a b script) in record {
      follows = c.each_journal_follows_its_schedule.ensures.follows a b script;
      addresses = c.each_link_has_the_next_address.ensures a b script six six_too;
      opened = λ front rest side number handle role at. c.each_opened_line_names_its_link.ensures a b script front rest side number handle role six six_too at;
      begun = c.each_link_is_opened_at_its_central.ensures.before_a_turn given refl addresses;
      taken = c.each_heard_link_is_opened.ensures.before_a_turn given refl addresses (few_of a b script) (eight_of a b script);
      to_open = c.each_opened_link_was_to_open.ensures given refl addresses (pair_links a b script).links (eight_of a b script);
      entered = λ front rest side number event channel at. c.each_enter_line_is_at_its_anchor.ensures a b script front rest side number event channel six six_too at;
      events = λ front rest side number event channel at. c.each_side_enters_its_events_in_order.ensures a b script front rest side number event channel six six_too at;
      none_missed = c.no_end_misses_an_event.ensures.before words given refl addresses gives (pair_links a b script).links (eight_of a b script);
      follows_central = c.ends_follow_their_central_in_every_journal.ensures.pair a b script mixed six six_too followed;
      alike = c.ends_enter_each_event_alike_in_every_journal.ensures a b script mixed six six_too followed;
      in_events = c.each_packet_is_in_its_event.ensures given refl addresses;
      continued = c.each_second_slot_has_its_reason.ensures given refl addresses;
      moves = subst (λ (setups : Setups). MovesAreOwed words setups (journal_of (history_of (run_of given)))) (setups_are a b script)
          (c.the_moves_of_each_turn_are_owed.ensures.aired words given refl addresses gives (pair_links a b script).links (eight_of a b script));
      judged = subst (λ (setups : Setups). AllListenedForAreJudged words setups (journal_of (history_of (run_of given)))) (setups_are a b script)
          (c.each_packet_that_is_listened_for_is_judged.ensures words given refl addresses gives (few_of a b script) (eight_of a b script));
      held = c.lines_are_of_open_links_in_every_journal.ensures a b script six six_too;
      shut = c.each_shut_line_has_its_reason_by_the_lines.ensures words given refl addresses gives;
      in_time = c.links_end_in_time_by_the_lines.ensures.in_time words given refl addresses gives;
      resets = c.a_reset_leaves_no_link.ensures given refl addresses (pair_links a b script).links (eight_of a b script);
      procedure_lines = record {
        procedures = c.each_line_of_a_procedure_is_where_it_is_due.ensures.procedures words given refl addresses gives;
        indications = c.each_line_of_a_procedure_is_where_it_is_due.ensures.indications words given refl addresses gives;
        none_left_out = c.each_line_of_a_procedure_is_where_it_is_due.ensures.none_left_out words given refl addresses gives;
      };
      collisions = record {
        rejected = c.colliding_procedures_are_rejected_next.ensures.pair a b script mixed six six_too followed;
        refused = c.rejected_procedures_are_refused.ensures.pair a b script mixed six six_too followed;
        indicated = c.rejected_procedures_are_not_indicated.ensures.pair a b script mixed six six_too followed;
        done = c.rejected_procedures_are_not_done.ensures.pair a b script mixed six six_too followed;
      };
      no_protocol_error = c.no_link_ends_by_a_protocol_error.ensures.pair a b script mixed six six_too followed;
      failures = c.a_link_fails_only_after_a_forged_packet.ensures.pair a b script mixed six six_too followed;
      answered = c.each_answer_on_a_link_is_heard.ensures given refl addresses (few_of a b script);
      requested = c.each_request_is_heard.ensures given refl addresses;
      commands = c.each_command_is_answered.ensures a b script;
      credits = record {
        of_some = c.each_credit_is_of_some_packets.ensures (given_of a b script) refl (buffers_of a b script);
        of_one = c.each_early_credit_is_of_one_packet.ensures.one (given_of a b script) refl;
        early = c.each_early_credit_is_of_one_packet.ensures.at_once (given_of a b script) refl;
        at_once = c.each_complete_packet_is_reported_at_once.ensures given refl addresses
            (pair_links a b script).links (eight_of a b script);
        ascend = c.credits_of_a_turn_are_in_the_order_of_handles.ensures (given_of a b script) refl (pair_links a b script).links;
        late = c.each_late_credit_comes_as_its_turn_ends.ensures (given_of a b script) refl;
        ends = c.each_late_end_is_reported_at_once.ensures (given_of a b script) refl;
      };
      due = record {
        new = λ front rest side link count llid body at. c.each_sent_line_is_of_a_new_pdu.ensures a b script front rest side link count llid body six six_too at;
        next = next;
        tell_what_waits = tells;
        go_out_at_once = goes;
        taken_at_once = c.each_pdu_is_taken_at_once.ensures words given refl addresses gives
            (pair_links a b script).links (eight_of a b script) (eight_air a b script);
        at_rest = rests;
        settled = journal_settled c.packet_tells_its_pdu.ensures.heard c.a_pdu_is_understood.ensures.says c.connections_are_taken.ensures.taken
            c.searches_give_each_valid_address.ensures.valid c.searches_give_each_valid_address.ensures.distinct a b script six six_too;
        settled_as_shut = journal_settled_as_shut c.packet_tells_its_pdu.ensures.heard c.a_pdu_is_understood.ensures.says c.connections_are_taken.ensures.taken
            c.searches_give_each_valid_address.ensures.valid c.searches_give_each_valid_address.ensures.distinct a b script six six_too;
      };
      in_words = c.each_journal_keeps_the_rules_in_words.ensures words a b script six six_too gives tells next goes rests;
      sealed = record {
        payloads = c.each_packet_has_the_payload_of_the_lines.ensures.lines words given refl addresses gives;
        again = λ front more rest side channel channel_too octets octets_too fate fate_too verdict verdict_too at off off_too.
            c.a_pdu_is_sent_again_with_its_payload.ensures words given front more rest side channel channel_too octets octets_too fate fate_too verdict verdict_too
            refl addresses gives at off off_too;
        verdicts = c.each_verdict_is_that_of_the_lines.ensures words given refl addresses gives;
        forged = c.a_packet_is_forged_only_between_two_keys.ensures words given refl addresses gives;
        as_opened = c.both_ends_agree_on_what_is_sealed.ensures words given refl addresses gives;
      };
      host_flow = c.data_fits_the_buffers_of_its_host.ensures a b script six six_too;
      host_order = c.data_of_all_links_comes_in_one_order.ensures a b script six six_too;
      data_last = c.data_goes_up_as_its_turn_ends.ensures given refl;
      arrives = c.data_arrives_in_order_in_every_journal.ensures a b script mixed six six_too followed;
    }

pub returns-clause-whole : goal.returns-clause-whole
returns-clause-whole c = λ a b script history six six_too whole.
    let words = words_by script in
    let given = given_of a b script in
    let addresses = pair_addresses a b script six six_too in
    let gives : GivesWords given words = c.the_words_of_a_run_are_given.ensures.pair links_of_pair a b script addresses in record {
      turns = c.each_journal_follows_its_schedule.ensures.whole a b script history whole;
      at_rest = c.nothing_is_under_way_between_turns.ensures.at_the_end words given history refl addresses gives
          (pair_links a b script).links (eight_of a b script) (eight_air a b script) whole;
      settled = settled_at_the_end c.packet_tells_its_pdu.ensures.heard c.a_pdu_is_understood.ensures.says c.connections_are_taken.ensures.taken
          c.searches_give_each_valid_address.ensures.valid c.searches_give_each_valid_address.ensures.distinct a b script six six_too history whole;
      in_time = c.links_end_in_time_by_the_lines.ensures.at_the_end words given history refl addresses gives whole;
      none_missed = c.no_end_misses_an_event.ensures.at_the_end words given history refl addresses gives (pair_links a b script).links (eight_of a b script) whole;
      nothing_owed = subst (λ (setups : Setups). NothingIsOwed words setups (journal_of history)) (setups_are a b script)
          (c.the_moves_of_each_turn_are_owed.ensures.at_the_end words given history refl addresses gives (pair_links a b script).links (eight_of a b script) whole);
      procedure_lines = subst (λ run. NoneIsDue words (journal_of (history_of run))) whole
          (c.each_line_of_a_procedure_is_where_it_is_due.ensures.at_the_end words given refl addresses gives);
      begun = c.each_link_is_opened_at_its_central.ensures.at_the_end given history refl addresses whole;
      taken = c.each_heard_link_is_opened.ensures.at_the_end given history refl addresses (few_of a b script) (eight_of a b script) whole;
    }

pub returns-clause-stopped : goal.returns-clause-stopped
returns-clause-stopped c = λ a b script history stop six six_too stops.
    let words = words_by script in
    let given = given_of a b script in
    let addresses = pair_addresses a b script six six_too in
    let gives : GivesWords given words = c.the_words_of_a_run_are_given.ensures.pair links_of_pair a b script addresses in record {
      side = side_of stop.sender;
      channel = stop.channel;
      stopped = c.a_run_stops_in_its_turn.ensures a b script history stop stops;
      owed = subst (λ (setups : Setups). IsOwed words setups (journal_of history) (side_of stop.sender) stop.channel stop.sent) (setups_are a b script)
          (c.the_moves_of_each_turn_are_owed.ensures.stopped words given history stop refl addresses gives (pair_links a b script).links (eight_of a b script) stops);
      tells = c.each_packet_of_a_link_tells_what_waits.ensures.stopped words given history stop refl addresses gives
          (pair_links a b script).links (eight_of a b script) stops;
      payload = c.each_packet_has_the_payload_of_the_lines.ensures.stopped words given history stop refl addresses gives stops;
      announced = c.the_line_of_each_new_pdu_is_just_before_its_packet.ensures.stopped given history stop refl addresses
          (pair_links a b script).links (eight_of a b script) stops;
    }
