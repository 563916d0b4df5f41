-- A line of a link that is shut with 3D comes after one of a packet that was forged to its side.
use Rattle.std.proofs.Common.{◌≡◌, ℕ, ◌==◌, true, false, Option, Some, List, [], ◌∷◌, ◌++◌, map, refl, sym, ap, subst, ◌∙◌}
use Rattle.std.specs.Prelude.{IfSome}
use Rattle.std.specs.Option.{option_map}
use Rattle.std.proofs.lemmas.Bool.{eq-eqb}
use Rattle.ble_base.specs.ErrorCodes.{ll_response_timeout, mic_failure}
use Rattle.ble_base.specs.declared.error_codes.ErrCode.{ErrCode}
use Rattle.journal_outcomes.specs.controller_model.Facts.{Facts}
use Rattle.journal_outcomes.specs.controller_model.Shutting.{IsLeaving, IsOverdue, IsShut, acknowledged, ended_by_peer, failed, leaving, not_acknowledged, not_established, overdue, reset, timed_out, unanswered}
use Rattle.journal_outcomes.specs.controller_model.Step.{TurnEnds}
use Rattle.journal_outcomes.proofs.controller_model.Shuts.{shuts_with_reason}
use Rattle.ble_base.specs.declared.roles.Side.{Side}
use Rattle.journal.specs.declared.entries.Entry.{Entry}
use Rattle.journal.specs.declared.entries.Entry.TheVariants.{Shut}
use Rattle.journal_outcomes.specs.link_calls.control_end.Held.{held_of}
use Rattle.journal_outcomes.specs.link_calls.open_links.Data.{link_reported}
use Rattle.journal_outcomes.specs.link_calls.open_links.OpenLinks.{OpenLink, facts_in, link_at}
use Rattle.journal_outcomes.specs.link_calls.run_model.History.{Called, Noted, past_of}
use Rattle.journal_outcomes.specs.link_calls.run_model.Journal.{journal_of, side_of}
use Rattle.journal_outcomes.specs.link_calls.run_model.LinkEnds.{HaveAddresses}
use Rattle.journal_outcomes.specs.link_calls.run_model.NoteLines.{IsLineInCall, LinkLine, shut_line}
use Rattle.journal_outcomes.specs.link_calls.run_model.Run.{Given, facts_at, history_of, run_of, setup_at}
use Rattle.journal_outcomes.proofs.link_calls.UnderHandles.{map_under, was_open}
use Rattle.journal_outcomes.proofs.link_calls.link_model.Hearing.{IsHeardWhole}
use Rattle.journal_outcomes.proofs.link_calls.run_laws.DistinctAccess.{AreApart}
use Rattle.journal_outcomes.proofs.link_calls.run_model.LinkEnds.{AreTaken, IsUnderstood}
use Rattle.journal_outcomes.proofs.link_calls.run_model.NoteLines.{is_contained, line_in_call}
use Rattle.journal_outcomes.proofs.link_calls.run_model.OfStations.{OfStations, run_of_stations}
use Rattle.journal_outcomes.proofs.link_calls.run_model.Places.{each_at}
use Rattle.journal_outcomes.proofs.link_calls.run_model.Stations.{is_in}
use Rattle.journal_outcomes.proofs.link_runs.link_pairs.Understanding.{IsOpenedThere}
use Rattle.journal_outcomes.proofs.journal_crossing.journal_collisions.journal_endings.run_pairs.LinkSteps.{AsksMayCome}
use Rattle.journal_outcomes.specs.journal_collisions.journal_endings.journal_indications.journal_data.Followed.{Follows, Mixed}
use Rattle.journal_outcomes.proofs.journal_crossing.journal_collisions.journal_endings.journal_indications.LineEnds.{end_of_line}
use Rattle.journal_outcomes.proofs.journal_crossing.journal_collisions.journal_endings.journal_indications.journal_data.Followed.{IsFollowed, followed_before, followed_in_call}
use Rattle.journal_outcomes.proofs.journal_crossing.journal_collisions.journal_endings.journal_indications.journal_data.journal_acks.Exchanging.{number_at}
use Rattle.journal_outcomes.proofs.journal_crossing.journal_collisions.journal_endings.journal_indications.journal_data.journal_acks.TwoStations.{IsOfTwo}
use Rattle.journal_outcomes.proofs.journal_crossing.journal_collisions.journal_endings.journal_indications.journal_data.journal_packets.AccessOrder.{AreNth}
use Rattle.journal_outcomes.proofs.journal_crossing.journal_collisions.journal_endings.CallsKeep.{reported_kept}
use Rattle.journal_outcomes.proofs.journal_crossing.journal_collisions.journal_endings.HostReasons.{IsReason, is_ending}
use Rattle.journal_outcomes.proofs.journal_crossing.journal_collisions.journal_endings.KeptInRuns.{kept_before_end}
use Rattle.journal_outcomes.proofs.journal_crossing.journal_collisions.journal_endings.NoneEnds.{unanswered_code}
use Rattle.journal_outcomes.proofs.journal_crossing.journal_collisions.journal_endings.PairedEnds.{LateAlone, ReadUnmixed}
use Rattle.journal_failures.specs.Failures.{AllFailuresAreForged, IsForgedIn}
use Rattle.journal_failures.proofs.FailedLinks.{ends_in, reported_ends}
use Rattle.journal_failures.proofs.FailedRuns.{IsForgedTo, failed_before_end}
use Rattle.journal_failures.proofs.GoodPackets.{is_failed}
use Rattle.journal_failures.proofs.HeardForged.{forged_later}

-- ---- other codes

apart : (X : Type 0) (code known : ℕ) → code ≡ known → code ≡ mic_failure → (known == mic_failure) ≡ false → X
apart X code known is is_too none = absurd (let h : true ≡ false = sym (eq-eqb known mic_failure (sym is ∙ is_too)) ∙ none in cc)

not_overdue : (X : Type 0) (slot : ℕ) (link : OpenLink) (code : ℕ) → IsOverdue slot link code → code ≡ mic_failure → X
not_overdue X slot link code (not_established none since is) same = apart X code _ is same refl
not_overdue X slot link code (timed_out good last since is) same = apart X code _ is same refl
not_overdue X slot link code (unanswered answer heard out is) same =
    apart X code ll_response_timeout (is ∙ unanswered_code (held_of (facts_in link).control) slot answer out) same refl
not_overdue X slot link code (not_acknowledged since heard answered asked out is) same = apart X code _ is same refl

-- a reason of a host is another one
not_reason : (X : Type 0) (code : ErrCode) → IsReason code → code.0 ≡ mic_failure → X
not_reason X code is same = absurd (let h : true ≡ false = sym is ∙ ap is_ending same in cc)

-- the end failed, or took such a reason
failed_or_took : (link : OpenLink) (code : ℕ) → IfSome (facts_in link).leaving.ended_by_peer IsReason → code ≡ mic_failure → IsLeaving link code
    → is_failed (ends_in link) ≡ true
failed_or_took link code peer same (acknowledged seen is) = apart _ code _ is same refl
failed_or_took link code peer same (failed ended unseen ends is) = ap is_failed ends ∙ eq-eqb ended.0 mic_failure (sym is ∙ same)
failed_or_took link code peer same (ended_by_peer ended unseen goes answered took is) =
    not_reason _ ended (subst (λ (one : Option ErrCode). IfSome one IsReason) took peer) (sym is ∙ same)

-- ---- the lines

module _ (whole : IsHeardWhole) (opens_there : IsOpenedThere) (understood : IsUnderstood) (taken : AreTaken) (nth : AreNth) (distinct : AreApart) (given : Given)
    (are_two : IsOfTwo given) (six : HaveAddresses given) (asks : AsksMayCome given) (mixed : Mixed) (follows : Follows given mixed) (late : LateAlone given)
    (read : ReadUnmixed given) where
  module _ (front : List Entry) (side : Side) (number : ℕ) (reason : ErrCode) (call : IsLineInCall given front (shut_line side number reason))
      (code : reason.0 ≡ mic_failure) (unmixed : mixed number front ≡ false) where
    abbrev line : LinkLine
    line = shut_line side number reason

    abbrev facts : Facts
    facts = facts_at given call.station call.base

    in_it : is_in call.station given.stations ≡ true
    in_it = each_at (OfStations given) (history_of (run_of given)) call.base call.after (Called call.station call.step) (run_of_stations given) call.called

    in_front : number_at call.station call.handle call.base ≡ number → IsForgedTo call.base call.station call.handle → IsForgedIn side number front
    in_front same forged =
        let more = Called call.station call.step ∷ map (Noted call.station) call.earlier in
        subst (λ (s : Side). IsForgedIn s number front) call.side_is
        (subst (λ n. IsForgedIn (side_of call.station) n front) same
        (subst (IsForgedIn (side_of call.station) (number_at call.station call.handle call.base)) (ap journal_of (sym call.before_is) ∙ sym call.front_is)
        (forged_later (side_of call.station) (number_at call.station call.handle call.base) call.base more forged)))

    at_end : (link : OpenLink) → call.step ≡ TurnEnds → link_at call.handle facts.links ≡ Some link → IsLeaving (link_reported link) reason.0
        → IsForgedIn side number front
    at_end link ends is_open leaves =
        let at = call.called ∙ ap (λ step. call.base ++ Called call.station step ∷ call.after) ends in
        let same = (end_of_line understood taken given are_two six front line call link is_open).number_is in
        let followed : IsFollowed given call.base (number_at call.station call.handle call.base) =
        subst (IsFollowed given call.base) (sym same)
        (followed_before given call.base (Called call.station call.step ∷ []) number (followed_in_call given mixed follows are_two front line call unmixed)) in
        let kept = reported_kept link
        (kept_before_end whole understood taken distinct given are_two six late read nth call.base call.after call.station at call.station in_it call.handle link
        is_open followed) in
        in_front same
        (failed_before_end whole opens_there understood taken nth distinct given are_two six asks call.base call.after call.station at call.station in_it call.handle link
        is_open followed
        (ap is_failed (sym (reported_ends link)) ∙ failed_or_took (link_reported link) reason.0 kept.reasons.peer code leaves))

    by_shut : IsShut facts call.step call.handle reason.0 → IsForgedIn side number front
    by_shut (overdue slot on link begins is_open due) = not_overdue _ slot link reason.0 due code
    by_shut (leaving link ends is_open leaves) =
        let was = was_open link_reported (link_at call.handle facts.links) link
        (sym (map_under (option_map link_reported) refl 0 call.handle facts.links) ∙ is_open) in
        at_end was.link ends was.was (subst (λ (l : OpenLink). IsLeaving l reason.0) was.is leaves)
    by_shut (reset link completed is_open is) = apart _ reason.0 _ is code refl

    pub forged_in_front : IsForgedIn side number front
    forged_in_front =
        by_shut ((shuts_with_reason (setup_at given call.station) (past_of call.station call.base) call.step call.handle reason.0).0 (is_contained given front line call))

  pub all_failures : AllFailuresAreForged mixed (journal_of (history_of (run_of given)))
  all_failures front rest side number reason is code unmixed =
      forged_in_front front side number reason (line_in_call given front rest (Shut side number reason) (shut_line side number reason) refl is) code unmixed
