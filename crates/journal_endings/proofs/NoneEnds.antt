-- No line of a link that is shut has one of these errors.
use Rattle.std.proofs.Common.{◌≡◌, ◌⊎◌, inl, inr, ℕ, ◌==◌, ◌||◌, Bool, true, false, Option, Some, None, List, [], ◌∷◌, ◌++◌, refl, sym, ap, subst, ◌∙◌, if◌then◌else◌}
use Rattle.std.specs.Prelude.{IfSome}
use Rattle.std.specs.List.{list_any}
use Rattle.std.specs.Option.{option_map}
use Rattle.std.proofs.lemmas.Bool.{eqb-true, false_from_ne_true, or_parts}
use Rattle.std.proofs.lemmas.List.Folds.{list_any-append}
use Rattle.ble_base.specs.ErrorCodes.{connection_not_established, connection_timeout, instant_passed, ll_response_timeout, mic_failure, success, terminated_by_local_host}
use Rattle.ble_base.specs.declared.error_codes.ErrCode.{ErrCode}
use Rattle.controller_model.specs.Data.{facts_handed}
use Rattle.controller_model.specs.Facts.{Facts}
use Rattle.controller_model.specs.Shutting.{IsLeaving, IsOverdue, IsShut, acknowledged, ended_by_peer, failed, leaving, not_acknowledged, not_established, overdue, reset, timed_out, unanswered}
use Rattle.controller_model.specs.Step.{Step, TurnEnds}
use Rattle.controller_model.proofs.Shuts.{shuts_with_reason}
use Rattle.journal.specs.declared.entries.Entry.{Entry}
use Rattle.journal.specs.declared.entries.Entry.TheVariants.{Shut}
use Rattle.link_calls.specs.control_end.Answers.{timeout_of}
use Rattle.link_calls.specs.control_end.Held.{Held, held_of}
use Rattle.link_calls.specs.open_links.Data.{link_reported}
use Rattle.link_calls.specs.open_links.OpenLinks.{OpenLink, facts_in, link_at}
use Rattle.link_calls.specs.run_model.History.{Called, past_of}
use Rattle.link_calls.specs.run_model.Journal.{journal_of}
use Rattle.link_calls.specs.run_model.LinkEnds.{HaveAddresses}
use Rattle.link_calls.specs.run_model.NoteLines.{IsLineInCall, shut_line}
use Rattle.link_calls.specs.run_model.Run.{Given, facts_at, history_of, run_of, setup_at}
use Rattle.link_calls.proofs.UnderHandles.{map_under, was_open}
use Rattle.link_calls.proofs.link_model.Hearing.{IsHeardWhole}
use Rattle.link_calls.proofs.run_laws.DistinctAccess.{AreApart}
use Rattle.link_calls.proofs.run_model.LinkEnds.{AreTaken, IsUnderstood}
use Rattle.link_calls.proofs.run_model.NoteLines.{is_contained, line_in_call}
use Rattle.link_calls.proofs.run_model.OfStations.{OfStations, run_of_stations}
use Rattle.link_calls.proofs.run_model.Places.{each_at}
use Rattle.journal_indications.specs.journal_data.Followed.{Follows, Mixed}
use Rattle.journal_indications.proofs.LineEnds.{end_of_line}
use Rattle.journal_indications.proofs.journal_data.Followed.{IsFollowed, followed_before, followed_in_call}
use Rattle.journal_indications.proofs.journal_data.journal_acks.TwoStations.{IsOfTwo}
use Rattle.journal_indications.proofs.journal_data.journal_packets.AccessOrder.{AreNth}
use Rattle.journal_endings.specs.Endings.{NoneEndsByProtocolError, is_protocol_error}
use Rattle.journal_endings.proofs.CallsKeep.{IsKept, IsKeptAt, reported_kept}
use Rattle.journal_endings.proofs.HostReasons.{IsReason, is_ending}
use Rattle.journal_endings.proofs.KeptInRuns.{kept_before_end}
use Rattle.journal_endings.proofs.PairedEnds.{LateAlone, ReadUnmixed}

-- ---- errors

abbrev IsOther : ℕ → Type 0
IsOther code = is_protocol_error (record { 0 = code }) ≡ false

is_other : (code known : ℕ) → code ≡ known → IsOther known → IsOther code
is_other code known is other = subst IsOther (sym is) other

apart_from : (code bad : ℕ) → is_ending code ≡ true → is_ending bad ≡ false → (code == bad) ≡ false
apart_from code bad is none =
    false_from_ne_true (code == bad) (λ same. absurd (let h : true ≡ false = sym is ∙ ap is_ending (eqb-true code bad same) ∙ none in cc))

-- a reason that a host may give, or that it has no key, is none of them
reason_is_other : (code : ℕ) → is_ending code ≡ true → IsOther code
reason_is_other code is =
    λ i. apart_from code 0x07 is refl i || (apart_from code 0x23 is refl i || apart_from code 0x2A is refl i)

-- ---- why a link is shut

pub unanswered_code : (h : Held) (slot : ℕ) (code : ErrCode) → timeout_of slot h ≡ Some code → code.0 ≡ ll_response_timeout
unanswered_code h slot code is = by _ _ is
  where
    by : (goes over : Bool) → (if goes then (if over then Some (record { 0 = ll_response_timeout }) else None) else None) ≡ Some code → code.0 ≡ ll_response_timeout
    by true true same = let equal : ◌≡◌ {A = ErrCode} (record { 0 = ll_response_timeout }) code = cc in ap (λ (c : ErrCode). c.0) (sym equal)
    by true false same = absurd (cc)
    by false over same = absurd (cc)

overdue_other : (slot : ℕ) (link : OpenLink) (code : ℕ) → IsOverdue slot link code → IsOther code
overdue_other slot link code (not_established none since is) = is_other code connection_not_established is refl
overdue_other slot link code (timed_out good last since is) = is_other code connection_timeout is refl
overdue_other slot link code (unanswered answer heard out is) =
    is_other code ll_response_timeout (is ∙ unanswered_code (held_of (facts_in link).control) slot answer out) refl
overdue_other slot link code (not_acknowledged since heard answered asked out is) = is_other code terminated_by_local_host is refl

-- what is known of a code that an end holds
if_some : (P : ErrCode → Type 0) (may : Option ErrCode) (code : ErrCode) → IfSome may P → may ≡ Some code → P code
if_some P may code is same = subst (λ (one : Option ErrCode). IfSome one P) same is

-- an end ended the link itself
own_other : (known code : ℕ) → code ≡ known → (known ≡ instant_passed) ⊎ (known ≡ mic_failure) → IsOther code
own_other known code is (inl late) = is_other code instant_passed (is ∙ late) refl
own_other known code is (inr failed_mic) = is_other code mic_failure (is ∙ failed_mic) refl

leaving_other : (link : OpenLink) (code : ℕ) → IsKept link → IsLeaving link code → IsOther code
leaving_other link code kept (acknowledged seen is) = is_other code terminated_by_local_host is refl
leaving_other link code kept (failed ended unseen ends is) =
    own_other ended.0 code is (if_some (λ one. (one.0 ≡ instant_passed) ⊎ (one.0 ≡ mic_failure)) (facts_in link).control.ends ended kept.ends ends)
leaving_other link code kept (ended_by_peer ended unseen goes answered took is) =
    subst IsOther (sym is) (reason_is_other ended.0 (if_some IsReason (facts_in link).leaving.ended_by_peer ended kept.reasons.peer took))

-- an end once what is complete was reported
handed_kept : (facts : Facts) (handle : ℕ) (link : OpenLink) → IsKeptAt handle facts.links → link_at handle (facts_handed facts).links ≡ Some link → IsKept link
handed_kept facts handle link kept at =
    let was = was_open link_reported (link_at handle facts.links) link (sym (map_under (option_map link_reported) refl 0 handle facts.links) ∙ at) in
    subst IsKept (sym was.is) (reported_kept was.link (kept was.link was.was))

shut_other : (facts : Facts) (step : Step) (handle code : ℕ) → (step ≡ TurnEnds → IsKeptAt handle facts.links) → IsShut facts step handle code → IsOther code
shut_other facts step handle code kept (overdue slot on link begins is_open due) = overdue_other slot link code due
shut_other facts step handle code kept (leaving link ends is_open leaves) = leaving_other link code (handed_kept facts handle link (kept ends) is_open) leaves
shut_other facts step handle code kept (reset link completed is_open is) = is_other code success is refl

-- ---- the lines

abbrev is_failure : Entry → Bool
is_failure (Shut side number reason) = is_protocol_error reason
is_failure line = false

-- where no line says so
pub no_failure : (mixed : Mixed) (journal : List Entry) → list_any is_failure journal ≡ false → NoneEndsByProtocolError mixed journal
no_failure mixed journal none front rest side number reason is unmixed =
    let line = Shut side number reason in
    let later = (or_parts (list_any is_failure front) (list_any is_failure (line ∷ rest))
    (sym (list_any-append is_failure front (line ∷ rest)) ∙ ap (list_any is_failure) (sym is) ∙ none)).1 in
    (or_parts (is_protocol_error reason) (list_any is_failure rest) later).0

module _ (heard_whole : IsHeardWhole) (understood : IsUnderstood) (taken : AreTaken) (nth : AreNth) (apart : AreApart) (given : Given) (are_two : IsOfTwo given)
    (six : HaveAddresses given) (mixed : Mixed) (follows : Follows given mixed) (late : LateAlone given) (read : ReadUnmixed given) where
  pub none_ends : NoneEndsByProtocolError mixed (journal_of (history_of (run_of given)))
  none_ends front rest side number reason is unmixed =
      let line = shut_line side number reason in
      let call : IsLineInCall given front line = line_in_call given front rest (Shut side number reason) line refl is in
      let in_it = each_at (OfStations given) (history_of (run_of given)) call.base call.after (Called call.station call.step) (run_of_stations given) call.called in
      let shut = (shuts_with_reason (setup_at given call.station) (past_of call.station call.base) call.step call.handle reason.0).0
      (is_contained given front line call) in
      shut_other (facts_at given call.station call.base) call.step call.handle reason.0
      (λ ends link is_open. kept_before_end heard_whole understood taken apart given are_two six late read nth call.base call.after call.station
      (call.called ∙ ap (λ step. call.base ++ Called call.station step ∷ call.after) ends) call.station in_it call.handle link is_open
      (subst (IsFollowed given call.base) (sym (end_of_line understood taken given are_two six front line call link is_open).number_is)
      (followed_before given call.base (Called call.station call.step ∷ []) number (followed_in_call given mixed follows are_two front line call unmixed))))
      shut
