-- In a turn a link is opened under the least handle that no open link has.
use Rattle.std.proofs.Common.{◌≡◌, ℕ, Bool, true, false, Option, Some, None, List, [], ◌∷◌, refl, ap, subst}
use Rattle.std.specs.Prelude.{◌&&◌, ⊤}
use Rattle.adv_pdu.specs.declared.pdu.AdvPdu.{AdvPdu}
use Rattle.ble_base.specs.declared.addresses.Address.{Address}
use Rattle.ble_base.specs.declared.notes.Note.{Note}
use Rattle.ble_base.specs.declared.notes.Note.TheVariants.{Opened}
use Rattle.ble_base.specs.declared.roles.Role.{Role}
use Rattle.journal_acks.specs.link_model.declared.setup.LinkSetup.{LinkSetup}
use Rattle.journal_acks.specs.open_links.OpenLinks.{IsFreeHandle, IsLeastFree, Links, link_at}
use Rattle.journal_acks.proofs.open_links.Handles.{free_is}
use Rattle.scan_init.specs.Reports.{does_ask, scan_answer}
use Rattle.journal_acks.specs.controller_model.declared.doing.Doing.{Doing}
use Rattle.journal_acks.specs.controller_model.declared.doing.Doing.TheVariants.{Advertises, Connects}
use Rattle.journal_acks.specs.controller_model.Facts.{Facts, Setup}
use Rattle.journal_acks.specs.controller_model.Heard.{asks_if, facts_with_words, has_room, link_heard, link_received, link_taken, opens, replies_in, reply_if, scanner_after}
use Rattle.journal_acks.specs.controller_model.Heard.{scanner_heard, with_scanner}
use Rattle.journal_acks.specs.controller_model.Outcome.{Outcome, facts_passed, notes_passed}
use Rattle.journal_acks.specs.controller_model.Packets.{facts_doing, notes_doing}
use Rattle.journal_acks.specs.controller_model.Side.{facts_after, facts_of, notes_after}
use Rattle.journal_acks.specs.controller_model.Step.{Step}
use Rattle.journal_acks.specs.controller_model.Notes.{is_opening}
use Rattle.journal_acks.proofs.controller_model.Always.{MayBegin, left_doing, opening_passes}
use Rattle.journal_acks.proofs.controller_model.Phases.{EachOutcome, heard_is, unheard_is}
use Rattle.journal_acks.specs.run_model.Run.{step_of}
use Rattle.journal_acks.proofs.run_laws.TurnPlaces.{Between, Stage, Standing, Within, IsTurned, standing, turned}
use Rattle.journal_data.proofs.Openness.{AreNot, AreQuiet, answered_quiet, both_quiet, doing_quiet, none_open, heard_quiet}

-- ---- the handle of a link that is to be opened

abbrev pub IsNewLeast : Links → Doing → Type 0
IsNewLeast links (Connects channel link) = IsLeastFree 0 link.handle links
IsNewLeast links other = ⊤

abbrev pub IsLeastNext : Facts → Type 0
IsLeastNext facts = IsNewLeast facts.links facts.turn.doing

-- in a turn, since its controller began it
abbrev pub IsLeastAt : Stage → ℕ → Facts → Type 0
IsLeastAt Between begun facts = ⊤
IsLeastAt (Within phases) begun facts = IsLeastNext facts

begin_least : (doing : Doing) (facts : Facts) → MayBegin doing → IsLeastNext (facts_doing doing facts)
begin_least (Connects channel link) facts may = absurd may
begin_least (Advertises channel) facts may = tt
begin_least other facts may = tt

asks_least : (asks : Bool) (channel : ℕ) (pdu : AdvPdu) (facts : Facts) → IsLeastNext (facts_doing (asks_if asks channel pdu) facts)
asks_least true channel pdu facts = tt
asks_least false channel pdu facts = tt

reply_least : (replies : Bool) (handle : ℕ) (facts : Facts) → IsLeastNext (facts_doing (reply_if replies handle) facts)
reply_least true handle facts = tt
reply_least false handle facts = tt

phase_least : (setup : Setup) (facts : Facts) → EachOutcome setup facts (λ outcome. IsLeastNext (facts_passed outcome))
phase_least setup facts = record {
  rests = tt;
  awaits_request = λ channel doing. tt;
  awaits_response = λ channel advertiser doing. tt;
  central_listens = λ handle doing. tt;
  sent = λ channel link doing. opening_passes IsLeastNext link facts tt;
  responds = λ channel on doing is_on. tt;
  taken = λ channel octets pdu on fields handle is_on hears takes free. opening_passes IsLeastNext (link_taken facts.view on.params.own pdu fields handle) facts tt;
  scanned = λ channel octets pdu on doing is_on hears.
      asks_least (true && does_ask (scan_answer on.params facts.view.accepted on.recent pdu)) channel pdu (with_scanner (scanner_after on facts.view.accepted pdu) facts);
  answered = λ channel octets pdu on doing is_on hears.
      asks_least (false && does_ask (scan_answer on.params facts.view.accepted on.recent pdu)) channel pdu (with_scanner (scanner_after on facts.view.accepted pdu) facts);
  connects = λ channel octets pdu on access handle doing is_on hears answers next free in_range. subst (IsFreeHandle 0 facts.links) free (free_is 0 facts.links);
  received = λ handle octets.
      let room = has_room setup facts in
      reply_least (replies_in facts.turn.slot room (link_at handle facts.links) octets) handle (link_received handle room octets facts);
}

least_turned : (setup : Setup) → IsTurned setup IsLeastAt
least_turned setup = record {
  feeds = λ begun octet facts is. tt;
  begins = λ begun on facts is.
      left_doing (λ held. ⊤) (λ reason held none. tt) (λ slot held none. tt) (λ slot held none. tt) (λ slot activity held none. tt) (λ doing held none. tt)
      (λ doing held. IsLeastNext (facts_doing doing held)) (λ doing held may none. begin_least doing held may) begun on facts tt;
  passes = λ phases begun received facts is. by facts received;
  ends = λ begun facts is. tt;
}
  where
    by : (facts : Facts) (received : Option (List ℕ)) → IsLeastNext (facts_after setup facts (step_of received))
    by facts None = unheard_is setup facts (λ outcome. IsLeastNext (facts_passed outcome)) (phase_least setup facts) facts.turn.doing refl
    by facts (Some octets) =
        heard_is setup facts (λ outcome. IsLeastNext (facts_passed outcome)) (phase_least setup facts) facts.turn.doing octets refl
        (λ handle.
        let worded = facts_with_words setup handle facts in
        reply_least (replies_in facts.turn.slot (has_room setup facts) (link_at handle worded.links) octets) handle (link_received handle (has_room setup facts) octets worded))

pub least_standing : (setup : Setup) (past : List Step) (at : Standing) → standing past ≡ Some at → IsLeastAt at.stage at.begun (facts_of setup past)
least_standing setup past at stands = turned setup IsLeastAt (least_turned setup) past at tt stands

-- ---- a phase that opens a link

-- if these notes open a link first, it is under the least free handle
abbrev pub OpenLeast : Links → List Note → Type 0
OpenLeast links notes =
    (handle : ℕ) (role : Role) (own peer : Address) (rest : List Note) → notes ≡ Opened handle role own peer ∷ rest → IsLeastFree 0 handle links

abbrev first_handle : List Note → ℕ
first_handle (Opened handle role own peer ∷ rest) = handle
first_handle notes = 0

opens_none : (links : Links) (notes : List Note) → AreNot is_opening notes → OpenLeast links notes
opens_none links notes none handle role own peer rest is = absurd (let h : true ≡ false = (subst (AreNot is_opening) is none).0 in absurd cc)

quiet_least : (links : Links) (notes : List Note) → AreQuiet notes → OpenLeast links notes
quiet_least links notes quiet = opens_none links notes (none_open notes quiet)

opened_least : (link : LinkSetup) (facts : Facts) → IsLeastFree 0 link.handle facts.links → OpenLeast facts.links (notes_passed (opens link facts))
opened_least link facts least handle role own peer rest is =
    let same : link.handle ≡ handle = ap first_handle is in subst (λ n. IsLeastFree 0 n facts.links) same least

passed_least : (facts : Facts) (outcome : Outcome) → AreQuiet outcome.notes → OpenLeast facts.links (notes_passed outcome)
passed_least facts outcome quiet =
    quiet_least facts.links (notes_passed outcome) (both_quiet outcome.notes (notes_doing outcome.next outcome.facts) quiet (doing_quiet outcome.next outcome.facts))

phase_opens : (setup : Setup) (facts : Facts) → IsLeastNext facts → EachOutcome setup facts (λ outcome. OpenLeast facts.links (notes_passed outcome))
phase_opens setup facts least = let nothing = quiet_least facts.links [] tt in record {
  rests = nothing;
  awaits_request = λ channel doing. nothing;
  awaits_response = λ channel advertiser doing. nothing;
  central_listens = λ handle doing. nothing;
  sent = λ channel link doing. opened_least link facts (subst (IsNewLeast facts.links) doing least);
  responds = λ channel on doing is_on. nothing;
  taken = λ channel octets pdu on fields handle is_on hears takes free.
      opened_least (link_taken facts.view on.params.own pdu fields handle) facts (subst (IsFreeHandle 0 facts.links) free (free_is 0 facts.links));
  scanned = λ channel octets pdu on doing is_on hears.
      passed_least facts (scanner_heard (Some on) true channel pdu facts)
      (answered_quiet facts.view (scan_answer on.params facts.view.accepted on.recent pdu) pdu);
  answered = λ channel octets pdu on doing is_on hears.
      passed_least facts (scanner_heard (Some on) false channel pdu facts)
      (answered_quiet facts.view (scan_answer on.params facts.view.accepted on.recent pdu) pdu);
  connects = λ channel octets pdu on access handle doing is_on hears answers next free in_range. nothing;
  received = λ handle octets.
      passed_least facts (link_heard setup handle octets facts) (heard_quiet handle octets setup facts);
}

pub pass_opens : (setup : Setup) (facts : Facts) (received : Option (List ℕ)) → IsLeastNext facts → OpenLeast facts.links (notes_after setup facts (step_of received))
pass_opens setup facts None least =
    unheard_is setup facts (λ outcome. OpenLeast facts.links (notes_passed outcome)) (phase_opens setup facts least) facts.turn.doing refl
pass_opens setup facts (Some octets) least =
    heard_is setup facts (λ outcome. OpenLeast facts.links (notes_passed outcome)) (phase_opens setup facts least) facts.turn.doing octets refl
    (λ handle.
    let worded = facts_with_words setup handle facts in
    passed_least facts (link_heard setup handle octets worded) (heard_quiet handle octets setup worded))
