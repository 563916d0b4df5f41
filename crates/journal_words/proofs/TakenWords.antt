-- The words that an end draws as it takes a packet, by the lines of the call and by its facts.
use Rattle.std.proofs.Common.{◌≡◌, ℕ, ◌+◌, ◌-◌, ◌&&◌, not, Bool, true, false, Option, Some, None, List, [], ◌∷◌, ◌++◌, length, map, is_none, refl, sym, ap, subst, ◌∙◌, append-nil, append_assoc, if◌then◌else◌, arith}
use Rattle.std.specs.Prelude.{All}
use Rattle.std.proofs.lemmas.Bool.{eqb-true}
use Rattle.std.proofs.lemmas.Grind.{flat_map-append}
use Rattle.std.proofs.lemmas.List.Elements.{All-append, All-head, All-tail}
use Rattle.ble_base.specs.declared.notes.Note.{Note}
use Rattle.ble_base.specs.declared.notes.Note.TheVariants.{Took, Up}
use Rattle.ble_base.specs.declared.procedure_kinds.Kind.{Kind}
use Rattle.ble_base.specs.declared.roles.Role.{Role}
use Rattle.ble_base.specs.declared.roles.Role.TheVariants.{Central, Peripheral}
use Rattle.ble_base.specs.declared.roles.Side.{Side}
use Rattle.data_pdu.specs.Header.{header_in}
use Rattle.data_pdu.specs.declared.header.DataHeader.{DataHeader}
use Rattle.journal.specs.declared.entries.Entry.{Entry}
use Rattle.journal.specs.declared.entries.Entry.TheVariants.{Done as DoneLine}
use Rattle.journal_controls.specs.Hearing.{keyed_hearing}
use Rattle.journal_controls.specs.LineSteps.{keyed_in_line, keyed_on, turn_now, withholds}
use Rattle.journal_controls.specs.SaidLines.{NoneOpens, moved_by}
use Rattle.journal_controls.specs.controller_model.Facts.{Facts, Setup}
use Rattle.journal_controls.specs.controller_model.Heard.{draws_in, facts_with_words, has_room, link_heard, notes_taken}
use Rattle.journal_controls.specs.controller_model.Host.{words_hearing, words_heard, words_if, words_received}
use Rattle.journal_controls.specs.controller_model.Outcome.{Outcome, notes_passed}
use Rattle.journal_controls.specs.controller_model.Side.{notes_after}
use Rattle.journal_controls.specs.controller_model.Step.{PacketHeard}
use Rattle.journal_controls.specs.controller_model.declared.doing.Doing.{Doing}
use Rattle.journal_controls.specs.controller_model.declared.doing.Doing.TheVariants.{Advertises, CentralListens, PeripheralListens}
use Rattle.journal_controls.specs.journal_acks.link_calls.Uses.{listens_under}
use Rattle.journal_controls.specs.journal_ends.Asked.{Words}
use Rattle.journal_controls.specs.journal_ends.GivenWords.{AreKept}
use Rattle.journal_controls.specs.journal_links.LinkLines.{link_named, where_named}
use Rattle.journal_controls.specs.journal_packets.Belonging.{is_side}
use Rattle.journal_controls.specs.link_model.Acknowledgement.{Pdu}
use Rattle.journal_controls.specs.link_model.Controls.{is_procedure_pdu, read_of}
use Rattle.journal_controls.specs.link_model.Data.{is_control, is_empty, numbered}
use Rattle.journal_controls.specs.link_model.Drawing.{draws_hearing, draws_of, draws_received, draws_taking as end_draws, may_answer as end_may}
use Rattle.journal_controls.specs.link_model.Entering.{done_notes}
use Rattle.journal_controls.specs.link_model.Facts.{Facts as EndFacts, keyed_of}
use Rattle.journal_controls.specs.link_model.Packets.{good_pdu}
use Rattle.journal_controls.specs.link_model.Receiving.{accepts, acked_kind, acks_control, control_taken, facts_before_taking, given_if, given_notes, has_acknowledged, is_seen, kept_given_if, received_notes, took_notes_if}
use Rattle.journal_controls.specs.link_model.Setup.{Setup as EndSetup}
use Rattle.journal_controls.specs.link_model.Verdicts.{pdu_of}
use Rattle.journal_controls.specs.link_model.keyed_control.Keyed.{Keyed}
use Rattle.journal_controls.specs.link_model.keyed_control.KeyedSteps.{Takes, keyed_after}
use Rattle.journal_controls.specs.link_model.keyed_control.declared.material.Response.{Response}
use Rattle.journal_controls.specs.link_model.phased_control.Taken.{role_now}
use Rattle.journal_controls.specs.link_model.phased_end.Taking.{drawn}
use Rattle.journal_controls.specs.link_model.unencrypted_ends.Unencrypted.{is_enc_req}
use Rattle.journal_controls.specs.open_links.OpenLinks.{OpenLink, facts_in, link_at}
use Rattle.journal_controls.specs.run_model.History.{Noted}
use Rattle.journal_controls.specs.run_model.Journal.{entry_of, journal_from, side_of}
use Rattle.journal_controls.specs.run_model.Links.{Links, links_after}
use Rattle.journal_controls.specs.run_model.Readers.{PairOpening, pair_openings_in, turns_of}
use Rattle.journal_controls.proofs.EndMoves.{hearing_keeps, past_keeps}
use Rattle.journal_controls.proofs.EndSteps.{before_response}
use Rattle.journal_controls.proofs.LineFolds.{IsNamed, Others, Own, keyed_more, line_moves, named_by}
use Rattle.journal_controls.proofs.NotedSteps.{empty_none}
use Rattle.journal_controls.proofs.journal_acks.PhaseNotes.{IsOnLink, IsPhaseOf, IsPlainPhase, given_takes, phase_of}
use Rattle.journal_controls.proofs.journal_acks.TwoStations.{same_number, side_same}
use Rattle.journal_controls.proofs.journal_acks.link_calls.CallNotes.{HasNoData, TakesNone, all_more, doing_noted, events_noted, none_taken}
use Rattle.journal_controls.proofs.journal_acks.link_calls.RadioUses.{first_of_both}
use Rattle.journal_controls.proofs.journal_ends.WordedLinks.{facts_on, heard_on}
use Rattle.journal_words.specs.Drawn.{draws_taking, may_answer, words_taken, words_taking}
use Rattle.journal_words.proofs.DrawnLines.{sum_in}

-- ---- notes that take no PDU

module _ (words : Words) (side : Side) (station : ℕ) where
  -- the words that the lines of these notes draw
  abbrev pub taken_in : List Entry → Links → List Note → ℕ
  taken_in front links notes = sum_in (words_taking words side) front (journal_from links (map (Noted station) notes))

  untaken_line : (front : List Entry) (link_of : ℕ → ℕ) (last : ℕ) (note : Note) → TakesNone note → words_taking words side front (entry_of (side_of station) link_of last note) ≡ 0
  untaken_line front link_of last (Took handle number llid body) none = absurd cc
  untaken_line front link_of last (Up packet) none = refl
  untaken_line front link_of last note none = refl

  pub none_drawn : (front : List Entry) (links : Links) (notes : List Note) → All TakesNone notes → taken_in front links notes ≡ 0
  none_drawn front links [] none = refl
  none_drawn front links (note ∷ notes) none =
      let line = entry_of (side_of station) (links.link_of station) (links.last_of station) note in
      let one = untaken_line front (links.link_of station) (links.last_of station) note (All-head TakesNone note notes none) in
      let rest = none_drawn (front ++ line ∷ []) (links_after links (Noted station note)) notes (All-tail TakesNone note notes none) in
      omega (arith, one, rest)

  -- lines of the other side draw nothing of this one
  far_line : (front : List Entry) (link_of : ℕ → ℕ) (last : ℕ) (note : Note) → is_side (side_of station) side ≡ false
      → words_taking words side front (entry_of (side_of station) link_of last note) ≡ 0
  far_line front link_of last (Took handle number llid body) far =
      ap (λ own. if own then words_taken (words side front) (turn_now front) (record { llid = llid; body = body.items }) (keyed_on words side (link_of handle) front) else 0) far
  far_line front link_of last (Up packet) far = refl
  far_line front link_of last note far = refl

  pub far_drawn : (front : List Entry) (links : Links) (notes : List Note) → is_side (side_of station) side ≡ false → taken_in front links notes ≡ 0
  far_drawn front links [] far = refl
  far_drawn front links (note ∷ notes) far =
      let line = entry_of (side_of station) (links.link_of station) (links.last_of station) note in
      let one = far_line front (links.link_of station) (links.last_of station) note far in
      let rest = far_drawn (front ++ line ∷ []) (links_after links (Noted station note)) notes far in
      omega (arith, one, rest)

-- ---- a PDU that is taken

not_false : (a : Bool) → not a ≡ false → a ≡ true
not_false true is = refl
not_false false is = absurd cc

by_parts : (procedure request rest : Bool) → ((procedure && request) && rest) ≡ (procedure && (request && rest))
by_parts true request rest = refl
by_parts false request rest = refl

-- what the lines say is what the end does
draws_as : (role : Role) (response : Response) (slot : ℕ) (pdu : Pdu) (now : EndFacts) → role_now (keyed_of now).phased ≡ role
    → (role ≡ Peripheral → response ≡ now.encryption.response)
    → draws_taking response slot pdu (keyed_of now) ≡ (is_procedure_pdu pdu && end_draws role pdu slot now)
draws_as role response slot pdu now is_role given =
    by_parts (is_procedure_pdu pdu) (is_enc_req (read_of pdu)) _
    ∙ ap (λ answers. is_procedure_pdu pdu && (is_enc_req (read_of pdu) && answers)) (by role refl)
  where
    by : (one : Role) → role ≡ one
        → (may_answer (role_now (keyed_of now).phased) (keyed_of now)
        && (is_seen pdu now && is_none (keyed_after (Takes (read_of pdu) slot (drawn response)) (keyed_of now)).phased.control.ends))
        ≡ (end_may role now && (is_seen pdu now && is_none (control_taken pdu slot now).ends))
    by Central is = (λ i. may_answer ((is_role ∙ is) i) (keyed_of now)
        && (is_seen pdu now && is_none (keyed_after (Takes (read_of pdu) slot (drawn response)) (keyed_of now)).phased.control.ends))
        ∙ sym (ap (λ r. end_may r now && (is_seen pdu now && is_none (control_taken pdu slot now).ends)) is)
    by Peripheral is = (λ i. may_answer ((is_role ∙ is) i) (keyed_of now)
        && (is_seen pdu now && is_none (keyed_after (Takes (read_of pdu) slot (drawn (given is i))) (keyed_of now)).phased.control.ends))
        ∙ sym (ap (λ r. end_may r now && (is_seen pdu now && is_none (control_taken pdu slot now).ends)) is)

-- the end as a packet reaches it, by these lines
pub record IsReached (words : Words) (side : Side) (number slot : ℕ) (front : List Entry) (k : Keyed) (response : Response) : Type 0 where
  pub keyed : keyed_on words side number front ≡ Some k
  pub gives : words side front ≡ response
  pub turn : turn_now front ≡ slot

done_still : (words : Words) (side other : Side) (number link : ℕ) (kind : Kind) (front : List Entry) (k : Keyed) → keyed_on words side number front ≡ Some k
    → keyed_on words side number (front ++ DoneLine other link kind ∷ []) ≡ Some k
done_still words side other number link kind front k is =
    let line = DoneLine other link kind in
    keyed_more words side number front line ∙ ap (λ before. keyed_in_line words side number front before line) is
    ∙ by (named_by side number (link_named line) line)
  where
    by : IsNamed (DoneLine other link kind) (where_named side number (link_named (DoneLine other link kind)) (DoneLine other link kind))
        → keyed_in_line words side number front (Some k) (DoneLine other link kind) ≡ Some k
    by (Own is) = line_moves words side number front (DoneLine other link kind) k refl refl (subst NoneOpens (sym is) (refl, tt))
        ∙ ap (λ lines. Some (moved_by (withholds side front) (words side front) (turn_now front) lines k)) is
    by (Others none) = line_moves words side number front (DoneLine other link kind) k refl refl (subst NoneOpens (sym none) tt)
        ∙ ap (λ lines. Some (moved_by (withholds side front) (words side front) (turn_now front) lines k)) none

done_turn : (other : Side) (link : ℕ) (kind : Kind) (front : List Entry) → turn_now (front ++ DoneLine other link kind ∷ []) ≡ turn_now front
done_turn other link kind front =
    ap (λ (turns : List PairOpening). length turns - 1) (flat_map-append pair_openings_in front (DoneLine other link kind ∷ []) ∙ append-nil (turns_of front))

module _ (words : Words) (kept : AreKept words) (station : ℕ) (links : Links) (slot : ℕ) (room : Bool) (setup : EndSetup) (facts : EndFacts) (octets : List ℕ) where
  abbrev side : Side
  side = side_of station

  abbrev role : Role
  role = setup.link.role

  abbrev handle : ℕ
  handle = setup.link.handle

  abbrev number : ℕ
  number = links.link_of station handle

  abbrev header : DataHeader
  header = header_in octets

  abbrev pdu : Pdu
  pdu = pdu_of octets

  abbrev now : EndFacts
  now = facts_before_taking role slot header facts

  abbrev accepted : Bool
  accepted = accepts room header pdu now

  module _ (is_role : role_now (keyed_of now).phased ≡ role) (response : Response) (given : role ≡ Peripheral → response ≡ facts.encryption.response) where
    same_response : role ≡ Peripheral → response ≡ now.encryption.response
    same_response is = given is ∙ sym (before_response role slot header facts)

    -- the PDU, and notes in which none is taken
    took_words : (front : List Entry) → IsReached words side number slot front (keyed_of now) response → (noted : Bool) → (accepted && not (is_empty pdu)) ≡ noted
        → (more : List Note) → All TakesNone more
        → taken_in words side station front links (took_notes_if noted handle pdu now ++ more) ≡ words_if (draws_hearing role slot room header pdu facts)
    took_words front reached true noted more none =
        let count = numbered now.acknowledgement.accepted + 1 in
        let line = entry_of side (links.link_of station) (links.last_of station) (Took handle count pdu.llid (record { items = pdu.body })) in
        let rest = none_drawn words side station (front ++ line ∷ []) links more none in
        let took : words_taking words side front line ≡ words_if (draws_hearing role slot room header pdu facts) =
        ap (λ own. if own then words_taken (words side front) (turn_now front) pdu (keyed_on words side number front) else 0) (side_same station)
        ∙ (λ i. words_taken (reached.gives i) (reached.turn i) pdu (reached.keyed i))
        ∙ ap words_if (draws_as role response slot pdu now is_role same_response)
        ∙ ap (λ b. words_if ((b && is_procedure_pdu pdu) && end_draws role pdu slot now)) (sym (first_of_both accepted (not (is_empty pdu)) noted)) in
        omega (arith, took, rest)
    took_words front reached false noted more none =
        none_drawn words side station front links more none ∙ ap (λ b. words_if (b && end_draws role pdu slot now)) (sym (none_taken_in accepted noted))
      where
        none_taken_in : (takes : Bool) → (takes && not (is_empty pdu)) ≡ false → (takes && is_procedure_pdu pdu) ≡ false
        none_taken_in false is = refl
        none_taken_in true is = empty_none (is_control pdu) (is_empty pdu) (not_false (is_empty pdu) is)

    none_first : (n : ℕ) → 0 + n ≡ n
    none_first n = omega arith

    done_words : (front : List Entry) → IsReached words side number slot front (keyed_of now) response → (kind : Option Kind) → (more : List Note) → All TakesNone more
        → taken_in words side station front links (done_notes handle kind ++ (took_notes_if (accepted && not (is_empty pdu)) handle pdu now ++ more))
        ≡ words_if (draws_hearing role slot room header pdu facts)
    done_words front reached None more none = took_words front reached (accepted && not (is_empty pdu)) refl more none
    done_words front reached (Some kind) more none =
        let line = DoneLine side number kind in
        none_first (taken_in words side station (front ++ line ∷ []) links (took_notes_if (accepted && not (is_empty pdu)) handle pdu now ++ more))
        ∙ took_words (front ++ line ∷ []) (record {
          keyed = done_still words side side number number kind front (keyed_of now) reached.keyed;
          gives = kept side front line refl ∙ reached.gives;
          turn = done_turn side number kind front ∙ reached.turn;
        }) (accepted && not (is_empty pdu)) refl more none

-- all that an end notes of a packet, and notes in which no PDU is taken
module _ (words : Words) (kept : AreKept words) (station : ℕ) (links : Links) (slot : ℕ) (room : Bool) (link : OpenLink) (octets : List ℕ) (front : List Entry) (response : Response)
    (given : link.setup.link.role ≡ Peripheral → response ≡ (facts_in link).encryption.response)
    (reached : (pdu : List ℕ) → good_pdu link.setup (facts_in link) octets ≡ Some pdu
    → IsReached words (side_of station) (links.link_of station link.setup.link.handle) slot front (keyed_hearing link.setup.link.role slot (Some pdu) (facts_in link)) response) where
  received_words : (found : Option (List ℕ)) → good_pdu link.setup (facts_in link) octets ≡ found → (more : List Note) → All TakesNone more
      → taken_in words (side_of station) station front links (received_notes link.setup slot room found (facts_in link) ++ more)
      ≡ words_if (draws_received link.setup.link.role slot room found (facts_in link))
  received_words None is more none = none_drawn words (side_of station) station front links more none
  received_words (Some octets) is more none =
      let role = link.setup.link.role in
      let handle = link.setup.link.handle in
      let header = header_in octets in
      let pdu = pdu_of octets in
      let facts = facts_in link in
      let now = facts_before_taking role slot header facts in
      let accepted = accepts room header pdu now in
      let takes = accepted && is_procedure_pdu pdu in
      let kind = acked_kind (acks_control (has_acknowledged facts header) facts) facts in
      let took = took_notes_if (accepted && not (is_empty pdu)) handle pdu now in
      let later = given_notes handle (given_if takes pdu slot now) ++ given_notes handle (kept_given_if takes pdu slot now) in
      let none_later = All-append TakesNone (given_notes handle (given_if takes pdu slot now)) (given_notes handle (kept_given_if takes pdu slot now))
      (given_takes handle (given_if takes pdu slot now)) (given_takes handle (kept_given_if takes pdu slot now)) in
      ap (taken_in words (side_of station) station front links)
      (append_assoc (done_notes handle kind) (took ++ later) more ∙ ap (λ notes. done_notes handle kind ++ notes) (append_assoc took later more))
      ∙ done_words words kept station links slot room link.setup facts octets
      (hearing_keeps role role slot (Some octets) facts (past_keeps link.setup link.past) []) response given front (reached octets is) kind (later ++ more)
      (All-append TakesNone later more none_later none)

  pub link_words : (more : List Note) → All TakesNone more
      → taken_in words (side_of station) station front links (notes_taken slot room (Some link) octets ++ more) ≡ words_if (draws_in slot room (Some link) octets)
  unfolding draws_of
  link_words more none = received_words (good_pdu link.setup (facts_in link) octets) refl more none

-- ---- a call

-- where the station does not listen on a link
deaf_words : (setup : Setup) (facts : Facts) (octets : List ℕ) (doing : Doing) → ((handle : ℕ) → listens_under handle doing ≡ true → Some octets ≡ None)
    → words_hearing setup doing octets facts ≡ 0
deaf_words setup facts octets (CentralListens handle) deaf = absurd (let h : Some octets ≡ None = deaf handle (same_number handle) in absurd cc)
deaf_words setup facts octets (PeripheralListens handle) deaf = absurd (let h : Some octets ≡ None = deaf handle (same_number handle) in absurd cc)
deaf_words setup facts octets doing deaf = refl

words_on : (setup : Setup) (facts : Facts) (octets : List ℕ) (handle : ℕ) (doing : Doing) → listens_under handle doing ≡ true
    → words_hearing setup doing octets facts ≡ words_received setup handle octets (facts_on setup facts doing handle)
words_on setup facts octets handle (CentralListens other) on = ap (λ n. words_received setup n octets facts) (eqb-true other handle on)
words_on setup facts octets handle (PeripheralListens other) on = ap (λ n. words_received setup n octets (facts_with_words setup n facts)) (eqb-true other handle on)
words_on setup facts octets handle (Advertises channel) on = absurd cc
words_on setup facts octets handle other on = absurd cc

module _ (words : Words) (station : ℕ) (links : Links) (front : List Entry) (setup : Setup) (facts : Facts) (octets : List ℕ)
    (of_link : (handle : ℕ) → listens_under handle facts.turn.doing ≡ true → (link : OpenLink)
    → link_at handle (facts_on setup facts facts.turn.doing handle).links ≡ Some link → (more : List Note) → All TakesNone more
    → taken_in words (side_of station) station front links (notes_taken facts.turn.slot (has_room setup facts) (Some link) octets ++ more)
    ≡ words_if (draws_in facts.turn.slot (has_room setup facts) (Some link) octets)) where
  place_words : (handle : ℕ) → listens_under handle facts.turn.doing ≡ true → (place : Option OpenLink)
      → link_at handle (facts_on setup facts facts.turn.doing handle).links ≡ place → (more : List Note) → All TakesNone more
      → taken_in words (side_of station) station front links (notes_taken facts.turn.slot (has_room setup facts) place octets ++ more)
      ≡ words_if (draws_in facts.turn.slot (has_room setup facts) place octets)
  place_words handle on None at more none = none_drawn words (side_of station) station front links more none
  place_words handle on (Some link) at more none = of_link handle on link at more none

  on_link : (handle : ℕ) → listens_under handle facts.turn.doing ≡ true
      → taken_in words (side_of station) station front links (notes_after setup facts (PacketHeard octets)) ≡ words_heard setup facts (PacketHeard octets)
  on_link handle on =
      let held = facts_on setup facts facts.turn.doing handle in
      let outcome = link_heard setup handle octets held in
      let place = link_at handle held.links in
      let taken = notes_taken facts.turn.slot (has_room setup facts) place octets in
      let events = events_noted TakesNone none_taken.starts.feeds facts.view _ in
      let sent = doing_noted TakesNone none_taken.sent outcome.next outcome.facts in
      ap (λ (one : Outcome). taken_in words (side_of station) station front links (notes_passed one)) (heard_on setup facts octets handle facts.turn.doing on)
      ∙ ap (taken_in words (side_of station) station front links) (append_assoc taken _ _)
      ∙ place_words handle on place refl _ (All-append TakesNone _ _ events sent)
      ∙ sym (words_on setup facts octets handle facts.turn.doing on)

  pub call_words : taken_in words (side_of station) station front links (notes_after setup facts (PacketHeard octets)) ≡ words_heard setup facts (PacketHeard octets)
  call_words = by (phase_of setup facts (Some octets))
    where
      by : IsPhaseOf setup facts (Some octets)
          → taken_in words (side_of station) station front links (notes_after setup facts (PacketHeard octets)) ≡ words_heard setup facts (PacketHeard octets)
      by (IsPlainPhase deaf plain) =
          none_drawn words (side_of station) station front links _ (all_more HasNoData TakesNone (λ note none. none.takes) _ plain)
          ∙ sym (deaf_words setup facts octets facts.turn.doing deaf)
      by (IsOnLink handle given heard is listens same) = on_link handle (listens handle ∙ same_number handle)
