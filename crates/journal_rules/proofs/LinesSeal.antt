-- What a side seals by the PDUs that it took and sent is what its end seals by the lines.
use Rattle.std.proofs.Common.{◌≡◌, ℕ, ◌+◌, ◌==◌, ◌&&◌, ◌||◌, not, Bool, true, false, Option, Some, None, is_none, List, [], ◌∷◌, ◌++◌, length, map, refl, sym, ap, subst, ◌∙◌, append-nil, append_assoc, arith, length-append, if◌then◌else◌}
use Rattle.std.specs.List.{filter}
use Rattle.std.proofs.lemmas.Bool.{and_parts, eqb-true, or_parts}
use Rattle.std.proofs.lemmas.List.Elements.{filter-append}
use Rattle.ble_base.specs.declared.error_codes.ErrCode.{ErrCode}
use Rattle.ble_base.specs.declared.roles.Role.{Role}
use Rattle.ble_base.specs.declared.roles.Role.TheVariants.{Central, Peripheral}
use Rattle.ble_base.specs.declared.roles.Side.{Side}
use Rattle.ble_base.specs.declared.roles.Side.TheVariants.{A, B}
use Rattle.ccm_link.specs.Ccm.{sealed_payload}
use Rattle.ccm_link.specs.Payload.{additional_data, nonce}
use Rattle.journal.specs.declared.entries.Entry.{Entry}
use Rattle.journal.specs.declared.entries.Entry.TheVariants.{Opened, Sent, Shut, Took}
use Rattle.journal_events.specs.journal_leaving.journal_controls.KeyedLines.{Accepts, Does, answer_by, does_if, does_some, keyed_by_all, steps_sending}
use Rattle.journal_events.specs.journal_leaving.journal_controls.LineSteps.{anchor_begun, keyed_begun, keyed_in_line, keyed_on, moved_in_line, steps_in_line, steps_said, turn_now, withholds}
use Rattle.journal_events.specs.journal_leaving.journal_controls.SaidLines.{NoneOpens, moved_by}
use Rattle.journal_events.specs.journal_leaving.journal_controls.host_answers.Answered.{accepted_in}
use Rattle.journal_events.specs.journal_leaving.journal_controls.host_answers.Flows.{most_received_on}
use Rattle.journal_events.specs.journal_leaving.journal_controls.journal_ends.Asked.{Words}
use Rattle.journal_events.specs.journal_leaving.journal_controls.journal_ends.Seen.{Says, heard_in_line}
use Rattle.journal_events.specs.journal_leaving.journal_controls.journal_links.Begun.{LinkBegun, link_numbered}
use Rattle.journal_events.specs.journal_leaving.journal_controls.journal_links.Changes.{role_on}
use Rattle.journal_events.specs.journal_leaving.journal_controls.journal_links.LinkLines.{link_named, where_named}
use Rattle.journal_events.specs.journal_leaving.journal_controls.journal_packets.Belonging.{is_side}
use Rattle.journal_events.specs.journal_leaving.journal_controls.link_model.Acknowledgement.{Pdu}
use Rattle.journal_events.specs.journal_leaving.journal_controls.link_model.Controls.{is_procedure_pdu, read_of}
use Rattle.journal_events.specs.journal_leaving.journal_controls.link_model.Data.{is_data, is_empty}
use Rattle.journal_events.specs.journal_leaving.journal_controls.link_model.Payload.{payload_made}
use Rattle.journal_events.specs.journal_leaving.journal_controls.link_model.Setup.{first_params}
use Rattle.journal_events.specs.journal_leaving.journal_controls.link_model.enc_phase.Phases.{is_central, seals}
use Rattle.journal_events.specs.journal_leaving.journal_controls.link_model.enc_phase.Sealing.{EncEnd, after_opening, after_sending}
use Rattle.journal_events.specs.journal_leaving.journal_controls.link_model.enc_phase.declared.facts.PhaseFacts.TheVariants.{Clear}
use Rattle.journal_events.specs.journal_leaving.journal_controls.link_model.keyed_control.Keyed.{Keyed, first_keyed}
use Rattle.journal_events.specs.journal_leaving.journal_controls.link_model.keyed_control.KeyedSteps.{Seals, Sends, Takes, TakesData, keyed_after, keyed_moved}
use Rattle.journal_events.specs.journal_leaving.journal_controls.link_model.phased_control.PhaseChanges.{taken_change}
use Rattle.journal_events.specs.journal_leaving.journal_controls.link_model.phased_control.Taken.{role_now}
use Rattle.journal_events.specs.journal_leaving.journal_controls.link_model.phased_end.Taking.{drawn}
use Rattle.journal_events.proofs.journal_leaving.journal_controls.LineFolds.{keyed_more, line_moves}
use Rattle.journal_events.proofs.journal_leaving.journal_controls.journal_acks.TwoStations.{same_number}
use Rattle.journal_events.proofs.journal_leaving.journal_controls.journal_ends.SeenEvents.{unaccepted_by}
use Rattle.journal_events.proofs.journal_leaving.journal_controls.journal_links.LinkLines.{own_side}
use Rattle.journal_events.proofs.journal_leaving.journal_controls.journal_links.LinksBegun.{number_stays}
use Rattle.journal_rules.specs.Sealing.{AllAreSealedInWords, NoneIsIgnored, class_of_pdu, counted_from, heeds, is_heeded, is_ignored, is_mark, is_sealed, lines_counted, marks_at, marks_of, marks_with, payload_in_words, sends_at, sent_since, starts_at, starts_in, starts_with}
use Rattle.journal_rules.specs.Since.{is_own, last_of, opens_at, since}
use Rattle.journal_rules.proofs.PlainLines.{AreSeenPlain, all_plain, line_plain, own_plain, plain_both, plain_if, refusing_plain, says_plain}
use Rattle.journal_rules.proofs.SinceLines.{since_more}
use Rattle.journal_rules.proofs.EndSeals.{GoesOn, IsSound, SealsAnew, accepted_sound, alike_both, all_on, first_sound, ignored_alike, sending_sound, step_sound, takes_mark}

-- ---- the words, with a line more

last_more : (lines : List Entry) (line : Entry) → last_of (lines ++ line ∷ []) ≡ Some line
last_more [] line = refl
last_more (one ∷ []) line = refl
last_more (one ∷ next ∷ lines) line = last_more (next ∷ lines) line

filter_more : (passes : Entry → Bool) (lines : List Entry) (line : Entry) → filter passes (lines ++ line ∷ []) ≡ filter passes lines ++ (if passes line then line ∷ [] else [])
filter_more passes lines line = filter-append passes lines (line ∷ [])

module _ (role : Role) (side : Side) (number : ℕ) (front : List Entry) (line : Entry) where
  marks_then : opens_at side number line ≡ false
      → marks_of role side number (front ++ line ∷ []) ≡ marks_of role side number front ++ (if marks_at role side number line then line ∷ [] else [])
  marks_then none =
      ap (filter (marks_at role side number))
      (since_more (opens_at side number) front line ∙ ap (λ (b : Bool). if b then [] else since (opens_at side number) front ++ line ∷ []) none)
      ∙ filter_more (marks_at role side number) (since (opens_at side number) front) line

  pub sealed_opens : opens_at side number line ≡ true → is_sealed role side number (front ++ line ∷ []) ≡ false
  unfolding is_sealed
  sealed_opens opens =
      ap (λ lines. starts_in role side number (last_of (filter (marks_at role side number) lines)))
      (since_more (opens_at side number) front line ∙ ap (λ (b : Bool). if b then [] else since (opens_at side number) front ++ line ∷ []) opens)

  pub sealed_stays : opens_at side number line ≡ false → marks_at role side number line ≡ false → is_sealed role side number (front ++ line ∷ []) ≡ is_sealed role side number front
  unfolding is_sealed
  sealed_stays none plain =
      ap (λ lines. starts_in role side number (last_of lines))
      (marks_then none ∙ ap (λ (b : Bool). marks_of role side number front ++ (if b then line ∷ [] else [])) plain ∙ append-nil (marks_of role side number front))

  pub sealed_then : opens_at side number line ≡ false → marks_at role side number line ≡ true → is_sealed role side number (front ++ line ∷ []) ≡ starts_at role side number line
  unfolding is_sealed
  sealed_then none mark =
      ap (λ lines. starts_in role side number (last_of lines))
      (marks_then none ∙ ap (λ (b : Bool). marks_of role side number front ++ (if b then line ∷ [] else [])) mark)
      ∙ ap (starts_in role side number) (last_more (marks_of role side number front) line)

  count_then : starts_at role side number line ≡ false → sent_since role side number (front ++ line ∷ [])
      ≡ sent_since role side number front + length (if sends_at side number line then line ∷ [] else [])
  unfolding sent_since
  count_then none =
      ap (λ lines. length (filter (sends_at side number) lines))
      (since_more (starts_at role side number) front line ∙ ap (λ (b : Bool). if b then [] else since (starts_at role side number) front ++ line ∷ []) none)
      ∙ ap length (filter_more (sends_at side number) (since (starts_at role side number) front) line)
      ∙ length-append (filter (sends_at side number) (since (starts_at role side number) front)) (if sends_at side number line then line ∷ [] else [])

  add_none : (n : ℕ) → n + 0 ≡ n
  add_none n = omega arith

  pub count_stays : starts_at role side number line ≡ false → sends_at side number line ≡ false → sent_since role side number (front ++ line ∷ []) ≡ sent_since role side number front
  count_stays none plain =
      count_then none ∙ ap (λ (b : Bool). sent_since role side number front + length (if b then line ∷ [] else [])) plain ∙ add_none (sent_since role side number front)

  pub count_more : starts_at role side number line ≡ false → sends_at side number line ≡ true → sent_since role side number (front ++ line ∷ []) ≡ sent_since role side number front + 1
  count_more none sends = count_then none ∙ ap (λ (b : Bool). sent_since role side number front + length (if b then line ∷ [] else [])) sends

  pub count_starts : starts_at role side number line ≡ true → sent_since role side number (front ++ line ∷ []) ≡ 0
  unfolding sent_since
  count_starts starts =
      ap (λ lines. length (filter (sends_at side number) lines))
      (since_more (starts_at role side number) front line ∙ ap (λ (b : Bool). if b then [] else since (starts_at role side number) front ++ line ∷ []) starts)

-- a line that starts is a mark
first_none : (own is starts stops : Bool) → (own && (is && (starts || stops))) ≡ false → (own && (is && starts)) ≡ false
first_none false is starts stops none = refl
first_none true false starts stops none = refl
first_none true true starts stops none = (or_parts starts stops none).0

starts_none : (role : Role) (side : Side) (number : ℕ) (line : Entry) → marks_at role side number line ≡ false → starts_at role side number line ≡ false
starts_none role side number (Took other link count llid body) none =
    first_none (is_own side number other link) (is_procedure_pdu (record { llid = llid; body = body })) (starts_with (class_of_pdu llid body) role) _ none
starts_none role side number line none = refl

-- ---- an end before and after a line

-- the end of a side is what the words say of it
pub record IsTold (role : Role) (side : Side) (number : ℕ) (front : List Entry) (k : Keyed) : Type 0 where
  pub sound : IsSound role k
  pub sealed : seals k.end.role k.end.phase ≡ is_sealed role side number front
  pub counted : is_sealed role side number front ≡ true → k.end.sent ≡ sent_since role side number front

pub one_side : (one other : Side) (same : Bool) → (is_side other one && same) ≡ true → (other ≡ one) × (same ≡ true)
one_side A A true is = (refl, refl)
one_side A A false is = absurd cc
one_side A B same is = absurd cc
one_side B A same is = absurd cc
one_side B B true is = (refl, refl)
one_side B B false is = absurd cc

module _ (role : Role) (side : Side) (number : ℕ) (front : List Entry) where
  -- in a line in which the words stay, the end goes on
  stays_told : (line : Entry) (k next : Keyed) → opens_at side number line ≡ false → marks_at role side number line ≡ false → sends_at side number line ≡ false
      → IsTold role side number front k → GoesOn role k next → IsTold role side number (front ++ line ∷ []) next
  stays_told line k next none plain unsent told on =
      let same = sealed_stays role side number front line none plain in record {
        sound = on.sound;
        sealed = on.alike_then.seals_too ∙ told.sealed ∙ sym same;
        counted = λ is. on.alike_then.sent ∙ told.counted (sym same ∙ is) ∙ sym (count_stays role side number front line (starts_none role side number line plain) unsent);
      }

  same_told : (line : Entry) (k : Keyed) → opens_at side number line ≡ false → marks_at role side number line ≡ false → sends_at side number line ≡ false
      → IsTold role side number front k → IsTold role side number (front ++ line ∷ []) k
  same_told line k none plain unsent told =
      stays_told line k k none plain unsent told (record { sound = told.sound; alike_then = record { role = refl; seals_too = refl; sent = refl } })

  -- a PDU is sent
  sent_told : (line : Entry) (k next : Keyed) → opens_at side number line ≡ false → marks_at role side number line ≡ false → sends_at side number line ≡ true
      → IsTold role side number front k → IsSound role next → next.end ≡ after_sending k.end → IsTold role side number (front ++ line ∷ []) next
  sent_told line k next none plain sends told sound is =
      let same = sealed_stays role side number front line none plain in record {
        sound = sound;
        sealed = ap (λ (e : EncEnd). seals e.role e.phase) is ∙ told.sealed ∙ sym same;
        counted = λ sealed.
            ap (λ (e : EncEnd). e.sent) is ∙ ap (λ (b : Bool). if b then k.end.sent + 1 else k.end.sent) (told.sealed ∙ sym same ∙ sealed)
            ∙ ap (λ n. n + 1) (told.counted (sym same ∙ sealed))
            ∙ sym (count_more role side number front line (starts_none role side number line plain) sends);
      }

  -- one is taken that starts or stops
  mark_told : (line : Entry) (next : Keyed) → opens_at side number line ≡ false → marks_at role side number line ≡ true → IsSound role next
      → SealsAnew role (starts_at role side number line) next.end → IsTold role side number (front ++ line ∷ []) next
  mark_told line next none mark sound anew =
      let now = sealed_then role side number front line none mark in record {
        sound = sound;
        sealed = anew.seals_is ∙ sym now;
        counted = λ sealed. anew.none ∙ sym (count_starts role side number front line (sym now ∙ sealed));
      }

  -- the link is opened
  opened_told : (line : Entry) (next : Keyed) → opens_at side number line ≡ true → IsSound role next → seals next.end.role next.end.phase ≡ false
      → IsTold role side number (front ++ line ∷ []) next
  opened_told line next opens sound clear =
      let now = sealed_opens role side number front line opens in record {
        sound = sound;
        sealed = clear ∙ sym now;
        counted = λ sealed. absurd (let no : true ≡ false = sym sealed ∙ now in cc);
      }

-- an end that goes on is told by the same lines
on_told : (role : Role) (side : Side) (number : ℕ) (told_by : List Entry) (k next : Keyed) → IsTold role side number told_by k → GoesOn role k next
    → IsTold role side number told_by next
on_told role side number told_by k next told on = record {
  sound = on.sound;
  sealed = on.alike_then.seals_too ∙ told.sealed;
  counted = λ sealed. on.alike_then.sent ∙ told.counted sealed;
}

-- ---- a line of the end

none_of : (ends : Option ErrCode) → is_none ends ≡ true → ends ≡ None
none_of None is = refl
none_of (Some code) is = absurd cc

sends_same : (slot : ℕ) (k : Keyed) → (keyed_after (Sends slot) k).end ≡ k.end
sends_same slot k = by (is_none k.phased.control.ends)
  where
    by : (goes : Bool) → (if goes then keyed_moved (Sends slot) k else k).end ≡ k.end
    by true = refl
    by false = refl

sending_seals : (own : Role) (slot : ℕ) (pdu : Pdu) (k : Keyed) → (keyed_by_all (steps_sending own slot pdu) k).end ≡ after_sending k.end
sending_seals Central slot pdu k = by (is_procedure_pdu pdu)
  where
    by : (is : Bool) → (keyed_by_all (does_if is (Sends slot) ++ Does (Seals pdu.llid pdu.body) ∷ []) k).end ≡ after_sending k.end
    by true = ap after_sending (sends_same slot k)
    by false = refl
sending_seals Peripheral slot pdu k = refl

seals_none : (role : Role) → seals role Clear ≡ false
seals_none Central = refl
seals_none Peripheral = refl

sending_steps : (role own : Role) (slot : ℕ) (pdu : Pdu) (k : Keyed) → IsSound role k → IsSound role (keyed_by_all (steps_sending own slot pdu) k)
sending_steps role Central slot pdu k sound = by (is_procedure_pdu pdu)
  where
    by : (is : Bool) → IsSound role (keyed_by_all (does_if is (Sends slot) ++ Does (Seals pdu.llid pdu.body) ∷ []) k)
    by true = sending_sound role pdu.llid pdu.body (keyed_after (Sends slot) k) (step_sound role (Sends slot) k sound refl)
    by false = sending_sound role pdu.llid pdu.body k sound
sending_steps role Peripheral slot pdu k sound = sending_sound role pdu.llid pdu.body k sound

module _ (words : Words) (side : Side) (number : ℕ) (front : List Entry) where
  pub own_is : is_own side number side number ≡ true
  own_is = own side ∙ same_number number
    where
      own : (one : Side) → is_own one number one number ≡ (number == number)
      own A = refl
      own B = refl

  named : (line : Entry) → where_named side number (Some (side, number)) line ≡ line ∷ []
  named line = own_side side (if number == number then line ∷ [] else []) ∙ ap (λ b. if b then line ∷ [] else []) (same_number number)

  -- what an own line makes of the end
  own_moves : (line : Entry) (k next : Keyed) → link_named line ≡ Some (side, number) → heard_in_line side number front line ≡ [] → accepted_in side front line ≡ []
      → NoneOpens (line ∷ []) → keyed_on words side number front ≡ Some k → keyed_on words side number (front ++ line ∷ []) ≡ Some next
      → next ≡ keyed_by_all (steps_said (withholds side front) (words side front) (turn_now front) k line) k
  own_moves line k next is deaf unaccepted opens before after =
      let own : where_named side number (link_named line) line ≡ line ∷ [] = ap (λ (n : Option (Side × ℕ)). where_named side number n line) is ∙ named line in
      let h : Some next ≡ Some (keyed_by_all (steps_said (withholds side front) (words side front) (turn_now front) k line) k) =
      sym after ∙ keyed_more words side number front line ∙ ap (λ found. keyed_in_line words side number front found line) before
      ∙ line_moves words side number front line k deaf unaccepted (subst NoneOpens (sym own) opens)
      ∙ ap (λ lines. Some (moved_by (withholds side front) (words side front) (turn_now front) lines k)) own in cc

  -- the end, told by these lines
  module _ (role : Role) (told_by : List Entry) where
    sent_line : (count llid : ℕ) (body : List ℕ) (k next : Keyed) → keyed_on words side number front ≡ Some k
        → keyed_on words side number (front ++ Sent side number count llid body ∷ []) ≡ Some next → IsTold role side number told_by k
        → IsTold role side number (told_by ++ Sent side number count llid body ∷ []) next
    sent_line count llid body k next before after told =
        let line = Sent side number count llid body in
        let pdu : Pdu = record { llid = llid; body = body } in
        let is = own_moves line k next refl refl (unaccepted_by side front line refl) (refl, tt) before after in
        sent_told role side number told_by line k next refl refl own_is told
        (subst (IsSound role) (sym is) (sending_steps role (role_now k.phased) (turn_now front) pdu k told.sound))
        (ap (λ (one : Keyed). one.end) is ∙ sending_seals (role_now k.phased) (turn_now front) pdu k)

    mark_line : (count llid : ℕ) (body : List ℕ) (k next : Keyed) → keyed_on words side number front ≡ Some k
        → keyed_on words side number (front ++ Took side number count llid body ∷ []) ≡ Some next → IsTold role side number told_by k
        → is_procedure_pdu (record { llid = llid; body = body }) ≡ true → marks_with (class_of_pdu llid body) role ≡ true → heeds role (turn_now front) (read_of (record { llid = llid; body = body })) (Some k) ≡ true
        → IsTold role side number (told_by ++ Took side number count llid body ∷ []) next
    mark_line count llid body k next before after told procedure marks_it heeded =
        let line = Took side number count llid body in
        let pdu : Pdu = record { llid = llid; body = body } in
        let slot = turn_now front in
        let takes = Takes (read_of pdu) slot (drawn (words side front)) in
        let refuses = does_some (answer_by (withholds side front) (words side front) slot k pdu) in
        let rest = does_if (is_data pdu) TakesData ++ refuses in
        let opened = accepted_sound role k told.sound in
        let k1 : Keyed = record k { end = after_opening k.end } in
        let k2 = keyed_after takes k1 in
        let is : next ≡ keyed_by_all rest k2 =
        own_moves line k next refl refl (unaccepted_by side front line refl) (refl, tt) before after
        ∙ ap (λ (b : Bool). keyed_by_all ((Accepts ∷ (if b then Does takes ∷ [] else []) ++ does_if (is_data pdu) TakesData) ++ refuses) k) procedure in
        let parts = and_parts (is_none k.phased.control.ends) (is_mark (taken_change (read_of pdu) slot k.phased) role) heeded in
        let anew = takes_mark role k1 opened (none_of k.phased.control.ends parts.0) (read_of pdu) slot (drawn (words side front)) marks_it parts.1 in
        let sound = step_sound role takes k1 opened refl in
        let on = all_on role rest k2 sound (plain_both role (does_if (is_data pdu) TakesData) refuses (plain_if role (is_data pdu) TakesData refl)
        (refusing_plain role (withholds side front) (words side front) slot k pdu)) in
        let starts : starts_at role side number line ≡ starts_with (class_of_pdu llid body) role =
        (λ i. own_is i && (procedure i && starts_with (class_of_pdu llid body) role)) in
        mark_told role side number told_by line next refl ((λ i. own_is i && (procedure i && marks_it i))) (subst (IsSound role) (sym is) on.sound)
        (subst (λ b. SealsAnew role b next.end) (sym starts)
        (subst (λ (one : Keyed). SealsAnew role (starts_with (class_of_pdu llid body) role) one.end) (sym is) (record {
          role_is = on.alike_then.role ∙ anew.role_is;
          seals_is = on.alike_then.seals_too ∙ anew.seals_is;
          none = on.alike_then.sent ∙ anew.none;
        })))

    -- such a PDU is taken and ignored
    ignored_line : (count llid : ℕ) (body : List ℕ) (k next : Keyed) → keyed_on words side number front ≡ Some k
        → keyed_on words side number (front ++ Took side number count llid body ∷ []) ≡ Some next → IsTold role side number told_by k
        → is_procedure_pdu (record { llid = llid; body = body }) ≡ true → heeds role (turn_now front) (read_of (record { llid = llid; body = body })) (Some k) ≡ false
        → IsTold role side number told_by next
    ignored_line count llid body k next before after told procedure ignored =
        let line = Took side number count llid body in
        let pdu : Pdu = record { llid = llid; body = body } in
        let slot = turn_now front in
        let takes = Takes (read_of pdu) slot (drawn (words side front)) in
        let refuses = does_some (answer_by (withholds side front) (words side front) slot k pdu) in
        let rest = does_if (is_data pdu) TakesData ++ refuses in
        let opened = accepted_sound role k told.sound in
        let k1 : Keyed = record k { end = after_opening k.end } in
        let k2 = keyed_after takes k1 in
        let is : next ≡ keyed_by_all rest k2 =
        own_moves line k next refl refl (unaccepted_by side front line refl) (refl, tt) before after
        ∙ ap (λ (b : Bool). keyed_by_all ((Accepts ∷ (if b then Does takes ∷ [] else []) ++ does_if (is_data pdu) TakesData) ++ refuses) k) procedure in
        let taken = ignored_alike role (read_of pdu) slot (drawn (words side front)) k1 opened ignored in
        let on = all_on role rest k2 (step_sound role takes k1 opened refl) (plain_both role (does_if (is_data pdu) TakesData) refuses (plain_if role (is_data pdu) TakesData refl)
        (refusing_plain role (withholds side front) (words side front) slot k pdu)) in
        subst (λ (one : Keyed). IsTold role side number told_by one) (sym is)
        (on_told role side number told_by k (keyed_by_all rest k2) told (record {
          sound = on.sound;
          alike_then = alike_both k.end k2.end (keyed_by_all rest k2).end
              (alike_both k.end k1.end k2.end (record { role = refl; seals_too = refl; sent = refl }) taken) on.alike_then;
        }))

    -- a line that neither opens nor shuts, and that says nothing of the kind
    plain_line : (line : Entry) (k next : Keyed) → keyed_in_line words side number front (Some k) line ≡ Some (moved_in_line words side number front line k)
        → AreSeenPlain role (map Says (where_named side number (link_named line) line)) → opens_at side number line ≡ false → marks_at role side number line ≡ false
        → sends_at side number line ≡ false → keyed_in_line words side number front (Some k) line ≡ Some next → IsTold role side number told_by k
        → IsTold role side number (told_by ++ line ∷ []) next
    plain_line line k next moves plain none unmarked unsent after told =
        let h : Some next ≡ Some (moved_in_line words side number front line k) = sym after ∙ moves in
        let is : next ≡ moved_in_line words side number front line k = cc in
        subst (λ (one : Keyed). IsTold role side number (told_by ++ line ∷ []) one) (sym is)
        (stays_told role side number told_by line k (moved_in_line words side number front line k) none unmarked unsent told
        (all_on role (steps_in_line words side number front line k) k told.sound (line_plain role words side number front line k (all_plain role words side number front line plain))))

    -- ---- any line that neither opens the link, nor says that a PDU is sent, nor that one is taken that starts or stops

    any_line : (line : Entry) (k next : Keyed) → keyed_in_line words side number front (Some k) line ≡ Some next → IsTold role side number told_by k
        → opens_at side number line ≡ false → AreSeenPlain role (map Says (where_named side number (link_named line) line)) → marks_at role side number line ≡ false
        → sends_at side number line ≡ false → IsTold role side number (told_by ++ line ∷ []) next
    any_line (Opened other link handle own_role) k next after told none plain unmarked unsent =
        let h : Some k ≡ Some next =
        sym (ap (λ (b : Bool). if b then keyed_begun (most_received_on side front) side (link_numbered number front) else Some k) none) ∙ after in
        let is : k ≡ next = cc in
        subst (λ (one : Keyed). IsTold role side number (told_by ++ Opened other link handle own_role ∷ []) one) is
        (same_told role side number told_by (Opened other link handle own_role) k none refl refl told)
    any_line (Shut other link reason) k next after told none plain unmarked unsent = by (is_own side number other link) after
      where
        by : (own : Bool) → (if own then None else Some k) ≡ Some next → IsTold role side number (told_by ++ Shut other link reason ∷ []) next
        by true is = absurd cc
        by false is =
            let same : k ≡ next = cc in
            subst (λ (one : Keyed). IsTold role side number (told_by ++ Shut other link reason ∷ []) one) same
            (same_told role side number told_by (Shut other link reason) k refl refl refl told)
    any_line line k next after told none plain unmarked unsent = plain_line line k next refl plain none unmarked unsent after told

-- which line it is
data Kind (role : Role) (side : Side) (number : ℕ) (line : Entry) : Type 0 where
  OwnSent : (count llid : ℕ) (body : List ℕ) → line ≡ Sent side number count llid body → Kind role side number line
  OwnMark : (count llid : ℕ) (body : List ℕ) → line ≡ Took side number count llid body → is_procedure_pdu (record { llid = llid; body = body }) ≡ true
      → marks_with (class_of_pdu llid body) role ≡ true → Kind role side number line
  IsPlain : AreSeenPlain role (map Says (where_named side number (link_named line) line)) → marks_at role side number line ≡ false
      → sends_at side number line ≡ false → Kind role side number line

module _ (role : Role) (side : Side) (number : ℕ) where
  named_plain : (line : Entry) (named_as : Option (Side × ℕ)) → says_plain role line ≡ true → AreSeenPlain role (map Says (where_named side number named_as line))
  named_plain line None plain = tt
  named_plain line (Some pair) plain = own_plain role side pair.0 (pair.1 == number) line (λ own. plain)

  kind_of : (line : Entry) → Kind role side number line
  kind_of (Sent other link count llid body) = by (is_own side number other link) refl
    where
      by : (own : Bool) → is_own side number other link ≡ own → Kind role side number (Sent other link count llid body)
      by true own =
          let same = one_side side other (link == number) own in
          OwnSent count llid body (λ i. Sent (same.0 i) (eqb-true link number same.1 i) count llid body)
      by false own =
          IsPlain (own_plain role side other (link == number) (Sent other link count llid body) (λ is. absurd (let no : true ≡ false = sym is ∙ own in cc))) refl own
  kind_of (Took other link count llid body) = by (is_own side number other link) (is_procedure_pdu pdu) (marks_with (class_of_pdu llid body) role) refl refl refl
    where
      pdu : Pdu
      pdu = record { llid = llid; body = body }

      line : Entry
      line = Took other link count llid body

      by : (own procedure marks : Bool) → is_own side number other link ≡ own → is_procedure_pdu pdu ≡ procedure → marks_with (class_of_pdu llid body) role ≡ marks → Kind role side number line
      by true true true own procedure marks =
          let same = one_side side other (link == number) own in
          OwnMark count llid body (λ i. Took (same.0 i) (eqb-true link number same.1 i) count llid body) procedure marks
      by false is mark own procedure marks =
          IsPlain (own_plain role side other (link == number) line (λ now. absurd (let no : true ≡ false = sym now ∙ own in cc)))
          (λ i. own i && (is_procedure_pdu pdu && marks_with (class_of_pdu llid body) role)) refl
      by true false mark own procedure marks =
          IsPlain (own_plain role side other (link == number) line (λ now. λ i. not (procedure i && marks_with (class_of_pdu llid body) role)))
          (λ i. own i && (procedure i && marks_with (class_of_pdu llid body) role)) refl
      by true true false own procedure marks =
          IsPlain (own_plain role side other (link == number) line (λ now. λ i. not (procedure i && marks i)))
          (λ i. own i && (procedure i && marks i)) refl
  kind_of line = IsPlain (named_plain line (link_named line) refl) refl refl

record IsOpening (side : Side) (number : ℕ) (line : Entry) : Type 0 where
  handle : ℕ
  role : Role
  is : line ≡ Opened side number handle role

opening_is : (side : Side) (number : ℕ) (line : Entry) → opens_at side number line ≡ true → IsOpening side number line
opening_is side number (Opened other link handle role) opens =
    let same = one_side side other (link == number) opens in
    record { handle = handle; role = role; is = λ i. Opened (same.0 i) (eqb-true link number same.1 i) handle role }
opening_is side number line opens = absurd cc

-- an end that is not open stays so, but for the line that opens it
pub none_stays : (words : Words) (side : Side) (number : ℕ) (front : List Entry) (line : Entry) → opens_at side number line ≡ false
    → keyed_in_line words side number front None line ≡ None
none_stays words side number front (Opened other link handle role) none =
    ap (λ (b : Bool). if b then keyed_begun (most_received_on side front) side (link_numbered number front) else None) none
none_stays words side number front (Shut other link reason) none = by (is_own side number other link)
  where
    by : (own : Bool) → ◌≡◌ {A = Option Keyed} (if own then None else None) None
    by true = refl
    by false = refl
none_stays words side number front line none = refl

-- ---- the lines that count, with a line more

module _ (words : Words) (role : Role) (side : Side) (number : ℕ) where
  counted_on : (front counted lines : List Entry) (line : Entry) → counted_from words role side number front counted (lines ++ line ∷ [])
      ≡ counted_from words role side number front counted lines ++ (if is_ignored words role side number (front ++ lines) line then [] else line ∷ [])
  counted_on front counted [] line = ap (λ xs. counted ++ (if is_ignored words role side number xs line then [] else line ∷ [])) (sym (append-nil front))
  counted_on front counted (first ∷ lines) line =
      counted_on (front ++ first ∷ []) (counted ++ (if is_ignored words role side number front first then [] else first ∷ [])) lines line
      ∙ ap (λ xs. counted_from words role side number (front ++ first ∷ []) (counted ++ (if is_ignored words role side number front first then [] else first ∷ [])) lines
      ++ (if is_ignored words role side number xs line then [] else line ∷ [])) (append_assoc front (first ∷ []) lines)

  pub counted_more : (front : List Entry) (line : Entry) → lines_counted words role side number (front ++ line ∷ [])
      ≡ lines_counted words role side number front ++ (if is_ignored words role side number front line then [] else line ∷ [])
  unfolding lines_counted
  counted_more front line = counted_on [] [] front line

  pub counts_it : (front : List Entry) (line : Entry) → is_ignored words role side number front line ≡ false
      → lines_counted words role side number (front ++ line ∷ []) ≡ lines_counted words role side number front ++ line ∷ []
  counts_it front line heeded = counted_more front line ∙ ap (λ (b : Bool). lines_counted words role side number front ++ (if b then [] else line ∷ [])) heeded

  pub ignores_it : (front : List Entry) (line : Entry) → is_ignored words role side number front line ≡ true
      → lines_counted words role side number (front ++ line ∷ []) ≡ lines_counted words role side number front
  ignores_it front line ignored =
      counted_more front line ∙ ap (λ (b : Bool). lines_counted words role side number front ++ (if b then [] else line ∷ [])) ignored
      ∙ append-nil (lines_counted words role side number front)

  -- where none is ignored all lines count
  all_count : (front rest : List Entry) → NoneIsIgnored words role side number (front ++ rest) → lines_counted words role side number front ≡ front
      → lines_counted words role side number (front ++ rest) ≡ front ++ rest
  all_count front [] none same = ap (lines_counted words role side number) (append-nil front) ∙ same ∙ sym (append-nil front)
  all_count front (line ∷ rest) none same =
      ap (lines_counted words role side number) (sym (append_assoc front (line ∷ []) rest))
      ∙ all_count (front ++ line ∷ []) rest (subst (NoneIsIgnored words role side number) (sym (append_assoc front (line ∷ []) rest)) none)
      (counts_it front line (none front rest line refl) ∙ ap (λ xs. xs ++ line ∷ []) same)
      ∙ append_assoc front (line ∷ []) rest

  nothing_counted : lines_counted words role side number [] ≡ []
  unfolding lines_counted
  nothing_counted = refl

  pub every_line_counts : (front : List Entry) → NoneIsIgnored words role side number front → lines_counted words role side number front ≡ front
  every_line_counts front none = all_count [] front none nothing_counted

module _ (words : Words) (side : Side) (number : ℕ) (link : LinkBegun) where
  abbrev role : Role
  role = role_on link side

  record IsTrue (front : List Entry) (k : Keyed) : Type 0 where
    known : link_numbered number front ≡ Some link
    told : IsTold role side number (lines_counted words role side number front) k

  abbrev IsTrueAt : List Entry → Type 0
  IsTrueAt front = (k : Keyed) → keyed_on words side number front ≡ Some k → IsTrue front k

  module _ (whole : List Entry) (is_link : link_numbered number whole ≡ Some link) where
    same_link : (front rest : List Entry) (one : LinkBegun) → whole ≡ front ++ rest → link_numbered number front ≡ Some one → one ≡ link
    same_link front rest one is found =
        let h : Some one ≡ Some link = sym (number_stays number front rest one found) ∙ ap (link_numbered number) (sym is) ∙ is_link in cc

    opens_line : (front rest : List Entry) (handle : ℕ) (own_role : Role) (next : Keyed) → whole ≡ front ++ Opened side number handle own_role ∷ rest
        → keyed_begun (most_received_on side front) side (link_numbered number front) ≡ Some next → IsTrue (front ++ Opened side number handle own_role ∷ []) next
    opens_line front rest handle own_role next is begun = by (link_numbered number front) refl begun
      where
        by : (found : Option LinkBegun) → link_numbered number front ≡ found → keyed_begun (most_received_on side front) side found ≡ Some next
            → IsTrue (front ++ Opened side number handle own_role ∷ []) next
        by None none made = absurd cc
        by (Some one) found made =
            let same = same_link front (Opened side number handle own_role ∷ rest) one is found in
            let first = first_keyed (role_on one side) (most_received_on side front) (first_params one.fields) (anchor_begun one) in
            let is_first : first ≡ next = cc in record {
              known = number_stays number front (Opened side number handle own_role ∷ []) link (found ∙ ap Some same);
              told = subst (λ (xs : List Entry). IsTold role side number xs next) (sym (counts_it words role side number front (Opened side number handle own_role) refl))
                  (subst (λ (k : Keyed). IsTold role side number (lines_counted words role side number front ++ Opened side number handle own_role ∷ []) k) is_first
                  (subst (λ (l : LinkBegun). IsTold (role_on l side) side number (lines_counted words role side number front ++ Opened side number handle own_role ∷ []) first) same
                  (opened_told (role_on one side) side number (lines_counted words role side number front) (Opened side number handle own_role) first (own_is words side number front)
                  (first_sound (role_on one side) (most_received_on side front) (first_params one.fields) (anchor_begun one)) (seals_none (role_on one side)))));
            }

    module _ (front rest : List Entry) (line : Entry) (is : whole ≡ front ++ line ∷ rest) (before : IsTrueAt front) (next : Keyed)
        (after : keyed_on words side number (front ++ line ∷ []) ≡ Some next) where
      moved : keyed_in_line words side number front (keyed_on words side number front) line ≡ Some next
      moved = sym (keyed_more words side number front line) ∙ after

      from_known : (k : Keyed) → keyed_on words side number front ≡ Some k → opens_at side number line ≡ false → IsTrue (front ++ line ∷ []) next
      from_known k found none =
          let true_before = before k found in record {
            known = number_stays number front (line ∷ []) link true_before.known;
            told = by (kind_of role side number line);
          }
        where
          counted : List Entry
          counted = lines_counted words role side number front

          told : IsTold role side number (lines_counted words role side number front) k
          told = (before k found).told

          -- in a line that counts
          counts : (l : Entry) → l ≡ line → is_ignored words role side number front l ≡ false → IsTold role side number (lines_counted words role side number front ++ l ∷ []) next
              → IsTold role side number (lines_counted words role side number (front ++ line ∷ [])) next
          counts l same heeded is_told =
              subst (λ (one : Entry). IsTold role side number (lines_counted words role side number (front ++ one ∷ [])) next) same
              (subst (λ (xs : List Entry). IsTold role side number xs next) (sym (counts_it words role side number front l heeded)) is_told)

          -- it takes a PDU with which it begins or ends to seal, and heeds it or not
          mark : (count llid : ℕ) (body : List ℕ) → line ≡ Took side number count llid body → is_procedure_pdu (record { llid = llid; body = body }) ≡ true
              → marks_with (class_of_pdu llid body) role ≡ true → (heeded : Bool)
              → heeds role (turn_now front) (read_of (record { llid = llid; body = body })) (Some k) ≡ heeded
              → IsTold role side number (lines_counted words role side number (front ++ line ∷ [])) next
          mark count llid body same procedure marks_it heeded is_heeded_so =
              by heeded is_heeded_so
            where
              own : Entry
              own = Took side number count llid body

              after_own : keyed_on words side number (front ++ Took side number count llid body ∷ []) ≡ Some next
              after_own = ap (λ l. keyed_on words side number (front ++ l ∷ [])) (sym same) ∙ after

              marked : marks_at role side number (Took side number count llid body) ≡ true
              marked = λ i. own_is words side number front i && (procedure i && marks_it i)

              ignored_as : (b : Bool) → heeds role (turn_now front) (read_of (record { llid = llid; body = body })) (Some k) ≡ b
                  → is_ignored words role side number front (Took side number count llid body) ≡ not b
              ignored_as b is_b = λ i. marked i && not ((ap (heeds role (turn_now front) (read_of (record { llid = llid; body = body }))) found ∙ is_b) i)

              by : (b : Bool) → heeds role (turn_now front) (read_of (record { llid = llid; body = body })) (Some k) ≡ b
                  → IsTold role side number (lines_counted words role side number (front ++ line ∷ [])) next
              by true is_b =
                  counts (Took side number count llid body) (sym same) (ignored_as true is_b)
                  (mark_line words side number front role (lines_counted words role side number front) count llid body k next found after_own told procedure marks_it is_b)
              by false is_b =
                  subst (λ (l : Entry). IsTold role side number (lines_counted words role side number (front ++ l ∷ [])) next) (sym same)
                  (subst (λ (xs : List Entry). IsTold role side number xs next) (sym (ignores_it words role side number front (Took side number count llid body) (ignored_as false is_b)))
                  (ignored_line words side number front role (lines_counted words role side number front) count llid body k next found after_own told procedure is_b))

          by : Kind role side number line → IsTold role side number (lines_counted words role side number (front ++ line ∷ [])) next
          by (OwnSent count llid body same) =
              counts (Sent side number count llid body) (sym same) refl
              (sent_line words side number front role (lines_counted words role side number front) count llid body k next found
              (ap (λ l. keyed_on words side number (front ++ l ∷ [])) (sym same) ∙ after) told)
          by (OwnMark count llid body same procedure marks_it) =
              mark count llid body same procedure marks_it (heeds role (turn_now front) (read_of (record { llid = llid; body = body })) (Some k)) refl
          by (IsPlain plain unmarked unsent) =
              counts line refl (ap (λ (b : Bool). b && not (is_heeded words role side number front line)) unmarked)
              (any_line words side number front role (lines_counted words role side number front) line k next
              (ap (λ found. keyed_in_line words side number front found line) (sym found) ∙ moved) told none plain unmarked unsent)

      line_true : IsTrue (front ++ line ∷ []) next
      line_true = by (opens_at side number line) refl
        where
          opened : IsOpening side number line → IsTrue (front ++ line ∷ []) next
          opened opening =
              subst (λ (l : Entry). IsTrue (front ++ l ∷ []) next) (sym opening.is)
              (opens_line front rest opening.handle opening.role next (is ∙ ap (λ l. front ++ l ∷ rest) opening.is)
              (ap (λ (b : Bool). if b then keyed_begun (most_received_on side front) side (link_numbered number front) else keyed_on words side number front) (sym (own_is words side number front))
              ∙ ap (λ l. keyed_in_line words side number front (keyed_on words side number front) l) (sym opening.is) ∙ moved))

          going : (found : Option Keyed) → keyed_on words side number front ≡ found → opens_at side number line ≡ false → IsTrue (front ++ line ∷ []) next
          going None none closed =
              absurd (let h : None ≡ Some next = sym (none_stays words side number front line closed)
              ∙ ap (λ found. keyed_in_line words side number front found line) (sym none) ∙ moved in cc)
          going (Some k) found closed = from_known k found closed

          by : (opens : Bool) → opens_at side number line ≡ opens → IsTrue (front ++ line ∷ []) next
          by true opens = opened (opening_is side number line opens)
          by false closed = going (keyed_on words side number front) refl closed

    all_true : (front rest : List Entry) → whole ≡ front ++ rest → IsTrueAt front → IsTrueAt whole
    all_true front [] is here = subst IsTrueAt (sym (is ∙ append-nil front)) here
    all_true front (line ∷ rest) is here =
        all_true (front ++ line ∷ []) rest (is ∙ sym (append_assoc front (line ∷ []) rest)) (λ next after. line_true front rest line is here next after)

    nothing_on : keyed_on words side number [] ≡ None
    unfolding keyed_on
    nothing_on = refl

    pub told_here : (k : Keyed) → keyed_on words side number whole ≡ Some k → IsTold role side number (lines_counted words role side number whole) k
    told_here k found = (all_true [] whole refl (λ one at_first. absurd (let h : None ≡ Some one = sym nothing_on ∙ at_first in cc)) k found).told

-- ---- the payload of a new PDU

payload_as : (role : Role) (side : Side) (number : ℕ) (front : List Entry) (k : Keyed) (pdu : Pdu) → IsTold role side number front k
    → payload_made k.end pdu ≡ payload_in_words role side number front k.end.key k.end.iv pdu
payload_as role side number front k pdu told =
    ap (λ (on : Bool). if is_empty pdu then pdu.body
    else (if on then sealed_payload k.end.key (nonce k.end.sent (is_central k.end.role) k.end.iv) (additional_data pdu.llid) pdu.body else pdu.body)) told.sealed
    ∙ by (is_empty pdu) (is_sealed role side number front) refl
  where
    by : (empty sealed : Bool) → is_sealed role side number front ≡ sealed
        → (if empty then pdu.body else (if sealed then sealed_payload k.end.key (nonce k.end.sent (is_central k.end.role) k.end.iv) (additional_data pdu.llid) pdu.body else pdu.body))
        ≡ (if empty || not sealed then pdu.body
        else sealed_payload k.end.key (nonce (sent_since role side number front) (is_central role) k.end.iv) (additional_data pdu.llid) pdu.body)
    by true sealed is = refl
    by false false is = refl
    by false true is = λ i. sealed_payload k.end.key (nonce (told.counted is i) (is_central (told.sound.here.role_too i)) k.end.iv) (additional_data pdu.llid) pdu.body

pub all_sealed : (words : Words) (journal : List Entry) → AllAreSealedInWords words journal
all_sealed words journal front rest side number count llid body link k at is_link found =
    payload_as (role_on link side) side number (lines_counted words (role_on link side) side number front) k (record { llid = llid; body = body })
    (told_here words side number link front is_link k found)
