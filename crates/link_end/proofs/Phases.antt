-- Whatever happens to an end, its session is in the phase of its procedures, for both go by keyed steps until the end ends
-- the link.
use Rattle.std.proofs.Common.{◌≡◌, ℕ, Bool, true, false, ◌||◌, if◌then◌else◌, List, [], ◌∷◌, ◌++◌, fold, ◌&&◌, Option, Some, None, Result, is_none, refl, sym, ap, subst, ◌∙◌}
use Rattle.ble_base.specs.ErrorCodes.{mic_failure}
use Rattle.ble_base.specs.declared.error_codes.ErrCode.{ErrCode}
use Rattle.data_pdu.specs.declared.header.DataHeader.{DataHeader}
use Rattle.data_pdu.specs.Header.{header_in}
use Rattle.control_end.specs.control_model.Control.{Control, Answers as control_answers, Asks as control_asks, Disconnects as control_disconnects, Sends as control_sends, ended, moved}
use Rattle.procedures.specs.procedure_values.declared.asks.Ask.{Ask}
use Rattle.keyed_control.specs.declared.material.KeyMaterial.{KeyMaterial}
use Rattle.keyed_control.specs.Keyed.{Keyed, first_keyed, session_of}
use Rattle.keyed_control.specs.KeyedSteps.{KeyedStep, Answers, Asks, Disconnects, Enters, GivesKey, LacksKey, Opens, Seals, SeesAcknowledged, Sends, Takes, TakesData, end_changed, end_opening, is_of_session, keyed_after, keyed_after_all, keyed_moved, phased_step}
use Rattle.keyed_control.specs.enc_phase.declared.facts.PhaseFacts.{PhaseFacts}
use Rattle.keyed_control.specs.enc_phase.declared.facts.Transition.TheVariants.{Ask as ask_transition, Confirm, Pause, Refuse, Unlock}
use Rattle.keyed_control.specs.enc_phase.Phases.{is_asked, phase_after, phase_starting}
use Rattle.keyed_control.specs.enc_phase.Sealing.{EncEnd, after_opening, after_start, is_right}
use Rattle.keyed_control.specs.enc_phase.Taking.{phase_taking}
use Rattle.keyed_control.specs.phased_control.PhaseChanges.{Change, Moves, Starts, Stays, Took, change_of}
use Rattle.keyed_control.specs.phased_control.Phased.{Phased}
use Rattle.keyed_control.specs.phased_control.Taken.{PhasedStep, Enters as phased_enters, GivesKey as phased_gives_key, LacksKey as phased_lacks_key, SeesAcknowledged as phased_sees_acknowledged, Takes as phased_takes}
use Rattle.keyed_control.proofs.Phases.{after_one, phase_now, phased_once}
use Rattle.keyed_control.proofs.phased_control.Moving.{same_after}
use Rattle.link_model.specs.phased_end.Taking.{drawn}
use Rattle.link_model.specs.Setup.{Setup, first_anchor, first_params}
use Rattle.link_model.specs.Acknowledgement.{Pdu, is_acked}
use Rattle.link_model.specs.Data.{is_control, is_data}
use Rattle.link_model.specs.Payload.{end_accepting, end_sending}
use Rattle.link_model.specs.Verdicts.{pdu_of}
use Rattle.link_model.specs.Facts.{Encryption, Facts, first_facts, keyed_of, keyed_with}
use Rattle.link_model.specs.Controls.{goes_on, is_procedure_pdu, is_quiet_now, read_of}
use Rattle.link_model.specs.Step.{Step, DataGiven, DataReported, Disconnected, EventEntered, KeyAnswered, PacketReceived, PacketSent, PduFixed, ProcedureAsked, RequestAnswered, WordsGiven}
use Rattle.link_model.specs.Entering.{facts_entered_if}
use Rattle.link_model.specs.Fixing.{fixed_anew}
use Rattle.link_model.specs.Hosts.{asked, asked_unless, facts_answered, facts_disconnected, is_to_come, key_step}
use Rattle.link_model.specs.Packets.{good_pdu, is_forged}
use Rattle.link_model.specs.Sending.{control_gone, control_gone_if, fixed_sent, seals_new, takes_leave}
use Rattle.link_model.specs.Receiving.{accepted_if, accepts, acknowledged_if, acks_control, answers_with_control, counts_accepted, data_taken_if, facts_before_taking, facts_forged_if, facts_received, has_acknowledged, heard_in_slot, keyed_acked_if, procedures_take_if}
use Rattle.link_model.specs.End.{facts_after, facts_of}

-- ---- steps of an end with its keys

changed_same : (change : Change) (m n : KeyMaterial) (e f : EncEnd) → e.phase ≡ f.phase → (end_changed change m e).phase ≡ (end_changed change n f).phase
changed_same Stays m n e f same = same
changed_same (Took pdu) m n e f same = ap (phase_taking pdu) same
changed_same Starts m n e f same = started m e ∙ ap starts same ∙ sym (started n f)
  where
    starts : PhaseFacts → PhaseFacts
    starts p = if is_asked p then phase_starting p else p

    started : (m : KeyMaterial) (e : EncEnd) → (end_changed Starts m e).phase ≡ starts e.phase
    started m e = by (is_asked e.phase)
      where
        by : (b : Bool) → (if b then after_start (session_of m) e else e).phase ≡ (if b then phase_starting e.phase else e.phase)
        by true = refl
        by false = refl
changed_same (Moves ask_transition) m n e f same = ap (phase_after ask_transition) same
changed_same (Moves Refuse) m n e f same = ap (phase_after Refuse) same
changed_same (Moves Confirm) m n e f same = ap (phase_after Confirm) same
changed_same (Moves Pause) m n e f same = ap (phase_after Pause) same
changed_same (Moves Unlock) m n e f same = ap (phase_after Unlock) same

opening_same : (header : ℕ) (payload : List ℕ) (e : EncEnd) → (end_opening header payload e).phase ≡ e.phase
opening_same header payload e = by (is_right e header payload)
  where
    by : (b : Bool) → (if b then after_opening e else e).phase ≡ e.phase
    by true = refl
    by false = refl

-- two ends that differ in their keys and counters alone
abbrev with_keys : Phased → KeyMaterial → EncEnd → Keyed
with_keys s m e = record { phased = s; material = m; end = e }

moved_same : (step : KeyedStep) (s : Phased) (m n : KeyMaterial) (e f : EncEnd) → e.phase ≡ f.phase
    → (keyed_moved step (with_keys s m e)).end.phase ≡ (keyed_moved step (with_keys s n f)).end.phase
moved_same (Enters slot) s m n e f same = changed_same (change_of (phased_enters slot) s) _ _ e f same
moved_same (Asks ask) s m n e f same = same
moved_same (Answers answer) s m n e f same = same
moved_same (GivesKey ltk) s m n e f same = changed_same (change_of phased_gives_key s) _ _ e f same
moved_same LacksKey s m n e f same = changed_same (change_of phased_lacks_key s) _ _ e f same
moved_same (Disconnects reason) s m n e f same = same
moved_same (Sends slot) s m n e f same = same
moved_same SeesAcknowledged s m n e f same = changed_same (change_of phased_sees_acknowledged s) _ _ e f same
moved_same (Takes read slot response) s m n e f same = changed_same (change_of (phased_takes read slot response) s) _ _ e f same
moved_same TakesData s m n e f same = same
moved_same (Seals header body) s m n e f same = same
moved_same (Opens header payload) s m n e f same = opening_same header payload e ∙ same ∙ sym (opening_same header payload f)

after_same : (step : KeyedStep) (s t : Phased) (m n : KeyMaterial) (e f : EncEnd) → s ≡ t → e.phase ≡ f.phase
    → (keyed_after step (with_keys s m e)).end.phase ≡ (keyed_after step (with_keys t n f)).end.phase
after_same step s t m n e f is same =
    subst (λ (u : Phased). (keyed_after step (with_keys s m e)).end.phase ≡ (keyed_after step (with_keys u n f)).end.phase) is
    (by (is_of_session step || is_none s.control.ends))
  where
    by : (b : Bool) → (if b then keyed_moved step (with_keys s m e) else with_keys s m e).end.phase
        ≡ (if b then keyed_moved step (with_keys s n f) else with_keys s n f).end.phase
    by true = moved_same step s m n e f same
    by false = same

pub phased_same : (step : KeyedStep) (k l : Keyed) → k.phased ≡ l.phased → (keyed_after step k).phased ≡ (keyed_after step l).phased
phased_same step k l same = phased_once step k ∙ ap (after_one (phased_step step)) same ∙ sym (phased_once step l)

over : (step : KeyedStep) (k : Keyed) (code : ErrCode) → k.phased.control.ends ≡ Some code → is_of_session step ≡ false
    → k.end.phase ≡ k.phased.phase → (keyed_after step k).end.phase ≡ (keyed_after step k).phased.phase
over step k code is other same =
    subst (λ (b : Bool). (if b then keyed_moved step k else k).end.phase ≡ (if b then keyed_moved step k else k).phased.phase)
    (sym ((λ i. other i || is_none (is i)))) same

some_none : {code : ErrCode} → ◌≡◌ {A = Option ErrCode} (Some code) None → ⊥
some_none h = absurd cc

stays_at : (step : KeyedStep) (k : Keyed) (code : ErrCode) → k.phased.control.ends ≡ Some code → (keyed_after step k).phased ≡ k.phased
stays_at step k code is = phased_once step k ∙ by (phased_step step)
  where
    by : (p : Option PhasedStep) → after_one p k.phased ≡ k.phased
    by None = refl
    by (Some p) = same_after p k.phased code is

-- an end that ended the link does not change, but for its counters
stays_over : (step : KeyedStep) (k : Keyed) (code : ErrCode) → k.phased.control.ends ≡ Some code
    → (k.end.phase ≡ k.phased.phase) → (keyed_after step k).end.phase ≡ (keyed_after step k).phased.phase
stays_over (Seals header body) k code is same = same
stays_over (Opens header payload) k code is same = opening_same header payload k.end ∙ same
stays_over (Enters slot) k code is same = over (Enters slot) k code is refl same
stays_over (Asks ask) k code is same = over (Asks ask) k code is refl same
stays_over (Answers answer) k code is same = over (Answers answer) k code is refl same
stays_over (GivesKey ltk) k code is same = over (GivesKey ltk) k code is refl same
stays_over LacksKey k code is same = over LacksKey k code is refl same
stays_over (Disconnects reason) k code is same = over (Disconnects reason) k code is refl same
stays_over (Sends slot) k code is same = over (Sends slot) k code is refl same
stays_over SeesAcknowledged k code is same = over SeesAcknowledged k code is refl same
stays_over (Takes read slot response) k code is same = over (Takes read slot response) k code is refl same
stays_over TakesData k code is same = over TakesData k code is refl same

-- ---- an end that comes by such steps

module _ (setup : Setup) where
  abbrev after_steps : List KeyedStep → Keyed
  after_steps steps =
      keyed_after_all steps (first_keyed setup.link.role setup.link.max_rx (first_params setup.link.fields) (first_anchor setup))

  -- its procedures and its phase are those after some steps
  pub record AtSteps (k : Keyed) : Type 0 where
    pub steps : List KeyedStep
    pub phased : k.phased ≡ (after_steps steps).phased
    pub phase : k.end.phase ≡ (after_steps steps).end.phase

  pub record IsKeyed (k : Keyed) : Type 0 where
    pub phase : k.end.phase ≡ k.phased.phase
    pub live : k.phased.control.ends ≡ None → AtSteps k

  all_joined : (xs : List KeyedStep) (step : KeyedStep) (k : Keyed) → keyed_after_all (xs ++ step ∷ []) k ≡ keyed_after step (keyed_after_all xs k)
  all_joined [] step k = refl
  all_joined (x ∷ xs) step k = all_joined xs step (keyed_after x k)

  at_phase : (k : Keyed) → AtSteps k → k.end.phase ≡ k.phased.phase
  at_phase k at =
      at.phase ∙ phase_now setup.link.role setup.link.max_rx (first_params setup.link.fields) (first_anchor setup) at.steps
      ∙ sym (ap (λ (s : Phased). s.phase) at.phased)

  one_more : (step : KeyedStep) (k : Keyed) → AtSteps k → AtSteps (keyed_after step k)
  one_more step k at =
      let l = after_steps at.steps in
      let joined = sym (all_joined at.steps step (first_keyed setup.link.role setup.link.max_rx (first_params setup.link.fields) (first_anchor setup))) in
      record {
        steps = at.steps ++ step ∷ [];
        phased = phased_same step k l at.phased ∙ ap (λ (k : Keyed). k.phased) joined;
        phase =
            after_same step k.phased l.phased k.material l.material k.end l.end at.phased at.phase
            ∙ ap (λ (k : Keyed). k.end.phase) joined;
      }

  pub stays_keyed : (step : KeyedStep) (k : Keyed) → IsKeyed k → IsKeyed (keyed_after step k)
  stays_keyed step k is = by k.phased.control.ends refl
    where
      by : (ends : Option ErrCode) → k.phased.control.ends ≡ ends → IsKeyed (keyed_after step k)
      by None e =
          let at = one_more step k (is.live e) in
          record { phase = at_phase (keyed_after step k) at; live = λ lasts. at }
      by (Some code) e =
          record {
            phase = stays_over step k code e is.phase;
            live = λ lasts. absurd (some_none (sym e ∙ sym (ap (λ (s : Phased). s.control.ends) (stays_at step k code e)) ∙ lasts));
          }

  -- the counters do not matter
  pub counted_keyed : (k : Keyed) (e : EncEnd) → e.phase ≡ k.end.phase → IsKeyed k → IsKeyed (record k { end = e })
  counted_keyed k e same is =
      record {
        phase = same ∙ is.phase;
        live = λ lasts. let at = is.live lasts in record { steps = at.steps; phased = at.phased; phase = same ∙ at.phase };
      }

  -- an end that ended the link
  ended_keyed : (s : Phased) (m : KeyMaterial) (e : EncEnd) (code : ErrCode) → e.phase ≡ s.phase
      → IsKeyed (with_keys (record s { control = ended code s.control }) m e)
  ended_keyed s m e code same = record { phase = same; live = λ lasts. absurd (some_none lasts) }

-- ---- the steps of its link

-- an end whose procedures go by one step of theirs alone
control_as : (b : Bool) (m c : Control) (e : Encryption)
    → keyed_with (if b then m else c) e ≡ (if b then keyed_with (if b then m else c) e else keyed_with c e)
control_as true m c e = refl
control_as false m c e = refl

pub asks_keyed : (ask : Ask) (facts : Facts) → keyed_of (asked ask facts) ≡ keyed_after (Asks ask) (keyed_of facts)
asks_keyed ask facts = control_as (is_none facts.control.ends) (moved (control_asks ask) facts.control) facts.control facts.encryption

pub answers_keyed : (answer : Result Ask ErrCode) (facts : Facts)
    → keyed_of (facts_answered answer facts) ≡ keyed_after (Answers answer) (keyed_of facts)
answers_keyed answer facts =
    control_as (is_none facts.control.ends) (moved (control_answers answer) facts.control) facts.control facts.encryption

pub disconnects_keyed : (reason : ErrCode) (slot : ℕ) (facts : Facts)
    → keyed_of (facts_disconnected reason slot facts) ≡ keyed_after (Disconnects reason) (keyed_of facts)
disconnects_keyed reason slot facts =
    control_as (is_none facts.control.ends) (moved (control_disconnects reason) facts.control) facts.control facts.encryption

pub gone_keyed : (slot : ℕ) (facts : Facts) → keyed_of (control_gone slot facts) ≡ keyed_after (Sends slot) (keyed_of facts)
gone_keyed slot facts =
    control_as (is_none facts.control.ends) (moved (control_sends slot (is_quiet_now facts)) facts.control) facts.control facts.encryption

module _ (setup : Setup) where
  -- the procedures, the phase and the keys of an end come by keyed steps
  abbrev pub Agrees : Facts → Type 0
  Agrees facts = IsKeyed setup (keyed_of facts)

  as_step : (step : KeyedStep) (facts : Facts) (k : Keyed) → k ≡ keyed_after step (keyed_of facts) → Agrees facts → IsKeyed setup k
  as_step step facts k is agrees = subst (IsKeyed setup) (sym is) (stays_keyed setup step (keyed_of facts) agrees)

  asked_agrees : (comes : Bool) (ask : Ask) (facts : Facts) → Agrees facts → Agrees (asked_unless comes ask facts)
  asked_agrees true ask facts agrees = agrees
  asked_agrees false ask facts agrees = as_step (Asks ask) facts (keyed_of (asked ask facts)) (asks_keyed ask facts) agrees

  entered_agrees : (goes : Bool) (slot : ℕ) (facts : Facts) → Agrees facts → Agrees (facts_entered_if goes setup slot facts)
  entered_agrees true slot facts agrees = stays_keyed setup (Enters slot) (keyed_of facts) agrees
  entered_agrees false slot facts agrees = agrees

  fixed_agrees : (stays : Bool) (facts : Facts) → Agrees facts → Agrees (if stays then facts else fixed_anew facts)
  fixed_agrees true facts agrees = agrees
  fixed_agrees false facts agrees = agrees

  pub gone_agrees : (goes : Bool) (slot : ℕ) (facts : Facts) → Agrees facts → Agrees (control_gone_if goes slot facts)
  gone_agrees true slot facts agrees = as_step (Sends slot) facts (keyed_of (control_gone slot facts)) (gone_keyed slot facts) agrees
  gone_agrees false slot facts agrees = agrees

  same_sending : (counts : Bool) (e : EncEnd) → (end_sending counts e).phase ≡ e.phase
  same_sending true e = refl
  same_sending false e = refl

  same_accepting : (counts : Bool) (e : EncEnd) → (end_accepting counts e).phase ≡ e.phase
  same_accepting true e = refl
  same_accepting false e = refl

  sent_agrees : (slot : ℕ) (facts : Facts) → Agrees facts → Agrees (fixed_sent slot facts)
  sent_agrees slot facts agrees =
      let counts = seals_new (is_acked facts.acknowledgement) facts.outgoing.fixed in
      counted_keyed setup (keyed_of facts) (end_sending counts facts.encryption.end) (same_sending counts facts.encryption.end) agrees

  -- ---- a packet is received, part by part

  acked_keyed : (acked : Bool) (k : Keyed) → IsKeyed setup k → IsKeyed setup (keyed_acked_if acked k)
  acked_keyed true k is = stays_keyed setup SeesAcknowledged k is
  acked_keyed false k is = is

  pub heard_agrees : (slot : ℕ) (header : DataHeader) (facts : Facts) → Agrees facts
      → Agrees (acknowledged_if (has_acknowledged facts header) (heard_in_slot slot header.md facts))
  heard_agrees slot header facts agrees =
      acked_keyed (acks_control (has_acknowledged facts header) facts) (keyed_of facts) agrees

  pub before_agrees : (slot : ℕ) (header : DataHeader) (facts : Facts) → Agrees facts
      → Agrees (facts_before_taking setup.link.role slot header facts)
  before_agrees slot header facts agrees =
      let own = acknowledged_if (has_acknowledged facts header) (heard_in_slot slot header.md facts) in
      gone_agrees (answers_with_control setup.link.role own) slot own (heard_agrees slot header facts agrees)

  pub counting_agrees : (counts : Bool) (facts : Facts) → Agrees facts
      → IsKeyed setup (record (keyed_of facts) { end = end_accepting counts facts.encryption.end })
  counting_agrees counts facts agrees =
      counted_keyed setup (keyed_of facts) (end_accepting counts facts.encryption.end) (same_accepting counts facts.encryption.end) agrees

  pub accepted_agrees : (accepted : Bool) (pdu : Pdu) (facts : Facts) → Agrees facts → Agrees (accepted_if accepted pdu facts)
  accepted_agrees accepted pdu facts agrees = counting_agrees (counts_accepted accepted pdu) facts agrees

  pub given_agrees : (takes : Bool) (pdu : Pdu) (slot : ℕ) (facts : Facts) → Agrees facts → Agrees (procedures_take_if takes pdu slot facts)
  given_agrees true pdu slot facts agrees =
      stays_keyed setup (Takes (read_of pdu) slot (drawn facts.encryption.response)) (keyed_of facts) agrees
  given_agrees false pdu slot facts agrees = agrees

  data_agrees : (takes : Bool) (facts : Facts) → Agrees facts → Agrees (data_taken_if takes facts)
  data_agrees true facts agrees = stays_keyed setup TakesData (keyed_of facts) agrees
  data_agrees false facts agrees = agrees

  received_agrees : (slot : ℕ) (room : Bool) (pdu : Option (List ℕ)) (facts : Facts) → Agrees facts
      → Agrees (facts_received setup.link.role slot room pdu facts)
  received_agrees slot room None facts agrees = agrees
  received_agrees slot room (Some octets) facts agrees =
      let pdu = pdu_of octets in
      let now = facts_before_taking setup.link.role slot (header_in octets) facts in
      let accepted = accepts room (header_in octets) pdu now in
      let before = before_agrees slot (header_in octets) facts agrees in
      data_agrees (accepted && is_data pdu) (procedures_take_if (accepted && is_procedure_pdu pdu) pdu slot (accepted_if accepted pdu now))
      (given_agrees (accepted && is_procedure_pdu pdu) pdu slot (accepted_if accepted pdu now) (accepted_agrees accepted pdu now before))

  forged_agrees : (forged : Bool) (facts : Facts) → Agrees facts → Agrees (facts_forged_if forged facts)
  forged_agrees false facts agrees = agrees
  forged_agrees true facts agrees = by (is_none facts.control.ends)
    where
      k : Keyed
      k = keyed_of facts

      by : (b : Bool)
          → IsKeyed setup (keyed_with (if b then ended (record { 0 = mic_failure }) facts.control else facts.control) facts.encryption)
      by true = ended_keyed setup k.phased k.material k.end (record { 0 = mic_failure }) agrees.phase
      by false = agrees

  -- ---- every step

  step_agrees : (step : Step) (facts : Facts) → Agrees facts → Agrees (facts_after setup facts step)
  step_agrees (DataGiven start body) facts agrees = agrees
  step_agrees (ProcedureAsked ask) facts agrees = asked_agrees (is_to_come ask facts) ask facts agrees
  step_agrees (RequestAnswered answer) facts agrees =
      as_step (Answers answer) facts (keyed_of (facts_answered answer facts)) (answers_keyed answer facts) agrees
  step_agrees (KeyAnswered key slot) facts agrees = stays_keyed setup (key_step key) (keyed_of facts) agrees
  step_agrees (Disconnected reason slot) facts agrees =
      as_step (Disconnects reason) facts (keyed_of (facts_disconnected reason slot facts)) (disconnects_keyed reason slot facts) agrees
  step_agrees (EventEntered slot) facts agrees = entered_agrees (goes_on facts) slot facts agrees
  step_agrees PduFixed facts agrees = fixed_agrees (is_control facts.outgoing.fixed) facts agrees
  step_agrees (PacketSent slot) facts agrees =
      sent_agrees slot (control_gone_if (takes_leave facts) slot facts) (gone_agrees (takes_leave facts) slot facts agrees)
  step_agrees (WordsGiven skd_s iv_s) facts agrees = agrees
  step_agrees (PacketReceived slot octets room) facts agrees =
      let pdu = good_pdu setup facts octets in
      forged_agrees (is_forged setup facts octets) (facts_received setup.link.role slot room pdu facts)
      (received_agrees slot room pdu facts agrees)
  step_agrees DataReported facts agrees = agrees

  first_agrees : Agrees (first_facts setup)
  first_agrees = record { phase = refl; live = λ lasts. record { steps = []; phased = refl; phase = refl } }

  all_agree : (past : List Step) (facts : Facts) → Agrees facts → Agrees (fold (facts_after setup) facts past)
  all_agree [] facts agrees = agrees
  all_agree (step ∷ past) facts agrees = all_agree past (facts_after setup facts step) (step_agrees step facts agrees)

  pub past_agrees : (past : List Step) → Agrees (facts_of setup past)
  unfolding facts_of
  past_agrees past = all_agree past (first_facts setup) first_agrees

-- the phase of the session is that of the procedures
pub past_phase : (setup : Setup) (past : List Step) → let facts = facts_of setup past in facts.encryption.end.phase ≡ facts.encryption.phase
past_phase setup past = (past_agrees setup past).phase
