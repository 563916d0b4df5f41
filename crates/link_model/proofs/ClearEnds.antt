-- An end at which no encryption begins has the session of the beginning, and sends each body as it is.
use Rattle.std.proofs.Common.{◌≡◌, ℕ, ◌&&◌, ◌||◌, Bool, true, false, List, [], ◌∷◌, ◌++◌, fold, Option, Some, None, is_none, refl, ap, sym, subst, ◌∙◌, if◌then◌else◌}
use Rattle.std.specs.List.{AllByRecursion}
use Rattle.std.proofs.lemmas.List.{take-append-drop}
use Rattle.ble_base.specs.declared.roles.Role.{Role}
use Rattle.phased_end.specs.control_end.control_model.Control.{Answers as control_answers, Asks as control_asks, Control, Disconnects as control_disconnects, Enters as control_enters, SeesAcknowledged as control_sees_acknowledged, Sends as control_sends, Takes as control_takes, after, first_control}
use Rattle.phased_end.specs.enc_phase.Sealing.{EncEnd, after_opening, clear_end, is_right}
use Rattle.phased_end.specs.enc_phase.declared.facts.PhaseFacts.TheVariants.{Clear}
use Rattle.phased_end.specs.phased_control.Phased.{Phased}
use Rattle.phased_end.specs.phased_control.Taken.{Answers as phased_answers, Asks as phased_asks, Disconnects as phased_disconnects, Sends as phased_sends, is_version, phased_moved}
use Rattle.phased_end.specs.keyed_control.Keyed.{Keyed, first_material}
use Rattle.phased_end.specs.keyed_control.KeyedSteps.{KeyedStep, Answers, Asks, Disconnects, Enters, GivesKey, LacksKey, Opens, Seals, SeesAcknowledged, Sends, Takes, TakesData, keyed_after, keyed_after_all}
use Rattle.unencrypted_ends.specs.Unencrypted.{IsUnencrypted, plain_phased}
use Rattle.unencrypted_ends.proofs.Going.{answers_goes, asks_goes, disconnects_goes, sends_goes}
use Rattle.unencrypted_ends.proofs.Staying.{begins_none as control_begins_none, stays}
use Rattle.link_model.specs.Setup.{Setup, first_anchor, first_params}
use Rattle.link_model.specs.Acknowledgement.{Pdu, is_acked}
use Rattle.link_model.specs.Controls.{goes_on, pdu_fixed}
use Rattle.link_model.specs.Data.{is_control, is_empty}
use Rattle.link_model.specs.End.{facts_after, facts_of}
use Rattle.link_model.specs.Facts.{Encryption, Facts, first_facts, keyed_of}
use Rattle.link_model.specs.Hosts.{is_to_come}
use Rattle.link_model.specs.KeyedSteps.{is_forged_in_step, keyed_steps_from, keyed_steps_in, keyed_steps_of}
use Rattle.link_model.specs.NoEncryption.{AllBeginNone, BeginsNone}
use Rattle.link_model.specs.Packets.{counts_here, good_pdu, is_forged, is_forged_in, payload_sent, pdu_sent, whole_pdu}
use Rattle.link_model.specs.Payload.{payload_made, read_pdu}
use Rattle.link_model.specs.Receiving.{facts_received}
use Rattle.link_model.specs.Sending.{control_gone_if, takes_leave}
use Rattle.link_model.specs.Step.{DataGiven, DataReported, Disconnected, EventEntered, KeyAnswered, PacketReceived, PacketSent, PduFixed, ProcedureAsked, RequestAnswered, Step, WordsGiven}
use Rattle.link_model.proofs.BodyPayloads.{IsBody, asked_same, body_stays, entered_same, fixed_same, forged_same, given_same, gone_same, received_body, sent_body}
use Rattle.link_model.proofs.ClearSteps.{acknowledged, data_leaves, enters, key_leaves, no_key_leaves, no_request, plain_keyed, supported, takes}
use Rattle.link_model.proofs.KeyedSteps.{gone_encryption, one_step}

-- such an end with its keys
record IsClear (role : Role) (k : Keyed) : Type 0 where
  control : Control
  knows : Bool
  is : k ≡ plain_keyed role control knows
  none : IsUnencrypted control

-- ---- each step

-- a step of its control part alone
abbrev clear_keyed : Role → Phased → Keyed
clear_keyed role s = record { phased = s; material = first_material; end = clear_end role Clear }

lifted : (b : Bool) (role : Role) (s later next : Phased) → (if b then later else s) ≡ next
    → (if b then clear_keyed role later else clear_keyed role s) ≡ clear_keyed role next
lifted true role s later next is = ap (clear_keyed role) is
lifted false role s later next is = ap (clear_keyed role) is

module _ (role : Role) (c : Control) (knows : Bool) (none : IsUnencrypted c) where
  abbrev s : Phased
  s = plain_phased c knows

  opens : (right : Bool)
      → IsClear role (record (plain_keyed role c knows) {
        end = (if right then after_opening (clear_end role Clear) else clear_end role Clear);
      })
  opens true = record { control = c; knows = knows; is = refl; none = none }
  opens false = record { control = c; knows = knows; is = refl; none = none }

  each : (step : KeyedStep) → BeginsNone step → IsClear role (keyed_after step (plain_keyed role c knows))
  each (Enters slot) is =
      record {
        control = after (control_enters slot true) c;
        knows = knows;
        is = enters role c knows slot none;
        none = stays c (control_enters slot true) none refl;
      }
  each (Asks ask) is =
      record {
        control = after (control_asks ask) c;
        knows = knows;
        is =
            lifted (is_none c.ends) role s (phased_moved (phased_asks ask) s)
            (plain_phased (after (control_asks ask) c) knows) (asks_goes c knows ask);
        none = stays c (control_asks ask) none is;
      }
  each (Answers answer) is =
      record {
        control = after (control_answers answer) c;
        knows = knows;
        is =
            lifted (is_none c.ends) role s (phased_moved (phased_answers answer) s)
            (plain_phased (after (control_answers answer) c) knows) (answers_goes c knows answer);
        none = stays c (control_answers answer) none refl;
      }
  each (GivesKey ltk) is = record { control = c; knows = knows; is = key_leaves role c knows ltk; none = none }
  each LacksKey is = record { control = c; knows = knows; is = no_key_leaves role c knows; none = none }
  each (Disconnects reason) is =
      record {
        control = after (control_disconnects reason) c;
        knows = knows;
        is =
            lifted (is_none c.ends) role s (phased_moved (phased_disconnects reason) s)
            (plain_phased (after (control_disconnects reason) c) knows) (disconnects_goes c knows reason);
        none = stays c (control_disconnects reason) none refl;
      }
  each (Sends slot) is =
      record {
        control = after (control_sends slot true) c;
        knows = knows;
        is =
            lifted (is_none c.ends) role s (phased_moved (phased_sends slot) s)
            (plain_phased (after (control_sends slot true) c) knows) (sends_goes c knows slot);
        none = stays c (control_sends slot true) none refl;
      }
  each SeesAcknowledged is =
      record {
        control = after control_sees_acknowledged c;
        knows = knows;
        is = acknowledged role c knows;
        none = stays c control_sees_acknowledged none refl;
      }
  each (Takes read slot response) is =
      record {
        control = after (control_takes read slot true) c;
        knows = knows || (is_none c.ends && is_version read);
        is = takes role c knows read slot response (supported read is) (no_request read is);
        none = stays c (control_takes read slot true) none is;
      }
  each TakesData is = record { control = c; knows = knows; is = data_leaves role c knows; none = none }
  each (Seals header body) is = record { control = c; knows = knows; is = refl; none = none }
  each (Opens header payload) is = opens (is_right (clear_end role Clear) header payload)

module _ (role : Role) where
  leaves : (step : KeyedStep) (k : Keyed) → BeginsNone step → IsClear role k → IsClear role (keyed_after step k)
  leaves step k is clear =
      subst (λ x. IsClear role (keyed_after step x)) (sym clear.is)
      (each role clear.control clear.knows clear.none step is)

  all_leave : (steps : List KeyedStep) (k : Keyed) → AllByRecursion BeginsNone steps → IsClear role k
      → IsClear role (keyed_after_all steps k)
  all_leave [] k all clear = clear
  all_leave (step ∷ steps) k all clear = all_leave steps (keyed_after step k) all.1 (leaves step k all.0 clear)

parted : (steps more : List KeyedStep) → AllByRecursion BeginsNone (steps ++ more)
    → AllByRecursion BeginsNone steps × AllByRecursion BeginsNone more
parted [] more all = (tt, all)
parted (step ∷ steps) more all = let rest = parted steps more all.1 in ((all.0, rest.0), rest.1)

-- ---- no packet is forged

read_clear : (counts : Bool) (role : Role) (pdu : List ℕ) → read_pdu counts (clear_end role Clear) pdu ≡ Some pdu
read_clear true role pdu = ap (λ octets. Some octets) (take-append-drop 2 pdu)
read_clear false role pdu = refl

forged_in : (role : Role) (facts : Facts) (pdu : Option (List ℕ)) → facts.encryption.end ≡ clear_end role Clear
    → is_forged_in facts pdu ≡ false
forged_in role facts None is = refl
forged_in role facts (Some pdu) is =
    ap (λ (read : Option (List ℕ)). is_none read)
    (ap (λ (e : EncEnd). read_pdu (counts_here facts pdu) e pdu) is ∙ read_clear (counts_here facts pdu) role pdu)

not_forged : (setup : Setup) (facts : Facts) (octets : List ℕ) → facts.encryption.end ≡ clear_end setup.link.role Clear
    → is_forged setup facts octets ≡ false
unfolding is_forged
not_forged setup facts octets is = forged_in setup.link.role facts (whole_pdu setup facts octets) is

unforged : (setup : Setup) (facts : Facts) (step : Step) → facts.encryption.end ≡ clear_end setup.link.role Clear
    → is_forged_in_step setup facts step ≡ false
unforged setup facts (PacketReceived slot octets room) is = not_forged setup facts octets is
unforged setup facts step is = refl

-- ---- the payload is the body

either_body : (b : Bool) (body : List ℕ) → (if b then body else body) ≡ body
either_body true body = refl
either_body false body = refl

made_clear : (role : Role) (end : EncEnd) (pdu : Pdu) → end ≡ clear_end role Clear → payload_made end pdu ≡ pdu.body
made_clear role end pdu is = ap (λ (e : EncEnd). payload_made e pdu) is ∙ either_body (is_empty pdu) pdu.body

step_body : (setup : Setup) (facts : Facts) (step : Step) → facts.encryption.end ≡ clear_end setup.link.role Clear
    → IsBody facts
    → IsBody (facts_after setup facts step)
step_body setup facts (DataGiven start body) clear is =
    record { kept = given_same setup.link.handle start body facts.outgoing ∙ is.kept }
step_body setup facts (ProcedureAsked ask) clear is =
    body_stays facts _ (asked_same (is_to_come ask facts) ask facts) is
step_body setup facts (RequestAnswered answer) clear is = record { kept = is.kept }
step_body setup facts (KeyAnswered key slot) clear is = record { kept = is.kept }
step_body setup facts (Disconnected reason slot) clear is = record { kept = is.kept }
step_body setup facts (EventEntered slot) clear is =
    body_stays facts _ (entered_same (goes_on facts) setup slot facts) is
step_body setup facts PduFixed clear is =
    body_stays facts _ (fixed_same (is_control facts.outgoing.fixed) facts) is
step_body setup facts (PacketSent slot) clear is =
    let now = control_gone_if (takes_leave facts) slot facts in
    let end : now.encryption.end ≡ clear_end setup.link.role Clear =
    ap (λ (e : Encryption). e.end) (gone_encryption (takes_leave facts) slot facts) ∙ clear in
    sent_body slot now (made_clear setup.link.role now.encryption.end now.outgoing.fixed end)
    (body_stays facts now (gone_same (takes_leave facts) slot facts) is)
step_body setup facts (WordsGiven skd_s iv_s) clear is = record { kept = is.kept }
step_body setup facts (PacketReceived slot octets room) clear is =
    let later = facts_received setup.link.role slot room (good_pdu setup facts octets) facts in
    body_stays later (facts_after setup facts (PacketReceived slot octets room))
    (forged_same (is_forged setup facts octets) later)
    (received_body setup.link.role slot room (good_pdu setup facts octets) facts is)
step_body setup facts DataReported clear is = record { kept = is.kept }

-- ---- every past

module _ (setup : Setup) where
  record IsClearEnd (facts : Facts) : Type 0 where
    keyed : IsClear setup.link.role (keyed_of facts)
    body : IsBody facts

  session : (facts : Facts) → IsClearEnd facts → facts.encryption.end ≡ clear_end setup.link.role Clear
  session facts clear = ap (λ (k : Keyed). k.end) clear.keyed.is

  further : (facts : Facts) (step : Step) → AllByRecursion BeginsNone (keyed_steps_in setup facts step)
      → IsClearEnd facts
      → IsClearEnd (facts_after setup facts step)
  further facts step none clear =
      let phase =
      ap (λ (k : Keyed). k.end.phase) clear.keyed.is
      ∙ sym (ap (λ (k : Keyed). k.phased.phase) clear.keyed.is) in
      record {
        keyed =
            subst (IsClear setup.link.role)
            (sym (one_step setup facts step phase (unforged setup facts step (session facts clear))))
            (all_leave setup.link.role (keyed_steps_in setup facts step) (keyed_of facts) none clear.keyed);
        body = step_body setup facts step (session facts clear) clear.body;
      }

  all_further : (facts : Facts) (past : List Step) → AllByRecursion BeginsNone (keyed_steps_from setup facts past)
      → IsClearEnd facts
      → IsClearEnd (fold (facts_after setup) facts past)
  all_further facts [] none clear = clear
  all_further facts (step ∷ past) none clear =
      let next = facts_after setup facts step in
      let parts = parted (keyed_steps_in setup facts step) (keyed_steps_from setup next past) none in
      all_further next past parts.1 (further facts step parts.0 clear)

  first_clear : IsClearEnd (first_facts setup)
  first_clear =
      let role = setup.link.role in
      let params = first_params setup.link.fields in
      record {
        keyed =
            record {
              control = first_control role setup.link.max_rx params (first_anchor setup);
              knows = false;
              is = refl;
              none = control_begins_none role setup.link.max_rx params (first_anchor setup);
            };
        body = record { kept = refl };
      }

  past_clear : (past : List Step) → AllBeginNone setup past → IsClearEnd (facts_of setup past)
  unfolding facts_of keyed_steps_of
  past_clear past none = all_further (first_facts setup) past none first_clear

  pub past_session : (past : List Step) → AllBeginNone setup past
      → (facts_of setup past).encryption.end ≡ clear_end setup.link.role Clear
  past_session past none = session (facts_of setup past) (past_clear past none)

  pub past_unforged : (past : List Step) (octets : List ℕ) → AllBeginNone setup past
      → is_forged setup (facts_of setup past) octets ≡ false
  past_unforged past octets none = not_forged setup (facts_of setup past) octets (past_session past none)

  pub past_payload : (past : List Step) → AllBeginNone setup past
      → payload_sent (facts_of setup past) ≡ (pdu_sent (facts_of setup past)).body
  past_payload past none = by (is_acked facts.acknowledgement)
    where
      facts : Facts
      facts = facts_of setup past

      by : (acked : Bool)
          → (if acked then payload_made facts.encryption.end (pdu_fixed facts) else facts.outgoing.payload)
          ≡ (if acked then pdu_fixed facts else facts.acknowledgement.last).body
      by true = made_clear setup.link.role facts.encryption.end (pdu_fixed facts) (past_session past none)
      by false = (past_clear past none).body.kept
