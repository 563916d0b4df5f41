-- What the steps of a central leave of the indications that it owes.
use Rattle.std.proofs.Common.{◌≡◌, ℕ, ◌&&◌, not, Bool, true, false, List, [], ◌∷◌, ◌++◌, drop, fold, Option, Some, None, refl, ap, sym, subst, ◌∙◌}
use Rattle.std.specs.Prelude.{◌==◌}
use Rattle.std.specs.List.{AllByRecursion, list_any}
use Rattle.std.proofs.lemmas.Bool.{and_parts, or_parts}
use Rattle.std.proofs.lemmas.List.Folds.{list_any-append}
use Rattle.ble_base.specs.declared.roles.Role.TheVariants.{Central}
use Rattle.data_pdu.specs.Header.{header_in}
use Rattle.data_pdu.specs.Reading.{ctrl_of, opcode_of}
use Rattle.data_pdu.specs.declared.ctrl.CtrlRead.{CtrlRead}
use Rattle.data_pdu.specs.declared.ctrl.CtrlRead.TheVariants.{Unknown}
use Rattle.data_pdu.specs.declared.header.DataHeader.{DataHeader}
use Rattle.exclusive_stages.specs.declared.pdus.Exclusive.{Exclusive}
use Rattle.exclusive_stages.specs.declared.pdus.Exclusive.TheVariants.{Phy, Update}
use Rattle.link_model.specs.Acknowledgement.{Pdu, is_acked}
use Rattle.link_model.specs.Controls.{goes_on, is_procedure_pdu, pdu_fixed, read_of}
use Rattle.link_model.specs.Data.{is_control, is_data, is_empty}
use Rattle.link_model.specs.End.{facts_after, notes_after, notes_from}
use Rattle.link_model.specs.Entering.{done_notes}
use Rattle.link_model.specs.Facts.{Facts, keyed_of}
use Rattle.link_model.specs.Hosts.{is_to_come, key_step}
use Rattle.link_model.specs.KeyedSteps.{keyed_steps_in, step_if, steps_hearing, steps_received}
use Rattle.link_model.specs.Packets.{good_pdu, whole_pdu}
use Rattle.link_model.specs.Payload.{first_octet}
use Rattle.link_model.specs.Receiving.{accepts, acked_kind, acknowledged_if, acks_control, answers_with_control, counts_accepted, facts_before_taking, given_if, given_notes, has_acknowledged, heard_in_slot, kept_given_if, notes_hearing, received_notes, took_notes_if}
use Rattle.link_model.specs.Sending.{seals_new, takes_leave}
use Rattle.link_model.specs.Setup.{Setup}
use Rattle.link_model.specs.Step.{Step, DataGiven, DataReported, Disconnected, EventEntered, KeyAnswered, PacketReceived, PacketSent, PduFixed, ProcedureAsked, RequestAnswered, WordsGiven}
use Rattle.link_model.specs.Verdicts.{pdu_of}
use Rattle.link_model.specs.keyed_control.KeyedSteps.{KeyedStep, Asks, Enters, Opens, Seals, SeesAcknowledged, Sends, Takes, TakesData}
use Rattle.link_model.specs.phased_end.Taking.{drawn}
use Rattle.link_model.specs.procedure_stages.Kinds.{role_of}
use Rattle.link_model.proofs.KeyedPasts.{keeps_role}
use Rattle.link_model.proofs.KnownEnds.{IsPast, step_past}
use Rattle.link_model.proofs.Views.{AsRead, AsUnknown, MayOwe, SeenAs, reading_view}
use Rattle.collision_steps.specs.CentralPart.{central_of}
use Rattle.link_answers.specs.Owing.{Owes, is_opening, is_opening_kept, is_opening_read}
use Rattle.link_answers.proofs.CipherQueues.{past_request}
use Rattle.link_answers.proofs.EachPhase.{Keeps, MayMake, end_keeps}
use Rattle.link_answers.proofs.OwingControls.{Holds, control_owes}

-- ---- a PDU that is taken opens nothing by its note

other_opens_none : (kind : Exclusive) (opcode : ℕ) → is_opening_read kind (Unknown opcode) ≡ false
other_opens_none Update opcode = refl
other_opens_none Phy opcode = refl
other_opens_none kind opcode = refl

seen_opens : (kind : Exclusive) (read seen : CtrlRead) → SeenAs read seen → is_opening_read kind read ≡ false → is_opening_read kind seen ≡ false
seen_opens kind read seen (AsRead is) none = ap (is_opening_read kind) is ∙ none
seen_opens kind read seen (AsUnknown ctrl named read_is is) none = ap (is_opening_read kind) is ∙ other_opens_none kind (opcode_of ctrl)

and_so : (a b : Bool) → (a && b) ≡ false → a ≡ true → b ≡ false
and_so true b is holds = is
and_so false b is holds = absurd cc

module _ (kind : Exclusive) (pdu : Pdu) (handle : ℕ) (facts : Facts) where
  noted_opens : (noted : Bool) → noted ≡ true → list_any (is_opening kind) (took_notes_if noted handle pdu facts) ≡ false
      → ((pdu.llid == 3) && is_opening_read kind (ctrl_of pdu.body)) ≡ false
  noted_opens true is none = (or_parts ((pdu.llid == 3) && is_opening_read kind (ctrl_of pdu.body)) false none).0
  noted_opens false is none = absurd cc

  -- so is what is read of it
  taken_opens : (accepted : Bool) → list_any (is_opening kind) (took_notes_if (accepted && not (is_empty pdu)) handle pdu facts) ≡ false
      → (accepted && is_procedure_pdu pdu) ≡ true → is_opening_read kind (read_of pdu) ≡ false
  taken_opens accepted none takes =
      let parts = and_parts accepted (is_procedure_pdu pdu) takes in
      let control = and_parts (is_control pdu) (not (is_empty pdu)) parts.1 in
      let noted : (accepted && not (is_empty pdu)) ≡ true = λ i. parts.0 i && control.1 i in
      seen_opens kind (ctrl_of pdu.body) (read_of pdu) (reading_view pdu)
      (and_so (pdu.llid == 3) (is_opening_read kind (ctrl_of pdu.body)) (noted_opens (accepted && not (is_empty pdu)) noted none) control.0)

-- ---- the steps of an end, by its notes

module _ (kind : Exclusive) where
  -- a step that opens nothing
  abbrev May : KeyedStep → Type 0
  May step = MayMake (is_opening_read kind) step

  one_may : (taken_now : Bool) (step : KeyedStep) → (taken_now ≡ true → May step) → AllByRecursion May (step_if taken_now step)
  one_may true step may = (may refl, tt)
  one_may false step may = tt

  both_may : (steps more : List KeyedStep) → AllByRecursion May steps → AllByRecursion May more → AllByRecursion May (steps ++ more)
  both_may [] more one other = other
  both_may (step ∷ steps) more one other = (one.0, both_may steps more one.1 other)

  module _ (setup : Setup) where
    heard_may : (slot : ℕ) (room : Bool) (header : DataHeader) (pdu : Pdu) (air : List ℕ) (facts : Facts)
        → list_any (is_opening kind) (notes_hearing setup slot room header pdu facts) ≡ false
        → AllByRecursion May (steps_hearing setup.link.role slot room header pdu air facts)
    heard_may slot room header pdu air facts none =
        let role = setup.link.role in
        let handle = setup.link.handle in
        let own = acknowledged_if (has_acknowledged facts header) (heard_in_slot slot header.md facts) in
        let now = facts_before_taking role slot header facts in
        let acks = acks_control (has_acknowledged facts header) facts in
        let answers = answers_with_control role own in
        let accepted = accepts room header pdu now in
        let takes = accepted && is_procedure_pdu pdu in
        let counts = counts_accepted accepted pdu in
        let response = drawn facts.encryption.response in
        let first = done_notes handle (acked_kind acks facts) in
        let took = took_notes_if (accepted && not (is_empty pdu)) handle pdu now in
        let given = given_notes handle (given_if takes pdu slot now) ++ given_notes handle (kept_given_if takes pdu slot now) in
        let one = or_parts (list_any (is_opening kind) first) (list_any (is_opening kind) (took ++ given))
        (sym (list_any-append (is_opening kind) first (took ++ given)) ∙ none) in
        let two = or_parts (list_any (is_opening kind) took) (list_any (is_opening kind) given)
        (sym (list_any-append (is_opening kind) took given) ∙ one.1) in
        both_may (step_if acks SeesAcknowledged) _ (one_may acks SeesAcknowledged (λ is. tt))
        (both_may (step_if answers (Sends slot)) _ (one_may answers (Sends slot) (λ is. tt))
        (both_may (step_if counts (Opens (first_octet air) (drop 2 air))) _ (one_may counts (Opens (first_octet air) (drop 2 air)) (λ is. tt))
        (both_may (step_if takes (Takes (read_of pdu) slot response)) _
        (one_may takes (Takes (read_of pdu) slot response) (taken_opens kind pdu handle now accepted two.0))
        (one_may (accepted && is_data pdu) TakesData (λ is. tt)))))

    received_may : (slot : ℕ) (room : Bool) (air octets : Option (List ℕ)) (facts : Facts)
        → list_any (is_opening kind) (received_notes setup slot room octets facts) ≡ false
        → AllByRecursion May (steps_received setup.link.role slot room air octets facts)
    received_may slot room None octets facts none = tt
    received_may slot room (Some air) None facts none = tt
    received_may slot room (Some air) (Some octets) facts none = heard_may slot room (header_in octets) (pdu_of octets) air facts none

    key_may : (key : Option (List ℕ)) → May (key_step key)
    key_may None = tt
    key_may (Some ltk) = tt

    step_may : (step : Step) (facts : Facts) → list_any (is_opening kind) (notes_after setup facts step) ≡ false
        → AllByRecursion May (keyed_steps_in setup facts step)
    step_may (DataGiven start body) facts none = tt
    step_may (ProcedureAsked ask) facts none = one_may (not (is_to_come ask facts)) (Asks ask) (λ is. tt)
    step_may (RequestAnswered answer) facts none = (tt, tt)
    step_may (KeyAnswered key slot) facts none = (key_may key, tt)
    step_may (Disconnected reason slot) facts none = (tt, tt)
    step_may (EventEntered slot) facts none = one_may (goes_on facts) (Enters slot) (λ is. tt)
    step_may PduFixed facts none = tt
    step_may (PacketSent slot) facts none =
        let pdu = pdu_fixed facts in
        let counts = seals_new (is_acked facts.acknowledgement) pdu in
        both_may (step_if (takes_leave facts) (Sends slot)) _ (one_may (takes_leave facts) (Sends slot) (λ is. tt))
        (one_may counts (Seals pdu.llid pdu.body) (λ is. tt))
    step_may (WordsGiven skd_s iv_s) facts none = tt
    step_may (PacketReceived slot octets room) facts none =
        received_may slot room (whole_pdu setup facts octets) (good_pdu setup facts octets) facts none
    step_may DataReported facts none = tt

    -- ---- a central keeps what it owes

    abbrev OwesAt : Facts → Type 0
    OwesAt facts = Keeps (is_opening_read kind) (Holds kind) (keyed_of facts).phased

    pub hold_on : (steps : List Step) (facts : Facts) → IsPast setup facts → list_any (is_opening kind) (notes_from setup facts steps) ≡ false
        → OwesAt facts
        → OwesAt (fold (facts_after setup) facts steps)
    hold_on [] facts p none h = h
    hold_on (step ∷ steps) facts p none h =
        let next = facts_after setup facts step in
        let parts = or_parts (list_any (is_opening kind) (notes_after setup facts step)) (list_any (is_opening kind) (notes_from setup next steps))
        (sym (list_any-append (is_opening kind) (notes_after setup facts step) (notes_from setup next steps)) ∙ none) in
        hold_on steps next (step_past setup facts step p) parts.1
        (end_keeps (is_opening_read kind) (other_opens_none kind) (Holds kind) (control_owes kind)
        (λ code. λ c. λ holds. record { role = holds.role; owes = holds.owes }) setup facts step p (step_may step facts parts.0) h)

module _ (setup : Setup) (facts : Facts) (steps : List Step) (kind : Exclusive) (p : IsPast setup facts)
    (is_central : setup.link.role ≡ Central) (owes : Owes kind (central_of facts.control.table))
    (kept : is_opening_kept kind facts.encryption.kept ≡ false)
    (none : list_any (is_opening kind) (notes_from setup facts steps) ≡ false) where
  steps_hold : OwesAt kind setup (fold (facts_after setup) facts steps)
  steps_hold =
      let role = ap (λ (f : Facts). role_of f.control.table.progress) p.is ∙ keeps_role setup p.past ∙ is_central in
      let request = subst (λ (f : Facts). MayOwe f.encryption.request) (sym p.is) (past_request setup p.past) in
      hold_on kind setup steps facts p none
      (record { control = record { role = role; owes = owes }; hand = record { kept = kept; request = request } })

  pub steps_owe : Owes kind (central_of (fold (facts_after setup) facts steps).control.table)
  steps_owe = steps_hold.control.owes

  -- nor does it keep such a PDU then
  pub steps_keep : is_opening_kept kind (fold (facts_after setup) facts steps).encryption.kept ≡ false
  steps_keep = steps_hold.hand.kept
