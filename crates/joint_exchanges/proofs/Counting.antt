-- The PDUs of the exchanges in a joint run are those that the machines of exchanges have, one for one.
use Rattle.std.proofs.Common.{◌≡◌, ℕ, ◌+◌, Bool, true, false, List, [], ◌∷◌, map, Option, Some, None, is_some, option_map, refl, ap, ◌∙◌, arith}
use Rattle.ble_base.specs.declared.roles.Role.{Role}
use Rattle.ble_base.specs.declared.roles.Role.TheVariants.{Central, Peripheral}
use Rattle.data_pdu.specs.declared.ctrl.Ctrl.{Ctrl}
use Rattle.data_pdu.specs.declared.ctrl.Ctrl.TheVariants.{PeripheralFeatureReq as ctrl_feature_req}
use Rattle.exchange_steps.specs.procedure_values.declared.drafts.Draft.{Draft}
use Rattle.exchange_steps.specs.procedure_values.declared.drafts.Draft.TheVariants.{FeatureReq, FeatureRsp, LengthReq, LengthRsp, PeripheralFeatureReq, VersionInd}
use Rattle.exchange_steps.specs.procedure_values.declared.drafts.Outgoing.{Outgoing}
use Rattle.exchange_steps.specs.procedure_values.declared.drafts.Outgoing.TheVariants.{Disconnect, Nothing, Other, Rejection}
use Rattle.joint_controls.specs.table_laws.Waiting.{number_of}
use Rattle.joint_controls.specs.table_laws.Waiting
use Rattle.exchange_steps.specs.exchange_pairs.Exchange.{Answer, ExchangePdu, Question, count_if, is_answer, is_question}
use Rattle.exchange_steps.specs.exchange_pairs.Exchange
use Rattle.exchange_steps.specs.exchange_pairs.ExchangeLaws
use Rattle.exchange_steps.specs.exchange_pairs.ExchangeRun.{ExchangeLink, is_pdu}
use Rattle.exchange_steps.specs.exchange_pairs.LengthPart.{exchange_link, exchange_way}
use Rattle.exchange_steps.specs.exchange_pairs.LengthRun.{Control as length_control}
use Rattle.exchange_steps.specs.exchange_pairs.Lengths.{LengthPdu}
use Rattle.exchange_steps.specs.Ends.{features_pdu, lengths_pdu, pdus_of, versions_waiting}
use Rattle.joint_controls.specs.Joint.{Clear, Control, Data, Fixed, Item, Joint, OnAir, Taken, Way}
use Rattle.joint_exchanges.specs.Agreement.{Asked, Features, Lengths, is_answer_of, is_control, is_draft, is_first_of, is_question_of, is_version_ctrl, is_version_ind, passes, places_of, questions_waiting, untaken}
use Rattle.joint_exchanges.specs.Machines.{features_in, features_link, lengths_in, lengths_link, none_sent}
use Rattle.joint_exchanges.specs.Moves.{is_some_version}
use Rattle.joint_exchanges.specs.Parts.{AnyPdu, parts_of, pdu_kept, pdu_of_item, pdu_of_outgoing, pdu_on}

-- ---- in a queue

same_rest : (n m : ℕ) → n ≡ m → n ≡ 0 + m
same_rest n m is = omega (arith, is)

feature_questions : (drafts : List Draft) → Exchange.number_of is_question (pdus_of features_pdu drafts) ≡ number_of (is_question_of Features) drafts
feature_questions [] = refl
feature_questions (FeatureReq ∷ rest) = ap (λ n. 1 + n) (feature_questions rest)
feature_questions (PeripheralFeatureReq ∷ rest) = ap (λ n. 1 + n) (feature_questions rest)
feature_questions (FeatureRsp ∷ rest) = ap (λ n. 0 + n) (feature_questions rest)
feature_questions (draft ∷ rest) = same_rest _ _ (feature_questions rest)

feature_answers : (drafts : List Draft) → Exchange.number_of is_answer (pdus_of features_pdu drafts) ≡ number_of (is_answer_of Features) drafts
feature_answers [] = refl
feature_answers (FeatureReq ∷ rest) = ap (λ n. 0 + n) (feature_answers rest)
feature_answers (PeripheralFeatureReq ∷ rest) = ap (λ n. 0 + n) (feature_answers rest)
feature_answers (FeatureRsp ∷ rest) = ap (λ n. 1 + n) (feature_answers rest)
feature_answers (draft ∷ rest) = same_rest _ _ (feature_answers rest)

-- the queue of lengths without the values
abbrev plain : List LengthPdu → List ExchangePdu
plain queue = map (λ (pdu : LengthPdu). pdu.pdu) queue

length_questions : (drafts : List Draft) → Exchange.number_of is_question (plain (pdus_of lengths_pdu drafts)) ≡ number_of (is_question_of Lengths) drafts
length_questions [] = refl
length_questions (LengthReq rx tx ∷ rest) = ap (λ n. 1 + n) (length_questions rest)
length_questions (LengthRsp rx tx ∷ rest) = ap (λ n. 0 + n) (length_questions rest)
length_questions (draft ∷ rest) = same_rest _ _ (length_questions rest)

length_answers : (drafts : List Draft) → Exchange.number_of is_answer (plain (pdus_of lengths_pdu drafts)) ≡ number_of (is_answer_of Lengths) drafts
length_answers [] = refl
length_answers (LengthReq rx tx ∷ rest) = ap (λ n. 0 + n) (length_answers rest)
length_answers (LengthRsp rx tx ∷ rest) = ap (λ n. 1 + n) (length_answers rest)
length_answers (draft ∷ rest) = same_rest _ _ (length_answers rest)

pub version_drafts : (drafts : List Draft) → versions_waiting drafts ≡ number_of is_version_ind drafts
version_drafts [] = refl
version_drafts (VersionInd ∷ rest) = let h = version_drafts rest in omega (arith, h)
version_drafts (draft ∷ rest) = same_rest _ _ (version_drafts rest)

-- ---- on a way

-- a count by a test of the PDU of an exchange is one by a test of drafts
abbrev OnWay : (Option AnyPdu → Bool) → (Draft → Bool) → Way → Type 0
OnWay part test way = count_if (part (pdu_on way)) ≡ untaken test way

way_by : (part : Option AnyPdu → Bool) (test : Draft → Bool) → part None ≡ false → ((draft : Draft) → part (pdu_of_outgoing (Other draft)) ≡ test draft) → (way : Way) → OnWay part test way
way_by part test none same way = by way
  where
    counted : (b : Bool) → count_if b ≡ Waiting.count_if b
    counted true = refl
    counted false = refl

    outgoing_by : (outgoing : Outgoing) → part (pdu_of_outgoing outgoing) ≡ is_draft test outgoing
    outgoing_by Nothing = none
    outgoing_by (Rejection rejection) = none
    outgoing_by (Disconnect code) = none
    outgoing_by (Other draft) = same draft

    item_by : (item : Item) → part (pdu_of_item item) ≡ is_control test item
    item_by Data = none
    item_by (Control outgoing ctrl) = outgoing_by outgoing

    by : (way : Way) → OnWay part test way
    by Clear = ap count_if none
    by (Fixed item sealed) = ap count_if (item_by item) ∙ counted _
    by (OnAir item sealed) = ap count_if (item_by item) ∙ counted _
    by (Taken item) = ap count_if none

abbrev feature_test : (ExchangePdu → Bool) → Option AnyPdu → Bool
feature_test test pdu = is_pdu test (features_in pdu)

abbrev length_test : (ExchangePdu → Bool) → Option AnyPdu → Bool
length_test test pdu = is_pdu test (exchange_way (option_map (λ (x : LengthPdu). length_control x) (lengths_in pdu)))

feature_question : (draft : Draft) → feature_test is_question (pdu_of_outgoing (Other draft)) ≡ is_question_of Features draft
feature_question FeatureReq = refl
feature_question draft = refl

feature_answer : (draft : Draft) → feature_test is_answer (pdu_of_outgoing (Other draft)) ≡ is_answer_of Features draft
feature_answer FeatureReq = refl
feature_answer draft = refl

length_question : (draft : Draft) → length_test is_question (pdu_of_outgoing (Other draft)) ≡ is_question_of Lengths draft
length_question FeatureReq = refl
length_question draft = refl

length_answer : (draft : Draft) → length_test is_answer (pdu_of_outgoing (Other draft)) ≡ is_answer_of Lengths draft
length_answer FeatureReq = refl
length_answer draft = refl

version_test : (draft : Draft) → is_some_version (pdu_of_outgoing (Other draft)) ≡ is_version_ind draft
version_test FeatureReq = refl
version_test draft = refl

pub version_way : (way : Way) → count_if (is_some_version (pdu_on way)) ≡ untaken is_version_ind way
version_way way = way_by (λ pdu. is_some_version pdu) is_version_ind refl version_test way

-- ---- what is kept

kept_count : (b : Bool) → count_if b ≡ Waiting.count_if b
kept_count true = refl
kept_count false = refl

feature_kept : (kept : Option Ctrl) → is_some (features_in (pdu_kept kept)) ≡ passes (is_first_of Features) kept
feature_kept None = refl
feature_kept (Some (ctrl_feature_req features)) = refl
feature_kept (Some ctrl) = refl

length_kept : (kept : Option Ctrl) → is_some (lengths_in (pdu_kept kept)) ≡ passes (is_first_of Lengths) kept
length_kept None = refl
length_kept (Some (ctrl_feature_req features)) = refl
length_kept (Some ctrl) = refl

version_kept_by : (kept : Option Ctrl) → is_some_version (pdu_kept kept) ≡ passes is_version_ctrl kept
version_kept_by None = refl
version_kept_by (Some (ctrl_feature_req features)) = refl
version_kept_by (Some ctrl) = refl

pub version_kept : (kept : Option Ctrl) → count_if (is_some_version (pdu_kept kept)) ≡ Waiting.count_if (passes is_version_ctrl kept)
version_kept kept = ap count_if (version_kept_by kept) ∙ kept_count (passes is_version_ctrl kept)

-- ---- both ends

-- the exchange of features, and that of lengths without the values
abbrev pub asked_link : Asked → Joint → ExchangeLink
asked_link Features s = features_link (parts_of s)
asked_link Lengths s = exchange_link (lengths_link none_sent (parts_of s))

pub asked_waiting : (asked : Asked) (role : Role) (s : Joint) → ExchangeLaws.questions_waiting role (asked_link asked s) ≡ questions_waiting asked role s
asked_waiting Features Central s = feature_questions s.central.control.table.queue.drafts
asked_waiting Features Peripheral s = feature_questions s.peripheral.control.table.queue.drafts
asked_waiting Lengths Central s = length_questions s.central.control.table.queue.drafts
asked_waiting Lengths Peripheral s = length_questions s.peripheral.control.table.queue.drafts

sum_of : (a b c d a' b' c' d' : ℕ) → a ≡ a' → b ≡ b' → c ≡ c' → d ≡ d' → a + b + c + d ≡ a' + b' + c' + d'
sum_of a b c d a' b' c' d' h1 h2 h3 h4 = omega (arith, h1, h2, h3, h4)

pub asked_places : (asked : Asked) (role : Role) (s : Joint) → ExchangeLaws.places role (asked_link asked s) ≡ places_of asked role s
asked_places Features Central s =
    sum_of _ _ _ _ _ _ _ _
    (way_by (feature_test is_question) (is_question_of Features) refl feature_question s.down) refl
    (feature_answers s.peripheral.control.table.queue.drafts)
    (way_by (feature_test is_answer) (is_answer_of Features) refl feature_answer s.up)
asked_places Features Peripheral s =
    sum_of _ _ _ _ _ _ _ _
    (way_by (feature_test is_question) (is_question_of Features) refl feature_question s.up)
    (ap count_if (feature_kept s.central.kept) ∙ kept_count _)
    (feature_answers s.central.control.table.queue.drafts)
    (way_by (feature_test is_answer) (is_answer_of Features) refl feature_answer s.down)
asked_places Lengths Central s =
    sum_of _ _ _ _ _ _ _ _
    (way_by (length_test is_question) (is_question_of Lengths) refl length_question s.down) refl
    (length_answers s.peripheral.control.table.queue.drafts)
    (way_by (length_test is_answer) (is_answer_of Lengths) refl length_answer s.up)
asked_places Lengths Peripheral s =
    sum_of _ _ _ _ _ _ _ _
    (way_by (length_test is_question) (is_question_of Lengths) refl length_question s.up)
    (ap count_if (length_kept s.central.kept) ∙ kept_count _)
    (length_answers s.central.control.table.queue.drafts)
    (way_by (length_test is_answer) (is_answer_of Lengths) refl length_answer s.down)
