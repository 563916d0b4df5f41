-- What the pairs of phases of both ends say of the halves that are on their way: facts of the table of pairs.
use Rattle.std.specs.List.{AllByRecursion}
use Rattle.std.proofs.Common.{◌≡◌, Bool, true, false, not, ◌&&◌, ◌||◌, if◌then◌else◌, List, [], ◌∷◌, ◌++◌, refl, sym, ap, subst, ◌∙◌}
use Rattle.std.proofs.lemmas.Bool.{and_parts}
use Rattle.data_pdu.specs.declared.ctrl.Ctrl.{Ctrl}
use Rattle.data_pdu.specs.declared.ctrl.Ctrl.TheVariants.{EncReq, EncRsp, PauseEncReq, PauseEncRsp, StartEncReq, StartEncRsp}
use Rattle.enc_phase.specs.declared.classes.PduClass.{PduClass}
use Rattle.enc_phase.specs.declared.classes.PduClass.TheVariants.{EncReq as enc_req, Refusal}
use Rattle.enc_phase.specs.declared.facts.PhaseFacts.{PhaseFacts}
use Rattle.enc_phase.specs.declared.facts.PhaseFacts.TheVariants.{Asked, Clear, HalfClear, HalfKeyed, Pausing, Secure}
use Rattle.enc_phase.specs.Phases.{is_asked, is_quiet}
use Rattle.enc_phase.proofs.Steps.{has_session}
use Rattle.phase_pairs.specs.declared.joint.PhaseLink.{PhaseLink}
use Rattle.phase_pairs.specs.Agreement.{are_those, are_to_come, encryption_pdu, from_central, from_peripheral, is_encryption, is_pair, response_then, untaken_pdu, waiting_pdu}
use Rattle.phase_pairs.specs.Peripheral.{is_open}
use Rattle.phased_control.specs.Ciphers.{cipher_in, cipher_of, ciphers_in}
use Rattle.phased_control.specs.procedure_values.declared.drafts.Draft.{Draft}
use Rattle.phased_control.specs.procedure_values.declared.drafts.Draft.TheVariants.{Cipher}
use Rattle.joint_controls.specs.Joint.{Control, Clear as clear_way, Data, Fixed, Item, Joint, OnAir, Taken, Way}
use Rattle.joint_phases.specs.Classes.{class_down, class_up, draft_down, draft_up, item_class}
use Rattle.joint_phases.specs.Facts.{drafts_of}
use Rattle.joint_phases.specs.Pairs.{encryption_waiting, first_of, pair_of, second_of}
use Rattle.joint_phases.specs.Parts.{way_down, way_up}
use Rattle.joint_laws.proofs.Common.{not_true}
use Rattle.joint_keys.proofs.Queues.{IsItemFine, IsPlain, IsWayFine}

-- ---- phases

-- the central has taken LL_ENC_RSP
abbrev pub has_rsp : PhaseFacts → Bool
has_rsp (Asked after_pause enc_rsp kept) = enc_rsp
has_rsp phase = false

-- the peripheral has taken LL_ENC_REQ, and its session is not confirmed
abbrev pub took_req : PhaseFacts → Bool
took_req (Asked after_pause enc_rsp kept) = true
took_req HalfKeyed = true
took_req phase = false

-- an end in these may ask for encryption, or be asked
abbrev pub may_ask : PhaseFacts → Bool
may_ask Clear = true
may_ask (HalfClear kept) = true
may_ask phase = false

none_those : (ends : Bool) (pdus : List PduClass) → are_those ends pdus [] ≡ true → pdus ≡ []
none_those ends [] is = refl
none_those ends (pdu ∷ pdus) is = absurd (cc)

or_either : {A : Type 0} (a b : Bool) → (a ≡ true → A) → (b ≡ true → A) → (a || b) ≡ true → A
or_either true b one other is = one refl
or_either false b one other is = other is

module _ (s : PhaseLink) where
  abbrev Down : List PduClass
  Down = from_central s

  abbrev Up : List PduClass
  Up = from_peripheral s

  no_down : (up : List PduClass) → are_to_come s [] up ≡ true → Down ≡ []
  no_down up is = none_those s.central.closed Down (and_parts (are_those s.central.closed Down []) (are_those (not (is_open s.peripheral)) Up up) is).0

  no_up : (down : List PduClass) → are_to_come s down [] ≡ true → Up ≡ []
  no_up down is =
      none_those (not (is_open s.peripheral)) Up (and_parts (are_those s.central.closed Down down) (are_those (not (is_open s.peripheral)) Up []) is).1

  -- a central in Clear or Secure has nothing to send of an encryption
  pub quiet_down : (p q : PhaseFacts) → is_quiet p ≡ true → is_pair p q s ≡ true → Down ≡ []
  quiet_down Clear Clear quiet is = no_down [] is
  quiet_down Clear q quiet is = absurd (cc)
  quiet_down Secure Secure quiet is = no_down [] is
  quiet_down Secure q quiet is = absurd (cc)
  quiet_down p q quiet is = absurd (cc)

  -- a peripheral that is to be asked has nothing to send of one, and the central has not taken LL_ENC_RSP
  pub record IsBefore (p : PhaseFacts) : Type 0 where
    pub none_up : Up ≡ []
    pub no_rsp : has_rsp p ≡ false

  pub asked_alone : (p q : PhaseFacts) → may_ask q ≡ true → (Down ≡ [] → ⊥) → is_pair p q s ≡ true → IsBefore p
  asked_alone Clear Clear may some is = absurd (some (no_down [] is))
  asked_alone Clear (HalfClear kept) may some is = absurd (cc)
  asked_alone (Asked false rsp kept) Clear may some is =
      or_either (not rsp && are_to_come s (enc_req ∷ []) []) (are_to_come s [] (response_then rsp (Refusal ∷ [])))
      (λ one.
      let two = and_parts (not rsp) (are_to_come s (enc_req ∷ []) []) one in
      record { none_up = no_up (enc_req ∷ []) two.1; no_rsp = not_true rsp two.0 })
      (λ other. absurd (some (no_down (response_then rsp (Refusal ∷ [])) other))) is
  asked_alone (Asked true rsp kept) Clear may some is = absurd (cc)
  asked_alone (Asked true rsp kept) (HalfClear more) may some is =
      let two = and_parts (not rsp) (are_to_come s (enc_req ∷ []) []) is in record { none_up = no_up (enc_req ∷ []) two.1; no_rsp = not_true rsp two.0 }
  asked_alone (Asked false rsp kept) (HalfClear more) may some is = absurd (cc)
  asked_alone HalfKeyed Clear may some is = absurd (cc)
  asked_alone HalfKeyed (HalfClear more) may some is = absurd (cc)
  asked_alone Secure Clear may some is = absurd (cc)
  asked_alone Secure (HalfClear more) may some is = absurd (cc)
  asked_alone (Pausing kept) Clear may some is = absurd (cc)
  asked_alone (Pausing kept) (HalfClear more) may some is = absurd (cc)
  asked_alone (HalfClear kept) Clear may some is = absurd (cc)
  asked_alone (HalfClear kept) (HalfClear more) may some is =
      absurd (some (no_down [] (and_parts (are_to_come s [] []) _ is).0))
  asked_alone p q may some is = absurd (cc)

  -- a central that may ask is before what the peripheral took
  pub none_took : (p q : PhaseFacts) → may_ask p ≡ true → took_req q ≡ true → is_pair p q s ≡ true → ⊥
  none_took Clear (Asked a b c) may took is = absurd (cc)
  none_took Clear HalfKeyed may took is = absurd (cc)
  none_took (HalfClear kept) (Asked a b c) may took is = absurd (cc)
  none_took (HalfClear kept) HalfKeyed may took is = absurd (cc)
  none_took p q may took is = absurd (cc)

  -- a central that asks is before the peripheral's Secure
  pub asked_took : (p q : PhaseFacts) → is_asked p ≡ true → has_session q ≡ true → is_pair p q s ≡ true → took_req q ≡ true
  asked_took (Asked true b c) HalfKeyed asked some is = refl
  asked_took (Asked false b c) HalfKeyed asked some is = refl
  asked_took (Asked true b c) Secure asked some is = absurd (cc)
  asked_took (Asked false b c) Secure asked some is = absurd (cc)
  asked_took (Asked true b c) (Pausing kept) asked some is = absurd (cc)
  asked_took (Asked false b c) (Pausing kept) asked some is = absurd (cc)
  asked_took p q asked some is = absurd (cc)

  -- a peripheral that is asked is before the central's session
  pub none_session : (p q : PhaseFacts) → has_session p ≡ true → is_asked q ≡ true → is_pair p q s ≡ true → ⊥
  none_session HalfKeyed (Asked a b c) some asked is = absurd (cc)
  none_session Secure (Asked a b c) some asked is = absurd (cc)
  none_session (Pausing kept) (Asked a b c) some asked is = absurd (cc)
  none_session p q some asked is = absurd (cc)

-- ---- where no PDU of the encryption waits or is on its way, a fact of these alone holds of all

pub front_none : (xs ys : List PduClass) → xs ++ ys ≡ [] → xs ≡ []
front_none [] ys is = refl
front_none (x ∷ xs) ys is = absurd (cc)

back_none : (xs ys : List PduClass) → xs ++ ys ≡ [] → ys ≡ []
back_none [] ys is = is
back_none (x ∷ xs) ys is = absurd (cc)

one_waits : (pdu : PduClass) → is_encryption pdu ≡ true → encryption_pdu pdu ≡ [] → ⊥
one_waits pdu some none = apart (ap (λ (b : Bool). if b then pdu ∷ [] else []) some) none
  where
    apart : {xs : List PduClass} → xs ≡ pdu ∷ [] → xs ≡ [] → ⊥
    apart a b = full (sym a ∙ b)
      where
        full : pdu ∷ [] ≡ [] → ⊥
        full is = absurd (cc)

module _ (F : Ctrl → Type 0) (plain : IsPlain F) where
  -- a class by which each PDU of the encryption is one
  abbrev Tells : (Draft → PduClass) → Type 0
  Tells class_of = (ctrl : Ctrl) → (is_encryption (class_of (Cipher ctrl)) ≡ false → cipher_in ctrl ≡ [])

  no_draft : (class_of : Draft → PduClass) → Tells class_of → (draft : Draft) (rest : List Ctrl) → is_encryption (class_of draft) ≡ false → AllByRecursion F rest
      → AllByRecursion F (cipher_of draft ++ rest)
  no_draft class_of tells (Cipher ctrl) rest none all = subst (λ (ctrls : List Ctrl). AllByRecursion F (ctrls ++ rest)) (sym (tells ctrl none)) all
  no_draft class_of tells draft rest none all = all

  pub none_wait : (class_of : Draft → PduClass) → Tells class_of → (drafts : List Draft) → waiting_pdu (first_of (encryption_waiting class_of drafts)) ≡ []
      → AllByRecursion F (ciphers_in drafts)
  none_wait class_of tells [] none = tt
  none_wait class_of tells (draft ∷ drafts) none = by (is_encryption (class_of draft)) refl (none_wait class_of tells drafts) none
    where
      by : (b : Bool) → is_encryption (class_of draft) ≡ b
          → (waiting_pdu (first_of (encryption_waiting class_of drafts)) ≡ [] → AllByRecursion F (ciphers_in drafts))
          → waiting_pdu (first_of ((if b then class_of draft ∷ [] else []) ++ encryption_waiting class_of drafts)) ≡ []
          → AllByRecursion F (cipher_of draft ++ ciphers_in drafts)
      by true some more h = absurd (one_waits (class_of draft) some h)
      by false no_one more h = no_draft class_of tells draft (ciphers_in drafts) no_one (more h)

  pub tells_down : (knows : Bool) → Tells (draft_down knows)
  tells_down knows (EncReq rand ediv skd_m iv_m) none = absurd (cc)
  tells_down knows (EncRsp skd_s iv_s) none = absurd (cc)
  tells_down knows StartEncReq none = absurd (cc)
  tells_down knows StartEncRsp none = absurd (cc)
  tells_down knows PauseEncReq none = absurd (cc)
  tells_down knows PauseEncRsp none = absurd (cc)
  tells_down knows ctrl none = refl

  pub tells_up : (knows : Bool) → Tells (draft_up knows)
  tells_up knows (EncReq rand ediv skd_m iv_m) none = absurd (cc)
  tells_up knows (EncRsp skd_s iv_s) none = absurd (cc)
  tells_up knows StartEncReq none = absurd (cc)
  tells_up knows StartEncRsp none = absurd (cc)
  tells_up knows PauseEncReq none = absurd (cc)
  tells_up knows PauseEncRsp none = absurd (cc)
  tells_up knows ctrl none = refl

  no_item : (b : Bool) (pdu : PduClass) → is_encryption pdu ≡ b → encryption_pdu pdu ≡ [] → b ≡ false
  no_item true pdu at none = absurd (one_waits pdu at none)
  no_item false pdu at none = refl

  item_by : (class_of : Ctrl → PduClass) → ((ctrl : Ctrl) → is_encryption (class_of ctrl) ≡ false → cipher_in ctrl ≡ []) → (item : Item)
      → encryption_pdu (item_class class_of item) ≡ [] → IsItemFine F item
  item_by class_of tells Data none = tt
  item_by class_of tells (Control outgoing ctrl) none = plain ctrl (tells ctrl (no_item _ (class_of ctrl) refl none))

  pub none_down : (knows : Bool) (w : Way) → untaken_pdu (way_down knows w) ≡ [] → IsWayFine F w
  none_down knows (OnAir item sealed) none = item_by (class_down knows) (tells_down knows) item none
  none_down knows (Fixed item sealed) none = item_by (class_down knows) (tells_down knows) item none
  none_down knows clear_way none = tt
  none_down knows (Taken item) none = tt

  pub none_up_way : (knows : Bool) (w : Way) → untaken_pdu (way_up knows w) ≡ [] → IsWayFine F w
  none_up_way knows (OnAir item sealed) none = item_by (class_up knows) (tells_up knows) item none
  none_up_way knows (Fixed item sealed) none = item_by (class_up knows) (tells_up knows) item none
  none_up_way knows clear_way none = tt
  none_up_way knows (Taken item) none = tt

  -- in a joint run
  pub record AllFine (drafts : List Draft) (w : Way) : Type 0 where
    pub waits : AllByRecursion F (ciphers_in drafts)
    pub way : IsWayFine F w

  pub fine_down : (s : Joint) → from_central (pair_of s) ≡ [] → AllFine (drafts_of s.central) s.down
  fine_down s none =
      let knows = s.central.knows_version in
      record {
        waits = none_wait (draft_down knows) (tells_down knows) (drafts_of s.central) (back_none (untaken_pdu (way_down knows s.down)) _ none);
        way = none_down knows s.down (front_none (untaken_pdu (way_down knows s.down)) _ none);
      }

  pub fine_up : (s : Joint) → from_peripheral (pair_of s) ≡ [] → AllFine (drafts_of s.peripheral) s.up
  fine_up s none =
      let knows = s.peripheral.knows_version in
      let waiting = encryption_waiting (draft_up knows) (drafts_of s.peripheral) in
      record {
        waits =
            none_wait (draft_up knows) (tells_up knows) (drafts_of s.peripheral)
            (front_none (waiting_pdu (first_of waiting)) (waiting_pdu (second_of waiting)) (back_none (untaken_pdu (way_up knows s.up)) _ none));
        way = none_up_way knows s.up (front_none (untaken_pdu (way_up knows s.up)) _ none);
      }
