-- The rejection of a procedure that collides stays the next control PDU of the central until it is sent.
use Rattle.std.proofs.Common.{◌≡◌, ℕ, ◌==◌, Bool, true, false, if◌then◌else◌, List, [], ◌∷◌, Option, Some, None, is_some, refl, ap, subst, ◌∙◌, eqb-true}
use Rattle.std.specs.List.{All}
use Rattle.std.proofs.lemmas.List.Elements.{All-head}
use Rattle.ble_base.specs.ErrorCodes.{different_transaction_collision, ll_procedure_collision}
use Rattle.ble_base.specs.declared.error_codes.ErrCode.{ErrCode}
use Rattle.exclusive_stages.specs.declared.pdus.Exclusive.{Exclusive}
use Rattle.exclusive_stages.specs.declared.pdus.Exclusive.TheVariants.{Map, Phy, Request, Update}
use Rattle.exclusive_stages.specs.declared.pdus.Pdu.{Pdu}
use Rattle.exclusive_stages.specs.declared.pdus.Pdu.TheVariants.{ParamReq, PhyReq, RejectParam, RejectPhy}
use Rattle.exclusive_stages.specs.declared.pdus.Reason.{Reason}
use Rattle.exclusive_stages.specs.declared.pdus.Reason.TheVariants.{Other as other_reason, OtherKind, SameKind}
use Rattle.exclusive_stages.specs.Kinds.{kind_of}
use Rattle.exclusive_stages.specs.Pdus.{first_kind, reason_of, rejection_of}
use Rattle.collision_steps.specs.procedure_values.declared.drafts.Rejection.{Rejection as TheRejection}
use Rattle.collision_steps.specs.procedure_stages.Collisions.{collision_code}
use Rattle.collision_steps.specs.procedure_stages.Opcodes.{opcode_of_kind}
use Rattle.collision_steps.specs.Parts.{param_request_opcode, phy_request_opcode, reason_part, rejection_part, rejections_part, with_part}

-- ---- a rejection, by its opcode and its error

same_code : (code : ErrCode) → reason_part code ≡ SameKind → code ≡ record { 0 = ll_procedure_collision }
same_code code is = by (code.0 == ll_procedure_collision) (code.0 == different_transaction_collision) refl is
  where
    by : (same other : Bool) → (code.0 == ll_procedure_collision) ≡ same → (if same then SameKind else (if other then OtherKind else other_reason)) ≡ SameKind
        → code ≡ record { 0 = ll_procedure_collision }
    by true other e h = ap (λ (n : ℕ). record { 0 = n }) (eqb-true code.0 ll_procedure_collision e)
    by false true e h = absurd (cc)
    by false false e h = absurd (cc)

other_code : (code : ErrCode) → reason_part code ≡ OtherKind → code ≡ record { 0 = different_transaction_collision }
other_code code is = by (code.0 == ll_procedure_collision) (code.0 == different_transaction_collision) refl is
  where
    by : (same other : Bool) → (code.0 == different_transaction_collision) ≡ other → (if same then SameKind else (if other then OtherKind else other_reason)) ≡ OtherKind
        → code ≡ record { 0 = different_transaction_collision }
    by true other e h = absurd (cc)
    by false true e h = ap (λ (n : ℕ). record { 0 = n }) (eqb-true code.0 different_transaction_collision e)
    by false false e h = absurd (cc)

pub record IsRejectionOf (p q : Exclusive) (rejection : TheRejection) : Type 0 where
  pub opcode : rejection.opcode ≡ opcode_of_kind q
  pub code : rejection.code ≡ collision_code (kind_of p) (kind_of q)

code_request : (p : Exclusive) (code : ErrCode) → reason_part code ≡ reason_of p Request → code ≡ collision_code (kind_of p) (kind_of Request)
code_request Update code is = other_code code is
code_request Request code is = same_code code is
code_request Map code is = other_code code is
code_request Phy code is = other_code code is

code_phy : (p : Exclusive) (code : ErrCode) → reason_part code ≡ reason_of p Phy → code ≡ collision_code (kind_of p) (kind_of Phy)
code_phy Update code is = other_code code is
code_phy Request code is = other_code code is
code_phy Map code is = other_code code is
code_phy Phy code is = same_code code is

param_reason : (a b : Reason) → ◌≡◌ {A = Option Pdu} (Some (RejectParam a)) (Some (RejectParam b)) → a ≡ b
param_reason a b is = cc

phy_reason : (a b : Reason) → ◌≡◌ {A = Option Pdu} (Some (RejectPhy a)) (Some (RejectPhy b)) → a ≡ b
phy_reason a b is = cc

module _ (p : Exclusive) (x : TheRejection) where
  request_is : (param phy : Bool) → (x.opcode == param_request_opcode) ≡ param
      → (if param then Some (RejectParam (reason_part x.code)) else (if phy then Some (RejectPhy (reason_part x.code)) else None)) ≡ Some (RejectParam (reason_of p Request))
      → IsRejectionOf p Request x
  request_is true phy e is =
      record {
        opcode = eqb-true x.opcode param_request_opcode e;
        code = code_request p x.code (param_reason (reason_part x.code) (reason_of p Request) is);
      }
  request_is false true e is = absurd (cc)
  request_is false false e is = absurd (cc)

  phy_is : (param phy : Bool) → (x.opcode == phy_request_opcode) ≡ phy
      → (if param then Some (RejectParam (reason_part x.code)) else (if phy then Some (RejectPhy (reason_part x.code)) else None)) ≡ Some (RejectPhy (reason_of p Phy))
      → IsRejectionOf p Phy x
  phy_is true phy e is = absurd (cc)
  phy_is false true e is =
      record { opcode = eqb-true x.opcode phy_request_opcode e; code = code_phy p x.code (phy_reason (reason_part x.code) (reason_of p Phy) is) }
  phy_is false false e is = absurd (cc)

same_kind : (q r : Exclusive) → ◌≡◌ {A = Option Exclusive} (Some q) (Some r) → q ≡ r
same_kind q r is = cc

pub rejection_is : (pdu : Pdu) (p q : Exclusive) (x : TheRejection) → first_kind pdu ≡ Some q → rejection_part x ≡ Some (rejection_of q (reason_of p q)) → IsRejectionOf p q x
rejection_is ParamReq p q x first is =
    subst (λ (q : Exclusive). rejection_part x ≡ Some (rejection_of q (reason_of p q)) → IsRejectionOf p q x) (same_kind Request q first)
    (λ h. request_is p x (x.opcode == param_request_opcode) (x.opcode == phy_request_opcode) refl h) is
rejection_is PhyReq p q x first is =
    subst (λ (q : Exclusive). rejection_part x ≡ Some (rejection_of q (reason_of p q)) → IsRejectionOf p q x) (same_kind Phy q first)
    (λ h. phy_is p x (x.opcode == param_request_opcode) (x.opcode == phy_request_opcode) refl h) is
rejection_is pdu p q x first is = absurd (cc)

-- ---- the first rejection that waits

pub record FirstIs (r : Pdu) (xs : List TheRejection) : Type 0 where
  pub rejection : TheRejection
  pub more : List TheRejection
  pub is : xs ≡ rejection ∷ more
  pub part : rejection_part rejection ≡ Some r

abbrev AreExclusive : List TheRejection → Type 0
AreExclusive xs = All (λ rejection. is_some (rejection_part rejection) ≡ true) xs

same_head : (a b : Pdu) (xs ys : List Pdu) → a ∷ xs ≡ b ∷ ys → a ≡ b
same_head a b xs ys is = cc

pub first_is : (r : Pdu) (xs : List TheRejection) → AreExclusive xs → rejections_part xs ≡ r ∷ [] → FirstIs r xs
first_is r [] all is = absurd (cc)
first_is r (x ∷ more) all is = by (rejection_part x) refl (All-head (λ rejection. is_some (rejection_part rejection) ≡ true) x more all) is
  where
    by : (part : Option Pdu) → rejection_part x ≡ part → is_some part ≡ true → with_part part (rejections_part more) ≡ r ∷ [] → FirstIs r (x ∷ more)
    by None e some same = absurd (cc)
    by (Some one) e some same =
        record { rejection = x; more = more; is = refl; part = e ∙ ap (λ (pdu : Pdu). Some pdu) (same_head one r (rejections_part more) [] same) }

pub none_is : (xs : List TheRejection) → AreExclusive xs → rejections_part xs ≡ [] → xs ≡ []
none_is [] all is = refl
none_is (x ∷ more) all is = absurd (by (rejection_part x) (All-head (λ rejection. is_some (rejection_part rejection) ≡ true) x more all) is)
  where
    by : (part : Option Pdu) → is_some part ≡ true → with_part part (rejections_part more) ≡ [] → ⊥
    by None some same = absurd (cc)
    by (Some one) some same = absurd (cc)
