-- What an end of a joint run sent is known at the other end.
use Rattle.std.proofs.Common.{◌≡◌, ℕ, Bool, true, Option, Some, refl, subst}
use Rattle.ble_base.specs.declared.roles.Role.{Role}
use Rattle.ble_base.specs.declared.roles.Role.TheVariants.{Central, Peripheral}
use Rattle.data_pdu.specs.declared.ctrl.Ctrl.{Ctrl}
use Rattle.data_pdu.specs.declared.ctrl.Ctrl.TheVariants.{EncReq, EncRsp, PauseEncReq, PauseEncRsp, RejectExtInd, StartEncReq, StartEncRsp, TerminateInd}
use Rattle.exchange_steps.specs.procedure_values.declared.drafts.Draft.{Draft}
use Rattle.exchange_steps.specs.procedure_values.declared.drafts.Draft.TheVariants.{Cipher, FeatureReq, FeatureRsp, Grant, LengthReq, LengthRsp, Map, PeripheralFeatureReq, PhyInd, PhyReq, PhyRsp, Request, UnknownRsp, Update, VersionInd}
use Rattle.exchange_steps.specs.procedure_values.declared.drafts.Outgoing.{Outgoing}
use Rattle.exchange_steps.specs.procedure_values.declared.drafts.Outgoing.TheVariants.{Disconnect, Nothing, Other, Rejection}
use Rattle.exchange_steps.specs.procedure_values.Drafts.{ctrl_of_draft, ctrl_of_outgoing}
use Rattle.exchange_steps.specs.exchange_pairs.ExchangeRun.{other_role}
use Rattle.joint_exchanges.specs.SentByRole.{IsSentBy, is_cipher_of, is_draft_of, is_outgoing_of}
use Rattle.joint_exchanges.proofs.TableRoles.{IsKnownAt}

cipher_known : (role : Role) (ctrl : Ctrl) → is_cipher_of role ctrl ≡ true → IsKnownAt (other_role role) ctrl
cipher_known Central (EncReq rand ediv skd_m iv_m) is = refl
cipher_known Central StartEncRsp is = refl
cipher_known Central PauseEncReq is = refl
cipher_known Central PauseEncRsp is = refl
cipher_known Central ctrl is = absurd (cc)
cipher_known Peripheral (EncRsp skd_s iv_s) is = refl
cipher_known Peripheral StartEncReq is = refl
cipher_known Peripheral StartEncRsp is = refl
cipher_known Peripheral PauseEncRsp is = refl
cipher_known Peripheral (RejectExtInd opcode code) is = refl
cipher_known Peripheral (TerminateInd code) is = refl
cipher_known Peripheral ctrl is = absurd (cc)

draft_known : (unknowns : Bool) (role : Role) (draft : Draft) (event latency : ℕ) → is_draft_of unknowns role draft ≡ true → IsKnownAt (other_role role) (ctrl_of_draft draft event latency)
draft_known unknowns Central (Cipher ctrl) event skips is = cipher_known Central ctrl is
draft_known unknowns Peripheral (Cipher ctrl) event skips is = cipher_known Peripheral ctrl is
draft_known unknowns Central (Update params) event skips is = refl
draft_known unknowns Central (Grant params) event skips is = refl
draft_known unknowns Central (Map map) event skips is = refl
draft_known unknowns Central PhyReq event skips is = refl
draft_known unknowns Central PhyInd event skips is = refl
draft_known unknowns Central FeatureReq event skips is = refl
draft_known unknowns Central FeatureRsp event skips is = refl
draft_known unknowns Central VersionInd event skips is = refl
draft_known unknowns Central (LengthReq rx tx) event skips is = refl
draft_known unknowns Central (LengthRsp rx tx) event skips is = refl
draft_known unknowns Central (UnknownRsp opcode) event skips is = refl
draft_known unknowns Central draft event skips is = absurd (cc)
draft_known unknowns Peripheral (Request min max latency timeout) event skips is = refl
draft_known unknowns Peripheral PhyReq event skips is = refl
draft_known unknowns Peripheral PhyRsp event skips is = refl
draft_known unknowns Peripheral PeripheralFeatureReq event skips is = refl
draft_known unknowns Peripheral FeatureRsp event skips is = refl
draft_known unknowns Peripheral VersionInd event skips is = refl
draft_known unknowns Peripheral (LengthReq rx tx) event skips is = refl
draft_known unknowns Peripheral (LengthRsp rx tx) event skips is = refl
draft_known unknowns Peripheral (UnknownRsp opcode) event skips is = refl
draft_known unknowns Peripheral draft event skips is = absurd (cc)

some_is : (x y : Ctrl) → ◌≡◌ {A = Option Ctrl} (Some x) (Some y) → x ≡ y
some_is x y is = cc

known_by : (unknowns : Bool) (role : Role) (outgoing : Outgoing) (ctrl : Ctrl) (event latency : ℕ) → is_outgoing_of unknowns role outgoing ≡ true
    → ctrl_of_outgoing outgoing event latency ≡ Some ctrl → IsKnownAt (other_role role) ctrl
known_by unknowns role Nothing ctrl event latency right is = absurd (cc)
known_by unknowns Central (Disconnect code) ctrl event latency right is = subst (IsKnownAt Peripheral) (some_is _ ctrl is) refl
known_by unknowns Peripheral (Disconnect code) ctrl event latency right is = subst (IsKnownAt Central) (some_is _ ctrl is) refl
known_by unknowns Central (Rejection rejection) ctrl event latency right is = subst (IsKnownAt Peripheral) (some_is _ ctrl is) refl
known_by unknowns Peripheral (Rejection rejection) ctrl event latency right is = absurd (cc)
known_by unknowns Central (Other draft) ctrl event latency right is = subst (IsKnownAt Peripheral) (some_is _ ctrl is) (draft_known unknowns Central draft event latency right)
known_by unknowns Peripheral (Other draft) ctrl event latency right is = subst (IsKnownAt Central) (some_is _ ctrl is) (draft_known unknowns Peripheral draft event latency right)

pub sent_known : (unknowns : Bool) (role : Role) (outgoing : Outgoing) (ctrl : Ctrl) → IsSentBy unknowns role outgoing ctrl → IsKnownAt (other_role role) ctrl
sent_known unknowns role outgoing ctrl sent = known_by unknowns role outgoing ctrl sent.event sent.latency sent.right sent.is
