-- An end that encrypts nothing, and the steps that leave it so (Core 5.2, volume 6 part B, section 5.1.3; that links do
-- not encrypt yet is our choice).
use Rattle.std.specs.Prelude.{◌≡◌, Bool, true, false, not, None, if◌then◌else◌}
use Rattle.std.specs.List.{All}
use Rattle.data_pdu.specs.declared.ctrl.Ctrl.{Ctrl}
use Rattle.data_pdu.specs.declared.ctrl.Ctrl.TheVariants.{EncReq, PauseEncReq}
use Rattle.data_pdu.specs.declared.ctrl.CtrlRead.{CtrlRead}
use Rattle.data_pdu.specs.declared.ctrl.CtrlRead.TheVariants.{Known, Unknown}
use Rattle.data_pdu.specs.Reading.{opcode_of}
use Rattle.phased_control.specs.enc_phase.declared.facts.PhaseFacts.TheVariants.{Clear}
use Rattle.phased_control.specs.procedure_values.declared.asks.Ask.{Ask}
use Rattle.phased_control.specs.procedure_values.declared.asks.Ask.TheVariants.{Encrypt}
use Rattle.phased_control.specs.procedure_values.declared.drafts.Draft.{Draft}
use Rattle.phased_control.specs.procedure_values.declared.drafts.Draft.TheVariants.{Cipher}
use Rattle.phased_control.specs.procedure_values.declared.drafts.Outgoing.{Outgoing}
use Rattle.phased_control.specs.procedure_values.declared.drafts.Outgoing.TheVariants.{Other}
use Rattle.phased_control.specs.procedures.Table.{TableFacts}
use Rattle.phased_control.specs.table_laws.Encrypting.{has_encryption}
use Rattle.phased_control.specs.control_model.Supported.{begins_encryption}
use Rattle.phased_control.specs.control_model.Control.{Control, Step, Asks, Owes, Takes}
use Rattle.phased_control.specs.Phased.{Phased}

-- ---- an end that encrypts nothing

-- the host asks for anything but encryption
abbrev pub asks_no_encryption : Ask → Bool
asks_no_encryption (Encrypt rand ediv ltk skd_m iv_m) = false
asks_no_encryption other = true

-- a PDU that the layer above queued
abbrev pub is_cipher : Draft → Bool
is_cipher (Cipher ctrl) = true
is_cipher other = false

-- a PDU that goes next, or is out, was queued by the layer above
abbrev pub is_cipher_out : Outgoing → Bool
is_cipher_out (Other draft) = is_cipher draft
is_cipher_out other = false

-- neither end began an encryption, and nothing of one is wanted, waits or is out
pub record HasNoEncryption (f : TableFacts) : Type 0 where
  pub wanted : All (λ ask. asks_no_encryption ask ≡ true) f.wanted
  pub none_runs : has_encryption f.progress ≡ false
  pub waits : All (λ draft. is_cipher draft ≡ false) f.queue.drafts
  pub out : is_cipher_out f.out ≡ false

-- the control part of such an end
abbrev pub IsUnencrypted : Control → Type 0
IsUnencrypted c = HasNoEncryption c.table

-- such an end with its phase, which is Clear: nothing is kept, no key is asked for, and there is no request
abbrev pub plain_phased : Control → Bool → Phased
plain_phased c knows =
    record { control = c; phase = Clear; kept = None; asks_key = false; request = None; knows_version = knows }

-- ---- the PDUs of its peer

-- what is read is none of them
abbrev pub begins_no_encryption : CtrlRead → Bool
begins_no_encryption (Known ctrl) = not (begins_encryption ctrl)
begins_no_encryption other = true

-- what is read is LL_ENC_REQ (section 2.4.2.4)
abbrev pub is_enc_req : CtrlRead → Bool
is_enc_req (Known (EncReq rand ediv skd_m iv_m)) = true
is_enc_req other = false

-- ---- its steps

-- the host asks for no encryption, the layer above queues nothing, and no PDU that is taken begins one
abbrev pub encrypts_nothing : Step → Bool
encrypts_nothing (Asks ask) = asks_no_encryption ask
encrypts_nothing (Takes read slot quiet) = begins_no_encryption read
encrypts_nothing (Owes ctrl) = false
encrypts_nothing other = true
