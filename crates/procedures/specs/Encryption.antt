-- Encryption start and pause, as the table of procedures sees them (Core 5.2, volume 6 part B, section 5.1.3): the phases
-- are kept by the layer above.
use Rattle.std.specs.Prelude.{Bool, if◌then◌else◌, true, false}
use Rattle.ble_base.specs.declared.procedure_kinds.Kind.TheVariants.{Encrypt}
use Rattle.data_pdu.specs.declared.ctrl.Ctrl.{Ctrl}
use Rattle.data_pdu.specs.declared.ctrl.Ctrl.TheVariants.{RejectExtInd}
use Rattle.procedure_stages.specs.declared.stages.Central.{Central}
use Rattle.procedure_stages.specs.declared.stages.OwnCentral.TheVariants.{Exclusive as exclusive}
use Rattle.exclusive_stages.specs.declared.stages.CentralStage.TheVariants.{Idle}
use Rattle.procedure_stages.specs.declared.stages.Progress.TheVariants.{Central as central, Peripheral as peripheral}
use Rattle.procedure_stages.specs.declared.stages.Peripheral.{Peripheral}
use Rattle.procedure_stages.specs.declared.stages.Progress.{Progress}
use Rattle.procedure_stages.specs.Awaited.{is_own_encryption}
use Rattle.procedures.specs.declared.outcome.Outcome.{Outcome}
use Rattle.procedure_stages.specs.declared.steps.Effect.TheVariants.{Cipher}
use Rattle.procedures.specs.Table.{TableFacts}
use Rattle.procedures.specs.Outcomes.{unchanged, with_effect, moved, with_done}

-- ---- at the central: in phase Clear or Secure no procedure awaits these PDUs, and they are ignored

-- LL_ENC_RSP, LL_START_ENC_REQ or LL_PAUSE_ENC_RSP is taken: the encryption goes on
abbrev pub cipher_at_central : TableFacts → Central → Bool → Ctrl → Outcome
cipher_at_central f c quiet ctrl =
    (if quiet then unchanged f
    else record (with_effect (Cipher ctrl) (unchanged f)) { restarts = is_own_encryption c.own })

-- LL_START_ENC_RSP is taken: the link is encrypted
abbrev pub secured : TableFacts → Central → Outcome
secured f c =
    (if is_own_encryption c.own then with_done Encrypt (moved f (central (record c { own = exclusive Idle }))) else unchanged f)

abbrev pub start_rsp_at_central : TableFacts → Central → Bool → Ctrl → Outcome
start_rsp_at_central f c quiet ctrl = (if quiet then unchanged f else with_effect (Cipher ctrl) (secured f c))

-- ---- at the peripheral

-- LL_ENC_REQ or LL_PAUSE_ENC_REQ is taken: an encryption of the central is in progress
abbrev pub encryption_begun : TableFacts → Peripheral → Ctrl → Outcome
encryption_begun f p ctrl = with_effect (Cipher ctrl) (moved f (peripheral (record p { encrypting = true })))

-- LL_PAUSE_ENC_RSP is taken: it goes on
abbrev pub pause_rsp_at_peripheral : TableFacts → Bool → Ctrl → Outcome
pause_rsp_at_peripheral f quiet ctrl = (if quiet then unchanged f else with_effect (Cipher ctrl) (unchanged f))

-- LL_START_ENC_RSP is taken: the link is encrypted
abbrev pub start_rsp_at_peripheral : TableFacts → Peripheral → Bool → Ctrl → Outcome
start_rsp_at_peripheral f p quiet ctrl =
    (if quiet then unchanged f else with_effect (Cipher ctrl) (moved f (peripheral (record p { encrypting = false }))))

-- the refusal of a start is queued, which ends the central's encryption here
abbrev pub is_rejection : Ctrl → Bool
is_rejection (RejectExtInd opcode code) = true
is_rejection other = false

abbrev pub progress_given : Progress → Ctrl → Progress
progress_given (central c) ctrl = central c
progress_given (peripheral p) ctrl =
    (if is_rejection ctrl then peripheral (record p { encrypting = false }) else peripheral p)
