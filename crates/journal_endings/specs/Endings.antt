-- Errors with which no link of two of these controllers ends (Core 5.2, volume 6 part B, section 5.3).
use Rattle.std.specs.Prelude.{◌≡◌, ℕ, ◌==◌, ◌||◌, Bool, false, List, ◌∷◌, ◌++◌}
use Rattle.ble_base.specs.ErrorCodes.{different_transaction_collision, ll_procedure_collision, memory_capacity_exceeded}
use Rattle.ble_base.specs.declared.error_codes.ErrCode.{ErrCode}
use Rattle.ble_base.specs.declared.roles.Side.{Side}
use Rattle.journal.specs.declared.entries.Entry.{Entry}
use Rattle.journal.specs.declared.entries.Entry.TheVariants.{Shut}
use Rattle.journal_indications.specs.journal_data.Followed.{Mixed}

-- an end ends its link with one of these where its peer does not follow the rules of control procedures: with 07 where
-- there is no room to queue an answer (our choice), and with 23 or 2A where procedures collide otherwise than section 5.3
-- lets them, or an indication is taken while another one waits (that it ends the link is our choice)
abbrev pub is_protocol_error : ErrCode → Bool
is_protocol_error code =
    (code.0 == memory_capacity_exceeded)
    || ((code.0 == ll_procedure_collision) || (code.0 == different_transaction_collision))

-- no line says that a link is shut with one of them, as long as no packet of the link is mixed
abbrev pub NoneEndsByProtocolError : Mixed → List Entry → Type 0
NoneEndsByProtocolError mixed journal = (front rest : List Entry) (side : Side) (number : ℕ) (reason : ErrCode)
    → journal ≡ front ++ Shut side number reason ∷ rest → mixed number front ≡ false → is_protocol_error reason ≡ false
