-- Worked steps of a central at which many control PDUs wait.
use Rattle.std.specs.Prelude.{List, [], ◌∷◌, ◌++◌, Ok, replicate}
use Rattle.data_pdu.specs.declared.ctrl.Ctrl.TheVariants.{ConnectionParamReq, VersionInd}
use Rattle.data_pdu.specs.declared.ctrl.CtrlRead.TheVariants.{Known, Unknown}
use Rattle.phased_control.specs.procedure_values.declared.asks.Ask.TheVariants.{Features, Length, Update, Version}
use Rattle.phased_control.specs.procedure_values.Drafts.{no_offsets}
use Rattle.phased_control.specs.Taken.{PhasedStep, Answers, Asks, Disconnects, Enters}
use Rattle.phased_control.specs.Worked.{answers_too_early, takes}

-- the host is asked about a request; sixteen answers wait; the own LL_VERSION_IND and then LL_LENGTH_REQ wait, since
-- the peer's LL_VERSION_IND completes the exchange of versions; the host grants the request, and disconnects
abbrev pub crowding : List PhasedStep
crowding =
    takes (Known (ConnectionParamReq 6 6 0 10 0 0 no_offsets)) ∷ replicate 16 (takes (Unknown 0xFF))
    ++ Asks Version ∷ Enters 0 ∷ takes (Known (VersionInd 0 0 0)) ∷ Asks (Length 27) ∷ Enters 0
    ∷ Answers (Ok (Update 6 0 10)) ∷ Disconnects (record { 0 = 0x13 }) ∷ []

-- fourteen answers wait; the peer answers LL_ENC_REQ before it is sent, and then a further procedure begins
abbrev pub begins_again : List PhasedStep
begins_again =
    replicate 14 (takes (Unknown 0xFF)) ++ answers_too_early
    ++ Asks Features ∷ Enters 0 ∷ Disconnects (record { 0 = 0x13 }) ∷ []
