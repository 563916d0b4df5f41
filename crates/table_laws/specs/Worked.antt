-- Worked lists of calls: at the bound of what waits, and with a peer that does not keep the rules.
use Rattle.std.specs.Prelude.{true, false, List, [], ◌∷◌, ◌++◌, Ok, replicate}
use Rattle.data_pdu.specs.declared.ctrl.Ctrl.TheVariants.{ConnectionParamReq, EncReq, EncRsp, PhyReq, StartEncReq, StartEncRsp, VersionInd}
use Rattle.data_pdu.specs.declared.ctrl.CtrlRead.TheVariants.{Known, Unknown}
use Rattle.procedures.specs.procedure_values.declared.asks.Ask.TheVariants.{Encrypt, Update, Version, Length}
use Rattle.procedures.specs.procedure_values.Drafts.{no_offsets}
use Rattle.procedures.specs.Calls.{Call, asks, begins_one, takes, sends, is_acked, host_answers, disconnects, is_given}

-- sixteen PDUs that are not known, each of which is answered
abbrev pub sixteen_answers : List Call
sixteen_answers = replicate 16 (takes (Unknown 0xFF) 0 true)

-- the host is asked about a request; sixteen answers wait; the own LL_VERSION_IND and then LL_LENGTH_REQ wait, since
-- the peer's LL_VERSION_IND completes the exchange of versions; the host grants the request, and disconnects
abbrev pub crowding : List Call
crowding =
    takes (Known (ConnectionParamReq 6 6 0 10 0 0 no_offsets)) 0 true ∷ [] ++ sixteen_answers
    ++ asks Version ∷ begins_one 0 true ∷ takes (Known (VersionInd 0 0 0)) 0 true ∷ asks (Length 27) ∷ begins_one 0 true
    ∷ host_answers (Ok (Update 6 0 10)) ∷ disconnects (record { 0 = 0x13 }) ∷ []

-- a peripheral begins a PHY update anew; the first LL_PHY_UPDATE_IND is sent and acknowledged
abbrev pub begun_anew : List Call
begun_anew =
    takes (Known (PhyReq 1 1)) 0 true ∷ takes (Known (PhyReq 1 1)) 0 true ∷ sends 0 0 true 0 ∷ is_acked ∷ []

-- the host is asked again after its Disconnect, while seventeen other control PDUs wait
abbrev pub asked_at_the_end : List Call
asked_at_the_end =
    takes (Known (ConnectionParamReq 6 6 0 10 0 0 no_offsets)) 0 true ∷ [] ++ sixteen_answers
    ++ host_answers (Ok (Update 6 0 10)) ∷ disconnects (record { 0 = 0x13 })
    ∷ takes (Known (ConnectionParamReq 6 6 0 10 0 0 no_offsets)) 0 true ∷ []

-- the host asks for an encryption, which begins with LL_ENC_REQ
abbrev pub encryption_begun : List Call
encryption_begun = asks (Encrypt 0 0 (replicate 16 0) 0 0) ∷ begins_one 0 true ∷ is_given (EncReq 0 0 0 0) ∷ []

-- that is sent and acknowledged; LL_ENC_RSP and LL_START_ENC_REQ are taken, and LL_START_ENC_RSP waits
abbrev pub encryption_asked : List Call
encryption_asked =
    sends 0 0 false 0 ∷ is_acked ∷ takes (Known (EncRsp 0 0)) 0 false ∷ takes (Known StartEncReq) 0 false
    ∷ is_given StartEncRsp ∷ []
