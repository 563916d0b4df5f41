-- A small link as worked examples run it, turn by turn.
use Rattle.std.specs.Prelude.{ℕ, ◌-◌, Bool, true, false, List, [], ◌∷◌, ◌++◌, Option, None, replicate}
use Rattle.std.specs.Option.{option_map}
use Rattle.ble_base.specs.declared.error_codes.ErrCode.{ErrCode}
use Rattle.link_pairs.specs.procedure_values.declared.asks.Ask.TheVariants.{Update}
use Rattle.link_pairs.specs.link_model.Rows.{central_with, peripheral_with}
use Rattle.link_pairs.specs.link_model.Facts.{Facts}
use Rattle.link_pairs.specs.link_model.Step.{Disconnected, ProcedureAsked, Step}
use Rattle.link_runs.specs.Runs.{ends_of, slot_after}
use Rattle.link_runs.specs.Turn.{Ends, Given, ends_in_turn}

-- ---- turns

-- a turn in which the hosts do this, each end has the radio if it wants it, and the packets pass or are lost
abbrev pub turn_with : List Step → List Step → Bool → Bool → Given
turn_with central_host peripheral_host down up =
    record {
      central_host = central_host;
      peripheral_host = peripheral_host;
      central_served = true;
      peripheral_served = true;
      down = down;
      up = up;
      central_room = true;
      peripheral_room = true;
    }

-- this number of turns in which no host does anything: nothing is lost, or everything
abbrev pub calm : ℕ → List Given
calm count = replicate count (turn_with [] [] true true)

abbrev pub lost : ℕ → List Given
lost count = replicate count (turn_with [] [] false false)

-- ---- a link with an interval of 24 slots: the anchor of event e is in slot 2 + 24e

abbrev pub ends_by : List Given → Ends
ends_by turns = ends_of (central_with 0) (peripheral_with 0) turns

-- both ends at the end of a further turn, before one of them is shut
abbrev pub ends_before : List Given → Given → Ends
ends_before turns given =
    ends_in_turn (central_with 0) (peripheral_with 0) (slot_after (central_with 0) turns) given (ends_by turns)

abbrev pub none_open : Ends
none_open = record { central = None; peripheral = None }

-- of an end that is open: the slot in which it received its last good packet, the number of indications that hold, the
-- code with which a procedure ended the link, and that of its peer
abbrev pub last_heard : Option Facts → Option (Option ℕ)
last_heard end = option_map (λ (facts : Facts). option_map (λ good. good.slot) facts.last_good) end

abbrev pub applied : Option Facts → Option ℕ
applied end = option_map (λ (facts : Facts). facts.control.track.applied) end

abbrev pub ended_with : Option Facts → Option (Option ErrCode)
ended_with end = option_map (λ (facts : Facts). facts.control.ends) end

abbrev pub ended_by_peer : Option Facts → Option (Option ErrCode)
ended_by_peer end = option_map (λ (facts : Facts). facts.leaving.ended_by_peer) end

-- ---- runs: a host does something in slot 10

abbrev pub disconnects : Step
disconnects = Disconnected (record { 0 = 0x13 }) 10

-- the host of the peripheral ends the link; the last turn is in this slot
abbrev pub peripheral_leaves : ℕ → List Given
peripheral_leaves slot = calm 9 ++ turn_with [] (disconnects ∷ []) true true ∷ calm (slot - 10)

-- the host of the central does, and the answer in slot 26 passes or is lost
abbrev pub central_leaves : Bool → ℕ → List Given
central_leaves up slot =
    calm 9 ++ turn_with (disconnects ∷ []) [] true true ∷ calm 15 ++ turn_with [] [] true up ∷ calm (slot - 26)

abbrev pub asks_update : Step
asks_update = ProcedureAsked (Update 24 0 100)

-- the host of the central asks for a timeout of 1 s. The Instant is event 7, in slot 170. All is lost from slot 11 to
-- this one
abbrev pub update_asked : ℕ → List Given
update_asked slot =
    calm 9 ++ turn_with (asks_update ∷ []) [] true true ∷ lost (slot - 10)
