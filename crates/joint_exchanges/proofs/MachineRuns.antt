-- Moves one after another are a run of each of the machines of exchanges.
use Rattle.std.proofs.Common.{◌≡◌, ℕ, true, List, [], ◌∷◌, ◌++◌, refl, ap, sym, ◌∙◌}
use Rattle.instants.specs.declared.indications.Params.{Params}
use Rattle.machines.specs.Machine.{run, run_from}
use Rattle.exchange_steps.specs.exchange_pairs.ExchangeRun.{exchanges}
use Rattle.exchange_steps.specs.exchange_pairs.LengthLaws.{none_accepts}
use Rattle.exchange_steps.specs.exchange_pairs.LengthRun.{LengthEvent, length_exchanges}
use Rattle.exchange_steps.specs.exchange_pairs.VersionRun.{versions}
use Rattle.exchange_steps.specs.Steps.{begins_lengths, limits, terminates}
use Rattle.joint_controls.specs.Joint.{Joint, JointStep, after_all, beginning, is_running}
use Rattle.joint_exchanges.specs.Machines.{SentMaxima, events_of, features_event, features_link, lengths_event, lengths_link, maxima_after, maxima_after_all, none_sent, versions_event, versions_link}
use Rattle.joint_exchanges.specs.Moves.{Does, Keeps, MayMoveAll, Move, Sends, Takes, TakesKept, after_move, after_moves}
use Rattle.joint_exchanges.specs.Parts.{ExchangeParts, of_lengths, parts_of}
use Rattle.joint_exchanges.specs.Runs.{moves_in}
use Rattle.joint_exchanges.proofs.CentralKeeps.{central_keeps}
use Rattle.joint_exchanges.proofs.Features.{each_features}
use Rattle.joint_exchanges.proofs.JointRuns.{first_roles, run_moves}
use Rattle.joint_exchanges.proofs.LengthMoves.{each_length}
use Rattle.joint_exchanges.proofs.PartMoves.{IsMoved}
use Rattle.joint_exchanges.proofs.Runs.{run_more}
use Rattle.joint_exchanges.proofs.VersionMoves.{each_version}

pub features_run : (moves : List Move) (p : ExchangeParts) → MayMoveAll moves p
    → features_link (after_moves moves p) ≡ run_from exchanges (features_link p) (events_of features_event moves)
features_run [] p may = refl
features_run (move ∷ moves) p may =
    features_run moves (after_move move p) may.1
    ∙ ap (λ s. run_from exchanges s (events_of features_event moves)) (each_features move p may.0)
    ∙ sym (run_more exchanges (features_link p) (features_event move) (events_of features_event moves))

pub versions_run : (moves : List Move) (p : ExchangeParts) → MayMoveAll moves p
    → versions_link (after_moves moves p) ≡ run_from versions (versions_link p) (events_of versions_event moves)
versions_run [] p may = refl
versions_run (move ∷ moves) p may =
    versions_run moves (after_move move p) may.1
    ∙ ap (λ s. run_from versions s (events_of versions_event moves)) (each_version move p may.0)
    ∙ sym (run_more versions (versions_link p) (versions_event move) (events_of versions_event moves))

pub lengths_run : (central_rx peripheral_rx : ℕ) (moves : List Move) (p : ExchangeParts) (sent : SentMaxima) → MayMoveAll moves p
    → lengths_link (maxima_after_all moves sent) (after_moves moves p)
    ≡ run_from (length_exchanges central_rx peripheral_rx) (lengths_link sent p) (events_of lengths_event moves)
lengths_run central_rx peripheral_rx [] p sent may = refl
lengths_run central_rx peripheral_rx (move ∷ moves) p sent may =
    lengths_run central_rx peripheral_rx moves (after_move move p) (maxima_after move sent) may.1
    ∙ ap (λ s. run_from (length_exchanges central_rx peripheral_rx) s (events_of lengths_event moves)) (each_length central_rx peripheral_rx sent move p may.0)
    ∙ sym (run_more (length_exchanges central_rx peripheral_rx) (lengths_link sent p) (lengths_event move) (events_of lengths_event moves))

-- what an end receives never changes
none_more : (first later : List LengthEvent) → none_accepts first ≡ true → none_accepts later ≡ true → none_accepts (first ++ later) ≡ true
none_more [] later a b = b
none_more (LengthEvent.Accepts role octets ∷ first) later a b = absurd (cc)
none_more (event ∷ first) later a b = none_more first later a b

one_accepts_none : (move : Move) → none_accepts (lengths_event move) ≡ true
one_accepts_none (Does role (limits tx)) = refl
one_accepts_none (Does role begins_lengths) = refl
one_accepts_none (Does role terminates) = refl
one_accepts_none (Does role step) = refl
one_accepts_none (Sends role (of_lengths pdu)) = refl
one_accepts_none (Sends role pdu) = refl
one_accepts_none (Takes role (of_lengths pdu)) = refl
one_accepts_none (Takes role pdu) = refl
one_accepts_none (Keeps (of_lengths pdu)) = refl
one_accepts_none (Keeps pdu) = refl
one_accepts_none (TakesKept (of_lengths pdu)) = refl
one_accepts_none (TakesKept pdu) = refl

pub none_ever : (moves : List Move) → none_accepts (events_of lengths_event moves) ≡ true
none_ever [] = refl
none_ever (move ∷ moves) = none_more (lengths_event move) (events_of lengths_event moves) (one_accepts_none move) (none_ever moves)

-- ---- a joint run that goes on

module _ (central_rx peripheral_rx : ℕ) (first : Params) (slot : ℕ) (steps : List JointStep) where
  abbrev start : Joint
  start = beginning central_rx peripheral_rx first slot

  abbrev now : Joint
  now = after_all steps start

  abbrev moves : List Move
  moves = moves_in steps start

  module _ (goes : is_running now ≡ true) where
    pub moved : IsMoved moves (parts_of start) (parts_of now)
    moved = run_moves steps start (first_roles true central_rx peripheral_rx first slot) (central_keeps central_rx peripheral_rx first slot) goes

    pub features_now : features_link (parts_of now) ≡ run exchanges (events_of features_event moves)
    features_now = ap features_link moved.goes ∙ features_run moves (parts_of start) moved.may

    pub versions_now : versions_link (parts_of now) ≡ run versions (events_of versions_event moves)
    versions_now = ap versions_link moved.goes ∙ versions_run moves (parts_of start) moved.may

    pub lengths_now : lengths_link (maxima_after_all moves none_sent) (parts_of now) ≡ run (length_exchanges central_rx peripheral_rx) (events_of lengths_event moves)
    lengths_now =
        ap (lengths_link (maxima_after_all moves none_sent)) moved.goes
        ∙ lengths_run central_rx peripheral_rx moves (parts_of start) none_sent moved.may
