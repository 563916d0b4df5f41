-- Each move of the exchanges is an event of the exchange of features, or none.
use Rattle.std.proofs.Common.{◌≡◌, false, not, Some, None, is_some, is_none, refl, ap, sym, ◌∙◌}
use Rattle.ble_base.specs.declared.roles.Role.{Role}
use Rattle.ble_base.specs.declared.roles.Role.TheVariants.{Central, Peripheral}
use Rattle.machines.specs.Machine.{run_from}
use Rattle.exchange_steps.specs.exchange_pairs.Exchange.{Answer, Question, is_question}
use Rattle.exchange_steps.specs.exchange_pairs.ExchangeRun
use Rattle.exchange_steps.specs.exchange_pairs.ExchangeRun.{end_sends, end_takes, exchanges, is_pdu}
use Rattle.exchange_steps.specs.Steps.{EndStep, begins_features, begins_lengths, begins_version, limits, terminates, wants_version}
use Rattle.joint_exchanges.specs.Machines.{features_event, features_in, features_link}
use Rattle.joint_exchanges.specs.Moves.{Does, Keeps, MayMove, Move, Sends, Takes, TakesKept, after_move}
use Rattle.joint_exchanges.specs.Parts.{AnyPdu, ExchangeParts, of_features, of_lengths, of_versions}
use Rattle.joint_exchanges.proofs.Runs.{both_true, comes}

abbrev Goes : Move → ExchangeParts → Type 0
Goes move p = features_link (after_move move p) ≡ run_from exchanges (features_link p) (features_event move)

module _ (p : ExchangeParts) where
  -- ---- what is of another exchange

  no_down : p.down ≡ None → features_link p ≡ record (features_link p) { down = None }
  no_down none = λ i. record (features_link p) { down = features_in (none i) }

  no_up : p.up ≡ None → features_link p ≡ record (features_link p) { up = None }
  no_up none = λ i. record (features_link p) { up = features_in (none i) }

  other_down : (pdu : AnyPdu) → features_in (Some pdu) ≡ None → p.down ≡ Some pdu → record (features_link p) { down = None } ≡ features_link p
  other_down pdu other is = λ i. record (features_link p) { down = sym (ap features_in is ∙ other) i }

  other_up : (pdu : AnyPdu) → features_in (Some pdu) ≡ None → p.up ≡ Some pdu → record (features_link p) { up = None } ≡ features_link p
  other_up pdu other is = λ i. record (features_link p) { up = sym (ap features_in is ∙ other) i }

  other_kept : (pdu : AnyPdu) → features_in (Some pdu) ≡ None → p.kept ≡ Some pdu → record (features_link p) { kept = false } ≡ features_link p
  other_kept pdu other is = λ i. record (features_link p) { kept = sym (ap (λ x. is_some (features_in x)) is ∙ ap is_some other) i }

  keeps_other : (pdu : AnyPdu) → features_in (Some pdu) ≡ None → p.up ≡ Some pdu → p.kept ≡ None
      → record (features_link p) { up = None; kept = false } ≡ features_link p
  keeps_other pdu other is none =
      λ i. record (features_link p) { up = sym (ap features_in is ∙ other) i; kept = sym (ap (λ x. is_some (features_in x)) none) i }

  -- ---- each move

  sends : (role : Role) (pdu : AnyPdu) → MayMove (Sends role pdu) p → Goes (Sends role pdu) p
  sends Central (of_features pdu) may =
      comes exchanges (ExchangeRun.Sends Central) (features_link p) _
      (both_true _ _ (ap (λ x. is_none (features_in x)) may.none) (ap is_some may.waits))
      (ap (λ first. end_sends Central first (features_link p)) (sym may.waits))
  sends Peripheral (of_features pdu) may =
      comes exchanges (ExchangeRun.Sends Peripheral) (features_link p) _
      (both_true _ _ (ap (λ x. is_none (features_in x)) may.none) (ap is_some may.waits))
      (ap (λ first. end_sends Peripheral first (features_link p)) (sym may.waits))
  sends Central (of_lengths pdu) may = sym (no_down may.none)
  sends Central of_versions may = sym (no_down may.none)
  sends Peripheral (of_lengths pdu) may = sym (no_up may.none)
  sends Peripheral of_versions may = sym (no_up may.none)

  takes : (role : Role) (pdu : AnyPdu) → MayMove (Takes role pdu) p → Goes (Takes role pdu) p
  takes Central (of_features pdu) may =
      comes exchanges (ExchangeRun.Takes Central) (features_link p) _ (ap (λ x. is_some (features_in x)) may)
      (ap (λ x. end_takes Central (features_in x) (features_link p)) (sym may))
  takes Peripheral (of_features pdu) may =
      comes exchanges (ExchangeRun.Takes Peripheral) (features_link p) _ (ap (λ x. is_some (features_in x)) may)
      (ap (λ x. end_takes Peripheral (features_in x) (features_link p)) (sym may))
  takes Central (of_lengths pdu) may = other_up (of_lengths pdu) refl may
  takes Central of_versions may = other_up of_versions refl may
  takes Peripheral (of_lengths pdu) may = other_down (of_lengths pdu) refl may
  takes Peripheral of_versions may = other_down of_versions refl may

  keeps : (pdu : AnyPdu) → MayMove (Keeps pdu) p → Goes (Keeps pdu) p
  keeps (of_features Question) may =
      comes exchanges ExchangeRun.Keeps (features_link p) _ (ap (λ x. is_pdu is_question (features_in x)) may.comes) refl
  keeps (of_features Answer) may = absurd may.first
  keeps (of_lengths pdu) may = keeps_other (of_lengths pdu) refl may.comes may.none_kept
  keeps of_versions may = keeps_other of_versions refl may.comes may.none_kept

  takes_kept : (pdu : AnyPdu) → MayMove (TakesKept pdu) p → Goes (TakesKept pdu) p
  takes_kept (of_features Question) may =
      comes exchanges ExchangeRun.TakesKept (features_link p) _ (ap (λ x. is_some (features_in x)) may.keeps) refl
  takes_kept (of_features Answer) may = absurd may.first
  takes_kept (of_lengths pdu) may = other_kept (of_lengths pdu) refl may.keeps
  takes_kept of_versions may = other_kept of_versions refl may.keeps

  does : (role : Role) (step : EndStep) → MayMove (Does role step) p → Goes (Does role step) p
  does Central begins_features may = comes exchanges (ExchangeRun.Begins Central) (features_link p) _ may refl
  does Peripheral begins_features may = comes exchanges (ExchangeRun.Begins Peripheral) (features_link p) _ may refl
  does Central terminates may = comes exchanges (ExchangeRun.Closes Central) (features_link p) _ (ap not may.features) refl
  does Peripheral terminates may = comes exchanges (ExchangeRun.Closes Peripheral) (features_link p) _ (ap not may.features) refl
  does Central wants_version may = refl
  does Peripheral wants_version may = refl
  does Central (limits tx) may = refl
  does Peripheral (limits tx) may = refl
  does Central begins_lengths may = refl
  does Peripheral begins_lengths may = refl
  does Central begins_version may = refl
  does Peripheral begins_version may = refl
  does role step may = absurd may

pub each_features : (move : Move) (p : ExchangeParts) → MayMove move p → Goes move p
each_features (Does role step) p may = does p role step may
each_features (Sends role pdu) p may = sends p role pdu may
each_features (Takes role pdu) p may = takes p role pdu may
each_features (Keeps pdu) p may = keeps p pdu may
each_features (TakesKept pdu) p may = takes_kept p pdu may
