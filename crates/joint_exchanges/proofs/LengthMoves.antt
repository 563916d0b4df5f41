-- Each move of the exchanges is an event of the exchange of lengths, or none.
use Rattle.std.proofs.Common.{◌≡◌, ℕ, true, not, [], ◌∷◌, Option, Some, None, is_some, is_none, option_map, refl, ap, sym, ◌∙◌}
use Rattle.ble_base.specs.declared.roles.Role.{Role}
use Rattle.ble_base.specs.declared.roles.Role.TheVariants.{Central, Peripheral}
use Rattle.machines.specs.Machine.{run_from}
use Rattle.exchange_steps.specs.exchange_pairs.Exchange.{is_question}
use Rattle.exchange_steps.specs.exchange_pairs.LengthRun
use Rattle.exchange_steps.specs.exchange_pairs.LengthRun.{Control, LengthLink, LengthWay, central_keeps, central_takes_kept, end_sends, end_takes, is_question_way, length_exchanges}
use Rattle.exchange_steps.specs.exchange_pairs.Lengths.{LengthPdu}
use Rattle.exchange_steps.specs.Steps.{EndStep, begins_features, begins_lengths, begins_version, limits, terminates, wants_version}
use Rattle.joint_exchanges.specs.Machines.{SentMaxima, lengths_event, lengths_in, lengths_link, maxima_after}
use Rattle.joint_exchanges.specs.Moves.{Does, Keeps, MayMove, Move, Sends, Takes, TakesKept, after_move}
use Rattle.joint_exchanges.specs.Parts.{AnyPdu, ExchangeParts, of_features, of_lengths, of_versions}
use Rattle.joint_exchanges.proofs.Runs.{both_true, comes}

-- the PDU of lengths that is on its way
abbrev way_of : Option AnyPdu → Option LengthWay
way_of pdu = option_map (λ (x : LengthPdu). Control x) (lengths_in pdu)

module _ (central_rx peripheral_rx : ℕ) (maxima : SentMaxima) where
  abbrev Goes : Move → ExchangeParts → Type 0
  Goes move p =
      lengths_link (maxima_after move maxima) (after_move move p)
      ≡ run_from (length_exchanges central_rx peripheral_rx) (lengths_link maxima p) (lengths_event move)

  module _ (p : ExchangeParts) where
    abbrev link : LengthLink
    link = lengths_link maxima p

    comes_now : (event : LengthRun.LengthEvent) (t : LengthLink) → LengthRun.may event link ≡ true → t ≡ LengthRun.act event link
        → t ≡ run_from (length_exchanges central_rx peripheral_rx) link (event ∷ [])
    comes_now event t may is = comes (length_exchanges central_rx peripheral_rx) event link t may is

    -- ---- what is of another exchange

    no_down : p.down ≡ None → record link { down = None } ≡ link
    no_down none = λ i. record link { down = way_of (sym none i) }

    no_up : p.up ≡ None → record link { up = None } ≡ link
    no_up none = λ i. record link { up = way_of (sym none i) }

    other_down : (pdu : AnyPdu) → way_of (Some pdu) ≡ None → p.down ≡ Some pdu → record link { down = None } ≡ link
    other_down pdu other is = λ i. record link { down = sym (ap way_of is ∙ other) i }

    other_up : (pdu : AnyPdu) → way_of (Some pdu) ≡ None → p.up ≡ Some pdu → record link { up = None } ≡ link
    other_up pdu other is = λ i. record link { up = sym (ap way_of is ∙ other) i }

    other_kept : (pdu : AnyPdu) → lengths_in (Some pdu) ≡ None → p.kept ≡ Some pdu → record link { kept = None } ≡ link
    other_kept pdu other is = λ i. record link { kept = sym (ap lengths_in is ∙ other) i }

    keeps_other : (pdu : AnyPdu) → way_of (Some pdu) ≡ None → p.up ≡ Some pdu → p.kept ≡ None
        → record link { up = None; kept = None } ≡ link
    keeps_other pdu other is none = λ i. record link { up = sym (ap way_of is ∙ other) i; kept = sym (ap lengths_in none) i }

    -- ---- each move

    sends : (role : Role) (pdu : AnyPdu) → MayMove (Sends role pdu) p → Goes (Sends role pdu) p
    sends Central (of_lengths pdu) may =
        comes_now (LengthRun.Sends Central) _
        (both_true _ _ (ap (λ x. is_none (way_of x)) may.none) (ap is_some may.waits))
        (ap (λ first. end_sends Central first link) (sym may.waits))
    sends Peripheral (of_lengths pdu) may =
        comes_now (LengthRun.Sends Peripheral) _
        (both_true _ _ (ap (λ x. is_none (way_of x)) may.none) (ap is_some may.waits))
        (ap (λ first. end_sends Peripheral first link) (sym may.waits))
    sends Central (of_features pdu) may = no_down may.none
    sends Central of_versions may = no_down may.none
    sends Peripheral (of_features pdu) may = no_up may.none
    sends Peripheral of_versions may = no_up may.none

    takes : (role : Role) (pdu : AnyPdu) → MayMove (Takes role pdu) p → Goes (Takes role pdu) p
    takes Central (of_lengths pdu) may =
        comes_now (LengthRun.Takes Central) _ (ap (λ x. is_some (way_of x)) may)
        (ap (λ x. end_takes Central (way_of x) link) (sym may))
    takes Peripheral (of_lengths pdu) may =
        comes_now (LengthRun.Takes Peripheral) _ (ap (λ x. is_some (way_of x)) may)
        (ap (λ x. end_takes Peripheral (way_of x) link) (sym may))
    takes Central (of_features pdu) may = other_up (of_features pdu) refl may
    takes Central of_versions may = other_up of_versions refl may
    takes Peripheral (of_features pdu) may = other_down (of_features pdu) refl may
    takes Peripheral of_versions may = other_down of_versions refl may

    keeps : (pdu : AnyPdu) → MayMove (Keeps pdu) p → Goes (Keeps pdu) p
    keeps (of_lengths pdu) may =
        comes_now LengthRun.Keeps _
        (both_true _ _ (ap (λ x. is_question_way (way_of x)) may.comes ∙ ap is_question may.first) (ap (λ x. is_none (lengths_in x)) may.none_kept))
        (ap (λ x. central_keeps (way_of x) link) (sym may.comes))
    keeps (of_features pdu) may = keeps_other (of_features pdu) refl may.comes may.none_kept
    keeps of_versions may = keeps_other of_versions refl may.comes may.none_kept

    takes_kept : (pdu : AnyPdu) → MayMove (TakesKept pdu) p → Goes (TakesKept pdu) p
    takes_kept (of_lengths pdu) may =
        comes_now LengthRun.TakesKept _ (ap (λ x. is_some (lengths_in x)) may.keeps)
        (ap (λ x. central_takes_kept (lengths_in x) link) (sym may.keeps))
    takes_kept (of_features pdu) may = other_kept (of_features pdu) refl may.keeps
    takes_kept of_versions may = other_kept of_versions refl may.keeps

    does : (role : Role) (step : EndStep) → MayMove (Does role step) p → Goes (Does role step) p
    does Central begins_lengths may = comes_now (LengthRun.Begins Central) _ may refl
    does Peripheral begins_lengths may = comes_now (LengthRun.Begins Peripheral) _ may refl
    does Central (limits tx) may = comes_now (LengthRun.Limits Central tx) _ refl refl
    does Peripheral (limits tx) may = comes_now (LengthRun.Limits Peripheral tx) _ refl refl
    does Central terminates may = comes_now (LengthRun.Closes Central) _ (ap not may.lengths) refl
    does Peripheral terminates may = comes_now (LengthRun.Closes Peripheral) _ (ap not may.lengths) refl
    does Central wants_version may = refl
    does Peripheral wants_version may = refl
    does Central begins_features may = refl
    does Peripheral begins_features may = refl
    does Central begins_version may = refl
    does Peripheral begins_version may = refl
    does role step may = absurd may

  pub each_length : (move : Move) (p : ExchangeParts) → MayMove move p → Goes move p
  each_length (Does role step) p may = does p role step may
  each_length (Sends role pdu) p may = sends p role pdu may
  each_length (Takes role pdu) p may = takes p role pdu may
  each_length (Keeps pdu) p may = keeps p pdu may
  each_length (TakesKept pdu) p may = takes_kept p pdu may
