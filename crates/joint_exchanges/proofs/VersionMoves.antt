-- Each move of the exchanges is an event of the exchange of versions, or none.
use Rattle.std.proofs.Common.{◌≡◌, Bool, true, false, not, ◌||◌, [], ◌∷◌, Option, Some, None, refl, ap, sym, ◌∙◌}
use Rattle.ble_base.specs.declared.roles.Role.{Role}
use Rattle.ble_base.specs.declared.roles.Role.TheVariants.{Central, Peripheral}
use Rattle.machines.specs.Machine.{run_from}
use Rattle.exchange_steps.specs.exchange_pairs.VersionRun
use Rattle.exchange_steps.specs.exchange_pairs.VersionRun.{VersionEvent, VersionLink, versions}
use Rattle.exchange_steps.specs.Steps.{EndStep, begins_features, begins_lengths, begins_version, limits, terminates, wants_version}
use Rattle.joint_exchanges.specs.Machines.{versions_event, versions_link}
use Rattle.joint_exchanges.specs.Moves.{Does, Keeps, MayMove, Move, Sends, Takes, TakesKept, after_move, is_some_version, is_version}
use Rattle.joint_exchanges.specs.Parts.{AnyPdu, ExchangeParts, of_features, of_lengths, of_versions}
use Rattle.joint_exchanges.proofs.Runs.{both_true, comes}

abbrev Goes : Move → ExchangeParts → Type 0
Goes move p = versions_link (after_move move p) ≡ run_from versions (versions_link p) (versions_event move)

or_true : (b : Bool) → (b || true) ≡ true
or_true true = refl
or_true false = refl

or_false : (b : Bool) → (b || false) ≡ b
or_false true = refl
or_false false = refl

module _ (p : ExchangeParts) where
  abbrev link : VersionLink
  link = versions_link p

  comes_now : (event : VersionEvent) (t : VersionLink) → VersionRun.may event link ≡ true → t ≡ VersionRun.act event link
      → t ≡ run_from versions link (event ∷ [])
  comes_now event t may is = comes versions event link t may is

  -- ---- what is of another exchange

  no_down : (way : Option AnyPdu) → is_some_version way ≡ false → p.down ≡ way → record link { down = false } ≡ link
  no_down way other is = λ i. record link { down = sym (ap is_some_version is ∙ other) i }

  no_up : (way : Option AnyPdu) → is_some_version way ≡ false → p.up ≡ way → record link { up = false } ≡ link
  no_up way other is = λ i. record link { up = sym (ap is_some_version is ∙ other) i }

  takes_down : (pdu : AnyPdu) → is_version pdu ≡ false → p.down ≡ Some pdu
      → record link { down = false; peripheral_knows = p.peripheral_knows || is_version pdu } ≡ link
  takes_down pdu other is =
      λ i. record link {
        down = sym (ap is_some_version is ∙ other) i;
        peripheral_knows = (ap (λ x. p.peripheral_knows || x) other ∙ or_false p.peripheral_knows) i;
      }

  takes_up : (pdu : AnyPdu) → is_version pdu ≡ false → p.up ≡ Some pdu
      → record link { up = false; central_knows = p.central_knows || is_version pdu } ≡ link
  takes_up pdu other is =
      λ i. record link {
        up = sym (ap is_some_version is ∙ other) i;
        central_knows = (ap (λ x. p.central_knows || x) other ∙ or_false p.central_knows) i;
      }

  takes_other : (pdu : AnyPdu) → is_version pdu ≡ false → p.kept ≡ Some pdu
      → record link { kept = false; central_knows = p.central_knows || is_version pdu } ≡ link
  takes_other pdu other is =
      λ i. record link {
        kept = sym (ap is_some_version is ∙ other) i;
        central_knows = (ap (λ x. p.central_knows || x) other ∙ or_false p.central_knows) i;
      }

  keeps_other : (pdu : AnyPdu) → is_version pdu ≡ false → p.up ≡ Some pdu → p.kept ≡ None
      → record link { up = false; kept = is_version pdu } ≡ link
  keeps_other pdu other is none =
      λ i. record link { up = sym (ap is_some_version is ∙ other) i; kept = (other ∙ sym (ap is_some_version none)) i }

  -- ---- each move

  sends : (role : Role) (pdu : AnyPdu) → MayMove (Sends role pdu) p → Goes (Sends role pdu) p
  sends Central of_versions may =
      comes_now (VersionRun.Sends Central) _
      (both_true _ _ (ap (λ x. not (is_some_version x)) may.none) (ap not may.waits)) refl
  sends Peripheral of_versions may =
      comes_now (VersionRun.Sends Peripheral) _
      (both_true _ _ (ap (λ x. not (is_some_version x)) may.none) (ap not may.waits)) refl
  sends Central (of_features pdu) may = no_down None refl may.none
  sends Central (of_lengths pdu) may = no_down None refl may.none
  sends Peripheral (of_features pdu) may = no_up None refl may.none
  sends Peripheral (of_lengths pdu) may = no_up None refl may.none

  takes : (role : Role) (pdu : AnyPdu) → MayMove (Takes role pdu) p → Goes (Takes role pdu) p
  takes Central of_versions may =
      comes_now (VersionRun.Takes Central) _ (ap is_some_version may)
      (λ i. record (VersionRun.with_taken Central link) { central_knows = or_true p.central_knows i })
  takes Peripheral of_versions may =
      comes_now (VersionRun.Takes Peripheral) _ (ap is_some_version may)
      (λ i. record (VersionRun.with_taken Peripheral link) { peripheral_knows = or_true p.peripheral_knows i })
  takes Central (of_features pdu) may = takes_up (of_features pdu) refl may
  takes Central (of_lengths pdu) may = takes_up (of_lengths pdu) refl may
  takes Peripheral (of_features pdu) may = takes_down (of_features pdu) refl may
  takes Peripheral (of_lengths pdu) may = takes_down (of_lengths pdu) refl may

  keeps : (pdu : AnyPdu) → MayMove (Keeps pdu) p → Goes (Keeps pdu) p
  keeps of_versions may =
      comes_now VersionRun.Keeps _ (both_true _ _ (ap is_some_version may.comes) may.idle) refl
  keeps (of_features pdu) may = keeps_other (of_features pdu) refl may.comes may.none_kept
  keeps (of_lengths pdu) may = keeps_other (of_lengths pdu) refl may.comes may.none_kept

  takes_kept : (pdu : AnyPdu) → MayMove (TakesKept pdu) p → Goes (TakesKept pdu) p
  takes_kept of_versions may =
      comes_now VersionRun.TakesKept _ (ap is_some_version may.keeps)
      (λ i. record (VersionRun.act VersionRun.TakesKept link) { central_knows = or_true p.central_knows i })
  takes_kept (of_features pdu) may = takes_other (of_features pdu) refl may.keeps
  takes_kept (of_lengths pdu) may = takes_other (of_lengths pdu) refl may.keeps

  does : (role : Role) (step : EndStep) → MayMove (Does role step) p → Goes (Does role step) p
  does Central wants_version may =
      comes_now (VersionRun.Wants Central) _ (both_true _ _ (ap not may.unknown) (both_true _ _ may.idle may.unwanted)) refl
  does Peripheral wants_version may =
      comes_now (VersionRun.Wants Peripheral) _ (both_true _ _ (ap not may.unknown) (both_true _ _ may.idle may.unwanted)) refl
  does Central begins_version may = comes_now (VersionRun.Begins Central) _ (both_true _ _ may.may (ap not may.none_kept)) refl
  does Peripheral begins_version may = comes_now (VersionRun.Begins Peripheral) _ (both_true _ _ may.may (ap not may.none_kept)) refl
  does Central terminates may = comes_now (VersionRun.Closes Central) _ (ap not may.versions) refl
  does Peripheral terminates may = comes_now (VersionRun.Closes Peripheral) _ (ap not may.versions) refl
  does Central (limits tx) may = refl
  does Peripheral (limits tx) may = refl
  does Central begins_features may = refl
  does Peripheral begins_features may = refl
  does Central begins_lengths may = refl
  does Peripheral begins_lengths may = refl
  does role step may = absurd may

pub each_version : (move : Move) (p : ExchangeParts) → MayMove move p → Goes move p
each_version (Does role step) p may = does p role step may
each_version (Sends role pdu) p may = sends p role pdu may
each_version (Takes role pdu) p may = takes p role pdu may
each_version (Keeps pdu) p may = keeps p pdu may
each_version (TakesKept pdu) p may = takes_kept p pdu may
