-- Moves of the exchanges, one after another, by what they change of both ends.
use Rattle.std.proofs.Common.{◌≡◌, Bool, true, false, ◌||◌, List, [], ◌∷◌, ◌++◌, Option, Some, None, refl, ap, sym, ◌∙◌, subst}
use Rattle.std.specs.Bool.{⊤}
use Rattle.ble_base.specs.declared.roles.Role.{Role}
use Rattle.ble_base.specs.declared.roles.Role.TheVariants.{Central, Peripheral}
use Rattle.data_pdu.specs.declared.ctrl.Ctrl.{Ctrl}
use Rattle.exchange_steps.specs.exchange_pairs.Exchange.{is_idle}
use Rattle.exchange_steps.specs.Steps.{EndStep, MayCome, after_steps}
use Rattle.joint_exchanges.specs.JointMoves.{does, keeps, kept_taken, sends, takes}
use Rattle.joint_exchanges.specs.Moves.{IsFirst, MayDo, MayMoveAll, Move, after_move, after_moves, is_some_version, sending}
use Rattle.joint_exchanges.specs.Parts.{AnyPdu, ExchangeParts}
use Rattle.joint_exchanges.proofs.Reading.{after_taking}

pub record IsMoved (moves : List Move) (p q : ExchangeParts) : Type 0 where
  pub goes : q ≡ after_moves moves p
  pub may : MayMoveAll moves p

pub unmoved : (p q : ExchangeParts) → q ≡ p → IsMoved [] p q
unmoved p q same = record { goes = same; may = tt }

after_more : (first later : List Move) (p : ExchangeParts) → after_moves (first ++ later) p ≡ after_moves later (after_moves first p)
after_more [] later p = refl
after_more (move ∷ first) later p = after_more first later (after_move move p)

may_more : (first later : List Move) (p : ExchangeParts) → MayMoveAll first p → MayMoveAll later (after_moves first p) → MayMoveAll (first ++ later) p
may_more [] later p may then_may = then_may
may_more (move ∷ first) later p may then_may = (may.0, may_more first later (after_move move p) may.1 then_may)

pub then_moved : (first later : List Move) (p q r : ExchangeParts) → IsMoved first p q → IsMoved later q r → IsMoved (first ++ later) p r
then_moved first later p q r one two =
    record {
      goes = two.goes ∙ ap (after_moves later) one.goes ∙ sym (after_more first later p);
      may = may_more first later p one.may (subst (MayMoveAll later) one.goes two.may);
    }

-- ---- an end's own step

abbrev pub MayDoIf : Role → Option EndStep → ExchangeParts → Type 0
MayDoIf role None p = ⊤
MayDoIf role (Some step) p = MayDo role step p

pub central_does : (step : Option EndStep) (p q : ExchangeParts) → q ≡ record p { central = after_steps step p.central } → MayDoIf Central step p
    → IsMoved (does Central step) p q
central_does None p q is may = unmoved p q is
central_does (Some step) p q is may = record { goes = is; may = (may, tt) }

pub peripheral_does : (step : Option EndStep) (p q : ExchangeParts) → q ≡ record p { peripheral = after_steps step p.peripheral } → MayDoIf Peripheral step p
    → IsMoved (does Peripheral step) p q
peripheral_does None p q is may = unmoved p q is
peripheral_does (Some step) p q is may = record { goes = is; may = (may, tt) }

-- ---- a PDU is sent

abbrev pub sending_if : Option AnyPdu → Option EndStep
sending_if None = None
sending_if (Some pdu) = Some (sending pdu)

pub central_sends : (pdu : Option AnyPdu) (p q : ExchangeParts) → p.down ≡ None → q ≡ record p { central = after_steps (sending_if pdu) p.central; down = pdu }
    → MayCome (sending_if pdu) p.central → IsMoved (sends Central pdu) p q
central_sends None p q none is comes = unmoved p q (is ∙ (λ i. record p { down = sym none i }))
central_sends (Some pdu) p q none is comes = record { goes = is; may = (record { none = none; waits = comes }, tt) }

pub peripheral_sends : (pdu : Option AnyPdu) (p q : ExchangeParts) → p.up ≡ None → q ≡ record p { peripheral = after_steps (sending_if pdu) p.peripheral; up = pdu }
    → MayCome (sending_if pdu) p.peripheral → IsMoved (sends Peripheral pdu) p q
peripheral_sends None p q none is comes = unmoved p q (is ∙ (λ i. record p { up = sym none i }))
peripheral_sends (Some pdu) p q none is comes = record { goes = is; may = (record { none = none; waits = comes }, tt) }

-- ---- a PDU is taken

or_false : (b : Bool) → (b || false) ≡ b
or_false true = refl
or_false false = refl

pub central_takes : (pdu : Option AnyPdu) (p q : ExchangeParts) → p.up ≡ pdu
    → q ≡ record p { central = after_taking pdu p.central; central_knows = p.central_knows || is_some_version pdu; up = None }
    → IsMoved (takes Central pdu) p q
central_takes None p q comes is = unmoved p q (is ∙ (λ i. record p { central_knows = or_false p.central_knows i; up = sym comes i }))
central_takes (Some pdu) p q comes is = record { goes = is; may = (comes, tt) }

pub peripheral_takes : (pdu : Option AnyPdu) (p q : ExchangeParts) → p.down ≡ pdu
    → q ≡ record p { peripheral = after_taking pdu p.peripheral; peripheral_knows = p.peripheral_knows || is_some_version pdu; down = None }
    → IsMoved (takes Peripheral pdu) p q
peripheral_takes None p q comes is = unmoved p q (is ∙ (λ i. record p { peripheral_knows = or_false p.peripheral_knows i; down = sym comes i }))
peripheral_takes (Some pdu) p q comes is = record { goes = is; may = (comes, tt) }

-- ---- a PDU is kept, and taken afterwards

pub central_keeps : (pdu : Option AnyPdu) (p q : ExchangeParts) → p.up ≡ pdu → ((x : AnyPdu) → pdu ≡ Some x → IsFirst x) → p.kept ≡ None
    → is_idle p.central.versions.own ≡ true → q ≡ record p { up = None; kept = pdu } → IsMoved (keeps pdu) p q
central_keeps None p q comes first none idle is = unmoved p q (is ∙ (λ i. record p { up = sym comes i; kept = sym none i }))
central_keeps (Some pdu) p q comes first none idle is =
    record { goes = is; may = (record { comes = comes; first = first pdu refl; none_kept = none; idle = idle }, tt) }

pub kept_goes : (pdu : Option AnyPdu) (p q : ExchangeParts) → p.kept ≡ pdu → ((x : AnyPdu) → pdu ≡ Some x → IsFirst x)
    → q ≡ record p { central = after_taking pdu p.central; central_knows = p.central_knows || is_some_version pdu; kept = None }
    → IsMoved (kept_taken pdu None) p q
kept_goes None p q keeps first is = unmoved p q (is ∙ (λ i. record p { central_knows = or_false p.central_knows i; kept = sym keeps i }))
kept_goes (Some pdu) p q keeps first is = record { goes = is; may = (record { keeps = keeps; first = first pdu refl }, tt) }

-- nothing goes where the central keeps something afterwards, or kept nothing before
pub kept_stays : (pdu : Option AnyPdu) (ctrl : Ctrl) → kept_taken pdu (Some ctrl) ≡ []
kept_stays None ctrl = refl
kept_stays (Some pdu) ctrl = refl
