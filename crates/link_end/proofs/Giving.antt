-- What an end holds, and whether it draws, as its procedures take a control PDU.
use Rattle.std.proofs.Common.{◌≡◌, ◌∙◌, ℕ, Bool, true, false, ◌&&◌, Option, refl, sym, ap}
use Rattle.data_pdu.specs.declared.ctrl.Ctrl.{Ctrl}
use Rattle.data_pdu.specs.declared.ctrl.CtrlRead.{CtrlRead}
use Rattle.link_model.specs.phased_end.control_end.procedure_values.Limits.{rx_of, tx_of}
use Rattle.link_model.specs.phased_end.declared.taking.TakenKeyed.{TakenKeyed}
use Rattle.link_model.specs.phased_end.Held.{HeldKeyed, held_after}
use Rattle.link_model.specs.phased_end.Moves.{lasts}
use Rattle.link_model.specs.phased_end.Taking.{drawn, is_handed, taken_keyed}
use Rattle.link_model.specs.phased_end.keyed_control.KeyedSteps.{Takes}
use Rattle.link_model.specs.Acknowledgement.{Pdu}
use Rattle.link_model.specs.unencrypted_ends.Unencrypted.{is_enc_req}
use Rattle.link_model.specs.Controls.{read_of}
use Rattle.link_model.specs.Receiving.{code_of, leaving_by, kept_answered, lengths_reported, peer_answered}
use Rattle.link_end.specs.Held.{Held}
use Rattle.link_end.specs.Receiving.{draws_if, held_given_if, lengths_seen_from, may_answer}

joined : (a b c d : Bool) → ((a && (b && c)) && d) ≡ (a && (b && (c && d)))
joined true true c d = refl
joined true false c d = refl
joined false b c d = refl

pub draws : (pdu : Pdu) (slot : ℕ) (held now : Held) (read : CtrlRead) (sees answers drew : Bool) (after last : HeldKeyed)
    → held ≡ now → read ≡ read_of pdu → sees ≡ is_handed read held.control
    → answers ≡ (is_enc_req read && (may_answer now.setup.link.role now.control && sees))
    → after ≡ held_after (Takes read slot (drawn held.response)) held.control → last ≡ after → drew ≡ (answers && lasts last)
    → drew ≡ draws_if true pdu slot now
draws pdu slot held now read sees answers drew after last same read_is sees_is answers_is after_is last_is drew_is =
    let seen : sees ≡ is_handed (read_of pdu) held.control = sees_is ∙ (λ i. is_handed (read_is i) held.control) in
    let then_is : after ≡ held_after (Takes (read_of pdu) slot (drawn held.response)) held.control =
    after_is ∙ (λ i. held_after (Takes (read_is i) slot (drawn held.response)) held.control) in
    drew_is ∙ (λ i. answers && lasts (last_is i))
    ∙ (λ i. (answers_is ∙ (λ j. is_enc_req (read_is j) && (may_answer (sym same j).setup.link.role (sym same j).control && seen j))) i
    && lasts (then_is i))
    ∙ joined (is_enc_req (read_of pdu)) (may_answer held.setup.link.role held.control)
    (is_handed (read_of pdu) held.control) (lasts (held_after (Takes (read_of pdu) slot (drawn held.response)) held.control))
    ∙ ap (λ (h : Held). draws_if true pdu slot h) same

pub given : (pdu : Pdu) (slot : ℕ) (held first knowing now : Held) (read answered : CtrlRead) (sees : Bool)
    (kept last : Option Ctrl) (before : ℕ × ℕ) (gives : TakenKeyed) (after : HeldKeyed)
    → held ≡ first → read ≡ read_of pdu
    → before ≡ (rx_of held.control.control.table.lengths, tx_of held.control.control.table.lengths)
    → sees ≡ is_handed read held.control → kept ≡ held.control.kept
    → after ≡ held_after (Takes read slot (drawn held.response)) held.control
    → gives ≡ taken_keyed slot held.response read held.control
    → last ≡ after.kept → answered ≡ kept_answered kept last
    → knowing ≡ record held {
      control = after;
      peer = peer_answered (lasts after) sees read answered held.peer;
    }
    → now ≡ record knowing {
      lengths =
          lengths_reported gives.kept.effect
          (lengths_reported gives.taken.effect
          (lengths_seen_from before knowing.control.control.table.lengths knowing.lengths));
      leaving = leaving_by (code_of gives.taken.effect) knowing.leaving;
    }
    → now ≡ held_given_if true pdu slot first
given pdu slot held first knowing now read answered sees kept last before gives after same read_is before_is sees_is
    kept_is after_is gives_is last_is answered_is knowing_is now_is =
    let then_is : after ≡ held_after (Takes (read_of pdu) slot (drawn held.response)) held.control =
    after_is ∙ (λ i. held_after (Takes (read_is i) slot (drawn held.response)) held.control) in
    let taken : gives ≡ taken_keyed slot held.response (read_of pdu) held.control =
    gives_is ∙ (λ i. taken_keyed slot held.response (read_is i) held.control) in
    let seen : sees ≡ is_handed (read_of pdu) held.control = sees_is ∙ (λ i. is_handed (read_is i) held.control) in
    let known : answered ≡ kept_answered held.control.kept after.kept =
    answered_is ∙ (λ i. kept_answered (kept_is i) (last_is i)) in
    now_is
    ∙ ap (λ (h : Held). record h {
      lengths =
          lengths_reported gives.kept.effect
          (lengths_reported gives.taken.effect
          (lengths_seen_from before h.control.control.table.lengths h.lengths));
      leaving = leaving_by (code_of gives.taken.effect) h.leaving;
    }) knowing_is
    ∙ (λ i. record held {
      control = then_is i;
      peer =
          peer_answered (lasts (then_is i)) (seen i) (read_is i)
          ((known ∙ (λ j. kept_answered held.control.kept (then_is j).kept)) i) held.peer;
      lengths =
          lengths_reported (taken i).kept.effect
          (lengths_reported (taken i).taken.effect
          (lengths_seen_from (before_is i) (then_is i).control.table.lengths held.lengths));
      leaving = leaving_by (code_of (taken i).taken.effect) held.leaving;
    })
    ∙ ap (λ (h : Held). held_given_if true pdu slot h) same
