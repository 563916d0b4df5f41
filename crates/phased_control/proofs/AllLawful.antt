-- All calls that an end with its phase makes on its table may come; what follows of its table.
use Rattle.std.proofs.Common.{◌≡◌, ℕ, ◌≤◌, Bool, true, false, not, if◌then◌else◌, List, [], ◌∷◌, ◌++◌, Option, Some, None, is_none, refl, sym, ap, subst, ◌∙◌, append-nil, append_assoc}
use Rattle.ble_base.specs.declared.error_codes.ErrCode.{ErrCode}
use Rattle.ble_base.specs.declared.procedure_kinds.Kind.TheVariants.{Encrypt}
use Rattle.ble_base.specs.declared.roles.Role.{Role}
use Rattle.ble_base.specs.declared.roles.Role.TheVariants.{Central}
use Rattle.data_pdu.specs.declared.ctrl.CtrlRead.TheVariants.{Bare}
use Rattle.instants.specs.declared.indications.Params.{Params}
use Rattle.table_laws.specs.procedure_stages.Kinds.{own_kind}
use Rattle.table_laws.specs.procedure_stages.Queue.{waiting_in}
use Rattle.table_laws.specs.procedures.Beginning.{begin_step}
use Rattle.table_laws.specs.procedures.Calls.{Call, after_calls, takes}
use Rattle.table_laws.specs.procedures.Table.{TableFacts, first_facts}
use Rattle.table_laws.specs.Encrypting.{has_encryption}
use Rattle.table_laws.specs.Pasts.{MayAll, is_key_asked, key_after_calls}
use Rattle.table_laws.specs.Quiet.{PassesPhase, first_pdus_waiting}
use Rattle.control_model.specs.Control.{Step}
use Rattle.phased_control.specs.Calls.{AllPassPhase, all_calls, all_phased_calls}
use Rattle.phased_control.specs.Ciphers.{AreInTurn, IsInTurn}
use Rattle.phased_control.specs.Phased.{Phased, first_phased, is_open_now, is_quiet_now}
use Rattle.phased_control.specs.Taken.{PhasedStep, Answers, Asks, Disconnects, Enters, GivesKey, LacksKey, SeesAcknowledged, Sends, Takes, TakesData, phased_after, phased_after_all}
use Rattle.phased_control.specs.Steps.{control_steps, steps_now}
use Rattle.phased_control.proofs.Agreeing.{Agrees, Sound, agrees_after, agrees_first, sound_after, sound_first}
use Rattle.phased_control.proofs.Calling.{keys_joined, makes_phased}
use Rattle.phased_control.proofs.Extending.{At, Fine, extends, fine_none}
use Rattle.phased_control.proofs.Moving.{open_phased, same_after}
use Rattle.phased_control.proofs.Waiting.{InOrder, order_after, order_first}
use Rattle.table_laws.specs.procedure_stages.InProgress.{has_peer}
use Rattle.table_laws.specs.Exclusive.{AllKeepRules}
use Rattle.table_laws.proofs.Bounds.{all_after}
use Rattle.table_laws.proofs.Quiet.{begins_none_after, first_after, own_after, peer_after}
use Rattle.phased_control.proofs.Calling.{makes_all_phased}
use Rattle.phased_control.proofs.Lawful.{Fits, KeyFits, fits_acked, fits_answers, fits_asks, fits_data, fits_disconnects, fits_enters, fits_given, fits_lacking, fits_sends}
use Rattle.phased_control.proofs.LawfulTaking.{fits_takes}

record Here (role : Role) (max_rx : ℕ) (past : List Call) (s : Phased) : Type 0 where
  at : At role max_rx past s.control.table (is_key_asked past)
  sound : Sound role s
  agrees : Agrees s
  order : role ≡ Central → InOrder role s
  asked : KeyFits s (is_key_asked past)

module _ (role : Role) (max_rx : ℕ) (past : List Call) (s : Phased) (here : Here role max_rx past s) where
  abbrev key : Bool
  key = is_key_asked past

  fits : (step : PhasedStep) → (role ≡ Central → IsInTurn step s) → s.control.ends ≡ None → Fits step s key
  fits (Enters slot) turn lasts = fits_enters role max_rx past slot s key here.at lasts here.agrees here.asked
  fits (Asks ask) turn lasts = fits_asks s key lasts here.agrees here.asked ask
  fits (Answers answer) turn lasts = fits_answers s key lasts here.agrees here.asked answer
  fits GivesKey turn lasts = fits_given s key lasts here.agrees here.asked (λ is. here.sound.tied.is_role ∙ here.sound.tied.asked_at is)
  fits LacksKey turn lasts = fits_lacking s key lasts here.agrees here.asked (λ is. here.sound.tied.is_role ∙ here.sound.tied.asked_at is)
  fits (Disconnects reason) turn lasts = fits_disconnects s key lasts here.agrees here.asked reason
  fits (Sends slot) turn lasts = fits_sends s key lasts here.agrees here.asked slot
  fits SeesAcknowledged turn lasts = fits_acked role max_rx past s key here.at lasts here.sound here.agrees here.order here.asked
  fits (Takes read slot response) turn lasts =
      fits_takes role max_rx past slot response read s key here.at lasts here.sound.tied here.agrees turn here.asked
  fits TakesData turn lasts = fits_data s key lasts here.agrees here.asked

  module _ (step : PhasedStep) (turn : role ≡ Central → IsInTurn step s) where
    abbrev now : List Call
    now = all_calls (steps_now step s) s.control

    record Then : Type 0 where
      fine : Fine s.control key (steps_now step s)
      asked : KeyFits (phased_after step s) (key_after_calls key now)

    fits_then : Then
    fits_then = by s.control.ends refl
      where
        by : (ends : Option ErrCode) → s.control.ends ≡ ends → Then
        by None is =
            let h = fits step turn is in
            let all : steps_now step s ≡ control_steps step s = ap (λ (ends : Option ErrCode). if is_none ends then control_steps step s else []) is in
            record {
              fine = subst (Fine s.control key) (sym all) h.fine;
              asked =
                  subst (λ (steps : List Step). KeyFits (phased_after step s) (key_after_calls key (all_calls steps s.control))) (sym all)
                  (open_phased (λ (t : Phased). KeyFits t (key_after_calls key (all_calls (control_steps step s) s.control))) step s is h.asked);
            }
        by (Some code) is =
            let none : steps_now step s ≡ [] = ap (λ (ends : Option ErrCode). if is_none ends then control_steps step s else []) is in
            record {
              fine = subst (Fine s.control key) (sym none) (fine_none s.control key);
              asked =
                  subst (λ (steps : List Step). KeyFits (phased_after step s) (key_after_calls key (all_calls steps s.control))) (sym none)
                  (subst (λ (t : Phased). KeyFits t key) (sym (same_after step s code is)) here.asked);
            }

    here_after : Here role max_rx (past ++ now) (phased_after step s)
    here_after =
        let h = fits_then in
        let keys : key_after_calls key now ≡ is_key_asked (past ++ now) = sym (keys_joined past now false) in
        let there = extends role max_rx past s.control.table key here.at now h.fine.may h.fine.passes in
        record {
          at = subst (λ (f : TableFacts). At role max_rx (past ++ now) f (is_key_asked (past ++ now))) (sym (makes_phased step s)) (subst (λ (k : Bool). At role max_rx (past ++ now) (after_calls s.control.table now) k) keys there);
          sound = sound_after role step s here.sound;
          agrees = agrees_after role step s here.sound here.agrees;
          order = λ is. order_after role step s here.sound here.agrees (turn is) (here.order is);
          asked = subst (λ (k : Bool). KeyFits (phased_after step s) k) keys h.asked;
        }

here_all : (role : Role) (max_rx : ℕ) (past : List Call) (steps : List PhasedStep) (s : Phased) → Here role max_rx past s → (role ≡ Central → AreInTurn steps s)
    → Here role max_rx (past ++ all_phased_calls steps s) (phased_after_all steps s)
here_all role max_rx past [] s here turns = subst (λ (calls : List Call). Here role max_rx calls s) (sym (append-nil past)) here
here_all role max_rx past (step ∷ steps) s here turns =
    let now = all_calls (steps_now step s) s.control in
    subst (λ (calls : List Call). Here role max_rx calls (phased_after_all steps (phased_after step s))) (append_assoc past now (all_phased_calls steps (phased_after step s)))
    (here_all role max_rx (past ++ now) steps (phased_after step s) (here_after role max_rx past s here step (λ is. (turns is).0)) (λ is. (turns is).1))

here_first : (role : Role) (max_rx : ℕ) (first : Params) (slot : ℕ) → Here role max_rx [] (first_phased role max_rx first slot)
here_first role max_rx first slot =
    record {
      at = record { may = tt; passes = tt; is = refl; asked = refl };
      sound = sound_first role max_rx first slot;
      agrees = agrees_first role max_rx first slot;
      order = λ is. order_first role max_rx first slot;
      asked = λ opens. refl;
    }

module _ (role : Role) (max_rx : ℕ) (first : Params) (slot : ℕ) (steps : List PhasedStep) (turns : role ≡ Central → AreInTurn steps (first_phased role max_rx first slot)) where
  here_now : Here role max_rx (all_phased_calls steps (first_phased role max_rx first slot)) (phased_after_all steps (first_phased role max_rx first slot))
  here_now = here_all role max_rx [] steps (first_phased role max_rx first slot) (here_first role max_rx first slot) turns

  -- ---- the laws

  pub may_now : MayAll (first_facts role max_rx) false (all_phased_calls steps (first_phased role max_rx first slot))
  may_now = here_now.at.may

  pub passes_now : AllPassPhase (first_facts role max_rx) (all_phased_calls steps (first_phased role max_rx first slot))
  passes_now = here_now.at.passes

  pub key_is_asked : let s = phased_after_all steps (first_phased role max_rx first slot) in
      is_open_now s ≡ true → is_key_asked (all_phased_calls steps (first_phased role max_rx first slot)) ≡ s.asks_key
  key_is_asked = here_now.asked

  pub few_wait : waiting_in (phased_after_all steps (first_phased role max_rx first slot)).control.table.queue ≤ 20
  few_wait = subst (λ (f : TableFacts). waiting_in f.queue ≤ 20) here_now.at.is (all_after role max_rx (all_phased_calls steps (first_phased role max_rx first slot)) may_now)

pub table_now : (role : Role) (max_rx : ℕ) (first : Params) (slot : ℕ) (steps : List PhasedStep)
    → (phased_after_all steps (first_phased role max_rx first slot)).control.table ≡ after_calls (first_facts role max_rx) (all_phased_calls steps (first_phased role max_rx first slot))
table_now role max_rx first slot steps = makes_all_phased steps (first_phased role max_rx first slot)

module _ (max_rx : ℕ) (first : Params) (slot : ℕ) (steps : List PhasedStep) (turns : AreInTurn steps (first_phased Central max_rx first slot)) where
  abbrev s : Phased
  s = phased_after_all steps (first_phased Central max_rx first slot)

  abbrev calls : List Call
  calls = all_phased_calls steps (first_phased Central max_rx first slot)

  here_c : Here Central max_rx calls s
  here_c = here_now Central max_rx first slot steps (λ is. turns)

  -- a call of now passes the phase of now
  passing : is_quiet_now s ≡ false → PassesPhase (after_calls (first_facts Central max_rx) calls) (takes Bare 0 false)
  passing loud = sym loud ∙ here_c.agrees ∙ ap not (ap (λ (f : TableFacts). has_encryption f.progress) (sym here_c.at.is))

  pub own_loudly : is_quiet_now s ≡ false → own_kind s.control.table.progress ≡ Some Encrypt
  own_loudly loud =
      subst (λ (f : TableFacts). own_kind f.progress ≡ Some Encrypt) here_c.at.is (own_after max_rx calls (takes Bare 0 false) here_c.at.may (passing loud) refl)

  pub first_loudly : is_quiet_now s ≡ false → first_pdus_waiting s.control.table ≡ 0
  first_loudly loud =
      subst (λ (f : TableFacts). first_pdus_waiting f ≡ 0) here_c.at.is (first_after max_rx calls (takes Bare 0 false) here_c.at.may (passing loud) refl)

  pub begins_none_loudly : (now : ℕ) (quiet : Bool) → is_quiet_now s ≡ false → begin_step s.control.table now quiet ≡ (s.control.table, None)
  begins_none_loudly now quiet loud =
      subst (λ (f : TableFacts). begin_step f now quiet ≡ (f, None)) here_c.at.is (begins_none_after max_rx calls (takes Bare 0 false) now quiet here_c.at.may (passing loud) refl)

  pub alone_loudly : AllKeepRules (first_facts Central max_rx) calls → is_quiet_now s ≡ false → has_peer s.control.table.progress ≡ false
  alone_loudly rules loud =
      subst (λ (f : TableFacts). has_peer f.progress ≡ false) here_c.at.is (peer_after max_rx calls (takes Bare 0 false) here_c.at.may rules (passing loud) refl)
