-- Which events an end wants.
use Rattle.std.proofs.Common.{◌≡◌, ◌<◌, ℕ, ◌+◌, ◌==◌, nat_le, nat_lt, ◌&&◌, ◌||◌, not, Bool, true, false, length, Option, Some, None, refl, ap, sym, ◌∙◌, arith}
use Rattle.std.proofs.lemmas.Bool.{ne_eqb}
use Rattle.std.proofs.lemmas.Bool.Decides.{nat_tests}
use Rattle.ble_base.specs.declared.roles.Role.{Role}
use Rattle.ble_base.specs.declared.roles.Role.TheVariants.{Central, Peripheral}
use Rattle.instants.specs.Track.{is_free}
use Rattle.phased_end.specs.control_end.procedure_stages.InProgress.{is_busy}
use Rattle.phased_end.specs.control_end.procedure_stages.Queue.{waiting_in}
use Rattle.link_model.specs.Setup.{Setup}
use Rattle.link_model.specs.declared.events.ConnectionEvent.{ConnectionEvent}
use Rattle.link_model.specs.declared.events.Reception.{Reception}
use Rattle.link_model.specs.Acknowledgement.{is_acked}
use Rattle.link_model.specs.Data.{is_empty, unsent_of}
use Rattle.link_model.specs.Lost.{is_recent, skips_by}
use Rattle.link_model.specs.Facts.{Facts, params_of}
use Rattle.link_model.specs.Step.{EventEntered}
use Rattle.link_model.specs.Controls.{goes_on}
use Rattle.link_model.specs.Entering.{facts_entered, facts_entered_if}
use Rattle.link_model.specs.End.{facts_after}
use Rattle.link_model.specs.Times.{has_nothing_to_send, is_idle, wants_of}

-- ---- an event is entered

pub in_force : (setup : Setup) (facts : Facts) (slot : ℕ) → goes_on facts ≡ true
    → let after = facts_after setup facts (EventEntered slot) in after.event.latency ≡ (params_of after).latency
in_force setup facts slot goes =
    ap (λ (f : Facts). f.event.latency) (entered goes) ∙ ap (λ (f : Facts). (params_of f).latency) (sym (entered goes))
  where
    entered : goes_on facts ≡ true → facts_after setup facts (EventEntered slot) ≡ facts_entered setup slot facts
    entered is = ap (λ b. facts_entered_if b setup slot facts) is

-- ---- which events it wants

pub no_last : (first : Bool) → (first && false) ≡ false
no_last true = refl
no_last false = refl

never_busy : (role : Role) (event : ConnectionEvent) (last : Option Reception) → not (skips_by role event last false) ≡ true
never_busy Central event last = refl
never_busy Peripheral event last = ap not (no_last (is_recent last event.number event.latency))

not_recent : (last : Option Reception) (event : ℕ) → is_recent last event 0 ≡ false
not_recent None event = refl
not_recent (Some good) event = by (nat_lt good.event event) (nat_le event (good.event + 0)) refl refl
  where
    by : (later within : Bool) → nat_lt good.event event ≡ later → nat_le event (good.event + 0) ≡ within → (later && within) ≡ false
    by true true e f = absurd (grind (arith, nat_tests))
    by true false e f = refl
    by false within e f = refl

never_late : (role : Role) (idle : Bool) (event : ConnectionEvent) (last : Option Reception)
    → is_recent last event.number event.latency ≡ false → not (skips_by role event last idle) ≡ true
never_late Central idle event last is = refl
never_late Peripheral idle event last is = ap (λ b. not (b && idle)) is

-- an end is not idle where one of the things that it looks at is there
some_test : (count : ℕ) → 0 < count → (count == 0) ≡ false
some_test count some = ne_eqb count 0 (λ is. absurd (omega (arith, some, is)))

no_second : (first third : Bool) → (first && false && third) ≡ false
no_second true third = refl
no_second false third = refl

pub no_inner : (first second : Bool) → (first && (second && false)) ≡ false
no_inner true true = refl
no_inner true false = refl
no_inner false second = refl

no_third : (first second : Bool) → (first && second && false) ≡ false
no_third true true = refl
no_third true false = refl
no_third false second = refl

module _ (setup : Setup) (facts : Facts) where
  abbrev sends_all : Bool
  sends_all = is_acked facts.acknowledgement || is_empty facts.acknowledgement.last

  abbrev none_queued : Bool
  none_queued = waiting_in facts.control.table.queue == 0

  pub central_wants : setup.link.role ≡ Central → wants_of setup facts ≡ true
  central_wants is = ap (λ (role : Role). not (skips_by role facts.event facts.last_good (is_idle facts))) is

  pub no_latency_wants : facts.event.latency ≡ 0 → wants_of setup facts ≡ true
  no_latency_wants is =
      never_late setup.link.role (is_idle facts) facts.event facts.last_good
      (ap (is_recent facts.last_good facts.event.number) is ∙ not_recent facts.last_good facts.event.number)

  wants_busy : is_idle facts ≡ false → wants_of setup facts ≡ true
  wants_busy is =
      ap (λ idle. not (skips_by setup.link.role facts.event facts.last_good idle)) is
      ∙ never_busy setup.link.role facts.event facts.last_good

  pub wants_to_send : has_nothing_to_send facts ≡ false → wants_of setup facts ≡ true
  wants_to_send is =
      wants_busy (ap (λ b. b && (not (is_busy facts.control.table.progress) && is_free facts.control.track)) is)

  pub unacknowledged_wants : is_acked facts.acknowledgement ≡ false → is_empty facts.acknowledgement.last ≡ false
      → wants_of setup facts ≡ true
  unacknowledged_wants acked empty =
      wants_to_send (λ i. (acked i || empty i) && none_queued && (length (unsent_of facts.outgoing) == 0))

  pub control_wants : 0 < waiting_in facts.control.table.queue → wants_of setup facts ≡ true
  control_wants some =
      wants_to_send
      (ap (λ b. sends_all && b && (length (unsent_of facts.outgoing) == 0)) (some_test (waiting_in facts.control.table.queue) some)
      ∙ no_second sends_all (length (unsent_of facts.outgoing) == 0))

  pub data_wants : 0 < length (unsent_of facts.outgoing) → wants_of setup facts ≡ true
  data_wants some =
      wants_to_send
      (ap (λ b. sends_all && none_queued && b) (some_test (length (unsent_of facts.outgoing)) some) ∙ no_third sends_all none_queued)

  pub procedure_wants : is_busy facts.control.table.progress ≡ true → wants_of setup facts ≡ true
  procedure_wants is =
      wants_busy
      (ap (λ b. has_nothing_to_send facts && (not b && is_free facts.control.track)) is ∙ no_last (has_nothing_to_send facts))

  pub indication_wants : is_free facts.control.track ≡ false → wants_of setup facts ≡ true
  indication_wants is =
      wants_busy
      (ap (λ b. has_nothing_to_send facts && (not (is_busy facts.control.table.progress) && b)) is
      ∙ no_inner (has_nothing_to_send facts) (not (is_busy facts.control.table.progress)))
