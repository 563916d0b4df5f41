-- An end's own steps come in a joint run only where the machines of exchanges let them.
use Rattle.std.proofs.Common.{◌≡◌, ℕ, ◌==◌, Bool, true, false, not, ◌||◌, Option, Some, None, is_some, refl, ap, sym, ◌∙◌, subst}
use Rattle.std.proofs.lemmas.Bool.{and_parts}
use Rattle.ble_base.specs.declared.procedure_kinds.Kind.{Kind}
use Rattle.ble_base.specs.declared.procedure_kinds.Kind.TheVariants.{Encrypt, Features, Length, Version}
use Rattle.ble_base.specs.declared.roles.Role.{Role}
use Rattle.instants.specs.Track.{next_number}
use Rattle.exchange_steps.specs.procedure_values.declared.asks.Ask.{Ask}
use Rattle.exchange_steps.specs.procedure_values.declared.asks.Ask.TheVariants.{Length as ask_length, Version as ask_version}
use Rattle.exchange_steps.specs.procedure_values.Wants.{count_of, is_wanted}
use Rattle.exchange_steps.proofs.procedure_values.Counts.{wanted-counted}
use Rattle.exchange_steps.specs.procedure_stages.declared.stages.Exchange.TheVariants.{FeaturesUnsent, FeaturesSent, VersionUnsent, VersionSent, LengthUnsent, LengthSent}
use Rattle.exchange_steps.specs.procedure_stages.declared.stages.OwnCentral.{OwnCentral}
use Rattle.exchange_steps.specs.procedure_stages.declared.stages.OwnCentral.TheVariants.{Exchange as exchange}
use Rattle.exchange_steps.specs.procedure_stages.declared.stages.OwnPeripheral.{OwnPeripheral}
use Rattle.exchange_steps.specs.procedure_stages.declared.stages.OwnPeripheral.TheVariants.{Exchange as exchange_p}
use Rattle.exchange_steps.specs.procedure_stages.declared.stages.Progress.{Progress}
use Rattle.exchange_steps.specs.procedure_stages.declared.stages.Progress.TheVariants.{Central as central, Peripheral as peripheral}
use Rattle.exchange_steps.specs.procedure_stages.Kinds.{exchange_at_central, exchange_at_peripheral, is_kind, kind_at_central, kind_at_peripheral, own_exchange, own_kind}
use Rattle.exchange_steps.specs.procedures.Beginning.{ask_at, begin_at, begin_step, may_ask_of, place_to_begin}
use Rattle.exchange_steps.specs.procedures.Calls.{begins_one, enters}
use Rattle.exchange_steps.specs.procedures.Table.{TableFacts}
use Rattle.joint_controls.proofs.table_laws.Begun.{begins_of}
use Rattle.exchange_steps.specs.exchange_pairs.Exchange.{is_idle}
use Rattle.exchange_steps.specs.Ends.{version_stage}
use Rattle.exchange_steps.specs.Steps.{MayCome, step_of_ask, step_of_begun}
use Rattle.exchange_steps.proofs.Calls.{each_call, each_comes}
use Rattle.joint_controls.specs.phased_control.Phased.{Phased, is_open_now, is_quiet_now, table_entered}
use Rattle.joint_controls.specs.Joint.{may_ask}
use Rattle.joint_exchanges.specs.JointMoves.{begun_as_entered, terminates_if}
use Rattle.joint_exchanges.specs.Moves.{end_of, keeps_version, knows}
use Rattle.joint_exchanges.specs.Parts.{ExchangeParts, exchanges_at}
use Rattle.joint_exchanges.proofs.PartMoves.{MayDoIf}

-- ---- an exchange begins

begun_by : (role : Role) (kind : Option Kind) (p : ExchangeParts) → MayCome (step_of_begun kind) (end_of role p)
    → (kind ≡ Some Version → keeps_version role p ≡ false) → MayDoIf role (step_of_begun kind) p
begun_by role (Some Features) p may kept = may
begun_by role (Some Length) p may kept = may
begun_by role (Some Version) p may kept = record { may = may; none_kept = kept refl }
begun_by role kind p may kept = tt

begins_quiet : (f : TableFacts) (slot : ℕ) (quiet : Bool) (kind : Kind) → (begin_step f slot quiet).1 ≡ Some kind → quiet ≡ true
begins_quiet f slot quiet kind is = by (place_to_begin f quiet) (ask_at (place_to_begin f quiet) f.wanted) refl refl is
  where
    by : (place : Option ℕ) (ask : Option Ask) → place_to_begin f quiet ≡ place → ask_at place f.wanted ≡ ask → (begin_at f slot place ask).1 ≡ Some kind → quiet ≡ true
    by None ask p a is = absurd (cc)
    by (Some place) None p a is = absurd (cc)
    by (Some place) (Some ask) p a is = (begins_of f quiet place ask p a).is_quiet

pub may_enter : (role : Role) (slot : ℕ) (s : Phased) (p : ExchangeParts) → end_of role p ≡ exchanges_at s
    → (is_quiet_now s ≡ true → keeps_version role p ≡ false) → MayDoIf role (begun_as_entered slot s) p
may_enter role slot s p same kept =
    begun_by role (begin_step (table_entered s) slot (is_quiet_now s)).1 p
    (subst (λ e. MayCome (begun_as_entered slot s) e)
    (each_call s.control.table (enters (is_some (next_number s.control.track))) ∙ sym same)
    (each_comes (table_entered s) (begins_one slot (is_quiet_now s))))
    (λ is. kept (begins_quiet (table_entered s) slot (is_quiet_now s) Version is))

-- ---- a host asks

not_true : (b : Bool) → not b ≡ true → b ≡ false
not_true true is = absurd (cc)
not_true false is = refl

none_of : (a b : Bool) → (a || b) ≡ false → (a ≡ false) × (b ≡ false)
none_of true b is = absurd (cc)
none_of false b is = (refl, is)

idle_c : (own : OwnCentral) → is_kind (kind_at_central own) Version ≡ false → is_idle (version_stage (exchange_at_central own)) ≡ true
idle_c (exchange VersionUnsent) is = absurd (cc)
idle_c (exchange VersionSent) is = absurd (cc)
idle_c (exchange FeaturesUnsent) is = refl
idle_c (exchange FeaturesSent) is = refl
idle_c (exchange LengthUnsent) is = refl
idle_c (exchange LengthSent) is = refl
idle_c own is = refl

idle_p : (own : OwnPeripheral) → is_kind (kind_at_peripheral own) Version ≡ false → is_idle (version_stage (exchange_at_peripheral own)) ≡ true
idle_p (exchange_p VersionUnsent) is = absurd (cc)
idle_p (exchange_p VersionSent) is = absurd (cc)
idle_p (exchange_p FeaturesUnsent) is = refl
idle_p (exchange_p FeaturesSent) is = refl
idle_p (exchange_p LengthUnsent) is = refl
idle_p (exchange_p LengthSent) is = refl
idle_p own is = refl

idle_by : (p : Progress) → is_kind (own_kind p) Version ≡ false → is_idle (version_stage (own_exchange p)) ≡ true
idle_by (central c) is = idle_c c.own is
idle_by (peripheral p) is = idle_p p.own is

pub may_host_ask : (role : Role) (ask : Ask) (s : Phased) (p : ExchangeParts) → end_of role p ≡ exchanges_at s → knows role p ≡ s.knows_version
    → may_ask ask s ≡ true → MayDoIf role (step_of_ask ask) p
may_host_ask role ask_version s p same knew may =
    let both = and_parts (may_ask_of s.control.table Version) (not s.knows_version) may in
    let none = none_of (is_wanted Version s.control.table.wanted) (is_kind (own_kind s.control.table.progress) Version) (not_true _ both.0) in
    record {
      unknown = knew ∙ not_true s.knows_version both.1;
      idle = ap (λ e. is_idle e.versions.own) same ∙ idle_by s.control.table.progress none.1;
      unwanted = ap (λ e. e.versions.wanted == 0) same ∙ by (count_of Version s.control.table.wanted == 0) (sym (wanted-counted Version s.control.table.wanted) ∙ none.0);
    }
  where
    by : (b : Bool) → not b ≡ false → b ≡ true
    by true is = refl
    by false is = absurd (cc)
may_host_ask role (ask_length tx) s p same knew may = tt
may_host_ask role ask s p same knew may = tt

-- ---- LL_TERMINATE_IND is queued

pub may_terminate : (role : Role) (b : Bool) (s : Phased) (p : ExchangeParts) → end_of role p ≡ exchanges_at s → (b ≡ true → is_open_now s ≡ true)
    → MayDoIf role (terminates_if b) p
may_terminate role false s p same opens = tt
may_terminate role true s p same opens =
    record {
      features = ap (λ e. e.features.closed) same ∙ ap not (opens refl);
      lengths = ap (λ e. e.lengths.closed) same ∙ ap not (opens refl);
      versions = ap (λ e. e.versions.closed) same ∙ ap not (opens refl);
    }

-- ---- an end that runs an encryption runs no exchange

none_c : (own : OwnCentral) → kind_at_central own ≡ Some Encrypt → exchange_at_central own ≡ None
none_c (exchange FeaturesUnsent) is = absurd (cc)
none_c (exchange FeaturesSent) is = absurd (cc)
none_c (exchange VersionUnsent) is = absurd (cc)
none_c (exchange VersionSent) is = absurd (cc)
none_c (exchange LengthUnsent) is = absurd (cc)
none_c (exchange LengthSent) is = absurd (cc)
none_c own is = refl

none_p : (own : OwnPeripheral) → kind_at_peripheral own ≡ Some Encrypt → exchange_at_peripheral own ≡ None
none_p (exchange_p FeaturesUnsent) is = absurd (cc)
none_p (exchange_p FeaturesSent) is = absurd (cc)
none_p (exchange_p VersionUnsent) is = absurd (cc)
none_p (exchange_p VersionSent) is = absurd (cc)
none_p (exchange_p LengthUnsent) is = absurd (cc)
none_p (exchange_p LengthSent) is = absurd (cc)
none_p own is = refl

no_exchange : (p : Progress) → own_kind p ≡ Some Encrypt → own_exchange p ≡ None
no_exchange (central c) is = none_c c.own is
no_exchange (peripheral p) is = none_p p.own is

pub idle_encrypting : (s : Phased) → own_kind s.control.table.progress ≡ Some Encrypt → is_idle (exchanges_at s).versions.own ≡ true
idle_encrypting s is = ap (λ own. is_idle (version_stage own)) (no_exchange s.control.table.progress is)
