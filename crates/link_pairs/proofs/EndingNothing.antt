-- An end that receives nothing ends no link.
use Rattle.std.proofs.Common.{◌≡◌, ◌==◌, ◌&&◌, ℕ, Bool, true, false, List, Option, Some, None, is_none, Result, refl, ◌∙◌, if◌then◌else◌}
use Rattle.ble_base.specs.declared.error_codes.ErrCode.{ErrCode}
use Rattle.data_pdu.specs.declared.ctrl.Ctrl.{Ctrl}
use Rattle.data_pdu.specs.declared.ctrl.Ctrl.TheVariants.{StartEncReq}
use Rattle.instants.specs.Track.{next_anchor_of}
use Rattle.control_octets.specs.procedure_stages.Closing.{is_open}
use Rattle.control_octets.specs.procedure_stages.InProgress.{is_host_asked}
use Rattle.control_octets.specs.procedure_values.declared.asks.Ask.{Ask}
use Rattle.control_octets.specs.procedures.Going.{host_answer_step, is_answer, terminate_step}
use Rattle.control_octets.specs.control_model.Control.{Answers, Asks, Control, Disconnects, Owes, after}
use Rattle.control_octets.proofs.control_model.Calls.{any_step}
use Rattle.link_model.specs.Data.{is_control}
use Rattle.link_model.specs.Setup.{Setup}
use Rattle.link_model.specs.Controls.{goes_on, is_quiet_now}
use Rattle.link_model.specs.End.{facts_after}
use Rattle.link_model.specs.Entering.{facts_entered_if}
use Rattle.link_model.specs.Facts.{Facts, keyed_of}
use Rattle.link_model.specs.Fixing.{facts_fixed, fixed_anew}
use Rattle.link_model.specs.Hosts.{asked_unless, ends_without_key, is_to_come, key_step}
use Rattle.link_model.specs.enc_phase.declared.facts.Transition.TheVariants.{Refuse}
use Rattle.link_model.specs.enc_phase.Phases.{may_follow}
use Rattle.link_model.specs.phased_control.Phased.{Phased, is_open_now, key_given, key_lacking, refused_if}
use Rattle.link_model.specs.keyed_control.Keyed.{Keyed}
use Rattle.link_model.specs.keyed_control.KeyedSteps.{GivesKey, LacksKey, keyed_after, keyed_moved}
use Rattle.link_model.specs.Sending.{control_gone_if, facts_sent, takes_leave}
use Rattle.link_model.specs.Step.{Step, DataGiven, DataReported, Disconnected, EventEntered, KeyAnswered, PacketReceived, PacketSent, PduFixed, ProcedureAsked, RequestAnswered, WordsGiven}
use Rattle.link_pairs.specs.Hosts.{MayHost}
use Rattle.link_pairs.specs.Sound.{EndsNothing}
use Rattle.link_pairs.specs.Turns.{central_begun, entered_in, prepared, sent_if}
use Rattle.link_pairs.proofs.ControlKept.{sent_ends, table_ends}
use Rattle.link_pairs.proofs.NothingNew.{left_by_peer}
use Rattle.link_pairs.proofs.TakingNothing.{entered_nothing}

-- ---- the control part

asked_ends : (c : Control) (ask : Ask) → (after (Asks ask) c).ends ≡ c.ends
asked_ends c ask = any_step (λ (d : Control). d.ends ≡ c.ends) (Asks ask) c refl refl

answered_ends : (c : Control) (answer : Result Ask ErrCode) → (after (Answers answer) c).ends ≡ c.ends
answered_ends c answer =
    any_step (λ (d : Control). d.ends ≡ c.ends) (Answers answer) c
    (table_ends (is_host_asked c.table.progress && is_answer answer) (host_answer_step c.table answer) c) refl

disconnected_ends : (c : Control) (reason : ErrCode) → (after (Disconnects reason) c).ends ≡ c.ends
disconnected_ends c reason =
    any_step (λ (d : Control). d.ends ≡ c.ends) (Disconnects reason) c (table_ends (is_open c.table.closing) (terminate_step c.table reason) c) refl

owed_ends : (c : Control) (ctrl : Ctrl) → (after (Owes ctrl) c).ends ≡ c.ends
owed_ends c ctrl = any_step (λ (d : Control). d.ends ≡ c.ends) (Owes ctrl) c refl refl

-- the host of a peripheral has a key or none
asked_same : (asked : Bool) (s t : Phased) → t.control.ends ≡ s.control.ends → (if asked then t else s).control.ends ≡ s.control.ends
asked_same true s t is = is
asked_same false s t is = refl

lacks_same : (may : Bool) (s : Phased) → (refused_if may s).control.ends ≡ s.control.ends
lacks_same true s = owed_ends s.control _
lacks_same false s = owed_ends s.control _

key_ends : (key : Option (List ℕ)) (k : Keyed) → (keyed_after (key_step key) k).phased.control.ends ≡ k.phased.control.ends
key_ends None k = by (is_none k.phased.control.ends)
  where
    by : (b : Bool) → (if b then keyed_moved LacksKey k else k).phased.control.ends ≡ k.phased.control.ends
    by true =
        asked_same (k.phased.asks_key && is_open_now k.phased) k.phased (key_lacking k.phased) (lacks_same (may_follow Refuse k.phased.phase) k.phased)
    by false = refl
key_ends (Some ltk) k = by (is_none k.phased.control.ends)
  where
    by : (b : Bool) → (if b then keyed_moved (GivesKey ltk) k else k).phased.control.ends ≡ k.phased.control.ends
    by true = asked_same (k.phased.asks_key && is_open_now k.phased) k.phased (key_given k.phased) (owed_ends k.phased.control StartEncReq)
    by false = refl

-- ---- one step of an end

same : (facts : Facts) → EndsNothing facts facts
same facts = record { procedures = refl; peer = refl }

then_nothing : (a b c : Facts) → EndsNothing a b → EndsNothing b c → EndsNothing a c
then_nothing a b c one two = record { procedures = two.procedures ∙ one.procedures; peer = two.peer ∙ one.peer }

asked : (to_come : Bool) (ask : Ask) (facts : Facts) → EndsNothing facts (asked_unless to_come ask facts)
asked true ask facts = same facts
asked false ask facts = record { procedures = asked_ends facts.control ask; peer = refl }

entered : (lasts : Bool) (setup : Setup) (slot : ℕ) (facts : Facts) → EndsNothing facts (facts_entered_if lasts setup slot facts)
entered true setup slot facts = record { procedures = (entered_nothing slot facts).ends; peer = refl }
entered false setup slot facts = same facts

fixed : (gone : Bool) (facts : Facts) → EndsNothing facts (if gone then facts else fixed_anew facts)
fixed true facts = same facts
fixed false facts = record { procedures = refl; peer = refl }

gone : (goes : Bool) (slot : ℕ) (facts : Facts) → EndsNothing facts (control_gone_if goes slot facts)
gone true slot facts = record { procedures = sent_ends facts.control slot (is_quiet_now facts); peer = refl }
gone false slot facts = same facts

sent : (slot : ℕ) (facts : Facts) → EndsNothing facts (facts_sent slot facts)
sent slot facts = let leaves = gone (takes_leave facts) slot facts in record { procedures = leaves.procedures; peer = leaves.peer }

pub host_ends_nothing : (setup : Setup) (facts : Facts) (step : Step) → MayHost step facts → EndsNothing facts (facts_after setup facts step)
host_ends_nothing setup facts (DataGiven start body) may = record { procedures = refl; peer = refl }
host_ends_nothing setup facts (ProcedureAsked ask) may = asked (is_to_come ask facts) ask facts
host_ends_nothing setup facts (RequestAnswered answer) may = record { procedures = answered_ends facts.control answer; peer = refl }
host_ends_nothing setup facts (Disconnected reason slot) may = record { procedures = disconnected_ends facts.control reason; peer = refl }
host_ends_nothing setup facts DataReported may = record { procedures = refl; peer = refl }
host_ends_nothing setup facts (KeyAnswered key slot) may =
    record { procedures = key_ends key (keyed_of facts); peer = left_by_peer (ends_without_key key facts) slot facts.leaving }
host_ends_nothing setup facts (WordsGiven skd_s iv_s) may = record { procedures = refl; peer = refl }
host_ends_nothing setup facts (EventEntered slot) may = absurd may
host_ends_nothing setup facts PduFixed may = absurd may
host_ends_nothing setup facts (PacketSent slot) may = absurd may
host_ends_nothing setup facts (PacketReceived slot octets room) may = absurd may

-- ---- a turn begins

entered_if : (enters : Bool) (setup : Setup) (slot : ℕ) (facts : Facts)
    → EndsNothing facts (if enters then facts_after setup facts (EventEntered slot) else facts)
entered_if true setup slot facts = entered (goes_on facts) setup slot facts
entered_if false setup slot facts = same facts

fixed_if : (fixes : Bool) (facts : Facts) → EndsNothing facts (if fixes then facts_fixed facts else facts)
fixed_if true facts = fixed (is_control facts.outgoing.fixed) facts
fixed_if false facts = same facts

pub sent_ends_nothing : (sends : Bool) (setup : Setup) (slot : ℕ) (facts : Facts) → EndsNothing facts (sent_if sends setup slot facts)
sent_ends_nothing true setup slot facts = sent slot facts
sent_ends_nothing false setup slot facts = same facts

module _ (setup : Setup) (slot : ℕ) (exchanges : Bool) (facts : Facts) where
  pub prepared_ends_nothing : EndsNothing facts (prepared setup slot exchanges facts)
  prepared_ends_nothing =
      then_nothing facts (entered_in setup slot facts) (prepared setup slot exchanges facts)
      (entered_if (next_anchor_of facts.control.track == slot) setup slot facts) (fixed_if exchanges (entered_in setup slot facts))

  pub begun_ends_nothing : EndsNothing facts (central_begun setup slot exchanges facts)
  begun_ends_nothing =
      then_nothing facts (prepared setup slot exchanges facts) (central_begun setup slot exchanges facts) prepared_ends_nothing
      (sent_ends_nothing exchanges setup slot (prepared setup slot exchanges facts))
