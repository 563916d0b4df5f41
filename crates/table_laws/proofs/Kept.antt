-- What holds of the numbers at an end after each list of calls, and how a call may change them.
use Rattle.std.proofs.Common.{ℕ, ◌+◌, ◌≤◌, Bool, true, false, not, arith}
use Rattle.procedures.specs.procedure_stages.declared.stages.Exchange.TheVariants.{FeaturesUnsent, LengthUnsent}
use Rattle.procedures.specs.procedure_stages.declared.stages.OwnCentral.{OwnCentral}
use Rattle.procedures.specs.procedure_stages.declared.stages.OwnCentral.TheVariants.{Exclusive as exclusive, Exchange as exchange, EncryptUnsent, EncryptSent}
use Rattle.exclusive_stages.specs.declared.stages.CentralStage.TheVariants.{UpdateUnsent, MapUnsent, PhyUnsent}
use Rattle.procedures.specs.procedure_stages.declared.stages.OwnPeripheral.{OwnPeripheral}
use Rattle.procedures.specs.procedure_stages.declared.stages.OwnPeripheral.TheVariants.{Exclusive as exclusive_p, Exchange as exchange_p}
use Rattle.exclusive_stages.specs.declared.stages.PeripheralStage.TheVariants.{RequestUnsent, PhyUnsent as phy_unsent}
use Rattle.procedures.specs.procedure_stages.declared.stages.Progress.{Progress}
use Rattle.procedures.specs.procedure_stages.declared.stages.Progress.TheVariants.{Central as central, Peripheral as peripheral}
use Rattle.procedures.specs.Table.{TableFacts}
use Rattle.procedures.specs.procedure_stages.Closing.{is_open}
use Rattle.procedures.specs.procedure_stages.Queue.{waiting_in}
use Rattle.table_laws.specs.Waiting.{asked, end_waiting, count_if, own_waiting, version_waiting}
use Rattle.table_laws.proofs.Numbers.{Counts}
use Rattle.table_laws.proofs.Outcomes.{own_room, room_at_central, room_at_peripheral}

-- what holds of a table after each list of calls
pub record Kept (f : TableFacts) (key : Bool) : Type 0 where
  pub bound : waiting_in f.queue + asked f key ≤ 17 + own_waiting f + version_waiting f + end_waiting f
  pub own : own_waiting f ≤ own_room f.progress
  pub version : version_waiting f ≤ count_if f.version_used
  pub end : end_waiting f ≤ count_if (not (is_open f.closing))

-- a call after which these more wait
pub kept_by : (f g : TableFacts) (key key' : Bool) (all owns versions ends : ℕ) → Kept f key → Counts f.queue g.queue all owns versions ends
    → all + asked g key' ≤ asked f key + owns + versions + ends
    → own_waiting f + owns ≤ own_room g.progress
    → version_waiting f + versions ≤ count_if g.version_used
    → end_waiting f + ends ≤ count_if (not (is_open g.closing))
    → Kept g key'
kept_by f g key key' all owns versions ends kept counts h1 h2 h3 h4 =
    let b = kept.bound in
    let c1 = counts.waiting in
    let c2 = counts.own in
    let c3 = counts.version in
    let c4 = counts.end in
    record {
      bound = omega (arith, b, c1, c2, c3, c4, h1);
      own = omega (arith, c2, h2);
      version = omega (arith, c3, h3);
      end = omega (arith, c4, h4);
    }

-- a call after which few wait
pub kept_anew : (f g : TableFacts) (key key' : Bool) (all owns versions ends : ℕ) → Kept f key → Counts f.queue g.queue all owns versions ends
    → waiting_in f.queue + all + asked g key' ≤ 17
    → own_waiting f + owns ≤ own_room g.progress
    → version_waiting f + versions ≤ count_if g.version_used
    → end_waiting f + ends ≤ count_if (not (is_open g.closing))
    → Kept g key'
kept_anew f g key key' all owns versions ends kept counts h1 h2 h3 h4 =
    let c1 = counts.waiting in
    let c2 = counts.own in
    let c3 = counts.version in
    let c4 = counts.end in
    record {
      bound = omega (arith, c1, h1);
      own = omega (arith, c2, h2);
      version = omega (arith, c3, h3);
      end = omega (arith, c4, h4);
    }

pub at_most_one : (b : Bool) → count_if b ≤ 1
at_most_one true = omega arith
at_most_one false = omega arith

pub one_room : (p : Progress) → own_room p ≤ 1
one_room (central c) = by c.own
  where
    by : (own : OwnCentral) → room_at_central own ≤ 1
    by (exchange FeaturesUnsent) = omega arith
    by (exchange LengthUnsent) = omega arith
    by (exchange other) = omega arith
    by (exclusive UpdateUnsent) = omega arith
    by (exclusive MapUnsent) = omega arith
    by (exclusive PhyUnsent) = omega arith
    by EncryptUnsent = omega arith
    by EncryptSent = omega arith
    by (exclusive other) = omega arith
one_room (peripheral p) = by p.own
  where
    by : (own : OwnPeripheral) → room_at_peripheral own ≤ 1
    by (exchange_p FeaturesUnsent) = omega arith
    by (exchange_p LengthUnsent) = omega arith
    by (exchange_p other) = omega arith
    by (exclusive_p RequestUnsent) = omega arith
    by (exclusive_p phy_unsent) = omega arith
    by (exclusive_p other) = omega arith
