-- What an accepted command of advertising tells, and what one of counts leaves.
use Rattle.std.proofs.Common.{◌≡◌, ℕ, ◌≤◌, Bool, true, false, List, cond, refl, arith}
use Rattle.std.specs.Prelude.{nat_le, nat_lt, not}
use Rattle.std.proofs.lemmas.Bool.{and_parts, leb-true}
use Rattle.std.proofs.lemmas.Bool.Decides.{nat_tests}
use Rattle.arrayvec.specs.ArrayVec.{ArrayVec}
use Rattle.hci_cmd.specs.declared.command.HandleCount.{HandleCount}
use Rattle.hci_cmd.specs.declared.command.Command.TheVariants.{HostCompleted, LeSetAdvParams, LeSetAdvData, LeSetScanResponse}
use Rattle.host_view.specs.View.{View}
use Rattle.host_view.specs.Changes.{after_counts, view_after}
use Rattle.host_view.specs.Status.{are_intervals}
use Rattle.host_view.specs.Status.{status_of}
use Rattle.host_view.specs.scan_init.Windows.{slots_of}
use Rattle.link_commands.proofs.Ranges.{passes}

pub not_not : (b : Bool) → not b ≡ false → b ≡ true
not_not true is = refl
not_not false is = absurd (let h : true ≡ false = is in absurd cc)

-- ---- the data

short : (count : ℕ) → nat_lt 31 count ≡ false → count ≤ 31
short count is = grind (arith, nat_tests)

pub data_short : (view : View) (count : ℕ) (text : List ℕ) → status_of view (LeSetAdvData count text) ≡ 0 → count ≤ 31
unfolding status_of
data_short view count text accepted = short count (passes (nat_lt 31 count) _ _ accepted).0

pub response_short : (view : View) (count : ℕ) (text : List ℕ) → status_of view (LeSetScanResponse count text) ≡ 0 → count ≤ 31
unfolding status_of
response_short view count text accepted = short count (passes (nat_lt 31 count) _ _ accepted).0

-- ---- the parameters

pub half : (units : ℕ) → 32 ≤ units → 16 ≤ slots_of units
half units long = omega arith

long_interval : (min max : ℕ) → are_intervals min max ≡ true → 16 ≤ slots_of min
long_interval min max are =
    half min (leb-true 0x0020 min (and_parts (nat_le 0x0020 min) _ are).0)

-- they are set only while advertising is off
pub set_while_off : (view : View) (min max kind own peer_kind : ℕ) (peer : List ℕ) (channels policy : ℕ)
    → status_of view (LeSetAdvParams min max kind own peer_kind peer channels policy) ≡ 0 → view.advertising.on ≡ false
unfolding status_of
set_while_off view min max kind own peer_kind peer channels policy accepted =
    (passes view.advertising.on _ _ accepted).0

pub long_set : (view : View) (min max kind own peer_kind : ℕ) (peer : List ℕ) (channels policy : ℕ)
    → status_of view (LeSetAdvParams min max kind own peer_kind peer channels policy) ≡ 0 → 16 ≤ slots_of min
unfolding status_of
long_set view min max kind own peer_kind peer channels policy accepted =
    let off = passes view.advertising.on _ _ accepted in
    let intervals = passes (not (are_intervals min max)) _ _ off.1 in
    long_interval min max (not_not (are_intervals min max) intervals.0)

-- ---- counts of packets

-- they change the links of the view and no other part of it
pub same_after_counts : {A : Type 0} (part : View → A) (view : View) (counts : ArrayVec HandleCount)
    → part (record view { links = after_counts view.links counts.items }) ≡ part view → part (view_after view (HostCompleted counts)) ≡ part view
unfolding view_after
same_after_counts {A} part view counts same = by view.flow.on
  where
    by : (on : Bool) → part (cond on (record view { links = after_counts view.links counts.items }) view) ≡ part view
    by true = same
    by false = refl
