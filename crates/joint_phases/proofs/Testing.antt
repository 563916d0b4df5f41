-- The facts of a state as one test, which computes in a worked run.
use Rattle.std.proofs.Common.{◌≡◌, Bool, true, false, not, ◌&&◌, ◌||◌, List, [], ◌∷◌, refl}
use Rattle.std.proofs.lemmas.Bool.{and_parts}
use Rattle.phase_pairs.specs.Agreement.{is_equal}
use Rattle.phase_pairs.specs.JointRun.{is_pause_rsp_taken}
use Rattle.joint_controls.specs.procedure_stages.InProgress.{is_host_asked}
use Rattle.joint_controls.specs.procedure_stages.Kinds.{own_exchange}
use Rattle.joint_controls.specs.phased_control.Phased.{is_open_now, is_pause_rsp, is_quiet_now}
use Rattle.joint_controls.specs.Joint.{Joint, JointStep, after, is_item, is_taken, item_on_air}
use Rattle.joint_phases.specs.Classes.{draft_down, has_version, is_version}
use Rattle.joint_phases.specs.Events.{does_begin}
use Rattle.joint_phases.specs.Facts.{Facts, FactsHold, are_of_own, drafts_of, has_no_first, is_version_coming, is_version_kept, is_version_sent}
use Rattle.joint_phases.specs.Parts.{way_down}

abbrev if_so : Bool → Bool → Bool
if_so a b = not a || b

so_then : (a b : Bool) → if_so a b ≡ true → a ≡ true → b ≡ true
so_then true b is h = is
so_then false b is h = absurd (cc)

so_not : (a b : Bool) → if_so a (not b) ≡ true → a ≡ true → b ≡ false
so_not true true is h = absurd (cc)
so_not true false is h = refl
so_not false b is h = absurd (cc)

not_then : (a b : Bool) → if_so (not a) (not b) ≡ true → a ≡ false → b ≡ false
not_then true b is h = absurd (cc)
not_then false true is h = absurd (cc)
not_then false false is h = refl

equal_then : (a b c : Bool) → if_so a (is_equal b c) ≡ true → a ≡ true → b ≡ c
equal_then true true true is h = refl
equal_then true false false is h = refl
equal_then true true false is h = absurd (cc)
equal_then true false true is h = absurd (cc)
equal_then false b c is h = absurd (cc)

two_then : (a b c : Bool) → if_so (a && not b) c ≡ true → a ≡ true → b ≡ false → c ≡ true
two_then true false c is h g = is
two_then true true c is h g = absurd (cc)
two_then false b c is h g = absurd (cc)

three_then : (a b c d : Bool) → if_so (a && (not b && not c)) d ≡ true → a ≡ true → b ≡ false → c ≡ false → d ≡ true
three_then true false false d is h g k = is
three_then true false true d is h g k = absurd (cc)
three_then true true c d is h g k = absurd (cc)
three_then false b c d is h g k = absurd (cc)

both_then : (a b c : Bool) → if_so (a && b) c ≡ true → a ≡ true → b ≡ true → c ≡ true
both_then true true c is h g = is
both_then true false c is h g = absurd (cc)
both_then false b c is h g = absurd (cc)

head : (a b : Bool) → a && b ≡ true → a ≡ true
head a b both = (and_parts a b both).0

tail : (a b : Bool) → a && b ≡ true → b ≡ true
tail a b both = (and_parts a b both).1

abbrev are_facts : Joint → Bool
are_facts s =
    are_of_own (draft_down s.central.knows_version) (drafts_of s.central) s.central.control.table.progress
    && (if_so (is_host_asked s.central.control.table.progress) (is_quiet_now s.central)
    && (if_so (is_taken s.down) (is_equal (is_pause_rsp s.central.control.table.out) (is_pause_rsp_taken (way_down s.central.knows_version s.down)))
    && (if_so (does_begin s.peripheral) (has_no_first s)
    && (if_so s.peripheral.knows_version (not (is_item is_version (item_on_air s.down)))
    && (if_so s.central.knows_version s.peripheral.control.table.version_used
    && (if_so s.central.knows_version (not (has_version (drafts_of s.peripheral)))
    && (if_so s.central.knows_version (not (is_version_coming s.up))
    && (if_so (not s.peripheral.control.table.version_used) (not (has_version (drafts_of s.peripheral)))
    && (if_so (not s.peripheral.control.table.version_used) (not (is_version_coming s.up))
    && (if_so (s.peripheral.control.table.version_used && not s.central.knows_version)
    (has_version (drafts_of s.peripheral) || (is_version_coming s.up || is_version_kept s.central.kept))
    && (if_so (is_version_sent (own_exchange s.central.control.table.progress) && (not s.central.knows_version && not s.peripheral.knows_version))
    (is_item is_version (item_on_air s.down))
    && if_so (s.peripheral.knows_version && is_open_now s.peripheral) s.peripheral.control.table.version_used)))))))))))

facts_by : (s : Joint) → are_facts s ≡ true → Facts s
facts_by s a0 =
    let a1 = tail _ _ a0 in
    let a2 = tail _ _ a1 in
    let a3 = tail _ _ a2 in
    let a4 = tail _ _ a3 in
    let a5 = tail _ _ a4 in
    let a6 = tail _ _ a5 in
    let a7 = tail _ _ a6 in
    let a8 = tail _ _ a7 in
    let a9 = tail _ _ a8 in
    let a10 = tail _ _ a9 in
    let a11 = tail _ _ a10 in
    let a12 = tail _ _ a11 in
    record {
      own_first = head _ _ a0;
      asked_in_quiet = so_then _ _ (head _ _ a1);
      taken_is_out = equal_then _ _ _ (head _ _ a2);
      begins_alone = so_then _ _ (head _ _ a3);
      known_down = so_not _ _ (head _ _ a4);
      known_up = so_then _ _ (head _ _ a5);
      known_queue = so_not _ _ (head _ _ a6);
      known_way = so_not _ _ (head _ _ a7);
      unused_queue = not_then _ _ (head _ _ a8);
      unused_way = not_then _ _ (head _ _ a9);
      used_comes = two_then _ _ _ (head _ _ a10);
      sent_comes = three_then _ _ _ _ (head _ _ a11);
      known_used = both_then _ _ _ a12;
    }

abbrev pub facts_test : List JointStep → Joint → Bool
facts_test [] s = true
facts_test (step ∷ steps) s = are_facts s && facts_test steps (after step s)

pub facts_tested : (steps : List JointStep) (s : Joint) → facts_test steps s ≡ true → FactsHold s steps
facts_tested [] s all = tt
facts_tested (step ∷ steps) s all =
    let both = and_parts (are_facts s) (facts_test steps (after step s)) all in
    (λ running. facts_by s both.0, facts_tested steps (after step s) both.1)
