-- Worked lists of calls.
use Rattle.std.proofs.Common.{◌≡◌, ℕ, ◌≤◌, Bool, true, false, List, ◌++◌, Option, Some, None, refl, arith}
use Rattle.ble_base.specs.declared.procedure_kinds.Kind.{Kind}
use Rattle.ble_base.specs.declared.procedure_kinds.Kind.TheVariants.{Encrypt}
use Rattle.ble_base.specs.declared.roles.Role.{Role}
use Rattle.ble_base.specs.declared.roles.Role.TheVariants.{Central}
use Rattle.procedures.specs.procedure_stages.Kinds.{own_kind}
use Rattle.procedures.specs.Table.{TableFacts, first_facts}
use Rattle.procedures.specs.procedure_stages.InProgress.{has_peer}
use Rattle.procedures.specs.procedure_stages.Queue.{waiting_in}
use Rattle.procedures.specs.Calls.{Call, after_calls}
use Rattle.table_laws.specs.Pasts.{MayAll}
use Rattle.table_laws.specs.Waiting.{version_waiting}
use Rattle.table_laws.specs.Exclusive.{AllKeepRules, exclusive_waiting}
use Rattle.table_laws.specs.Encrypting.{has_encryption}
use Rattle.table_laws.specs.Quiet.{AllMeanwhile, IsMeanwhile, MayKeep, TakesMeanwhile}
use Rattle.table_laws.specs.Worked.{begun_anew, crowding, encryption_asked, encryption_begun}
use Rattle.table_laws.proofs.Bounds.{all_after, version_after}
use Rattle.table_laws.proofs.OneAtATime.{none_after}

abbrev is_encrypt : Option Kind → Bool
is_encrypt (Some Encrypt) = true
is_encrypt other = false

-- no encryption is in progress
none : (own : Option Kind) (waits : ℕ) (A : Type 0) → is_encrypt own ≡ false → own ≡ Some Encrypt → 1 ≤ waits → A
none own waits A no_encryption is less = absurd (cc)

pub crowding_comes : MayAll (first_facts Central 27) false crowding
crowding_comes = (
  none _ _ _ refl,
  (
    none _ _ _ refl,
    (
      none _ _ _ refl,
      (
        none _ _ _ refl,
        (
          none _ _ _ refl,
          (
            none _ _ _ refl,
            (
              none _ _ _ refl,
              (
                none _ _ _ refl,
                (
                  none _ _ _ refl,
                  (
                    none _ _ _ refl,
                    (
                      none _ _ _ refl,
                      (
                        none _ _ _ refl,
                        (
                          none _ _ _ refl,
                          (
                            none _ _ _ refl,
                            (
                              none _ _ _ refl,
                              (
                                none _ _ _ refl,
                                (none _ _ _ refl, (_, (_, (none _ _ _ refl, (_, (_, (refl, (_, _)))))))),
                              ),
                            ),
                          ),
                        ),
                      ),
                    ),
                  ),
                ),
              ),
            ),
          ),
        ),
      ),
    ),
  ),
)

pub twenty_wait : waiting_in (after_calls (first_facts Central 27) crowding).queue ≡ 20
twenty_wait = refl

pub one_is_left : exclusive_waiting (after_calls (first_facts Central 27) begun_anew) ≡ 1
one_is_left = refl

pub no_own : own_kind (after_calls (first_facts Central 27) begun_anew).progress ≡ None
no_own = refl

pub no_peer : has_peer (after_calls (first_facts Central 27) begun_anew).progress ≡ false
no_peer = refl

pub breaks_rules : AllKeepRules (first_facts Central 27) begun_anew → ⊥
breaks_rules rules = absurd (let one = rules.1.0.one in cc)

-- ---- tables to which no calls lead

pub crowded : (role : Role) (max_rx : ℕ) (calls : List Call) → MayAll (first_facts role max_rx) false calls
    → waiting_in (after_calls (first_facts role max_rx) calls).queue ≡ 21 → ⊥
crowded role max_rx calls may is = let most = all_after role max_rx calls may in absurd (omega (arith, most, is))

pub two_versions : (role : Role) (max_rx : ℕ) (calls : List Call) → MayAll (first_facts role max_rx) false calls
    → version_waiting (after_calls (first_facts role max_rx) calls) ≡ 2 → ⊥
two_versions role max_rx calls may is = let most = version_after role max_rx calls may in absurd (omega (arith, most, is))

pub left_over : (max_rx : ℕ) (calls : List Call) → MayAll (first_facts Central max_rx) false calls → AllKeepRules (first_facts Central max_rx) calls
    → exclusive_waiting (after_calls (first_facts Central max_rx) calls) ≡ 1
    → own_kind (after_calls (first_facts Central max_rx) calls).progress ≡ None
    → has_peer (after_calls (first_facts Central max_rx) calls).progress ≡ false → ⊥
left_over max_rx calls may rules is none gone =
    let empty = none_after max_rx calls may rules none gone in absurd (omega (arith, empty, is))

-- ---- an encryption during which a PDU may be kept

pub encryption_comes : MayAll (first_facts Central 27) false encryption_begun
encryption_comes = (_, (_, (λ opens. record { encrypts = refl; none_waits = refl }, _)))

pub encryption_rules : AllKeepRules (first_facts Central 27) encryption_begun
encryption_rules = (_, (_, (_, _)))

pub encryption_keeps : MayKeep (after_calls (first_facts Central 27) encryption_begun)
encryption_keeps = record { encrypts = refl; owes_nothing = refl }

pub later_comes : MayAll (after_calls (first_facts Central 27) encryption_begun) false encryption_asked
later_comes = (_, (_, (λ is waits. refl, (λ is waits. refl, (λ opens. omega arith, _)))))

now : (f : TableFacts) (call : Call) → has_encryption f.progress ≡ true → TakesMeanwhile call → IsMeanwhile f call
now f call is may = record { encrypts = is; takes_it = may }

pub later_meanwhile : AllMeanwhile (after_calls (first_facts Central 27) encryption_begun) encryption_asked
later_meanwhile = (now _ _ refl _, (now _ _ refl _, (now _ _ refl _, (now _ _ refl _, (now _ _ refl _, _)))))

pub one_waits : waiting_in (after_calls (first_facts Central 27) (encryption_begun ++ encryption_asked)).queue ≡ 1
one_waits = refl
