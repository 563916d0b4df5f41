-- Proof of `rows::worked_ends_of_turns`: the definitions compute.
use Rattle.std.proofs.Common.{◌≡◌, Option, None, Some, List, [], ◌∷◌, ◌++◌, refl, ap, subst, ◌∙◌}
use Rattle.std.specs.Prelude.{⊤, drop, fold}
use Rattle.ble_base.specs.declared.roles.Side.{Side}
use Rattle.journal.specs.declared.entries.Entry.{Entry}
use Rattle.journal_hosts.specs.HostOrder.{MayFollowData, handed_after}
use Rattle.journal_hosts.specs.OrderRows.{next_begins}
use Rattle.journal_hosts.proofs.rows.worked_ends_of_turns.Goals as goal

abbrev May : Option Side → Entry → Type 0
May None line = ⊤
May (Some last) line = MayFollowData last line

abbrev AllMay : Option Side → List Entry → Type 0
AllMay handed [] = ⊤
AllMay handed (line ∷ lines) = May handed line × AllMay (handed_after handed line) lines

may_follow : (lines front rest : List Entry) (line : Entry) (last : Side) (handed : Option Side) → AllMay handed lines
    → lines ≡ front ++ line ∷ rest → fold handed_after handed front ≡ Some last → MayFollowData last line
may_follow [] [] rest line last handed all is up = absurd cc
may_follow [] (first ∷ front) rest line last handed all is up = absurd cc
may_follow (one ∷ lines) [] rest line last handed all is up =
    let same : one ≡ line = cc in
    subst (MayFollowData last) same (subst (λ (some : Option Side). May some one) up all.0)
may_follow (one ∷ lines) (first ∷ front) rest line last handed all is up =
    let same : one ≡ first = cc in
    may_follow lines front rest line last (handed_after handed one) all.1 (ap (drop 1) is)
    (ap (λ (other : Entry). fold handed_after (handed_after handed other) front) same ∙ up)

pub returns-clause-a : goal.returns-clause-a
returns-clause-a c = refl

pub returns-clause-b : goal.returns-clause-b
returns-clause-b c = refl

pub returns-clause-turn : goal.returns-clause-turn
returns-clause-turn c = refl

pub returns-clause-right : goal.returns-clause-right
returns-clause-right c = λ front rest line last is up.
    may_follow next_begins front rest line last None (tt, (tt, (tt, (tt, (tt, (tt, (tt, tt))))))) is up
