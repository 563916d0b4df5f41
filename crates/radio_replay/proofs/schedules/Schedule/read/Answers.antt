-- Proof of `schedules::Schedule::read`.
use Rattle.std.proofs.Common.{◌≡◌, ◌≤◌, length}
use Rattle.std.specs.List.{All}
use Rattle.std.proofs.lemmas.Result.{IfOk-weaker}
use Rattle.radio_replay.specs.Schedule.{Right, schedule_of}
use Rattle.radio_replay.specs.Script.{CanBeFed, Script}
use Rattle.radio_replay.proofs.Facts.{facts}
use Rattle.radio_replay.proofs.schedules.Schedule.read.Goals as goal

pub returns-clause-bounded : goal.returns-clause-bounded
returns-clause-bounded c =
    let text = c.args.octets.now in
    IfOk-weaker c.read_text.result (λ (s : Script). schedule_of text ≡ Right s.a s.b s.turns) (λ s. All CanBeFed s.turns)
    (λ s is. let all = facts text s.a s.b s.turns is in all.1) c.read_text.ensures.ok

pub returns-clause-a_has_words : goal.returns-clause-a_has_words
returns-clause-a_has_words c =
    let text = c.args.octets.now in
    IfOk-weaker c.read_text.result (λ (s : Script). schedule_of text ≡ Right s.a s.b s.turns) (λ s. 1 ≤ length s.a.words.items)
    (λ s is. let all = facts text s.a s.b s.turns is in all.2) c.read_text.ensures.ok

pub returns-clause-b_has_words : goal.returns-clause-b_has_words
returns-clause-b_has_words c =
    let text = c.args.octets.now in
    IfOk-weaker c.read_text.result (λ (s : Script). schedule_of text ≡ Right s.a s.b s.turns) (λ s. 1 ≤ length s.b.words.items)
    (λ s is. let all = facts text s.a s.b s.turns is in all.3) c.read_text.ensures.ok
