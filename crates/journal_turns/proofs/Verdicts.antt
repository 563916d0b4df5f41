-- What a listener makes of a packet, by what the radio did to it.
use Rattle.std.proofs.Common.{◌≡◌, ℕ, false, List, [], ◌∷◌, refl, sym, ap, subst, ◌∙◌}
use Rattle.std.specs.Prelude.{Option, Some, None}
use Rattle.ble_base.specs.declared.verdicts.Verdict.{Verdict}
use Rattle.ble_base.specs.declared.verdicts.Verdict.TheVariants.{Missed, Forged}
use Rattle.ble_base.specs.declared.roles.Side.{Side}
use Rattle.journal.specs.declared.entries.Mark.{Mark}
use Rattle.journal.specs.declared.entries.Mark.TheVariants.{Lost as WasLost}
use Rattle.journal.specs.declared.entries.Entry.{Entry}
use Rattle.radio_replay.specs.Damage.{damaged_packet}
use Rattle.radio_replay.specs.declared.fates.Fate.{Fate}
use Rattle.radio_replay.specs.declared.fates.Fate.TheVariants.{Pass, Lost, Damage}
use Rattle.run_model.specs.controller_model.Facts.{Facts}
use Rattle.run_model.specs.controller_model.Packets.{channel_listened}
use Rattle.run_model.specs.Entries.{IsAired}
use Rattle.run_model.specs.History.{Event, Hearing, fates_used}
use Rattle.run_model.specs.Journal.{mark_of}
use Rattle.run_model.specs.Run.{Given, facts_at, fate_at, hearing_at, hearings_from, others_than, reaches, use_at, verdict_where}
use Rattle.journal_turns.specs.Judged.{IsJudged}

-- ---- a lost packet reaches nobody

lost_for : (channel : ℕ) (listened : Option ℕ) → reaches Lost channel listened ≡ false
lost_for channel None = refl
lost_for channel (Some other) = refl

missed_where : (fate : Fate) (channel : ℕ) (listened : Option ℕ) (facts : Facts) (octets : List ℕ) → mark_of fate ≡ WasLost
    → verdict_where (reaches fate channel listened) facts octets ≡ Missed
missed_where Pass channel listened facts octets is = absurd cc
missed_where Lost channel listened facts octets is = ap (λ reached. verdict_where reached facts octets) (lost_for channel listened)
missed_where (Damage at pattern) channel listened facts octets is = absurd cc

-- ---- a hearing

abbrev IsMissedWhereLost : Hearing → Type 0
IsMissedWhereLost hearing = mark_of hearing.fate ≡ WasLost → hearing.verdict ≡ Missed

heard_so : (given : Given) (fate : Fate) (channel : ℕ) (octets : List ℕ) (history : List Event) (listener : ℕ)
    → IsMissedWhereLost (hearing_at given fate channel octets history listener)
heard_so given fate channel octets history listener =
    missed_where fate channel (channel_listened (use_at given listener history)) (facts_at given listener history) (damaged_packet fate octets)

-- the first of the hearings of a packet
first_heard : (given : Given) (fates : List Fate) (number channel : ℕ) (octets : List ℕ) (history : List Event) (listeners : List ℕ)
    (hearing : Hearing) (others : List Hearing) → hearing ∷ others ≡ hearings_from given fates number channel octets history listeners
    → IsMissedWhereLost hearing
first_heard given fates number channel octets history [] hearing others is = absurd cc
first_heard given fates number channel octets history (listener ∷ listeners) hearing others is =
    let same : hearing ≡ hearing_at given (fate_at fates number) channel octets history listener = cc in
    subst IsMissedWhereLost (sym same) (heard_so given (fate_at fates number) channel octets history listener)

pub is_judged : (given : Given) (front : List Entry) (side : Side) (channel : ℕ) (octets : List ℕ) (fate : Mark) (verdict : Verdict)
    → IsAired given front side channel octets fate verdict → IsJudged octets fate verdict
is_judged given front side channel octets fate verdict aired =
    let heard = first_heard given aired.is_due.plan.fates (fates_used aired.before) channel octets aired.before
    (others_than aired.station given.stations) aired.hearing aired.others aired.is_due.hearings_are in
    record {
      done = aired.hearing.fate;
      fate_is = aired.fate_is;
      lost = λ is. aired.verdict_is ∙ heard (sym aired.fate_is ∙ is);
      unchanged = aired.unchanged;
      forged = λ is gone. absurd (let h : Missed ≡ Forged = sym (aired.verdict_is ∙ heard (sym aired.fate_is ∙ gone)) ∙ is in cc);
    }
