-- What holds of both ends of a link at any time, and why each step keeps it.
use Rattle.std.proofs.Common.{◌≡◌, inl, inr, ℕ, ◌+◌, ◌<◌, ◌≤◌, Bool, true, false, List, []}
use Rattle.std.proofs.Common.{◌∷◌, ◌++◌, Option, Some, None, IfSome, option_to_list, refl, ◌∙◌, arith}
use Rattle.std.specs.List.{All}
use Rattle.std.proofs.lemmas.List.{append-nil}
use Rattle.std.proofs.lemmas.List.Elements.{All-nil, All-push, All-pop, All-weaker}
use Rattle.instants.specs.declared.indications.Params.{Params}
use Rattle.instants.specs.declared.indications.Indication.{Indication}
use Rattle.instants.specs.declared.track.Change.{Change}
use Rattle.instants.specs.Track.{TrackFacts, event_of, next_anchor_of, track_after_enter}
use Rattle.two_tracks.specs.TwoEnds.{TwoEnds as Ends, Acknowledged, MayIndicate}
use Rattle.two_tracks.specs.TwoEnds.{after_turn, after_sending, beginning}
use Rattle.two_tracks.specs.TwoEnds.{change_of, enters, entries_if, track_if, turn_with}
use Rattle.two_tracks.specs.Reached.{AreOpen, untaken}
use Rattle.two_tracks.proofs.Anchors.{count_as_entered}
use Rattle.two_tracks.proofs.Gaps.{IsNamed, named_as_sent}
use Rattle.two_tracks.proofs.Meeting.{sent_ahead, later_as_sent}
use Rattle.two_tracks.proofs.Moving.{Enters, IsMet, stand_turn, on_time_turn, met_turn}
use Rattle.two_tracks.proofs.OneEnd.{Knows, IsRight, knows_first, right_of, right_later, knows_entered, knows_sent}
use Rattle.two_tracks.proofs.OneEnd.{knows_of_more}
use Rattle.two_tracks.proofs.Relations.{AreLevel, Stand, level_count}

-- each turn in which the peripheral hears nothing brings it at most one event on
abbrev pub IsAwaited : Ends → Change → Type 0
IsAwaited s change = s.peripheral.entered + s.peripheral_heard_at ≤ change.at.0 + 1 + s.turns

-- the peripheral replies in this turn
pub record IsReplying (s : Ends) : Type 0 where
  pub are_open : AreOpen s
  pub count : s.central.entered ≡ s.peripheral.entered
  pub anchor : s.central.anchor ≡ s.peripheral.anchor

-- what is said of both ends while they are open
pub record AreJoined (s : Ends) : Type 0 where
  pub stand : Stand s.turns (untaken s.last) s.central s.peripheral
  pub awaited : IfSome (untaken s.last) (IsAwaited s)
  pub central_met : IsMet s.turns s.central_heard_at s.central s.peripheral
  pub peripheral_met : IsMet s.turns s.peripheral_heard_at s.peripheral s.central

pub record Joint (first : Params) (slot : ℕ) (s : Ends) : Type 0 where
  pub central : Knows first slot s.sent [] s.central
  pub peripheral : Knows first slot s.sent (option_to_list (untaken s.last)) s.peripheral
  pub central_entries : All (IsRight first slot s.sent) s.central_entries
  pub peripheral_entries : All (IsRight first slot s.sent) s.peripheral_entries
  pub central_on_time : s.central_open ≡ true → s.turns ≤ next_anchor_of s.central
  pub peripheral_on_time : s.peripheral_open ≡ true → s.turns ≤ next_anchor_of s.peripheral
  pub central_heard : s.central_heard_at ≤ s.turns
  pub peripheral_heard : s.peripheral_heard_at ≤ s.turns
  pub named : IfSome (untaken s.last) IsNamed
  pub joined : AreOpen s → AreJoined s
  pub replies : s.replies ≡ true → IsReplying s

-- ---- as the link begins

pub joint_first : (first : Params) (slot turns : ℕ) → turns ≤ slot → 6 ≤ first.interval
    → Joint first slot (beginning first slot turns)
joint_first first slot turns not_over interval =
    record {
      central = knows_first first slot interval;
      peripheral = knows_first first slot interval;
      central_entries = All-nil _;
      peripheral_entries = All-nil _;
      central_on_time = λ e. not_over;
      peripheral_on_time = λ e. not_over;
      central_heard = omega arith;
      peripheral_heard = omega arith;
      named = tt;
      joined = λ e. record { stand = inl refl; awaited = tt; central_met = λ a b. refl; peripheral_met = λ a b. refl };
      replies = λ e. absurd (cc);
    }

-- ---- a turn begins

knows_if : (first : Params) (slot : ℕ) (sent rest : List Change) (t : TrackFacts) (enters : Bool)
    → Knows first slot sent rest t → Knows first slot sent rest (track_if enters t)
knows_if first slot sent rest t true knows = knows_entered first slot sent rest t knows
knows_if first slot sent rest t false knows = knows

entries_kept : (first : Params) (slot : ℕ) (sent rest : List Change) (t : TrackFacts) (enters : Bool)
    (entries : List TrackFacts)
    → Knows first slot sent rest t → All (IsRight first slot sent) entries
    → All (IsRight first slot sent) (entries_if enters t entries)
entries_kept first slot sent rest t true entries knows right =
    All-push (IsRight first slot sent) entries (track_after_enter t) right
    (right_of first slot sent rest (track_after_enter t) (knows_entered first slot sent rest t knows))
entries_kept first slot sent rest t false entries knows right = right

count_turn : (t : TrackFacts) (enters : Bool) → (track_if enters t).entered ≤ t.entered + 1
count_turn t true = omega (arith, count_as_entered t)
count_turn t false = omega arith

-- the test of an open end
test_open : (turns : ℕ) (is_open : Bool) (t : TrackFacts) (test : Bool) → enters turns is_open t ≡ test
    → is_open ≡ true → Enters turns t test
test_open turns true t test is opened = is
test_open turns false t test is opened = absurd (cc)

awaited_turn : (s : Ends) (central peripheral : Bool) (last : Option Change) → IfSome last (IsAwaited s)
    → IfSome last (IsAwaited (turn_with central peripheral s))
awaited_turn s central peripheral None awaited = tt
awaited_turn s central peripheral (Some change) awaited = omega (arith, awaited, count_turn s.peripheral peripheral)

joined_turn : (first : Params) (slot : ℕ) (s : Ends) (central peripheral : Bool)
    → enters s.turns s.central_open s.central ≡ central
    → enters s.turns s.peripheral_open s.peripheral ≡ peripheral
    → Joint first slot s → AreOpen s
    → AreJoined (turn_with central peripheral s)
joined_turn first slot s central peripheral of_c of_p joint are_open =
    let joined = joint.joined are_open in
    let c = test_open s.turns s.central_open s.central central of_c are_open.central in
    let p = test_open s.turns s.peripheral_open s.peripheral peripheral of_p are_open.peripheral in
    record {
      stand =
          stand_turn s.turns (untaken s.last) s.central s.peripheral central peripheral c p
          (joint.peripheral_on_time are_open.peripheral) joined.stand;
      awaited = awaited_turn s central peripheral (untaken s.last) joined.awaited;
      central_met =
          met_turn s.turns s.central_heard_at s.central s.peripheral central peripheral c p joint.central_heard
          joint.peripheral.intervals joined.central_met;
      peripheral_met =
          met_turn s.turns s.peripheral_heard_at s.peripheral s.central peripheral central p c joint.peripheral_heard
          joint.central.intervals joined.peripheral_met;
    }

turn_kept : (first : Params) (slot : ℕ) (s : Ends) (central peripheral : Bool)
    → enters s.turns s.central_open s.central ≡ central
    → enters s.turns s.peripheral_open s.peripheral ≡ peripheral
    → Joint first slot s
    → Joint first slot (turn_with central peripheral s)
turn_kept first slot s central peripheral of_c of_p joint =
    let rest = option_to_list (untaken s.last) in
    let knows_c = knows_if first slot s.sent [] s.central central joint.central in
    let knows_p = knows_if first slot s.sent rest s.peripheral peripheral joint.peripheral in
    record {
      central = knows_c;
      peripheral = knows_p;
      central_entries =
          entries_kept first slot s.sent [] s.central central s.central_entries joint.central joint.central_entries;
      peripheral_entries =
          entries_kept first slot s.sent rest s.peripheral peripheral s.peripheral_entries joint.peripheral
          joint.peripheral_entries;
      central_on_time =
          λ is_open. on_time_turn s.turns s.central central
          (test_open s.turns s.central_open s.central central of_c is_open) knows_c.intervals
          (joint.central_on_time is_open);
      peripheral_on_time =
          λ is_open. on_time_turn s.turns s.peripheral peripheral
          (test_open s.turns s.peripheral_open s.peripheral peripheral of_p is_open) knows_p.intervals
          (joint.peripheral_on_time is_open);
      central_heard = omega (arith, joint.central_heard);
      peripheral_heard = omega (arith, joint.peripheral_heard);
      named = joint.named;
      joined =
          λ are_open. joined_turn first slot s central peripheral of_c of_p joint
          (record { central = are_open.central; peripheral = are_open.peripheral });
      replies = λ e. absurd (cc);
    }

pub joint_turn : (first : Params) (slot : ℕ) (s : Ends) → Joint first slot s → Joint first slot (after_turn s)
joint_turn first slot s joint =
    turn_kept first slot s (enters s.turns s.central_open s.central) (enters s.turns s.peripheral_open s.peripheral)
    refl refl joint

-- ---- the central sends

-- where the Instants of all that were sent are over, nothing waits
pub free_if_over : (first : Params) (slot : ℕ) (sent : List Change) (t : TrackFacts) → Knows first slot sent [] t
    → All (λ change. change.at.0 < event_of t) sent
    → t.waits ≡ None
free_if_over first slot sent t knows over = by_waits t.waits refl
  where
    by_waits : (waits : Option Change) → t.waits ≡ waits → t.waits ≡ None
    by_waits None is = is
    by_waits (Some change) is =
        let last = (All-pop (λ c. c.at.0 < event_of t) sent knows.held t.waits
        (knows.all ∙ append-nil (knows.held ++ option_to_list t.waits)) over).1 in
        let past : change.at.0 < event_of t = rw is at last in
        let ahead : event_of t ≤ change.at.0 = rw is at knows.follows.ahead in
        absurd (omega arith)

-- and both ends are equal, where the peripheral has taken all
equal_if_over : (first : Params) (slot : ℕ) (sent : List Change) (c p : TrackFacts) → Knows first slot sent [] p
    → All (λ change. change.at.0 < event_of c) sent
    → AreLevel c p
    → c ≡ p
equal_if_over first slot sent c p knows over (inl same) = same
equal_if_over first slot sent c p knows over (inr late) =
    let last = (All-pop (λ x. x.at.0 < event_of c) sent knows.held p.waits
    (knows.all ∙ append-nil (knows.held ++ option_to_list p.waits)) over).1 in
    let past : late.change.at.0 < event_of c = rw late.waits at last in
    absurd (omega (arith, past, level_count c p (inr late), late.in_instant))

right_all : (first : Params) (slot : ℕ) (sent more : List Change) (entries : List TrackFacts)
    → All (IsRight first slot sent) entries → All (IsRight first slot (sent ++ more)) entries
right_all first slot sent more entries right =
    All-weaker (IsRight first slot sent) (IsRight first slot (sent ++ more))
    (λ t r. right_later first slot sent more t r) entries right

pub joint_sends_none : (first : Params) (slot : ℕ) (s : Ends) → s.last ≡ Acknowledged → Joint first slot s
    → Joint first slot (after_sending None s)
joint_sends_none first slot s acknowledged joint =
    record {
      central = joint.central;
      peripheral = rw acknowledged at joint.peripheral;
      central_entries = joint.central_entries;
      peripheral_entries = joint.peripheral_entries;
      central_on_time = joint.central_on_time;
      peripheral_on_time = joint.peripheral_on_time;
      central_heard = joint.central_heard;
      peripheral_heard = joint.peripheral_heard;
      named = tt;
      joined =
          λ are_open. let joined = joint.joined (record {
            central = are_open.central;
            peripheral = are_open.peripheral;
          }) in
          record {
            stand = rw acknowledged at joined.stand;
            awaited = tt;
            central_met = joined.central_met;
            peripheral_met = joined.peripheral_met;
          };
      replies =
          λ replies. let replying = joint.replies replies in
          record {
            are_open =
                record {
                  central = replying.are_open.central;
                  peripheral = replying.are_open.peripheral;
                };
            count = replying.count;
            anchor = replying.anchor;
          };
    }

pub joint_sends_some : (first : Params) (slot : ℕ) (s : Ends) (indication : Indication) → 1 ≤ s.central.entered
    → s.last ≡ Acknowledged → MayIndicate s indication → Joint first slot s
    → Joint first slot (after_sending (Some indication) s)
joint_sends_some first slot s indication started acknowledged may joint =
    let change = change_of (event_of s.central) indication in
    let free = free_if_over first slot s.sent s.central joint.central may.over in
    let knows_p : Knows first slot s.sent [] s.peripheral = rw acknowledged at joint.peripheral in
    let later = later_as_sent s.central indication started free may.ahead in
    record {
      central = knows_sent first slot s.sent s.central indication started free may.interval joint.central;
      peripheral = knows_of_more first slot s.sent change s.peripheral may.interval knows_p;
      central_entries = right_all first slot s.sent (change ∷ []) s.central_entries joint.central_entries;
      peripheral_entries = right_all first slot s.sent (change ∷ []) s.peripheral_entries joint.peripheral_entries;
      central_on_time = λ is_open. omega (arith, joint.central_on_time is_open, later);
      peripheral_on_time = joint.peripheral_on_time;
      central_heard = joint.central_heard;
      peripheral_heard = joint.peripheral_heard;
      named = named_as_sent (event_of s.central) indication;
      joined =
          λ are_open. let joined = joint.joined (record {
            central = are_open.central;
            peripheral = are_open.peripheral;
          }) in
          let level : AreLevel s.central s.peripheral = rw acknowledged at joined.stand in
          let same = equal_if_over first slot s.sent s.central s.peripheral knows_p may.over level in
          let ahead = sent_ahead s.central s.peripheral indication started free may.ahead may.near same in
          record {
            stand = inl ahead;
            awaited = omega (arith, ahead.not_yet, joint.peripheral_heard);
            central_met = joined.central_met;
            peripheral_met = joined.peripheral_met;
          };
      replies =
          λ replies. let replying = joint.replies replies in
          record {
            are_open =
                record {
                  central = replying.are_open.central;
                  peripheral = replying.are_open.peripheral;
                };
            count = replying.count;
            anchor = replying.anchor;
          };
    }
