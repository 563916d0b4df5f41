-- The steps of the worked runs may come.
use Rattle.std.proofs.Common.{inl, ℕ, zero, suc, List, [], ◌∷◌, ◌++◌, Some, replicate, refl, arith}
use Rattle.std.proofs.lemmas.List.Elements.{All-nil}
use Rattle.ble_base.specs.declared.channel_map.ChannelMap.{ChannelMap}
use Rattle.two_tracks.specs.TwoEnds.{TwoEnds as Ends, Step, TurnBegins, MayReach, MaySend, after}
use Rattle.two_tracks.specs.Reached.{AllMay, IsReached, after_all}
use Rattle.two_tracks.specs.Worked.{exchange, heard_in_the_instant, link, silence_after_update, six_slots, state_after}
use Rattle.two_tracks.specs.Worked.{update_is_sent, update_to_eight}

turns_may : (turns : ℕ) (s : Ends) → AllMay (replicate turns TurnBegins) s
turns_may zero s = tt
turns_may (suc turns) s = (tt, turns_may turns (after TurnBegins s))

then_may : (steps more : List Step) (s : Ends) → AllMay steps s → AllMay more (after_all steps s)
    → AllMay (steps ++ more) s
then_may [] more s may then = then
then_may (step ∷ steps) more s may then = (may.0, then_may steps more (after step s) may.1 then)

meets_in_event_0 : (map : ChannelMap) → MayReach (state_after map (replicate 4 TurnBegins))
meets_in_event_0 map =
    record {
      central_open = refl;
      peripheral_open = refl;
      transmits = inl refl;
      listens = inl refl;
      supervised = omega arith;
    }

sends_update : (map : ChannelMap)
    → MaySend (state_after map (replicate 4 TurnBegins ++ exchange)) (Some (update_to_eight 0))
sends_update map =
    record {
      is_open = refl;
      in_event = omega arith;
      acknowledged = refl;
      indicates =
          record {
            over = All-nil _;
            ahead = omega arith;
            near = omega arith;
            interval = omega arith;
          };
    }

update_may : (map : ChannelMap) → AllMay (update_is_sent 0) (link map)
update_may map = (tt, (tt, (tt, (tt, (meets_in_event_0 map, (refl, (sends_update map, tt)))))))

meets_in_the_instant : (map : ChannelMap) → MayReach (state_after map (silence_after_update 0 36))
meets_in_the_instant map =
    record {
      central_open = refl;
      peripheral_open = refl;
      transmits = inl refl;
      listens = inl refl;
      supervised = omega arith;
    }

late_may : (map : ChannelMap) → AllMay (heard_in_the_instant 0) (link map)
late_may map =
    then_may (silence_after_update 0 36) exchange (link map)
    (then_may (update_is_sent 0) (replicate 36 TurnBegins) (link map) (update_may map)
    (turns_may 36 (state_after map (update_is_sent 0))))
    (meets_in_the_instant map, (refl, tt))

pub comes : (map : ChannelMap) → IsReached (six_slots map) 3 (state_after map (update_is_sent 0))
comes map =
    record {
      turns = 0;
      steps = update_is_sent 0;
      not_over = omega arith;
      interval = omega arith;
      may = update_may map;
      reaches = refl;
    }

pub late_comes : (map : ChannelMap) → IsReached (six_slots map) 3 (state_after map (heard_in_the_instant 0))
late_comes map =
    record {
      turns = 0;
      steps = heard_in_the_instant 0;
      not_over = omega arith;
      interval = omega arith;
      may = late_may map;
      reaches = refl;
    }
