-- What an end holds as its host asks for a procedure, answers a request, gives a key and ends the link (Core 5.2, volume
-- 6 part B, sections 5.1, 5.1.3 and 5.1.6).
use Rattle.std.specs.Prelude.{ℕ, ◌==◌, ◌&&◌, not, Bool, true, false, List, Option, Some, None, Result, if◌then◌else◌}
use Rattle.ble_base.specs.declared.channel_map.ChannelMap.{ChannelMap}
use Rattle.ble_base.specs.declared.error_codes.ErrCode.{ErrCode}
use Rattle.procedures.specs.procedure_values.declared.asks.Ask.{Ask}
use Rattle.procedures.specs.procedure_values.declared.asks.Ask.TheVariants.{Map}
use Rattle.control_end.specs.Held.{Held as Control}
use Rattle.link_model.specs.phased_end.Held.{HeldKeyed, held_after}
use Rattle.link_model.specs.phased_end.Moves.{awaits_key}
use Rattle.link_model.specs.phased_end.enc_phase.declared.facts.Transition.TheVariants.{Refuse}
use Rattle.link_model.specs.phased_end.enc_phase.Phases.{may_follow}
use Rattle.link_model.specs.phased_end.keyed_control.KeyedSteps.{Answers, Asks, Disconnects}
use Rattle.link_model.specs.Hosts.{first_slot, key_step, leaving_from_if, map_queued, map_waiting, map_wanted, or_else}
use Rattle.link_model.specs.Receiving.{lengths_seen}
use Rattle.link_end.specs.Held.{Held}

-- the map that the link is to have: the one that is wanted, or else the one on its way, or else that of now
abbrev pub map_to_come : Control → ChannelMap
map_to_come control =
    or_else (map_wanted control.table.wanted)
    (or_else (map_queued control.table.queue.drafts)
    (or_else (map_waiting control.track.waits) control.track.params.map))

-- a map that the link is to have already changes nothing
abbrev pub is_to_come : Ask → Control → Bool
is_to_come (Map map) control = map == map_to_come control
is_to_come other control = false

-- the host asks for a procedure, which may set the longest payload that is transmitted (section 4.5.10)
abbrev pub held_asked : Ask → Held → Held
held_asked ask held =
    record held {
      control = held_after (Asks ask) held.control;
      lengths =
          lengths_seen held.control.control.table.lengths (held_after (Asks ask) held.control).control.table.lengths
          held.lengths;
    }

-- what is to come changes nothing (our choice)
abbrev pub held_asked_unless : Bool → Ask → Held → Held
held_asked_unless is_to_come ask held = if is_to_come then held else held_asked ask held

-- it answers a request of the peer (section 5.1.7)
abbrev pub held_answered : Result Ask ErrCode → Held → Held
held_answered answer held = record held { control = held_after (Answers answer) held.control }

-- it ends the link in this slot (section 5.1.6); the first slot in which the end was to end it stays
abbrev pub held_disconnected : ErrCode → ℕ → Held → Held
held_disconnected reason slot held =
    record held {
      control = held_after (Disconnects reason) held.control;
      leaving = record held.leaving { disconnected = Some (first_slot held.leaving.disconnected slot) };
    }

-- ---- the host of a peripheral has a key or none (sections 5.1.3.1 and 5.1.3.2)

-- after a pause an end without a key ends the link
abbrev pub ends_without_key : Option (List ℕ) → HeldKeyed → Bool
ends_without_key None h = awaits_key h && not (may_follow Refuse h.end.phase)
ends_without_key (Some ltk) h = false

abbrev pub held_key_answered : Option (List ℕ) → ℕ → Held → Held
held_key_answered key slot held =
    record held {
      control = held_after (key_step key) held.control;
      leaving = leaving_from_if (ends_without_key key held.control) slot held.leaving;
    }

-- what a peripheral would draw to answer LL_ENC_REQ
abbrev pub held_with_words : ℕ → ℕ → Held → Held
held_with_words skd_s iv_s held = record held { response = record { skd_s = skd_s; iv_s = iv_s } }
