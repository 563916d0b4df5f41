-- What the host of an end asks for on a link, answers and ends (Core 5.2, volume 6 part B, sections 5.1 and 5.1.6).
use Rattle.std.specs.Prelude.{ℕ, ◌==◌, ◌&&◌, not, Bool, false, List, [], ◌∷◌, Option, Some, None, Result, if◌then◌else◌}
use Rattle.ble_base.specs.declared.channel_map.ChannelMap.{ChannelMap}
use Rattle.ble_base.specs.declared.error_codes.ErrCode.{ErrCode}
use Rattle.instants.specs.declared.indications.Indication.{Indication}
use Rattle.instants.specs.declared.indications.Indication.TheVariants.{Map as map_indication}
use Rattle.instants.specs.declared.track.Change.{Change}
use Rattle.phased_end.specs.control_end.procedure_values.declared.asks.Ask.{Ask}
use Rattle.phased_end.specs.control_end.procedure_values.declared.asks.Ask.TheVariants.{Map as map_ask}
use Rattle.phased_end.specs.control_end.procedure_values.declared.drafts.Draft.{Draft}
use Rattle.phased_end.specs.control_end.procedure_values.declared.drafts.Draft.TheVariants.{Map as map_draft}
use Rattle.phased_end.specs.control_end.control_model.Control.{Answers, Asks, Disconnects, after}
use Rattle.phased_end.specs.enc_phase.declared.facts.Transition.TheVariants.{Refuse}
use Rattle.phased_end.specs.enc_phase.Phases.{may_follow}
use Rattle.phased_end.specs.Held.{held_of as keyed_held}
use Rattle.phased_end.specs.Moves.{awaits_key}
use Rattle.phased_end.specs.keyed_control.KeyedSteps.{KeyedStep, GivesKey, LacksKey, keyed_after}
use Rattle.link_model.specs.declared.state.Leaving.{Leaving}
use Rattle.link_model.specs.Facts.{Facts, keyed_of, params_of, with_keyed}
use Rattle.link_model.specs.Receiving.{lengths_seen}

-- ---- the map that a link is to have: the one that is wanted, or else the one that is on its way, or else that of now

abbrev pub map_wanted : List Ask → Option ChannelMap
map_wanted [] = None
map_wanted (map_ask map ∷ asks) = Some map
map_wanted (ask ∷ asks) = map_wanted asks

abbrev pub map_queued : List Draft → Option ChannelMap
map_queued [] = None
map_queued (map_draft map ∷ drafts) = Some map
map_queued (draft ∷ drafts) = map_queued drafts

abbrev pub map_indicated : Indication → Option ChannelMap
map_indicated (map_indication map instant) = Some map
map_indicated other = None

abbrev pub map_waiting : Option Change → Option ChannelMap
map_waiting None = None
map_waiting (Some change) = map_indicated change.indication

abbrev pub or_else : Option ChannelMap → ChannelMap → ChannelMap
or_else None other = other
or_else (Some map) other = map

abbrev pub map_to_come : Facts → ChannelMap
map_to_come facts =
    or_else (map_wanted facts.control.table.wanted)
    (or_else (map_queued facts.control.table.queue.drafts)
    (or_else (map_waiting facts.control.track.waits) (params_of facts).map))

-- a map that the link is to have already changes nothing
abbrev pub is_to_come : Ask → Facts → Bool
is_to_come (map_ask map) facts = map == map_to_come facts
is_to_come other facts = false

-- ---- its host asks for a procedure

abbrev pub asked : Ask → Facts → Facts
asked ask facts =
    record facts {
      control = after (Asks ask) facts.control;
      lengths =
          lengths_seen facts.control.table.lengths (after (Asks ask) facts.control).table.lengths facts.lengths;
    }

abbrev pub asked_unless : Bool → Ask → Facts → Facts
asked_unless is_to_come ask facts = if is_to_come then facts else asked ask facts

abbrev pub facts_asked : Ask → Facts → Facts
facts_asked ask facts = asked_unless (is_to_come ask facts) ask facts

-- ---- it answers a request of the peer, or ends the link in this slot

abbrev pub facts_answered : Result Ask ErrCode → Facts → Facts
facts_answered answer facts = record facts { control = after (Answers answer) facts.control }

-- the time that an end has to end the link counts from the slot in which it was first to end: one without a key may end
-- it before its host does
abbrev pub first_slot : Option ℕ → ℕ → ℕ
first_slot None slot = slot
first_slot (Some first) slot = first

abbrev pub facts_disconnected : ErrCode → ℕ → Facts → Facts
facts_disconnected reason slot facts =
    record facts {
      control = after (Disconnects reason) facts.control;
      leaving = record facts.leaving { disconnected = Some (first_slot facts.leaving.disconnected slot) };
    }

-- ---- the host of a peripheral has a key or none (sections 5.1.3.1 and 5.1.3.2)

abbrev pub key_step : Option (List ℕ) → KeyedStep
key_step None = LacksKey
key_step (Some ltk) = GivesKey ltk

-- it was asked for a key, and has not answered, and the link is not to end
abbrev pub is_key_awaited : Facts → Bool
is_key_awaited facts = awaits_key (keyed_held (keyed_of facts))

-- after a pause the end without a key ends the link
abbrev pub ends_without_key : Option (List ℕ) → Facts → Bool
ends_without_key None facts = is_key_awaited facts && not (may_follow Refuse facts.encryption.phase)
ends_without_key (Some ltk) facts = false

abbrev pub leaving_from_if : Bool → ℕ → Leaving → Leaving
leaving_from_if leaves slot leaving = if leaves then record leaving { disconnected = Some slot } else leaving

abbrev pub facts_key_answered : Option (List ℕ) → ℕ → Facts → Facts
facts_key_answered key slot facts =
    record (with_keyed (keyed_after (key_step key) (keyed_of facts)) facts) {
      leaving = leaving_from_if (ends_without_key key facts) slot facts.leaving;
    }

-- what a peripheral would draw to answer LL_ENC_REQ in the next packet
abbrev pub facts_with_words : ℕ → ℕ → Facts → Facts
facts_with_words skd_s iv_s facts =
    record facts { encryption = record facts.encryption { response = record { skd_s = skd_s; iv_s = iv_s } } }
