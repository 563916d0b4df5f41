-- What the host of a controller asks for on its links, answers and ends (Core 5.2, volume 6 part B, sections 5.1 and
-- 5.1.6).
use Rattle.std.specs.Prelude.{ℕ, Bool, map, Result}
use Rattle.std.specs.Option.{option_map}
use Rattle.ble_base.specs.declared.channel_map.ChannelMap.{ChannelMap}
use Rattle.ble_base.specs.declared.error_codes.ErrCode.{ErrCode}
use Rattle.ble_base.specs.declared.procedure_kinds.Kind.{Kind}
use Rattle.ble_base.specs.declared.roles.Role.{Role}
use Rattle.ble_base.specs.declared.roles.Role.TheVariants.{Central, Peripheral}
use Rattle.procedures.specs.procedure_values.declared.asks.Ask.{Ask}
use Rattle.procedures.specs.procedure_values.declared.asks.Ask.TheVariants.{Map as map_ask}
use Rattle.link_end.specs.control_end.Answers.{awaits_host, may_ask}
use Rattle.link_end.specs.control_end.Held.{held_of}
use Rattle.link_end.specs.link_model.Step.{Disconnected, ProcedureAsked, RequestAnswered}
use Rattle.open_links.specs.OpenLinks.{Links, OpenLink, facts_in, link_after, with_change}

-- ---- on one link

-- it asks for a procedure (section 5.1)
abbrev pub links_asked : ℕ → Ask → Links → Links
links_asked handle ask links = with_change handle (link_after (ProcedureAsked ask)) links

-- it answers a request of the peer (section 5.1.7)
abbrev pub links_answered : ℕ → Result Ask ErrCode → Links → Links
links_answered handle answer links = with_change handle (link_after (RequestAnswered answer)) links

-- it ends the link in this slot (section 5.1.6)
abbrev pub links_disconnected : ℕ → ErrCode → ℕ → Links → Links
links_disconnected handle reason slot links = with_change handle (link_after (Disconnected reason slot)) links

-- ---- on all links

-- only a central gives a channel map (section 5.1.2)
abbrev pub asked_map_by : Role → ChannelMap → OpenLink → OpenLink
asked_map_by Central map link = link_after (ProcedureAsked (map_ask map)) link
asked_map_by Peripheral map link = link

-- it asks for a channel map on a link
abbrev pub link_asked_map : ChannelMap → OpenLink → OpenLink
link_asked_map map link = asked_map_by link.setup.link.role map link

-- it asks for a channel map on each link
abbrev pub links_asked_map : ChannelMap → Links → Links
links_asked_map chosen links = map (option_map (link_asked_map chosen)) links

-- ---- what a link says

-- it may ask for a procedure of this kind (section 5.1)
abbrev pub may_ask_in : Kind → OpenLink → Bool
may_ask_in kind link = may_ask kind (held_of (facts_in link).control)

-- a request of the peer waits for its answer (section 5.1.7)
abbrev pub awaits_host_in : OpenLink → Bool
awaits_host_in link = awaits_host (held_of (facts_in link).control)
