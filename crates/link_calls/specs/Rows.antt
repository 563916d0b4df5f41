-- Both ends of a new link, as worked examples have them.
use Rattle.std.specs.Prelude.{[], ◌∷◌}
use Rattle.ble_base.specs.declared.roles.Role.TheVariants.{Central, Peripheral}
use Rattle.run_laws.specs.controller_model.Rows.{address_a, address_b}
use Rattle.run_laws.specs.link_model.Step.{EventEntered, PacketSent, PduFixed}
use Rattle.run_laws.specs.open_links.OpenLinks.{OpenLink, new_link}
use Rattle.run_laws.specs.Rows.{end_with}

abbrev pub new_central : OpenLink
new_central = new_link (end_with Central address_b address_a)

abbrev pub new_peripheral : OpenLink
new_peripheral = new_link (end_with Peripheral address_a address_b)

-- the central after it sent the first packet of its first event, which has its anchor in slot 2
abbrev pub central_in_event : OpenLink
central_in_event = record new_central { past = EventEntered 2 ∷ PduFixed ∷ PacketSent 2 ∷ [] }
