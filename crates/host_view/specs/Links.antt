-- What is asked of an open link before a command on it is accepted (Core 5.2, volume 4 part E, sections 7.1 and 7.8).
use Rattle.std.specs.Prelude.{ℕ, Bool, true, false, List, Option, None, slice_index_or}
use Rattle.std.specs.Option.{option_map_or}
use Rattle.ble_base.specs.declared.procedure_kinds.Kind.{Kind}
use Rattle.ble_base.specs.declared.procedure_kinds.Kind.TheVariants.{Update, Request, Map, Phy, Features, Version, Length, Encrypt}
use Rattle.ble_base.specs.declared.roles.Role.{Role}
use Rattle.ble_base.specs.declared.roles.Role.TheVariants.{Central, Peripheral}
use Rattle.host_view.specs.declared.links.Asked.{Asked}
use Rattle.host_view.specs.declared.links.Link.{Link}

-- the open link with this handle
abbrev pub link_in : List (Option Link) → ℕ → Option Link
link_in links handle = slice_index_or links handle None

-- the host asked for this procedure, and it is neither done nor refused
abbrev pub is_asked : Kind → Asked → Bool
is_asked Update asked = asked.update
is_asked Request asked = asked.request
is_asked Map asked = false
is_asked Phy asked = asked.phy
is_asked Features asked = asked.features
is_asked Version asked = asked.version
is_asked Length asked = asked.length
is_asked Encrypt asked = asked.encrypt

abbrev pub is_central_role : Role → Bool
is_central_role Central = true
is_central_role Peripheral = false

-- the procedure that LE Connection Update starts: the central sends the indication, the peripheral asks for it (our
-- choice)
abbrev pub update_kind : Role → Kind
update_kind Central = Update
update_kind Peripheral = Request

-- the link is open and has this property
abbrev pub link_has : Option Link → (Link → Bool) → Bool
link_has link property = option_map_or property link false

-- encryption started on the link under this handle before
abbrev pub was_encrypted : ℕ → List (Option Link) → Bool
was_encrypted handle links = link_has (link_in links handle) (λ link. link.encrypted)
