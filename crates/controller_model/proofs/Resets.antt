-- The octets of a Reset, and that it is accepted at any time.
use Rattle.std.proofs.Common.{◌≡◌, ℕ, zero, suc, ◌==◌, Bool, true, false, Option, Some, None, List, [], ◌∷◌, cond, length, refl, sym, ap, ◌∙◌, subst, arith, rules}
use Rattle.std.specs.Prelude.{◌↔◌, ⊤}
use Rattle.std.specs.List.{AllByRecursion}
use Rattle.std.proofs.lemmas.Bool.{eqb-true}
use Rattle.wire_fields.specs.Layout.{Layout, value_of}
use Rattle.wire_fields.specs.Table.{value_in}
use Rattle.h4_frames.specs.declared.packet.HostPacket.TheVariants.{Command as HostCommand, Acl}
use Rattle.h4_frames.specs.declared.packet.Fed.{Fed}
use Rattle.h4_frames.specs.declared.packet.Fed.TheVariants.{More, Packet, LostSync}
use Rattle.hci_cmd.specs.declared.command.HandleCount.{HandleCount}
use Rattle.hci_cmd.specs.declared.command.Command.{Command}
use Rattle.hci_cmd.specs.declared.command.Command.TheVariants.{Reset}
use Rattle.hci_cmd.specs.declared.command.CmdRead.{CmdRead}
use Rattle.hci_cmd.specs.declared.command.CmdRead.TheVariants.{Known, UnknownOpcode, BadLength}
use Rattle.hci_cmd.specs.Command.{are_parameters, command_of, counts_layout, layout_of, layouts, read_with}
use Rattle.host_view.specs.Status.{status_of}
use Rattle.controller_model.specs.Step.{Step, HostOctet}
use Rattle.controller_model.specs.Facts.{Setup, Facts}
use Rattle.controller_model.specs.Host.{commands_accepted_after, commands_accepted_by, commands_accepted_in}
use Rattle.controller_model.specs.Side.{facts_of, result_of}
use Rattle.controller_model.proofs.OpenPlaces.{is_reset}

abbrev reset_fed : Fed
reset_fed = Packet (HostCommand 0x0C03 (record { items = [] }))

reset_accepted : (facts : Facts) → commands_accepted_in facts reset_fed ≡ Reset ∷ []
unfolding command_of layout_of layouts status_of
reset_accepted facts = refl

-- ---- its opcode is that of no other command

abbrev IsOnlyReset : ℕ → Layout Command → Type 0
IsOnlyReset opcode layout = (octets : List ℕ) → is_reset (value_of layout octets) ≡ (opcode == 0x0C03)

abbrev FoundOnly : ℕ → Option (Layout Command) → Type 0
FoundOnly opcode None = ⊤
FoundOnly opcode (Some layout) = IsOnlyReset opcode layout

counts_none : (handles : ℕ) (taken : List HandleCount) (octets : List ℕ) → is_reset (value_of (counts_layout handles taken) octets) ≡ false
counts_none zero taken octets = refl
counts_none (suc handles) taken octets = counts_none handles _ _

rows_only : AllByRecursion (λ (row : ℕ × Layout Command). IsOnlyReset row.0 row.1) layouts
unfolding layouts
rows_only = search (rules, counts_none)

only_by : (is_row : Bool) (opcode key : ℕ) (layout : Layout Command) (found : Option (Layout Command)) → (opcode == key) ≡ is_row
    → IsOnlyReset key layout → FoundOnly opcode found → FoundOnly opcode (cond is_row (Some layout) found)
only_by true opcode key layout found same here later =
    subst (λ (n : ℕ). IsOnlyReset n layout) (sym (eqb-true opcode key same)) here
only_by false opcode key layout found same here later = later

only_in : (rows : List (ℕ × Layout Command)) (opcode : ℕ) → AllByRecursion (λ (row : ℕ × Layout Command). IsOnlyReset row.0 row.1) rows
    → FoundOnly opcode (value_in rows opcode)
only_in [] opcode are = tt
only_in (row ∷ rows) opcode are =
    only_by (opcode == row.0) opcode row.0 row.1 (value_in rows opcode) refl are.0 (only_in rows opcode are.1)

only_if : (whole : Bool) (opcode : ℕ) (command : Command) → is_reset command ≡ (opcode == 0x0C03)
    → cond whole (Known command) BadLength ≡ Known Reset → opcode ≡ 0x0C03
only_if true opcode command only is =
    let same : command ≡ Reset = cc in
    eqb-true opcode 0x0C03 (sym only ∙ ap is_reset same)
only_if false opcode command only is = absurd cc

only_with : (found : Option (Layout Command)) (opcode : ℕ) (octets : List ℕ) → FoundOnly opcode found
    → read_with found octets ≡ Known Reset → opcode ≡ 0x0C03
only_with None opcode octets only is = absurd cc
only_with (Some layout) opcode octets only is = only_if (are_parameters layout octets) opcode (value_of layout octets) (only octets) is

opcode_is : (opcode : ℕ) (octets : List ℕ) → command_of opcode octets ≡ Known Reset → opcode ≡ 0x0C03
unfolding command_of layout_of
opcode_is opcode octets is = only_with (value_in layouts opcode) opcode octets (only_in layouts opcode rows_only) is

-- it has no parameters
not_zero : (n : ℕ) → (suc n == 0) ≡ false
not_zero n = grind arith

with_parameters : (octet : ℕ) (octets : List ℕ) → command_of 0x0C03 (octet ∷ octets) ≡ BadLength
unfolding command_of layout_of layouts
with_parameters octet octets = ap (λ (whole : Bool). cond whole (Known Reset) BadLength) (not_zero (length octets))

no_parameters : (octets : List ℕ) → command_of 0x0C03 octets ≡ Known Reset → octets ≡ []
no_parameters [] is = refl
no_parameters (octet ∷ octets) is = let bad : BadLength ≡ Known Reset = sym (with_parameters octet octets) ∙ is in absurd cc

-- ---- what an octet completes

packet_is : (opcode : ℕ) (octets : List ℕ) → command_of opcode octets ≡ Known Reset
    → Packet (HostCommand opcode (record { items = octets })) ≡ reset_fed
packet_is opcode octets is =
    let first = opcode_is opcode octets is in
    let none = no_parameters octets (subst (λ (n : ℕ). command_of n octets ≡ Known Reset) first is) in
    λ i. Packet (HostCommand (first i) (record { items = none i }))

accepted_is : (accepted : Bool) (command : Command) → cond accepted (command ∷ []) [] ≡ Reset ∷ [] → command ≡ Reset
accepted_is true command is = cc
accepted_is false command is = absurd cc

read_is : (facts : Facts) (read : CmdRead) → commands_accepted_by facts read ≡ Reset ∷ [] → read ≡ Known Reset
read_is facts (Known command) is = ap Known (accepted_is (status_of facts.view command == 0) command is)
read_is facts UnknownOpcode is = absurd cc
read_is facts BadLength is = absurd cc

fed_is : (facts : Facts) (fed : Fed) → commands_accepted_in facts fed ≡ Reset ∷ [] → fed ≡ reset_fed
fed_is facts (Packet (HostCommand opcode body)) is = packet_is opcode body.items (read_is facts (command_of opcode body.items) is)
fed_is facts (Packet (Acl handle start count body)) is = absurd cc
fed_is facts LostSync is = absurd cc
fed_is facts More is = absurd cc

pub resets : (setup : Setup) (past : List Step) (octet : ℕ)
    → commands_accepted_after (facts_of setup past) (HostOctet octet) ≡ Reset ∷ []
    ↔ result_of (facts_of setup past).octets octet ≡ reset_fed
resets setup past octet =
    let facts = facts_of setup past in (
      fed_is facts (result_of facts.octets octet),
      λ is. ap (commands_accepted_in facts) is ∙ reset_accepted facts,
    )
