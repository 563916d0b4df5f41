-- The view of all links, and the ends that it knows (our choice).
use Rattle.std.specs.Prelude.{◌≡◌, ℕ, Bool, true, false, Some, ⊤}
use Rattle.ble_base.specs.declared.notes.Note.{Note}
use Rattle.ble_base.specs.declared.notes.Note.TheVariants.{Done, Opened, Refused, Shut, Took, Up}
use Rattle.hci_cmd.specs.declared.command.Command.{Command}
use Rattle.hci_cmd.specs.declared.command.Command.TheVariants.{HostCompleted, Reset}
use Rattle.procedure_events.specs.procedure_stages.declared.steps.Effect.{Effect}
use Rattle.procedure_events.specs.procedure_stages.declared.steps.Effect.TheVariants.{Nothing}
use Rattle.link_commands.specs.open_links.link_model.Facts.{Facts}
use Rattle.host_view.specs.declared.links.Link.{Link}
use Rattle.host_view.specs.View.{View}
use Rattle.host_view.specs.Links.{link_in}
use Rattle.host_asks.specs.Knowing.{KnowsAsks}
use Rattle.host_asks.specs.Noting.{link_with_request}

-- the view has the link with this handle, and knows the end of it once its host has received what is left of a step
pub record KnowsOnceReported (effect : Effect) (view : View) (handle : ℕ) (facts : Facts) : Type 0 where
  pub link : Link
  pub is_open : link_in view.links handle ≡ Some link
  pub knows : KnowsAsks (link_with_request effect link) facts

-- nothing is left: it knows the end now
abbrev pub KnowsAt : View → ℕ → Facts → Type 0
KnowsAt view handle facts = KnowsOnceReported Nothing view handle facts

-- a note that the end with this handle makes
abbrev pub IsNoteOf : ℕ → Note → Type 0
IsNoteOf handle (Refused given kind code) = given ≡ handle
IsNoteOf handle (Done given kind) = given ≡ handle
IsNoteOf handle (Took given number llid body) = given ≡ handle
IsNoteOf handle (Up packet) = ⊥
IsNoteOf handle (Opened given role own peer) = ⊥
IsNoteOf handle (Shut given reason) = ⊥
IsNoteOf handle other = ⊤

-- a command that changes no link but those that it is about. Reset shuts all, and what complete packets ask of a link is
-- not defined here
abbrev pub leaves_other_links : Command → Bool
leaves_other_links Reset = false
leaves_other_links (HostCompleted counts) = false
leaves_other_links other = true
