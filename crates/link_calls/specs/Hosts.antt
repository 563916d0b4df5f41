-- What an octet of the host does to the link under one handle (Core 5.2, volume 4 part E, sections 5.4.2, 7.1 and 7.8).
use Rattle.std.specs.Prelude.{◌≡◌, ℕ, Bool, List, [], ◌∷◌, Some}
use Rattle.hci_cmd.specs.declared.command.Command.{Command}
use Rattle.run_laws.specs.link_model.Step.{Step as EndStep, DataGiven}
use Rattle.run_laws.specs.open_links.OpenLinks.{OpenLink, facts_in, link_after, link_at}
use Rattle.run_laws.specs.controller_model.Commands.{moment_of}
use Rattle.run_laws.specs.controller_model.Facts.{Setup, Facts}
use Rattle.run_laws.specs.controller_model.Host.{commands_accepted_after}
use Rattle.run_laws.specs.controller_model.Step.{HostOctet}
use Rattle.run_laws.specs.controller_model.link_commands.Commands.{step_on}

pub data HasHeardHost (setup : Setup) (before : Facts) (octet handle : ℕ) (after : OpenLink) : Type 0 where
  -- nothing happened to the link
  Unchanged : link_at handle before.links ≡ Some after → HasHeardHost setup before octet handle after
  -- the host gave it data
  GetsData : (link : OpenLink) (start : Bool) (body : List ℕ) → link_at handle before.links ≡ Some link
      → after ≡ link_after (DataGiven start body) link → HasHeardHost setup before octet handle after
  -- a command that the octet completes is accepted, and asks this step of the end
  IsAsked : (link : OpenLink) (command : Command) (step : EndStep) → link_at handle before.links ≡ Some link
      → commands_accepted_after before (HostOctet octet) ≡ command ∷ []
      → step_on handle command (moment_of setup before) link.setup.link.role (facts_in link).peer ≡ Some step
      → after ≡ link_after step link → HasHeardHost setup before octet handle after
