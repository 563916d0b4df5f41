-- A link as its host sees it and an end of it, through all that happens to both (our choice).
use Rattle.std.specs.Prelude.{◌≡◌, ℕ, true, false, List, [], ◌∷◌, fold, Some, None, Err, ⊤}
use Rattle.ble_base.specs.declared.addresses.Address.{Address}
use Rattle.ble_base.specs.declared.error_codes.ErrCode.{ErrCode}
use Rattle.hci_cmd.specs.declared.command.Command.{Command}
use Rattle.link_commands.specs.open_links.link_model.Setup.{Setup}
use Rattle.link_commands.specs.open_links.link_model.Facts.{Facts, first_facts}
use Rattle.link_commands.specs.open_links.link_model.Hosts.{facts_answered, facts_key_answered}
use Rattle.link_commands.specs.open_links.link_model.Step.{Step}
use Rattle.link_commands.specs.open_links.link_model.End.{facts_after}
use Rattle.host_view.specs.declared.links.Link.{Link}
use Rattle.host_view.specs.View.{View}
use Rattle.host_view.specs.Links.{link_in}
use Rattle.host_view.specs.Noted.{opened_link}
use Rattle.host_view.specs.Status.{status_of}
use Rattle.link_commands.specs.declared.moments.Moment.{Moment}
use Rattle.link_commands.specs.Commands.{facts_commanded, host_step_of, is_about, link_commanded}
use Rattle.host_asks.specs.Noting.{is_of_host, link_after_step, link_after_notes}

pub record ViewedEnd : Type 0 where
  pub link : Link
  pub facts : Facts

-- as the link is opened
abbrev pub first_viewed : Setup → Address → Address → ViewedEnd
first_viewed setup own peer =
    record { link = opened_link setup.link.role own peer; facts = first_facts setup }

pub data LinkEvent : Type 0 where
  -- a command on the link is accepted at this moment, with this view
  IsCommanded : (view : View) (command : Command) (moment : Moment) → LinkEvent
  -- the end makes a step, and its host receives the event of a request
  Makes : (step : Step) → LinkEvent
  -- it makes a step, and a request is refused at once, since a mask withholds its event
  MakesUnreported : (step : Step) (code : ErrCode) → LinkEvent
  -- a request for a key is answered at once, as by a host that has none, since a mask withholds its event
  LacksKey : (slot : ℕ) → LinkEvent

abbrev pub viewed_after : Setup → ViewedEnd → LinkEvent → ViewedEnd
viewed_after setup end (IsCommanded view command moment) =
    record {
      link = link_commanded command end.facts.peer end.link;
      facts = facts_commanded setup (host_step_of command moment end.link.role end.facts.peer) end.facts;
    }
viewed_after setup end (Makes step) =
    record { link = link_after_step setup end.facts step end.link; facts = facts_after setup end.facts step }
viewed_after setup end (MakesUnreported step code) =
    record {
      link = link_after_notes setup end.facts step end.link;
      facts = facts_answered (Err code) (facts_after setup end.facts step);
    }
viewed_after setup end (LacksKey slot) = record { link = end.link; facts = facts_key_answered None slot end.facts }

-- the command is accepted, and is on this link
pub record IsAccepted (handle : ℕ) (link : Link) (view : View) (command : Command) : Type 0 where
  pub accepted : status_of view command ≡ 0
  pub about : is_about handle command ≡ true
  pub is_open : link_in view.links handle ≡ Some link

abbrev pub MayHappen : Setup → ViewedEnd → LinkEvent → Type 0
MayHappen setup end (IsCommanded view command moment) = IsAccepted setup.link.handle end.link view command
MayHappen setup end (Makes step) = is_of_host step ≡ false
MayHappen setup end (MakesUnreported step code) = is_of_host step ≡ false
MayHappen setup end (LacksKey slot) = ⊤

abbrev pub AllMayHappen : Setup → ViewedEnd → List LinkEvent → Type 0
AllMayHappen setup end [] = ⊤
AllMayHappen setup end (event ∷ events) =
    MayHappen setup end event × AllMayHappen setup (viewed_after setup end event) events

abbrev pub viewed_after_all : Setup → ViewedEnd → List LinkEvent → ViewedEnd
viewed_after_all setup end events = fold (viewed_after setup) end events
