-- A central whose peer breaks the rules, as a worked example.
use Rattle.std.specs.Prelude.{ℕ, true, []}
use Rattle.data_pdu.specs.declared.ctrl.Ctrl.{Ctrl}
use Rattle.data_pdu.specs.declared.ctrl.Ctrl.TheVariants.{ConnectionParamReq}
use Rattle.data_pdu.specs.declared.ctrl.CtrlRead.TheVariants.{Known}
use Rattle.link_commands.specs.open_links.control_model.Control.{Control, Takes, after}
use Rattle.link_commands.specs.open_links.link_model.Facts.{first_facts}
use Rattle.link_commands.specs.open_links.link_model.Rows.{central_with}

-- a request of the peripheral, of intervals from this one on
abbrev pub request_from : ℕ → Ctrl
request_from min = ConnectionParamReq min 24 0 72 0 0 []

-- the control part of a central that took a request, and then one that is out of range
abbrev pub asked_once : Control
asked_once = after (Takes (Known (request_from 24)) 2 true) (first_facts (central_with 0)).control

abbrev pub asked_wrongly : Control
asked_wrongly = after (Takes (Known (request_from 5)) 26 true) asked_once
