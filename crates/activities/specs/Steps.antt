-- The steps of what is held of the radio, and of what is done on it without a link.
use Rattle.std.specs.Prelude.{ℕ, List, ◌++◌, Option, Some, None, is_some}
use Rattle.std.specs.Option.{option_map}
use Rattle.ble_base.specs.declared.addresses.Address.{Address}
use Rattle.adv_pdu.specs.declared.pdu.AdvPdu.{AdvPdu}
use Rattle.hci_cmd.specs.declared.command.Command.{Command}
use Rattle.host_view.specs.View.{View}
use Rattle.scan_init.specs.declared.scanner.ScanAnswer.{ScanAnswer}
use Rattle.scan_init.specs.declared.scanner.ScanAnswer.TheVariants.{Ignore}
use Rattle.scan_init.specs.Reports.{ScannerFacts, scan_answer}
use Rattle.slot_plan.specs.declared.Activity.TheVariants.{Advertise, Scan, Initiate}
use Rattle.slot_plan.specs.declared.Want.{Want}
use Rattle.slot_plan.specs.Holding.{PlanFacts}
use Rattle.controller_model.specs.Commands.{advertising_after, initiator_after, radio_after, scanning_after}
use Rattle.controller_model.specs.Facts.{Setup, Facts, free_radio, first_advertising, first_scanning}
use Rattle.controller_model.specs.Heard.{scanner_after}
use Rattle.controller_model.specs.Radio.{advertiser_wants, initiator_channel, scanner_channel, want_if}
use Rattle.activities.specs.Held.{HeldActivities}

-- what is held of these facts
abbrev pub activities_of : Facts → HeldActivities
activities_of facts = record {
  radio = facts.radio;
  advertising = facts.advertising;
  scanning = facts.scanning;
  initiator = facts.initiator;
}

-- as a controller starts
abbrev pub first_activities : HeldActivities
first_activities = record {
  radio = free_radio;
  advertising = first_advertising;
  scanning = first_scanning;
  initiator = None;
}

-- what an accepted command changes; the next slot is the argument `slot`
abbrev pub activities_after : Setup → View → ℕ → Command → HeldActivities → HeldActivities
activities_after setup view slot command held = record {
  radio = radio_after command held.radio;
  advertising = advertising_after setup view slot command held.advertising;
  scanning = scanning_after setup view slot command held.scanning;
  initiator = initiator_after setup view slot command held.initiator;
}

-- what wants the radio in a slot: what the links want, and then the others
abbrev pub plan_with : List Want → ℕ → HeldActivities → PlanFacts
plan_with wants slot held = record {
  wants =
      wants
      ++ want_if (advertiser_wants slot held.advertising.on) Advertise
      ++ want_if (is_some (scanner_channel slot held.scanning.on)) Scan
      ++ want_if (is_some (initiator_channel slot held.initiator)) Initiate;
  hold = held.radio.hold;
}

-- what a scanner does about a PDU, if one is on
abbrev pub answer_if_on : Option ScannerFacts → List Address → AdvPdu → ScanAnswer
answer_if_on None list pdu = Ignore
answer_if_on (Some on) list pdu = scan_answer on.params list on.recent pdu

-- and the scanner after it
abbrev pub heard_if_on : Option ScannerFacts → List Address → AdvPdu → Option ScannerFacts
heard_if_on on list pdu = option_map (λ on. scanner_after on list pdu) on
