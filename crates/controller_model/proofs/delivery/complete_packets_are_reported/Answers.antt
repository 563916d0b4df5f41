-- Proof of `delivery::complete_packets_are_reported`.
use Rattle.controller_model.proofs.ReportBooks.{packets_are_reported}
use Rattle.controller_model.proofs.delivery.complete_packets_are_reported.Goals as goal

pub returns : goal.returns
returns c = packets_are_reported
