-- Each open end at the calls and packets of a run.
use Rattle.std.proofs.Common.{Some, sym, ap, ◌∙◌}
use Rattle.journal_controls.specs.controller_model.Step.{PacketHeard, TurnBegins}
use Rattle.journal_controls.specs.Hearing.{keyed_if}
use Rattle.journal_controls.specs.journal_ends.Asked.{Words}
use Rattle.journal_controls.specs.journal_ends.GivenWords.{GivesWords}
use Rattle.journal_controls.specs.run_model.LinkEnds.{HaveAddresses}
use Rattle.journal_controls.specs.run_model.Run.{Given, facts_at}
use Rattle.journal_controls.proofs.GoodPackets.{good_keyed}
use Rattle.journal_controls.proofs.RunControls.{keyed_before_call, keyed_before_packet}
use Rattle.journal_controls.proofs.journal_acks.TwoStations.{IsOfTwo}
use Rattle.journal_controls.proofs.journal_acks.run_laws.DistinctAccess.{AreApart}
use Rattle.journal_controls.proofs.journal_ends.KeptSeen.{listened_as}
use Rattle.journal_controls.proofs.journal_packets.AccessOrder.{AreNth}
use Rattle.journal_controls.proofs.link_model.Hearing.{IsHeardWhole}
use Rattle.journal_controls.proofs.run_model.LinkEnds.{AreTaken, IsUnderstood}
use Rattle.journal_due.proofs.KeptDue.{KnowsControls}

pub controls_known : (words : Words) → IsHeardWhole → IsUnderstood → AreTaken → AreNth → AreApart → (given : Given) → IsOfTwo given → HaveAddresses given → GivesWords given words → KnowsControls words given
controls_known words whole understood taken nth apart given are_two six gives = record {
  begins = λ before rest station slot on handle link at in_it is_open.
      keyed_before_call words whole understood taken nth apart given are_two six gives before rest station (TurnBegins slot on) at in_it handle link is_open;
  hears = λ before rest station octets pdu handle link at in_it on is_open good.
      let facts = facts_at given station before in
      keyed_before_call words whole understood taken nth apart given are_two six gives before rest station (PacketHeard octets) at in_it handle link is_open
      ∙ ap (λ b. Some (keyed_if b facts.turn.slot octets link)) (sym (listened_as handle facts.turn.doing) ∙ on)
      ∙ ap Some (good_keyed facts.turn.slot octets pdu link good);
  packets = λ before rest sender channel octets hearings station handle link at in_it is_open.
      keyed_before_packet words whole understood taken nth apart given are_two six gives before rest sender channel octets hearings at station in_it handle link is_open;
}
