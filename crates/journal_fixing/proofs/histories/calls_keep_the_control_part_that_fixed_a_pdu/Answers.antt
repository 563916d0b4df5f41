-- Proof of `histories::calls_keep_the_control_part_that_fixed_a_pdu`.
use Rattle.journal_fixing.proofs.FixingEvents.{call_fixes, call_fixing, call_goes, call_going}
use Rattle.journal_fixing.proofs.histories.calls_keep_the_control_part_that_fixed_a_pdu.Goals as goal

pub returns : goal.returns
returns c = record {
  fixed = λ words given side number station call history is. call_fixing words side number history given station call is;
  fixes = λ words given side number station call history more control turn lines opens untaken none was.
      call_fixes words side number history given station call turn more control lines opens untaken none was;
  heard = λ words given side number station call history is. call_going words side number history given station call is;
  unheard = λ words given side number station call history none. call_goes words side number history given station call none;
}
