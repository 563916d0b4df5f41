-- The proof of `values_stay_in_their_ranges_in_each_phase`.
use Rattle.data_pdu.specs.Layouts.{IsCtrl}
use Rattle.joint_keys.proofs.PhasedRanges.{phased_begins_fitting, phased_stays_fitting, request_is}
use Rattle.joint_keys.proofs.ranges.values_stay_in_their_ranges_in_each_phase.Goals as goal

pub returns-clause-begins : goal.returns-clause-begins
returns-clause-begins c = λ role max_rx first slot rx params. phased_begins_fitting role max_rx first slot rx params

pub returns-clause-stays : goal.returns-clause-stays
returns-clause-stays c = λ s step fits is. phased_stays_fitting step s fits is

pub returns-clause-request : goal.returns-clause-request
returns-clause-request c = λ s fits. request_is IsCtrl (λ rand ediv skd_m iv_m ctrl. ctrl) s fits.control
