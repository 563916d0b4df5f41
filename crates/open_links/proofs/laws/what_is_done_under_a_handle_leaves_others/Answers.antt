-- Answers of `laws::what_is_done_under_a_handle_leaves_others`.
use Rattle.std.proofs.Common.{refl}
use Rattle.std.specs.Option.{option_map}
use Rattle.link_end.specs.link_model.Step.{DataGiven, Disconnected, PduFixed, ProcedureAsked, RequestAnswered}
use Rattle.open_links.specs.OpenLinks.{link_after, link_after_in_event}
use Rattle.open_links.specs.Data.{link_reported}
use Rattle.open_links.specs.Hosts.{link_asked_map}
use Rattle.open_links.specs.Turns.{link_entered}
use Rattle.open_links.proofs.Handles.{changed_is, other_stays}
use Rattle.open_links.proofs.UnderHandles.{map_at}
use Rattle.open_links.proofs.laws.what_is_done_under_a_handle_leaves_others.Goals as goal

pub returns-clause-given : goal.returns-clause-given
returns-clause-given c = λ handle start body links. changed_is (option_map (link_after (DataGiven start body))) 0 handle links refl

pub returns-clause-fixed : goal.returns-clause-fixed
returns-clause-fixed c = λ handle links. changed_is (option_map (link_after_in_event PduFixed)) 0 handle links refl

pub returns-clause-entered : goal.returns-clause-entered
returns-clause-entered c = λ slot handle links. changed_is (option_map (link_entered slot)) 0 handle links refl

pub returns-clause-asked : goal.returns-clause-asked
returns-clause-asked c = λ handle ask links. changed_is (option_map (link_after (ProcedureAsked ask))) 0 handle links refl

pub returns-clause-answered : goal.returns-clause-answered
returns-clause-answered c = λ handle answer links. changed_is (option_map (link_after (RequestAnswered answer))) 0 handle links refl

pub returns-clause-ended : goal.returns-clause-ended
returns-clause-ended c = λ handle slot reason links. changed_is (option_map (link_after (Disconnected reason slot))) 0 handle links refl

pub returns-clause-reported : goal.returns-clause-reported
returns-clause-reported c = λ handle links. map_at (option_map link_reported) 0 handle links refl

pub returns-clause-asked_map : goal.returns-clause-asked_map
returns-clause-asked_map c = λ handle map links. map_at (option_map (link_asked_map map)) 0 handle links refl

pub returns-clause-others_giving : goal.returns-clause-others_giving
returns-clause-others_giving c = λ handle other start body links differs.
    other_stays (option_map (link_after (DataGiven start body))) 0 handle other links differs

pub returns-clause-others_fixing : goal.returns-clause-others_fixing
returns-clause-others_fixing c = λ handle other links differs.
    other_stays (option_map (link_after_in_event PduFixed)) 0 handle other links differs

pub returns-clause-others_entering : goal.returns-clause-others_entering
returns-clause-others_entering c = λ slot handle other links differs.
    other_stays (option_map (link_entered slot)) 0 handle other links differs

pub returns-clause-others_asking : goal.returns-clause-others_asking
returns-clause-others_asking c = λ handle other ask links differs.
    other_stays (option_map (link_after (ProcedureAsked ask))) 0 handle other links differs

pub returns-clause-others_answering : goal.returns-clause-others_answering
returns-clause-others_answering c = λ handle other answer links differs.
    other_stays (option_map (link_after (RequestAnswered answer))) 0 handle other links differs

pub returns-clause-others_ending : goal.returns-clause-others_ending
returns-clause-others_ending c = λ handle other slot reason links differs.
    other_stays (option_map (link_after (Disconnected reason slot))) 0 handle other links differs
