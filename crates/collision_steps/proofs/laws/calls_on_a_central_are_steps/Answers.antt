-- The proof of the law `calls_on_a_central_are_steps`.
use Rattle.std.proofs.Common.{refl}
use Rattle.collision_steps.proofs.CentralGoing.{acked_done_one, acked_one, answers_one, begun_may, begun_part, disconnects_again_one, disconnects_one, entered_done_one, enters_one, owes_one}
use Rattle.collision_steps.proofs.laws.calls_on_a_central_are_steps.Goals as goal

pub returns-clause-began : goal.returns-clause-began
returns-clause-began c = λ f x slot quiet is. begun_part f x slot quiet is

pub returns-clause-may_begin : goal.returns-clause-may_begin
returns-clause-may_begin c = λ f x slot quiet is. begun_may f x slot quiet is

pub returns-clause-acked : goal.returns-clause-acked
returns-clause-acked c = λ f x is. acked_one f x is

pub returns-clause-done_by_ack : goal.returns-clause-done_by_ack
returns-clause-done_by_ack c = λ f x is. acked_done_one f x is

pub returns-clause-entered : goal.returns-clause-entered
returns-clause-entered c = λ f x applied is. enters_one f x applied is

pub returns-clause-done_by_entering : goal.returns-clause-done_by_entering
returns-clause-done_by_entering c = λ f x applied is. entered_done_one f x applied is

pub returns-clause-host_answer : goal.returns-clause-host_answer
returns-clause-host_answer c = λ f x answer is. answers_one f x answer is

pub returns-clause-terminate : goal.returns-clause-terminate
returns-clause-terminate c = λ f x reason is. disconnects_one f x reason is

pub returns-clause-terminate_again : goal.returns-clause-terminate_again
returns-clause-terminate_again c = λ f x reason is. disconnects_again_one f x reason is

pub returns-clause-owe : goal.returns-clause-owe
returns-clause-owe c = λ f x ctrl is. owes_one f x ctrl is

pub returns-clause-ask : goal.returns-clause-ask
returns-clause-ask c = λ f ask. refl
