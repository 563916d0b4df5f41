-- Proof of `ends::LinkEnd::enter`.
use Rattle.link_model.specs.phased_end.Moves.{lasts}
use Rattle.link_end.proofs.Entered.{entered, entered_good, entered_holds, entered_setup, entry_known}
use Rattle.link_end.proofs.Tying.{entered_tied}
use Rattle.link_end.proofs.ends.LinkEnd.enter.Goals as goal

pub returns-clause-goes : goal.returns-clause-goes
returns-clause-goes c = λ setup past knows.
    entered setup c.args.self.now past knows c.args.slot.0 _ _ _ c.enter_event.ensures.held c.enter_event.ensures.notes

pub returns-clause-entry : goal.returns-clause-entry
returns-clause-entry c = λ setup past knows. entry_known setup c.args.self.now past knows c.args.slot.0 _ c.enter_event.ensures.entry

pub returns-clause-handle : goal.returns-clause-handle
returns-clause-handle c = entered_setup c.args.self.now _ (lasts c.args.self.now.control) c.args.slot.0 c.enter_event.ensures.held

pub returns-clause-last_good : goal.returns-clause-last_good
returns-clause-last_good c = entered_good c.args.self.now _ (lasts c.args.self.now.control) c.args.slot.0 c.enter_event.ensures.held

pub returns-clause-tied : goal.returns-clause-tied
returns-clause-tied c = λ bank tied.
    entered_tied (lasts c.args.self.now.control) c.args.slot.0 c.args.self.now _ bank c.enter_event.ensures.held tied

pub returns-clause-holds : goal.returns-clause-holds
returns-clause-holds c = λ setup past bank holds. entered_holds setup past c.args.slot.0 bank holds
