-- Proof of `hearings::each_request_is_heard`.
use Rattle.journal_hearings.proofs.RequestsHeard.{requests_heard}
use Rattle.journal_hearings.proofs.hearings.each_request_is_heard.Goals as goal

pub returns : goal.returns
returns c = λ given stations six. requests_heard c.a_pdu_is_understood.ensures.says given stations six
