-- Proof of `ends::LinkEnd::to_send`.
use Rattle.link_end.proofs.Sent.{gone_leaves, packed, sent, sent_holds}
use Rattle.link_end.proofs.Tying.{gone_tied, sent_tied}
use Rattle.link_end.proofs.ends.LinkEnd.to_send.Goals as goal

pub returns-clause-goes : goal.returns-clause-goes
returns-clause-goes g c = λ setup past knows.
    sent setup c.args.self.now past knows c.args.slot.0 _ c.go.ensures.held _ _ _ c.send.ensures.held c.send.ensures.notes

pub returns-clause-packet : goal.returns-clause-packet
returns-clause-packet g c = λ setup past knows.
    packed setup c.args.self.now past knows c.args.slot.0 _ c.go.ensures.held _ _ _ c.send.ensures.held c.more_out-more.ensures c.packet_out.ensures

pub returns-clause-holds : goal.returns-clause-holds
returns-clause-holds g c = λ setup past knows holds.
    sent_holds setup c.args.self.now past knows c.args.slot.0 _ c.go.ensures.held c.args.tx.now _ c.send.ensures.bank holds

pub returns-clause-tied : goal.returns-clause-tied
returns-clause-tied g c =
    let tied = gone_tied c.args.slot.0 c.args.self.now _ c.args.tx.now c.go.ensures.held c.requires.tied in
    sent_tied c.args.slot.0 _ _ c.args.tx.now _ c.send.ensures.held c.send.ensures.bank tied

pub returns-clause-others : goal.returns-clause-others
returns-clause-others g c = gone_leaves c.args.self.now _ c.args.slot.0 c.go.ensures.held c.args.tx.now _ c.send.ensures.bank
