-- The proof of `SealKey::unseal`.
use Rattle.ccm_link.specs.Payload.{additional_data, nonce}
use Rattle.ccm_link.proofs.Answering.{answers_forged, answers_genuine, answers_sealed, answers_tested}
use Rattle.ccm_link.proofs.seal_key.SealKey.unseal.Goals as goal

pub returns-clause-of_sealed : goal.returns-clause-of_sealed
returns-clause-of_sealed c =
    answers_sealed c.args.self.now (nonce c.args.counter c.args.from_central c.args.iv.now) (additional_data c.args.header)
    c.args.body.now c.open.result (rw (c.self.view_is, c.nonce-nonce.ensures) at c.open.ensures)

pub returns-clause-tested : goal.returns-clause-tested
returns-clause-tested c =
    answers_tested c.args.self.now (nonce c.args.counter c.args.from_central c.args.iv.now) (additional_data c.args.header)
    c.args.body.now c.open.result (rw (c.self.view_is, c.nonce-nonce.ensures) at c.open.ensures)

pub returns-clause-genuine : goal.returns-clause-genuine
returns-clause-genuine c =
    answers_genuine c.args.self.now (nonce c.args.counter c.args.from_central c.args.iv.now) (additional_data c.args.header)
    c.args.body.now c.open.result (rw (c.self.view_is, c.nonce-nonce.ensures) at c.open.ensures)

pub returns-clause-forged : goal.returns-clause-forged
returns-clause-forged c =
    answers_forged c.args.self.now (nonce c.args.counter c.args.from_central c.args.iv.now) (additional_data c.args.header)
    c.args.body.now c.open.result (rw (c.self.view_is, c.nonce-nonce.ensures) at c.open.ensures)
