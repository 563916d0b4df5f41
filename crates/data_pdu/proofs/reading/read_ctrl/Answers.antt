-- The proof of `read_ctrl`.
use Rattle.std.proofs.Common.{ap, ◌∙◌, sym}
use Rattle.data_pdu.specs.Reading.{ctrl_of}
use Rattle.data_pdu.proofs.Rows.{written_is_known}
use Rattle.data_pdu.proofs.Outcomes.{bare_is_nothing, nothing_is_bare, unknown_exactly}
use Rattle.data_pdu.proofs.reading.read_ctrl.Goals as goal

pub returns-clause-bare : goal.returns-clause-bare
returns-clause-bare c = (
  λ bare. bare_is_nothing c.args.octets.now (sym c.read_octets.ensures.value ∙ bare),
  λ nothing. c.read_octets.ensures.value ∙ nothing_is_bare c.args.octets.now nothing,
)

pub returns-clause-only : goal.returns-clause-only
returns-clause-only c = λ ctrl is_ctrl same.
    c.read_octets.ensures.value ∙ ap ctrl_of same ∙ written_is_known ctrl is_ctrl

pub returns-clause-unknown : goal.returns-clause-unknown
returns-clause-unknown c = λ opcode.
    unknown_exactly c.read_octets.result c.args.octets.now opcode c.read_octets.ensures.value c.read_octets.ensures.known
