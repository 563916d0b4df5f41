-- Proof of `rows::worked_waiting`: the definitions compute.
use Rattle.std.proofs.Common.{refl}
use Rattle.h4_frames.specs.Frames.{frames}
use Rattle.journal_leaving.specs.journal_data.Lines.{lines_of}
use Rattle.journal_sending.proofs.rows.worked_waiting.Goals as goal

pub returns : goal.returns
unfolding lines_of frames
returns c = record { each = (refl, refl, refl, refl) }
