-- The proof of `round_constant`.
use Rattle.std.proofs.Common.{arith}
use Rattle.aes_block.proofs.TableEntries.{round_constant_at}
use Rattle.aes_block.proofs.key_schedule.round_constant.Goals as goal

pub returns : goal.returns
returns c = round_constant_at c.args.round (omega arith) (omega arith)
