-- Proof of `lists::what_an_end_says_is_its_lines`.
use Rattle.journal_ends.proofs.PastSeen.{past_lines}
use Rattle.journal_ends.proofs.SeenLists.{says_its_lines}
use Rattle.journal_ends.proofs.lists.what_an_end_says_is_its_lines.Goals as goal

pub returns : goal.returns
returns c = record { by_lines = λ words side number journal. says_its_lines words side number journal; by_past = λ side number setup past. past_lines side number setup past }
