-- The answer of a host to a request for a key, and words that a peripheral would draw, leave the data and the last good
-- packet of a link.
use Rattle.std.proofs.Common.{ℕ, List, Option, refl}
use Rattle.link_end.specs.link_model.Step.{KeyAnswered, WordsGiven}
use Rattle.open_links.proofs.Unmoved.{LeavesData}

pub keyed_leaves : (key : Option (List ℕ)) (slot : ℕ) → LeavesData (KeyAnswered key slot)
keyed_leaves key slot = record { outgoing = λ setup facts. refl; last_good = λ setup facts. refl }

pub words_leave : (skd_s iv_s : ℕ) → LeavesData (WordsGiven skd_s iv_s)
words_leave skd_s iv_s = record { outgoing = λ setup facts. refl; last_good = λ setup facts. refl }
