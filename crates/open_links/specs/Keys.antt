-- The keys of the hosts of peripherals, and what a peripheral draws to answer LL_ENC_REQ (Core 5.2, volume 6 part B,
-- section 5.1.3.1).
use Rattle.std.specs.Prelude.{ℕ, List, Option}
use Rattle.link_end.specs.link_model.Step.{KeyAnswered, WordsGiven}
use Rattle.open_links.specs.OpenLinks.{Links, link_after, with_change}

-- the host of the link under a handle answers in this slot that it has this long term key, or none
abbrev pub links_keyed : ℕ → Option (List ℕ) → ℕ → Links → Links
links_keyed handle key slot links = with_change handle (link_after (KeyAnswered key slot)) links

-- the words with which the end of the link under a handle would answer LL_ENC_REQ in the next packet
abbrev pub links_with_words : ℕ → ℕ → ℕ → Links → Links
links_with_words handle skd_s iv_s links = with_change handle (link_after (WordsGiven skd_s iv_s)) links
