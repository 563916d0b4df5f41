-- A text as the lines of entries, and what is left after them (our choice).
use Rattle.std.specs.Prelude.{◌≡◌, ◌≢◌, ℕ, ◌+◌, List, [], ◌++◌, length}
use Rattle.std.specs.List.{All}
use Rattle.journal.specs.declared.entries.Entry.{Entry}
use Rattle.journal.specs.Range.{IsEntry}
use Rattle.journal.specs.Text.{line, text}

-- the octets begin with the line of an entry, newline included
abbrev pub BeginsWithLine : List ℕ → Type 0
BeginsWithLine octets = (entry : Entry) × (after : List ℕ) × IsEntry entry × (octets ≡ line entry ++ after)

-- the octets are the lines of these entries, and then a rest that does not begin with the line of an entry
pub record AreLinesOf (octets : List ℕ) (entries : List Entry) (rest : List ℕ) : Type 0 where
  pub fit : All IsEntry entries
  pub parts : octets ≡ text entries ++ rest
  pub ends : BeginsWithLine rest → ⊥

-- line n of the octets, counted from 1, is the first that is not the line of an entry
pub record IsFirstBadLine (n : ℕ) (octets : List ℕ) : Type 0 where
  pub entries : List Entry
  pub rest : List ℕ
  pub lines : AreLinesOf octets entries rest
  pub some : rest ≢ []
  pub number : n ≡ length entries + 1
