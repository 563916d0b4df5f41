-- What the journal of a run says in numbers (our choice).
use Rattle.std.specs.Prelude.{ℕ, List, length}
use Rattle.std.specs.List.{sum_by}
use Rattle.ble_base.specs.declared.Side.{Side}
use Rattle.ble_base.specs.declared.Side.TheVariants.{A, B}
use Rattle.journal.specs.declared.entries.Entry.{Entry}
use Rattle.journal_pdus.specs.journal_data.Delivered.{host_buffers}
use Rattle.journal_pdus.specs.journal_data.Lines.{Received, lines_of}
use Rattle.journal_pdus.specs.journal_links.Begun.{links_begun}
use Rattle.program.specs.Claims.{Told}
use Rattle.program.specs.LoadLine.{line_of_counts}

-- how many links there are: each CONNECT_IND on the air begins one
abbrev pub links_in : List Entry → ℕ
links_in journal = length (links_begun journal)

-- how many octets of data the host of a side receives, of all links
abbrev pub octets_received : Side → List Entry → ℕ
octets_received side journal =
    sum_by (λ (one : Received). length one.octets) (lines_of host_buffers side journal).received

-- the line on the run of the load of a number: the numbers of turns, of links, and of the octets of data that the hosts
-- of A and of B receive
abbrev pub load_line : ℕ → Told
load_line number script journal =
    line_of_counts number (length script.turns) (links_in journal) (octets_received A journal) (octets_received B journal)
