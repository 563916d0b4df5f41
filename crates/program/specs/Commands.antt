-- The commands, in the words after the program's name, and the files of each (our choice).
use Rattle.std.specs.Prelude.{ℕ, ◌-◌, ◌^◌, Bool, ◌&&◌, ◌==◌, List, [], ◌∷◌, length, slice_get, slice_index_or, codes}
use Rattle.std.specs.Prelude.{Option, Some, None, if◌then◌else◌}
use Rattle.std.specs.Option.{option_map, option_map_or}
use Rattle.std.specs.Str.{bytes_eq}
use Rattle.line_words.specs.Numbers.{in_range, number_in}
use Rattle.program.specs.declared.commands.Command.{Command}
use Rattle.program.specs.declared.commands.Command.TheVariants.{Make, Pair}
use Rattle.program.specs.FileRow.{FileRow}
use Rattle.program.specs.PairFiles.{PairFiles}

-- ---- files

-- the most octets of a host, and of the text of a schedule: 1 MiB (our choice)
abbrev pub file_limit : ℕ
file_limit = 1048576

-- a file of the octets of a host
abbrev pub host_file : List ℕ → FileRow
host_file name = record { name = name; limit = file_limit; word = codes "host" }

-- a file of the text of a schedule
abbrev pub schedule_file : List ℕ → FileRow
schedule_file name = record { name = name; limit = file_limit; word = codes "schedule" }

-- the name of the file at this place, counted from 0; there is none past the last
abbrev pub name_at : List FileRow → ℕ → List ℕ
name_at files place = option_map_or (λ file. file.name) (slice_get files place) []

-- the word for the file at this place; there is none past the last
abbrev pub word_at : List FileRow → ℕ → List ℕ
word_at files place = option_map_or (λ file. file.word) (slice_get files place) []

-- ---- commands

-- whether the words are `pair` and three names
abbrev pub is_pair : List (List ℕ) → Bool
is_pair words = (length words == 4) && bytes_eq (slice_index_or words 0 []) (codes "pair")

-- the names after `pair`, in this order
abbrev pub pair_names : List (List ℕ) → PairFiles
pair_names words = record {
  a = slice_index_or words 1 [];
  b = slice_index_or words 2 [];
  schedule = slice_index_or words 3 [];
}

-- the files of `pair`, in the order in which they are read
abbrev pub pair_files : PairFiles → List FileRow
pair_files names = host_file names.a ∷ host_file names.b ∷ schedule_file names.schedule ∷ []

-- the place of the schedule among them
abbrev pub schedule_place : ℕ
schedule_place = 2

-- whether the words are `make` and one more
abbrev pub is_make : List (List ℕ) → Bool
is_make words = (length words == 2) && bytes_eq (slice_index_or words 0 []) (codes "make")

-- the number of a load: 0 to 4294967295, in decimal digits with no sign and no zero before others
abbrev pub load_number : List ℕ → Option ℕ
load_number word = in_range 0 (2 ^ 32 - 1) (number_in word)

-- the command of these words, where they are those of one
abbrev pub command_of : List (List ℕ) → Option Command
command_of words =
    if is_pair words then Some (Pair (pair_names words))
    else if is_make words then option_map Make (load_number (slice_index_or words 1 []))
    else None

-- the files of a command, in the order in which they are read
abbrev pub files_of : Command → List FileRow
files_of (Pair names) = pair_files names
files_of (Make number) = []

-- the files of the command of these words, where they are those of one
abbrev pub files_in : List (List ℕ) → List FileRow
files_in words = option_map_or files_of (command_of words) []
