-- The elements that a chart is made of (our choice).
use Rattle.std.specs.Prelude.{ℕ, List, [], ◌∷◌, codes, decimal}
use Rattle.ble_base.specs.declared.roles.Side.{Side}
use Rattle.ble_base.specs.declared.roles.Side.TheVariants.{A, B}
use Rattle.ble_base.specs.declared.verdicts.Verdict.{Verdict}
use Rattle.journal.specs.Words.{verdict_name}
use Rattle.journal.specs.declared.entries.Mark.{Mark}
use Rattle.journal.specs.declared.entries.Mark.TheVariants.{Pass, Lost, Damage}
use Rattle.chart.specs.declared.layout.TheConstants.{LIFE_A, LIFE_B, NOTES_A, NOTES_B}
use Rattle.chart.specs.Pdus.{joined}
use Rattle.chart.specs.Svg.{Element, with_value}

-- words at a place; their class says which part of them is there, and how they look
unfoldable pub text_at : ℕ → ℕ → List ℕ → List ℕ → Element
text_at x y class words = record {
  name = codes "text";
  attributes = with_value (codes "x") (decimal x) ∷ with_value (codes "y") (decimal y)
      ∷ with_value (codes "class") class ∷ [];
  words = words;
}

-- the band of a connection event, of this size, with its upper left corner at a place
unfoldable pub band_at : ℕ → ℕ → ℕ → ℕ → Element
band_at x y width height = record {
  name = codes "rect";
  attributes = with_value (codes "x") (decimal x) ∷ with_value (codes "y") (decimal y)
      ∷ with_value (codes "width") (decimal width) ∷ with_value (codes "height") (decimal height)
      ∷ with_value (codes "class") (codes "event") ∷ [];
  words = [];
}

-- a line from a place on
unfoldable pub path_from : ℕ → ℕ → List ℕ → List ℕ → Element
path_from x y course class = record {
  name = codes "path";
  attributes =
      with_value (codes "d") (joined (codes "M" ∷ decimal x ∷ codes " " ∷ decimal y ∷ course ∷ []))
      ∷ with_value (codes "class") class ∷ [];
  words = [];
}

-- the life line of a side
abbrev pub life_line : Side → ℕ
life_line A = LIFE_A
life_line B = LIFE_B

-- where the notes of a side are: A's end left of its life line, and B's begin right of its own
abbrev pub note_place : Side → ℕ
note_place A = NOTES_A
note_place B = NOTES_B

abbrev pub note_class : Side → List ℕ
note_class A = codes "note-a"
note_class B = codes "note-b"

-- the course of a packet from the life line of its sender: to the other life line, with a head; with a cross on the
-- way if it is damaged, and no further than a cross if it is lost
abbrev pub course_of : Side → Mark → List ℕ
course_of A Pass = codes "h440m-9 -4l9 4l-9 4"
course_of A Lost = codes "h60m-5 -5l10 10m0 -10l-10 10"
course_of A (Damage at pattern) = codes "h60m-5 -5l10 10m0 -10l-10 10m5 -5h380m-9 -4l9 4l-9 4"
course_of B Pass = codes "h-440m9 -4l-9 4l9 4"
course_of B Lost = codes "h-60m-5 -5l10 10m0 -10l-10 10"
course_of B (Damage at pattern) = codes "h-60m-5 -5l10 10m0 -10l-10 10m5 -5h-380m9 -4l-9 4l9 4"

-- how a packet's line looks: dashed unless it passed, in the colour of its verdict
abbrev pub mark_class : Mark → List ℕ
mark_class Pass = codes "pass "
mark_class Lost = codes "lost "
mark_class (Damage at pattern) = codes "damaged "

abbrev pub packet_class : Mark → Verdict → List ℕ
packet_class fate verdict = joined (mark_class fate ∷ verdict_name verdict ∷ [])

-- the line of a packet, which names the line of the journal
unfoldable pub packet_line : ℕ → Side → Mark → Verdict → List ℕ → Element
packet_line y side fate verdict line = record {
  name = codes "path";
  attributes =
      with_value (codes "d")
      (joined (codes "M" ∷ decimal (life_line side) ∷ codes " " ∷ decimal y ∷ course_of side fate ∷ []))
      ∷ with_value (codes "class") (packet_class fate verdict) ∷ with_value (codes "aria-label") line ∷ [];
  words = [];
}
