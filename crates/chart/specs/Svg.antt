-- Elements of an SVG document, and their text (XML 1.0, sections 2.4 and 3.1; SVG 2, section 5.1).
use Rattle.std.specs.Prelude.{ℕ, ◌==◌, List, [], ◌∷◌, ◌++◌, codes, if◌then◌else◌}
use Rattle.std.specs.List.{flat_map}

-- an attribute
pub record Attribute : Type 0 where
  pub name : List ℕ
  pub value : List ℕ

-- an element that has no other in it: its name, its attributes, and the text between its tags
pub record Element : Type 0 where
  pub name : List ℕ
  pub attributes : List Attribute
  pub words : List ℕ

-- an octet of a text or of a value: those that XML gives a meaning go by their names
abbrev pub escaped_octet : ℕ → List ℕ
escaped_octet octet =
    if octet == 38 then codes "&amp;"
    else if octet == 60 then codes "&lt;"
    else if octet == 62 then codes "&gt;"
    else if octet == 34 then codes "&quot;"
    else octet ∷ []

-- the octets of a text or of a value
unfoldable pub escaped : List ℕ → List ℕ
escaped octets = flat_map escaped_octet octets

-- an attribute after the name of its element
unfoldable pub spelled_attribute : Attribute → List ℕ
spelled_attribute a = codes " " ++ a.name ++ codes "=\"" ++ escaped a.value ++ codes "\""

-- the front of a start tag
abbrev pub tag_front : List ℕ → List Attribute → List ℕ
tag_front name attributes = codes "<" ++ name ++ flat_map spelled_attribute attributes

-- an end tag
abbrev pub end_tag : List ℕ → List ℕ
end_tag name = codes "</" ++ name ++ codes ">\n"

-- the end of a start tag, a text, and the end tag
unfoldable pub content : List ℕ → List ℕ → List ℕ
content words name = codes ">" ++ escaped words ++ end_tag name

-- an element on a line of its own
unfoldable pub spelled : Element → List ℕ
spelled e = tag_front e.name e.attributes ++ content e.words e.name

-- elements, one after the other
unfoldable pub all_spelled : List Element → List ℕ
all_spelled elements = flat_map spelled elements

-- the attribute
abbrev pub with_value : List ℕ → List ℕ → Attribute
with_value name value = record { name = name; value = value }

-- a document: an element `svg` that has others in it, none of which has another
pub record Document : Type 0 where
  pub attributes : List Attribute
  pub elements : List Element

-- the start of a document, up to its first element, and the end of each document
unfoldable pub document_start : List Attribute → List ℕ
document_start attributes = tag_front (codes "svg") attributes ++ codes ">\n"

abbrev pub document_end : List ℕ
document_end = end_tag (codes "svg")

-- the text of a document
abbrev pub document_text : Document → List ℕ
document_text d = document_start d.attributes ++ all_spelled d.elements ++ document_end
