-- The numbers of links that a station knows, and those of a history.
use Rattle.std.proofs.Common.{◌≡◌, ℕ, suc, ◌<◌, ◌==◌, ◌&&◌, Bool, false, List, [], ◌∷◌, refl, sym, ap, subst, ◌∙◌, inl, inr, if◌then◌else◌, arith}
use Rattle.std.proofs.Common.{get_or, set, length-set, get_or-set_same, get_or-set_other}
use Rattle.std.specs.Prelude.{fold}
use Rattle.std.specs.List.{All}
use Rattle.std.proofs.lemmas.Bool.Decides.{eqb_tells}
use Rattle.ble_base.specs.declared.roles.Side.{Side}
use Rattle.ble_base.specs.declared.notes.Note.{Note}
use Rattle.ble_base.specs.declared.notes.Note.TheVariants.{Up, Opened, Shut, Sent, Took, Enter, Applied, Began, Refused, Done}
use Rattle.journal.specs.declared.entries.Entry.{Entry}
use Rattle.journal.specs.declared.entries.Entry.TheVariants.{Opened as OpenedEntry, Shut as ShutEntry, Sent as SentEntry, Took as TookEntry, Enter as EnterEntry, Applied as AppliedEntry, Began as BeganEntry, Refused as RefusedEntry, Done as DoneEntry}
use Rattle.controller_model.specs.Notes.{HasHandleBelow}
use Rattle.run_model.specs.Links.{Links, links_after, links_noted, with_handle}
use Rattle.run_model.specs.Journal.{entry_of, journal_from, side_of}
use Rattle.pair_world.specs.declared.links.TheConstants.{LINKS}
use Rattle.pair_world.specs.KnownLinks.{KnownLinks, number_in, with_note, with_handle as known_with}
use Rattle.pair_world.specs.Logs.{entry_noted, entries_noted, known_after}
use Rattle.pair_world.specs.Stations.{KnowsLinks}
use Rattle.pair_world.proofs.Calls.{noted_events, same_number}

-- ---- one note

pub entry_is : (side : Side) (station : ℕ) (links : Links) (known : KnownLinks) (note : Note) → KnowsLinks station links known → HasHandleBelow LINKS note
    → entry_noted side known note ≡ entry_of side (links.link_of station) (links.last_of station) note
entry_is side station links known (Up packet) k below = refl
entry_is side station links known (Opened handle role own peer) k below = ap (λ link. OpenedEntry side link handle role) k.last_is
entry_is side station links known (Shut handle reason) k below = ap (λ link. ShutEntry side link reason) (k.by_handle_are handle below)
entry_is side station links known (Sent handle number llid body) k below =
    ap (λ link. SentEntry side link number llid body.items) (k.by_handle_are handle below)
entry_is side station links known (Took handle number llid body) k below =
    ap (λ link. TookEntry side link number llid body.items) (k.by_handle_are handle below)
entry_is side station links known (Enter handle event channel) k below =
    ap (λ link. EnterEntry side link event.0 channel) (k.by_handle_are handle below)
entry_is side station links known (Applied handle number event) k below =
    ap (λ link. AppliedEntry side link number event.0) (k.by_handle_are handle below)
entry_is side station links known (Began handle kind) k below = ap (λ link. BeganEntry side link kind) (k.by_handle_are handle below)
entry_is side station links known (Refused handle kind code) k below =
    ap (λ link. RefusedEntry side link kind code) (k.by_handle_are handle below)
entry_is side station links known (Done handle kind) k below = ap (λ link. DoneEntry side link kind) (k.by_handle_are handle below)

opened_at : (station handle n : ℕ) (links : Links) (known : KnownLinks) → KnowsLinks station links known → handle < LINKS → n < LINKS
    → number_in (known_with handle known) n ≡ (with_handle station handle links).link_of station n
opened_at station handle n links known k below n_below = elim (eqb_tells n handle) [
  | inl same ↦
      ap (λ place. get_or (set known.by_handle handle known.last) place 0) same.1
      ∙ get_or-set_same known.by_handle handle known.last 0 (subst (λ count. handle < count) (sym k.size) below)
      ∙ k.last_is
      ∙ ap (λ (test : Bool). if test then links.last_of station else links.link_of station n)
      (sym (λ i. same_number station i && same.0 i))
  | inr other ↦
      get_or-set_other known.by_handle handle n known.last 0 other.1
      ∙ k.by_handle_are n n_below
      ∙ ap (λ (test : Bool). if test then links.last_of station else links.link_of station n)
      (sym (λ i. same_number station i && other.0 i))
]

knows_opened : (station handle : ℕ) (links : Links) (known : KnownLinks) → KnowsLinks station links known → handle < LINKS
    → KnowsLinks station (with_handle station handle links) (known_with handle known)
knows_opened station handle links known k below = record {
  last_is = k.last_is;
  size = length-set known.by_handle handle known.last ∙ k.size;
  by_handle_are = λ n n_below. opened_at station handle n links known k below n_below;
}

pub knows_note : (station : ℕ) (links : Links) (known : KnownLinks) (note : Note) → KnowsLinks station links known → HasHandleBelow LINKS note
    → KnowsLinks station (links_noted station note links) (with_note known note)
knows_note station links known (Opened handle role own peer) k below = knows_opened station handle links known k below
knows_note station links known (Up packet) k below = k
knows_note station links known (Shut handle reason) k below = k
knows_note station links known (Sent handle number llid body) k below = k
knows_note station links known (Took handle number llid body) k below = k
knows_note station links known (Enter handle event channel) k below = k
knows_note station links known (Applied handle number event) k below = k
knows_note station links known (Began handle kind) k below = k
knows_note station links known (Refused handle kind code) k below = k
knows_note station links known (Done handle kind) k below = k

-- a note of another station changes nothing
same_note : (station other : ℕ) (links : Links) (known : KnownLinks) (note : Note) → (other == station) ≡ false → KnowsLinks other links known
    → KnowsLinks other (links_noted station note links) known
same_note station other links known (Opened handle role own peer) ne k = record {
  last_is = k.last_is;
  size = k.size;
  by_handle_are = λ n below.
      k.by_handle_are n below
      ∙ ap (λ (same : Bool). if same && (n == handle) then links.last_of station else links.link_of other n) (sym ne);
}
same_note station other links known (Up packet) ne k = k
same_note station other links known (Shut handle reason) ne k = k
same_note station other links known (Sent handle number llid body) ne k = k
same_note station other links known (Took handle number llid body) ne k = k
same_note station other links known (Enter handle event channel) ne k = k
same_note station other links known (Applied handle number event) ne k = k
same_note station other links known (Began handle kind) ne k = k
same_note station other links known (Refused handle kind code) ne k = k
same_note station other links known (Done handle kind) ne k = k

begun_note : (station : ℕ) (links : Links) (note : Note) → (links_noted station note links).begun ≡ links.begun
begun_note station links (Opened handle role own peer) = refl
begun_note station links (Up packet) = refl
begun_note station links (Shut handle reason) = refl
begun_note station links (Sent handle number llid body) = refl
begun_note station links (Took handle number llid body) = refl
begun_note station links (Enter handle event channel) = refl
begun_note station links (Applied handle number event) = refl
begun_note station links (Began handle kind) = refl
begun_note station links (Refused handle kind code) = refl
begun_note station links (Done handle kind) = refl

-- ---- notes

all_head : (count : ℕ) (note : Note) (notes : List Note) → All (HasHandleBelow count) (note ∷ notes) → HasHandleBelow count note
all_head count note notes all = all 0 note (omega arith)

all_tail : (count : ℕ) (note : Note) (notes : List Note) → All (HasHandleBelow count) (note ∷ notes) → All (HasHandleBelow count) notes
all_tail count note notes all = λ place other lt. all (suc place) other (omega arith)

pub entries_are : (side : Side) (station : ℕ) (links : Links) (known : KnownLinks) (notes : List Note) → side_of station ≡ side
    → KnowsLinks station links known → All (HasHandleBelow LINKS) notes
    → entries_noted side known notes ≡ journal_from links (noted_events station notes)
entries_are side station links known [] of k below = refl
entries_are side station links known (note ∷ notes) of k below =
    ap (λ (entry : Entry). entry ∷ entries_noted side (with_note known note) notes) (entry_is side station links known note k (all_head LINKS note notes below))
    ∙ ap (λ (one : Side). entry_of one (links.link_of station) (links.last_of station) note ∷ entries_noted side (with_note known note) notes) (sym of)
    ∙ ap (λ (entries : List Entry). entry_of (side_of station) (links.link_of station) (links.last_of station) note ∷ entries)
    (entries_are side station (links_noted station note links) (with_note known note) notes of (knows_note station links known note k (all_head LINKS note notes below)) (all_tail LINKS note notes below))

pub knows_notes : (station : ℕ) (links : Links) (known : KnownLinks) (notes : List Note) → KnowsLinks station links known
    → All (HasHandleBelow LINKS) notes → KnowsLinks station (fold links_after links (noted_events station notes)) (known_after known notes)
knows_notes station links known [] k below = k
knows_notes station links known (note ∷ notes) k below =
    knows_notes station (links_noted station note links) (with_note known note) notes (knows_note station links known note k (all_head LINKS note notes below)) (all_tail LINKS note notes below)

pub same_notes : (station other : ℕ) (links : Links) (known : KnownLinks) (notes : List Note) → (other == station) ≡ false
    → KnowsLinks other links known → KnowsLinks other (fold links_after links (noted_events station notes)) known
same_notes station other links known [] ne k = k
same_notes station other links known (note ∷ notes) ne k =
    same_notes station other (links_noted station note links) known notes ne (same_note station other links known note ne k)

pub begun_notes : (station : ℕ) (links : Links) (notes : List Note) → (fold links_after links (noted_events station notes)).begun ≡ links.begun
begun_notes station links [] = refl
begun_notes station links (note ∷ notes) = begun_notes station (links_noted station note links) notes ∙ begun_note station links note
