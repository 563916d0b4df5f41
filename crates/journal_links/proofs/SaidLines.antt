-- The lines of a side on a link that are of PDUs, events and indications in force say such notes of its end.
use Rattle.std.proofs.Common.{◌≡◌, ℕ, Bool, true, false, ◌⊎◌, inl, inr, None, List, [], ◌∷◌, ◌++◌, fold, map, refl, sym, subst, ◌∙◌, append-nil, append_assoc, arith}
use Rattle.std.specs.Prelude.{if◌then◌else◌}
use Rattle.std.specs.List.{flat_map}
use Rattle.std.proofs.lemmas.Bool.{or_parts}
use Rattle.ble_base.specs.declared.notes.Note.{Note}
use Rattle.ble_base.specs.declared.notes.Note.TheVariants.{Up, Opened, Shut, Sent, Took, Enter, Applied, Began, Refused, Done}
use Rattle.ble_base.specs.declared.roles.Role.{Role}
use Rattle.ble_base.specs.declared.roles.Role.TheVariants.{Central, Peripheral}
use Rattle.ble_base.specs.declared.roles.Side.{Side}
use Rattle.run_laws.specs.controller_model.Since.{is_under, note_under, opens_under, was_opened}
use Rattle.link_changes.specs.Noted.{applied_noted, event_after, indication_noted, taking_if, takings_from}
use Rattle.link_changes.proofs.Alike.{Alike, alike_more, alike_same, alike_silent, alike_then}
use Rattle.instants.specs.Arrivals.{Taking}
use Rattle.link_changes.proofs.Knowing.{applied_says_none, enter_says_none}
use Rattle.link_changes.proofs.Notes.{IsSilent, IsStill}
use Rattle.link_changes.proofs.Parts.{silent_one}
use Rattle.journal_links.specs.Changes.{note_said}
use Rattle.journal_links.specs.LinkLines.{line_of}

-- ---- a note of another kind

abbrev pub kind_said : Note → List Note
kind_said (Sent handle number llid body) = Sent handle number llid body ∷ []
kind_said (Took handle number llid body) = Took handle number llid body ∷ []
kind_said (Enter handle event channel) = Enter handle event channel ∷ []
kind_said (Applied handle number event) = Applied handle number event ∷ []
kind_said note = []

says_none : (role : Role) (note : Note) → kind_said note ≡ [] → indication_noted role note ≡ None
says_none Central (Sent handle number llid body) is = absurd (cc)
says_none Central other is = refl
says_none Peripheral (Took handle number llid body) is = absurd (cc)
says_none Peripheral other is = refl

says_still : (note : Note) → kind_said note ≡ [] → IsStill (note ∷ [])
says_still (Enter handle event channel) is = absurd (cc)
says_still (Applied handle number event) is = absurd (cc)
says_still other is = record { event = λ event. refl; none = refl }

pub other_silent : (role : Role) (note : Note) → kind_said note ≡ [] → IsSilent role (note ∷ [])
other_silent role note is = silent_one role note (says_none role note is) (says_still note is)

pub kind_or_none : (note : Note) → (kind_said note ≡ []) ⊎ (kind_said note ≡ note ∷ [])
kind_or_none (Sent handle number llid body) = inr refl
kind_or_none (Took handle number llid body) = inr refl
kind_or_none (Enter handle event channel) = inr refl
kind_or_none (Applied handle number event) = inr refl
kind_or_none other = inl refl

-- ---- what was noted under a handle after some notes

abbrev pub said_under : ℕ → Note → List Note
said_under handle note = if is_under handle note then kind_said note else []

pub under_alike : (role : Role) (handle : ℕ) (notes more : List Note) → was_opened handle more ≡ false
    → Alike role (fold (note_under handle) notes more) (notes ++ flat_map (said_under handle) more)
under_alike role handle notes [] none = subst (Alike role notes) (sym (append-nil notes)) (alike_same role notes)
under_alike role handle notes (note ∷ more) none =
    let parts = or_parts (opens_under handle note) (was_opened handle more) none in
    by (opens_under handle note) (is_under handle note) parts.0 (λ xs. under_alike role handle xs more parts.1)
  where
    rest : List Note
    rest = flat_map (said_under handle) more

    kept : (kind_said note ≡ []) ⊎ (kind_said note ≡ note ∷ []) → Alike role ((notes ++ note ∷ []) ++ rest) (notes ++ (kind_said note ++ rest))
    kept (inl is) =
        subst (λ said. Alike role ((notes ++ note ∷ []) ++ rest) (notes ++ (said ++ rest))) (sym is)
        (alike_more role (notes ++ note ∷ []) notes rest (alike_silent role notes (note ∷ []) (other_silent role note is)))
    kept (inr is) =
        subst (λ said. Alike role ((notes ++ note ∷ []) ++ rest) (notes ++ (said ++ rest))) (sym is)
        (subst (Alike role ((notes ++ note ∷ []) ++ rest)) (append_assoc notes (note ∷ []) rest) (alike_same role ((notes ++ note ∷ []) ++ rest)))

    by : (opens under : Bool) → opens ≡ false → ((xs : List Note) → Alike role (fold (note_under handle) xs more) (xs ++ rest))
        → Alike role (fold (note_under handle) (if opens then note ∷ [] else if under then notes ++ note ∷ [] else notes) more)
        (notes ++ ((if under then kind_said note else []) ++ rest))
    by true under is later = absurd (cc)
    by false true is later = alike_then role _ ((notes ++ note ∷ []) ++ rest) _ (later (notes ++ note ∷ [])) (kept (kind_or_none note))
    by false false is later = later notes

-- ---- the notes that the lines of a link say

module _ (side : Side) (number : ℕ) where
  abbrev pub said : List Note → List Note
  said notes = flat_map note_said (map (line_of side number) notes)

  sent_says : (role : Role) (one handle count llid : ℕ) (body : _) → indication_noted role (Sent one count llid (record { items = body.items })) ≡ indication_noted role (Sent handle count llid body)
  sent_says Central one handle count llid body = refl
  sent_says Peripheral one handle count llid body = refl

  took_says : (role : Role) (one handle count llid : ℕ) (body : _) → indication_noted role (Took one count llid (record { items = body.items })) ≡ indication_noted role (Took handle count llid body)
  took_says Central one handle count llid body = refl
  took_says Peripheral one handle count llid body = refl

  nothing_said : (role : Role) (note : Note) (event : ℕ) (xs ys : List Taking) → kind_said note ≡ [] → xs ≡ ys → xs ≡ taking_if event (indication_noted role note) ++ ys
  nothing_said role note event xs ys is more = more ∙ (λ i. taking_if event (sym (says_none role note is) i) ++ ys)

  said_takings : (role : Role) (event : ℕ) (notes : List Note) → takings_from role event (said notes) ≡ takings_from role event notes
  said_takings role event [] = refl
  said_takings role event (Sent handle count llid body ∷ notes) =
      λ i. taking_if event (sent_says role number handle count llid body i) ++ said_takings role event notes i
  said_takings role event (Took handle count llid body ∷ notes) =
      λ i. taking_if event (took_says role number handle count llid body i) ++ said_takings role event notes i
  said_takings role event (Enter handle at channel ∷ notes) =
      λ i. taking_if event ((enter_says_none role number channel (record { 0 = at.0 }) ∙ sym (enter_says_none role handle channel at)) i) ++ said_takings role at.0 notes i
  said_takings role event (Applied handle count at ∷ notes) =
      λ i. taking_if event ((applied_says_none role number count (record { 0 = at.0 }) ∙ sym (applied_says_none role handle count at)) i) ++ said_takings role event notes i
  said_takings role event (Up packet ∷ notes) = nothing_said role (Up packet) event _ _ refl (said_takings role event notes)
  said_takings role event (Opened handle part own peer ∷ notes) = nothing_said role (Opened handle part own peer) event _ _ refl (said_takings role event notes)
  said_takings role event (Shut handle reason ∷ notes) = nothing_said role (Shut handle reason) event _ _ refl (said_takings role event notes)
  said_takings role event (Began handle kind ∷ notes) = nothing_said role (Began handle kind) event _ _ refl (said_takings role event notes)
  said_takings role event (Refused handle kind code ∷ notes) = nothing_said role (Refused handle kind code) event _ _ refl (said_takings role event notes)
  said_takings role event (Done handle kind ∷ notes) = nothing_said role (Done handle kind) event _ _ refl (said_takings role event notes)

  said_event : (event : ℕ) (notes : List Note) → fold event_after event (said notes) ≡ fold event_after event notes
  said_event event [] = refl
  said_event event (Enter handle at channel ∷ notes) = said_event at.0 notes
  said_event event (other ∷ notes) = said_event event notes

  said_applied : (notes : List Note) → applied_noted (said notes) ≡ applied_noted notes
  said_applied [] = refl
  said_applied (Applied handle count at ∷ notes) = let more = said_applied notes in omega (arith, more)
  said_applied (other ∷ notes) = said_applied notes

  pub said_alike : (role : Role) (notes : List Note) → Alike role (said notes) notes
  said_alike role notes = record { takings = said_takings role 0 notes; event = said_event 0 notes; applied = said_applied notes }
