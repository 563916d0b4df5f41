-- As a turn ends, only packets to the host and ends of links are noted; and nothing is noted of the data of a link once
-- one is shut.
use Rattle.std.proofs.Common.{◌≡◌, ℕ, ◌≤◌, ◌⊎◌, inl, inr, Bool, true, false, List, [], ◌∷◌, refl, subst, arith}
use Rattle.std.specs.List.{Contains}
use Rattle.std.proofs.lemmas.List.Elements.{All-contains, All-from_recursion}
use Rattle.ble_base.specs.declared.notes.Note.{Note}
use Rattle.ble_base.specs.declared.notes.Note.TheVariants.{Up, Shut}
use Rattle.journal_acks.specs.open_links.Turns.{ending_in}
use Rattle.journal_acks.specs.controller_model.Data.{facts_handed, notes_handed}
use Rattle.journal_acks.specs.controller_model.Facts.{Facts, Setup}
use Rattle.journal_acks.specs.controller_model.Links.{ends_for, notes_leaving}
use Rattle.journal_acks.specs.controller_model.Side.{notes_after}
use Rattle.journal_acks.specs.controller_model.Since.{is_data_note}
use Rattle.journal_acks.specs.controller_model.Step.{Step, HostOctet, TurnBegins, PacketHeard, NothingHeard, TurnEnds}
use Rattle.journal_acks.proofs.controller_model.OtherNotes.{AreOther, IsOther, ends_other}
use Rattle.journal_data.proofs.Openness.{AreNot, all_append, handed_not, leaving_not}

-- a turn ends in a step, or it does not
pub ends_or_not : (step : Step) → (step ≡ TurnEnds) ⊎ (step ≡ TurnEnds → ⊥)
ends_or_not (HostOctet octet) = inr (λ is. absurd (let h : HostOctet octet ≡ TurnEnds = is in absurd cc))
ends_or_not (TurnBegins slot on) = inr (λ is. absurd (let h : TurnBegins slot on ≡ TurnEnds = is in absurd cc))
ends_or_not (PacketHeard octets) = inr (λ is. absurd (let h : PacketHeard octets ≡ TurnEnds = is in absurd cc))
ends_or_not NothingHeard = inr (λ is. absurd (let h : NothingHeard ≡ TurnEnds = is in absurd cc))
ends_or_not TurnEnds = inl refl

-- ---- what is noted then

-- it is neither a packet to the host nor the end of a link
abbrev pub is_else : Note → Bool
is_else (Up packet) = false
is_else (Shut handle reason) = false
is_else note = true

ended_else : (setup : Setup) (facts : Facts) → AreNot is_else (notes_after setup facts TurnEnds)
ended_else setup facts =
    all_append (λ note. is_else note ≡ false) (notes_handed facts) (notes_leaving (facts_handed facts)) (handed_not is_else (λ octets. refl) facts)
    (leaving_not is_else (λ octets. refl) (λ handle reason. refl) facts)

pub none_else : (setup : Setup) (facts : Facts) (step : Step) (note : Note) → Contains (notes_after setup facts step) note → step ≡ TurnEnds → is_else note ≡ false
none_else setup facts step note inside ends =
    All-contains (λ one. is_else one ≡ false) (notes_after setup facts TurnEnds) note
    (All-from_recursion (λ one. is_else one ≡ false) (notes_after setup facts TurnEnds) (ended_else setup facts))
    (subst (λ s. Contains (notes_after setup facts s) note) ends inside)

-- ---- the links that end then

others_no_data : (most handle : ℕ) → most ≤ 4096 → (notes : List Note) → AreOther most handle notes → AreNot (is_data_note handle) notes
others_no_data most handle few [] are = tt
others_no_data most handle few (note ∷ notes) are = (by note are.0, others_no_data most handle few notes are.1)
  where
    by : (note : Note) → IsOther most handle note → is_data_note handle note ≡ false
    by note other = rw (other.sent_none, other.took_none, other.handed_none few, other.completed_none few) refl

-- what is noted of them is of no data
pub leaving_no_data : (handle : ℕ) (facts : Facts) → AreNot (is_data_note handle) (notes_leaving (facts_handed facts))
leaving_no_data handle facts =
    others_no_data 0 handle (omega arith) (notes_leaving (facts_handed facts)) (ends_other 0 handle (facts_handed facts).view (ends_for ending_in (facts_handed facts)))
