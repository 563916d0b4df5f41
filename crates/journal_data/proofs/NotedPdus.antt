-- The lines of PDUs of a link, from the notes of its end.
use Rattle.std.proofs.Common.{◌≡◌, ℕ, ◌+◌, Bool, true, false, List, [], ◌∷◌, ◌++◌, cond, refl, ap, ◌∙◌}
use Rattle.std.specs.List.{filter, flat_map}
use Rattle.std.proofs.lemmas.Bool.{eq-eqb}
use Rattle.ble_base.specs.declared.notes.Note.{Note}
use Rattle.ble_base.specs.declared.notes.Note.TheVariants.{Up, Sent, Took}
use Rattle.journal_acks.specs.link_model.Acknowledgement.{Pdu}
use Rattle.journal_acks.specs.link_model.Numbers.{numbered_notes, sent_note, took_note}
use Rattle.journal_acks.specs.controller_model.Since.{is_sent_on, is_took_on}
use Rattle.journal_data.proofs.Arriving.{pdu_lines}
use Rattle.journal_data.proofs.Booked.{line_if, sent_line, took_line}

-- what fails a test adds nothing
flat_filtered : {X Y : Type 0} (of : X → List Y) (test : X → Bool) (xs : List X) → ((x : X) → test x ≡ false → of x ≡ [])
    → flat_map of xs ≡ flat_map of (filter test xs)
flat_filtered of test [] none = refl
flat_filtered of test (x ∷ xs) none = by (test x) refl (flat_filtered of test xs none)
  where
    by : (passes : Bool) → test x ≡ passes → flat_map of xs ≡ flat_map of (filter test xs)
        → of x ++ flat_map of xs ≡ flat_map of (cond passes (x ∷ filter test xs) (filter test xs))
    by true is rest = ap (λ others. of x ++ others) rest
    by false is rest = ap (λ first. first ++ flat_map of xs) (none x is) ∙ rest

no_sent : (handle link : ℕ) (note : Note) → is_sent_on handle note ≡ false → sent_line handle link note ≡ []
no_sent handle link (Sent other number llid body) is = ap (λ (b : Bool). line_if b link number llid body.items) is
no_sent handle link (Up packet) is = refl
no_sent handle link note is = refl

no_took : (handle link : ℕ) (note : Note) → is_took_on handle note ≡ false → took_line handle link note ≡ []
no_took handle link (Took other number llid body) is = ap (λ (b : Bool). line_if b link number llid body.items) is
no_took handle link (Up packet) is = refl
no_took handle link note is = refl

sent_lines : (handle link number : ℕ) (pdus : List Pdu) → flat_map (sent_line handle link) (numbered_notes (sent_note handle) number pdus) ≡ pdu_lines link number pdus
sent_lines handle link number [] = refl
sent_lines handle link number (pdu ∷ pdus) =
    (λ i. line_if (eq-eqb handle handle refl i) link number pdu.llid pdu.body ++ sent_lines handle link (number + 1) pdus i)

took_lines : (handle link number : ℕ) (pdus : List Pdu) → flat_map (took_line handle link) (numbered_notes (took_note handle) number pdus) ≡ pdu_lines link number pdus
took_lines handle link number [] = refl
took_lines handle link number (pdu ∷ pdus) =
    (λ i. line_if (eq-eqb handle handle refl i) link number pdu.llid pdu.body ++ took_lines handle link (number + 1) pdus i)

pub noted_sent : (handle link : ℕ) (since : List Note) (pdus : List Pdu) → filter (is_sent_on handle) since ≡ numbered_notes (sent_note handle) 1 pdus
    → flat_map (sent_line handle link) since ≡ pdu_lines link 1 pdus
noted_sent handle link since pdus is =
    flat_filtered (sent_line handle link) (is_sent_on handle) since (no_sent handle link) ∙ ap (flat_map (sent_line handle link)) is ∙ sent_lines handle link 1 pdus

pub noted_took : (handle link : ℕ) (since : List Note) (pdus : List Pdu) → filter (is_took_on handle) since ≡ numbered_notes (took_note handle) 1 pdus
    → flat_map (took_line handle link) since ≡ pdu_lines link 1 pdus
noted_took handle link since pdus is =
    flat_filtered (took_line handle link) (is_took_on handle) since (no_took handle link) ∙ ap (flat_map (took_line handle link)) is ∙ took_lines handle link 1 pdus
