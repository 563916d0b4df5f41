-- What a list of notes makes of the procedure that an end has in progress.
use Rattle.std.proofs.Common.{◌≡◌, ℕ, Bool, true, false, not, ◌&&◌, List, [], ◌++◌, fold, Option, Some, None, refl, ap, ◌∙◌}
use Rattle.std.proofs.lemmas.List.Sums.{fold-append}
use Rattle.ble_base.specs.declared.error_codes.ErrCode.{ErrCode}
use Rattle.ble_base.specs.declared.notes.Note.{Note}
use Rattle.ble_base.specs.declared.procedure_kinds.Kind.{Kind}
use Rattle.ble_base.specs.declared.procedure_kinds.Kind.TheVariants.{Update, Request, Map, Phy, Features, Version, Length, Encrypt}
use Rattle.link_model.specs.Entering.{began_notes, done_notes}
use Rattle.link_model.specs.Acknowledgement.{Pdu}
use Rattle.link_model.specs.Events.{applied_notes}
use Rattle.link_model.specs.Facts.{Facts}
use Rattle.link_model.specs.Receiving.{refused_notes, took_notes_if}
use Rattle.link_model.specs.Sending.{sent_notes_if}
use Rattle.link_model.specs.procedure_stages.Kinds.{is_kind}
use Rattle.link_model.specs.procedure_values.Asks.{is_same_kind}
use Rattle.link_procedures.specs.Running.{runs_after}

-- ---- kinds

pub swapped : (a b : Kind) → is_same_kind a b ≡ is_same_kind b a
swapped Update Update = refl
swapped Request Request = refl
swapped Map Map = refl
swapped Phy Phy = refl
swapped Features Features = refl
swapped Version Version = refl
swapped Length Length = refl
swapped Encrypt Encrypt = refl
swapped a b = refl

-- ---- lists of notes

-- an end that has a procedure of one kind in progress before these notes, or none, has that of another after them
abbrev pub GoesBy : List Note → Option Kind → Option Kind → Type 0
GoesBy notes before later = (kind : Kind) → fold (runs_after kind) (is_kind before kind) notes ≡ is_kind later kind

pub goes_on : (own : Option Kind) → GoesBy [] own own
goes_on own kind = refl

pub both : (notes more : List Note) (before between later : Option Kind) → GoesBy notes before between → GoesBy more between later
    → GoesBy (notes ++ more) before later
both notes more before between later one other kind =
    fold-append (runs_after kind) (is_kind before kind) notes more
    ∙ ap (λ (runs : Bool). fold (runs_after kind) runs more) (one kind) ∙ other kind

-- ---- one note

stops_by : (a b : Bool) → a ≡ b → (a && not b) ≡ false
stops_by true true is = refl
stops_by false b is = refl
stops_by true false is = absurd (cc)

pub done_goes : (handle : ℕ) (kind : Kind) → GoesBy (done_notes handle (Some kind)) (Some kind) None
done_goes handle own kind = stops_by (is_same_kind own kind) (is_same_kind kind own) (swapped own kind)

pub refused_goes : (handle : ℕ) (kind : Kind) (code : ErrCode) → GoesBy (refused_notes handle (Some (kind, code))) (Some kind) None
refused_goes handle own code kind = stops_by (is_same_kind own kind) (is_same_kind kind own) (swapped own kind)

pub began_goes : (handle : ℕ) (kind : Kind) → GoesBy (began_notes handle (Some kind)) None (Some kind)
began_goes handle own kind = swapped kind own

-- an exchange of versions that does not run is completed: a procedure of another kind goes on
runs_on : (runs : Bool) → (runs && true) ≡ runs
runs_on true = refl
runs_on false = refl

none_stops : (runs : Bool) → runs ≡ false → (runs && false) ≡ runs
none_stops true is = absurd (cc)
none_stops false is = refl

pub version_done : (handle : ℕ) (own : Option Kind) → is_kind own Version ≡ false → GoesBy (done_notes handle (Some Version)) own own
version_done handle own none Version = none_stops (is_kind own Version) none
version_done handle own none kind = runs_on (is_kind own kind)

-- ---- notes of no procedure

pub taking_silent : (is_noted : Bool) (handle : ℕ) (pdu : Pdu) (facts : Facts) (own : Option Kind)
    → GoesBy (took_notes_if is_noted handle pdu facts) own own
taking_silent true handle pdu facts own kind = refl
taking_silent false handle pdu facts own kind = refl

pub sending_silent : (is_noted : Bool) (handle number : ℕ) (pdu : Pdu) (own : Option Kind) → GoesBy (sent_notes_if is_noted handle number pdu) own own
sending_silent true handle number pdu own kind = refl
sending_silent false handle number pdu own kind = refl

pub applied_silent : (handle event : ℕ) (applied : Option ℕ) (own : Option Kind) → GoesBy (applied_notes handle event applied) own own
applied_silent handle event None own kind = refl
applied_silent handle event (Some number) own kind = refl
