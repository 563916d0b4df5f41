-- What the lines of a list of notes make of what an end answered.
use Rattle.std.proofs.Common.{◌≡◌, ℕ, ◌&&◌, ◌||◌, Bool, true, false, Option, Some, None, List, [], ◌∷◌, ◌++◌, map, fold, refl, ap, sym, subst, ◌∙◌, if◌then◌else◌}
use Rattle.std.specs.List.{AllByRecursion}
use Rattle.std.proofs.lemmas.List.{map-append}
use Rattle.std.proofs.lemmas.List.Sums.{fold-append}
use Rattle.ble_base.specs.declared.error_codes.ErrCode.{ErrCode}
use Rattle.ble_base.specs.declared.notes.Note.{Note}
use Rattle.ble_base.specs.declared.notes.Note.TheVariants.{Began, Done, Refused, Took}
use Rattle.ble_base.specs.declared.procedure_kinds.Kind.{Kind}
use Rattle.ble_base.specs.declared.procedure_kinds.Kind.TheVariants.{Encrypt}
use Rattle.ble_base.specs.declared.roles.Side.{Side}
use Rattle.data_pdu.specs.declared.ctrl.CtrlRead.{CtrlRead}
use Rattle.journal_acks.proofs.controller_model.EndNotes.{both_each}
use Rattle.journal_acks.specs.journal_links.LinkLines.{line_of}
use Rattle.journal_acks.specs.link_model.Acknowledgement.{Pdu}
use Rattle.journal_acks.specs.link_model.Controls.{is_procedure_pdu, read_of}
use Rattle.journal_acks.specs.link_model.Entering.{began_notes, done_notes, event_notes}
use Rattle.journal_acks.specs.link_model.Events.{applied_notes}
use Rattle.journal_acks.specs.link_model.Receiving.{given_notes, refused_notes}
use Rattle.journal_acks.specs.link_model.control_end.declared.answers.Entry.{Entry as EntryAnswer}
use Rattle.journal_acks.specs.link_model.control_end.declared.answers.Taken.{Taken}
use Rattle.journal_acks.specs.link_model.declared.events.ConnectionEvent.{ConnectionEvent}
use Rattle.journal_acks.specs.link_model.procedure_stages.Kinds.{is_kind}
use Rattle.journal_ends.specs.Asked.{Answered, answered_after, answering, answering_kept, is_kept, keeping}
use Rattle.link_phases.specs.link_procedures.Running.{runs_after}

-- the same peer, and the same PDU that is kept
pub record Leaves (a b : Answered) : Type 0 where
  pub peer : b.peer ≡ a.peer
  pub kept : b.kept ≡ a.kept

-- the encryption goes on, or it is over
pub data Over (a b : Answered) : Type 0 where
  Stays : b ≡ a → Over a b
  Ends : b ≡ answering_kept a → Over a b

twice : (a b c : Answered) → Over a b → Over b c → Over a c
twice a b c (Stays is) (Stays also) = Stays (also ∙ is)
twice a b c (Stays is) (Ends also) = Ends (also ∙ ap answering_kept is)
twice a b c (Ends is) (Stays also) = Ends (also ∙ is)
twice a b c (Ends is) (Ends also) = Ends (also ∙ ap answering_kept is)

module _ (side : Side) (number : ℕ) where
  abbrev pub answered_by : Answered → List Note → Answered
  answered_by a notes = fold answered_after a (map (line_of side number) notes)

  pub two : (a : Answered) (notes more : List Note) → answered_by a (notes ++ more) ≡ answered_by (answered_by a notes) more
  two a notes more =
      ap (fold answered_after a) (map-append (line_of side number) notes more)
      ∙ fold-append answered_after a (map (line_of side number) notes) (map (line_of side number) more)

  -- ---- whether an encryption runs

  taking_runs : (procedure kept : Bool) (read : CtrlRead) (a : Answered)
      → (if procedure then (if kept then keeping read a else answering read a) else a).encrypts ≡ a.encrypts
  taking_runs true true read a = refl
  taking_runs true false read a = refl
  taking_runs false kept read a = refl

  or_true : (b : Bool) → true ≡ (b || true)
  or_true true = refl
  or_true false = refl

  or_false : (b : Bool) → b ≡ (b || false)
  or_false true = refl
  or_false false = refl

  and_false : (b : Bool) → false ≡ (b && false)
  and_false true = refl
  and_false false = refl

  and_true : (b : Bool) → b ≡ (b && true)
  and_true true = refl
  and_true false = refl

  one_runs : (note : Note) (a : Answered) → (answered_after a (line_of side number note)).encrypts ≡ runs_after Encrypt a.encrypts note
  one_runs (Took handle count llid body) a =
      let pdu : Pdu = record { llid = llid; body = body.items } in
      taking_runs (is_procedure_pdu pdu) (is_kept (read_of pdu) a) (read_of pdu) a
  one_runs (Began handle Encrypt) a = or_true a.encrypts
  one_runs (Began handle kind) a = or_false a.encrypts
  one_runs (Done handle Encrypt) a = and_false a.encrypts
  one_runs (Done handle kind) a = and_true a.encrypts
  one_runs (Refused handle Encrypt code) a = and_false a.encrypts
  one_runs (Refused handle kind code) a = and_true a.encrypts
  one_runs note a = refl

  pub all_run : (notes : List Note) (a : Answered) → (answered_by a notes).encrypts ≡ fold (runs_after Encrypt) a.encrypts notes
  all_run [] a = refl
  all_run (note ∷ notes) a =
      all_run notes (answered_after a (line_of side number note))
      ∙ ap (λ (runs : Bool). fold (runs_after Encrypt) runs notes) (one_runs note a)

  -- ---- notes of no PDU that is taken, and of no encryption that is over

  abbrev pub IsApart : Note → Type 0
  IsApart note = (a : Answered) → Leaves a (answered_after a (line_of side number note))

  pub leaves : (notes : List Note) → AllByRecursion IsApart notes → (a : Answered) → Leaves a (answered_by a notes)
  leaves [] are a = record { peer = refl; kept = refl }
  leaves (note ∷ notes) are a =
      let first = are.0 a in
      let later = leaves notes are.1 (answered_after a (line_of side number note)) in
      record { peer = later.peer ∙ first.peer; kept = later.kept ∙ first.kept }

  done_apart : (handle : ℕ) (kind : Option Kind) → is_kind kind Encrypt ≡ false → AllByRecursion IsApart (done_notes handle kind)
  done_apart handle None is = tt
  done_apart handle (Some Encrypt) is = absurd cc
  done_apart handle (Some kind) is = (λ a. record { peer = refl; kept = refl }, tt)

  pub done_leaves : (handle : ℕ) (kind : Option Kind) → is_kind kind Encrypt ≡ false → (a : Answered) → Leaves a (answered_by a (done_notes handle kind))
  done_leaves handle kind is a = leaves (done_notes handle kind) (done_apart handle kind is) a

  began_apart : (handle : ℕ) (kind : Option Kind) → AllByRecursion IsApart (began_notes handle kind)
  began_apart handle None = tt
  began_apart handle (Some Encrypt) = (λ a. record { peer = refl; kept = refl }, tt)
  began_apart handle (Some kind) = (λ a. record { peer = refl; kept = refl }, tt)

  applied_apart : (handle event : ℕ) (applied : Option ℕ) → AllByRecursion IsApart (applied_notes handle event applied)
  applied_apart handle event None = tt
  applied_apart handle event (Some number) = (λ a. record { peer = refl; kept = refl }, tt)

  pub event_leaves : (handle : ℕ) (event : ConnectionEvent) (entry : EntryAnswer) → is_kind entry.done Encrypt ≡ false → (a : Answered)
      → Leaves a (answered_by a (event_notes handle event entry))
  event_leaves handle event entry is =
      leaves (event_notes handle event entry)
      (both_each IsApart _ _
      (both_each IsApart _ _
      (both_each IsApart _ _ (applied_apart handle event.number entry.applied) (λ a. record { peer = refl; kept = refl }, tt))
      (done_apart handle entry.done is))
      (began_apart handle entry.began))

  -- ---- notes of what is refused and done

  done_over : (handle : ℕ) (kind : Option Kind) (a : Answered) → Over a (answered_by a (done_notes handle kind))
  done_over handle None a = Stays refl
  done_over handle (Some Encrypt) a = Ends refl
  done_over handle (Some kind) a = Stays refl

  refused_over : (handle : ℕ) (refused : Option (Kind × ErrCode)) (a : Answered) → Over a (answered_by a (refused_notes handle refused))
  refused_over handle None a = Stays refl
  refused_over handle (Some (Encrypt, code)) a = Ends refl
  refused_over handle (Some (kind, code)) a = Stays refl

  both_over : (notes more : List Note) (a : Answered) → Over a (answered_by a notes) → Over (answered_by a notes) (answered_by (answered_by a notes) more)
      → Over a (answered_by a (notes ++ more))
  both_over notes more a first later =
      subst (Over a) (sym (two a notes more)) (twice a (answered_by a notes) (answered_by (answered_by a notes) more) first later)

  given_over : (handle : ℕ) (given : Taken) (a : Answered) → Over a (answered_by a (given_notes handle given))
  given_over handle given a =
      both_over (refused_notes handle given.refused) (done_notes handle given.done) a (refused_over handle given.refused a) (done_over handle given.done _)

  pub both_given : (handle : ℕ) (given kept : Taken) (a : Answered) → Over a (answered_by a (given_notes handle given ++ given_notes handle kept))
  both_given handle given kept a =
      both_over (given_notes handle given) (given_notes handle kept) a (given_over handle given a) (given_over handle kept _)
