-- The own procedure of a central, by its lines before it takes a PDU, is the one in its table as it looks at that PDU.
use Rattle.std.proofs.Common.{◌≡◌, ℕ, ◌&&◌, ◌||◌, not, Bool, true, false, Option, Some, None, List, [], ◌∷◌, ◌++◌, fold, map, refl, sym, ap, ◌∙◌}
use Rattle.std.specs.List.{list_any}
use Rattle.std.proofs.lemmas.Bool.{or_right}
use Rattle.std.proofs.lemmas.List.Folds.{list_any-append}
use Rattle.ble_base.specs.declared.error_codes.ErrCode.{ErrCode}
use Rattle.ble_base.specs.declared.notes.Note.{Note}
use Rattle.ble_base.specs.declared.notes.Note.TheVariants.{Began, Done, Enter, Opened, Refused, Sent, Shut, Took, Up, Applied}
use Rattle.ble_base.specs.declared.procedure_kinds.Kind.{Kind}
use Rattle.ble_base.specs.declared.roles.Role.{Role}
use Rattle.ble_base.specs.declared.roles.Role.TheVariants.{Central}
use Rattle.ble_base.specs.declared.roles.Side.{Side}
use Rattle.data_pdu.specs.declared.header.DataHeader.{DataHeader}
use Rattle.data_pdu.specs.Header.{header_in}
use Rattle.exclusive_stages.specs.declared.pdus.Exclusive.{Exclusive}
use Rattle.exclusive_stages.specs.Kinds.{central_kind, kind_of}
use Rattle.journal_endings.specs.journal_indications.journal_data.journal_links.LinkLines.{line_of}
use Rattle.journal_endings.specs.journal_indications.journal_data.link_model.Acknowledgement.{Pdu}
use Rattle.journal_endings.specs.journal_indications.journal_data.link_model.End.{facts_of, notes_after}
use Rattle.journal_endings.specs.journal_indications.journal_data.link_model.Entering.{done_notes}
use Rattle.journal_endings.specs.journal_indications.journal_data.link_model.Facts.{Facts}
use Rattle.journal_endings.specs.journal_indications.journal_data.link_model.Packets.{good_pdu}
use Rattle.journal_endings.specs.journal_indications.journal_data.link_model.Receiving.{accepts, acked_kind, acks_control, facts_before_taking, given_if, given_notes, has_acknowledged, kept_given_if, notes_hearing, received_notes, refused_notes, took_notes_if}
use Rattle.journal_endings.specs.journal_indications.journal_data.link_model.Setup.{Setup}
use Rattle.journal_endings.specs.journal_indications.journal_data.link_model.Step.{Step, PacketReceived}
use Rattle.journal_endings.specs.journal_indications.journal_data.link_model.Verdicts.{pdu_of}
use Rattle.link_procedures.proofs.Controls.{owing_keeps}
use Rattle.link_procedures.proofs.Steps.{acked_goes}
use Rattle.journal_endings.specs.journal_indications.journal_data.link_model.Controls.{is_procedure_pdu}
use Rattle.journal_endings.specs.journal_indications.journal_data.link_model.Data.{is_empty}
use Rattle.collision_steps.specs.CentralPart.{central_of}
use Rattle.journal_endings.proofs.journal_indications.journal_data.link_model.KeyedPasts.{keeps_role}
use Rattle.journal_endings.proofs.journal_indications.journal_data.link_model.KnownEnds.{IsPast, past_knows}
use Rattle.journal_endings.proofs.journal_indications.journal_data.link_model.Views.{Owed, Owing, Same, acked_control, acked_view}
use Rattle.journal_endings.proofs.link_calls.control_model.Moving.{same_role}
use Rattle.link_procedures.proofs.Seen.{at_central, same_kind}
use Rattle.journal_endings.specs.link_runs.link_pairs.control_model.Control.{Control, Owes, SeesAcknowledged}
use Rattle.journal_endings.specs.link_runs.link_pairs.procedure_stages.Kinds.{is_kind, role_of}
use Rattle.link_procedures.specs.Running.{runs_after as note_runs, runs_at}
use Rattle.journal_collisions.specs.Collisions.{runs_after}
use Rattle.run_collisions.specs.Prevailing.{seen, seen_by}

-- ---- lines and notes

-- a line says of a procedure what its note says
line_runs : (side : Side) (number : ℕ) (kind : Kind) (runs : Bool) (note : Note) → runs_after kind runs (line_of side number note) ≡ note_runs kind runs note
line_runs side number kind runs (Up packet) = refl
line_runs side number kind runs (Opened handle role own peer) = refl
line_runs side number kind runs (Shut handle reason) = refl
line_runs side number kind runs (Sent handle count llid body) = refl
line_runs side number kind runs (Took handle count llid body) = refl
line_runs side number kind runs (Enter handle event channel) = refl
line_runs side number kind runs (Applied handle count event) = refl
line_runs side number kind runs (Began handle other) = refl
line_runs side number kind runs (Refused handle other code) = refl
line_runs side number kind runs (Done handle other) = refl

pub lines_run : (side : Side) (number : ℕ) (kind : Kind) (runs : Bool) (notes : List Note)
    → fold (runs_after kind) runs (map (line_of side number) notes) ≡ fold (note_runs kind) runs notes
lines_run side number kind runs [] = refl
lines_run side number kind runs (note ∷ notes) =
    ap (λ (b : Bool). fold (runs_after kind) b (map (line_of side number) notes)) (line_runs side number kind runs note)
    ∙ lines_run side number kind (note_runs kind runs note) notes

-- ---- before the note of a PDU that is taken an end notes only a procedure that an acknowledgement completes

abbrev is_took : Note → Bool
is_took (Took handle count llid body) = true
is_took note = false

no_took : (earlier later : List Note) (handle count llid : ℕ) (body : List ℕ) (X : Type 0)
    → [] ≡ earlier ++ Took handle count llid (record { items = body }) ∷ later → X
no_took [] later handle count llid body X is = absurd cc
no_took (first ∷ earlier) later handle count llid body X is = absurd cc

none_among : (given earlier later : List Note) (handle count llid : ℕ) (body : List ℕ) (X : Type 0) → list_any is_took given ≡ false
    → given ≡ earlier ++ Took handle count llid (record { items = body }) ∷ later → X
none_among given earlier later handle count llid body X none is =
    let note = Took handle count llid (record { items = body }) in
    absurd (let h : true ≡ false = sym (or_right (list_any is_took earlier) true refl) ∙ sym (list_any-append is_took earlier (note ∷ later))
    ∙ ap (list_any is_took) (sym is) ∙ none in absurd cc)

given_none : (handle : ℕ) (refused : Option (Kind × ErrCode)) (done : Option Kind)
    → list_any is_took (refused_notes handle refused ++ done_notes handle done) ≡ false
given_none handle None None = refl
given_none handle None (Some kind) = refl
given_none handle (Some refused) None = refl
given_none handle (Some refused) (Some kind) = refl

module _ (earlier later : List Note) (handle count llid : ℕ) (body : List ℕ) where
  abbrev note : Note
  note = Took handle count llid (record { items = body })

  after_none : (noted : Bool) (own : ℕ) (pdu : Pdu) (facts : Facts) (given before : List Note) → list_any is_took given ≡ false
      → took_notes_if noted own pdu facts ++ given ≡ before ++ note ∷ later → before ≡ []
  after_none true own pdu facts given [] none is = refl
  after_none true own pdu facts given (first ∷ before) none is =
      let rest : given ≡ before ++ note ∷ later = cc in none_among given before later handle count llid body _ none rest
  after_none false own pdu facts given before none is = none_among given before later handle count llid body _ none is

  after_done : (done : Option Kind) (noted : Bool) (own : ℕ) (pdu : Pdu) (facts : Facts) (given before : List Note) → list_any is_took given ≡ false
      → done_notes own done ++ (took_notes_if noted own pdu facts ++ given) ≡ before ++ note ∷ later → before ≡ done_notes own done
  after_done None noted own pdu facts given before none is = after_none noted own pdu facts given before none is
  after_done (Some kind) noted own pdu facts given [] none is =
      absurd (let same : Done own kind ≡ note = cc in let h : false ≡ true = ap is_took same in absurd cc)
  after_done (Some kind) noted own pdu facts given (first ∷ before) none is =
      let head : Done own kind ≡ first = cc in
      let rest : took_notes_if noted own pdu facts ++ given ≡ before ++ note ∷ later = cc in
      λ i. sym head i ∷ after_none noted own pdu facts given before none rest i

  -- the procedures that run as the central looks at the PDU
  module _ (setup : Setup) (is_central : setup.link.role ≡ Central) (slot : ℕ) (room : Bool) (facts : Facts) (p : IsPast setup facts) where
    runs_heard : (header : DataHeader) (pdu : Pdu) (kind : Kind) → notes_hearing setup slot room header pdu facts ≡ earlier ++ note ∷ later
        → fold (note_runs kind) (runs_at kind facts) earlier ≡ runs_at kind (facts_before_taking Central slot header facts)
    runs_heard header pdu kind is =
        let acks = acks_control (has_acknowledged facts header) facts in
        let now = facts_before_taking setup.link.role slot header facts in
        let takes = accepts room header pdu now && is_procedure_pdu pdu in
        let given = given_if takes pdu slot now in
        let kept = kept_given_if takes pdu slot now in
        let done = after_done (acked_kind acks facts) (accepts room header pdu now && not (is_empty pdu)) setup.link.handle pdu now
        (given_notes setup.link.handle given ++ given_notes setup.link.handle kept) earlier
        (list_any-append is_took (given_notes setup.link.handle given) (given_notes setup.link.handle kept)
        ∙ (λ i. given_none setup.link.handle given.refused given.done i || given_none setup.link.handle kept.refused kept.done i)) is in
        ap (λ xs. fold (note_runs kind) (runs_at kind facts) xs) done
        ∙ acked_goes setup.link.handle acks facts kind
        ∙ ap (λ own. is_kind own kind) (sym (owing_keeps _ _ (acked_view acks facts (past_knows setup facts p))))

    runs_by : (may : Option (List ℕ)) (kind : Kind) → received_notes setup slot room may facts ≡ earlier ++ note ∷ later
        → fold (note_runs kind) (runs_at kind facts) earlier ≡ runs_at kind (seen_by setup slot may facts)
    runs_by None kind is = no_took earlier later handle count llid body _ is
    runs_by (Some pdu) kind is =
        runs_heard (header_in pdu) (pdu_of pdu) kind is
        ∙ ap (λ (role : Role). runs_at kind (facts_before_taking role slot (header_in pdu) facts)) (sym is_central)

    pub runs_seen : (octets : List ℕ) (kind : Kind) → notes_after setup facts (PacketReceived slot octets room) ≡ earlier ++ note ∷ later
        → fold (note_runs kind) (runs_at kind facts) earlier ≡ runs_at kind (seen setup slot octets facts)
    runs_seen octets kind is = runs_by (good_pdu setup facts octets) kind is

-- ---- the procedure in the table of a central

-- an acknowledgement changes no role, nor does a PDU of the encryption that is owed then
role_owing : (role : Role) (c d : Control) → Owing c d → role_of c.table.progress ≡ role → role_of d.table.progress ≡ role
role_owing role c d (Same is) same = ap (λ (e : Control). role_of e.table.progress) is ∙ same
role_owing role c d (Owed ctrl may is) same = ap (λ (e : Control). role_of e.table.progress) is ∙ same_role role (Owes ctrl) c same

role_acked : (role : Role) (acked : Bool) (c : Control) → role_of c.table.progress ≡ role → role_of (acked_control acked c).table.progress ≡ role
role_acked role true c same = same_role role SeesAcknowledged c same
role_acked role false c same = same

module _ (setup : Setup) (is_central : setup.link.role ≡ Central) (past : List Step) where
  abbrev held : Facts
  held = facts_of setup past

  held_past : IsPast setup held
  held_past = record { past = past; is = refl }

  role_seen : (slot : ℕ) (may : Option (List ℕ)) → role_of (seen_by setup slot may held).control.table.progress ≡ setup.link.role
  role_seen slot None = keeps_role setup past
  role_seen slot (Some pdu) =
      let acks = acks_control (has_acknowledged held (header_in pdu)) held in
      ap (λ (role : Role). role_of (facts_before_taking role slot (header_in pdu) held).control.table.progress) is_central
      ∙ role_owing setup.link.role (acked_control acks held.control) _ (acked_view acks held (past_knows setup held held_past))
      (role_acked setup.link.role acks held.control (keeps_role setup past))

  pub own_seen : (slot : ℕ) (octets : List ℕ) (kind : Exclusive) → runs_at (kind_of kind) (seen setup slot octets held) ≡ true
      → central_kind (central_of (seen setup slot octets held).control.table).own ≡ Some kind
  own_seen slot octets kind runs =
      let table = (seen setup slot octets held).control.table in
      same_kind (central_kind (central_of table).own) kind
      (sym (at_central table table.progress kind (role_seen slot (good_pdu setup held octets) ∙ is_central)) ∙ runs)
