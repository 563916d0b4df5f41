-- The control part of an end and its notes, step by step.
use Rattle.std.proofs.Common.{◌≡◌, ℕ, ◌≤◌, Bool, true, false, List, [], ◌∷◌, ◌++◌, Option, Some, None, is_none, is_some, refl, sym, ap, subst, ◌∙◌, if◌then◌else◌}
use Rattle.std.proofs.lemmas.List.{append-nil}
use Rattle.ble_base.specs.ErrorCodes.{instant_passed}
use Rattle.ble_base.specs.declared.error_codes.ErrCode.{ErrCode}
use Rattle.ble_base.specs.declared.notes.Note.{Note}
use Rattle.ble_base.specs.declared.roles.Role.{Role}
use Rattle.ble_base.specs.declared.roles.Role.TheVariants.{Central, Peripheral}
use Rattle.data_pdu.specs.Layouts.{written}
use Rattle.data_pdu.specs.Reading.{ctrl_of}
use Rattle.data_pdu.specs.declared.ctrl.Ctrl.{Ctrl}
use Rattle.data_pdu.specs.declared.ctrl.CtrlRead.{CtrlRead}
use Rattle.instants.specs.Track.{event_of, track_after_take}
use Rattle.instants.specs.declared.indications.Indication.{Indication}
use Rattle.instants.specs.declared.indications.Params.{Params}
use Rattle.link_model.specs.procedure_stages.Kinds.{role_of}
use Rattle.link_model.specs.procedures.Queue.{next_of}
use Rattle.link_model.specs.procedures.Sending.{next_ctrl_of}
use Rattle.link_model.specs.procedures.Table.{TableFacts}
use Rattle.link_model.specs.procedures.Taking.{took_step}
use Rattle.link_model.specs.control_model.Control.{Control, Step, Owes, Sends, Takes, after, ended, following, goes_out, indicated_by, is_to_come, moved, taken, went}
use Rattle.link_model.specs.control_model.Waits.{is_of_table_alone}
use Rattle.link_model.proofs.control_model.Calls.{open_step}
use Rattle.link_model.proofs.control_model.Moving.{table_alone}
use Rattle.link_model.proofs.control_model.Waiting.{free_to_take}
use Rattle.link_changes.specs.Noted.{indication_noted, indication_read, taking_if}
use Rattle.link_changes.proofs.Knowing.{Knows, knows_over, knows_silent, knows_taken}
use Rattle.link_changes.proofs.Notes.{IsSilent, IsStill, silent_none}
use Rattle.link_changes.proofs.Readable.{IsGood, IsOwed, next_goes}
use Rattle.link_changes.proofs.Reached.{Reached, lasted, reached_awaits, reached_free, reached_over, reached_reads, reached_then}
use Rattle.link_changes.proofs.Reading.{sent_read}
use Rattle.link_changes.proofs.Taking.{handed}

pub record Part (role : Role) (max_rx : ℕ) (first : Params) (slot : ℕ) (notes : List Note) (c : Control) : Type 0 where
  pub reached : Reached role max_rx first slot c
  pub knows : Knows role first slot notes (is_none c.ends) c.track

-- ---- single notes

pub silent_one : (role : Role) (note : Note) → indication_noted role note ≡ None → IsStill (note ∷ []) → IsSilent role (note ∷ [])
silent_one role note none still = record { still = still; no_taking = λ event. (λ i. taking_if event (none i) ++ []) }

module _ (role : Role) (max_rx : ℕ) (first : Params) (slot : ℕ) where
  abbrev pub PartOf : List Note → Control → Type 0
  PartOf notes c = Part role max_rx first slot notes c

  -- more notes that say nothing
  pub part_more : (notes more : List Note) (c : Control) → PartOf notes c → IsSilent role more → PartOf (notes ++ more) c
  part_more notes more c p silent = record {
    reached = p.reached;
    knows = knows_silent role first slot notes more (is_none c.ends) (is_none c.ends) c.track c.track p.knows refl (λ goes. goes) silent;
  }

  -- a step that leaves the track
  pub part_same : (notes more : List Note) (c : Control) (step : Step) → PartOf notes c → (role ≡ Central → IsGood step) → (after step c).track ≡ c.track
      → IsSilent role more → PartOf (notes ++ more) (after step c)
  part_same notes more c step p good same silent = record {
    reached = reached_then role max_rx first slot c step p.reached good;
    knows = knows_silent role first slot notes more (is_none c.ends) (is_none (after step c).ends) c.track (after step c).track p.knows same (lasted step c) silent;
  }

  pub part_alone : (notes : List Note) (c : Control) (step : Step) → PartOf notes c → (role ≡ Central → IsGood step) → is_of_table_alone step ≡ true
      → PartOf notes (after step c)
  part_alone notes c step p good alone =
      subst (λ (all : List Note). PartOf all (after step c)) (append-nil notes)
      (part_same notes [] c step p good (table_alone c step alone) (silent_none role))

  -- the link ends by its phase
  pub part_over : (notes more : List Note) (c : Control) (code : ErrCode) → PartOf notes c → IsStill more → PartOf (notes ++ more) (ended code c)
  part_over notes more c code p still = record {
    reached = reached_over role max_rx first slot c code p.reached;
    knows = knows_over role first slot notes more (is_none c.ends) c.track c.track p.knows refl still;
  }

  -- what is noted once the link ended never holds
  pub part_ended : (notes more : List Note) (c : Control) → is_none c.ends ≡ false → PartOf notes c → IsStill more → PartOf (notes ++ more) c
  part_ended notes more c over p still = record {
    reached = p.reached;
    knows = subst (λ (b : Bool). Knows role first slot (notes ++ more) b c.track) (sym over)
        (knows_over role first slot notes more (is_none c.ends) c.track c.track p.knows refl still);
  }

  -- a PDU of an encryption is queued
  pub part_owes : (notes : List Note) (ctrl : Ctrl) (c : Control) → IsOwed ctrl → PartOf notes c → PartOf notes (after (Owes ctrl) c)
  part_owes notes ctrl c is p = part_alone notes c (Owes ctrl) p (λ central. (tt, is)) refl

  -- ---- a peripheral takes a control PDU

  module _ (notes : List Note) (note : Note) (c : Control) (still : IsStill (note ∷ [])) where
    taken_knows : (table : TableFacts) (ends : Option ErrCode) (some : Option Indication) → is_none c.ends ≡ true
        → Knows role first slot notes (is_none c.ends) c.track → (ends ≡ None → some ≡ indication_noted role note)
        → ((indication : Indication) → some ≡ Some indication → is_none c.track.waits ≡ true)
        → Knows role first slot (notes ++ note ∷ []) (is_none (taken table ends some c).ends) (taken table ends some c).track
    taken_knows table (Some code) some lasts k says free = knows_over role first slot notes (note ∷ []) (is_none c.ends) c.track c.track k refl still
    taken_knows table None None lasts k says free =
        knows_silent role first slot notes (note ∷ []) (is_none c.ends) (is_none c.ends) c.track c.track k refl (λ goes. goes)
        (silent_one role note (sym (says refl)) still)
    taken_knows table None (Some indication) lasts k says free = by (is_to_come c.track indication)
      where
        by : (b : Bool) → let d = (if b then record c { table = table; track = track_after_take c.track indication } else ended (record { 0 = instant_passed }) c) in
            Knows role first slot (notes ++ note ∷ []) (is_none d.ends) d.track
        by true =
            subst (λ (b : Bool). Knows role first slot (notes ++ note ∷ []) b (track_after_take c.track indication)) (sym lasts)
            (knows_taken role first slot notes note c.track (track_after_take c.track indication) indication
            (subst (λ (b : Bool). Knows role first slot notes b c.track) lasts k) (sym (says refl)) still (free indication refl) refl)
        by false = knows_over role first slot notes (note ∷ []) (is_none c.ends) c.track c.track k refl still

    takes_knows : (read : CtrlRead) (now : ℕ) (quiet lasts : Bool) → is_none c.ends ≡ lasts → role ≡ Peripheral → PartOf notes c
        → indication_noted role note ≡ indication_read read
        → let d = (if lasts then moved (Takes read now quiet) c else c) in Knows role first slot (notes ++ note ∷ []) (is_none d.ends) d.track
    takes_knows read now quiet true lasts is p noted =
        let step = took_step c.table read now quiet in
        taken_knows step.0 step.1.ends (indicated_by step.1.effect) lasts p.knows
        (λ none. handed c.table read now quiet (p.reached.is_role ∙ is) none ∙ sym noted)
        (free_to_take c (reached_awaits role max_rx first slot c p.reached lasts is) read now quiet)
    takes_knows read now quiet false lasts is p noted =
        subst (λ (b : Bool). Knows role first slot (notes ++ note ∷ []) b c.track) (sym lasts)
        (knows_over role first slot notes (note ∷ []) (is_none c.ends) c.track c.track p.knows refl still)

    pub part_takes : (read : CtrlRead) (now : ℕ) (quiet : Bool) → role ≡ Peripheral → PartOf notes c → indication_noted role note ≡ indication_read read
        → PartOf (notes ++ note ∷ []) (after (Takes read now quiet) c)
    part_takes read now quiet is p noted = record {
      reached = reached_then role max_rx first slot c (Takes read now quiet) p.reached (λ central. (tt, tt));
      knows = takes_knows read now quiet (is_none c.ends) refl is p noted;
    }

    -- ---- a central sends one

    follows_knows : (of : Role) (some : Option Indication) (table : TableFacts) → of ≡ Central → is_none c.ends ≡ true
        → Knows role first slot notes (is_none c.ends) c.track → indication_noted role note ≡ some
        → ((indication : Indication) → some ≡ Some indication → is_none c.track.waits ≡ true)
        → let d = following of some (record c { table = table }) in Knows role first slot (notes ++ note ∷ []) (is_none d.ends) d.track
    follows_knows Central None table is lasts k noted free =
        knows_silent role first slot notes (note ∷ []) (is_none c.ends) (is_none c.ends) c.track c.track k refl (λ goes. goes) (silent_one role note noted still)
    follows_knows Central (Some indication) table is lasts k noted free =
        subst (λ (b : Bool). Knows role first slot (notes ++ note ∷ []) b (track_after_take c.track indication)) (sym lasts)
        (knows_taken role first slot notes note c.track (track_after_take c.track indication) indication
        (subst (λ (b : Bool). Knows role first slot notes b c.track) lasts k) noted still (free indication refl) refl)
    follows_knows Peripheral some table is lasts k noted free = absurd (cc)

    sends_knows : (ctrl : Ctrl) (now : ℕ) (quiet goes : Bool) → goes_out quiet c ≡ goes → next_ctrl_of c.table (event_of c.track) c.track.params.latency quiet ≡ Some ctrl
        → role ≡ Central → first.latency ≤ 499 → is_none c.ends ≡ true → PartOf notes c → indication_noted role note ≡ indication_read (ctrl_of (written ctrl))
        → let d = (if goes then following (role_of c.table.progress) (went now quiet c).1 (record c { table = (went now quiet c).0 }) else c) in
        Knows role first slot (notes ++ note ∷ []) (is_none d.ends) d.track
    sends_knows ctrl now quiet false goes next is latency lasts p noted =
        let no : ◌≡◌ {A = Bool} true false = ap (λ (some : Option Ctrl). is_some some) (sym next) ∙ goes in absurd (cc)
    sends_knows ctrl now quiet true goes next is latency lasts p noted =
        let reads = reached_reads role max_rx first slot c p.reached lasts is in
        follows_knows (role_of c.table.progress) (went now quiet c).1 (went now quiet c).0 (p.reached.is_role ∙ is) lasts p.knows
        (noted ∙ sent_read (next_of c.table (event_of c.track) quiet) (event_of c.track) c.track.params.latency ctrl
        (next_goes c.table (event_of c.track) quiet reads.drafts).draft next)
        (reached_free role max_rx first slot c p.reached lasts is latency now quiet)

    pub part_sends : (ctrl : Ctrl) (now : ℕ) (quiet : Bool) → next_ctrl_of c.table (event_of c.track) c.track.params.latency quiet ≡ Some ctrl
        → role ≡ Central → first.latency ≤ 499 → c.ends ≡ None → PartOf notes c → indication_noted role note ≡ indication_read (ctrl_of (written ctrl))
        → PartOf (notes ++ note ∷ []) (after (Sends now quiet) c)
    part_sends ctrl now quiet next is latency ends p noted = record {
      reached = reached_then role max_rx first slot c (Sends now quiet) p.reached (λ central. (tt, tt));
      knows = open_step (λ (d : Control). Knows role first slot (notes ++ note ∷ []) (is_none d.ends) d.track) (Sends now quiet) c ends
          (sends_knows ctrl now quiet (goes_out quiet c) refl next is latency (ap (λ (some : Option ErrCode). is_none some) ends) p noted);
    }
