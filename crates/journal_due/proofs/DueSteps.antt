-- What a line of an end adds to what is due, by its kind: none is left after the lines that were due.
use Rattle.std.proofs.Common.{◌≡◌, ℕ, ◌-◌, ◌==◌, Bool, true, false, Option, Some, None, List, [], ◌∷◌, ◌++◌, length, map, refl, sym, ap, subst, ◌∙◌, append-nil, append_assoc}
use Rattle.std.specs.Prelude.{drop, if◌then◌else◌}
use Rattle.std.specs.List.{AllByRecursion, flat_map}
use Rattle.std.proofs.lemmas.Bool.{eqb-true}
use Rattle.std.proofs.lemmas.Grind.{flat_map-append}
use Rattle.std.proofs.lemmas.List.{map-append}
use Rattle.ble_base.specs.declared.error_codes.ErrCode.{ErrCode}
use Rattle.ble_base.specs.declared.procedure_kinds.Kind.{Kind}
use Rattle.ble_base.specs.declared.roles.Side.{Side}
use Rattle.ble_base.specs.declared.roles.Side.TheVariants.{A, B}
use Rattle.journal.specs.declared.entries.Entry.{Entry}
use Rattle.journal.specs.declared.entries.Entry.TheVariants.{Began, Done, Refused}
use Rattle.journal_controls.specs.host_answers.Answered.{accepted_in}
use Rattle.journal_controls.specs.journal_ends.Asked.{Words}
use Rattle.journal_controls.specs.journal_ends.Seen.{Says, heard_in_line, seen_in_line}
use Rattle.journal_controls.specs.journal_links.LinkLines.{line_of, link_named, where_named}
use Rattle.journal_controls.specs.link_model.Entering.{began_notes, done_notes}
use Rattle.journal_controls.specs.link_model.Receiving.{given_notes, refused_notes}
use Rattle.journal_controls.specs.link_model.control_end.declared.answers.Taken.{Taken}
use Rattle.journal_controls.specs.link_model.keyed_control.Keyed.{Keyed}
use Rattle.journal_controls.specs.link_model.keyed_control.declared.material.Response.{Response}
use Rattle.journal_controls.specs.link_model.phased_end.declared.taking.TakenKeyed.{TakenKeyed}
use Rattle.journal_controls.specs.run_model.Readers.{of_side, pair_openings_in, turns_of}
use Rattle.journal_controls.specs.KeyedLines.{keyed_by_all}
use Rattle.journal_controls.specs.LineSteps.{keyed_in_line, keyed_on, steps_seen, turn_now}
use Rattle.journal_controls.specs.LinesDue.{due_saying, lines_due, notes_given}
use Rattle.journal_controls.proofs.LineFolds.{keyed_more, quiet_line}
use Rattle.journal_controls.proofs.journal_ends.SeenEvents.{unanswered_in, unasked_in}
use Rattle.journal_controls.proofs.journal_acks.TwoStations.{same_number}
use Rattle.journal_due.specs.EachLine.{AreDueLines, IsDueOn}
use Rattle.journal_due.specs.ProcedureLines.{RestsAt, applied_by, applied_in, line_if, first_of, procedure_line, side_of_line}
use Rattle.journal_due.proofs.DueLines.{own_applied, quiet_due, said_due}

-- ---- a line of an end, and the ends of other links

pub record IsOwnLine (side : Side) (number : ℕ) (line : Entry) : Type 0 where
  pub named : link_named line ≡ Some (side, number)
  pub deaf : (other : ℕ) (front : List Entry) → heard_in_line side other front line ≡ []
  pub unaccepted : (front : List Entry) → accepted_in side front line ≡ []
  pub own : side_of_line line ≡ Some side
  pub no_turn : pair_openings_in line ≡ []

if_none : (b : Bool) (lines : List Entry) → lines ≡ [] → (if b then lines else []) ≡ []
if_none true lines is = is
if_none false lines is = refl

module _ (words : Words) (side : Side) (number : ℕ) where
  named_own : (one : Side) (line : Entry) → of_side one one (if number == number then line ∷ [] else []) ≡ line ∷ []
  named_own A line = ap (λ b. if b then line ∷ [] else []) (same_number number)
  named_own B line = ap (λ b. if b then line ∷ [] else []) (same_number number)

  named_apart : (one : Side) (same : Bool) (line : Entry) → same ≡ false → of_side one one (if same then line ∷ [] else []) ≡ []
  named_apart A false line is = refl
  named_apart B false line is = refl
  named_apart one true line is = absurd cc

  pub seen_own : (front : List Entry) (line : Entry) → IsOwnLine side number line → seen_in_line words side number front line ≡ Says line ∷ []
  seen_own front line own =
      (λ i. unasked_in words side number front line (own.unaccepted front) i ++ (own.deaf number front i ++ map Says (where_named side number (own.named i) line))) ∙ ap (map Says) (named_own side line)

  pub seen_apart : (other : ℕ) (front : List Entry) (line : Entry) → IsOwnLine side number line → (number == other) ≡ false → seen_in_line words side other front line ≡ []
  seen_apart other front line own apart =
      (λ i. unasked_in words side other front line (own.unaccepted front) i ++ (own.deaf other front i ++ map Says (where_named side other (own.named i) line))) ∙ ap (map Says) (named_apart side (number == other) line apart)

  pub keyed_apart : (other : ℕ) (front : List Entry) (line : Entry) → IsOwnLine side number line → (number == other) ≡ false
      → keyed_on words side other (front ++ line ∷ []) ≡ keyed_on words side other front
  keyed_apart other front line own apart =
      keyed_more words side other front line
      ∙ quiet_line words side other front (keyed_on words side other front) line (seen_apart other front line own apart)
      (unanswered_in words side other front line (own.unaccepted front))

  -- lines that are due are those of one link
  pub after_own : (front due : List Entry) (line : Entry) → IsOwnLine side number line → ((other : ℕ) → (number == other) ≡ false → lines_due words side other front ≡ [])
      → lines_due words side number (front ++ line ∷ []) ≡ due → applied_in line ≡ None → IsDueOn words side number due (front ++ line ∷ [])
  after_own front due line own others is none = record {
    procedures = λ other. by other (number == other) refl;
    indication = own_applied side front line own.own ∙ none;
  }
    where
      by : (other : ℕ) (same : Bool) → (number == other) ≡ same → lines_due words side other (front ++ line ∷ []) ≡ (if same then due else [])
      by other true same = ap (λ n. lines_due words side n (front ++ line ∷ [])) (sym (eqb-true number other same)) ∙ is
      by other false same = quiet_due words side other front line (seen_apart other front line own same) ∙ others other same

  apart_none : (front due : List Entry) → IsDueOn words side number due front → (other : ℕ) → (number == other) ≡ false → lines_due words side other front ≡ []
  apart_none front due on other apart = on.procedures other ∙ ap (λ b. if b then due else []) apart

  own_due : (front due : List Entry) → IsDueOn words side number due front → lines_due words side number front ≡ due
  own_due front due on = on.procedures number ∙ ap (λ b. if b then due else []) (same_number number)

  pub on_rests : (front : List Entry) → IsDueOn words side number [] front → RestsAt words side front
  on_rests front on = record { procedures = λ other. on.procedures other ∙ if_none (number == other) [] refl; indication = on.indication }

-- the turn goes on
pub turn_stays : (front : List Entry) (line : Entry) → pair_openings_in line ≡ [] → turn_now (front ++ line ∷ []) ≡ turn_now front
turn_stays front line none =
    ap (λ turns. length turns - 1) (flat_map-append pair_openings_in front (line ∷ []) ∙ ap (λ xs. turns_of front ++ (xs ++ [])) none ∙ append-nil (turns_of front))

-- a line of an end that has no line due after it
pub quiet_own : (words : Words) (side : Side) (number : ℕ) (front : List Entry) (line : Entry) → IsOwnLine side number line → (other : ℕ) → lines_due words side other front ≡ []
    → (saying : (response : Response) (slot : ℕ) (k : Keyed) (due : List Entry) → due ≡ [] → due_saying side number response slot k due line ≡ [])
    → (k : Keyed) → keyed_on words side number front ≡ Some k → lines_due words side other (front ++ line ∷ []) ≡ []
quiet_own words side number front line own other none saying k is = by (number == other) refl
  where
    by : (same : Bool) → (number == other) ≡ same → lines_due words side other (front ++ line ∷ []) ≡ []
    by true same =
        let one = eqb-true number other same in
        ap (λ n. lines_due words side n (front ++ line ∷ [])) (sym one)
        ∙ said_due words side number front line k is (seen_own words side number front line own)
        ∙ saying (words side front) (turn_now front) k (lines_due words side number front) (ap (λ n. lines_due words side n front) one ∙ none)
    by false same = quiet_due words side other front line (seen_apart words side number other front line own same) ∙ none

-- ---- lines of procedures, each of which is due

pub record IsProcedureLine (words : Words) (side : Side) (number : ℕ) (line : Entry) : Type 0 where
  pub line_is : IsOwnLine side number line
  pub is : (other : ℕ) → procedure_line other line ≡ line_if (number == other) line
  pub drops : (response : Response) (slot : ℕ) (k : Keyed) (due : List Entry) → due_saying side number response slot k due line ≡ drop 1 due
  pub none : applied_in line ≡ None
  pub quiet : (front : List Entry) → applied_by words side front line ≡ None
  pub still : (front : List Entry) (k : Keyed) → keyed_on words side number front ≡ Some k → keyed_on words side number (front ++ line ∷ []) ≡ Some k

-- a line that moves nothing of an end
pub still_if : (words : Words) (side : Side) (number : ℕ) (line : Entry) (front : List Entry) (k : Keyed) → IsOwnLine side number line
    → keyed_in_line words side number front (Some k) line ≡ Some (keyed_by_all (flat_map (steps_seen words side number front line k) (seen_in_line words side number front line)) k)
    → flat_map (steps_seen words side number front line k) (Says line ∷ []) ≡ [] → keyed_on words side number front ≡ Some k → keyed_on words side number (front ++ line ∷ []) ≡ Some k
still_if words side number line front k own moved none is =
    keyed_more words side number front line ∙ ap (λ before. keyed_in_line words side number front before line) is ∙ moved
    ∙ ap (λ seen. Some (keyed_by_all (flat_map (steps_seen words side number front line k) seen) k)) (seen_own words side number front line own)
    ∙ ap (λ steps. Some (keyed_by_all steps k)) none

module _ (words : Words) (side : Side) (number : ℕ) where
  began_line : (kind : Kind) → IsProcedureLine words side number (Began side number kind)
  began_line kind = let own : IsOwnLine side number (Began side number kind) = record { named = refl; deaf = λ other front. refl; unaccepted = λ front. refl; own = refl; no_turn = refl } in record {
    line_is = own;
    is = λ other. refl;
    drops = λ response slot k due. refl;
    none = refl;
    quiet = λ front. refl;
    still = λ front k is. still_if words side number (Began side number kind) front k own refl refl is;
  }

  done_line : (kind : Kind) → IsProcedureLine words side number (Done side number kind)
  done_line kind = let own : IsOwnLine side number (Done side number kind) = record { named = refl; deaf = λ other front. refl; unaccepted = λ front. refl; own = refl; no_turn = refl } in record {
    line_is = own;
    is = λ other. refl;
    drops = λ response slot k due. refl;
    none = refl;
    quiet = λ front. refl;
    still = λ front k is. still_if words side number (Done side number kind) front k own refl refl is;
  }

  refused_line : (kind : Kind) (code : ErrCode) → IsProcedureLine words side number (Refused side number kind code)
  refused_line kind code = let own : IsOwnLine side number (Refused side number kind code) = record { named = refl; deaf = λ other front. refl; unaccepted = λ front. refl; own = refl; no_turn = refl } in record {
    line_is = own;
    is = λ other. refl;
    drops = λ response slot k due. refl;
    none = refl;
    quiet = λ front. refl;
    still = λ front k is. still_if words side number (Refused side number kind code) front k own refl refl is;
  }

  abbrev pub AreProcedureLines : List Entry → Type 0
  AreProcedureLines lines = AllByRecursion (IsProcedureLine words side number) lines

  pub done_lines : (handle : ℕ) (done : Option Kind) → AreProcedureLines (map (line_of side number) (done_notes handle done))
  done_lines handle None = tt
  done_lines handle (Some kind) = (done_line kind, tt)

  pub entry_lines : (handle : ℕ) (done began : Option Kind) → AreProcedureLines (map (line_of side number) (done_notes handle done ++ began_notes handle began))
  entry_lines handle None None = tt
  entry_lines handle None (Some kind) = (began_line kind, tt)
  entry_lines handle (Some kind) None = (done_line kind, tt)
  entry_lines handle (Some kind) (Some other) = (done_line kind, (began_line other, tt))

  both_lines : (handle : ℕ) (refused : Option (Kind × ErrCode)) (done : Option Kind) → AreProcedureLines (map (line_of side number) (refused_notes handle refused ++ done_notes handle done))
  both_lines handle None None = tt
  both_lines handle None (Some kind) = (done_line kind, tt)
  both_lines handle (Some (kind, code)) None = (refused_line kind code, tt)
  both_lines handle (Some (kind, code)) (Some other) = (refused_line kind code, (done_line other, tt))

  pub given_lines : (handle : ℕ) (given : Taken) → AreProcedureLines (map (line_of side number) (given_notes handle given))
  given_lines handle given = both_lines handle given.refused given.done

  -- those of a PDU that is taken, and of one that was kept
  pub taking_lines : (handle : ℕ) (given : TakenKeyed) → AreProcedureLines (map (line_of side number) (notes_given handle given))
  taking_lines handle given =
      subst AreProcedureLines (sym (map-append (line_of side number) (given_notes handle given.taken) (given_notes handle given.kept)))
      (both_all (map (line_of side number) (given_notes handle given.taken)) (map (line_of side number) (given_notes handle given.kept))
      (given_lines handle given.taken) (given_lines handle given.kept))
    where
      both_all : (lines more : List Entry) → AreProcedureLines lines → AreProcedureLines more → AreProcedureLines (lines ++ more)
      both_all [] more here there = there
      both_all (line ∷ lines) more here there = (here.0, both_all lines more here.1 there)

  -- lines of an end, each of which is due, with the end after them
  pub record AreTold (front lines : List Entry) (k : Keyed) : Type 0 where
    pub each : AreDueLines words side front lines
    pub left : IsDueOn words side number [] (front ++ lines)
    pub keyed_is : keyed_on words side number (front ++ lines) ≡ Some k
    pub turn_is : turn_now (front ++ lines) ≡ turn_now front

  first_due : (same : Bool) (line : Entry) (due : List Entry) → line_if same line ≡ first_of (if same then line ∷ due else [])
  first_due true line due = refl
  first_due false line due = refl

  pub each_told : (front lines : List Entry) (k : Keyed) → AreProcedureLines lines → keyed_on words side number front ≡ Some k → IsDueOn words side number lines front → AreTold front lines k
  each_told front [] k all is on = record {
    each = tt;
    left = subst (λ xs. IsDueOn words side number [] xs) (sym (append-nil front)) on;
    keyed_is = ap (keyed_on words side number) (append-nil front) ∙ is;
    turn_is = ap turn_now (append-nil front);
  }
  each_told front (line ∷ lines) k all is on =
      let one = all.0 in
      let next = front ++ line ∷ [] in
      let joins = append_assoc front (line ∷ []) lines in
      let due = said_due words side number front line k is (seen_own words side number front line one.line_is) ∙ one.drops (words side front) (turn_now front) k (lines_due words side number front)
      ∙ ap (drop 1) (own_due words side number front (line ∷ lines) on) in
      let rest = each_told next lines k all.1 (one.still front k is)
      (after_own words side number front lines line one.line_is (apart_none words side number front (line ∷ lines) on) due one.none) in record {
        each = (
          λ own. record {
            procedures = λ other. one.is other ∙ first_due (number == other) line lines ∙ ap first_of (sym (on.procedures other));
            indication = on.indication ∙ sym (one.quiet front);
          },
          rest.each,
        );
        left = subst (λ xs. IsDueOn words side number [] xs) joins rest.left;
        keyed_is = ap (keyed_on words side number) (sym joins) ∙ rest.keyed_is;
        turn_is = ap turn_now (sym joins) ∙ rest.turn_is ∙ turn_stays front line one.line_is.no_turn;
      }
