-- In a call, what is open by the notes before each of them: a note that names a link is of one that is open there, and a
-- link is opened under a free handle.
use Rattle.std.proofs.Common.{◌≡◌, ℕ, ◌==◌, Bool, true, false, Option, List, [], ◌∷◌, ◌++◌, cond, refl, ap, sym, subst, ◌∙◌}
use Rattle.std.specs.Prelude.{fold, is_some, ⊤}
use Rattle.std.specs.List.{AllByRecursion, Contains}
use Rattle.std.proofs.lemmas.Bool.{eq-eqb}
use Rattle.std.proofs.lemmas.List.Sums.{fold-append}
use Rattle.ble_base.specs.declared.addresses.Address.{Address}
use Rattle.ble_base.specs.declared.notes.Note.{Note}
use Rattle.ble_base.specs.declared.notes.Note.TheVariants.{Up, Opened, Shut, Enter}
use Rattle.ble_base.specs.declared.roles.Role.{Role}
use Rattle.journal_acks.specs.open_links.OpenLinks.{OpenLink}
use Rattle.journal_acks.specs.controller_model.Entering.{begins_turn}
use Rattle.journal_acks.specs.controller_model.Facts.{Setup}
use Rattle.journal_acks.specs.controller_model.Notes.{is_opening}
use Rattle.journal_acks.specs.controller_model.Side.{facts_after, facts_of, notes_after}
use Rattle.journal_acks.specs.controller_model.Step.{Step, HostOctet, TurnBegins, PacketHeard, NothingHeard, TurnEnds}
use Rattle.journal_acks.proofs.controller_model.Entries.{enters_as_turns_begin, enters_at_anchors}
use Rattle.journal_data.proofs.Fronts.{front_all}
use Rattle.journal_data.proofs.NotedLines.{still_open}
use Rattle.journal_data.proofs.Openness.{AreNot, IsNotedAs, stays, shuts, opens_first, IsShutOnce, is_open, is_shut_of, is_shutting, note_open, open_still, staying_open}
use Rattle.journal_data.proofs.StationLines.{each_in}

-- ---- a note among others

pub middle : (P : Note → Type 0) (earlier : List Note) (note : Note) (later : List Note) → AllByRecursion P (earlier ++ note ∷ later) → P note
middle P [] note later all = all.0
middle P (first ∷ earlier) note later all = middle P earlier note later all.1

pub all_back : (P : Note → Type 0) (earlier later : List Note) → AllByRecursion P (earlier ++ later) → AllByRecursion P later
all_back P [] later all = all
all_back P (note ∷ earlier) later all = all_back P earlier later all.1

-- ---- open before a note

was_open : (handle : ℕ) (linked : Bool) (notes : List Note) → AreNot is_opening notes → fold (note_open handle) linked notes ≡ true → linked ≡ true
was_open handle linked [] none on = on
was_open handle linked (note ∷ notes) none on =
    still_open handle linked note none.0 (was_open handle (note_open handle linked note) notes none.1 on)

one_kept : (handle : ℕ) (linked : Bool) (note : Note) → is_shut_of handle note ≡ false → linked ≡ true → note_open handle linked note ≡ true
one_kept handle linked (Opened other role own peer) none on = by (other == handle) on
  where
    by : (same : Bool) → linked ≡ true → cond same true linked ≡ true
    by true on = refl
    by false on = on
one_kept handle linked (Shut other reason) none on = ap (λ (b : Bool). cond b false linked) none ∙ on
one_kept handle linked (Up packet) none on = on
one_kept handle linked note none on = on

kept_open : (handle : ℕ) (linked : Bool) (notes : List Note) → AreNot (is_shut_of handle) notes → linked ≡ true → fold (note_open handle) linked notes ≡ true
kept_open handle linked [] none on = on
kept_open handle linked (note ∷ notes) none on =
    kept_open handle (note_open handle linked note) notes none.1 (one_kept handle linked note none.0 on)

-- before a link is shut for the only time it is not shut
none_before : (handle reason : ℕ) (earlier later : List Note) → IsShutOnce handle (earlier ++ Shut handle (record { 0 = reason }) ∷ later)
    → AreNot (is_shut_of handle) earlier
none_before handle reason [] later once = tt
none_before handle reason (note ∷ earlier) later once = (by (is_shut_of handle note) refl, none_before handle reason earlier later once.1)
  where
    by : (shut : Bool) → is_shut_of handle note ≡ shut → is_shut_of handle note ≡ false
    by true is =
        absurd (let h : true ≡ false =
        sym (eq-eqb handle handle refl)
        ∙ middle (λ one. is_shut_of handle one ≡ false) earlier (Shut handle (record { 0 = reason })) later (once.0 is) in absurd cc)
    by false is = is

pub record SameParts (one other : Note) (ones others : List Note) : Type 0 where
  pub heads : one ≡ other
  pub tails : ones ≡ others

pub parts : (one other : Note) (ones others : List Note) → one ∷ ones ≡ other ∷ others → SameParts one other ones others
parts one other ones others is = record { heads = cc; tails = cc }

module _ (before after : ℕ → Bool) (notes : List Note) where
  -- a link that is open before the call and after it is open before each note
  pub open_mid : IsNotedAs before after notes → (earlier later : List Note) (handle : ℕ) → notes ≡ earlier ++ later → before handle ≡ true → after handle ≡ true
      → fold (note_open handle) (before handle) earlier ≡ true
  open_mid (stays none shut same) earlier later handle are on then =
      open_still handle (before handle) earlier (front_all _ earlier later (subst (AreNot is_opening) are none))
      (front_all _ earlier later (subst (AreNot is_shutting) are shut)) ∙ on
  open_mid (shuts none opens once) earlier later handle are on then =
      was_open handle (fold (note_open handle) (before handle) earlier) later (all_back _ earlier later (subst (AreNot is_opening) are none))
      (sym (fold-append (note_open handle) (before handle) earlier later) ∙ ap (fold (note_open handle) (before handle)) (sym are) ∙ opens handle ∙ then)
  open_mid (opens_first other role own peer rest is none shut reports free now opens) earlier later handle are on then =
      by handle on rest none shut earlier (sym is ∙ are)
    where
      by : (handle : ℕ) → before handle ≡ true → (rest : List Note) → AreNot is_opening rest → AreNot is_shutting rest → (earlier : List Note)
          → Opened other role own peer ∷ rest ≡ earlier ++ later → fold (note_open handle) (before handle) earlier ≡ true
      by handle on rest none shut [] is = on
      by handle on rest none shut (first ∷ earlier) is =
          let same = parts (Opened other role own peer) first rest (earlier ++ later) is in
          subst (λ (note : Note). fold (note_open handle) (note_open handle (before handle) note) earlier ≡ true) same.heads
          (open_still handle (note_open handle (before handle) (Opened other role own peer)) earlier
          (front_all _ earlier later (subst (AreNot is_opening) same.tails none)) (front_all _ earlier later (subst (AreNot is_shutting) same.tails shut))
          ∙ one_kept handle (before handle) (Opened other role own peer) refl on)

  -- a link that is shut is open just before
  pub shut_mid : IsNotedAs before after notes → (earlier later : List Note) (handle reason : ℕ) → notes ≡ earlier ++ Shut handle (record { 0 = reason }) ∷ later
      → before handle ≡ true → fold (note_open handle) (before handle) earlier ≡ true
  shut_mid (stays none shut same) earlier later handle reason are on =
      absurd (let h : true ≡ false =
      middle (λ note. is_shutting note ≡ false) earlier (Shut handle (record { 0 = reason })) later (subst (AreNot is_shutting) are shut) in absurd cc)
  shut_mid (shuts none opens once) earlier later handle reason are on =
      kept_open handle (before handle) earlier (none_before handle reason earlier later (subst (IsShutOnce handle) are (once handle))) on
  shut_mid (opens_first other role own peer rest is none shut reports free now opens) earlier later handle reason are on =
      by handle reason rest shut earlier (sym is ∙ are)
    where
      by : (handle reason : ℕ) (rest : List Note) → AreNot is_shutting rest → (earlier : List Note)
          → Opened other role own peer ∷ rest ≡ earlier ++ Shut handle (record { 0 = reason }) ∷ later → fold (note_open handle) (before handle) earlier ≡ true
      by handle reason rest shut [] is =
          absurd (let h : true ≡ false = ap is_opening (parts (Opened other role own peer) (Shut handle (record { 0 = reason })) rest later is).heads in absurd cc)
      by handle reason rest shut (first ∷ earlier) is =
          absurd (let h : true ≡ false =
          middle (λ note. is_shutting note ≡ false) earlier (Shut handle (record { 0 = reason })) later
          (subst (AreNot is_shutting) (parts (Opened other role own peer) first rest (earlier ++ Shut handle (record { 0 = reason }) ∷ later) is).tails shut) in absurd cc)

  -- a link is opened first, under a free handle
  pub record IsOpenedFirst (earlier later : List Note) (handle : ℕ) : Type 0 where
    pub is_first : earlier ≡ []
    pub none : AreNot is_opening later
    pub shut : AreNot is_shutting later
    pub free : before handle ≡ false
    pub now : after handle ≡ true
    pub others : (other : ℕ) → (handle == other) ≡ false → after other ≡ before other

  pub opened_mid : IsNotedAs before after notes → (earlier later : List Note) (handle : ℕ) (role : Role) (own peer : Address)
      → notes ≡ earlier ++ Opened handle role own peer ∷ later → IsOpenedFirst earlier later handle
  opened_mid (stays none shut same) earlier later handle role own peer are =
      absurd (let h : true ≡ false =
      middle (λ note. is_opening note ≡ false) earlier (Opened handle role own peer) later (subst (AreNot is_opening) are none) in absurd cc)
  opened_mid (shuts none opens once) earlier later handle role own peer are =
      absurd (let h : true ≡ false =
      middle (λ note. is_opening note ≡ false) earlier (Opened handle role own peer) later (subst (AreNot is_opening) are none) in absurd cc)
  opened_mid (opens_first other its_role its_own its_peer rest is none shut reports free now opens) earlier later handle role own peer are =
      by handle role own peer rest none shut earlier free now (sym is ∙ are)
    where
      by : (handle : ℕ) (role : Role) (own peer : Address) (rest : List Note) → AreNot is_opening rest → AreNot is_shutting rest → (earlier : List Note) → before other ≡ false → after other ≡ true
          → Opened other its_role its_own its_peer ∷ rest ≡ earlier ++ Opened handle role own peer ∷ later → IsOpenedFirst earlier later handle
      by handle role own peer rest none shut [] free now is =
          let same : other ≡ handle = cc in
          let tails : rest ≡ later = cc in record {
            is_first = refl;
            none = subst (AreNot is_opening) tails none;
            shut = subst (AreNot is_shutting) tails shut;
            free = subst (λ n. before n ≡ false) same free;
            now = subst (λ n. after n ≡ true) same now;
            others = subst (λ n. (one : ℕ) → (n == one) ≡ false → after one ≡ before one) same opens;
          }
      by handle role own peer rest none shut (first ∷ earlier) free now is =
          absurd (let h : true ≡ false =
          middle (λ note. is_opening note ≡ false) earlier (Opened handle role own peer) later
          (subst (AreNot is_opening) (parts (Opened other its_role its_own its_peer) first rest (earlier ++ Opened handle role own peer ∷ later) is).tails none) in absurd cc)

-- ---- events that are entered

abbrev pub IsOfStaying : (ℕ → Bool) → (ℕ → Bool) → Note → Type 0
IsOfStaying before after (Enter handle event channel) = (before handle ≡ true) × (after handle ≡ true)
IsOfStaying before after note = ⊤

module _ (setup : Setup) (past : List Step) where
  abbrev IsOfStayingIn : Step → Note → Type 0
  IsOfStayingIn step = IsOfStaying (is_open (facts_of setup past).links) (is_open (facts_after setup (facts_of setup past) step).links)

  entered_by : (step : Step) (handle event channel : ℕ) → begins_turn step ≡ true → Contains (notes_after setup (facts_of setup past) step) (Enter handle (record { 0 = event }) channel)
      → IsOfStayingIn step (Enter handle (record { 0 = event }) channel)
  entered_by (TurnBegins slot on) handle event channel begins inside =
      let entered = (enters_at_anchors setup past slot on handle event channel).0 inside in (
        ap (λ (place : Option OpenLink). is_some place) entered.is_open,
        staying_open setup (facts_of setup past) slot on handle entered.link entered.is_open entered.stays,
      )
  entered_by (HostOctet octet) handle event channel begins inside = absurd cc
  entered_by (PacketHeard octets) handle event channel begins inside = absurd cc
  entered_by NothingHeard handle event channel begins inside = absurd cc
  entered_by TurnEnds handle event channel begins inside = absurd cc

  pub of_staying : (step : Step) → AllByRecursion (IsOfStayingIn step) (notes_after setup (facts_of setup past) step)
  of_staying step = each_in (IsOfStayingIn step) (notes_after setup (facts_of setup past) step) by
    where
      by : (note : Note) → Contains (notes_after setup (facts_of setup past) step) note → IsOfStayingIn step note
      by (Enter handle event channel) inside =
          entered_by step handle event.0 channel (enters_as_turns_begin setup past step handle event.0 channel inside) inside
      by (Up packet) inside = tt
      by note inside = tt
