-- Each entry of a journal is of an event.
use Rattle.std.proofs.Common.{◌≡◌, ℕ, ◌&&◌, ◌⊎◌, Bool, true, false, not, List, [], ◌∷◌, ◌++◌, inl, inr, refl, sym, ap, subst, ◌∙◌}
use Rattle.std.specs.Prelude.{fold, Option, Some, None, if◌then◌else◌}
use Rattle.std.specs.Str.{bytes_eq}
use Rattle.std.proofs.lemmas.Slice.Eq.{bytes_eq-Decides}
use Rattle.ble_base.specs.declared.roles.Side.{Side}
use Rattle.ble_base.specs.declared.notes.Note.{Note}
use Rattle.ble_base.specs.declared.notes.Note.TheVariants.{Up as UpNote}
use Rattle.ble_base.specs.declared.verdicts.Verdict.{Verdict}
use Rattle.ble_base.specs.declared.verdicts.Verdict.TheVariants.{Good}
use Rattle.journal.specs.declared.entries.Entry.{Entry}
use Rattle.journal.specs.declared.entries.Entry.TheVariants.{Turn, Fed, Air}
use Rattle.journal.specs.declared.entries.Mark.{Mark}
use Rattle.radio_replay.specs.Damage.{damaged_packet}
use Rattle.run_model.specs.History.{Event, TurnBegan, HostFed, Called, Noted, Transmitted, Hearing, is_good}
use Rattle.run_model.specs.Links.{Links, first_links, links_after, links_of}
use Rattle.run_model.specs.Journal.{side_of, entry_of, air_entries, radio_in, entries_of, journal_from, journal_of, mark_of}
use Rattle.controller_model.specs.Facts.{Sends}
use Rattle.run_model.specs.Run.{Given, unseen_in, hearings_of, run_of, history_of}
use Rattle.run_model.specs.Due.{IsDue}
use Rattle.run_model.specs.Entries.{IsAired, IsOfEvent}
use Rattle.run_model.proofs.Places.{each_at}
use Rattle.run_model.proofs.Dues.{run_due}

-- ---- the event of an entry

record Found (links : Links) (history : List Event) (front : List Entry) (entry : Entry) : Type 0 where
  pub before : List Event
  pub event : Event
  pub after : List Event
  pub is_at : history ≡ before ++ event ∷ after
  pub front_is : front ≡ journal_from links before
  pub entry_is : entries_of (fold links_after links before) event ≡ entry ∷ []

abbrev HasOne : List Entry → Type 0
HasOne entries = (entries ≡ []) ⊎ ((entry : Entry) × (entries ≡ entry ∷ []))

one_air : (side : Side) (channel : ℕ) (octets : List ℕ) (hearings : List Hearing) → HasOne (air_entries side channel octets hearings)
one_air side channel octets [] = inl refl
one_air side channel octets (hearing ∷ hearings) = inr (Air side channel octets (mark_of hearing.fate) hearing.verdict, refl)

has_one : (links : Links) (event : Event) → HasOne (entries_of links event)
has_one links (TurnBegan slot radios) = inr (Turn slot (radio_in 0 radios) (Some (radio_in 1 radios)), refl)
has_one links (HostFed station octets) = inr (Fed (side_of station) octets, refl)
has_one links (Called station step) = inl refl
has_one links (Noted station note) = inr (entry_of (side_of station) (links.link_of station) (links.last_of station) note, refl)
has_one links (Transmitted station channel octets hearings) = one_air (side_of station) channel octets hearings

later : (links : Links) (event : Event) (history : List Event) (front : List Entry) (entry : Entry) → Found (links_after links event) history front entry
    → Found links (event ∷ history) (entries_of links event ++ front) entry
later links event history front entry found = record {
  before = event ∷ found.before;
  event = found.event;
  after = found.after;
  is_at = ap (λ xs. event ∷ xs) found.is_at;
  front_is = ap (λ xs. entries_of links event ++ xs) found.front_is;
  entry_is = found.entry_is;
}

found_by : (links : Links) (event : Event) (history : List Event) (entries : List Entry) → entries_of links event ≡ entries → HasOne entries
    → ((front rest : List Entry) (entry : Entry) → journal_from (links_after links event) history ≡ front ++ entry ∷ rest → Found (links_after links event) history front entry)
    → (front rest : List Entry) (entry : Entry) → entries ++ journal_from (links_after links event) history ≡ front ++ entry ∷ rest → Found links (event ∷ history) front entry
found_by links event history entries are (inl none) further front rest entry is =
    subst (λ xs. Found links (event ∷ history) (xs ++ front) entry) (are ∙ none)
    (later links event history front entry (further front rest entry (subst (λ xs. xs ++ journal_from (links_after links event) history ≡ front ++ entry ∷ rest) none is)))
found_by links event history entries are (inr one) further [] rest entry is =
    let whole : one.0 ∷ journal_from (links_after links event) history ≡ entry ∷ rest =
    subst (λ xs. xs ++ journal_from (links_after links event) history ≡ entry ∷ rest) one.1 is in
    let same : one.0 ≡ entry = cc in record {
      before = [];
      event = event;
      after = history;
      is_at = refl;
      front_is = refl;
      entry_is = are ∙ one.1 ∙ ap (λ e. e ∷ []) same;
    }
found_by links event history entries are (inr one) further (first ∷ front) rest entry is =
    let whole : one.0 ∷ journal_from (links_after links event) history ≡ first ∷ (front ++ entry ∷ rest) =
    subst (λ xs. xs ++ journal_from (links_after links event) history ≡ first ∷ (front ++ entry ∷ rest)) one.1 is in
    let same : one.0 ≡ first = cc in
    let others : journal_from (links_after links event) history ≡ front ++ entry ∷ rest = cc in
    subst (λ xs. Found links (event ∷ history) (xs ++ front) entry) (are ∙ one.1 ∙ ap (λ e. e ∷ []) same)
    (later links event history front entry (further front rest entry others))

find_event : (links : Links) (history : List Event) (front rest : List Entry) (entry : Entry) → journal_from links history ≡ front ++ entry ∷ rest → Found links history front entry
find_event links [] [] rest entry is = absurd cc
find_event links [] (first ∷ front) rest entry is = absurd cc
find_event links (event ∷ history) front rest entry is =
    found_by links event history (entries_of links event) refl (has_one links event) (find_event (links_after links event) history) front rest entry is

pub is_of_event : (history : List Event) (front rest : List Entry) (entry : Entry) → journal_of history ≡ front ++ entry ∷ rest → IsOfEvent history front entry
unfolding journal_of links_of
is_of_event history front rest entry is =
    let one = find_event first_links history front rest entry is in record {
      before = one.before;
      event = one.event;
      after = one.after;
      is_at = one.is_at;
      front_is = one.front_is;
      entry_is = one.entry_is;
    }

-- ---- a packet on the air

-- what is not unseen and judged good was not changed
unchanged_by : (octets heard : List ℕ) (good : Bool) (rest : Option (List ℕ)) → (if good && not (bytes_eq heard octets) then Some heard else rest) ≡ None → good ≡ true → heard ≡ octets
unchanged_by octets heard good rest seen is = (bytes_eq-Decides heard octets).0 (same good (bytes_eq heard octets) rest seen is)
  where
    same : (b e : Bool) (other : Option (List ℕ)) → (if b && not e then Some heard else other) ≡ None → b ≡ true → e ≡ true
    same true true other none holds = refl
    same true false other none holds = absurd cc
    same false true other none holds = refl
    same false false other none holds = absurd cc

good_verdict : (verdict : Verdict) → verdict ≡ Good → is_good verdict ≡ true
good_verdict verdict is = ap is_good is

pub turn_not_air : (slot : ℕ) (radios : List Bool) (side : Side) (channel : ℕ) (octets : List ℕ) (fate : Mark) (verdict : Verdict) (X : Type 0)
    → Turn slot (radio_in 0 radios) (Some (radio_in 1 radios)) ∷ [] ≡ Air side channel octets fate verdict ∷ [] → X
turn_not_air slot radios side channel octets fate verdict X is = absurd cc

pub note_not_air : (own : Side) (link : ℕ → ℕ) (last : ℕ) (note : Note) (side : Side) (channel : ℕ) (octets : List ℕ) (fate : Mark) (verdict : Verdict) (X : Type 0)
    → entry_of own link last note ∷ [] ≡ Air side channel octets fate verdict ∷ [] → X
note_not_air own link last (UpNote packet) side channel octets fate verdict X is = absurd cc
note_not_air own link last note side channel octets fate verdict X is = absurd cc

aired_by : (given : Given) (links : Links) (before after : List Event) (event : Event) (front : List Entry) (side : Side) (channel : ℕ) (octets : List ℕ) (fate : Mark) (verdict : Verdict)
    → history_of (run_of given) ≡ before ++ event ∷ after → front ≡ journal_of before → IsDue given before event → entries_of links event ≡ Air side channel octets fate verdict ∷ []
    → IsAired given front side channel octets fate verdict
aired_by given links before after (TurnBegan slot radios) front side channel octets fate verdict at are due is = turn_not_air slot radios side channel octets fate verdict _ is
aired_by given links before after (HostFed station sent) front side channel octets fate verdict at are due is = absurd cc
aired_by given links before after (Called station step) front side channel octets fate verdict at are due is = absurd cc
aired_by given links before after (Noted station note) front side channel octets fate verdict at are due is =
    note_not_air (side_of station) (links.link_of station) (links.last_of station) note side channel octets fate verdict _ is
aired_by given links before after (Transmitted station on sent []) front side channel octets fate verdict at are due is = absurd cc
aired_by given links before after (Transmitted station on sent (hearing ∷ others)) front side channel octets fate verdict at are due is =
    let same : Air (side_of station) on sent (mark_of hearing.fate) hearing.verdict ≡ Air side channel octets fate verdict = cc in
    let same_side : side_of station ≡ side = cc in
    let same_channel : on ≡ channel = cc in
    let same_octets : sent ≡ octets = cc in
    let same_fate : mark_of hearing.fate ≡ fate = cc in
    let same_verdict : hearing.verdict ≡ verdict = cc in record {
      before = before;
      front_is = are;
      station = station;
      side_is = sym same_side;
      hearing = hearing;
      others = others;
      after = after;
      is_at = at ∙ ap (λ n. before ++ Transmitted station n sent (hearing ∷ others) ∷ after) same_channel
          ∙ ap (λ xs. before ++ Transmitted station channel xs (hearing ∷ others) ∷ after) same_octets;
      is_due = record {
        plan = due.plan;
        is_now = due.is_now;
        is_wanted = due.is_wanted ∙ ap (λ n. Sends n sent) same_channel ∙ ap (λ xs. Sends channel xs) same_octets;
        hearings_are = due.hearings_are ∙ ap (λ n. hearings_of given due.plan.fates station n sent before) same_channel
            ∙ ap (λ xs. hearings_of given due.plan.fates station channel xs before) same_octets;
        is_seen = ap (λ xs. unseen_in xs (hearing ∷ others)) (sym same_octets) ∙ due.is_seen;
      };
      fate_is = sym same_fate;
      verdict_is = sym same_verdict;
      unchanged = λ good. subst (λ xs. damaged_packet hearing.fate xs ≡ xs) same_octets
          (unchanged_by sent (damaged_packet hearing.fate sent) (is_good hearing.verdict) (unseen_in sent others) due.is_seen
          (good_verdict hearing.verdict (same_verdict ∙ good)));
    }

pub is_aired : (given : Given) (front rest : List Entry) (side : Side) (channel : ℕ) (octets : List ℕ) (fate : Mark) (verdict : Verdict)
    → journal_of (history_of (run_of given)) ≡ front ++ Air side channel octets fate verdict ∷ rest → IsAired given front side channel octets fate verdict
is_aired given front rest side channel octets fate verdict is =
    let one = is_of_event (history_of (run_of given)) front rest (Air side channel octets fate verdict) is in
    aired_by given (links_of one.before) one.before one.after one.event front side channel octets fate verdict one.is_at one.front_is
    (each_at (IsDue given) (history_of (run_of given)) one.before one.after one.event (run_due given).each one.is_at) one.entry_is
