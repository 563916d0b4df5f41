-- A side skips the events that it skips by what it heard and by the latency in force.
use Rattle.std.proofs.Common.{◌≡◌, ℕ, ◌==◌, ◌&&◌, ◌||◌, not, Bool, true, false, Option, Some, None, List, [], ◌∷◌, ◌++◌, refl, sym, ap, subst, ◌∙◌, append-nil, append_assoc, if◌then◌else◌}
use Rattle.std.specs.List.{flat_map}
use Rattle.std.proofs.lemmas.Bool.{eqb-true}
use Rattle.std.proofs.lemmas.Grind.{flat_map-append}
use Rattle.ble_base.specs.declared.roles.Role.{Role}
use Rattle.ble_base.specs.declared.roles.Role.TheVariants.{Central, Peripheral}
use Rattle.ble_base.specs.declared.roles.Side.{Side}
use Rattle.ble_base.specs.declared.verdicts.Verdict.{Verdict}
use Rattle.journal.specs.declared.entries.Entry.{Entry}
use Rattle.journal.specs.declared.entries.Entry.TheVariants.{Air, Enter, Opened}
use Rattle.journal.specs.declared.entries.Mark.{Mark}
use Rattle.journal_events.specs.EventLines.{EventLines, changed_if, event_after, event_entering, event_on, event_passing, lengths_differ, no_event_lines}
use Rattle.journal_events.specs.Skips.{is_idle_on, is_recent, is_skipped, skips_by, skips_with}
use Rattle.journal_events.specs.journal_leaving.journal_acks.Shut.{is_of_link}
use Rattle.journal_events.specs.journal_leaving.journal_controls.LineSteps.{keyed_in_line, keyed_on, turn_now}
use Rattle.journal_events.specs.journal_leaving.journal_controls.journal_ends.Asked.{Words}
use Rattle.journal_events.specs.journal_leaving.journal_links.Begun.{LinkBegun, link_numbered}
use Rattle.journal_events.specs.journal_leaving.journal_links.Changes.{role_on}
use Rattle.journal_events.specs.journal_leaving.journal_packets.Belonging.{is_side}
use Rattle.journal_events.specs.journal_leaving.link_model.keyed_control.Keyed.{Keyed}
use Rattle.journal_events.specs.journal_leaving.run_model.History.{is_good}
use Rattle.journal_events.specs.journal_slots.SecondSlot.{has_more}
use Rattle.journal_events.proofs.LineFolds.{event_more}
use Rattle.journal_events.proofs.journal_leaving.journal_controls.LineFolds.{keyed_more}
use Rattle.journal_events.proofs.journal_leaving.journal_links.LinksBegun.{number_stays}
use Rattle.journal_rules.specs.Since.{is_own, opens_at, since}
use Rattle.journal_rules.specs.Skipping.{AllHaveLatency, AllSkipInWords, HasLatency, event_in, events_entered, events_heard, heard_after, heard_from, hears_at, last_event, last_heard, last_number, latency_in, skips_after, skips_in_words}
use Rattle.journal_rules.proofs.LinesSeal.{none_stays, one_side, own_is}
use Rattle.journal_rules.proofs.SinceLines.{since_more}

-- ---- the words, with a line more

number_more : (events : List ℕ) (event : ℕ) → last_number (events ++ event ∷ []) ≡ event
number_more [] event = refl
number_more (one ∷ []) event = refl
number_more (one ∷ next ∷ events) event = number_more (next ∷ events) event

last_more : (events : List ℕ) (event : ℕ) → last_heard (events ++ event ∷ []) ≡ Some event
last_more [] event = refl
last_more (one ∷ events) event = ap Some (number_more (one ∷ events) event)

module _ (side : Side) (number : ℕ) where
  from_more : (front : List Entry) (heard : List ℕ) (lines : List Entry) (line : Entry)
      → heard_from side number front heard (lines ++ line ∷ []) ≡ heard_after side number (front ++ lines) (heard_from side number front heard lines) line
  from_more front heard [] line = ap (λ xs. heard_after side number xs heard line) (sym (append-nil front))
  from_more front heard (first ∷ lines) line =
      from_more (front ++ first ∷ []) (heard_after side number front heard first) lines line
      ∙ ap (λ xs. heard_after side number xs (heard_from side number (front ++ first ∷ []) (heard_after side number front heard first) lines) line)
      (append_assoc front (first ∷ []) lines)

  heard_more : (front : List Entry) (line : Entry) → events_heard side number (front ++ line ∷ []) ≡ heard_after side number front (events_heard side number front) line
  unfolding events_heard
  heard_more front line = from_more [] [] front line

  entered_more : (front : List Entry) (line : Entry)
      → events_entered side number (front ++ line ∷ []) ≡ (if opens_at side number line then [] else events_entered side number front ++ event_in side number line)
  entered_more front line =
      ap (flat_map (event_in side number)) (since_more (opens_at side number) front line) ∙ by (opens_at side number line)
    where
      by : (opens : Bool) → flat_map (event_in side number) (if opens then [] else since (opens_at side number) front ++ line ∷ [])
          ≡ (if opens then [] else events_entered side number front ++ event_in side number line)
      by true = refl
      by false =
          flat_map-append (event_in side number) (since (opens_at side number) front) (line ∷ [])
          ∙ ap (λ more. events_entered side number front ++ more) (append-nil (event_in side number line))

-- ---- the event by lines, with a line more

-- it has these numbers
record HasNumbers (event : EventLines) (number : ℕ) (heard : Option ℕ) : Type 0 where
  number_is : event.number ≡ number
  heard_is : event.last_heard ≡ heard

abbrev AreWords : Words → Side → ℕ → List Entry → Type 0
AreWords words side number front = HasNumbers (event_on words side number front) (last_event side number front) (last_heard (events_heard side number front))

module _ (words : Words) (side : Side) (number : ℕ) (front : List Entry) where
  -- a line that opens the link
  opened_words : (line : Entry) → opens_at side number line ≡ true → event_after words side number front (event_on words side number front) line ≡ no_event_lines
      → AreWords words side number (front ++ line ∷ [])
  opened_words line opens is = record {
    number_is = ap (λ (e : EventLines). e.number) (event_more words side number front line ∙ is)
        ∙ sym (ap last_number (entered_more side number front line ∙ ap (λ b. if b then [] else events_entered side number front ++ event_in side number line) opens));
    heard_is = ap (λ (e : EventLines). e.last_heard) (event_more words side number front line ∙ is)
        ∙ sym (ap last_heard (heard_more side number front line
        ∙ ap (λ (b : Bool). if b then [] else events_heard side number front ++ (if hears_at side number front line then last_event side number front ∷ [] else [])) opens));
  }

  -- one that enters no event, and in which nothing is heard
  still_words : (line : Entry) → opens_at side number line ≡ false → event_in side number line ≡ [] → hears_at side number front line ≡ false
      → HasNumbers (event_after words side number front (event_on words side number front) line) (event_on words side number front).number (event_on words side number front).last_heard
      → AreWords words side number front → AreWords words side number (front ++ line ∷ [])
  still_words line none enters deaf same are = record {
    number_is = ap (λ (e : EventLines). e.number) (event_more words side number front line) ∙ same.number_is ∙ are.number_is
        ∙ sym (ap last_number (entered_more side number front line ∙ ap (λ b. if b then [] else events_entered side number front ++ event_in side number line) none
        ∙ ap (λ xs. events_entered side number front ++ xs) enters ∙ append-nil (events_entered side number front)));
    heard_is = ap (λ (e : EventLines). e.last_heard) (event_more words side number front line) ∙ same.heard_is ∙ are.heard_is
        ∙ sym (ap last_heard (heard_more side number front line
        ∙ ap (λ (b : Bool). if b then [] else events_heard side number front ++ (if hears_at side number front line then last_event side number front ∷ [] else [])) none
        ∙ ap (λ (b : Bool). events_heard side number front ++ (if b then last_event side number front ∷ [] else [])) deaf ∙ append-nil (events_heard side number front)));
  }

  -- one in which a good packet is heard
  hearing_words : (line : Entry) → opens_at side number line ≡ false → event_in side number line ≡ [] → hears_at side number front line ≡ true
      → HasNumbers (event_after words side number front (event_on words side number front) line) (event_on words side number front).number (Some (event_on words side number front).number)
      → AreWords words side number front → AreWords words side number (front ++ line ∷ [])
  hearing_words line none enters hears same are = record {
    number_is = ap (λ (e : EventLines). e.number) (event_more words side number front line) ∙ same.number_is ∙ are.number_is
        ∙ sym (ap last_number (entered_more side number front line ∙ ap (λ b. if b then [] else events_entered side number front ++ event_in side number line) none
        ∙ ap (λ xs. events_entered side number front ++ xs) enters ∙ append-nil (events_entered side number front)));
    heard_is = ap (λ (e : EventLines). e.last_heard) (event_more words side number front line) ∙ same.heard_is ∙ ap Some are.number_is
        ∙ sym (ap last_heard (heard_more side number front line
        ∙ ap (λ (b : Bool). if b then [] else events_heard side number front ++ (if hears_at side number front line then last_event side number front ∷ [] else [])) none
        ∙ ap (λ (b : Bool). events_heard side number front ++ (if b then last_event side number front ∷ [] else [])) hears)
        ∙ last_more (events_heard side number front) (last_event side number front));
  }

  -- one that says that an event is entered
  entered_after : (event channel : ℕ) (k next : Keyed) → keyed_on words side number front ≡ Some k
      → keyed_on words side number (front ++ Enter side number event channel ∷ []) ≡ Some next
      → event_on words side number (front ++ Enter side number event channel ∷ []) ≡ event_entering (turn_now front) event (Some k) (Some next) (event_on words side number front)
  entered_after event channel k next before after =
      event_more words side number front (Enter side number event channel)
      ∙ ap (λ (b : Bool). if b then event_entering (turn_now front) event (keyed_on words side number front) (keyed_on words side number (front ++ Enter side number event channel ∷ [])) (event_on words side number front)
      else event_on words side number front) (own_is words side number front)
      ∙ (λ i. event_entering (turn_now front) event (before i) (after i) (event_on words side number front))

  entering_words : (event channel : ℕ) (k next : Keyed) → keyed_on words side number front ≡ Some k
      → keyed_on words side number (front ++ Enter side number event channel ∷ []) ≡ Some next → AreWords words side number front
      → AreWords words side number (front ++ Enter side number event channel ∷ [])
  entering_words event channel k next before after are =
      let line = Enter side number event channel in
      let entering = entered_after event channel k next before after in record {
        number_is = ap (λ (e : EventLines). e.number) entering
            ∙ sym (ap last_number (entered_more side number front line ∙ ap (λ (b : Bool). events_entered side number front ++ (if b then event ∷ [] else [])) (own_is words side number front))
            ∙ number_more (events_entered side number front) event);
        heard_is = ap (λ (e : EventLines). e.last_heard) entering ∙ are.heard_is
            ∙ sym (ap last_heard (heard_more side number front line ∙ append-nil (events_heard side number front)));
      }

  -- a packet
  passing : (of own good differ more : Bool) (slot : ℕ) (before : EventLines)
      → HasNumbers (changed_if differ (if of then event_passing slot own good more before else before)) before.number
      (if of && (not own && good) then Some before.number else before.last_heard)
  passing false own good differ more slot before = record { number_is = refl; heard_is = refl }
  passing true true good differ more slot before = record { number_is = refl; heard_is = refl }
  passing true false true differ more slot before = record { number_is = refl; heard_is = refl }
  passing true false false differ more slot before = record { number_is = refl; heard_is = refl }

  air_words : (sender : Side) (channel : ℕ) (octets : List ℕ) (fate : Mark) (verdict : Verdict) → AreWords words side number front
      → AreWords words side number (front ++ Air sender channel octets fate verdict ∷ [])
  air_words sender channel octets fate verdict are = by (hears_at side number front line) refl
    where
      line : Entry
      line = Air sender channel octets fate verdict

      event : EventLines
      event = event_on words side number front

      passes : HasNumbers (event_after words side number front event line) event.number (if hears_at side number front line then Some event.number else event.last_heard)
      passes =
          passing (is_of_link number front sender channel octets) (is_side sender side) (is_good verdict)
          (lengths_differ (keyed_on words side number front) (keyed_on words side number (front ++ line ∷ []))) (has_more channel octets) (turn_now front) event

      by : (hears : Bool) → hears_at side number front line ≡ hears → AreWords words side number (front ++ line ∷ [])
      by true hears =
          hearing_words line refl refl hears
          (record { number_is = passes.number_is; heard_is = passes.heard_is ∙ ap (λ (b : Bool). if b then Some event.number else event.last_heard) hears }) are
      by false deaf =
          still_words line refl refl deaf
          (record { number_is = passes.number_is; heard_is = passes.heard_is ∙ ap (λ (b : Bool). if b then Some event.number else event.last_heard) deaf }) are

  same_numbers : (event : EventLines) → HasNumbers event event.number event.last_heard
  same_numbers event = record { number_is = refl; heard_is = refl }

  opens_anew : (line : Entry) → opens_at side number line ≡ true → event_after words side number front (event_on words side number front) line ≡ no_event_lines
  opens_anew (Opened other link handle role) opens = ap (λ (b : Bool). if b then no_event_lines else event_on words side number front) opens
  opens_anew line opens = absurd cc

  any_words : (line : Entry) (k next : Keyed) → keyed_on words side number front ≡ Some k → keyed_on words side number (front ++ line ∷ []) ≡ Some next
      → opens_at side number line ≡ false → AreWords words side number front → AreWords words side number (front ++ line ∷ [])
  any_words (Opened other link handle role) k next before after none are =
      still_words (Opened other link handle role) none refl refl
      (subst (λ (e : EventLines). HasNumbers e (event_on words side number front).number (event_on words side number front).last_heard)
      (sym (ap (λ (b : Bool). if b then no_event_lines else event_on words side number front) none)) (same_numbers (event_on words side number front))) are
  any_words (Enter other link event channel) k next before after none are = by (is_own side number other link) refl
    where
      line : Entry
      line = Enter other link event channel

      by : (own : Bool) → is_own side number other link ≡ own → AreWords words side number (front ++ line ∷ [])
      by true own =
          let same = one_side side other (link == number) own in
          let is : line ≡ Enter side number event channel = (λ i. Enter (same.0 i) (eqb-true link number same.1 i) event channel) in
          subst (λ (l : Entry). AreWords words side number (front ++ l ∷ [])) (sym is)
          (entering_words event channel k next before (ap (λ l. keyed_on words side number (front ++ l ∷ [])) (sym is) ∙ after) are)
      by false own =
          still_words line refl (ap (λ (b : Bool). if b then event ∷ [] else []) own) refl
          (subst (λ (e : EventLines). HasNumbers e (event_on words side number front).number (event_on words side number front).last_heard)
          (sym (ap (λ (b : Bool). if b then event_entering (turn_now front) event (keyed_on words side number front) (keyed_on words side number (front ++ line ∷ [])) (event_on words side number front)
          else event_on words side number front) own)) (same_numbers (event_on words side number front))) are
  any_words (Air sender channel octets fate verdict) k next before after none are = air_words sender channel octets fate verdict are
  any_words line k next before after none are = still_words line refl refl refl (record { number_is = refl; heard_is = refl }) are

-- ---- all lines

module _ (words : Words) (side : Side) (number : ℕ) where
  -- where the end of the side is open
  abbrev AreWordsAt : List Entry → Type 0
  AreWordsAt front = (k : Keyed) → keyed_on words side number front ≡ Some k → AreWords words side number front

  line_words : (front : List Entry) (line : Entry) → AreWordsAt front → AreWordsAt (front ++ line ∷ [])
  line_words front line here next after = by (opens_at side number line) refl
    where
      going : (found : Option Keyed) → keyed_on words side number front ≡ found → opens_at side number line ≡ false → AreWords words side number (front ++ line ∷ [])
      going None none closed =
          absurd (let h : None ≡ Some next = sym (none_stays words side number front line closed)
          ∙ ap (λ found. keyed_in_line words side number front found line) (sym none) ∙ sym (keyed_more words side number front line) ∙ after in cc)
      going (Some k) found closed = any_words words side number front line k next found after closed (here k found)

      by : (opens : Bool) → opens_at side number line ≡ opens → AreWords words side number (front ++ line ∷ [])
      by true opens = opened_words words side number front line opens (opens_anew words side number front line opens)
      by false closed = going (keyed_on words side number front) refl closed

  all_words : (front rest : List Entry) → AreWordsAt front → AreWordsAt (front ++ rest)
  all_words front [] here = subst AreWordsAt (sym (append-nil front)) here
  all_words front (line ∷ rest) here =
      subst AreWordsAt (append_assoc front (line ∷ []) rest) (all_words (front ++ line ∷ []) rest (line_words front line here))

  nothing_on : keyed_on words side number [] ≡ None
  unfolding keyed_on
  nothing_on = refl

  words_here : (front : List Entry) → AreWordsAt front
  words_here front = all_words [] front (λ k found. absurd (let h : None ≡ Some k = sym nothing_on ∙ found in cc))

-- ---- an event that is skipped

skipped_by : (role : Role) (e : EventLines) (heard : Option ℕ) (event latency : ℕ) (idle : Bool) → e.last_heard ≡ heard → e.number ≡ event → e.latency ≡ latency
    → skips_by role e idle ≡ skips_after role heard event latency idle
skipped_by Central e heard event latency idle heard_is number_is latency_is = refl
skipped_by Peripheral e heard event latency idle heard_is number_is latency_is =
    (λ i. is_recent (heard_is i) (number_is i) (latency_is i) && idle) ∙ by heard
  where
    by : (heard : Option ℕ) → (is_recent heard event latency && idle) ≡ skips_after Peripheral heard event latency idle
    by None = refl
    by (Some last) = refl

module _ (words : Words) (front : List Entry) (side : Side) (number event channel : ℕ) (link : LinkBegun) (is_link : link_numbered number front ≡ Some link)
    (has : HasLatency words front side number event channel link) where
  abbrev line : Entry
  line = Enter side number event channel

  skipped_with : (found : Option Keyed) → keyed_on words side number front ≡ found
      → is_skipped words side number (front ++ Enter side number event channel ∷ []) ≡ skips_in_words words number link side front event channel
  skipped_with None none =
      absurd (let h : None ≡ Some has.end = ap (λ found. keyed_in_line words side number front found line) (sym none) ∙ sym (keyed_more words side number front line) ∙ has.is_end in cc)
  skipped_with (Some k) found =
      let are = words_here words side number front k found in
      let entered = entered_after words side number front event channel k has.end found has.is_end in
      ap (λ (l : Option LinkBegun). skips_with l side (event_on words side number (front ++ line ∷ [])) (is_idle_on words side number (front ++ line ∷ [])))
      (number_stays number front (line ∷ []) link is_link)
      ∙ skipped_by (role_on link side) (event_on words side number (front ++ line ∷ [])) (last_heard (events_heard side number front)) event (latency_in number link side front event)
      (is_idle_on words side number (front ++ line ∷ []))
      (ap (λ (e : EventLines). e.last_heard) entered ∙ are.heard_is) (ap (λ (e : EventLines). e.number) entered) (ap (λ (e : EventLines). e.latency) entered ∙ has.latency)

pub all_skip : (words : Words) (journal : List Entry) → AllHaveLatency words journal → AllSkipInWords words journal
all_skip words journal have front rest side number event channel link at is_link =
    skipped_with words front side number event channel link is_link (have front rest side number event channel link at is_link) (keyed_on words side number front) refl
