-- What the lines of a side say only grows.
use Rattle.std.proofs.Common.{◌≡◌, ℕ, ◌≤◌, ◌==◌, Bool, true, false, List, [], ◌∷◌, ◌++◌, map, cond, refl, ap, sym, subst, ◌∙◌, append-nil, append_assoc, arith}
use Rattle.std.specs.Prelude.{fold}
use Rattle.std.proofs.lemmas.List.Elements.{filter-append}
use Rattle.acl_banks.specs.Packets.{Marked}
use Rattle.ble_base.specs.declared.roles.Side.{Side}
use Rattle.journal.specs.declared.entries.Entry.{Entry}
use Rattle.journal.specs.declared.entries.Entry.TheVariants.{Fed as FedEntry, Up as UpEntry, Opened as OpenedEntry, Shut as ShutEntry, Sent as SentEntry, Took as TookEntry}
use Rattle.journal_acks.specs.controller_model.Step.{Step}
use Rattle.journal_acks.specs.controller_model.Side.{notes_after}
use Rattle.journal_acks.specs.run_model.History.{Event, Called, Noted}
use Rattle.journal_acks.specs.run_model.Journal.{entries_of, side_of}
use Rattle.journal_acks.specs.run_model.Links.{links_of}
use Rattle.journal_acks.specs.run_model.Run.{Given, setup_at, facts_at, after_call}
use Rattle.journal_data.specs.Lines.{Credited, Lines, PduLine, Received, credited_on, is_of_side, line_after, lines_after, pdus_on, received_on}
use Rattle.journal_data.proofs.Booked.{counts_more, counts_on, octets_more, octets_on}
use Rattle.journal_data.proofs.EachLine.{event_lines, lines_at}

-- ---- lines only grow

pub record IsLonger (X : Type 0) (before after : List X) : Type 0 where
  pub more : List X
  pub is : after ≡ before ++ more

same_long : (X : Type 0) (all : List X) → IsLonger X all all
same_long X all = record { more = []; is = sym (append-nil all) }

longer_by : (X : Type 0) (all more : List X) → IsLonger X all (all ++ more)
longer_by X all more = record { more = more; is = refl }

longer_then : (X : Type 0) (first second third : List X) → IsLonger X first second → IsLonger X second third → IsLonger X first third
longer_then X first second third one next = record {
  more = one.more ++ next.more;
  is = next.is ∙ ap (λ all. all ++ next.more) one.is ∙ append_assoc first one.more next.more;
}

record Grow (before after : Lines) : Type 0 where
  sent : IsLonger PduLine before.sent after.sent
  taken : IsLonger PduLine before.taken after.taken
  received : IsLonger Received before.received after.received
  credited : IsLonger Credited before.credited after.credited

grow_none : (before after : Lines) → after.sent ≡ before.sent → after.taken ≡ before.taken → after.received ≡ before.received
    → after.credited ≡ before.credited → Grow before after
grow_none before after sent taken received credited = record {
  sent = record { more = []; is = sent ∙ sym (append-nil before.sent) };
  taken = record { more = []; is = taken ∙ sym (append-nil before.taken) };
  received = record { more = []; is = received ∙ sym (append-nil before.received) };
  credited = record { more = []; is = credited ∙ sym (append-nil before.credited) };
}

grow_then : (first second third : Lines) → Grow first second → Grow second third → Grow first third
grow_then first second third one next = record {
  sent = longer_then PduLine first.sent second.sent third.sent one.sent next.sent;
  taken = longer_then PduLine first.taken second.taken third.taken one.taken next.taken;
  received = longer_then Received first.received second.received third.received one.received next.received;
  credited = longer_then Credited first.credited second.credited third.credited one.credited next.credited;
}

grow_line : (lines : Lines) (entry : Entry) → Grow lines (line_after 8 lines entry)
grow_line lines (SentEntry side link counted llid body) = record {
  sent = longer_by PduLine lines.sent _;
  taken = same_long PduLine lines.taken;
  received = same_long Received lines.received;
  credited = same_long Credited lines.credited;
}
grow_line lines (TookEntry side link counted llid body) = record {
  sent = same_long PduLine lines.sent;
  taken = longer_by PduLine lines.taken _;
  received = same_long Received lines.received;
  credited = same_long Credited lines.credited;
}
grow_line lines (UpEntry side octets) = record {
  sent = same_long PduLine lines.sent;
  taken = same_long PduLine lines.taken;
  received = longer_by Received lines.received _;
  credited = longer_by Credited lines.credited _;
}
grow_line lines (FedEntry side octets) = grow_none lines _ refl refl refl refl
grow_line lines (OpenedEntry side link handle role) = grow_none lines _ refl refl refl refl
grow_line lines (ShutEntry side link reason) = grow_none lines _ refl refl refl refl
grow_line lines entry = grow_none lines lines refl refl refl refl

grow_if : (own : Bool) (lines others : Lines) → Grow lines others → Grow lines (cond own others lines)
grow_if true lines others grow = grow
grow_if false lines others grow = grow_none lines lines refl refl refl refl

grow_entries : (side : Side) (lines : Lines) (entries : List Entry) → Grow lines (fold (lines_after 8 side) lines entries)
grow_entries side lines [] = grow_none lines lines refl refl refl refl
grow_entries side lines (entry ∷ entries) =
    grow_then lines (lines_after 8 side lines entry) _
    (grow_if (is_of_side side entry) lines (line_after 8 lines entry) (grow_line lines entry))
    (grow_entries side (lines_after 8 side lines entry) entries)

grow_event : (station : ℕ) (history : List Event) (event : Event) → Grow (lines_at station history) (lines_at station (history ++ event ∷ []))
grow_event station history event =
    subst (Grow (lines_at station history)) (sym (event_lines station history event))
    (grow_entries (side_of station) (lines_at station history) (entries_of (links_of history) event))

grow_events : (station : ℕ) (history more : List Event) → Grow (lines_at station history) (lines_at station (history ++ more))
grow_events station history [] =
    subst (λ (all : List Event). Grow (lines_at station history) (lines_at station all)) (sym (append-nil history)) (grow_none _ _ refl refl refl refl)
grow_events station history (event ∷ more) =
    subst (λ (all : List Event). Grow (lines_at station history) (lines_at station all)) (append_assoc history (event ∷ []) more)
    (grow_then (lines_at station history) (lines_at station (history ++ event ∷ [])) _ (grow_event station history event)
    (grow_events station (history ++ event ∷ []) more))

-- what the lines of a side say of one link
pub record GrowsOn (link : ℕ) (before after : Lines) : Type 0 where
  pub sent : IsLonger PduLine (pdus_on link before.sent) (pdus_on link after.sent)
  pub taken : IsLonger PduLine (pdus_on link before.taken) (pdus_on link after.taken)
  pub received : IsLonger Marked (received_on link before) (received_on link after)
  pub credited : credited_on link before ≤ credited_on link after

pdus_longer : (link : ℕ) (before after : List PduLine) → IsLonger PduLine before after → IsLonger PduLine (pdus_on link before) (pdus_on link after)
pdus_longer link before after longer = record {
  more = pdus_on link longer.more;
  is = ap (pdus_on link) longer.is ∙ filter-append (λ (one : PduLine). one.link == link) before longer.more;
}

grows_on : (link : ℕ) (before after : Lines) → Grow before after → GrowsOn link before after
grows_on link before after grow = let counted = ap (counts_on link) grow.credited.is ∙ counts_more link before.credited grow.credited.more in record {
  sent = pdus_longer link before.sent after.sent grow.sent;
  taken = pdus_longer link before.taken after.taken grow.taken;
  received = record {
    more = octets_on link grow.received.more;
    is = ap (octets_on link) grow.received.is ∙ octets_more link before.received grow.received.more;
  };
  credited = omega (arith, counted);
}

pub lines_grow : (station link : ℕ) (history more : List Event) → GrowsOn link (lines_at station history) (lines_at station (history ++ more))
lines_grow station link history more = grows_on link (lines_at station history) (lines_at station (history ++ more)) (grow_events station history more)

pub call_grows : (given : Given) (station other link : ℕ) (step : Step) (history : List Event)
    → GrowsOn link (lines_at station history) (lines_at station (after_call given other step history))
call_grows given station other link step history =
    lines_grow station link history
    (Called other step ∷ map (Noted other) (notes_after (setup_at given other) (facts_at given other history) step))
