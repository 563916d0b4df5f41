-- In the journal of a run of a pair the end of a side has, in each event that it enters, the latency that follows from the
-- indications.
use Rattle.std.proofs.Common.{◌≡◌, ℕ, ◌||◌, true, Some, List, [], ◌∷◌, ◌++◌, length, map, refl, sym, ap, subst, ◌∙◌, append_assoc}
use Rattle.std.specs.List.{Contains}
use Rattle.std.proofs.lemmas.Bool.{or_left, or_parts}
use Rattle.std.proofs.lemmas.List.Folds.{list_any-append}
use Rattle.ble_base.specs.declared.notes.Note.{Note}
use Rattle.ble_base.specs.declared.notes.Note.TheVariants.{Enter as EnterNote}
use Rattle.ble_base.specs.declared.roles.Side.{Side}
use Rattle.instants.specs.Parameters.{params_in}
use Rattle.journal.specs.declared.entries.Entry.{Entry}
use Rattle.journal.specs.declared.entries.Entry.TheVariants.{Enter}
use Rattle.link_changes.specs.Noted.{changes_noted}
use Rattle.radio_replay.specs.Script.{Script}
use Rattle.journal_events.specs.journal_leaving.controller_model.Side.{notes_after, notes_of}
use Rattle.journal_events.specs.journal_leaving.controller_model.Since.{notes_under, opens_under, was_opened}
use Rattle.journal_events.specs.journal_leaving.controller_model.Step.{TurnBegins}
use Rattle.journal_events.specs.journal_leaving.journal_controls.LineSteps.{keyed_on}
use Rattle.journal_events.specs.journal_leaving.journal_data.open_links.OpenLinks.{facts_in}
use Rattle.journal_events.specs.journal_leaving.journal_ends.Asked.{Words}
use Rattle.journal_events.specs.journal_leaving.journal_ends.GivenWords.{GivesWords}
use Rattle.journal_events.specs.journal_leaving.journal_links.Begun.{LinkBegun, link_numbered}
use Rattle.journal_events.specs.journal_leaving.journal_links.Changes.{changes_of}
use Rattle.journal_events.specs.journal_leaving.journal_links.LinkLines.{line_of, lines_of}
use Rattle.journal_events.specs.journal_leaving.link_model.End.{notes_of as end_notes_of}
use Rattle.journal_events.specs.journal_leaving.link_model.Entering.{facts_entered}
use Rattle.journal_events.specs.journal_leaving.link_model.Facts.{keyed_of}
use Rattle.journal_events.specs.journal_leaving.link_model.Setup.{first_params}
use Rattle.journal_events.specs.journal_leaving.run_model.History.{Called, Event, Noted, noted_by, past_of}
use Rattle.journal_events.specs.journal_leaving.run_model.Journal.{journal_from, journal_of, side_of}
use Rattle.journal_events.specs.journal_leaving.run_model.Links.{links_of}
use Rattle.journal_events.specs.journal_leaving.run_model.NoteLines.{enter_line}
use Rattle.journal_events.specs.journal_leaving.run_model.OnAir.{ends_phase}
use Rattle.journal_events.specs.journal_leaving.run_model.Pair.{given_of}
use Rattle.journal_events.specs.journal_leaving.run_model.Run.{Given, facts_at, history_of, run_of, setup_at}
use Rattle.journal_events.proofs.SkipsInRuns.{keyed_in_run}
use Rattle.journal_events.proofs.journal_leaving.controller_model.Entries.{enters_as_turns_begin, enters_at_anchors}
use Rattle.journal_events.proofs.journal_leaving.controller_model.UnderNotes.{open_noted}
use Rattle.journal_events.proofs.journal_leaving.journal_data.FewLinks.{pair_links}
use Rattle.journal_events.proofs.journal_leaving.journal_data.Law.{eight_of}
use Rattle.journal_events.proofs.journal_leaving.journal_ends.run_laws.DistinctAccess.{AreApart}
use Rattle.journal_events.proofs.journal_leaving.journal_links.ChangesAt.{changes_before, none_opened}
use Rattle.journal_events.proofs.journal_leaving.journal_links.EnterLines.{turn_of}
use Rattle.journal_events.proofs.journal_leaving.journal_links.LineNotes.{lines_are_notes, open_was_opened}
use Rattle.journal_events.proofs.journal_leaving.journal_links.LinksBegun.{number_stays}
use Rattle.journal_events.proofs.journal_leaving.journal_links.Numbered.{link_of_number}
use Rattle.journal_events.proofs.journal_leaving.journal_links.OfTwo.{two_apart}
use Rattle.journal_events.proofs.journal_leaving.journal_links.Ranges.{values_in_range}
use Rattle.journal_events.proofs.journal_leaving.journal_packets.AccessOrder.{AreNth}
use Rattle.journal_events.proofs.journal_leaving.link_model.Hearing.{IsHeardWhole}
use Rattle.journal_events.proofs.journal_leaving.run_model.Calls.{noted_called, same_station}
use Rattle.journal_events.proofs.journal_leaving.run_model.LinkEnds.{AreTaken, IsUnderstood, pair_addresses}
use Rattle.journal_events.proofs.journal_leaving.run_model.NoteLines.{is_contained, line_in_call, number_then, to_line}
use Rattle.journal_events.proofs.journal_leaving.run_model.Notes.{NotedBefore, run_noted}
use Rattle.journal_events.proofs.journal_leaving.run_model.Numbers.{numbered_at}
use Rattle.journal_events.proofs.journal_leaving.run_model.OfStations.{OfStations, run_of_stations}
use Rattle.journal_events.proofs.journal_leaving.run_model.OpenedNotes.{is_opened, opens_under as opens, outside_open}
use Rattle.journal_events.proofs.journal_leaving.run_model.Ordered.{pair_distinct}
use Rattle.journal_events.proofs.journal_leaving.run_model.Parts.{journal_event, journal_more}
use Rattle.journal_events.proofs.journal_leaving.run_model.Places.{each_at}
use Rattle.journal_rules.specs.Skipping.{HasLatency, latency_in}
use Rattle.journal_rules.proofs.EventForce.{entered_track, in_force, link_stays}

map_both : (station : ℕ) (notes more : List Note) → map (Noted station) (notes ++ more) ≡ map (Noted station) notes ++ map (Noted station) more
map_both station [] more = refl
map_both station (note ∷ notes) more = ap (λ xs. Noted station note ∷ xs) (map_both station notes more)

one_link : (one other : LinkBegun) → Some one ≡ Some other → one ≡ other
one_link one other is = cc

module _ (words : Words) (heard_whole : IsHeardWhole) (understood : IsUnderstood) (taken : AreTaken) (nth : AreNth) (apart : AreApart) (a b : List ℕ) (script : Script)
    (six : length script.a.public ≡ 6) (six_too : length script.b.public ≡ 6) (gives : GivesWords (given_of a b script) words) where
  abbrev given : Given
  given = given_of a b script

  pub has_latency : (front rest : List Entry) (side : Side) (number event channel : ℕ) (link : LinkBegun)
      → journal_of (history_of (run_of given)) ≡ front ++ Enter side number event channel ∷ rest → link_numbered number front ≡ Some link
      → HasLatency words front side number event channel link
  has_latency front rest side number event channel begun is begun_is =
      let line = enter_line side number event channel in
      let call = line_in_call given front rest (Enter side number event channel) line refl is in
      let station = call.station in
      let handle = call.handle in
      let setup = setup_at given station in
      let base = call.base in
      let distinct = pair_distinct a b script in
      let addresses = pair_addresses a b script six six_too in
      let called = Called station call.step in
      let is_noted = is_contained given front line call in
      let turn = turn_of call.step (enters_as_turns_begin setup (past_of station base) call.step handle event channel is_noted) in
      let entered = (enters_at_anchors setup (past_of station base) turn.slot turn.on handle event channel).0
      (subst (λ s. Contains (notes_after setup (facts_at given station base) s) (line.note handle)) turn.is is_noted) in
      let in_it = each_at (OfStations given) (history_of (run_of given)) base call.after called (run_of_stations given) call.called in
      let link = entered.link in
      let ranges = values_in_range taken given base (called ∷ call.after) station handle link distinct in_it call.called entered.is_open in
      let call_notes = ap (λ s. notes_after setup (facts_at given station base) s) (sym turn.is) ∙ call.notes_are in
      let force = in_force setup (past_of station base) turn.slot turn.on handle event channel entered ranges call.earlier call.later call_notes in
      let stays = link_stays setup (past_of station base) turn.slot turn.on handle event channel entered ranges in
      let numbered = numbered_at understood taken given base call.after called distinct addresses call.called refl station handle entered.link entered.is_open in
      let known = (links_of base).link_of station handle in
      let of = link_of_number understood a b script six six_too base (called ∷ call.after) known station entered.link.setup call.called in_it numbered in
      let noted = called ∷ map (Noted station) call.earlier in
      let front_more = call.front_is ∙ ap journal_of call.before_is ∙ journal_more base noted in
      let apart_two = two_apart given refl station in_it in
      let known_before : noted_by station call.before ≡ noted_by station base ++ call.earlier =
      ap (noted_by station) call.before_is ∙ noted_called station station call.step call.earlier base true (same_station station) in
      let base_noted : noted_by station base ≡ notes_of setup (past_of station base) =
      each_at (NotedBefore given) (history_of (run_of given)) base call.after called (run_noted given).each call.called refl station in
      let opened = open_was_opened understood taken given distinct addresses station apart_two base (called ∷ call.after) handle link call.called
      (numbered_at understood taken given base call.after called distinct addresses call.called refl) entered.is_open in
      let was : was_opened handle (noted_by station call.before) ≡ true =
      ap (was_opened handle) known_before ∙ list_any-append (opens_under handle) (noted_by station base) call.earlier
      ∙ or_left (was_opened handle (noted_by station base)) (was_opened handle call.earlier) opened in
      let quiet = outside_open handle setup (facts_at given station base) call.step (ap ends_phase turn.is) in
      let none = none_opened handle call.earlier (or_parts (is_opened handle call.earlier) (is_opened handle (line.note handle ∷ call.later))
      (sym (list_any-append (opens handle) call.earlier (line.note handle ∷ call.later)) ∙ ap (is_opened handle) (sym call.notes_are) ∙ quiet)).0 in
      let lines = lines_are_notes understood taken given distinct addresses station apart_two call.before (Noted station (line.note handle) ∷ call.rest) handle call.is_at was in
      let number_is = number_then given front line call (ap ends_phase turn.is) in
      let changes = changes_noted link.setup.link.role (end_notes_of link.setup link.past ++ force.applied) in
      let own_number = (links_of call.before).link_of station handle in
      let here : changes_of own_number of.link (side_of station) (journal_of call.before) ≡ changes =
      changes_before (side_of station) own_number handle of.link link.setup link.past (journal_of call.before) (noted_by station base) call.earlier force.applied
      of.central_is
      (subst (λ xs. lines_of (side_of station) own_number (journal_of call.before) ≡ map (line_of (side_of station) own_number) (notes_under handle xs)) known_before lines)
      (ap (notes_under handle) base_noted ∙ open_noted handle setup (past_of station base) link entered.is_open) none force.said_is in
      let there : changes_of number of.link side front ≡ changes = to_line given front line call (λ n entries one. changes_of n of.link one entries ≡ changes) here in
      let same_link : begun ≡ of.link =
      one_link begun of.link (sym begun_is ∙ ap (link_numbered number) front_more
      ∙ ap (λ n. link_numbered n (journal_of base ++ journal_from (links_of base) noted)) (sym number_is)
      ∙ number_stays known (journal_of base) (journal_from (links_of base) noted) of.link of.is_link) in
      let after = facts_entered link.setup turn.slot (facts_in link) in
      let note = EnterNote handle (record { 0 = event }) channel in
      let called_turn : Event = Called station (TurnBegins turn.slot turn.on) in
      let at : history_of (run_of given) ≡ base ++ called_turn ∷ call.after = call.called ∙ ap (λ s. base ++ Called station s ∷ call.after) turn.is in
      let keyed = keyed_in_run words heard_whole understood taken nth apart given refl (pair_links a b script) addresses gives (eight_of a b script) station turn.slot turn.on base
      call.after in_it at call.earlier call.later handle event channel link call_notes stays in
      let before_is : call.before ++ Noted station note ∷ [] ≡ base ++ called_turn ∷ map (Noted station) (call.earlier ++ note ∷ []) =
      ap (λ xs. xs ++ Noted station note ∷ []) (call.before_is ∙ ap (λ s. base ++ Called station s ∷ map (Noted station) call.earlier) turn.is)
      ∙ append_assoc base (called_turn ∷ map (Noted station) call.earlier) (Noted station note ∷ [])
      ∙ ap (λ xs. base ++ called_turn ∷ xs) (sym (map_both station call.earlier (note ∷ []))) in
      let own_same : own_number ≡ known = call.number_is ∙ sym number_is in
      let keyed_here : keyed_on words (side_of station) own_number (journal_of call.before ++ Enter (side_of station) own_number event channel ∷ []) ≡ Some (keyed_of after) =
      ap (λ xs. keyed_on words (side_of station) own_number xs) (sym (journal_event call.before (Noted station note)) ∙ ap journal_of before_is)
      ∙ ap (λ n. keyed_on words (side_of station) n (journal_of (base ++ called_turn ∷ map (Noted station) (call.earlier ++ note ∷ [])))) own_same ∙ keyed in
      record {
        end = keyed_of after;
        is_end = to_line given front line call (λ n entries one. keyed_on words one n (entries ++ Enter one n event channel ∷ []) ≡ Some (keyed_of after)) keyed_here;
        latency = ap (λ t. t.params.latency) (entered_track turn.slot (facts_in link) entered.is_on)
            ∙ ap (λ p. p.latency) (force.params ∙ (λ i. params_in (first_params (sym of.fields_are i)) (sym there i) event))
            ∙ ap (λ l. latency_in number l side front event) (sym same_link);
      }
