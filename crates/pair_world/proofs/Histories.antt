-- What is read off a history that grew.
use Rattle.std.proofs.Common.{◌≡◌, ℕ, ◌+◌, List, [], ◌∷◌, ◌++◌, None, refl, sym, ap, ◌∙◌, append_assoc}
use Rattle.std.specs.Prelude.{fold}
use Rattle.std.proofs.lemmas.List.Sums.{fold-append}
use Rattle.std.proofs.lemmas.List.Concat.{flat_map-append}
use Rattle.journal.specs.declared.entries.Entry.{Entry}
use Rattle.run_model.specs.History.{Event, steps_in, past_of, octets_in, fed_to, turns_in, turns_begun, packets_after, packets_on_air, fates_after, fates_used, received_after, packet_received}
use Rattle.run_model.specs.Links.{Links, first_links, links_after, links_of}
use Rattle.run_model.specs.Journal.{entries_of, journal_from, journal_of}

pub past_more : (station : ℕ) (history more : List Event) → past_of station (history ++ more) ≡ past_of station history ++ past_of station more
past_more station history more = flat_map-append (steps_in station) history more

pub fed_more : (station : ℕ) (history more : List Event) → fed_to station (history ++ more) ≡ fed_to station history ++ fed_to station more
fed_more station history more = flat_map-append (octets_in station) history more

pub turns_more : (history more : List Event) → turns_begun (history ++ more) ≡ fold (λ count event. count + turns_in event) (turns_begun history) more
unfolding turns_begun
turns_more history more = fold-append (λ count event. count + turns_in event) 0 history more

pub fates_more : (history more : List Event) → fates_used (history ++ more) ≡ fold fates_after (fates_used history) more
unfolding fates_used
fates_more history more = fold-append fates_after 0 history more

pub packets_more : (history more : List Event) → packets_on_air (history ++ more) ≡ fold packets_after (packets_on_air history) more
unfolding packets_on_air
packets_more history more = fold-append packets_after 0 history more

pub received_more : (station : ℕ) (history more : List Event)
    → packet_received station (history ++ more) ≡ fold (received_after station) (packet_received station history) more
unfolding packet_received
received_more station history more = fold-append (received_after station) None history more

pub links_more : (history more : List Event) → links_of (history ++ more) ≡ fold links_after (links_of history) more
unfolding links_of
links_more history more = fold-append links_after first_links history more

journal_from_more : (links : Links) (history more : List Event)
    → journal_from links (history ++ more) ≡ journal_from links history ++ journal_from (fold links_after links history) more
journal_from_more links [] more = refl
journal_from_more links (event ∷ history) more =
    ap (λ (entries : List Entry). entries_of links event ++ entries) (journal_from_more (links_after links event) history more)
    ∙ sym (append_assoc (entries_of links event) (journal_from (links_after links event) history)
    (journal_from (fold links_after (links_after links event) history) more))

pub journal_more : (history more : List Event) → journal_of (history ++ more) ≡ journal_of history ++ journal_from (links_of history) more
unfolding journal_of links_of
journal_more history more = journal_from_more first_links history more
