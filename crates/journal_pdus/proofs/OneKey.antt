-- A lawful journal no front of which is mixed is lawful without an exception.
use Rattle.std.proofs.Common.{◌≡◌, ℕ, false, List, [], ◌∷◌, ◌++◌, sym, ◌∙◌, append_assoc}
use Rattle.journal.specs.declared.entries.Entry.{Entry}
use Rattle.journal.specs.declared.entries.Entry.TheVariants.{Done, Enter, Sent, Shut, Took}
use Rattle.ble_base.specs.Side.{other_side}
use Rattle.radio_replay.specs.Script.{Script}
use Rattle.journal_moves.specs.journal_wants.journal_sending.journal_controls.journal_ends.Asked.{Words}
use Rattle.journal_moves.specs.journal_wants.journal_sending.journal_data.Followed.{Mixed, none_mixed}
use Rattle.journal_pdus.specs.Lawful.{IsLawfulWith}

-- no front of a journal is mixed
abbrev pub IsUnmixed : Mixed → List Entry → Type 0
IsUnmixed mixed journal = (number : ℕ) (front rest : List Entry) → journal ≡ front ++ rest → mixed number front ≡ false

pub without_mixing : (words : Words) (mixed : Mixed) (a b : List ℕ) (script : Script) (journal : List Entry) → IsUnmixed mixed journal
    → IsLawfulWith words mixed a b script journal → IsLawfulWith words none_mixed a b script journal
without_mixing words mixed a b script journal unmixed is = record {
  follows = is.follows;
  addresses = is.addresses;
  opened = is.opened;
  begun = is.begun;
  taken = is.taken;
  to_open = is.to_open;
  entered = is.entered;
  events = is.events;
  none_missed = is.none_missed;
  follows_central = λ front rest side number event channel link at none.
      is.follows_central front rest side number event channel link at (unmixed number front (Enter side number event channel ∷ rest) at);
  alike = λ front rest later last side other number event channel too link at at_too none none_too.
      is.alike front rest later last side other number event channel too link at at_too (unmixed number front (Enter side number event channel ∷ rest) at)
      (unmixed number later (Enter other number event too ∷ last) at_too);
  in_events = is.in_events;
  continued = is.continued;
  moves = is.moves;
  judged = is.judged;
  held = is.held;
  shut = is.shut;
  in_time = is.in_time;
  resets = is.resets;
  procedure_lines = is.procedure_lines;
  collisions = record {
    rejected = λ front between rest link number count llid body next_count next_llid next p q at none.
        is.collisions.rejected front between rest link number count llid body next_count next_llid next p q at
        (unmixed number (front ++ Took link.central number count llid body ∷ between) (Sent link.central number next_count next_llid next ∷ rest) at);
    refused = λ front between later rest link number count llid body next_count next_llid next p q at none.
        is.collisions.refused front between later rest link number count llid body next_count next_llid next p q at
        (unmixed number (front ++ Took link.central number count llid body ∷ between ++ Sent link.central number next_count next_llid next ∷ later)
        (Took (other_side link.central) number next_count next_llid next ∷ rest) at);
    indicated = λ front between rest link number count llid body next_count next_llid next p q own at none.
        is.collisions.indicated front between rest link number count llid body next_count next_llid next p q own at
        (unmixed number (front ++ Took link.central number count llid body ∷ between) (Sent link.central number next_count next_llid next ∷ rest) at);
    done = λ front rest start between later link number count llid body p q at none collides at_too none_too.
        let took = Took link.central number count llid body in
        is.collisions.done front rest start between later link number count llid body p q at
        (unmixed number (front ++ took ∷ []) rest (at ∙ sym (append_assoc front (took ∷ []) rest))) collides at_too
        (unmixed number (start ++ Sent (other_side link.central) number count llid body ∷ between) (Done (other_side link.central) number q ∷ later) at_too);
  };
  no_protocol_error = λ front rest side number reason at none.
      is.no_protocol_error front rest side number reason at (unmixed number front (Shut side number reason ∷ rest) at);
  failures = λ front rest side number reason at fails none.
      is.failures front rest side number reason at fails (unmixed number front (Shut side number reason ∷ rest) at);
  answered = is.answered;
  requested = is.requested;
  commands = is.commands;
  credits = is.credits;
  due = is.due;
  in_words = is.in_words;
  sealed = is.sealed;
  host_flow = is.host_flow;
  host_order = is.host_order;
  data_last = is.data_last;
  arrives = λ front rest at side link none. is.arrives front rest at side link (unmixed link front rest at);
}
