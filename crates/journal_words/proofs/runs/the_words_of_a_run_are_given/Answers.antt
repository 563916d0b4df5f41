-- Proof of `runs::the_words_of_a_run_are_given`.
use Rattle.std.proofs.Common.{◌≡◌, ℕ, List, refl, subst}
use mathlib.Core.Path.{fun_ext}
use Rattle.ble_base.specs.declared.roles.Side.{Side}
use Rattle.ble_base.specs.declared.roles.Side.TheVariants.{A, B}
use Rattle.journal.specs.declared.entries.Entry.{Entry}
use Rattle.journal_controls.specs.journal_ends.GivenWords.{GivesWords}
use Rattle.journal_controls.specs.run_model.Pair.{given_with}
use Rattle.radio_replay.specs.Script.{Script}
use Rattle.journal_words.specs.Drawn.{words_by, words_in}
use Rattle.journal_words.proofs.RunWords.{run_gives}
use Rattle.journal_words.proofs.runs.the_words_of_a_run_are_given.Goals as goal

-- the words of a pair are those of its script
same_words : (links : ℕ) (a b : List ℕ) (script : Script) (side : Side) (front : List Entry) → words_in (given_with links a b script) side front ≡ words_by script side front
same_words links a b script A front = refl
same_words links a b script B front = refl

pub returns : goal.returns
returns c =
    let whole = c.packet_tells_its_pdu.ensures.heard in
    let understood = c.a_pdu_is_understood.ensures.says in
    let taken = c.connections_are_taken.ensures.taken in
    let nth = c.searches_give_each_valid_address.ensures.valid in
    let apart = c.searches_give_each_valid_address.ensures.distinct in record {
      run = λ given are six. run_gives whole understood taken nth apart given are six;
      pair = λ links a b script six.
          let given = given_with links a b script in
          subst (GivesWords given) (fun_ext (λ side. fun_ext (λ front. same_words links a b script side front)))
          (run_gives whole understood taken nth apart given refl six);
    }
