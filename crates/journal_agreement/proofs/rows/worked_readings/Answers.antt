-- Proof of `rows::worked_readings`: the definitions compute.
use Rattle.std.proofs.Common.{◌≡◌, ◌∷◌, ◌++◌, [], refl, ap, ◌∙◌, arith}
use Rattle.std.proofs.lemmas.List.Elements.{All-cons, All-nil}
use Rattle.ble_base.specs.declared.roles.Side.TheVariants.{A}
use Rattle.instants.specs.declared.indications.Indication.TheVariants.{Update}
use Rattle.journal.specs.declared.entries.Entry.TheVariants.{Applied, Enter}
use Rattle.link_changes.specs.Noted.{event_noted}
use Rattle.link_changes.specs.Worked.{update_octets}
use Rattle.link_changes.specs.data_pdu.Layouts.{makers}
use Rattle.link_changes.specs.data_pdu.Reading.{ctrl_of}
use Rattle.link_changes.proofs.Notes.{event_more}
use Rattle.journal_data.specs.Followed.{none_mixed}
use Rattle.journal_data.specs.journal_links.Changes.{notes_said}
use Rattle.journal_data.specs.journal_links.Rows.{one_link, update_sent}
use Rattle.link_indications.specs.InTime.{IsTakenInTime}
use Rattle.journal_agreement.proofs.BothEnds.{said_more, sent_more}
use Rattle.journal_agreement.proofs.WrongReadings.{read_wrong, took_late}
use Rattle.journal_agreement.proofs.rows.worked_readings.Goals as goal

pub returns : goal.returns
unfolding ctrl_of makers
returns c =
    let ahead = update_sent ++ Enter A 1 65536 9 ∷ [] in
    record {
      read = record { earlier = []; is = refl };
      in_time = All-cons IsTakenInTime _ [] (omega arith) (All-nil IsTakenInTime);
      another = λ front is_link all. read_wrong none_mixed front update_sent (Applied A 1 1 7 ∷ []) 0 7 refl
          (ap event_noted (said_more A 1 front update_sent) ∙ event_more (notes_said A 1 front) (notes_said A 1 update_sent))
          (sent_more 1 one_link front update_sent)
          refl (omega arith) (λ is. let h : 6 ≡ 7 = is in absurd cc) is_link all;
      unmixed = λ front mixed is_link unmixed all. read_wrong mixed front update_sent (Applied A 1 1 7 ∷ []) 0 7 unmixed
          (ap event_noted (said_more A 1 front update_sent) ∙ event_more (notes_said A 1 front) (notes_said A 1 update_sent))
          (sent_more 1 one_link front update_sent)
          refl (omega arith) (λ is. let h : 6 ≡ 7 = is in absurd cc) is_link all;
      ahead = λ front is_link all. read_wrong none_mixed front ahead [] 65536 6 refl
          (ap event_noted (said_more A 1 front ahead) ∙ event_more (notes_said A 1 front) (notes_said A 1 ahead))
          (sent_more 1 one_link front ahead)
          refl (omega arith) (λ is. let h : 6 ≡ 65542 = is in absurd cc) is_link all;
      late = λ front link is_link role all. took_late front 7 8 9 9 (update_octets 6) (Update 0 8 0 100 6) link refl (omega arith) is_link role all;
    }
