-- Proof of `right::right_journals_are_lawful`.
use Rattle.std.proofs.Common.{[], ◌∷◌, refl, subst}
use Rattle.journal_pdus.specs.controller_model.Rows.{advertising_octets, scanning_octets}
use Rattle.journal_pdus.specs.Lawful.{IsLawful}
use Rattle.radio_replay.specs.declared.fates.Fate.TheVariants.{Lost}
use Rattle.run_model.specs.Rows.{connecting_octets, enabling_octets, reset}
use Rattle.wrong_journals.specs.Right.{advertising_script, answering_octets, asking_octets, asking_script, both_script, data_script, ending_octets, ending_script, event_script, first_script, giving_octets, more_octets, more_script, opening_script, reset_script, resetting_octets, sending_octets, updating_octets, updating_script}
use Rattle.wrong_journals.proofs.right.right_journals_are_lawful.Goals as goal

pub returns : goal.returns
returns c =
    let lawful = c.each_journal_is_lawful.ensures.lawful in
    let first = c.worked_first_runs.ensures in
    let more = c.worked_link_runs.ensures in
    let loses = advertising_script (Lost ∷ []) in
    record {
      reset = subst (IsLawful reset [] first_script) first.reset (lawful reset [] first_script refl refl);
      advertisement = subst (IsLawful advertising_octets scanning_octets (advertising_script [])) first.advertisement
          (lawful advertising_octets scanning_octets (advertising_script []) refl refl);
      lost = subst (IsLawful advertising_octets scanning_octets loses) first.lost (lawful advertising_octets scanning_octets loses refl refl);
      opens = subst (IsLawful enabling_octets connecting_octets opening_script) first.opens (lawful enabling_octets connecting_octets opening_script refl refl);
      event = subst (IsLawful enabling_octets connecting_octets event_script) first.event (lawful enabling_octets connecting_octets event_script refl refl);
      one_packet = subst (IsLawful enabling_octets sending_octets data_script) more.one (lawful enabling_octets sending_octets data_script refl refl);
      more_packets = subst (IsLawful enabling_octets more_octets more_script) more.more (lawful enabling_octets more_octets more_script refl refl);
      both_sides = subst (IsLawful answering_octets sending_octets both_script) more.both (lawful answering_octets sending_octets both_script refl refl);
      versions = subst (IsLawful enabling_octets asking_octets asking_script) more.version (lawful enabling_octets asking_octets asking_script refl refl);
      updates = subst (IsLawful enabling_octets updating_octets updating_script) more.update (lawful enabling_octets updating_octets updating_script refl refl);
      ends = subst (IsLawful giving_octets ending_octets ending_script) more.ended (lawful giving_octets ending_octets ending_script refl refl);
      link_reset = subst (IsLawful resetting_octets connecting_octets reset_script) more.reset (lawful resetting_octets connecting_octets reset_script refl refl);
    }
