-- Proof of `rows::worked_answers`: the definitions compute.
use Rattle.std.proofs.Common.{[], refl}
use Rattle.ble_base.specs.declared.procedure_kinds.Kind.TheVariants.{Length}
use Rattle.data_pdu.specs.Layouts.{makers}
use Rattle.data_pdu.specs.Reading.{ctrl_of}
use Rattle.link_model.specs.End.{facts_of}
use Rattle.link_procedures.specs.Rows.{refuses_procedure}
use Rattle.link_outcomes.specs.Rows.{phy_octets, update_octets}
use Rattle.link_outcomes.proofs.rows.worked_answers.Goals as goal

pub returns : goal.returns
unfolding ctrl_of makers facts_of
returns c = record {
  request = record {
    earlier = [];
    handle = 0;
    count = 1;
    body = update_octets;
    later = [];
    notes_are = refl;
    answers = refl;
    goes_on = refl;
  };
  phy = record { earlier = []; handle = 0; count = 1; body = phy_octets; later = []; notes_are = refl; answers = refl; goes_on = refl };
  other_refused = record {
    earlier = refuses_procedure Length;
    handle = 0;
    count = 1;
    body = phy_octets;
    later = [];
    notes_are = refl;
    answers = refl;
    goes_on = refl;
  };
  begins_none = refl;
  answers = refl;
  lasts = λ setup. refl;
}
