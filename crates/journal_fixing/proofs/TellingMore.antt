-- What MD says of an end that sends, by what it held as it fixed its PDU.
use Rattle.std.proofs.Common.{◌≡◌, ℕ, Bool, true, false, Some, List}
use Rattle.ble_base.specs.declared.roles.Role.TheVariants.{Peripheral}
use Rattle.journal_controls.specs.link_model.Acknowledgement.{is_acked}
use Rattle.journal_controls.specs.link_model.End.{facts_after}
use Rattle.journal_controls.specs.link_model.Facts.{Facts, keyed_of}
use Rattle.journal_controls.specs.link_model.Fixing.{data_cut}
use Rattle.journal_controls.specs.link_model.Packets.{good_pdu, more_sent, pdu_sent}
use Rattle.journal_controls.specs.link_model.Setup.{Setup}
use Rattle.journal_controls.specs.link_model.Step.{PacketReceived, PduFixed}
use Rattle.journal_controls.proofs.CentralFixed.{IsFree}
use Rattle.journal_controls.proofs.SendsAlike.{SendsAlike}
use Rattle.journal_fixing.specs.NextPdu.{IsFixedBy, data_waits, data_waits_after, more_with_new, more_with_old}
use Rattle.journal_fixing.proofs.AnsweredPdus.{now_more, now_old}
use Rattle.journal_fixing.proofs.FixedPdus.{fixed_by, more_new, more_old}

pub record TellsMore (held facts : Facts) : Type 0 where
  pub new : is_acked facts.acknowledgement ≡ true → more_sent facts ≡ more_with_new (keyed_of held) (data_waits_after (pdu_sent facts) (data_cut held))
  pub old : is_acked facts.acknowledgement ≡ false
      → more_sent facts ≡ more_with_old (keyed_of held) facts.acknowledgement.last (data_waits (data_cut held))

-- by what it fixed
tells_by : (held facts : Facts) → IsFixedBy (keyed_of held) (data_cut held) facts → TellsMore held facts
tells_by held facts fixed = record { new = more_new (keyed_of held) (data_cut held) facts fixed; old = more_old (keyed_of held) (data_cut held) facts fixed }

-- once it is fixed
pub fixed_tells : (setup : Setup) (held : Facts) → IsFree held → TellsMore held (facts_after setup held PduFixed)
fixed_tells setup held free = tells_by held (facts_after setup held PduFixed) (fixed_by setup held free)

-- after a good packet is received, also with other words, and after its answer to a request that is withheld
pub answer_tells : (setup : Setup) (held : Facts) (slot : ℕ) (octets pdu : List ℕ) (room : Bool) → setup.link.role ≡ Peripheral → IsFree held
    → let fixed = facts_after setup held PduFixed in good_pdu setup fixed octets ≡ Some pdu
    → (now : Facts) → SendsAlike now (facts_after setup fixed (PacketReceived slot octets room)) → TellsMore held now
answer_tells setup held slot octets pdu room role free good now alike =
    let fixed = facts_after setup held PduFixed in record {
      new = now_more setup fixed slot octets pdu room (keyed_of held) (data_cut held) role (fixed_by setup held free) good now alike;
      old = now_old setup fixed slot octets pdu room (keyed_of held) (data_cut held) role (fixed_by setup held free) good now alike;
    }
