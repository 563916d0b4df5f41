-- Two ends of one link (Core 5.2, volume 6 part B, section 4.5).
use Rattle.std.specs.Prelude.{◌≡◌}
use Rattle.ack_bit.specs.InStep.{AreInStep}
use Rattle.link_model.specs.Setup.{Setup}
use Rattle.link_model.specs.Acknowledgement.{Acknowledgement, end_of}

-- the two ends are of one link: one CONNECT_IND, in one slot, and one algorithm for the channels
pub record AreOneLink (one other : Setup) : Type 0 where
  pub fields : one.link.fields ≡ other.link.fields
  pub two : one.link.two ≡ other.link.two
  pub opened : one.opened ≡ other.opened

-- the numbers of the two ends agree: SN and NESN are counts of acknowledged and of accepted PDUs, what one end takes
-- for acknowledged the other accepted, and each accepts what the other sent, in order
abbrev pub AreInAgreement : Acknowledgement → Acknowledgement → Type 0
AreInAgreement one other = AreInStep (end_of one) (end_of other)
