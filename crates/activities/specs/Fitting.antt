-- The fields of a CONNECT_IND with which an advertiser takes it.
use Rattle.std.specs.Prelude.{◌<◌, ◌^◌, ⊤}
use Rattle.adv_pdu.specs.Ranges.{IsInRange}
use Rattle.adv_pdu.specs.declared.pdu.ConnectFields.{ConnectFields}
use Rattle.advertise.specs.declared.answers.AdvAnswer.{AdvAnswer}
use Rattle.advertise.specs.declared.answers.AdvAnswer.TheVariants.{Ignore, Respond, Connect}

-- an advertiser takes a CONNECT_IND only with such fields
pub record IsTakeable (taken : ConnectFields) : Type 0 where
  pub range : IsInRange taken
  pub crc_init : taken.crc_init < 2 ^ 24
  pub sca : taken.sca < 8

abbrev pub IsAnswerable : AdvAnswer → Type 0
IsAnswerable Ignore = ⊤
IsAnswerable Respond = ⊤
IsAnswerable (Connect fields) = IsTakeable fields
