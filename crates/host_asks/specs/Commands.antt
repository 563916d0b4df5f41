-- That the step which an accepted command makes on a link may come there (our choice).
use Rattle.std.specs.Prelude.{◌<◌, ◌^◌, Option, Some, None, ⊤}
use Rattle.link_commands.specs.open_links.link_model.Facts.{Facts}
use Rattle.link_commands.specs.open_links.link_model.Step.{Step}
use Rattle.link_pairs.specs.Hosts.{MayHost}
use Rattle.link_commands.specs.declared.moments.Moment.{Moment}

-- the halves of the session key diversifier and of the initialization vector have eight and four octets (Core 5.2, volume
-- 6 part B, section 2.4.2.4)
pub record WordsFit (moment : Moment) : Type 0 where
  pub skd_fits : moment.skd_m < 2 ^ 64
  pub iv_fits : moment.iv_m < 2 ^ 32

-- the step may come, if there is one
abbrev pub MayComeIf : Option Step → Facts → Type 0
MayComeIf None facts = ⊤
MayComeIf (Some step) facts = MayHost step facts
