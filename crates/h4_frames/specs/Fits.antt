-- The invariant of the stages of a framer (our choice).
use Rattle.std.specs.Prelude.{◌<◌, length}
use Rattle.h4_frames.specs.declared.stage.Stage.{Stage}
use Rattle.h4_frames.specs.declared.stage.Stage.TheVariants.{Indicator, CommandHead, AclHead, CommandBody, AclBody, Search}
use Rattle.h4_frames.specs.Parts.{HasRoom, IsOpen}

abbrev pub FitsStage : Stage → Type 0
FitsStage Indicator = Unit {0}
FitsStage (CommandHead head) = length head.items < 3
FitsStage (AclHead head) = length head.items < 4
FitsStage (CommandBody part) = HasRoom part
FitsStage (AclBody part) = IsOpen part
FitsStage (Search seen) = seen < 4
