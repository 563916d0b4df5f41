-- Whether a link lasts at one of its ends (Core 5.2, volume 6 part B, sections 5.1.6 and 5.5.1).
use Rattle.std.specs.Prelude.{Bool, ◌&&◌, is_none}
use Rattle.link_model.specs.Controls.{goes_on}
use Rattle.link_model.specs.Facts.{Facts}

-- none of the procedures of this end ended the link, and the end took no LL_TERMINATE_IND
abbrev pub is_lasting : Facts → Bool
is_lasting facts = goes_on facts && is_none facts.leaving.ended_by_peer
