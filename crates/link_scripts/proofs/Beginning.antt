-- A new end of a link.
use Rattle.std.proofs.Common.{◌≡◌, ◌+◌, [], refl, subst, sym, ap}
use Rattle.std.specs.Prelude.{IsTrue}
use Rattle.instants.specs.Track.{next_anchor_of}
use Rattle.control_end.specs.Answers.{goes_on}
use Rattle.link_model.specs.Setup.{Setup}
use Rattle.link_model.specs.End.{facts_of}
use Rattle.link_end.specs.Held.{Held}
use Rattle.link_end.specs.Knowing.{Knows}
use Rattle.link_end.proofs.Keeping.{held_is}

-- none of its procedures has ended the link
pub new_goes_on : (setup : Setup) (held : Held) → Knows setup held [] → IsTrue (goes_on held.control.control)
unfolding facts_of
new_goes_on setup held knows =
    subst (λ (h : Held). IsTrue (goes_on h.control.control)) (sym (held_is setup held [] knows)) refl

-- the anchor of event 0 is two slots and the offset of the transmit window after its CONNECT_IND
pub new_anchor : (setup : Setup) (held : Held) → Knows setup held []
    → next_anchor_of held.control.control.track ≡ setup.opened + 2 + setup.link.fields.win_offset
unfolding facts_of
new_anchor setup held knows = ap (λ (h : Held). next_anchor_of h.control.control.track) (held_is setup held [] knows)
