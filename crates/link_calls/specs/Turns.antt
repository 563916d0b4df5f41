-- What the begin and the end of a turn do to the link under one handle (Core 5.2, volume 6 part B, sections 4.5.1,
-- 4.5.2, 4.5.9 and 5.1.6).
use Rattle.std.specs.Prelude.{◌≡◌, ℕ, Bool, true, false, Some, None}
use Rattle.run_laws.specs.link_model.Step.{PacketSent, PduFixed}
use Rattle.run_laws.specs.open_links.Data.{link_reported}
use Rattle.run_laws.specs.open_links.OpenLinks.{Links, OpenLink, link_after, link_at}
use Rattle.run_laws.specs.open_links.Turns.{due_in, ending_in, link_entered}
use Rattle.run_laws.specs.controller_model.declared.doing.Doing.{Doing}
use Rattle.link_calls.specs.Uses.{fixes_under, sends_under}

-- ---- a link, changed or not

abbrev pub change_if : Bool → (OpenLink → OpenLink) → OpenLink → OpenLink
change_if true change link = change link
change_if false change link = link

-- it fixes the PDU that it sends next
abbrev pub fixed_if : Bool → OpenLink → OpenLink
fixed_if fixes link = change_if fixes (link_after PduFixed) link

-- it sends its packet
abbrev pub sent_if : Bool → ℕ → OpenLink → OpenLink
sent_if sends slot link = change_if sends (link_after (PacketSent slot)) link

-- ---- a turn begins

-- in this order: it enters its event where the anchor is in this slot, fixes its PDU where an exchange begins, and
-- sends where it is the central
abbrev pub link_begun : ℕ → ℕ → Doing → OpenLink → OpenLink
link_begun slot handle doing link =
    sent_if (sends_under handle doing) slot (fixed_if (fixes_under handle doing) (link_entered slot link))

-- the link is one that was open before and had no reason to end
pub record HasBegunTurn (before : Links) (slot handle : ℕ) (doing : Doing) (after : OpenLink) : Type 0 where
  pub link : OpenLink
  pub was : link_at handle before ≡ Some link
  pub stays : due_in slot link ≡ None
  -- what happened to it since; when it had the radio last may differ, too
  pub setup_is : after.setup ≡ link.setup
  pub past_is : after.past ≡ (link_begun slot handle doing link).past

-- ---- a turn ends

-- the packets that are complete were reported, and neither its procedures nor a host ended the link
pub record HasEndedTurn (before : Links) (handle : ℕ) (after : OpenLink) : Type 0 where
  pub link : OpenLink
  pub was : link_at handle before ≡ Some link
  pub is : after ≡ link_reported link
  pub stays : ending_in after ≡ None
