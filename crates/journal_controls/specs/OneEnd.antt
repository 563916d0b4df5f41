-- The steps of an end by its notes, and what the lines of a journal say of the end as it hears (Core 5.2, volume 6 part B,
-- section 4.5.9).
use Rattle.std.specs.Prelude.{◌≡◌, ℕ, false, List, length, map}
use Rattle.std.specs.List.{flat_map}
use Rattle.ble_base.specs.declared.notes.Note.{Note}
use Rattle.ble_base.specs.declared.roles.Role.{Role}
use Rattle.ble_base.specs.declared.roles.Role.TheVariants.{Peripheral}
use Rattle.ble_base.specs.declared.roles.Side.{Side}
use Rattle.data_pdu.specs.declared.header.DataHeader.{DataHeader}
use Rattle.journal_ends.specs.journal_acks.Exchange.{Exchanged}
use Rattle.journal_ends.specs.journal_links.LinkLines.{line_of}
use Rattle.journal_ends.specs.link_model.Acknowledgement.{Pdu, is_acked, with_acked}
use Rattle.journal_ends.specs.link_model.Facts.{Facts, keyed_of}
use Rattle.journal_ends.specs.link_model.Receiving.{has_acknowledged}
use Rattle.journal_ends.specs.link_model.keyed_control.declared.material.Response.{Response}
use Rattle.journal_controls.specs.KeyedLines.{LineStep, has_next}
use Rattle.journal_controls.specs.LineSteps.{steps_saying}

-- the steps of the lines of these notes, which an end with this role says in this turn
abbrev pub steps_noted : Side → ℕ → Role → Response → ℕ → List Note → List LineStep
steps_noted side number role response slot notes =
    flat_map (steps_saying role response slot) (map (line_of side number) notes)

-- as a packet with this header reaches an end, lines say before and after it how many PDUs the end has sent, and how
-- many of them are acknowledged; they say which PDU it sent last, while that is not acknowledged; and a peripheral has
-- fixed a control PDU where one waits
pub record IsToldOf (role : Role) (facts : Facts) (header : DataHeader) (before after : Exchanged) (last : Pdu)
    : Type 0 where
  pub acked_before : before.acked ≡ facts.acknowledgement.acked
  pub acked_after : after.acked ≡ (with_acked (has_acknowledged facts header) facts.acknowledgement).acked
  pub sent_after : after.sent ≡ length facts.acknowledgement.sent
  pub last_is : is_acked facts.acknowledgement ≡ false → last ≡ facts.acknowledgement.last
  pub fixes : role ≡ Peripheral → facts.fixes_control ≡ has_next (keyed_of facts)
