-- The counts of one end of a link, as a journal has them and as the end itself keeps them (Core 5.2, volume 6 part B,
-- section 4.5.9).
use Rattle.std.specs.Prelude.{◌≡◌, length}
use Rattle.journal_packets.specs.link_model.Acknowledgement.{Acknowledgement}
use Rattle.journal_acks.specs.Exchange.{Exchanged}

-- the journal says how many PDUs this end sent, how many it accepted, and how many of its own are acknowledged to it
pub record IsCounted (end : Exchanged) (ack : Acknowledgement) : Type 0 where
  pub sent : end.sent ≡ length ack.sent
  pub accepted : end.accepted ≡ length ack.accepted
  pub acked : end.acked ≡ ack.acked
