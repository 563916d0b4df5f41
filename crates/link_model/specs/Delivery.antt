-- What an end made of the data that its host gave it, what the other end has of that, and what each notes of it (Core
-- 5.2, volume 4 part E, section 4.1; volume 6 part B, section 4.5.9).
use Rattle.std.specs.Prelude.{◌≡◌, ◌+◌, ◌≤◌, List, ◌++◌, length, take}
use Rattle.std.specs.List.{filter}
use Rattle.ack_bit.specs.Nonempty.{nonempty}
use Rattle.acl_banks.specs.History.{octets_of, whole_packets}
use Rattle.link_model.specs.Setup.{Setup}
use Rattle.link_model.specs.Data.{acked_data, data_of, is_empty, sent_data, unsent_of}
use Rattle.link_model.specs.Numbers.{is_sent_note, is_took_note, numbered_notes, sent_note, took_note}
use Rattle.link_model.specs.Facts.{Facts}
use Rattle.link_model.specs.Step.{Step}
use Rattle.link_model.specs.End.{facts_of, notes_of}

-- all octets that the host gave were sent or wait, in order; and the packets that are complete are those of which the
-- last octet was acknowledged
pub record IsInOrder (facts : Facts) : Type 0 where
  pub sent : sent_data facts.acknowledgement ++ unsent_of facts.outgoing ≡ octets_of facts.outgoing.given
  pub counted : facts.outgoing.reported + facts.outgoing.complete
      ≡ whole_packets facts.outgoing.given (length (acked_data facts.acknowledgement))

-- one end has, of the data that the host of the other gave, the first octets; and of the packets that were reported
-- there it has all octets
pub record IsDelivered (from to : Facts) : Type 0 where
  pub taken : data_of to.acknowledgement.accepted
      ≡ take (length (data_of to.acknowledgement.accepted)) (octets_of from.outgoing.given)
  pub reported : from.outgoing.reported
      ≤ whole_packets from.outgoing.given (length (data_of to.acknowledgement.accepted))

-- the notes of what is sent are those of the PDUs that an end sent and that are not empty, each once and in order, with
-- the numbers 1, 2 and so on; and those of what is taken are those of the PDUs that it accepted
pub record AreNumbered (setup : Setup) (past : List Step) : Type 0 where
  pub sent : filter is_sent_note (notes_of setup past)
      ≡ numbered_notes (sent_note setup.link.handle) 1
      (nonempty is_empty (facts_of setup past).acknowledgement.sent)
  pub took : filter is_took_note (notes_of setup past)
      ≡ numbered_notes (took_note setup.link.handle) 1
      (nonempty is_empty (facts_of setup past).acknowledgement.accepted)
