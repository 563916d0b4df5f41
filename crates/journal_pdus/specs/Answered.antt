-- Who answers a packet is heard, if the answer arrives (Core 5.2, volume 6 part B, sections 4.5.1 and 5.1.3.1).
use Rattle.std.specs.Prelude.{◌≡◌, ◌<◌, ◌+◌, ℕ, true, false, List, ◌∷◌, ◌++◌, length}
use Rattle.air_frame.specs.Packet.{pdu_in}
use Rattle.ble_base.specs.Side.{other_side}
use Rattle.ble_base.specs.declared.roles.Side.{Side}
use Rattle.ble_base.specs.declared.verdicts.Verdict.{Verdict}
use Rattle.ble_base.specs.declared.verdicts.Verdict.TheVariants.{Broken}
use Rattle.journal.specs.declared.entries.Entry.{Entry}
use Rattle.journal.specs.declared.entries.Entry.TheVariants.{Air}
use Rattle.journal.specs.declared.entries.Mark.TheVariants.{Pass as Passed}
use Rattle.journal_moves.specs.journal_wants.journal_sending.journal_controls.host_answers.Flows.{most_received_on}
use Rattle.journal_moves.specs.journal_wants.journal_sending.run_model.History.{is_handed}
use Rattle.journal_moves.specs.journal_wants.journal_sending.run_model.Links.{is_advertising}
use Rattle.journal_moves.specs.journal_wants.journal_sending.journal_packets.Belonging.{is_answer}

-- it is judged good, or forged where its integrity code is wrong for the end that hears it. One with a payload of more
-- octets than that end receives may be broken: an end that does not open what it hears has no room for an integrity code
-- after this many
pub data IsHeardAs (most channel : ℕ) (octets : List ℕ) (verdict : Verdict) : Type 0 where
  IsRead : is_handed verdict ≡ true → IsHeardAs most channel octets verdict
  IsTooLong : verdict ≡ Broken → most + 2 < length (pdu_in channel octets) → IsHeardAs most channel octets verdict

-- a central listens for the answer to its packet, so an answer on a link that passes is heard
abbrev pub AllAnswersAreHeard : List Entry → Type 0
AllAnswersAreHeard journal =
    (front rest : List Entry) (side : Side) (channel : ℕ) (octets : List ℕ) (verdict : Verdict)
    → journal ≡ front ++ Air side channel octets Passed verdict ∷ rest → is_advertising channel ≡ false
    → is_answer front side octets ≡ true → IsHeardAs (most_received_on (other_side side) front) channel octets verdict
