-- Proof of `runs::a_pdu_is_sent_again_with_its_payload`.
use Rattle.std.proofs.Common.{◌∷◌, ◌++◌, ◌∙◌, append_assoc}
use Rattle.journal.specs.declared.entries.Entry.TheVariants.{Air}
use Rattle.journal_sealing.proofs.SealedLines.{sent_again}
use Rattle.journal_sealing.proofs.runs.a_pdu_is_sent_again_with_its_payload.Goals as goal

pub returns : goal.returns
returns c = λ words given front more rest side channel channel_too octets octets_too fate fate_too verdict verdict_too stations six gives at off off_too.
    let one = Air side channel octets fate verdict in
    let two = Air side channel_too octets_too fate_too verdict_too in
    let all = c.each_packet_has_the_payload_of_the_lines.ensures.lines words given stations six gives in
    sent_again words front more side channel channel_too octets octets_too fate verdict
    (all front (more ++ two ∷ rest) side channel octets fate verdict (at ∙ append_assoc front (one ∷ more) (two ∷ rest)) off)
    (all (front ++ one ∷ more) rest side channel_too octets_too fate_too verdict_too at off_too)
