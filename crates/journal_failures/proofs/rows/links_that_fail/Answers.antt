-- Proof of `rows::links_that_fail`: the definitions compute.
use Rattle.std.proofs.Common.{◌≡◌, true, false, [], refl}
use Rattle.ble_base.specs.ErrorCodes.{mic_failure}
use Rattle.ble_base.specs.declared.roles.Side.TheVariants.{A}
use Rattle.adv_pdu.specs.Header.{kept_bits}
use Rattle.adv_pdu.specs.Reading.{read_of}
use Rattle.air_frame.specs.Hearing.{heard_in}
use Rattle.journal_outcomes.specs.controller_model.Packets.{pdu_heard}
use Rattle.frame_bits.specs.Crc.{crc, crc_octets, crc_of_bits, remainder}
use Rattle.frame_bits.specs.Whitening.{mask_of, next_mask, whitening_bit, whitening_of}
use Rattle.journal.specs.declared.entries.Mark.TheVariants.{Pass}
use Rattle.wire_fields.specs.Field.{little_endian}
use Rattle.journal_outcomes.specs.journal_collisions.journal_endings.Rows.{shut_with}
use Rattle.journal_outcomes.specs.journal_collisions.journal_endings.journal_indications.journal_data.Followed.{none_mixed}
use Rattle.journal_outcomes.specs.journal_collisions.journal_endings.journal_indications.journal_data.journal_links.Begun.{links_begun}
use Rattle.journal_outcomes.specs.journal_collisions.journal_endings.journal_indications.journal_data.run_model.Rows.{first_packet, one_connection_journal}
use Rattle.journal_failures.specs.Failures.{IsForgedIn}
use Rattle.journal_failures.specs.Rows.{forged_journal}
use Rattle.journal_failures.proofs.ShutLines.{last_fails, none_fails, none_forged}
use Rattle.journal_failures.proofs.rows.links_that_fail.Goals as goal

is_forged : IsForgedIn A 1 forged_journal
unfolding links_begun pdu_heard heard_in read_of kept_bits crc crc_octets crc_of_bits remainder mask_of next_mask whitening_bit whitening_of little_endian
is_forged = record {
  before = one_connection_journal;
  channel = 25;
  octets = first_packet;
  fate = Pass;
  after = [];
  is_at = refl;
  link = _;
  is_link = refl;
  of_link = refl;
}

pub returns : goal.returns
returns c = record {
  forged = last_fails none_mixed forged_journal A 1 (record { 0 = mic_failure }) refl is_forged;
  lost = none_fails none_mixed (shut_with 0x08) refl;
  failed = λ all. none_forged A 1 one_connection_journal refl (all one_connection_journal [] A 1 (record { 0 = 0x3D }) refl refl refl);
  mixed = λ front rest side number reason is fails unmixed. absurd (let h : true ≡ false = unmixed in absurd cc);
}
