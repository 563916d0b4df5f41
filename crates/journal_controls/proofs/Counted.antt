-- What the counts of a journal tell of an end as a good packet reaches it.
use Rattle.std.proofs.Common.{◌≡◌, ℕ, ◌+◌, Bool, Option, Some, List, length, sym, ap, ◌∙◌, arith}
use Rattle.std.proofs.lemmas.Bool.{eqb-false}
use Rattle.ble_base.specs.declared.roles.Role.TheVariants.{Peripheral}
use Rattle.data_pdu.specs.Header.{header_in}
use Rattle.journal_ends.specs.journal_acks.Carried.{SentLine, pdu_carried}
use Rattle.journal_ends.specs.journal_acks.Exchange.{Exchanged}
use Rattle.journal_ends.specs.link_model.Acknowledgement.{Acknowledgement}
use Rattle.journal_ends.specs.link_model.End.{facts_after, facts_of}
use Rattle.journal_ends.specs.link_model.Facts.{Facts, keyed_of}
use Rattle.journal_ends.specs.link_model.Packets.{good_pdu, is_forged}
use Rattle.journal_ends.specs.link_model.Receiving.{facts_received}
use Rattle.journal_ends.specs.link_model.Setup.{Setup}
use Rattle.journal_ends.specs.link_model.Step.{Step, PacketReceived}
use Rattle.journal_ends.specs.link_model.Verdicts.{pdu_of}
use Rattle.journal_ends.proofs.link_model.Acknowledging.{ack_heard, forged_leaves}
use Rattle.journal_ends.proofs.link_model.Counts.{past_counts}
use Rattle.journal_controls.specs.KeyedLines.{has_next}
use Rattle.journal_controls.specs.OneEnd.{IsToldOf}

module _ (setup : Setup) (past : List Step) (slot : ℕ) (octets pdu : List ℕ) (room : Bool) (before after : Exchanged) (line : Option SentLine) where
  abbrev facts : Facts
  facts = facts_of setup past

  abbrev now : Acknowledgement
  now = (facts_after setup facts (PacketReceived slot octets room)).acknowledgement

  pub told_by : good_pdu setup facts octets ≡ Some pdu → before.acked ≡ facts.acknowledgement.acked → after.acked ≡ now.acked → after.sent ≡ length now.sent
      → ((count : ℕ) → count + 1 ≡ length facts.acknowledgement.sent → facts.acknowledgement.last ≡ pdu_carried line count)
      → (setup.link.role ≡ Peripheral → facts.fixes_control ≡ has_next (keyed_of facts))
      → IsToldOf setup.link.role facts (header_in pdu) before after (pdu_carried line before.acked)
  told_by good acked acked_now sent_now carried fixes =
      let ack = facts.acknowledgement in
      let heard = forged_leaves (is_forged setup facts octets) (facts_received setup.link.role slot room (good_pdu setup facts octets) facts)
      ∙ ap (λ one. (facts_received setup.link.role slot room one facts).acknowledgement) good ∙ ack_heard setup.link.role slot room (header_in pdu) (pdu_of pdu) facts in
      let counts = past_counts setup past in record {
        acked_before = acked;
        acked_after = acked_now ∙ ap (λ (a : Acknowledgement). a.acked) heard;
        sent_after = sent_now ∙ ap (λ (a : Acknowledgement). length a.sent) heard;
        last_is = λ out.
            let differs = eqb-false ack.acked (length ack.sent) out in
            let low = counts.sent_only in
            let high = counts.one_at_a_time in
            sym (carried before.acked (omega (arith, differs, low, high, acked)));
        fixes = fixes;
      }
