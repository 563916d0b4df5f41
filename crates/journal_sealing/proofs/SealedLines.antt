-- What the payload by the lines of a journal is, whatever these lines are.
use Rattle.std.proofs.Common.{◌≡◌, ℕ, ◌==◌, ◌&&◌, not, Bool, true, false, Option, Some, None, List, [], ◌∷◌, ◌++◌, refl, sym, ap, subst, ◌∙◌, append-nil, append_assoc, if◌then◌else◌}
use Rattle.ble_base.specs.declared.roles.Side.{Side}
use Rattle.ble_base.specs.declared.roles.Side.TheVariants.{A, B}
use Rattle.ble_base.specs.declared.verdicts.Verdict.{Verdict}
use Rattle.ccm_link.specs.Ccm.{sealed_payload}
use Rattle.ccm_link.specs.Payload.{additional_data, nonce}
use Rattle.journal.specs.declared.entries.Entry.{Entry}
use Rattle.journal.specs.declared.entries.Entry.TheVariants.{Air, Sent, Turn}
use Rattle.journal.specs.declared.entries.Mark.{Mark}
use Rattle.journal_controls.specs.LineSteps.{keyed_on}
use Rattle.journal_controls.specs.journal_acks.run_laws.Ranges.{IsPayload}
use Rattle.journal_controls.specs.journal_acks.Carried.{carried_of, pdu_carried, sent_line_after, sent_line_from, sent_line_of}
use Rattle.journal_controls.specs.journal_acks.Exchange.{Exchanged, after_packet, carries_empty, exchange_after, exchange_of, is_number}
use Rattle.journal_controls.specs.journal_ends.Asked.{Words}
use Rattle.journal_controls.specs.journal_links.Begun.{link_numbered}
use Rattle.journal_controls.specs.journal_packets.Belonging.{is_side, link_of_packet}
use Rattle.journal_controls.specs.link_model.Acknowledgement.{Pdu, empty_pdu}
use Rattle.journal_controls.specs.link_model.Data.{is_empty}
use Rattle.journal_controls.specs.link_model.Payload.{payload_made}
use Rattle.journal_controls.specs.link_model.enc_phase.Phases.{is_central, seals}
use Rattle.journal_controls.specs.link_model.keyed_control.Keyed.{Keyed}
use Rattle.journal_controls.specs.run_model.History.{is_good}
use Rattle.journal_controls.specs.run_model.Links.{is_advertising}
use Rattle.journal_controls.proofs.journal_acks.Exchanging.{exchange_more}
use Rattle.journal_controls.proofs.journal_acks.run_laws.Payloads.{in_clear, made_is}
use Rattle.journal_sealing.specs.SealedLines.{HasPayload, IsSentAgain, NeverSeals, NoneSent, SealedLine, payload_by, payload_carried, payload_of_line, says_sent, sealed_line, sealed_line_after, sealed_line_from, sealed_line_of, without_payload}

-- ---- something of each line

module _ (words : Words) (number : ℕ) (side : Side) where
  -- whether an entry is such a line or not
  module _ (front : List Entry) (before : Option SealedLine) where
    after_forgets : (entry : Entry) → without_payload (sealed_line_after words number front side before entry) ≡ sent_line_after number front side (without_payload before) entry
    after_forgets (Sent other link count llid body) = by (is_side other side && link == number)
      where
        by : (says : Bool) → without_payload (if says then Some (sealed_line words number front side (record { llid = llid; body = body })) else before)
            ≡ (if says then Some (record { pdu = record { llid = llid; body = body }; acked = (exchange_of number front side).acked }) else without_payload before)
        by true = refl
        by false = refl
    after_forgets (Turn slot a b) = refl
    after_forgets other = refl

    after_same : (entry : Entry) → says_sent number side entry ≡ false → sealed_line_after words number front side before entry ≡ before
    after_same (Sent other link count llid body) none =
        ap (λ b. if b then Some (sealed_line words number front side (record { llid = llid; body = body })) else before) none
    after_same (Turn slot a b) none = refl
    after_same other none = refl

  from_forgets : (front : List Entry) (before : Option SealedLine) (entries : List Entry)
      → without_payload (sealed_line_from words number front side before entries) ≡ sent_line_from number front side (without_payload before) entries
  from_forgets front before [] = refl
  from_forgets front before (entry ∷ entries) =
      from_forgets (front ++ entry ∷ []) (sealed_line_after words number front side before entry) entries
      ∙ ap (λ line. sent_line_from number (front ++ entry ∷ []) side line entries) (after_forgets front before entry)

  -- the lines are those that say what is carried
  pub forgets : (journal : List Entry) → without_payload (sealed_line_of words number journal side) ≡ sent_line_of number journal side
  unfolding sealed_line_of sent_line_of
  forgets journal = from_forgets [] None journal

  -- ---- a statement of a line with its payload

  module _ (P : SealedLine → Type 0) where
    abbrev IsSo : Option SealedLine → Type 0
    IsSo None = Unit {0}
    IsSo (Some line) = P line

    so_after : (front : List Entry) (before : Option SealedLine) (entry : Entry) → ((pdu : Pdu) → P (sealed_line words number front side pdu)) → IsSo before
        → IsSo (sealed_line_after words number front side before entry)
    so_after front before (Sent other link count llid body) each is = by (is_side other side && link == number)
      where
        by : (says : Bool) → IsSo (if says then Some (sealed_line words number front side (record { llid = llid; body = body })) else before)
        by true = each (record { llid = llid; body = body })
        by false = is
    so_after front before (Turn slot a b) each is = is
    so_after front before other each is = is

    so_from : (journal front : List Entry) (before : Option SealedLine) (entries : List Entry) → journal ≡ front ++ entries
        → ((one rest : List Entry) (pdu : Pdu) → journal ≡ one ++ rest → P (sealed_line words number one side pdu)) → IsSo before
        → IsSo (sealed_line_from words number front side before entries)
    so_from journal front before [] at each is = is
    so_from journal front before (entry ∷ entries) at each is =
        so_from journal (front ++ entry ∷ []) (sealed_line_after words number front side before entry) entries (at ∙ sym (append_assoc front (entry ∷ []) entries)) each
        (so_after front before entry (λ pdu. each front (entry ∷ entries) pdu at) is)

    so_line : (journal : List Entry) → ((one rest : List Entry) (pdu : Pdu) → journal ≡ one ++ rest → P (sealed_line words number one side pdu)) → IsSo (sealed_line_of words number journal side)
    unfolding sealed_line_of
    so_line journal each = so_from journal [] None journal refl each tt

  -- ---- it is a payload of the PDU that is carried

  by_is : (found : Option Keyed) (pdu : Pdu) → IsPayload pdu (payload_by found pdu)
  by_is None pdu = in_clear pdu
  by_is (Some k) pdu = made_is k.end pdu

  carried_by : (acked : ℕ) (line : Option SealedLine) → IsSo (λ one. IsPayload one.pdu one.payload) line
      → IsPayload (pdu_carried (without_payload line) acked) (payload_of_line line acked)
  carried_by acked None is = in_clear empty_pdu
  carried_by acked (Some line) is = by (line.acked == acked)
    where
      by : (same : Bool) → IsPayload (if same then line.pdu else empty_pdu) (if same then line.payload else [])
      by true = is
      by false = in_clear empty_pdu

  pub carries_payload : (journal : List Entry) → IsPayload (carried_of number journal side) (payload_carried words number journal side)
  carries_payload journal =
      let acked = (exchange_of number journal side).acked in
      subst (λ line. IsPayload (pdu_carried line acked) (payload_carried words number journal side)) (forgets journal)
      (carried_by acked (sealed_line_of words number journal side)
      (so_line (λ one. IsPayload one.pdu one.payload) journal (λ one rest pdu at. by_is (keyed_on words side number one) pdu)))

  pub line_payload : (journal : List Entry) (one : SealedLine) → sealed_line_of words number journal side ≡ Some one → IsPayload one.pdu one.payload
  line_payload journal one is =
      subst (IsSo (λ line. IsPayload line.pdu line.payload)) is
      (so_line (λ line. IsPayload line.pdu line.payload) journal (λ front rest pdu at. by_is (keyed_on words side number front) pdu))

  -- ---- where the end never seals, it is the body

  clear_by : (empty does : Bool) (body sealed : List ℕ) → does ≡ false → (if empty then body else (if does then sealed else body)) ≡ body
  clear_by true does body sealed none = refl
  clear_by false false body sealed none = refl
  clear_by false true body sealed none = absurd cc

  made_clear : (k : Keyed) (pdu : Pdu) → seals k.end.role k.end.phase ≡ false → payload_made k.end pdu ≡ pdu.body
  made_clear k pdu none =
      clear_by (is_empty pdu) (seals k.end.role k.end.phase) pdu.body
      (sealed_payload k.end.key (nonce k.end.sent (is_central k.end.role) k.end.iv) (additional_data pdu.llid) pdu.body) none

  found_clear : (found : Option Keyed) (pdu : Pdu) → ((k : Keyed) → found ≡ Some k → seals k.end.role k.end.phase ≡ false) → payload_by found pdu ≡ pdu.body
  found_clear None pdu none = refl
  found_clear (Some k) pdu none = made_clear k pdu (none k refl)

  body_by : (acked : ℕ) (line : Option SealedLine) → IsSo (λ one. one.payload ≡ one.pdu.body) line
      → payload_of_line line acked ≡ (pdu_carried (without_payload line) acked).body
  body_by acked None is = refl
  body_by acked (Some line) is = by (line.acked == acked)
    where
      by : (same : Bool) → (if same then line.payload else []) ≡ (if same then line.pdu else empty_pdu).body
      by true = is
      by false = refl

  bodies : (journal : List Entry) → NeverSeals words number journal side → IsSo (λ one. one.payload ≡ one.pdu.body) (sealed_line_of words number journal side)
  bodies journal never =
      so_line (λ one. one.payload ≡ one.pdu.body) journal (λ one rest pdu at. found_clear (keyed_on words side number one) pdu (λ k is. never one rest k at is))

  pub carries_body : (journal : List Entry) → NeverSeals words number journal side → payload_carried words number journal side ≡ (carried_of number journal side).body
  carries_body journal never =
      let acked = (exchange_of number journal side).acked in
      body_by acked (sealed_line_of words number journal side) (bodies journal never)
      ∙ ap (λ line. (pdu_carried line acked).body) (forgets journal)

  -- ---- it is the same until a PDU is acknowledged, or a new one is sent

  from_more : (front : List Entry) (before : Option SealedLine) (entries : List Entry) (entry : Entry)
      → sealed_line_from words number front side before (entries ++ entry ∷ []) ≡ sealed_line_after words number (front ++ entries) side (sealed_line_from words number front side before entries) entry
  from_more front before [] entry = ap (λ xs. sealed_line_after words number xs side before entry) (sym (append-nil front))
  from_more front before (first ∷ entries) entry =
      let next = sealed_line_after words number front side before first in
      from_more (front ++ first ∷ []) next entries entry
      ∙ ap (λ xs. sealed_line_after words number xs side (sealed_line_from words number (front ++ first ∷ []) side next entries) entry) (append_assoc front (first ∷ []) entries)

  pub line_more : (journal : List Entry) (entry : Entry)
      → sealed_line_of words number (journal ++ entry ∷ []) side ≡ sealed_line_after words number journal side (sealed_line_of words number journal side) entry
  unfolding sealed_line_of
  line_more journal entry = from_more [] None journal entry

  -- no entry of these says that a new PDU is sent
  pub same_line : (front more : List Entry) → NoneSent number side more → sealed_line_of words number (front ++ more) side ≡ sealed_line_of words number front side
  same_line front [] none = ap (λ xs. sealed_line_of words number xs side) (append-nil front)
  same_line front (entry ∷ more) none =
      ap (λ xs. sealed_line_of words number xs side) (sym (append_assoc front (entry ∷ []) more))
      ∙ same_line (front ++ entry ∷ []) more none.1
      ∙ line_more front entry ∙ after_same front (sealed_line_of words number front side) entry none.0

  pub same_payload : (front more : List Entry) → NoneSent number side more
      → (exchange_of number (front ++ more) side).acked ≡ (exchange_of number front side).acked
      → payload_carried words number (front ++ more) side ≡ payload_carried words number front side
  same_payload front more none acked =
      ap (λ line. payload_of_line line (exchange_of number (front ++ more) side).acked) (same_line front more none)
      ∙ ap (payload_of_line (sealed_line_of words number front side)) acked

-- a packet of a side acknowledges none of its own PDUs
own_packet : (side : Side) (good empty : Bool) (ends : Side → Exchanged) → (after_packet side good empty ends side).acked ≡ (ends side).acked
own_packet A good empty ends = refl
own_packet B good empty ends = refl

own_air : (number : ℕ) (front : List Entry) (side : Side) (channel : ℕ) (octets : List ℕ) (fate : Mark) (verdict : Verdict) (ends : Side → Exchanged)
    → (exchange_after number front ends (Air side channel octets fate verdict) side).acked ≡ (ends side).acked
own_air number front side channel octets fate verdict ends =
    by (not (is_advertising channel) && is_number (link_of_packet front side octets) number) (is_good verdict) (carries_empty (link_numbered number front) channel octets)
  where
    by : (of_link good empty : Bool) → ((if of_link then after_packet side good empty ends else ends) side).acked ≡ (ends side).acked
    by true good empty = own_packet side good empty ends
    by false good empty = refl

pub packet_again : (words : Words) (number : ℕ) (front : List Entry) (side : Side) (channel : ℕ) (octets : List ℕ) (fate : Mark) (verdict : Verdict)
    → payload_carried words number (front ++ Air side channel octets fate verdict ∷ []) side ≡ payload_carried words number front side
packet_again words number front side channel octets fate verdict =
    let entry = Air side channel octets fate verdict in
    same_payload words number side front (entry ∷ []) (refl, tt)
    (ap (λ (ends : Side → Exchanged). (ends side).acked) (exchange_more number front entry)
    ∙ own_air number front side channel octets fate verdict (exchange_of number front))

-- so two packets have one payload, where no PDU was acknowledged between them and no new one was sent
pub one_payload : (words : Words) (front more : List Entry) (side : Side) (channel channel_too : ℕ) (octets octets_too : List ℕ) (fate : Mark) (verdict : Verdict)
    → (p : HasPayload words front side channel octets) (q : HasPayload words (front ++ Air side channel octets fate verdict ∷ more) side channel_too octets_too)
    → q.packet.number ≡ p.packet.number → NoneSent p.packet.number side more
    → (exchange_of p.packet.number (front ++ Air side channel octets fate verdict ∷ more) side).acked ≡ (exchange_of p.packet.number front side).acked
    → q.packet.payload ≡ p.packet.payload
one_payload words front more side channel channel_too octets octets_too fate verdict p q same none acked =
    let entry = Air side channel octets fate verdict in
    q.payload_is ∙ ap (λ n. payload_carried words n (front ++ entry ∷ more) side) same
    ∙ same_payload words p.packet.number side front (entry ∷ more) (refl, none) acked ∙ sym p.payload_is

pub sent_again : (words : Words) (front more : List Entry) (side : Side) (channel channel_too : ℕ) (octets octets_too : List ℕ) (fate : Mark) (verdict : Verdict)
    → HasPayload words front side channel octets → HasPayload words (front ++ Air side channel octets fate verdict ∷ more) side channel_too octets_too
    → IsSentAgain words front more side channel channel_too octets octets_too fate verdict
sent_again words front more side channel channel_too octets octets_too fate verdict first again = record {
  first = first;
  again = again;
  same = one_payload words front more side channel channel_too octets octets_too fate verdict first again;
}
