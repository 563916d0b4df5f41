-- A packet that is not missed was listened for, and one that begins with the access address for which a controller
-- listens is not missed there.
use Rattle.std.proofs.Common.{◌≡◌, ◌≢◌, ℕ, zero, suc, ◌+◌, ◌==◌, ◌&&◌, not, Bool, true, false, Option, Some, None, List, refl, sym, ap, ◌∙◌, arith, if◌then◌else◌}
use Rattle.std.specs.Prelude.{nat_lt, take}
use Rattle.std.specs.Str.{bytes_eq}
use Rattle.std.proofs.lemmas.Bool.{eqb-true}
use Rattle.std.proofs.lemmas.Slice.Eq.{bytes_eq-Decides}
use Rattle.air_frame.specs.Advertising.{advertising_access, advertising_crc_init}
use Rattle.air_frame.specs.Hearing.{heard_in}
use Rattle.air_frame.specs.Packet.{access_octets, is_packet, on_air, pdu_in}
use Rattle.air_frame.specs.declared.Heard.{Heard}
use Rattle.air_frame.specs.declared.Heard.TheVariants.{NotOurs, Broken as Faulty, Whole}
use Rattle.adv_pdu.specs.Pdu.{written}
use Rattle.adv_pdu.specs.declared.pdu.AdvPdu.{AdvPdu}
use Rattle.ble_base.specs.declared.roles.Side.{Side}
use Rattle.ble_base.specs.declared.verdicts.Verdict.TheVariants.{Broken, Forged, Good, Missed}
use Rattle.journal.specs.declared.entries.Entry.{Entry}
use Rattle.journal.specs.declared.entries.Mark.TheVariants.{Pass as Passed, Lost as WasLost, Damage as Damaged}
use Rattle.radio_replay.specs.Damage.{damaged_packet}
use Rattle.radio_replay.specs.declared.fates.Fate.{Fate}
use Rattle.radio_replay.specs.declared.fates.Fate.TheVariants.{Pass, Lost, Damage}
use Rattle.journal_wants.specs.controller_model.declared.doing.Doing.{Doing}
use Rattle.journal_wants.specs.controller_model.declared.doing.Doing.TheVariants.{Advertises, AwaitsRequest, AwaitsResponse, CentralListens, CentralSends, Connects, Initiates, PeripheralListens, PeripheralSends, Requests, Responds, Rests, Scans}
use Rattle.journal_wants.specs.controller_model.Facts.{Facts, Idle, Listens, Sends, Use}
use Rattle.journal_wants.specs.controller_model.Packets.{advertisement_sent, channel_listened, connect_sent, request_sent, response_sent, sends_on, sends_pdu, use_for, verdict_advertising, verdict_by, verdict_of}
use Rattle.journal_wants.specs.controller_model.link_model.Facts.{Facts as EndFacts}
use Rattle.journal_wants.specs.controller_model.link_model.Packets.{heard_of, is_forged_pdu, verdict_of as end_verdict}
use Rattle.journal_wants.specs.controller_model.link_model.Payload.{opens_now}
use Rattle.journal_wants.specs.controller_model.link_model.Setup.{Setup as EndSetup}
use Rattle.journal_wants.specs.controller_model.link_model.Verdicts.{has_room_for, verdict_by as end_verdict_by}
use Rattle.journal_wants.specs.controller_model.open_links.OpenLinks.{OpenLink, link_at}
use Rattle.journal_wants.specs.run_model.Journal.{mark_of}
use Rattle.journal_wants.specs.run_model.Links.{is_advertising}
use Rattle.journal_wants.specs.run_model.Run.{is_lost, reaches, verdict_where}
use Rattle.journal_wants.specs.Station.{Station}
use Rattle.journal_wants.proofs.journal_acks.TwoStations.{same_number}
use Rattle.journal_wants.proofs.journal_acks.EntryNotes.{channel_if}
use Rattle.journal_moves.specs.Doing.{after_sending}
use Rattle.journal_moves.specs.Moves.{IsPacketOf, phase_listening, phase_sending}
use Rattle.journal_moves.proofs.DoingPhases.{IsPhase}
use Rattle.journal_moves.proofs.Phases.{phase_of}

-- ---- who listens

pub pdu_heard_not : (own channel : ℕ) (pdu : Option AdvPdu) (X : Type 0) → sends_pdu own pdu ≡ Listens channel → X
pdu_heard_not own channel None X is = absurd (let h : Idle ≡ Listens channel = is in absurd cc)
pdu_heard_not own channel (Some pdu) X is = absurd cc

pub link_heard_not : (place : Option OpenLink) (channel : ℕ) (X : Type 0) → sends_on place ≡ Listens channel → X
link_heard_not None channel X is = absurd (let h : Idle ≡ Listens channel = is in absurd cc)
link_heard_not (Some link) channel X is = absurd cc

-- a packet that is not missed was listened for on its channel
pub not_missed : (wanted : Use) (fate : Fate) (channel : ℕ) (facts : Facts) (octets : List ℕ)
    → verdict_where (reaches fate channel (channel_listened wanted)) facts octets ≢ Missed → wanted ≡ Listens channel
not_missed (Sends own sent) fate channel facts octets heard = absurd (heard refl)
not_missed Idle fate channel facts octets heard = absurd (heard refl)
not_missed (Listens own) fate channel facts octets heard = by (not (is_lost fate)) (own == channel) refl heard
  where
    by : (left same : Bool) → (own == channel) ≡ same → verdict_where (left && same) facts octets ≢ Missed
        → Listens own ≡ Listens channel
    by true true same heard = ap Listens (eqb-true own channel same)
    by true false same heard = absurd (heard refl)
    by false same is heard = absurd (heard refl)

-- who sends listens for nothing
pub sender_deaf : (doing : Doing) (base : Facts) (channel : ℕ) → use_for base doing ≡ Listens channel
    → phase_sending doing ≡ None
sender_deaf (Advertises own) base channel is = pdu_heard_not own channel (advertisement_sent base) _ is
sender_deaf (Responds own) base channel is = pdu_heard_not own channel (response_sent base) _ is
sender_deaf (Requests own advertiser) base channel is = pdu_heard_not own channel (request_sent advertiser base) _ is
sender_deaf (Connects own link) base channel is = pdu_heard_not own channel (connect_sent link) _ is
sender_deaf (CentralSends handle) base channel is = link_heard_not (link_at handle base.links) channel _ is
sender_deaf (PeripheralSends handle) base channel is = link_heard_not (link_at handle base.links) channel _ is
sender_deaf (Scans own) base channel is = refl
sender_deaf (Initiates own) base channel is = refl
sender_deaf (PeripheralListens handle) base channel is = refl
sender_deaf (AwaitsRequest own) base channel is = refl
sender_deaf (CentralListens handle) base channel is = refl
sender_deaf (AwaitsResponse own) base channel is = refl
sender_deaf Rests base channel is = refl

pub listening_is : (phases : ℕ) (doing : Doing) (base : Facts) (channel : ℕ) → use_for base doing ≡ Listens channel
    → IsPhase phases (phase_of doing)
    → phase_listening doing ≡ Some phases
listening_is phases (Scans own) base channel listens is = ap Some is
listening_is phases (Initiates own) base channel listens is = ap Some is
listening_is phases (PeripheralListens handle) base channel listens is = ap Some is
listening_is phases (AwaitsRequest own) base channel listens is = ap Some is
listening_is phases (CentralListens handle) base channel listens is = ap Some is
listening_is phases (AwaitsResponse own) base channel listens is = ap Some is
listening_is phases Rests base channel listens is = absurd (let h : Idle ≡ Listens channel = listens in absurd cc)
listening_is phases (Advertises own) base channel listens is =
    pdu_heard_not own channel (advertisement_sent base) _ listens
listening_is phases (Responds own) base channel listens is = pdu_heard_not own channel (response_sent base) _ listens
listening_is phases (Requests own advertiser) base channel listens is =
    pdu_heard_not own channel (request_sent advertiser base) _ listens
listening_is phases (Connects own link) base channel listens is =
    pdu_heard_not own channel (connect_sent link) _ listens
listening_is phases (CentralSends handle) base channel listens is =
    link_heard_not (link_at handle base.links) channel _ listens
listening_is phases (PeripheralSends handle) base channel listens is =
    link_heard_not (link_at handle base.links) channel _ listens

-- ---- what reaches a listener

ours_by : (channel : ℕ) (octets : List ℕ) (own found : Bool) → own ≡ true
    → (if own then (if found then Whole (record { items = pdu_in channel octets }) else Faulty) else NotOurs) ≢ NotOurs
ours_by channel octets true true is same =
    let h : Whole (record { items = pdu_in channel octets }) ≡ NotOurs = same in absurd cc
ours_by channel octets true false is same = let h : Faulty ≡ NotOurs = same in absurd cc
ours_by channel octets false found is same = let h : false ≡ true = is in absurd cc

is_ours : (channel access init : ℕ) (octets : List ℕ) → take 4 octets ≡ access_octets access
    → heard_in channel access init octets ≢ NotOurs
unfolding heard_in
is_ours channel access init octets begins =
    ours_by channel octets (bytes_eq (take 4 octets) (access_octets access)) (is_packet channel access init octets)
    ((bytes_eq-Decides (take 4 octets) (access_octets access)).1 begins)

advertising_by : (found : Heard) → found ≢ NotOurs → verdict_by found ≢ Missed
advertising_by NotOurs ours same = ours refl
advertising_by Faulty ours same = let h : Broken ≡ Missed = same in absurd cc
advertising_by (Whole pdu) ours same = let h : Good ≡ Missed = same in absurd cc

pub not_missed_advertising : (channel : ℕ) (octets : List ℕ) → take 4 octets ≡ access_octets advertising_access
    → verdict_advertising channel octets ≢ Missed
not_missed_advertising channel octets begins =
    advertising_by (heard_in channel advertising_access advertising_crc_init octets)
    (is_ours channel advertising_access advertising_crc_init octets begins)

whole_by : (room forged : Bool) → (if room then (if forged then Forged else Good) else Broken) ≢ Missed
whole_by true true same = let h : Forged ≡ Missed = same in absurd cc
whole_by true false same = let h : Good ≡ Missed = same in absurd cc
whole_by false forged same = let h : Broken ≡ Missed = same in absurd cc

end_by : (max_rx : ℕ) (opens : Bool) (is_forged : List ℕ → Bool) (found : Heard) → found ≢ NotOurs
    → end_verdict_by max_rx opens is_forged found ≢ Missed
end_by max_rx opens is_forged NotOurs ours same = ours refl
end_by max_rx opens is_forged Faulty ours same = let h : Broken ≡ Missed = same in absurd cc
end_by max_rx opens is_forged (Whole pdu) ours same =
    whole_by (has_room_for max_rx opens pdu.items) (is_forged pdu.items) same

pub not_missed_end : (setup : EndSetup) (facts : EndFacts) (octets : List ℕ)
    → take 4 octets ≡ access_octets setup.link.fields.access → end_verdict setup facts octets ≢ Missed
unfolding end_verdict
not_missed_end setup facts octets begins =
    end_by setup.link.max_rx (opens_now facts.encryption.end) (is_forged_pdu facts) (heard_of setup facts octets)
    (is_ours facts.event.channel setup.link.fields.access setup.link.fields.crc_init octets begins)

-- ---- a packet that passes reaches a listener on its channel

pub heard_where : (fate : Fate) (wanted : Use) (channel : ℕ) (facts : Facts) (octets : List ℕ)
    → Passed ≡ mark_of fate → wanted ≡ Listens channel → verdict_of facts octets ≢ Missed
    → verdict_where (reaches fate channel (channel_listened wanted)) facts (damaged_packet fate octets) ≢ Missed
heard_where Pass wanted channel facts octets passes listens heard = λ missed. heard (
    sym (ap (λ (one : Use). verdict_where (reaches Pass channel (channel_listened one)) facts octets) listens
    ∙ ap (λ (reached : Bool). verdict_where reached facts octets) (same_number channel))
    ∙ missed
    )
heard_where Lost wanted channel facts octets passes listens heard =
    absurd (let h : Passed ≡ WasLost = passes in absurd cc)
heard_where (Damage at pattern) wanted channel facts octets passes listens heard =
    absurd (let h : Passed ≡ Damaged at pattern.items = passes in absurd cc)

-- ---- a packet on an advertising channel has its access address

packet_begins : (channel access init : ℕ) (pdu : List ℕ)
    → take 4 (on_air channel access init pdu) ≡ access_octets access
packet_begins channel access init pdu = refl

module _ (said : Station) (front : List Entry) (side : Side) (channel : ℕ) (octets : List ℕ)
    (on : is_advertising channel ≡ true) where
  pub begins_so : (doing : Doing) → IsPacketOf said front side channel octets doing
      → take 4 octets ≡ access_octets advertising_access
  begins_so (Advertises due) is =
      ap (take 4) is.is_packet ∙ packet_begins channel advertising_access advertising_crc_init (written is.sent)
  begins_so (Responds due) is =
      ap (take 4) is.is_packet ∙ packet_begins channel advertising_access advertising_crc_init (written is.sent)
  begins_so (Requests due advertiser) is =
      ap (take 4) is.is_packet ∙ packet_begins channel advertising_access advertising_crc_init (written is.sent)
  begins_so (Connects due link) is =
      ap (take 4) is.is_packet ∙ packet_begins channel advertising_access advertising_crc_init (written is.sent)
  begins_so (CentralSends handle) is = absurd (let h : true ≡ false = sym on ∙ is.on_data_channel in absurd cc)
  begins_so (PeripheralSends handle) is = absurd (let h : true ≡ false = sym on ∙ is.on_data_channel in absurd cc)
  begins_so other is = absurd is

-- ---- who sent in a phase listens in a later one

not_next : (own next phases : ℕ) (X : Type 0) → own ≡ phases → next ≡ own + 1 → Some next ≡ Some phases → X
not_next own next phases X is later same = let one : next ≡ phases = cc in absurd (omega (arith, is, later, one))

pub sent_later : (phases : ℕ) (doing : Doing) (X : Type 0) → IsPhase phases (phase_of doing)
    → phase_listening (after_sending doing) ≡ Some phases → X
sent_later phases (Advertises channel) X is listens = not_next 0 1 phases X is refl listens
sent_later phases (Requests channel advertiser) X is listens = not_next 1 2 phases X is refl listens
sent_later phases (CentralSends handle) X is listens = not_next 0 1 phases X is refl listens
sent_later phases other X is listens = absurd (let h : None ≡ Some phases = listens in absurd cc)

pub last_channel : (count channel : ℕ) → nat_lt 0 count ≡ true → channel_if count channel ≡ Some channel
last_channel zero channel none = absurd cc
last_channel (suc count) channel some = refl

pub channel_same : (count own channel : ℕ) → channel_if count own ≡ Some channel → own ≡ channel
channel_same zero own channel is = absurd (let h : None ≡ Some channel = is in absurd cc)
channel_same (suc count) own channel is = let same : Some own ≡ Some channel = is in cc
