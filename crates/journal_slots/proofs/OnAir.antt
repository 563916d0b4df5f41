-- What the event of an end holds of its packets was on the air.
use Rattle.std.proofs.Common.{◌≡◌, ℕ, ◌==◌, ◌&&◌, ◌⊎◌, inl, inr, Bool, true, false, Option, Some, None, List, [], ◌∷◌, ◌++◌, refl, sym, ap, subst, ◌∙◌, append_assoc}
use Rattle.std.specs.Prelude.{drop, not, take, if◌then◌else◌}
use Rattle.std.specs.Str.{bytes_eq}
use Rattle.std.proofs.lemmas.Bool.{eqb-true}
use Rattle.std.proofs.lemmas.Option.{none-some, same_Some}
use Rattle.ble_base.specs.Side.{other_side}
use Rattle.ble_base.specs.declared.roles.Side.{Side}
use Rattle.ble_base.specs.declared.verdicts.Verdict.TheVariants.{Good}
use Rattle.air_frame.specs.declared.Heard.TheVariants.{NotOurs, Broken, Whole}
use Rattle.air_frame.specs.Hearing.{heard_in}
use Rattle.air_frame.specs.Packet.{access_octets, is_packet, on_air, pdu_in}
use Rattle.data_pdu.specs.Header.{header_in}
use Rattle.journal.specs.declared.entries.Entry.{Entry}
use Rattle.journal.specs.declared.entries.Entry.TheVariants.{Air}
use Rattle.journal_acks.specs.link_model.declared.events.ConnectionEvent.{ConnectionEvent}
use Rattle.journal_acks.specs.link_model.Controls.{goes_on}
use Rattle.journal_acks.specs.link_model.Entering.{facts_entered_if}
use Rattle.journal_acks.specs.link_model.Facts.{Facts as EndFacts}
use Rattle.journal_acks.specs.link_model.Verdicts.{has_room_for, pdu_by, pdu_of, whole_in}
use Rattle.journal_acks.specs.link_model.Data.{is_empty}
use Rattle.journal_acks.specs.link_model.Packets.{counts_here, good_pdu, has_new_pdu, more_sent, pdu_read, pdu_read_in, whole_pdu}
use Rattle.journal_acks.specs.link_model.Payload.{first_octet, opened_if, opens_now, read_pdu}
use Rattle.journal_acks.specs.link_model.enc_phase.Sealing.{EncEnd, is_right, opened_body}
use Rattle.journal_acks.specs.link_model.Setup.{Setup as EndSetup}
use Rattle.journal_acks.specs.link_model.Step.{EventEntered, PacketReceived, PacketSent}
use Rattle.journal_acks.specs.open_links.OpenLinks.{OpenLink, facts_in, link_after}
use Rattle.journal_acks.specs.open_links.Turns.{entered_if, enters_in, link_entered}
use Rattle.journal_acks.proofs.open_links.Unmoved.{entered_setup}
use Rattle.journal_acks.specs.controller_model.declared.doing.Doing.{Doing}
use Rattle.journal_acks.specs.controller_model.declared.doing.Turn.{Turn}
use Rattle.journal_acks.specs.controller_model.Facts.{Facts}
use Rattle.journal_acks.proofs.run_laws.Agreed.{step_facts}
use Rattle.journal_acks.proofs.Counting.{taking_if, nothing_taken}
use Rattle.journal_acks.proofs.link_calls.Exchanging.{uses_either}
use Rattle.journal_acks.proofs.link_calls.LinkCalls.{HasBegun}
use Rattle.journal_acks.specs.link_calls.Turns.{fixed_if}
use Rattle.journal_acks.specs.link_calls.Uses.{listens_under, sends_under}
use Rattle.journal_acks.proofs.link_calls.RadioUses.{first_of_both}
use Rattle.journal_acks.specs.link_calls.Turns.{sent_if}
use Rattle.journal_slots.specs.SecondSlot.{HasToContinue, PacketInSlot, has_more}
use Rattle.journal_slots.proofs.ExchangeSlots.{event_after_fixing, event_after_receiving, event_after_sending, event_received}

-- ---- packets in the slot of an event

-- a side judged a packet of the other side good
pub record IsHeardIn (number slot : ℕ) (side : Side) (journal : List Entry) : Type 0 where
  pub packet : PacketInSlot number slot (other_side side) journal
  pub good : packet.verdict ≡ Good

-- a packet that it sent or judged good says that more waits
pub data SaysMore (number slot : ℕ) (side : Side) (journal : List Entry) : Type 0 where
  InHeard : (heard : IsHeardIn number slot side journal) → has_more heard.packet.channel heard.packet.octets ≡ true → SaysMore number slot side journal
  InSent : (packet : PacketInSlot number slot side journal) → has_more packet.channel packet.octets ≡ true → SaysMore number slot side journal

pub continues : (number slot : ℕ) (side : Side) (journal : List Entry) → IsHeardIn number slot side journal → SaysMore number slot side journal → HasToContinue number slot side journal
continues number slot side journal before (InHeard heard more) = record { heard = heard.packet; good = heard.good; more = inl more }
continues number slot side journal heard (InSent sent more) = record { heard = heard.packet; good = heard.good; more = inr (sent, more) }

-- the journal grows
packet_stays : (number slot : ℕ) (sender : Side) (journal rest : List Entry) → PacketInSlot number slot sender journal → PacketInSlot number slot sender (journal ++ rest)
packet_stays number slot sender journal rest packet =
    let entry = Air sender packet.channel packet.octets packet.fate packet.verdict in record {
      before = packet.before;
      channel = packet.channel;
      octets = packet.octets;
      fate = packet.fate;
      verdict = packet.verdict;
      after = packet.after ++ rest;
      is_at = ap (λ xs. xs ++ rest) packet.is_at ∙ append_assoc packet.before (entry ∷ packet.after) rest;
      on_data_channel = packet.on_data_channel;
      belongs = packet.belongs;
      in_turn = packet.in_turn;
    }

heard_stays : (number slot : ℕ) (side : Side) (journal rest : List Entry) → IsHeardIn number slot side journal → IsHeardIn number slot side (journal ++ rest)
unfolding packet_stays
heard_stays number slot side journal rest heard = record { packet = packet_stays number slot (other_side side) journal rest heard.packet; good = heard.good }

more_stays : (number slot : ℕ) (side : Side) (journal rest : List Entry) → SaysMore number slot side journal → SaysMore number slot side (journal ++ rest)
unfolding packet_stays heard_stays
more_stays number slot side journal rest (InHeard heard more) = InHeard (heard_stays number slot side journal rest heard) more
more_stays number slot side journal rest (InSent sent more) = InSent (packet_stays number slot side journal rest sent) more

-- ---- what an event holds of them

pub record IsOnAir (number : ℕ) (side : Side) (journal : List Entry) (event : ConnectionEvent) : Type 0 where
  pub heard : event.heard ≡ true → IsHeardIn number event.slot side journal
  pub more : event.more ≡ true → SaysMore number event.slot side journal

pub on_air_stays : (number : ℕ) (side : Side) (journal rest : List Entry) (event : ConnectionEvent) → IsOnAir number side journal event → IsOnAir number side (journal ++ rest) event
on_air_stays number side journal rest event is = record {
  heard = λ heard. heard_stays number event.slot side journal rest (is.heard heard);
  more = λ more. more_stays number event.slot side journal rest (is.more more);
}

-- one in which nothing was sent or heard yet
pub new_on_air : (number : ℕ) (side : Side) (journal : List Entry) (event : ConnectionEvent) → event.heard ≡ false → event.more ≡ false → IsOnAir number side journal event
new_on_air number side journal event unheard quiet = record {
  heard = λ heard. absurd (let h : true ≡ false = sym heard ∙ unheard in absurd cc);
  more = λ more. absurd (let h : true ≡ false = sym more ∙ quiet in absurd cc);
}

-- ---- what changes nothing of that

entry_on_air : (number : ℕ) (side : Side) (journal : List Entry) (goes : Bool) (slot : ℕ) (setup : EndSetup) (facts : EndFacts) → IsOnAir number side journal facts.event
    → IsOnAir number side journal (facts_entered_if goes setup slot facts).event
entry_on_air number side journal true slot setup facts is = new_on_air number side journal (facts_entered_if true setup slot facts).event refl refl
entry_on_air number side journal false slot setup facts is = is

entered_on_air : (number : ℕ) (side : Side) (journal : List Entry) (enters : Bool) (slot : ℕ) (link : OpenLink) → IsOnAir number side journal (facts_in link).event
    → IsOnAir number side journal (facts_in (entered_if enters slot link)).event
entered_on_air number side journal true slot link is =
    let facts = facts_in link in
    subst (λ (f : EndFacts). IsOnAir number side journal f.event) (sym (step_facts link (EventEntered slot)))
    (entry_on_air number side journal (goes_on facts) slot link.setup facts is)
entered_on_air number side journal false slot link is = is

fixed_event : (fixes : Bool) (link : OpenLink) → (facts_in (fixed_if fixes link)).event ≡ (facts_in link).event
fixed_event true link = event_after_fixing link
fixed_event false link = refl

pub event_on_air : (number : ℕ) (side : Side) (journal : List Entry) (one other : OpenLink) → (facts_in other).event ≡ (facts_in one).event → IsOnAir number side journal (facts_in one).event
    → IsOnAir number side journal (facts_in other).event
event_on_air number side journal one other same is = subst (IsOnAir number side journal) (sym same) is

-- a link as a turn has begun
pub base_on_air : (number : ℕ) (side : Side) (journal : List Entry) (facts : Facts) (slot : ℕ) (on : Bool) (handle : ℕ) (doing : Doing) (after : OpenLink)
    (begun : HasBegun facts slot on handle doing after) → IsOnAir number side journal (facts_in begun.link).event → IsOnAir number side journal (facts_in begun.base).event
base_on_air number side journal facts slot on handle doing after begun is =
    event_on_air number side journal (link_entered slot begun.link) begun.base
    (ap (λ (l : OpenLink). (facts_in l).event) begun.base_is ∙ fixed_event begun.fixes begun.entered
    ∙ (λ i. (facts_in (record { setup = (begun.setup_is ∙ sym (entered_setup slot begun.link)) i; past = begun.past_is i; last_served = 0 })).event))
    (entered_on_air number side journal (enters_in slot begun.link) slot begun.link is)

-- whether there is room for data does not matter
pub room_event : (slot : ℕ) (octets : List ℕ) (room other : Bool) (link : OpenLink)
    → (facts_in (link_after (PacketReceived slot octets room) link)).event ≡ (facts_in (link_after (PacketReceived slot octets other) link)).event
room_event slot octets room other link = event_after_receiving slot octets room link ∙ sym (event_after_receiving slot octets other link)

-- ---- it sends a packet, which is on the air

second_of_both : (one other : Bool) → (one && other) ≡ true → other ≡ true
second_of_both true other is = is
second_of_both false other is = absurd cc

pub sent_on_air : (number : ℕ) (side : Side) (journal : List Entry) (slot : ℕ) (link : OpenLink) → IsOnAir number side journal (facts_in link).event
    → (packet : PacketInSlot number slot side journal) → has_more packet.channel packet.octets ≡ more_sent (facts_in link)
    → IsOnAir number side journal (facts_in (link_after (PacketSent slot) link)).event
sent_on_air number side journal slot link is packet says =
    let event = (facts_in link).event in
    subst (IsOnAir number side journal) (sym (event_after_sending slot link)) (record {
      heard = is.heard;
      more = λ more. by (uses_either event.more ((slot == event.slot) && more_sent (facts_in link)) more);
    })
  where
    by : ((facts_in link).event.more ≡ true) ⊎ (((slot == (facts_in link).event.slot) && more_sent (facts_in link)) ≡ true) → SaysMore number (facts_in link).event.slot side journal
    by (inl before) = is.more before
    by (inr now) =
        let event = (facts_in link).event in
        subst (λ n. SaysMore number n side journal) (eqb-true slot event.slot (first_of_both (slot == event.slot) (more_sent (facts_in link)) now))
        (InSent packet (says ∙ second_of_both (slot == event.slot) (more_sent (facts_in link)) now))

-- ---- it receives one

abbrev IsPduIn : Option (List ℕ) → ℕ → List ℕ → Type 0
IsPduIn found channel octets = (pdu : List ℕ) → found ≡ Some pdu → pdu ≡ pdu_in channel octets

whole_octets : (setup : EndSetup) (facts : EndFacts) (octets : List ℕ) → IsPduIn (whole_pdu setup facts octets) facts.event.channel octets
unfolding whole_pdu heard_in
whole_octets setup facts octets =
    by (bytes_eq (take 4 octets) (access_octets setup.link.fields.access)) (is_packet facts.event.channel setup.link.fields.access setup.link.fields.crc_init octets)
    (has_room_for setup.link.max_rx opens (pdu_in facts.event.channel octets)) refl
  where
    opens : Bool
    opens = opens_now facts.encryption.end

    some : (fits : Bool) (found pdu : List ℕ) → pdu_by fits found ≡ Some pdu → pdu ≡ found
    some true found pdu is = let same : found ≡ pdu = cc in sym same
    some false found pdu is = absurd cc

    by : (ours whole fits : Bool) → has_room_for setup.link.max_rx opens (pdu_in facts.event.channel octets) ≡ fits
        → IsPduIn (whole_in setup.link.max_rx opens (if ours then (if whole then Whole (record { items = pdu_in facts.event.channel octets }) else Broken) else NotOurs)) facts.event.channel octets
    by true true fits is = λ pdu found. some (has_room_for setup.link.max_rx opens (pdu_in facts.event.channel octets)) (pdu_in facts.event.channel octets) pdu found
    by true false fits is = λ pdu found. absurd cc
    by false whole fits is = λ pdu found. absurd cc

-- a payload that is opened leaves its header; a PDU that is opened is not empty, so it has one
md_opened : (counts : Bool) (end : EncEnd) (pdu read : List ℕ) → (counts ≡ true → is_empty (pdu_of pdu) ≡ false) → read_pdu counts end pdu ≡ Some read
    → (header_in read).md ≡ (header_in pdu).md
md_opened false end pdu read some is = ap (λ (xs : List ℕ). (header_in xs).md) (sym (same_Some pdu read is))
md_opened true end pdu read some is = by (is_right end (first_octet pdu) (drop 2 pdu)) pdu (some refl) is
  where
    by : (right : Bool) (pdu : List ℕ) → is_empty (pdu_of pdu) ≡ false → opened_if right end pdu ≡ Some read → (header_in read).md ≡ (header_in pdu).md
    by false pdu some is = absurd (none-some read is)
    by true [] some is = absurd (let no : true ≡ false = some in absurd cc)
    by true (octet ∷ octets) some is =
        ap (λ (xs : List ℕ). (header_in xs).md) (sym (same_Some (take 2 (octet ∷ octets) ++ opened_body end (drop 2 (octet ∷ octets))) read is))

not_true : (b : Bool) → not b ≡ true → b ≡ false
not_true true is = absurd cc
not_true false is = refl

md_read : (facts : EndFacts) (pdu read : List ℕ) → pdu_read facts pdu ≡ Some read → (header_in read).md ≡ (header_in pdu).md
md_read facts pdu read is =
    md_opened (counts_here facts pdu) facts.encryption.end pdu read
    (λ counts. not_true (is_empty (pdu_of pdu)) (second_of_both (has_new_pdu facts (header_in pdu)) (not (is_empty (pdu_of pdu))) counts)) is

-- the PDU that was found says that more waits where that on the air does
abbrev SaysSameIn : Option (List ℕ) → ℕ → List ℕ → Type 0
SaysSameIn found channel octets = (pdu : List ℕ) → found ≡ Some pdu → (header_in pdu).md ≡ (header_in (pdu_in channel octets)).md

good_octets : (setup : EndSetup) (facts : EndFacts) (octets : List ℕ) → SaysSameIn (good_pdu setup facts octets) facts.event.channel octets
unfolding good_pdu
good_octets setup facts octets = by (whole_pdu setup facts octets) (whole_octets setup facts octets)
  where
    by : (whole : Option (List ℕ)) → IsPduIn whole facts.event.channel octets → SaysSameIn (pdu_read_in facts whole) facts.event.channel octets
    by None is = λ pdu found. absurd (none-some pdu found)
    by (Some air) is = λ pdu found. md_read facts air pdu found ∙ ap (λ (xs : List ℕ). (header_in xs).md) (is air refl)

module _ (number : ℕ) (side : Side) (journal : List Entry) (slot : ℕ) (event : ConnectionEvent) (is : IsOnAir number side journal event) (heard : IsHeardIn number slot side journal)
    (channel : heard.packet.channel ≡ event.channel) where
  received_by : (found : Option (List ℕ)) → SaysSameIn found event.channel heard.packet.octets → IsOnAir number side journal (event_received slot found event)
  received_by None pdu_is = is
  received_by (Some pdu) pdu_is = record {
    heard = λ now. first (uses_either event.heard (slot == event.slot) now);
    more = λ now. by (uses_either event.more ((slot == event.slot) && (header_in pdu).md) now);
  }
    where
      first : (event.heard ≡ true) ⊎ ((slot == event.slot) ≡ true) → IsHeardIn number event.slot side journal
      first (inl before) = is.heard before
      first (inr now) = subst (λ n. IsHeardIn number n side journal) (eqb-true slot event.slot now) heard

      by : (event.more ≡ true) ⊎ (((slot == event.slot) && (header_in pdu).md) ≡ true) → SaysMore number event.slot side journal
      by (inl before) = is.more before
      by (inr now) =
          subst (λ n. SaysMore number n side journal) (eqb-true slot event.slot (first_of_both (slot == event.slot) (header_in pdu).md now))
          (InHeard heard (ap (λ n. has_more n heard.packet.octets) channel ∙ sym (pdu_is pdu refl)
          ∙ second_of_both (slot == event.slot) (header_in pdu).md now))

pub received_on_air : (number : ℕ) (side : Side) (journal : List Entry) (slot : ℕ) (room : Bool) (link : OpenLink) → IsOnAir number side journal (facts_in link).event
    → (heard : IsHeardIn number slot side journal) → heard.packet.channel ≡ (facts_in link).event.channel
    → IsOnAir number side journal (facts_in (link_after (PacketReceived slot heard.packet.octets room) link)).event
received_on_air number side journal slot room link is heard channel =
    let octets = heard.packet.octets in
    subst (IsOnAir number side journal) (sym (event_after_receiving slot octets room link))
    (received_by number side journal slot (facts_in link).event is heard channel (good_pdu link.setup (facts_in link) octets) (good_octets link.setup (facts_in link) octets))

-- ---- one end

-- the link before it sends a packet that is not on the air yet, and after it received one that was on the air
pub record WasOnAir (sends : Bool) (slot : ℕ) (taken : OpenLink) (number : ℕ) (side : Side) (journal : List Entry) : Type 0 where
  pub base : OpenLink
  pub is : taken ≡ sent_if sends slot base
  pub on_air : IsOnAir number side journal (facts_in base).event

abbrev pub IsEndOnAir : Bool → Option (List ℕ) → ℕ → Turn → OpenLink → ℕ → Side → List Entry → Type 0
IsEndOnAir unsent received handle turn link number side journal =
    WasOnAir (unsent && sends_under handle turn.doing) turn.slot (taking_if (listens_under handle turn.doing) received turn.slot link) number side journal

was_stays : (sends : Bool) (slot : ℕ) (taken : OpenLink) (number : ℕ) (side : Side) (journal rest : List Entry) → WasOnAir sends slot taken number side journal
    → WasOnAir sends slot taken number side (journal ++ rest)
was_stays sends slot taken number side journal rest was =
    record { base = was.base; is = was.is; on_air = on_air_stays number side journal rest (facts_in was.base).event was.on_air }

pub not_sending : (sends : Bool) (slot : ℕ) (taken : OpenLink) (number : ℕ) (side : Side) (journal : List Entry) → sends ≡ false → WasOnAir sends slot taken number side journal
    → IsOnAir number side journal (facts_in taken).event
not_sending true slot taken number side journal none was = absurd cc
not_sending false slot taken number side journal none was = subst (λ (l : OpenLink). IsOnAir number side journal (facts_in l).event) (sym was.is) was.on_air

-- an end that neither is to send nor has a packet to take
pub plain : (unsent : Bool) (received : Option (List ℕ)) (handle : ℕ) (turn : Turn) (link : OpenLink) (number : ℕ) (side : Side) (journal : List Entry)
    → (unsent && sends_under handle turn.doing) ≡ false → (listens_under handle turn.doing ≡ true → received ≡ None)
    → IsEndOnAir unsent received handle turn link number side journal → IsOnAir number side journal (facts_in link).event
plain unsent received handle turn link number side journal none nothing was =
    subst (λ (l : OpenLink). IsOnAir number side journal (facts_in l).event) (nothing_taken (listens_under handle turn.doing) received turn.slot link nothing)
    (not_sending (unsent && sends_under handle turn.doing) turn.slot (taking_if (listens_under handle turn.doing) received turn.slot link) number side journal none was)

-- one whose packet is still to come, or that was on the air, and that takes nothing
pub from_base : (unsent sends : Bool) (received : Option (List ℕ)) (handle : ℕ) (turn : Turn) (link base : OpenLink) (number : ℕ) (side : Side) (journal : List Entry)
    → (unsent && sends_under handle turn.doing) ≡ sends → (listens_under handle turn.doing ≡ true → received ≡ None) → link ≡ sent_if sends turn.slot base
    → IsOnAir number side journal (facts_in base).event → IsEndOnAir unsent received handle turn link number side journal
from_base unsent sends received handle turn link base number side journal does nothing is on_air = record {
  base = base;
  is = nothing_taken (listens_under handle turn.doing) received turn.slot link nothing ∙ is ∙ ap (λ b. sent_if b turn.slot base) (sym does);
  on_air = on_air;
}

pub moved : (handle : ℕ) (link : OpenLink) (side : Side) (unsent unsent_too : Bool) (received received_too : Option (List ℕ)) (turn turn_too : Turn) (number number_too : ℕ)
    (journal journal_too rest : List Entry) → unsent_too ≡ unsent → received_too ≡ received → turn_too ≡ turn → number_too ≡ number → journal_too ≡ journal ++ rest
    → IsEndOnAir unsent received handle turn link number side journal → IsEndOnAir unsent_too received_too handle turn_too link number_too side journal_too
moved handle link side unsent unsent_too received received_too turn turn_too number number_too journal journal_too rest u r t n j was =
    subst (λ b. IsEndOnAir b received_too handle turn_too link number_too side journal_too) (sym u)
    (subst (λ may. IsEndOnAir unsent may handle turn_too link number_too side journal_too) (sym r)
    (subst (λ now. IsEndOnAir unsent received handle now link number_too side journal_too) (sym t)
    (subst (λ m. IsEndOnAir unsent received handle turn link m side journal_too) (sym n)
    (subst (IsEndOnAir unsent received handle turn link number side) (sym j)
    (was_stays (unsent && sends_under handle turn.doing) turn.slot (taking_if (listens_under handle turn.doing) received turn.slot link) number side journal rest was)))))
