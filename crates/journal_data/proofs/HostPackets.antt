-- Which packets the octets of a host complete, one octet after another, and what each of them gives the open links.
use Rattle.std.proofs.Common.{◌≡◌, ℕ, suc, ◌+◌, ◌==◌, Bool, true, false, cond, min, List, [], ◌∷◌, ◌++◌, length, refl, sym, ap, subst, ◌∙◌, append-nil, append_assoc, arith}
use Rattle.std.specs.Prelude.{◌<◌, ◌&&◌, ◌||◌, drop, filter, map, take, nat_le, nat_lt, nat_eq, not, Option, Some, None, ⊤, if◌then◌else◌}
use Rattle.std.specs.List.{flat_map, starts_with}
use Rattle.std.specs.Option.{option_map}
use Rattle.std.proofs.lemmas.Bool.{eq-eqb, eqb-false, eqb-true, false≢true, leb-true}
use Rattle.std.proofs.lemmas.List.{drop_all, drop_at, length-append, length-take, map-append}
use Rattle.std.proofs.lemmas.List.Concat.{flat_map-append}
use Rattle.std.proofs.lemmas.List.Elements.{filter-append}
use Rattle.std.proofs.lemmas.List.Sums.{sum_by-cons}
use Rattle.acl_banks.specs.Packets.{new_packet}
use Rattle.arrayvec.specs.ArrayVec.{ArrayVec}
use Rattle.acl_banks.specs.History.{HostData}
use Rattle.ble_base.specs.declared.limits.TheConstants.{PAYLOAD_OCTETS}
use Rattle.h4_frames.specs.Frames.{first_reset, frame_entry, frames, one_later, reset, reset_octets, rest, Rest, Begun, Passed}
use Rattle.h4_frames.specs.Packets.{SizedPacket, first_acl, first_command, is_indicator, word_of}
use Rattle.h4_frames.specs.declared.packet.Fed.{Fed}
use Rattle.h4_frames.specs.declared.packet.Fed.TheVariants.{More, Packet, LostSync}
use Rattle.h4_frames.specs.declared.packet.HostPacket.{HostPacket}
use Rattle.h4_frames.specs.declared.packet.HostPacket.TheVariants.{Command, Acl}
use Rattle.h4_frames.proofs.Feeding.{frames_step}
use Rattle.h4_frames.proofs.Growing.{frames_more as frames_grown}
use Rattle.h4_frames.proofs.Steps.{fed_of, found_fed}
use Rattle.journal_acks.specs.link_model.Data.{Data}
use Rattle.journal_acks.specs.link_model.Facts.{Facts as EndFacts}
use Rattle.journal_acks.specs.link_model.Step.{DataGiven}
use Rattle.journal_acks.proofs.link_model.Pasts.{grows}
use Rattle.journal_acks.specs.open_links.declared.offers.Offer.{Offer}
use Rattle.journal_acks.specs.open_links.declared.offers.Offer.TheVariants.{NoLink, Empty, Overflow, Kept}
use Rattle.journal_acks.specs.open_links.Data.{buffers_in, buffers_taken, links_offered, offer_by}
use Rattle.journal_acks.specs.open_links.OpenLinks.{Links, OpenLink, facts_in, link_after, link_at, link_from, with_change_from, without_links}
use Rattle.journal_acks.proofs.open_links.Handles.{changed_is, other_stays}
use Rattle.hci_cmd.specs.declared.command.Command.{Command as HciCommand}
use Rattle.hci_cmd.specs.declared.command.Command.TheVariants.{Reset}
use Rattle.hci_cmd.specs.declared.command.CmdRead.{CmdRead}
use Rattle.hci_cmd.specs.declared.command.CmdRead.TheVariants.{Known, UnknownOpcode, BadLength}
use Rattle.hci_cmd.specs.Command.{command_of, layout_of, layouts}
use Rattle.host_view.specs.Status.{status_of}
use Rattle.journal_acks.specs.controller_model.Commands.{facts_asking, facts_commanded, facts_known, is_asking, links_after, moment_of}
use Rattle.journal_acks.specs.controller_model.Data.{facts_offered, offer_of}
use Rattle.journal_acks.specs.controller_model.Facts.{Setup, Facts}
use Rattle.journal_acks.specs.controller_model.Host.{commands_accepted_by, commands_accepted_in}
use Rattle.journal_acks.specs.controller_model.Side.{facts_after, facts_fed, facts_of, first_result, result_of}
use Rattle.journal_acks.specs.controller_model.Step.{Step, HostOctet}
use Rattle.journal_acks.proofs.link_calls.UnderHandles.{map_under}
use Rattle.journal_acks.proofs.controller_model.Feds.{first_entry, frames_more}
use Rattle.journal_acks.proofs.controller_model.Resets.{resets}
use Rattle.journal_acks.specs.controller_model.Since.{count_fed}
use Rattle.journal_data.specs.HostLines.{OpenUnder, Submitted, buffers_of, has_octets, is_dropped, is_reset, kept_of, kept_one, link_under, packet_in, packets_framed}
use Rattle.journal_data.proofs.AskedLinks.{HasSameData, HaveSameData, commanded_same, same_buffers, same_links, same_under}

-- ---- octet by octet

-- the packet that an octet completes, if it completes one
abbrev pub packets_of : Fed → List HostPacket
packets_of fed = packet_in (0, fed)

entry_packets : (place : ℕ) (fed : Fed) → flat_map packet_in (frame_entry place fed) ≡ packets_of fed
entry_packets place (Packet packet) = refl
entry_packets place LostSync = refl
entry_packets place More = refl

pub none_framed : (before : List ℕ) → packets_framed before [] ≡ []
none_framed before =
    ap (λ (all : List ℕ). flat_map packet_in (drop (length (frames before)) (frames all))) (append-nil before)
    ∙ ap (flat_map packet_in) (drop_all (length (frames before)) (frames before) (omega arith))

-- what is framed where these are the frames of all octets
framed_by : (before octets : List ℕ) (more : List (ℕ × Fed)) → frames (before ++ octets) ≡ frames before ++ more
    → packets_framed before octets ≡ flat_map packet_in more
framed_by before octets more are =
    ap (λ (all : List (ℕ × Fed)). flat_map packet_in (drop (length (frames before)) all)) are
    ∙ ap (flat_map packet_in) (drop_at (frames before) more (length (frames before)) refl)

pub more_framed : (before : List ℕ) (octet : ℕ) (octets : List ℕ)
    → packets_framed before (octet ∷ octets) ≡ packets_of (result_of before octet) ++ packets_framed (before ++ octet ∷ []) octets
more_framed before octet octets =
    let now = before ++ octet ∷ [] in
    let entry = frame_entry (length before + 1) (result_of before octet) in
    let grown = frames_grown now octets in
    let all : frames (before ++ octet ∷ octets) ≡ frames before ++ (entry ++ grown.0) =
    ap frames (sym (append_assoc before (octet ∷ []) octets)) ∙ grown.1
    ∙ ap (λ (first : List (ℕ × Fed)). first ++ grown.0) (frames_more before octet)
    ∙ append_assoc (frames before) entry grown.0 in
    framed_by before (octet ∷ octets) (entry ++ grown.0) all
    ∙ flat_map-append packet_in entry grown.0
    ∙ ap (λ (first : List HostPacket). first ++ flat_map packet_in grown.0) (entry_packets (length before + 1) (result_of before octet))
    ∙ ap (λ (later : List HostPacket). packets_of (result_of before octet) ++ later) (sym (framed_by now octets grown.0 grown.1))

-- ---- the body of a packet of data

-- it is the first octets of the data
abbrev pub HasBody : Fed → Type 0
HasBody (Packet (Acl handle start count body)) = length body.items ≡ min PAYLOAD_OCTETS count
HasBody (Packet (Command opcode body)) = ⊤
HasBody LostSync = ⊤
HasBody More = ⊤

found_if : (fits : Bool) (found : SizedPacket) → (fits ≡ true → HasBody (Packet found.packet)) → HasBody (found_fed (cond fits (Some found) None))
found_if true found has = has refl
found_if false found has = tt

body_of : (count : ℕ) (octets : List ℕ) → nat_le count (length octets) ≡ true
    → length (take PAYLOAD_OCTETS (take count octets)) ≡ min PAYLOAD_OCTETS count
body_of count octets fits =
    let few = leb-true count (length octets) fits in
    let all : length (take count octets) ≡ count = omega (arith, length-take count octets, few) in
    length-take PAYLOAD_OCTETS (take count octets) ∙ ap (min PAYLOAD_OCTETS) all

command_body : (octets : List ℕ) → HasBody (found_fed (first_command octets))
command_body [] = tt
command_body (low ∷ []) = tt
command_body (low ∷ high ∷ []) = tt
command_body (low ∷ high ∷ count ∷ octets) = found_if (nat_le count (length octets)) _ (λ fits. tt)

acl_body : (octets : List ℕ) → HasBody (found_fed (first_acl octets))
acl_body [] = tt
acl_body (low ∷ []) = tt
acl_body (low ∷ high ∷ []) = tt
acl_body (low ∷ high ∷ count_low ∷ []) = tt
acl_body (low ∷ high ∷ count_low ∷ count_high ∷ octets) =
    found_if (nat_le (word_of count_low count_high) (length octets)) _ (body_of (word_of count_low count_high) octets)

packet_body : (is_command : Bool) (octets : List ℕ) → HasBody (found_fed (cond is_command (first_command octets) (first_acl octets)))
packet_body true octets = command_body octets
packet_body false octets = acl_body octets

later_body : (found : Option SizedPacket) → HasBody (found_fed found) → HasBody (found_fed (one_later found))
later_body None has = tt
later_body (Some found) has = has

reset_by : (begins : Bool) (found : Option SizedPacket) → HasBody (found_fed found)
    → HasBody (found_fed (cond begins (Some (record { size = 4; packet = reset })) (one_later found)))
reset_by true found has = tt
reset_by false found has = later_body found has

reset_body : (octets : List ℕ) → HasBody (found_fed (first_reset octets))
reset_body [] = tt
reset_body (octet ∷ octets) = reset_by (starts_with nat_eq (octet ∷ octets) reset_octets) (first_reset octets) (reset_body octets)

begun_body : (indicates : Bool) → HasBody (cond indicates More LostSync)
begun_body true = tt
begun_body false = tt

fed_body : (after : Rest) (octet : ℕ) → HasBody (fed_of after octet)
fed_body (Begun []) octet = begun_body (is_indicator octet)
fed_body (Begun (indicator ∷ octets)) octet = packet_body (indicator == 1) (octets ++ octet ∷ [])
fed_body (Passed octets) octet = reset_body (octets ++ octet ∷ [])

result_is : (before : List ℕ) (octet : ℕ) → result_of before octet ≡ fed_of (rest before) octet
unfolding result_of
result_is before octet =
    ap (λ (entries : List (ℕ × Fed)). first_result (drop (length (frames before)) entries)) (frames_step before octet)
    ∙ ap first_result (drop_at (frames before) (frame_entry (length before + 1) (fed_of (rest before) octet)) (length (frames before)) refl)
    ∙ first_entry (length before + 1) (fed_of (rest before) octet)

pub result_body : (before : List ℕ) (octet : ℕ) → HasBody (result_of before octet)
result_body before octet = subst HasBody (sym (result_is before octet)) (fed_body (rest before) octet)

-- ---- packets that no link takes, and Resets

none_or : (resets : Bool) (kept : List Submitted) → kept ≡ [] → (if resets then [] else kept) ≡ []
none_or true kept none = refl
none_or false kept none = none

none_kept : (taken : ℕ) (packets : List HostPacket) → kept_of 8 [] taken packets ≡ []
none_kept taken [] = refl
none_kept taken (Command opcode parameters ∷ packets) =
    none_or (is_reset opcode parameters.items) (kept_of 8 [] taken packets) (none_kept taken packets)
none_kept taken (Acl handle start count body ∷ packets) = none_kept (taken + 0) packets

-- ---- what a link has of what was submitted

abbrev pub on_link : ℕ → List Submitted → List HostData
on_link number submitted =
    map (λ (one : Submitted). one.packet) (filter (λ (one : Submitted). one.link == number) submitted)

abbrev pub has_none : HostData → Bool
has_none packet = not (has_octets packet)

-- the packets with octets are those that it was given, and this number of packets has no octet
pub record HasAll (number : ℕ) (submitted : List Submitted) (empties : ℕ) (link : OpenLink) : Type 0 where
  pub data_is : filter has_octets (on_link number submitted) ≡ (facts_in link).outgoing.given
  pub empties_are : length (filter has_none (on_link number submitted)) ≡ empties

-- so it is for each open link, by the number of the link under a handle
abbrev pub AllHave : (ℕ → ℕ) → List Submitted → (ℕ → ℕ) → Links → Type 0
AllHave number submitted empties links =
    (handle : ℕ) (link : OpenLink) → link_at handle links ≡ Some link → HasAll (number handle) submitted (empties handle) link

-- under each handle these have the number of the link that is open there
abbrev pub AreUnder : (ℕ → ℕ) → Links → List OpenUnder → Type 0
AreUnder number links held = (handle : ℕ) → link_under handle held ≡ option_map (λ (link : OpenLink). number handle) (link_at handle links)

-- the numbers of open links differ
abbrev pub HaveOwn : (ℕ → ℕ) → Links → Type 0
HaveOwn number links = (one other : ℕ) (a b : OpenLink) → link_at one links ≡ Some a → link_at other links ≡ Some b → (one == other) ≡ false
    → (number one == number other) ≡ false

pub on_link-append : (number : ℕ) (xs ys : List Submitted) → on_link number (xs ++ ys) ≡ on_link number xs ++ on_link number ys
on_link-append number xs ys =
    ap (map (λ (one : Submitted). one.packet)) (filter-append (λ (one : Submitted). one.link == number) xs ys)
    ∙ map-append (λ (one : Submitted). one.packet) (filter (λ (one : Submitted). one.link == number) xs)
    (filter (λ (one : Submitted). one.link == number) ys)

-- packets more, by whether they have octets
pub passing-append : (test : HostData → Bool) (number : ℕ) (xs ys : List Submitted)
    → filter test (on_link number (xs ++ ys)) ≡ filter test (on_link number xs) ++ filter test (on_link number ys)
passing-append test number xs ys =
    ap (filter test) (on_link-append number xs ys) ∙ filter-append test (on_link number xs) (on_link number ys)

pub has_more : (number : ℕ) (before kept : List Submitted) (count more : ℕ) (old new : OpenLink)
    → (facts_in new).outgoing.given ≡ (facts_in old).outgoing.given ++ filter has_octets (on_link number kept)
    → length (filter has_none (on_link number kept)) ≡ more → HasAll number before count old → HasAll number (before ++ kept) (more + count) new
has_more number before kept count more old new given empty has = record {
  data_is = passing-append has_octets number before kept
      ∙ ap (λ (first : List HostData). first ++ filter has_octets (on_link number kept)) has.data_is ∙ sym given;
  empties_are =
      let parts = ap length (passing-append has_none number before kept) in
      let both = length-append (filter has_none (on_link number before)) (filter has_none (on_link number kept)) in
      let first = has.empties_are in
      omega (arith, parts, both, first, empty);
}

-- packets of which none is of the link
has_none_of : (number : ℕ) (before kept : List Submitted) (count : ℕ) (link : OpenLink) → on_link number kept ≡ [] → HasAll number before count link
    → HasAll number (before ++ kept) (0 + count) link
has_none_of number before kept count link none has =
    has_more number before kept count 0 link link
    (sym (append-nil (facts_in link).outgoing.given)
    ∙ ap (λ (packets : List HostData). (facts_in link).outgoing.given ++ filter has_octets packets) (sym none))
    (ap (λ (packets : List HostData). length (filter has_none packets)) none) has

-- ---- packets change the links as the lines say

-- the links that the lines have, by what an octet completes: none after a Reset
abbrev pub held_after : Fed → List OpenUnder → List OpenUnder
held_after (Packet (Command opcode body)) held = if is_reset opcode body.items then [] else held
held_after (Packet (Acl handle start count body)) held = held
held_after LostSync held = held
held_after More held = held

pub record Takes (number : ℕ → ℕ) (before after : Links) (held then_held : List OpenUnder) (packets : List HostPacket) (empties : ℕ → ℕ) : Type 0 where
  -- what is kept of these packets
  pub kept : List Submitted
  pub under : AreUnder number after then_held
  pub ahead : (later : List HostPacket) → kept_of 8 held (buffers_taken before) (packets ++ later) ≡ kept ++ kept_of 8 then_held (buffers_taken after) later
  pub has : (submitted : List Submitted) (count : ℕ → ℕ) → AllHave number submitted count before
      → AllHave number (submitted ++ kept) (λ handle. empties handle + count handle) after

nothing_taken : (number : ℕ → ℕ) (links : Links) (held : List OpenUnder) → AreUnder number links held → Takes number links links held held [] (λ handle. 0)
nothing_taken number links held under = record {
  kept = [];
  under = under;
  ahead = λ later. refl;
  has = λ submitted count has handle link at. has_none_of (number handle) submitted [] (count handle) link refl (has handle link at);
}

-- ---- a packet of data under the handle of a link

some_octets : (start : Bool) (octet : ℕ) (octets : List ℕ) → has_octets (record { start = start; body = octet ∷ octets }) ≡ true
some_octets start octet octets = ap not (none (length octets))
  where
    none : (n : ℕ) → (suc n == 0) ≡ false
    none n = grind arith

-- the count of octets tells whether there is one
abbrev IsCounted : (none more : Bool) → List ℕ → Type 0
IsCounted none more [] = (none ≡ true) × (more ≡ false)
IsCounted none more (octet ∷ octets) = none ≡ false

body_counted : (count : ℕ) (body : List ℕ) → length body ≡ min PAYLOAD_OCTETS count → IsCounted (count == 0) (nat_lt 251 count) body
body_counted count [] is =
    let none : count ≡ 0 = omega (arith, is) in
    (ap (λ (n : ℕ). n == 0) none, ap (λ (n : ℕ). nat_lt 251 n) none)
body_counted count (octet ∷ octets) is =
    let some : 0 < count = omega (arith, is) in
    not_none count some
  where
    not_none : (count : ℕ) → 0 < count → (count == 0) ≡ false
    not_none count some = grind (arith, some)

-- the packet, where it is kept
abbrev one_on : ℕ → Bool → List ℕ → Submitted
one_on number start body = record { link = number; packet = record { start = start; body = body } }

one_is : (number : ℕ) (start : Bool) (body : List ℕ) → on_link number (one_on number start body ∷ []) ≡ record { start = start; body = body } ∷ []
one_is number start body =
    ap (λ (same : Bool). map (λ (one : Submitted). one.packet) (cond same (one_on number start body ∷ []) [])) (eq-eqb number number refl)

-- one of no octet changes nothing of the link
empty_kept : (number : ℕ) (link : OpenLink) (start : Bool) (before : List Submitted) (count : ℕ) → HasAll number before count link
    → HasAll number (before ++ one_on number start [] ∷ []) (1 + count) link
empty_kept number link start before count has =
    has_more number before (one_on number start [] ∷ []) count 1 link link
    (sym (append-nil (facts_in link).outgoing.given)
    ∙ ap (λ (packets : List HostData). (facts_in link).outgoing.given ++ filter has_octets packets) (sym (one_is number start [])))
    (ap (λ (packets : List HostData). length (filter has_none packets)) (one_is number start [])) has

-- one with octets is given to it
abbrev with_packet : Bool → List ℕ → OpenLink → OpenLink
with_packet start body link = link_after (DataGiven start body) link

given_is : (link : OpenLink) (start : Bool) (octet : ℕ) (octets : List ℕ)
    → (facts_in (with_packet start (octet ∷ octets) link)).outgoing.given
    ≡ (facts_in link).outgoing.given ++ record { start = start; body = octet ∷ octets } ∷ []
given_is link start octet octets = ap (λ (facts : EndFacts). facts.outgoing.given) (grows link.setup link.past (DataGiven start (octet ∷ octets)))

packets_are : (link : OpenLink) (start : Bool) (octet : ℕ) (octets : List ℕ)
    → length (facts_in (with_packet start (octet ∷ octets) link)).outgoing.packets ≡ length (facts_in link).outgoing.packets + 1
packets_are link start octet octets =
    ap (λ (facts : EndFacts). length facts.outgoing.packets) (grows link.setup link.past (DataGiven start (octet ∷ octets)))
    ∙ length-append (facts_in link).outgoing.packets (new_packet link.setup.link.handle start (octet ∷ octets) ∷ [])

filled_kept : (number : ℕ) (link : OpenLink) (start : Bool) (octet : ℕ) (octets : List ℕ) (before : List Submitted) (count : ℕ)
    → HasAll number before count link
    → HasAll number (before ++ one_on number start (octet ∷ octets) ∷ []) (0 + count) (with_packet start (octet ∷ octets) link)
filled_kept number link start octet octets before count has =
    let packet : HostData = record { start = start; body = octet ∷ octets } in
    let some = some_octets start octet octets in
    has_more number before (one_on number start (octet ∷ octets) ∷ []) count 0 link (with_packet start (octet ∷ octets) link)
    (given_is link start octet octets
    ∙ ap (λ (full : Bool). (facts_in link).outgoing.given ++ cond full (packet ∷ []) []) (sym some)
    ∙ ap (λ (packets : List HostData). (facts_in link).outgoing.given ++ filter has_octets packets) (sym (one_is number start (octet ∷ octets))))
    (ap (λ (packets : List HostData). length (filter has_none packets)) (one_is number start (octet ∷ octets))
    ∙ ap (λ (full : Bool). length (cond (not full) (packet ∷ []) [])) some) has

-- what is kept of the packet, and what becomes of it, by three tests: it has no octet, it is longer than a buffer, and
-- all buffers are taken
abbrev kept_by : ℕ → (none more full start : Bool) → List ℕ → List Submitted
kept_by number none more full start body = kept_one (Some number) (more || (not none && full)) start body

abbrev offer_with : (none more full : Bool) → Offer
offer_with none more full = if none then Empty else (if more || full then Overflow else Kept)

abbrev empties_with : Bool → ℕ
empties_with none = if none then 1 else 0

-- what becomes of the link
record IsGiven (number : ℕ) (link changed : OpenLink) (kept : List Submitted) (empties : ℕ) : Type 0 where
  waits : length (facts_in changed).outgoing.packets ≡ length (facts_in link).outgoing.packets + buffers_of kept
  has : (submitted : List Submitted) (count : ℕ) → HasAll number submitted count link → HasAll number (submitted ++ kept) (empties + count) changed

changed_by : Offer → Bool → List ℕ → OpenLink → OpenLink
changed_by Kept start body link = with_packet start body link
changed_by NoLink start body link = link
changed_by Empty start body link = link
changed_by Overflow start body link = link

dropped : (number : ℕ) (link : OpenLink) → IsGiven number link link [] 0
dropped number link = record { waits = omega arith; has = λ submitted count has. has_none_of number submitted [] count link refl has }

is_given : (number : ℕ) (link : OpenLink) (none more full start : Bool) (body : List ℕ) → IsCounted none more body
    → IsGiven number link (changed_by (offer_with none more full) start body link) (kept_by number none more full start body) (empties_with none)
unfolding changed_by
is_given number link true false full start [] is = record { waits = omega arith; has = empty_kept number link start }
is_given number link true true full start [] is = let no : true ≡ false = is.1 in absurd (cc no)
is_given number link false more full start [] is = let no : false ≡ true = is.0 in absurd (cc no)
is_given number link true more full start (octet ∷ octets) is = absurd (cc is)
is_given number link false true full start (octet ∷ octets) is = dropped number link
is_given number link false false true start (octet ∷ octets) is = dropped number link
is_given number link false false false start (octet ∷ octets) is = record {
  waits =
      let some = ap (λ (full : Bool). length (cond full (one_on number start (octet ∷ octets) ∷ []) [])) (some_octets start octet octets) in
      let more = packets_are link start octet octets in
      omega (arith, some, more);
  has = filled_kept number link start octet octets;
}

-- what is kept is of this link alone
kept_apart : (number other : ℕ) (drops start : Bool) (body : List ℕ) → (number == other) ≡ false → on_link other (kept_one (Some number) drops start body) ≡ []
kept_apart number other true start body differs = refl
kept_apart number other false start body differs =
    ap (λ (b : Bool). map (λ (one : Submitted). one.packet) (cond b (one_on number start body ∷ []) [])) differs

-- ---- the buffers that are taken

-- a change of one link
taken_changed : (change : OpenLink → OpenLink) (first handle : ℕ) (links : Links) (link : OpenLink) → link_from first handle links ≡ Some link
    → buffers_taken (with_change_from first handle (option_map change) links) + length (facts_in link).outgoing.packets
    ≡ buffers_taken links + length (facts_in (change link)).outgoing.packets
taken_changed change first handle [] link at = absurd (let h : None ≡ Some link = at in absurd cc)
taken_changed change first handle (place ∷ links) link at = by (first == handle) at (taken_changed change (first + 1) handle links link)
  where
    here : (one : Option OpenLink) → one ≡ Some link
        → buffers_taken (option_map change one ∷ links) + length (facts_in link).outgoing.packets ≡ buffers_taken (one ∷ links) + length (facts_in (change link)).outgoing.packets
    here None is = absurd (let h : None ≡ Some link = is in absurd cc)
    here (Some one) is =
        let same : one ≡ link = cc in
        let before = sum_by-cons buffers_in (Some one) links in
        let after = sum_by-cons buffers_in (Some (change one)) links in
        let waits = ap (λ (l : OpenLink). length (facts_in l).outgoing.packets) same in
        let now = ap (λ (l : OpenLink). length (facts_in (change l)).outgoing.packets) same in
        omega (arith, before, after, waits, now)

    by : (own : Bool) → (if own then place else link_from (first + 1) handle links) ≡ Some link
        → (link_from (first + 1) handle links ≡ Some link
        → buffers_taken (with_change_from (first + 1) handle (option_map change) links) + length (facts_in link).outgoing.packets
        ≡ buffers_taken links + length (facts_in (change link)).outgoing.packets)
        → buffers_taken (if own then option_map change place ∷ links else place ∷ with_change_from (first + 1) handle (option_map change) links)
        + length (facts_in link).outgoing.packets ≡ buffers_taken (place ∷ links) + length (facts_in (change link)).outgoing.packets
    by true found rest = here place found
    by false found rest =
        let before = sum_by-cons buffers_in place links in
        let after = sum_by-cons buffers_in place (with_change_from (first + 1) handle (option_map change) links) in
        let more = rest found in
        omega (arith, before, after, more)

-- the links after the packet
record IsOffered (handle : ℕ) (links after : Links) (link changed : OpenLink) : Type 0 where
  at : link_at handle after ≡ Some changed
  others : (other : ℕ) → (handle == other) ≡ false → link_at other after ≡ link_at other links
  taken : buffers_taken after + length (facts_in link).outgoing.packets ≡ buffers_taken links + length (facts_in changed).outgoing.packets

unchanged : (handle : ℕ) (links : Links) (link : OpenLink) → link_at handle links ≡ Some link → IsOffered handle links links link link
unchanged handle links link at = record { at = at; others = λ other differs. refl; taken = refl }

offered : (offer : Offer) (handle : ℕ) (start : Bool) (body : List ℕ) (links : Links) (link : OpenLink) → link_at handle links ≡ Some link
    → IsOffered handle links (links_offered offer handle start body links) link (changed_by offer start body link)
unfolding changed_by
offered Kept handle start body links link at = record {
  at = changed_is (option_map (with_packet start body)) 0 handle links refl ∙ ap (option_map (with_packet start body)) at;
  others = λ other differs. other_stays (option_map (with_packet start body)) 0 handle other links (λ same. eqb-false handle other differs (sym same));
  taken = taken_changed (with_packet start body) 0 handle links link at;
}
offered NoLink handle start body links link at = unchanged handle links link at
offered Empty handle start body links link at = unchanged handle links link at
offered Overflow handle start body links link at = unchanged handle links link at

-- the packets of no octet are counted by handle and number of octets
abbrev empties_by : ℕ → ℕ → ℕ → ℕ
empties_by handle count other = if (handle == other) && (count == 0) then 1 else 0

empties_own : (own none : Bool) → own ≡ true → (if own && none then 1 else 0) ≡ empties_with none
empties_own true none is = refl
empties_own false none is = absurd cc

empties_other : (own none : Bool) → own ≡ false → ◌≡◌ {A = ℕ} (if own && none then 1 else 0) 0
empties_other false none is = refl
empties_other true none is = absurd cc

module _ (number : ℕ → ℕ) (links : Links) (held : List OpenUnder) (own : HaveOwn number links) (under : AreUnder number links held) where
  -- under the handle of a link
  link_taken : (handle count : ℕ) (start : Bool) (body : ArrayVec ℕ) (link changed : OpenLink) (after : Links) → link_at handle links ≡ Some link
      → IsOffered handle links after link changed
      → IsGiven (number handle) link changed (kept_one (Some (number handle)) (is_dropped 8 (buffers_taken links) count) start body.items) (empties_with (count == 0))
      → Takes number links after held held (Acl handle start count body ∷ []) (empties_by handle count)
  link_taken handle count start body link changed after at offered_is is =
      let taken = buffers_taken links in
      let kept = kept_one (Some (number handle)) (is_dropped 8 taken count) start body.items in
      let here : link_under handle held ≡ Some (number handle) = under handle ∙ ap (option_map (λ (l : OpenLink). number handle)) at in
      let waits = is.waits in
      let buffers = offered_is.taken in
      let all : taken + buffers_of kept ≡ buffers_taken after = omega (arith, waits, buffers) in
      record {
        kept = kept;
        under = λ other. under_by other (handle == other) refl;
        ahead = λ later.
            ap (λ (found : Option ℕ). let one = kept_one found (is_dropped 8 taken count) start body.items in one ++ kept_of 8 held (taken + buffers_of one) later) here
            ∙ ap (λ (n : ℕ). kept ++ kept_of 8 held n later) all;
        has = λ submitted before has other one found. has_by submitted before has other one found (handle == other) refl;
      }
    where
      under_by : (other : ℕ) (same : Bool) → (handle == other) ≡ same → link_under other held ≡ option_map (λ (l : OpenLink). number other) (link_at other after)
      under_by other true same =
          let equal = eqb-true handle other same in
          under other ∙ ap (option_map (λ (l : OpenLink). number other)) (ap (λ n. link_at n links) (sym equal) ∙ at)
          ∙ sym (ap (option_map (λ (l : OpenLink). number other)) (ap (λ n. link_at n after) (sym equal) ∙ offered_is.at))
      under_by other false differs = under other ∙ ap (option_map (λ (l : OpenLink). number other)) (sym (offered_is.others other differs))

      has_by : (submitted : List Submitted) (before : ℕ → ℕ) → AllHave number submitted before links → (other : ℕ) (one : OpenLink) → link_at other after ≡ Some one
          → (same : Bool) → (handle == other) ≡ same
          → HasAll (number other) (submitted ++ kept_one (Some (number handle)) (is_dropped 8 (buffers_taken links) count) start body.items)
          (empties_by handle count other + before other) one
      has_by submitted before has other one found true same =
          let equal = eqb-true handle other same in
          let kept = kept_one (Some (number handle)) (is_dropped 8 (buffers_taken links) count) start body.items in
          let now : Some changed ≡ Some one = sym offered_is.at ∙ ap (λ n. link_at n after) equal ∙ found in
          let changed_one : changed ≡ one = cc in
          subst (λ n. HasAll (number other) (submitted ++ kept) (n + before other) one) (sym (empties_own (handle == other) (count == 0) same))
          (subst (λ n. HasAll (number n) (submitted ++ kept) (empties_with (count == 0) + before n) one) equal
          (subst (HasAll (number handle) (submitted ++ kept) (empties_with (count == 0) + before handle)) changed_one (is.has submitted (before handle) (has handle link at))))
      has_by submitted before has other one found false differs =
          let kept = kept_one (Some (number handle)) (is_dropped 8 (buffers_taken links) count) start body.items in
          let was = sym (offered_is.others other differs) ∙ found in
          subst (λ n. HasAll (number other) (submitted ++ kept) (n + before other) one) (sym (empties_other (handle == other) (count == 0) differs))
          (has_none_of (number other) submitted kept (before other) one
          (kept_apart (number handle) (number other) (is_dropped 8 (buffers_taken links) count) start body.items (own handle other link one at was differs)) (has other one was))

  -- under a handle without a link
  free_taken : (handle count : ℕ) (start : Bool) (body : ArrayVec ℕ) → link_at handle links ≡ None
      → Takes number links links held held (Acl handle start count body ∷ []) (empties_by handle count)
  free_taken handle count start body free =
      let taken = buffers_taken links in
      let here : link_under handle held ≡ None = under handle ∙ ap (option_map (λ (l : OpenLink). number handle)) free in
      let same : taken + 0 ≡ taken = omega arith in
      record {
        kept = [];
        under = under;
        ahead = λ later.
            ap (λ (found : Option ℕ). let one = kept_one found (is_dropped 8 taken count) start body.items in one ++ kept_of 8 held (taken + buffers_of one) later) here
            ∙ ap (λ (n : ℕ). kept_of 8 held n later) same;
        has = λ submitted before has other one found. by submitted before has other one found (handle == other) refl;
      }
    where
      by : (submitted : List Submitted) (before : ℕ → ℕ) → AllHave number submitted before links → (other : ℕ) (one : OpenLink) → link_at other links ≡ Some one
          → (same : Bool) → (handle == other) ≡ same → HasAll (number other) (submitted ++ []) (empties_by handle count other + before other) one
      by submitted before has other one found true same =
          absurd (let h : None ≡ Some one = sym free ∙ ap (λ n. link_at n links) (eqb-true handle other same) ∙ found in absurd cc)
      by submitted before has other one found false differs =
          subst (λ n. HasAll (number other) (submitted ++ []) (n + before other) one) (sym (empties_other (handle == other) (count == 0) differs))
          (has_none_of (number other) submitted [] (before other) one refl (has other one found))

  data_taken : (handle count : ℕ) (start : Bool) (body : ArrayVec ℕ) → length body.items ≡ min PAYLOAD_OCTETS count
      → Takes number links (links_offered (offer_by (link_at handle links) count (buffers_taken links == 8)) handle start body.items links) held held
      (Acl handle start count body ∷ []) (empties_by handle count)
  data_taken handle count start body long = by (link_at handle links) refl
    where
      by : (place : Option OpenLink) → link_at handle links ≡ place
          → Takes number links (links_offered (offer_by place count (buffers_taken links == 8)) handle start body.items links) held held
          (Acl handle start count body ∷ []) (empties_by handle count)
      by None free = free_taken handle count start body free
      by (Some link) at =
          let offer = offer_with (count == 0) (nat_lt 251 count) (buffers_taken links == 8) in
          link_taken handle count start body link (changed_by offer start body.items link) (links_offered offer handle start body.items links) at
          (offered offer handle start body.items links link at)
          (is_given (number handle) link (count == 0) (nat_lt 251 count) (buffers_taken links == 8) start body.items (body_counted count body.items long))

-- ---- a command

shut_at : (handle : ℕ) (links : Links) → link_at handle (without_links links) ≡ None
shut_at handle links = map_under (λ place. None) refl 0 handle links

-- a Reset
reset_taken : (number : ℕ → ℕ) (links : Links) (held : List OpenUnder) (opcode : ℕ) (body : ArrayVec ℕ) → is_reset opcode body.items ≡ true
    → Takes number links (without_links links) held [] (Command opcode body ∷ []) (λ handle. 0)
reset_taken number links held opcode body is = record {
  kept = [];
  under = λ handle. sym (ap (option_map (λ (link : OpenLink). number handle)) (shut_at handle links));
  ahead = λ later.
      ap (λ (b : Bool). if b then [] else kept_of 8 held (buffers_taken links) later) is ∙ sym (none_kept (buffers_taken (without_links links)) later);
  has = λ submitted count has handle link at. absurd (let h : None ≡ Some link = sym (shut_at handle links) ∙ at in absurd cc);
}

-- any other: the links have the same data after it
same_data : (number : ℕ) (submitted : List Submitted) (count : ℕ) (link : OpenLink) (place : Option OpenLink) → HasSameData place (Some link)
    → ((old : OpenLink) → place ≡ Some old → HasAll number submitted count old) → HasAll number (submitted ++ []) (0 + count) link
same_data number submitted count link None same has = absurd same
same_data number submitted count link (Some old) same has =
    has_more number submitted [] count 0 old link
    (ap (λ (outgoing : Data). outgoing.given) same ∙ sym (append-nil (facts_in old).outgoing.given)) refl (has old refl)

same_number : (number : ℕ) (place after : Option OpenLink) → HasSameData place after
    → option_map (λ (link : OpenLink). number) after ≡ option_map (λ (link : OpenLink). number) place
same_number number None None same = refl
same_number number None (Some after) same = absurd same
same_number number (Some link) None same = absurd same
same_number number (Some link) (Some after) same = refl

other_command : (number : ℕ → ℕ) (links after : Links) (held : List OpenUnder) (opcode : ℕ) (body : ArrayVec ℕ) → is_reset opcode body.items ≡ false
    → HaveSameData links after → AreUnder number links held → Takes number links after held held (Command opcode body ∷ []) (λ handle. 0)
other_command number links after held opcode body is same under = record {
  kept = [];
  under = λ handle. under handle ∙ sym (same_number (number handle) (link_at handle links) (link_at handle after) (same_under 0 handle links after same));
  ahead = λ later. ap (λ (b : Bool). if b then [] else kept_of 8 held (buffers_taken links) later) is
      ∙ ap (λ (n : ℕ). kept_of 8 held n later) (sym (same_buffers links after same));
  has = λ submitted count has handle link at.
      same_data (number handle) submitted (count handle) link (link_at handle links)
      (subst (HasSameData (link_at handle links)) at (same_under 0 handle links after same)) (λ old was. has handle old was);
}

-- ---- an octet of the host

-- only HCI_Reset is read as a Reset
abbrev OnlyReset : Fed → Type 0
OnlyReset (Packet (Command opcode body)) = command_of opcode body.items ≡ Known Reset → is_reset opcode body.items ≡ true
OnlyReset (Packet (Acl handle start count body)) = ⊤
OnlyReset LostSync = ⊤
OnlyReset More = ⊤

accepted_reset : (facts : Facts) → commands_accepted_by facts (Known Reset) ≡ Reset ∷ []
unfolding status_of
accepted_reset facts = refl

only_by : (facts : Facts) (fed : Fed) → (commands_accepted_in facts fed ≡ Reset ∷ [] → fed ≡ Packet (Command 0x0C03 (record { items = [] }))) → OnlyReset fed
only_by facts (Packet (Command opcode body)) resets = λ is.
    resets_are (resets (ap (commands_accepted_by facts) is ∙ accepted_reset facts))
  where
    resets_are : Packet (Command opcode body) ≡ Packet (Command 0x0C03 (record { items = [] })) → is_reset opcode body.items ≡ true
    resets_are same =
        let first : opcode ≡ 0x0C03 = cc in
        let second : body ≡ record { items = [] } = cc in
        λ i. is_reset (first i) (second i).items
only_by facts (Packet (Acl handle start count body)) resets = tt
only_by facts LostSync resets = tt
only_by facts More resets = tt

only_reset : (setup : Setup) (past : List Step) (octet : ℕ) → OnlyReset (result_of (facts_of setup past).octets octet)
only_reset setup past octet = only_by (facts_of setup past) (result_of (facts_of setup past).octets octet) (resets setup past octet).0

-- a command that is no Reset leaves the links
others_leave : (command : HciCommand) (links : Links) → (command ≡ Reset → ⊥) → links_after command links ≡ links
others_leave Reset links differs = absurd (differs refl)
others_leave other links differs = refl

known_leaves : (accepted : Bool) (setup : Setup) (facts : Facts) (command : HciCommand) → (command ≡ Reset → ⊥)
    → (facts_known accepted setup facts command).links ≡ facts.links
known_leaves false setup facts command differs = refl
known_leaves true setup facts command differs = others_leave command facts.links differs

asked_leaves : (asks accepted : Bool) (setup : Setup) (facts : Facts) (command : HciCommand) → (command ≡ Reset → ⊥)
    → HaveSameData facts.links (facts_asking asks setup facts command (facts_known accepted setup facts command)).links
asked_leaves true accepted setup facts command differs = commanded_same command (moment_of setup facts) 0 facts.links
asked_leaves false accepted setup facts command differs =
    subst (HaveSameData facts.links) (sym (known_leaves accepted setup facts command differs)) (same_links facts.links)

read_leaves : (setup : Setup) (facts : Facts) (read : CmdRead) → (read ≡ Known Reset → ⊥) → HaveSameData facts.links (facts_commanded setup facts read).links
read_leaves setup facts (Known command) differs =
    asked_leaves (is_asking facts.view command) (status_of facts.view command == 0) setup facts command (λ is. differs (ap Known is))
read_leaves setup facts UnknownOpcode differs = same_links facts.links
read_leaves setup facts BadLength differs = same_links facts.links

reset_shuts : (setup : Setup) (facts : Facts) → (facts_commanded setup facts (command_of 0x0C03 [])).links ≡ without_links facts.links
unfolding command_of layout_of layouts status_of
reset_shuts setup facts = refl

is_empty : (xs : List ℕ) → (length xs == 0) ≡ true → xs ≡ []
is_empty [] is = refl
is_empty (x ∷ xs) is = absurd (let none = eqb-true (suc (length xs)) 0 is in omega (arith, none))

both_true : (one other : Bool) → one && other ≡ true → (one ≡ true) × (other ≡ true)
both_true true other is = (refl, is)
both_true false other is = absurd (cc is)

reset_links : (setup : Setup) (facts : Facts) (opcode : ℕ) (octets : List ℕ) → is_reset opcode octets ≡ true
    → (facts_commanded setup facts (command_of opcode octets)).links ≡ without_links facts.links
reset_links setup facts opcode octets is =
    let both = both_true (opcode == 0x0C03) (length octets == 0) is in
    let first = eqb-true opcode 0x0C03 both.0 in
    let none = is_empty octets both.1 in
    (λ i. (facts_commanded setup facts (command_of (first i) (none i))).links) ∙ reset_shuts setup facts

command_taken : (number : ℕ → ℕ) (setup : Setup) (facts : Facts) (held : List OpenUnder) (opcode : ℕ) (body : ArrayVec ℕ) → OnlyReset (Packet (Command opcode body))
    → AreUnder number facts.links held → (resets : Bool) → is_reset opcode body.items ≡ resets
    → Takes number facts.links (facts_commanded setup facts (command_of opcode body.items)).links held (if resets then [] else held) (Command opcode body ∷ []) (λ handle. 0)
command_taken number setup facts held opcode body only under true is =
    subst (λ (after : Links). Takes number facts.links after held [] (Command opcode body ∷ []) (λ handle. 0)) (sym (reset_links setup facts opcode body.items is))
    (reset_taken number facts.links held opcode body is)
command_taken number setup facts held opcode body only under false is =
    other_command number facts.links (facts_commanded setup facts (command_of opcode body.items)).links held opcode body is
    (read_leaves setup facts (command_of opcode body.items) (λ read. false≢true (sym is ∙ only read))) under

offered_links : (offer : Offer) (handle : ℕ) (start : Bool) (octets : List ℕ) (facts : Facts)
    → (facts_offered offer handle start octets facts).links ≡ links_offered offer handle start octets facts.links
offered_links Kept handle start octets facts = refl
offered_links NoLink handle start octets facts = refl
offered_links Empty handle start octets facts = refl
offered_links Overflow handle start octets facts = refl

fed_taken : (number : ℕ → ℕ) (setup : Setup) (facts : Facts) (held : List OpenUnder) (fed : Fed) → setup.host_buffers ≡ 8 → HaveOwn number facts.links
    → AreUnder number facts.links held → HasBody fed → OnlyReset fed
    → Takes number facts.links (facts_fed setup facts fed).links held (held_after fed held) (packets_of fed) (λ handle. count_fed handle fed 0)
fed_taken number setup facts held (Packet (Command opcode body)) eight own under has only =
    command_taken number setup facts held opcode body only under (is_reset opcode body.items) refl
fed_taken number setup facts held (Packet (Acl handle start count body)) eight own under has only =
    let links = facts.links in
    subst (λ (after : Links). Takes number links after held held (Acl handle start count body ∷ []) (empties_by handle count))
    (sym (offered_links (offer_of setup facts handle count) handle start body.items facts
    ∙ ap (λ (n : ℕ). links_offered (offer_by (link_at handle links) count (buffers_taken links == n)) handle start body.items links) eight))
    (data_taken number links held own under handle count start body has)
fed_taken number setup facts held LostSync eight own under has only = nothing_taken number facts.links held under
fed_taken number setup facts held More eight own under has only = nothing_taken number facts.links held under

pub octet_taken : (number : ℕ → ℕ) (setup : Setup) (past : List Step) (held : List OpenUnder) (octet : ℕ) → setup.host_buffers ≡ 8
    → HaveOwn number (facts_of setup past).links → AreUnder number (facts_of setup past).links held
    → Takes number (facts_of setup past).links (facts_after setup (facts_of setup past) (HostOctet octet)).links held
    (held_after (result_of (facts_of setup past).octets octet) held) (packets_of (result_of (facts_of setup past).octets octet))
    (λ handle. count_fed handle (result_of (facts_of setup past).octets octet) 0)
octet_taken number setup past held octet eight own under =
    let facts = facts_of setup past in
    fed_taken number setup facts held (result_of facts.octets octet) eight own under (result_body facts.octets octet) (only_reset setup past octet)
