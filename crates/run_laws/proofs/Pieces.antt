-- What an end sends whose host asks only for values in range: a PDU that counts as empty is the empty one, and no
-- payload is too long, so each open end understands each packet.
use Rattle.std.proofs.Common.{◌≡◌, ℕ, ◌≤◌, ◌<◌, ◌==◌, ◌&&◌, ◌||◌, Bool, true, false, Option, Some, None, List, [], ◌∷◌, IfSome, length, refl, sym, subst, ◌∙◌, arith}
use Rattle.std.specs.Prelude.{fold, if◌then◌else◌}
use Rattle.std.specs.List.{find}
use Rattle.std.specs.Option.{option_map}
use Rattle.std.proofs.lemmas.Bool.{ne_eqb}
use Rattle.std.proofs.lemmas.Bool.Decides.{nat_tests}
use Rattle.acl_banks.specs.Packets.{DataPacket, piece_of, sent_length}
use Rattle.acl_banks.proofs.Octets.{length-piece_of, length-unsent_octets}
use Rattle.acl_banks.proofs.Order.{is_left-head}
use Rattle.ble_base.specs.Limits.{payload_octets}
use Rattle.ble_base.specs.declared.roles.Role.{Role}
use Rattle.data_pdu.specs.Header.{header_in}
use Rattle.data_pdu.specs.Layouts.{written}
use Rattle.data_pdu.specs.Ranges.{IsInRange}
use Rattle.data_pdu.specs.declared.ctrl.Ctrl.{Ctrl}
use Rattle.data_pdu.specs.declared.ctrl.Ctrl.TheVariants.{StartEncReq}
use Rattle.wire_fields.specs.Field.{little_endian}
use Rattle.run_model.specs.link_model.phased_end.Lengths.{HasLengths}
use Rattle.run_model.specs.procedure_values.declared.asks.Ask.{Ask}
use Rattle.run_model.specs.procedure_values.Limits.{tx_of}
use Rattle.run_model.specs.link_model.Acknowledgement.{Acknowledgement, Pdu, empty_pdu, is_acked}
use Rattle.run_model.specs.link_model.AskRanges.{AreAsksInRange, IsAskInRange}
use Rattle.run_model.specs.link_model.Controls.{goes_on, is_procedure_pdu, next_control, pdu_fixed, pdu_of_control}
use Rattle.run_model.specs.link_model.Data.{Data, data_acked_if, data_given, is_control, is_data, is_empty, is_unsent, llid_of, pdu_with}
use Rattle.run_model.specs.link_model.End.{facts_after, facts_of}
use Rattle.run_model.specs.link_model.Entering.{facts_entered_if}
use Rattle.run_model.specs.link_model.Facts.{Facts, first_facts}
use Rattle.run_model.specs.link_model.Fixing.{data_cut, data_fixed_by, data_goes, fixed_anew}
use Rattle.run_model.specs.link_model.Hosts.{asked_unless, is_to_come}
use Rattle.run_model.specs.link_model.Packets.{good_pdu, is_forged}
use Rattle.run_model.specs.link_model.Receiving.{accepted_if, accepts, acknowledged_if, answers_with_control, data_taken_if, facts_before_taking, facts_forged_if, facts_received, has_acknowledged, heard_in_slot, procedures_take_if}
use Rattle.run_model.specs.link_model.Sending.{control_gone_if, data_sent_as, facts_sent, takes_leave}
use Rattle.run_model.specs.link_model.Setup.{Setup}
use Rattle.run_model.specs.link_model.Step.{Step, DataGiven, EventEntered, PacketReceived, PacketSent, PduFixed, ProcedureAsked}
use Rattle.run_model.specs.link_model.Verdicts.{pdu_of}
use Rattle.run_model.specs.link_model.Hearing.{IsOpened, IsUnderstood}
use Rattle.run_model.specs.link_model.Packets.{FitsReceiver, payload_sent, pdu_sent}
use Rattle.run_model.specs.link_model.Payload.{CanOpen, payload_made}
use Rattle.run_model.specs.link_model.enc_phase.Sealing.{EncEnd}
use Rattle.run_model.proofs.link_model.Fixing.{acked_control}
use Rattle.run_model.proofs.link_model.KnownEnds.{IsPast, first_past, step_past}
use Rattle.run_model.proofs.link_model.Llids.{past_llid}
use Rattle.run_model.proofs.link_model.Moves.{EachMoveKeeps, past_keeps}
use Rattle.run_model.specs.open_links.OpenLinks.{OpenLink, facts_in}
use Rattle.run_laws.specs.Ranges.{HasRanges, IsReadable}
use Rattle.run_laws.proofs.EndLengths.{sized_step}
use Rattle.run_laws.proofs.Payloads.{payload_is, payload_short}

-- ---- the most octets of a piece

given_limit : (handle : ℕ) (start : Bool) (body : List ℕ) (outgoing : Data) → (data_given handle start body outgoing).limit ≡ outgoing.limit
given_limit handle start [] outgoing = refl
given_limit handle start (octet ∷ octets) outgoing = refl

asked_limit : (comes : Bool) (ask : Ask) (facts : Facts) → (asked_unless comes ask facts).outgoing.limit ≡ facts.outgoing.limit
asked_limit true ask facts = refl
asked_limit false ask facts = refl

entered_limit : (goes : Bool) (setup : Setup) (slot : ℕ) (facts : Facts) → (facts_entered_if goes setup slot facts).outgoing.limit ≡ facts.outgoing.limit
entered_limit true setup slot facts = refl
entered_limit false setup slot facts = refl

gone_limit : (goes : Bool) (slot : ℕ) (facts : Facts) → (control_gone_if goes slot facts).outgoing.limit ≡ facts.outgoing.limit
gone_limit true slot facts = refl
gone_limit false slot facts = refl

went_limit : (payload : List ℕ) (is_new : Bool) (outgoing : Data) → (data_sent_as payload is_new outgoing).limit ≡ outgoing.limit
went_limit payload true outgoing = refl
went_limit payload false outgoing = refl

sent_limit : (slot : ℕ) (facts : Facts) → (facts_sent slot facts).outgoing.limit ≡ facts.outgoing.limit
sent_limit slot facts =
    let now = control_gone_if (takes_leave facts) slot facts in
    went_limit (payload_made now.encryption.end now.outgoing.fixed) (is_acked now.acknowledgement) now.outgoing ∙ gone_limit (takes_leave facts) slot facts

acked_limit : (acked : Bool) (outgoing : Data) → (data_acked_if acked outgoing).limit ≡ outgoing.limit
acked_limit true outgoing = refl
acked_limit false outgoing = refl

taken_limit : (takes : Bool) (pdu : Pdu) (slot : ℕ) (facts : Facts) → (procedures_take_if takes pdu slot facts).outgoing.limit ≡ facts.outgoing.limit
taken_limit true pdu slot facts = refl
taken_limit false pdu slot facts = refl

data_limit : (takes : Bool) (facts : Facts) → (data_taken_if takes facts).outgoing.limit ≡ facts.outgoing.limit
data_limit true facts = refl
data_limit false facts = refl

forged_limit : (forged : Bool) (facts : Facts) → (facts_forged_if forged facts).outgoing.limit ≡ facts.outgoing.limit
forged_limit true facts = refl
forged_limit false facts = refl

received_limit : (role : Role) (slot : ℕ) (room : Bool) (found : Option (List ℕ)) (facts : Facts) → (facts_received role slot room found facts).outgoing.limit ≡ facts.outgoing.limit
received_limit role slot room None facts = refl
received_limit role slot room (Some octets) facts =
    let header = header_in octets in
    let pdu = pdu_of octets in
    let acks = has_acknowledged facts header in
    let own = acknowledged_if acks (heard_in_slot slot header.md facts) in
    let now = facts_before_taking role slot header facts in
    let accepted = accepts room header pdu now in
    data_limit (accepted && is_data pdu) (procedures_take_if (accepted && is_procedure_pdu pdu) pdu slot (accepted_if accepted pdu now))
    ∙ taken_limit (accepted && is_procedure_pdu pdu) pdu slot (accepted_if accepted pdu now)
    ∙ gone_limit (answers_with_control role own) slot own ∙ acked_limit (acks && is_data facts.acknowledgement.last) facts.outgoing

fixed_by_limit : (control : Bool) (waiting : ℕ) (quiet goes : Bool) (outgoing : Data) → (data_fixed_by control waiting quiet goes outgoing).limit ≡ outgoing.limit
fixed_by_limit true waiting quiet goes outgoing = refl
fixed_by_limit false waiting quiet true outgoing = refl
fixed_by_limit false waiting quiet false outgoing = refl

-- ---- an end transmits 27 octets at least

record HasRoom (facts : Facts) : Type 0 where
  lengths : HasLengths facts.control.table.lengths
  kept : IfSome facts.encryption.kept IsInRange
  limit : 1 ≤ facts.outgoing.limit

transmits : (facts : Facts) → HasLengths facts.control.table.lengths → 1 ≤ tx_of facts.control.table.lengths
transmits facts has = let own = has.own in let peer = has.peer in omega (arith, own, peer)

limit_after : (setup : Setup) (facts : Facts) (step : Step) → HasRoom facts → 1 ≤ (facts_after setup facts step).outgoing.limit
limit_after setup facts (DataGiven start body) has = subst (λ n. 1 ≤ n) (sym (given_limit setup.link.handle start body facts.outgoing)) has.limit
limit_after setup facts (ProcedureAsked ask) has = subst (λ n. 1 ≤ n) (sym (asked_limit (is_to_come ask facts) ask facts)) has.limit
limit_after setup facts (EventEntered slot) has = subst (λ n. 1 ≤ n) (sym (entered_limit (goes_on facts) setup slot facts)) has.limit
limit_after setup facts (PacketSent slot) has = subst (λ n. 1 ≤ n) (sym (sent_limit slot facts)) has.limit
limit_after setup facts (PacketReceived slot octets room) has =
    let pdu = good_pdu setup facts octets in
    subst (λ n. 1 ≤ n)
    (sym (forged_limit (is_forged setup facts octets) (facts_received setup.link.role slot room pdu facts) ∙ received_limit setup.link.role slot room pdu facts))
    has.limit
limit_after setup facts PduFixed has = by (is_control facts.outgoing.fixed)
  where
    by : (stays : Bool) → 1 ≤ (if stays then facts else fixed_anew facts).outgoing.limit
    by true = has.limit
    by false = subst (λ n. 1 ≤ n) (sym (fixed_by_limit _ _ _ (data_goes facts) (data_cut facts))) (transmits facts has.lengths)
limit_after setup facts step has = has.limit

room_after : (setup : Setup) (facts : Facts) (step : Step) → IsPast setup facts → IsAskInRange step → HasRoom facts → HasRoom (facts_after setup facts step)
room_after setup facts step p is has =
    let next = sized_step setup facts step p is (has.lengths, has.kept) in
    record { lengths = next.0; kept = next.1; limit = limit_after setup facts step has }

steps_room : (setup : Setup) (facts : Facts) (steps : List Step) → IsPast setup facts → AreAsksInRange steps → HasRoom facts
    → HasRoom (fold (facts_after setup) facts steps)
steps_room setup facts [] p are has = has
steps_room setup facts (step ∷ steps) p are has =
    steps_room setup (facts_after setup facts step) steps (step_past setup facts step p) are.1 (room_after setup facts step p are.0 has)

room_first : (setup : Setup) → setup.link.max_rx ≤ payload_octets → HasRoom (first_facts setup)
room_first setup max = record {
  lengths = record { own = omega arith; peer = omega arith; own_to = omega arith; own_rx_to = omega (arith, max) };
  kept = tt;
  limit = omega arith;
}

past_room : (setup : Setup) (past : List Step) → setup.link.max_rx ≤ payload_octets → AreAsksInRange past → HasRoom (facts_of setup past)
unfolding facts_of
past_room setup past max are = steps_room setup (first_facts setup) past (first_past setup) are (room_first setup max)

-- ---- a PDU that counts as empty

abbrev IsWhole : Pdu → Type 0
IsWhole pdu = is_empty pdu ≡ true → pdu ≡ empty_pdu

has_octets : (ctrl : Ctrl) → (length (written ctrl) == 0) ≡ false
unfolding little_endian
has_octets StartEncReq = refl
has_octets ctrl = refl

control_whole : (control : Option Ctrl) → IsWhole (pdu_of_control control)
control_whole None = λ empty. refl
control_whole (Some ctrl) = λ empty. absurd (let h : true ≡ false = sym empty ∙ has_octets ctrl in absurd cc)

no_llid : (start : Bool) → (llid_of start == 0) ≡ false
no_llid true = refl
no_llid false = refl

neither : (one other : Bool) → one ≡ false → other ≡ false → (one || other) ≡ false
neither true other is is_too = absurd cc
neither false other is is_too = is_too

-- a packet with octets that were not sent has a piece of an octet at least
piece_whole : (limit : ℕ) (packets : List DataPacket) (found : Option DataPacket) → 1 ≤ limit → find is_unsent packets ≡ found → IsWhole (pdu_with (option_map (piece_of limit) found))
piece_whole limit packets None some first = λ empty. refl
piece_whole limit packets (Some packet) some first =
    let unsent : is_unsent packet ≡ true = is_left-head packets packet first in
    let left : sent_length packet < length packet.body = grind (arith, nat_tests) in
    let octets : 1 ≤ length (piece_of limit packet).body.items = omega (arith, some, left, length-piece_of limit packet, length-unsent_octets packet) in
    let full : is_empty (pdu_with (Some (piece_of limit packet))) ≡ false =
    neither (llid_of (piece_of limit packet).start == 0) (length (piece_of limit packet).body.items == 0) (no_llid (piece_of limit packet).start)
    (ne_eqb (length (piece_of limit packet).body.items) 0 (λ same. omega (arith, same, octets))) in
    λ empty. absurd (let h : true ≡ false = sym empty ∙ full in absurd cc)

-- so it is of what goes out next, where pieces have an octet at least
abbrev IsWholeNext : Acknowledgement → Data → Type 0
IsWholeNext ack outgoing = 1 ≤ outgoing.limit → IsWhole outgoing.fixed

whole_given : (handle : ℕ) (start : Bool) (body : List ℕ) (ack : Acknowledgement) (outgoing : Data) → IsWholeNext ack outgoing → IsWholeNext ack (data_given handle start body outgoing)
whole_given handle start [] ack outgoing is = is
whole_given handle start (octet ∷ octets) ack outgoing is = is

whole_fixed : (control : Bool) (waiting : ℕ) (quiet goes : Bool) (ack : Acknowledgement) (outgoing : Data)
    → IsWholeNext ack (data_fixed_by control waiting quiet goes outgoing)
whole_fixed true waiting quiet goes ack outgoing = λ some empty. refl
whole_fixed false waiting quiet true ack outgoing = λ some. piece_whole outgoing.limit outgoing.packets (find is_unsent outgoing.packets) some refl
whole_fixed false waiting quiet false ack outgoing = λ some empty. refl

whole_sent : (payload : List ℕ) (is_new : Bool) (ack : Acknowledgement) (outgoing : Data) → (1 ≤ outgoing.limit → IsWhole outgoing.fixed)
    → 1 ≤ (data_sent_as payload is_new outgoing).limit → IsWhole (data_sent_as payload is_new outgoing).fixed
whole_sent payload true ack outgoing is = λ some empty. refl
whole_sent payload false ack outgoing is = is

whole_acked : (acked : Bool) (outgoing : Data) → (1 ≤ outgoing.limit → IsWhole outgoing.fixed)
    → 1 ≤ (data_acked_if acked outgoing).limit → IsWhole (data_acked_if acked outgoing).fixed
whole_acked true outgoing is = is
whole_acked false outgoing is = is

whole_kept : EachMoveKeeps IsWholeNext
whole_kept = record {
  first = λ some empty. refl;
  given = whole_given;
  reported = λ ack outgoing is. is;
  fixed = λ control waiting limit quiet goes again ack outgoing is. whole_fixed control waiting quiet goes ack (record outgoing { limit = limit });
  gone = λ control ack outgoing acked is. λ some. control_whole control;
  sent = λ payload ack outgoing is. whole_sent payload (is_acked ack) ack outgoing is;
  acked = λ acked ack outgoing out is. whole_acked (acked && is_data ack.last) outgoing is;
  accepted = λ accepted pdu ack outgoing is. is;
}

next_whole : (fixes : Bool) (control : Option Ctrl) (fixed : Pdu) → IsWhole fixed → IsWhole (if fixes then pdu_of_control control else fixed)
next_whole true control fixed is = control_whole control
next_whole false control fixed is = is

-- the PDU that an end sends next is the empty one, or does not count as empty
pub fixed_whole : (link : OpenLink) → HasRanges link → is_empty (pdu_fixed (facts_in link)) ≡ true → pdu_fixed (facts_in link) ≡ empty_pdu
fixed_whole link ranges =
    let facts = facts_in link in
    let room = past_room link.setup link.past ranges.max_rx_to ranges.asks in
    next_whole facts.fixes_control (next_control facts) facts.outgoing.fixed (past_keeps IsWholeNext whole_kept link.setup link.past room.limit)

-- ---- no payload is longer than 251 octets

abbrev FitsAny : Pdu → Type 0
FitsAny pdu = length pdu.body ≤ payload_octets

record AreFitting (facts : Facts) : Type 0 where
  fixed : FitsAny facts.outgoing.fixed
  last : FitsAny facts.acknowledgement.last

written_short : (ctrl : Ctrl) → length (written ctrl) ≤ payload_octets
unfolding little_endian
written_short StartEncReq = omega arith
written_short other = omega arith

control_fits : (control : Option Ctrl) → FitsAny (pdu_of_control control)
control_fits None = omega arith
control_fits (Some ctrl) = written_short ctrl

piece_fits : (limit : ℕ) (found : Option DataPacket) → limit ≤ payload_octets → FitsAny (pdu_with (option_map (piece_of limit) found))
piece_fits limit None most = omega arith
piece_fits limit (Some packet) most = omega (arith, most, length-piece_of limit packet)

next_fits : (fixes : Bool) (control : Option Ctrl) (fixed : Pdu) → FitsAny fixed → FitsAny (if fixes then pdu_of_control control else fixed)
next_fits true control fixed is = control_fits control
next_fits false control fixed is = is

anew_fits : (control : Bool) (waiting : ℕ) (quiet goes : Bool) (outgoing : Data) → outgoing.limit ≤ payload_octets
    → FitsAny (data_fixed_by control waiting quiet goes outgoing).fixed
anew_fits true waiting quiet goes outgoing most = omega arith
anew_fits false waiting quiet true outgoing most = piece_fits outgoing.limit (find is_unsent outgoing.packets) most
anew_fits false waiting quiet false outgoing most = omega arith

transmits_most : (facts : Facts) → HasLengths facts.control.table.lengths → tx_of facts.control.table.lengths ≤ payload_octets
transmits_most facts has = let own = has.own_to in omega (arith, own)

fitting_same : (facts later : Facts) → later.outgoing.fixed ≡ facts.outgoing.fixed → later.acknowledgement.last ≡ facts.acknowledgement.last → AreFitting facts → AreFitting later
fitting_same facts later fixed last are = record { fixed = subst FitsAny (sym fixed) are.fixed; last = subst FitsAny (sym last) are.last }

given_fitting : (handle : ℕ) (start : Bool) (body : List ℕ) (facts : Facts) → AreFitting facts
    → AreFitting (record facts { outgoing = data_given handle start body facts.outgoing })
given_fitting handle start [] facts are = record { fixed = are.fixed; last = are.last }
given_fitting handle start (octet ∷ octets) facts are = record { fixed = are.fixed; last = are.last }

asked_fitting : (comes : Bool) (ask : Ask) (facts : Facts) → AreFitting facts → AreFitting (asked_unless comes ask facts)
asked_fitting true ask facts are = are
asked_fitting false ask facts are = record { fixed = are.fixed; last = are.last }

entered_fitting : (goes : Bool) (setup : Setup) (slot : ℕ) (facts : Facts) → AreFitting facts → AreFitting (facts_entered_if goes setup slot facts)
entered_fitting true setup slot facts are = record { fixed = are.fixed; last = are.last }
entered_fitting false setup slot facts are = are

fixed_fitting : (stays : Bool) (facts : Facts) → HasLengths facts.control.table.lengths → AreFitting facts → AreFitting (if stays then facts else fixed_anew facts)
fixed_fitting true facts has are = are
fixed_fitting false facts has are = record { fixed = anew_fits _ _ _ (data_goes facts) (data_cut facts) (transmits_most facts has); last = are.last }

gone_fitting : (goes : Bool) (slot : ℕ) (facts : Facts) → AreFitting facts → AreFitting (control_gone_if goes slot facts)
gone_fitting true slot facts are = record { fixed = next_fits facts.fixes_control (next_control facts) facts.outgoing.fixed are.fixed; last = are.last }
gone_fitting false slot facts are = are

went_fitting : (payload : List ℕ) (is_new : Bool) (fixed last : Pdu) (outgoing : Data) → outgoing.fixed ≡ fixed → FitsAny fixed → FitsAny last
    → FitsAny (data_sent_as payload is_new outgoing).fixed × FitsAny (if is_new then fixed else last)
went_fitting payload true fixed last outgoing same fits fits_too = (omega arith, fits)
went_fitting payload false fixed last outgoing same fits fits_too = (subst FitsAny (sym same) fits, fits_too)

sent_fitting : (slot : ℕ) (facts : Facts) → AreFitting facts → AreFitting (facts_sent slot facts)
sent_fitting slot facts are =
    let now = control_gone_if (takes_leave facts) slot facts in
    let gone = gone_fitting (takes_leave facts) slot facts are in
    let payload = payload_made now.encryption.end now.outgoing.fixed in
    let went = went_fitting payload (is_acked now.acknowledgement) now.outgoing.fixed now.acknowledgement.last now.outgoing refl gone.fixed gone.last in
    record { fixed = went.0; last = went.1 }

taken_fitting : (takes : Bool) (pdu : Pdu) (slot : ℕ) (facts : Facts) → AreFitting facts → AreFitting (procedures_take_if takes pdu slot facts)
taken_fitting true pdu slot facts are = record { fixed = are.fixed; last = are.last }
taken_fitting false pdu slot facts are = are

data_fitting : (takes : Bool) (facts : Facts) → AreFitting facts → AreFitting (data_taken_if takes facts)
data_fitting true facts are = record { fixed = are.fixed; last = are.last }
data_fitting false facts are = are

forged_fitting : (forged : Bool) (facts : Facts) → AreFitting facts → AreFitting (facts_forged_if forged facts)
forged_fitting true facts are = record { fixed = are.fixed; last = are.last }
forged_fitting false facts are = are

received_fitting : (role : Role) (slot : ℕ) (room : Bool) (found : Option (List ℕ)) (facts : Facts) → AreFitting facts → AreFitting (facts_received role slot room found facts)
received_fitting role slot room None facts are = are
received_fitting role slot room (Some octets) facts are =
    let header = header_in octets in
    let pdu = pdu_of octets in
    let acks = has_acknowledged facts header in
    let own = acknowledged_if acks (heard_in_slot slot header.md facts) in
    let now = facts_before_taking role slot header facts in
    let accepted = accepts room header pdu now in
    let first = fitting_same facts own (acked_control (acks && is_data facts.acknowledgement.last) facts.outgoing) refl are in
    let gone = gone_fitting (answers_with_control role own) slot own first in
    data_fitting (accepted && is_data pdu) (procedures_take_if (accepted && is_procedure_pdu pdu) pdu slot (accepted_if accepted pdu now))
    (taken_fitting (accepted && is_procedure_pdu pdu) pdu slot (accepted_if accepted pdu now) (record { fixed = gone.fixed; last = gone.last }))

fitting_after : (setup : Setup) (facts : Facts) (step : Step) → HasLengths facts.control.table.lengths → AreFitting facts → AreFitting (facts_after setup facts step)
fitting_after setup facts (DataGiven start body) has are = given_fitting setup.link.handle start body facts are
fitting_after setup facts (ProcedureAsked ask) has are = asked_fitting (is_to_come ask facts) ask facts are
fitting_after setup facts (EventEntered slot) has are = entered_fitting (goes_on facts) setup slot facts are
fitting_after setup facts PduFixed has are = fixed_fitting (is_control facts.outgoing.fixed) facts has are
fitting_after setup facts (PacketSent slot) has are = sent_fitting slot facts are
fitting_after setup facts (PacketReceived slot octets room) has are =
    let pdu = good_pdu setup facts octets in
    forged_fitting (is_forged setup facts octets) (facts_received setup.link.role slot room pdu facts)
    (received_fitting setup.link.role slot room pdu facts are)
fitting_after setup facts step has are = record { fixed = are.fixed; last = are.last }

steps_fitting : (setup : Setup) (facts : Facts) (steps : List Step) → IsPast setup facts → AreAsksInRange steps → HasRoom facts → AreFitting facts
    → AreFitting (fold (facts_after setup) facts steps)
steps_fitting setup facts [] p asks has are = are
steps_fitting setup facts (step ∷ steps) p asks has are =
    steps_fitting setup (facts_after setup facts step) steps (step_past setup facts step p) asks.1
    (room_after setup facts step p asks.0 has) (fitting_after setup facts step has.lengths are)

past_fitting : (setup : Setup) (past : List Step) → setup.link.max_rx ≤ payload_octets → AreAsksInRange past → AreFitting (facts_of setup past)
unfolding facts_of
past_fitting setup past max asks =
    steps_fitting setup (first_facts setup) past (first_past setup) asks (room_first setup max) (record { fixed = omega arith; last = omega arith })

one_fits : (acked : Bool) (next last : Pdu) → FitsAny next → FitsAny last → FitsAny (if acked then next else last)
one_fits true next last is is_too = is
one_fits false next last is is_too = is_too

-- the PDU that an end sends has at most 251 octets
pub sent_short : (link : OpenLink) → HasRanges link → length (pdu_sent (facts_in link)).body ≤ payload_octets
sent_short link ranges =
    let facts = facts_in link in
    let are = past_fitting link.setup link.past ranges.max_rx_to ranges.asks in
    one_fits (is_acked facts.acknowledgement) (pdu_fixed facts) facts.acknowledgement.last
    (next_fits facts.fixes_control (next_control facts) facts.outgoing.fixed are.fixed) are.last

-- so each packet is in form
pub sent_readable : (link : OpenLink) → HasRanges link → IsReadable (facts_in link)
sent_readable link ranges = record {
  llid = (past_llid link.setup link.past).1;
  short = sent_short link ranges;
  payload = payload_is link.setup link.past;
}

-- what is made of a packet that was sealed as this end
abbrev pub IsOpenedThere : Type 0
IsOpenedThere =
    (made : EncEnd) (sender listener : Facts) → (pdu_sent sender).llid < 4 → payload_sent sender ≡ payload_made made (pdu_sent sender)
    → CanOpen made listener.encryption.end → IsOpened sender listener

abbrev pub FitsThere : Type 0
FitsThere =
    (made : EncEnd) (sender listener : Facts) (to : Setup) → payload_sent sender ≡ payload_made made (pdu_sent sender)
    → CanOpen made listener.encryption.end → length (pdu_sent sender).body ≤ to.link.max_rx → FitsReceiver sender to listener

-- and an open end that can open what the far end made understands it
pub ranged_understand : IsOpenedThere → FitsThere → (from to : OpenLink) (made : EncEnd) → HasRanges from
    → from.setup.link.fields ≡ to.setup.link.fields → (facts_in from).event.channel ≡ (facts_in to).event.channel
    → payload_sent (facts_in from) ≡ payload_made made (pdu_sent (facts_in from)) → CanOpen made (facts_in to).encryption.end
    → length (pdu_sent (facts_in from)).body ≤ to.setup.link.max_rx
    → IsUnderstood from.setup (facts_in from) to.setup (facts_in to)
ranged_understand opened fits from to made ranges fields channel is can short =
    let sent = sent_readable from ranges in
    record {
      fields = fields;
      channel = channel;
      llid = sent.llid;
      octets = payload_short (facts_in from) sent;
      fits = fits made (facts_in from) (facts_in to) to.setup is can short;
      opens = opened made (facts_in from) (facts_in to) sent.llid is can;
    }
