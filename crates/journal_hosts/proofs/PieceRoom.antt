-- The pieces of data that wait for a host have no more octets than a buffer of the host takes.
use Rattle.std.proofs.Common.{◌≡◌, ℕ, ◌+◌, ◌-◌, ◌%◌, ◌^◌, ◌≤◌, ◌==◌, ◌&&◌, ◌||◌, Bool, true, false, Option, Some, None, List, [], ◌∷◌, ◌++◌, length, cond, refl, ap, sym, subst, ◌∙◌, arith}
use Rattle.std.specs.Prelude.{IfSome, drop, not, take, if◌then◌else◌}
use Rattle.std.specs.List.{AllByRecursion}
use Rattle.std.specs.Option.{option_map}
use Rattle.std.proofs.lemmas.Bool.{and_parts, eqb-false, eqb-true, leb-true}
use Rattle.std.proofs.lemmas.List.{length-append, length-drop, length-take-le}
use Rattle.acl_banks.specs.declared.pieces.Piece.{Piece}
use Rattle.air_frame.specs.declared.Heard.{Heard}
use Rattle.air_frame.specs.declared.Heard.TheVariants.{NotOurs, Broken, Whole}
use Rattle.ccm_link.specs.Ccm.{opened_payload}
use Rattle.ccm_link.specs.Payload.{nonce}
use Rattle.ccm_link.proofs.Sealing.{length-ciphertext}
use Rattle.data_pdu.specs.declared.header.DataHeader.{DataHeader}
use Rattle.data_pdu.specs.Header.{header_in}
use Rattle.h4_frames.specs.declared.packet.HostPacket.TheVariants.{Command as HostCommand, Acl}
use Rattle.h4_frames.specs.declared.packet.Fed.{Fed}
use Rattle.h4_frames.specs.declared.packet.Fed.TheVariants.{More, Packet, LostSync}
use Rattle.hci_cmd.specs.Command.{command_of}
use Rattle.hci_cmd.specs.declared.command.Command.{Command}
use Rattle.hci_cmd.specs.declared.command.Command.TheVariants.{HostBufferSize, HostCompleted, Reset}
use Rattle.hci_cmd.specs.declared.command.CmdRead.{CmdRead}
use Rattle.hci_cmd.specs.declared.command.CmdRead.TheVariants.{Known, UnknownOpcode, BadLength}
use Rattle.host_view.specs.Changes.{view_after}
use Rattle.host_view.specs.Status.{has_link, status_of}
use Rattle.host_view.specs.View.{View}
use Rattle.host_answers.proofs.FlowHeld.{flow_in_turn}
use Rattle.journal_data.specs.link_model.Acknowledgement.{Acknowledgement, Pdu}
use Rattle.journal_data.specs.link_model.Data.{is_data, is_empty}
use Rattle.journal_data.specs.link_model.Facts.{Facts as EndFacts}
use Rattle.journal_data.specs.link_model.Kept.{kept_from, kept_of}
use Rattle.journal_data.specs.link_model.Packets.{counts_here, good_pdu, has_new_pdu, heard_of, pdu_read_in, whole_pdu}
use Rattle.journal_data.specs.link_model.Payload.{first_octet, opened_if, opens_now, read_pdu}
use Rattle.journal_data.specs.link_model.Pieces.{kept_if}
use Rattle.journal_data.specs.link_model.Receiving.{accepts, facts_before_taking}
use Rattle.journal_data.specs.link_model.Setup.{Setup as EndSetup}
use Rattle.journal_data.specs.link_model.Step.{WordsGiven}
use Rattle.journal_data.specs.link_model.Verdicts.{code_octets, has_room_for, pdu_by, pdu_of, whole_in}
use Rattle.journal_data.specs.link_model.declared.setup.LinkSetup.{LinkSetup}
use Rattle.journal_data.specs.link_model.enc_phase.Phases.{is_central}
use Rattle.journal_data.specs.link_model.enc_phase.Sealing.{EncEnd, is_right, opened_body}
use Rattle.journal_data.proofs.link_model.Acknowledging.{ack_before_taking}
use Rattle.journal_data.specs.open_links.declared.ended.LinkEnded.{LinkEnded}
use Rattle.journal_data.specs.open_links.declared.offers.Offer.{Offer}
use Rattle.journal_data.specs.open_links.declared.offers.Offer.TheVariants.{NoLink, Empty, Overflow, Kept}
use Rattle.journal_data.specs.open_links.Data.{received_past}
use Rattle.journal_data.specs.open_links.Ended.{received_without}
use Rattle.journal_data.specs.open_links.OpenLinks.{OpenLink, facts_in, link_after, link_at, with_change}
use Rattle.journal_data.proofs.open_links.Handles.{changed_is, other_stays}
use Rattle.journal_data.specs.controller_model.Answers.{next_word}
use Rattle.journal_data.specs.controller_model.Commands.{facts_accepted, facts_commanded, facts_known}
use Rattle.journal_data.specs.controller_model.Data.{facts_handed, facts_offered, offer_of}
use Rattle.journal_data.specs.controller_model.Facts.{Setup, Facts}
use Rattle.journal_data.specs.controller_model.Heard.{facts_with_words, has_room, link_heard, link_taken, opens, piece_taken}
use Rattle.journal_data.specs.controller_model.Links.{ends_for}
use Rattle.journal_data.specs.controller_model.Side.{facts_after, facts_fed, result_of}
use Rattle.journal_data.specs.controller_model.Step.{Step, HostOctet, TurnBegins, PacketHeard, NothingHeard, TurnEnds}
use Rattle.journal_data.specs.open_links.Turns.{ending_in}
use Rattle.journal_data.proofs.controller_model.Accepted.{same_after_counts}
use Rattle.journal_data.proofs.controller_model.Always.{IsInTurn, IsKeptAtStarts, leaving_is, opening_is, received_shut, start_keeps}
use Rattle.journal_data.proofs.controller_model.Asked.{of_asking}
use Rattle.journal_data.proofs.controller_model.Handing.{left_are}
use Rattle.journal_data.proofs.controller_model.Phases.{EachOutcome, heard_is, unheard_is}
use Rattle.journal_data.proofs.controller_model.link_commands.Ranges.{passes as row_passes}

-- a piece has no more than this number of octets
abbrev pub Fits : ℕ → ℕ × Piece → Type 0
Fits most piece = length piece.1.body.items ≤ most

abbrev pub AllFit : ℕ → List (ℕ × Piece) → Type 0
AllFit most received = AllByRecursion (Fits most) received

-- ---- what an end keeps of a packet

-- the payload is not longer than what the end receives, and an integrity code
abbrev HasRoom : ℕ → Bool → List ℕ → Type 0
HasRoom max_rx opens raw = length raw ≤ 2 + (max_rx + code_octets opens (pdu_of raw))

room_in : (max_rx : ℕ) (opens : Bool) (heard : Heard) → IfSome (whole_in max_rx opens heard) (HasRoom max_rx opens)
room_in max_rx opens NotOurs = tt
room_in max_rx opens Broken = tt
room_in max_rx opens (Whole pdu) = by (has_room_for max_rx opens pdu.items) refl
  where
    by : (room : Bool) → has_room_for max_rx opens pdu.items ≡ room → IfSome (pdu_by room pdu.items) (HasRoom max_rx opens)
    by true is = leb-true (length pdu.items) (2 + (max_rx + code_octets opens (pdu_of pdu.items))) is
    by false is = tt

code_most : (opens : Bool) (pdu : Pdu) → code_octets opens pdu ≤ 4
code_most opens pdu = by (opens && not (is_empty pdu))
  where
    by : (code : Bool) → cond code 4 0 ≤ 4
    by true = omega arith
    by false = omega arith

-- a payload that is opened is shorter by the code
body_fits : (max_rx : ℕ) (end : EncEnd) (raw : List ℕ) → HasRoom max_rx (opens_now end) raw → length (opened_body end (drop 2 raw)) ≤ max_rx
unfolding opened_payload
body_fits max_rx end raw room = by (opens_now end) room
  where
    now : List ℕ
    now = nonce end.opened (not (is_central end.role)) end.iv

    payload : List ℕ
    payload = drop 2 raw

    by : (opens : Bool) → HasRoom max_rx opens raw → length (if opens then opened_payload end.key now payload else payload) ≤ max_rx
    by true room =
        let count = length payload - 4 in
        let code = code_most true (pdu_of raw) in
        let dropped = length-drop 2 raw in
        let kept = length-take-le count payload (omega arith) in
        let same = length-ciphertext end.key now (take count payload) in
        omega (arith, room, code, dropped, kept, same)
    by false room = let dropped = length-drop 2 raw in omega (arith, room, dropped)

keeps_fit : (keeps : Bool) (handle most : ℕ) (pdu : Pdu) → (keeps ≡ true → length pdu.body ≤ most) → AllFit most (kept_if keeps handle pdu)
keeps_fit true handle most pdu fits = (fits refl, tt)
keeps_fit false handle most pdu fits = tt

short_first : (first body : List ℕ) → length first ≤ 2 → length (drop 2 (first ++ body)) ≤ length body
short_first first body few =
    let dropped = length-drop 2 (first ++ body) in
    let both = length-append first body in omega (arith, dropped, both, few)

-- a PDU of data has octets
some_octets : (pdu : Pdu) → is_data pdu ≡ true → is_empty pdu ≡ false
some_octets pdu is = by (pdu.llid == 0) (pdu.llid == 1) (pdu.llid == 2) (length pdu.body == 0) refl refl refl is
  where
    by : (zero_is one_is two_is none : Bool) → (pdu.llid == 0) ≡ zero_is → (pdu.llid == 1) ≡ one_is → (pdu.llid == 2) ≡ two_is
        → ((one_is || two_is) && not none) ≡ true → (zero_is || none) ≡ false
    by true true two_is none z o t is = absurd (let a = eqb-true pdu.llid 0 z in let b = eqb-true pdu.llid 1 o in omega (arith, a, b))
    by true false true none z o t is = absurd (let a = eqb-true pdu.llid 0 z in let b = eqb-true pdu.llid 2 t in omega (arith, a, b))
    by true false false none z o t is = absurd (let h : false ≡ true = is in absurd cc)
    by false true two_is true z o t is = absurd (let h : false ≡ true = is in absurd cc)
    by false true two_is false z o t is = refl
    by false false true true z o t is = absurd (let h : false ≡ true = is in absurd cc)
    by false false true false z o t is = refl
    by false false false none z o t is = absurd (let h : false ≡ true = is in absurd cc)

module _ (setup : EndSetup) (slot : ℕ) (room : Bool) (facts : EndFacts) where
  abbrev now : DataHeader → EndFacts
  now header = facts_before_taking setup.link.role slot header facts

  abbrev keeps : List ℕ → Bool
  keeps pdu = accepts room (header_in pdu) (pdu_of pdu) (now (header_in pdu)) && is_data (pdu_of pdu)

  -- what is kept is new, and so it was opened
  is_counted : (raw : List ℕ) → keeps raw ≡ true → counts_here facts raw ≡ true
  is_counted raw kept =
      let pdu = pdu_of raw in
      let header = header_in raw in
      let parts = and_parts (accepts room header pdu (now header)) (is_data pdu) kept in
      let accepted = (and_parts (has_new_pdu (now header) header && (room || not (is_data pdu))) _ parts.0).0 in
      let fresh = (and_parts (has_new_pdu (now header) header) (room || not (is_data pdu)) accepted).0 in
      let same : has_new_pdu (now header) header ≡ has_new_pdu facts header = same_new header in
      (λ i. (sym same ∙ fresh) i && not (some_octets pdu parts.1 i))
    where
      same_new : (header : DataHeader) → has_new_pdu (now header) header ≡ has_new_pdu facts header
      same_new header = ap (λ (a : Acknowledgement). is_new_by a header) (ack_before_taking setup.link.role slot header facts)
        where
          is_new_by : Acknowledgement → DataHeader → Bool
          is_new_by a header = has_new_pdu (record facts { acknowledgement = a }) header

  read_fits : (raw : List ℕ) → HasRoom setup.link.max_rx (opens_now facts.encryption.end) raw → (counts : Bool) → counts_here facts raw ≡ counts
      → AllFit setup.link.max_rx (kept_from setup slot room (read_pdu counts facts.encryption.end raw) facts)
  read_fits raw fits true is = by (is_right end (first_octet raw) (drop 2 raw))
    where
      end : EncEnd
      end = facts.encryption.end

      by : (right : Bool) → AllFit setup.link.max_rx (kept_from setup slot room (opened_if right end raw) facts)
      by true =
          let body = opened_body end (drop 2 raw) in
          let read = take 2 raw ++ body in
          let less = short_first (take 2 raw) body (few raw) in
          let opened = body_fits setup.link.max_rx end raw fits in
          keeps_fit (keeps read) setup.link.handle setup.link.max_rx (pdu_of read) (λ kept. omega (arith, less, opened))
        where
          few : (octets : List ℕ) → length (take 2 octets) ≤ 2
          few [] = omega arith
          few (one ∷ []) = omega arith
          few (one ∷ other ∷ octets) = omega arith
      by false = tt
  read_fits raw fits false is =
      keeps_fit (keeps raw) setup.link.handle setup.link.max_rx (pdu_of raw)
      (λ kept. absurd (let h : true ≡ false = sym (is_counted raw kept) ∙ is in absurd cc))

  pub kept_fits : (octets : List ℕ) → AllFit setup.link.max_rx (kept_of setup facts slot octets room)
  unfolding good_pdu whole_pdu
  kept_fits octets =
      by (whole_in setup.link.max_rx (opens_now facts.encryption.end) (heard_of setup facts octets))
      (room_in setup.link.max_rx (opens_now facts.encryption.end) (heard_of setup facts octets))
    where
      by : (whole : Option (List ℕ)) → IfSome whole (HasRoom setup.link.max_rx (opens_now facts.encryption.end))
          → AllFit setup.link.max_rx (kept_from setup slot room (pdu_read_in facts whole) facts)
      by None fits = tt
      by (Some raw) fits = read_fits raw fits (counts_here facts raw) refl

-- ---- what a controller holds

more_fit : (most more : ℕ) (received : List (ℕ × Piece)) → most ≤ more → AllFit most received → AllFit more received
more_fit most more [] less fit = tt
more_fit most more (piece ∷ received) less fit = (let first = fit.0 in omega (arith, first, less), more_fit most more received less fit.1)

module _ (most : ℕ) where
  both_fit : (xs ys : List (ℕ × Piece)) → AllFit most xs → AllFit most ys → AllFit most (xs ++ ys)
  both_fit [] ys fit also = also
  both_fit (x ∷ xs) ys fit also = (fit.0, both_fit xs ys fit.1 also)

  without_fit : (handle : ℕ) (received : List (ℕ × Piece)) → AllFit most received → AllFit most (received_without handle received)
  without_fit handle [] fit = tt
  without_fit handle (piece ∷ received) fit = at (piece.0 == handle) (without_fit handle received fit.1)
    where
      at : (drops : Bool) → AllFit most (received_without handle received)
          → AllFit most (cond (not drops) (piece ∷ received_without handle received) (received_without handle received))
      at true rest = rest
      at false rest = (fit.0, rest)

  past_fit : (place : Option OpenLink) (handle : ℕ) (received : List (ℕ × Piece)) → AllFit most received → AllFit most (received_past place handle received)
  past_fit None handle received fit = fit
  past_fit (Some link) handle received fit = without_fit handle received fit

  shut_fit : (received : List (ℕ × Piece)) (ended : List LinkEnded) → AllFit most received → AllFit most (received_shut received ended)
  shut_fit received [] fit = fit
  shut_fit received (one ∷ ended) fit = shut_fit (received_without one.handle received) ended (without_fit one.handle received fit)

  taken_fit : (slot : ℕ) (room : Bool) (octets : List ℕ) (place : Option OpenLink) → ((link : OpenLink) → place ≡ Some link → link.setup.link.max_rx ≤ most)
      → AllFit most (piece_taken slot room place octets)
  taken_fit slot room octets None least = tt
  taken_fit slot room octets (Some link) least =
      more_fit link.setup.link.max_rx most _ (least link refl) (kept_fits link.setup slot room (facts_in link) octets)

  -- no link receives more
  abbrev pub AreLess : Facts → Type 0
  AreLess facts = (handle : ℕ) (link : OpenLink) → link_at handle facts.links ≡ Some link → link.setup.link.max_rx ≤ most

  opened_fit : (link : LinkSetup) (facts : Facts) → AllFit most facts.received → AllFit most (opens link facts).facts.received
  opened_fit link facts fit =
      subst (λ (after : Facts). AllFit most after.received) (sym (opening_is link facts)) (past_fit (link_at link.handle facts.links) link.handle facts.received fit)

  heard_fit : (setup : Setup) (handle : ℕ) (octets : List ℕ) (facts : Facts) → AreLess facts → AllFit most facts.received
      → AllFit most (link_heard setup handle octets facts).facts.received
  heard_fit setup handle octets facts less fit =
      both_fit facts.received (piece_taken facts.turn.slot (has_room setup facts) (link_at handle facts.links) octets) fit
      (taken_fit facts.turn.slot (has_room setup facts) octets (link_at handle facts.links) (less handle))

  phase_fit : (setup : Setup) (facts : Facts) → AreLess facts → AllFit most facts.received
      → EachOutcome setup facts (λ outcome. AllFit most outcome.facts.received)
  phase_fit setup facts less fit = record {
    rests = fit;
    awaits_request = λ channel doing. fit;
    awaits_response = λ channel advertiser doing. fit;
    central_listens = λ handle doing. fit;
    sent = λ channel link doing. opened_fit link facts fit;
    responds = λ channel advertiser doing is_on. fit;
    taken = λ channel octets pdu advertiser fields handle is_on hears takes free.
        opened_fit (link_taken facts.view advertiser.params.own pdu fields handle) facts fit;
    scanned = λ channel octets pdu scanner doing is_on hears. fit;
    answered = λ channel octets pdu scanner doing is_on hears. fit;
    connects = λ channel octets pdu initiator access handle doing is_on hears answers next free in_range. fit;
    received = λ handle octets. heard_fit setup handle octets facts less fit;
  }

  -- a peripheral that is to hear is given words
  abbrev worded : Setup → Facts → OpenLink → OpenLink
  worded setup facts link = link_after (WordsGiven (next_word setup facts.drawn % 2 ^ 64) (next_word setup (facts.drawn + 1) % 2 ^ 32)) link

  words_less : (setup : Setup) (handle : ℕ) (facts : Facts) → AreLess facts → AreLess (facts_with_words setup handle facts)
  words_less setup handle facts less other link at = by (handle == other) refl
    where
      before_is : (place : Option OpenLink) → link_at other facts.links ≡ place → option_map (worded setup facts) place ≡ Some link → link.setup.link.max_rx ≤ most
      before_is None was is = absurd (let h : None ≡ Some link = is in absurd cc)
      before_is (Some before) was is =
          let same : worded setup facts before ≡ link = cc in
          subst (λ (one : OpenLink). one.setup.link.max_rx ≤ most) same (less other before was)

      by : (same : Bool) → (handle == other) ≡ same → link.setup.link.max_rx ≤ most
      by true same =
          let equal = eqb-true handle other same in
          before_is (link_at other facts.links) refl
          (sym (subst (λ (h : ℕ). link_at other (with_change h (worded setup facts) facts.links) ≡ option_map (worded setup facts) (link_at other facts.links)) (sym equal)
          (changed_is (option_map (worded setup facts)) 0 other facts.links refl)) ∙ at)
      by false differs =
          less other link (sym (other_stays (option_map (worded setup facts)) 0 handle other facts.links (λ e. eqb-false handle other differs (sym e))) ∙ at)

  fit_kept : IsKeptAtStarts (λ facts. AllFit most facts.received) (λ facts. AllFit most facts.received)
  fit_kept = record {
    weakens = λ facts fit. fit;
    ends = λ reason facts fit. shut_fit facts.received (ends_for reason facts) fit;
    begins = λ slot facts fit. fit;
    enters = λ slot facts fit. fit;
    wins = λ slot activity facts fit. fit;
    fixes = λ doing facts fit. fit;
    does = λ doing facts may fit. fit;
  }

  turn_fit : (setup : Setup) (facts : Facts) (step : Step) → IsInTurn step → AreLess facts → AllFit most facts.received → AllFit most (facts_after setup facts step).received
  turn_fit setup facts (HostOctet octet) turn less fit = absurd turn
  turn_fit setup facts (TurnBegins slot on) turn less fit =
      start_keeps (λ of. AllFit most of.received) (λ of. AllFit most of.received) fit_kept slot on facts fit
  turn_fit setup facts (PacketHeard octets) turn less fit =
      heard_is setup facts (λ outcome. AllFit most outcome.facts.received) (phase_fit setup facts less fit) facts.turn.doing octets refl
      (λ handle. heard_fit setup handle octets (facts_with_words setup handle facts) (words_less setup handle facts less) fit)
  turn_fit setup facts NothingHeard turn less fit =
      unheard_is setup facts (λ outcome. AllFit most outcome.facts.received) (phase_fit setup facts less fit) facts.turn.doing refl
  turn_fit setup facts TurnEnds turn less fit =
      subst (λ (after : Facts). AllFit most after.received) (sym (leaving_is (facts_handed facts)))
      (shut_fit (facts_handed facts).received (ends_for ending_in (facts_handed facts)) (left_are (Fits most) facts.view facts.received fit))

abbrev pub AreFitting : Facts → Type 0
AreFitting facts = AllFit facts.view.flow.acl_length facts.received

-- a call of a turn
pub call_fits : (setup : Setup) (facts : Facts) (step : Step) → IsInTurn step → AreLess facts.view.flow.acl_length facts → AreFitting facts
    → AreFitting (facts_after setup facts step)
call_fits setup facts step turn less fit =
    subst (λ flow. AllFit flow.acl_length (facts_after setup facts step).received) (sym (flow_in_turn setup facts step turn))
    (turn_fit facts.view.flow.acl_length setup facts step turn less fit)

-- ---- an octet of the host

module _ (setup : Setup) (facts : Facts) (closes : has_link facts.view ≡ false → facts.received ≡ []) (fit : AreFitting facts) where
  accepted_fits : (command : Command) → status_of facts.view command ≡ 0 → AreFitting (facts_accepted setup facts command)
  unfolding view_after status_of
  accepted_fits Reset accepted = tt
  accepted_fits (HostBufferSize acl_length sco_length acl_count sco_count) accepted =
      subst (AllFit acl_length) (sym (closes (row_passes (has_link facts.view) _ _ accepted).0)) tt
  accepted_fits (HostCompleted counts) accepted =
      subst (λ (n : ℕ). AllFit n facts.received) (sym (same_after_counts (λ (view : View). view.flow.acl_length) facts.view counts refl)) fit
  accepted_fits other accepted = fit

  known_fits : (command : Command) (accepted : Bool) → (status_of facts.view command == 0) ≡ accepted → AreFitting (facts_known accepted setup facts command)
  known_fits command true is = accepted_fits command (eqb-true (status_of facts.view command) 0 is)
  known_fits command false is = fit

  read_fits_too : (read : CmdRead) → AreFitting (facts_commanded setup facts read)
  read_fits_too (Known command) = of_asking setup facts command AreFitting (known_fits command (status_of facts.view command == 0) refl) (λ asks left. left)
  read_fits_too UnknownOpcode = fit
  read_fits_too BadLength = fit

  offered_fits : (offer : Offer) (handle : ℕ) (start : Bool) (octets : List ℕ) → AreFitting (facts_offered offer handle start octets facts)
  offered_fits Kept handle start octets = fit
  offered_fits NoLink handle start octets = fit
  offered_fits Empty handle start octets = fit
  offered_fits Overflow handle start octets = fit

  fed_fits : (fed : Fed) → AreFitting (facts_fed setup facts fed)
  fed_fits (Packet (HostCommand opcode body)) = read_fits_too (command_of opcode body.items)
  fed_fits (Packet (Acl handle start count body)) = offered_fits (offer_of setup facts handle count) handle start body.items
  fed_fits LostSync = fit
  fed_fits More = fit

  pub octet_fits : (octet : ℕ) → AreFitting (facts_after setup facts (HostOctet octet))
  octet_fits octet = fed_fits (result_of facts.octets octet)
