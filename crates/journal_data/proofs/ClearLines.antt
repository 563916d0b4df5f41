-- Where a side has no line of a link, its lines say nothing of it; and which note of a call says that a link is opened.
use Rattle.std.proofs.Common.{◌≡◌, ℕ, ◌+◌, ◌==◌, ◌&&◌, Bool, true, false, Option, Some, None, List, [], ◌∷◌, ◌++◌, map, cond, refl, sym, ap, ◌∙◌, append-nil, arith}
use Rattle.std.specs.Prelude.{filter, fold, not}
use Rattle.std.specs.List.{AllByRecursion}
use Rattle.std.proofs.Math.Bool.{and-false}
use Rattle.std.proofs.lemmas.List.Elements.{filter-append}
use Rattle.ble_base.specs.declared.addresses.Address.{Address}
use Rattle.ble_base.specs.declared.notes.Note.{Note}
use Rattle.ble_base.specs.declared.notes.Note.TheVariants.{Opened as OpenedNote}
use Rattle.ble_base.specs.declared.roles.Role.{Role}
use Rattle.ble_base.specs.declared.roles.Side.{Side}
use Rattle.h4_frames.specs.declared.packet.HostPacket.{HostPacket}
use Rattle.h4_frames.specs.declared.packet.HostPacket.TheVariants.{Command, Acl}
use Rattle.host_view.specs.Noted.{acl_handle, is_acl_data, two_octets}
use Rattle.journal.specs.declared.entries.Entry.{Entry}
use Rattle.journal.specs.declared.entries.Entry.TheVariants.{Air, Fed, Up, Opened, Shut, Sent, Took}
use Rattle.journal_acks.specs.controller_model.Notes.{is_event, is_opening}
use Rattle.journal_acks.proofs.run_model.OpenedNotes.{is_opened}
use Rattle.journal_acks.specs.journal_links.LinkLines.{link_named, where_named, lines_of as link_lines}
use Rattle.journal_acks.specs.journal_packets.Belonging.{is_side}
use Rattle.journal_acks.specs.Exchange.{is_number}
use Rattle.journal_acks.proofs.EntryNotes.{unnamed}
use Rattle.journal_data.specs.HostLines.{OpenUnder, Submitted, buffers_of, is_dropped, is_reset, kept_of, kept_one, link_under, packets_framed}
use Rattle.journal_data.specs.Lines.{Lines, PduLine, Received, buffers_taken, credited_in, credited_on, is_of_side, line_after, lines_after, lines_of, no_lines, pdus_on, received_in, submitted_on}
use Rattle.journal_data.proofs.Booked.{counts_more, credit_by, counts_on, data_by, received_at, received_line}
use Rattle.journal_data.proofs.HostPackets.{on_link, on_link-append}
use Rattle.journal_data.proofs.NotedLines.{IsUnused}
use Rattle.journal_data.proofs.Openness.{AreNot, IsNotedAs, stays, shuts, opens_first}

-- ---- a link of which a side has no line

pub record IsClearOn (number : ℕ) (lines : Lines) : Type 0 where
  pub unused : IsUnused number lines
  pub submitted : submitted_on number lines ≡ []

module _ (number : ℕ) where
  abbrev HasNone : List OpenUnder → Type 0
  HasNone links = AllByRecursion (λ (one : OpenUnder). (one.link == number) ≡ false) links

  -- it is open under no handle
  record IsClearSo (lines : Lines) : Type 0 where
    clear : IsClearOn number lines
    none : HasNone lines.links

  none_under : (handle : ℕ) (links : List OpenUnder) → HasNone links → is_number (link_under handle links) number ≡ false
  none_under handle [] none = refl
  none_under handle (one ∷ links) none = by (one.handle == handle) refl (none_under handle links none.1)
    where
      by : (here : Bool) → (one.handle == handle) ≡ here → is_number (link_under handle links) number ≡ false → is_number (link_under handle (one ∷ links)) number ≡ false
      by true is rest = rw is none.0
      by false is rest = rw is rest

  one_more : (links : List OpenUnder) (one : OpenUnder) → HasNone links → (one.link == number) ≡ false → HasNone (links ++ one ∷ [])
  one_more [] one none differs = (differs, tt)
  one_more (first ∷ links) one none differs = (none.0, one_more links one none.1 differs)

  some_less : (test : OpenUnder → Bool) (links : List OpenUnder) → HasNone links → HasNone (filter test links)
  some_less test [] none = tt
  some_less test (one ∷ links) none = by (test one) (some_less test links none.1)
    where
      by : (stays : Bool) → HasNone (filter test links) → HasNone (cond stays (one ∷ filter test links) (filter test links))
      by true rest = (none.0, rest)
      by false rest = rest

  -- ---- a packet of its host

  one_kept : (may : Option ℕ) (dropped start : Bool) (body : List ℕ) → is_number may number ≡ false → on_link number (kept_one may dropped start body) ≡ []
  one_kept None dropped start body none = refl
  one_kept (Some link) true start body none = refl
  one_kept (Some link) false start body none =
      ap (λ b. map (λ (one : Submitted). one.packet) (cond b (record { link = link; packet = record { start = start; body = body } } ∷ []) [])) none

  none_kept : (links : List OpenUnder) → HasNone links → (packets : List HostPacket) (taken : ℕ) → on_link number (kept_of 8 links taken packets) ≡ []
  none_kept links none [] taken = refl
  none_kept links none (Command opcode parameters ∷ packets) taken = by (is_reset opcode parameters.items) (none_kept links none packets taken)
    where
      by : (resets : Bool) → on_link number (kept_of 8 links taken packets) ≡ [] → on_link number (cond resets [] (kept_of 8 links taken packets)) ≡ []
      by true rest = refl
      by false rest = rest
  none_kept links none (Acl handle start count body ∷ packets) taken =
      let one = kept_one (link_under handle links) (is_dropped 8 taken count) start body.items in
      let rest = kept_of 8 links (taken + buffers_of one) packets in
      on_link-append number one rest
      ∙ ap (λ xs. xs ++ on_link number rest) (one_kept (link_under handle links) (is_dropped 8 taken count) start body.items (none_under handle links none))
      ∙ none_kept links none packets (taken + buffers_of one)

  -- ---- a line

  pdu_apart : (all : List PduLine) (one : PduLine) → (one.link == number) ≡ false → pdus_on number (all ++ one ∷ []) ≡ pdus_on number all
  pdu_apart all one differs =
      filter-append (λ (pdu : PduLine). pdu.link == number) all (one ∷ [])
      ∙ ap (λ (same : Bool). pdus_on number all ++ cond same (one ∷ []) []) differs ∙ append-nil (pdus_on number all)

  apart_by : (own same : Bool) → (own && same) ≡ false → own ≡ true → same ≡ false
  apart_by true same none is = none
  apart_by false same none is = absurd cc

  apart : (side other : Side) (link : ℕ) (line : Entry) → where_named side number (Some (other, link)) line ≡ [] → is_side other side ≡ true → (link == number) ≡ false
  apart side other link line none own = apart_by (is_side other side) (link == number) (unnamed side other (link == number) line none) own

  up_clear : (lines : Lines) (octets : List ℕ) → IsClearSo lines
      → (received_at number lines.received ++ received_at number (received_in lines.links octets) ≡ []) × (credited_on number lines + counts_on number (credited_in lines.links octets) ≡ 0)
  up_clear lines octets so = (
    (λ i. so.clear.unused.received i
        ++ (data_by (is_acl_data octets) false number (link_under (acl_handle octets) lines.links) octets (λ acl. none_under (acl_handle octets) lines.links so.none)
        ∙ ap (λ (b : Bool). cond b (received_line number octets ∷ []) []) (and-false (is_acl_data octets))) i),
    (let before = so.clear.unused.credited in
        let more : counts_on number (credited_in lines.links octets) ≡ 0 =
        credit_by (is_event 0x13 octets) false number (link_under (two_octets 4 octets) lines.links) octets (λ event. none_under (two_octets 4 octets) lines.links so.none)
        ∙ ap (λ (b : Bool). cond b (two_octets 6 octets) 0) (and-false (is_event 0x13 octets)) in omega (arith, before, more)),
  )

  line_clear : (side : Side) (lines : Lines) (line : Entry) → where_named side number (link_named line) line ≡ [] → is_of_side side line ≡ true → IsClearSo lines
      → IsClearSo (line_after 8 lines line)
  line_clear side lines (Fed other octets) none own so = record {
    clear = record {
      unused = record { sent = so.clear.unused.sent; taken = so.clear.unused.taken; received = so.clear.unused.received; credited = so.clear.unused.credited };
      submitted = on_link-append number lines.submitted (kept_of 8 lines.links (buffers_taken lines) (packets_framed lines.fed octets))
          ∙ (λ i. so.clear.submitted i ++ none_kept lines.links so.none (packets_framed lines.fed octets) (buffers_taken lines) i);
    };
    none = so.none;
  }
  line_clear side lines (Up other octets) none own so =
      let up = up_clear lines octets so in record {
        clear = record {
          unused = record {
            sent = so.clear.unused.sent;
            taken = so.clear.unused.taken;
            received = filter-append (λ (one : Received). one.link == number) lines.received (received_in lines.links octets) ∙ up.0;
            credited = counts_more number lines.credited (credited_in lines.links octets) ∙ up.1;
          };
          submitted = so.clear.submitted;
        };
        none = so.none;
      }
  line_clear side lines (Opened other link handle role) none own so = record {
    clear = record { unused = record { sent = so.clear.unused.sent; taken = so.clear.unused.taken; received = so.clear.unused.received; credited = so.clear.unused.credited }; submitted = so.clear.submitted };
    none = one_more lines.links (record { link = link; handle = handle }) so.none (apart side other link (Opened other link handle role) none own);
  }
  line_clear side lines (Shut other link reason) none own so = record {
    clear = record { unused = record { sent = so.clear.unused.sent; taken = so.clear.unused.taken; received = so.clear.unused.received; credited = so.clear.unused.credited }; submitted = so.clear.submitted };
    none = some_less (λ (one : OpenUnder). not (one.link == link)) lines.links so.none;
  }
  line_clear side lines (Sent other link count llid body) none own so = record {
    clear = record {
      unused = record {
        sent = pdu_apart lines.sent _ (apart side other link (Sent other link count llid body) none own) ∙ so.clear.unused.sent;
        taken = so.clear.unused.taken;
        received = so.clear.unused.received;
        credited = so.clear.unused.credited;
      };
      submitted = so.clear.submitted;
    };
    none = so.none;
  }
  line_clear side lines (Took other link count llid body) none own so = record {
    clear = record {
      unused = record {
        sent = so.clear.unused.sent;
        taken = pdu_apart lines.taken _ (apart side other link (Took other link count llid body) none own) ∙ so.clear.unused.taken;
        received = so.clear.unused.received;
        credited = so.clear.unused.credited;
      };
      submitted = so.clear.submitted;
    };
    none = so.none;
  }
  line_clear side lines (Air other channel octets fate verdict) none own so = so
  line_clear side lines line none own so = so

  -- ---- all lines

  no_parts : (xs ys : List Entry) → xs ++ ys ≡ [] → (xs ≡ []) × (ys ≡ [])
  no_parts [] ys none = (refl, none)
  no_parts (x ∷ xs) ys none = absurd cc

  clear_from : (side : Side) (journal : List Entry) (lines : Lines) → link_lines side number journal ≡ [] → IsClearSo lines → IsClearSo (fold (lines_after 8 side) lines journal)
  clear_from side [] lines none so = so
  clear_from side (line ∷ journal) lines none so =
      let both = no_parts (where_named side number (link_named line) line) (link_lines side number journal) none in
      clear_from side journal (lines_after 8 side lines line) both.1 (by (is_of_side side line) refl both.0)
    where
      by : (own : Bool) → is_of_side side line ≡ own → where_named side number (link_named line) line ≡ [] → IsClearSo (cond own (line_after 8 lines line) lines)
      by true is empty = line_clear side lines line empty is so
      by false is empty = so

  pub clear_lines : (side : Side) (journal : List Entry) → link_lines side number journal ≡ [] → IsClearOn number (lines_of 8 side journal)
  unfolding lines_of
  clear_lines side journal none =
      (clear_from side journal no_lines none (record {
        clear = record { unused = record { sent = refl; taken = refl; received = refl; credited = refl }; submitted = refl };
        none = tt;
      })).clear

-- ---- which note opens a link

none_opened : (handle : ℕ) (notes : List Note) → AreNot is_opening notes → is_opened handle notes ≡ false
none_opened handle [] none = refl
none_opened handle (OpenedNote other role own peer ∷ notes) none = absurd (let h : true ≡ false = none.0 in absurd cc)
none_opened handle (note ∷ notes) none = none_opened handle notes none.1

-- the first one of a call
pub record OpensFirst (notes : List Note) : Type 0 where
  pub handle : ℕ
  pub role : Role
  pub own : Address
  pub peer : Address
  pub rest : List Note
  pub is : notes ≡ OpenedNote handle role own peer ∷ rest

pub opened_is_first : (handle : ℕ) (before after : ℕ → Bool) (notes : List Note) → IsNotedAs before after notes → is_opened handle notes ≡ true → OpensFirst notes
opened_is_first handle before after notes (stays none shut same) opened = absurd (let h : true ≡ false = sym opened ∙ none_opened handle notes none in absurd cc)
opened_is_first handle before after notes (shuts none opens once) opened = absurd (let h : true ≡ false = sym opened ∙ none_opened handle notes none in absurd cc)
opened_is_first handle before after notes (opens_first other role own peer rest is none shut reports free now opens) opened =
    record { handle = other; role = role; own = own; peer = peer; rest = rest; is = is }
