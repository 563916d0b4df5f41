-- A host is answered in order.
use Rattle.std.proofs.Common.{◌≡◌, ℕ, true, false, Bool, List, [], ◌∷◌, ◌++◌, refl, sym, ap, ◌∙◌}
use Rattle.std.specs.Prelude.{flat_map, map, if◌then◌else◌, not}
use Rattle.ble_base.specs.declared.roles.Side.{Side}
use Rattle.ble_base.specs.declared.notes.Note.{Note}
use Rattle.ble_base.specs.declared.notes.Note.TheVariants.{Up}
use Rattle.journal.specs.declared.entries.Entry.{Entry}
use Rattle.h4_frames.specs.Frames.{frames}
use Rattle.controller_model.specs.Facts.{Setup}
use Rattle.controller_model.specs.Step.{Step, HostOctet, TurnBegins, PacketHeard, NothingHeard, TurnEnds}
use Rattle.controller_model.specs.Host.{HeardNothing, commands_of, host_octets, opcodes_in, opcodes_of, with_answer}
use Rattle.controller_model.specs.Notes.{HadNoLink, answers_among, answers_in, answers_of, as_two_octets, is_event, one_further, without_le_events}
use Rattle.controller_model.specs.Side.{notes_of}
use Rattle.run_model.specs.History.{past_of}
use Rattle.run_model.specs.Run.{Given, setup_at}
use Rattle.run_model.specs.Due.{octet_in}
use Rattle.run_model.specs.Readers.{fed_to_side, packets_of, station_of}
use Rattle.run_model.specs.Entries.{IsUpToDate}
use Rattle.run_model.specs.Answered.{IsAnswered, without_le_packets}

octets_are : (past : List Step) → host_octets past ≡ flat_map octet_in past
octets_are [] = refl
octets_are (HostOctet octet ∷ past) = ap (λ octets. octet ∷ octets) (octets_are past)
octets_are (TurnBegins slot on ∷ past) = octets_are past
octets_are (PacketHeard octets ∷ past) = octets_are past
octets_are (NothingHeard ∷ past) = octets_are past
octets_are (TurnEnds ∷ past) = octets_are past

-- a packet that is an LE event or not, before these
one_packet : (is_le : Bool) (packet : List ℕ) (notes : List Note) (packets : List (List ℕ)) → packets_of notes ≡ packets
    → packets_of (if not is_le then Up (record { items = packet }) ∷ notes else notes)
    ≡ (if not is_le then packet ∷ packets else packets)
one_packet true packet notes packets same = same
one_packet false packet notes packets same = ap (λ rest. packet ∷ rest) same

packets_apart : (notes : List Note) → packets_of (without_le_events notes) ≡ without_le_packets (packets_of notes)
packets_apart [] = refl
packets_apart (Up packet ∷ notes) =
    one_packet (is_event 0x3E packet.items) packet.items (without_le_events notes) (without_le_packets (packets_of notes)) (packets_apart notes)
packets_apart (other ∷ notes) = packets_apart notes

answers_read : (notes : List Note) → flat_map answers_in (packets_of notes) ≡ answers_among notes
answers_read [] = refl
answers_read (Up packet ∷ notes) = ap (λ answers. answers_in packet.items ++ answers) (answers_read notes)
answers_read (other ∷ notes) = answers_read notes

-- the octets that a controller was called with are those that its side was fed
called_with : (given : Given) (journal : List Entry) (side : Side) (up : IsUpToDate given journal)
    → host_octets (past_of (station_of side) up.before) ≡ fed_to_side side journal
called_with given journal side up = octets_are (past_of (station_of side) up.before) ∙ up.taken_is side

-- what a controller notes, by the laws of one
pub record AreAnswered : Type 0 where
  pub alone : (setup : Setup) (past : List Step) → HeardNothing past → notes_of setup past ≡ notes_of setup (map HostOctet (host_octets past))
  pub beside : (setup : Setup) (past : List Step) → HadNoLink setup past
      → without_le_events (notes_of setup past) ≡ without_le_events (notes_of setup (map HostOctet (host_octets past)))
  pub by_frames : (setup : Setup) (octets : List ℕ) → notes_of setup (map HostOctet octets) ≡ answers_of setup (frames octets)
  pub framed : (setup : Setup) (past : List Step) → opcodes_of (commands_of setup past) ≡ opcodes_in (frames (host_octets past))
  pub in_order : (setup : Setup) (past : List Step)
      → answers_among (notes_of setup past) ≡ map one_further (map as_two_octets (opcodes_of (with_answer (commands_of setup past))))

pub answered : AreAnswered → (given : Given) (journal : List Entry) (side : Side) → IsUpToDate given journal → IsAnswered given journal side
answered laws given journal side up =
    let setup = setup_at given (station_of side) in
    let past = past_of (station_of side) up.before in
    let octets = called_with given journal side up in
    let framed = ap packets_of (laws.by_frames setup (host_octets past)) ∙ ap (λ xs. packets_of (answers_of setup (frames xs))) octets in
    record {
      history = up.before;
      of_run = up.of_run;
      alone = λ nothing. up.received_is side ∙ ap packets_of (laws.alone setup past nothing) ∙ framed;
      beside = λ none. ap without_le_packets (up.received_is side) ∙ sym (packets_apart (notes_of setup past))
          ∙ ap packets_of (laws.beside setup past none) ∙ packets_apart (notes_of setup (map HostOctet (host_octets past)))
          ∙ ap without_le_packets framed;
      commands_are = laws.framed setup past ∙ ap (λ xs. opcodes_in (frames xs)) octets;
      each_once = ap (flat_map answers_in) (up.received_is side) ∙ answers_read (notes_of setup past) ∙ laws.in_order setup past;
    }
