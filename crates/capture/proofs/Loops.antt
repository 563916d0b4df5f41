-- The loops over the octets of a host and over the entries of a journal.
use Rattle.std.proofs.Common.{◌≡◌, ℕ, List, [], ◌∷◌, ◌++◌, refl, sym, ap, ◌∙◌, append_assoc, append-nil}
use Rattle.std.specs.Prelude.{flat_map}
use Rattle.std.proofs.lemmas.Grind.{flat_map-append}
use Rattle.ble_base.specs.declared.roles.Side.{Side}
use Rattle.h4_frames.specs.Frames.{rest}
use Rattle.journal.specs.declared.entries.Entry.{Entry}
use Rattle.capture.specs.declared.hosts.HostStream.{HostStream}
use Rattle.capture.specs.declared.recorder.Recorder.{Recorder}
use Rattle.capture.specs.Capture.{host_packet, octets_of, packets_after, packets_of}
use Rattle.capture.specs.Hosts.{packet_at, packets_ended}
use Rattle.capture.specs.Knowing.{Knows, KnowsHost}
use Rattle.capture.specs.Parts.{host_blocks}

host_blocks-append : (side : Side) (time : ℕ) (xs ys : List (List ℕ)) → host_blocks side time (xs ++ ys) ≡ host_blocks side time xs ++ host_blocks side time ys
host_blocks-append side time [] ys = refl
host_blocks-append side time (x ∷ xs) ys =
    ap (λ (more : List ℕ). octets_of (host_packet 0 side time x) ++ more) (host_blocks-append side time xs ys)
    ∙ sym (append_assoc (octets_of (host_packet 0 side time x)) (host_blocks side time xs) (host_blocks side time ys))

-- the packet that an octet ends, or none
pub put_one : (side : Side) (time : ℕ) (out more packet : List ℕ) (packets : List (List ℕ)) → packet ∷ [] ≡ packets
    → more ≡ out ++ octets_of (host_packet 0 side time packet) → more ≡ out ++ host_blocks side time packets
put_one side time out more packet packets same is =
    is ∙ ap (λ (xs : List ℕ). out ++ xs) (sym (append-nil (octets_of (host_packet 0 side time packet)))
    ∙ ap (λ (ps : List (List ℕ)). host_blocks side time ps) same)

pub put_none : (side : Side) (time : ℕ) (out : List ℕ) (packets : List (List ℕ)) → [] ≡ packets → out ≡ out ++ host_blocks side time packets
put_none side time out packets same =
    sym (append-nil out) ∙ ap (λ (ps : List (List ℕ)). out ++ host_blocks side time ps) same

-- some octets of a host were fed: what is left brings what is missing
pub record IsFed (side : Side) (time : ℕ) (stream : HostStream) (out : List ℕ) (left past octets before : List ℕ) : Type 0 where
  pub done : List ℕ
  pub knows : KnowsHost stream done
  pub whole : done ++ left ≡ past ++ octets
  pub packets : out ++ host_blocks side time (packets_ended done left) ≡ before ++ host_blocks side time (packets_ended past octets)

pub none_fed : (side : Side) (time : ℕ) (stream : HostStream) (past octets before : List ℕ) → KnowsHost stream past
    → IsFed side time stream before octets past octets before
none_fed side time stream past octets before knows = record { done = past; knows = knows; whole = refl; packets = refl }

pub more_fed : (side : Side) (time : ℕ) (stream next : HostStream) (out more : List ℕ) (octet : ℕ) (later past octets before : List ℕ)
    → (fed : IsFed side time stream out (octet ∷ later) past octets before) → KnowsHost next (fed.done ++ octet ∷ [])
    → more ≡ out ++ host_blocks side time (packet_at (rest fed.done) octet (rest (fed.done ++ octet ∷ [])))
    → IsFed side time next more later past octets before
more_fed side time stream next out more octet later past octets before fed knows is =
    let packet = packet_at (rest fed.done) octet (rest (fed.done ++ octet ∷ [])) in
    let later_packets = packets_ended (fed.done ++ octet ∷ []) later in
    record {
      done = fed.done ++ octet ∷ [];
      knows = knows;
      whole = append_assoc fed.done (octet ∷ []) later ∙ fed.whole;
      packets =
          ap (λ (xs : List ℕ). xs ++ host_blocks side time later_packets) is
          ∙ append_assoc out (host_blocks side time packet) (host_blocks side time later_packets)
          ∙ ap (λ (xs : List ℕ). out ++ xs) (sym (host_blocks-append side time packet later_packets))
          ∙ fed.packets;
    }

pub fed_packets : (side : Side) (time : ℕ) (stream : HostStream) (out past octets before : List ℕ)
    → IsFed side time stream out [] past octets before → out ≡ before ++ host_blocks side time (packets_ended past octets)
fed_packets side time stream out past octets before fed = sym (append-nil out) ∙ fed.packets

pub fed_knows : (side : Side) (time : ℕ) (stream : HostStream) (out past octets before : List ℕ)
    → IsFed side time stream out [] past octets before → KnowsHost stream (past ++ octets)
fed_knows side time stream out past octets before fed =
    let same : fed.done ≡ past ++ octets = sym (append-nil fed.done) ∙ fed.whole in
    rw same at fed.knows

-- ---- entries

-- some entries were recorded: what is left brings what is missing
pub record IsRecorded (recorder : Recorder) (out : List ℕ) (left past entries : List Entry) (before : List ℕ) : Type 0 where
  pub done : List Entry
  pub knows : Knows recorder done
  pub whole : done ++ left ≡ past ++ entries
  pub packets : out ++ flat_map octets_of (packets_after done left) ≡ before ++ flat_map octets_of (packets_after past entries)

pub none_recorded : (recorder : Recorder) (past entries : List Entry) (before : List ℕ) → Knows recorder past
    → IsRecorded recorder before entries past entries before
none_recorded recorder past entries before knows = record { done = past; knows = knows; whole = refl; packets = refl }

pub more_recorded : (recorder next : Recorder) (out more : List ℕ) (entry : Entry) (later past entries : List Entry) (before : List ℕ)
    → (recorded : IsRecorded recorder out (entry ∷ later) past entries before) → Knows next (recorded.done ++ entry ∷ [])
    → more ≡ out ++ flat_map octets_of (packets_of recorded.done entry)
    → IsRecorded next more later past entries before
more_recorded recorder next out more entry later past entries before recorded knows is =
    let here = packets_of recorded.done entry in
    let later_packets = packets_after (recorded.done ++ entry ∷ []) later in
    record {
      done = recorded.done ++ entry ∷ [];
      knows = knows;
      whole = append_assoc recorded.done (entry ∷ []) later ∙ recorded.whole;
      packets =
          ap (λ (xs : List ℕ). xs ++ flat_map octets_of later_packets) is
          ∙ append_assoc out (flat_map octets_of here) (flat_map octets_of later_packets)
          ∙ ap (λ (xs : List ℕ). out ++ xs) (sym (flat_map-append octets_of here later_packets))
          ∙ recorded.packets;
    }

pub recorded_packets : (recorder : Recorder) (out : List ℕ) (past entries : List Entry) (before : List ℕ)
    → IsRecorded recorder out [] past entries before → out ≡ before ++ flat_map octets_of (packets_after past entries)
recorded_packets recorder out past entries before recorded = sym (append-nil out) ∙ recorded.packets

pub recorded_knows : (recorder : Recorder) (out : List ℕ) (past entries : List Entry) (before : List ℕ)
    → IsRecorded recorder out [] past entries before → Knows recorder (past ++ entries)
recorded_knows recorder out past entries before recorded =
    let same : recorded.done ≡ past ++ entries = sym (append-nil recorded.done) ∙ recorded.whole in
    rw same at recorded.knows
