-- What the parts of a recorder know of the entries before (our choice).
use Rattle.std.specs.Prelude.{◌≡◌, ℕ, List, [], Bool, true, false}
use Rattle.std.specs.BTreeMap.{get}
use Rattle.std.specs.Ordering.{nat_cmp}
use Rattle.ble_base.specs.declared.roles.Side.TheVariants.{A, B}
use Rattle.h4_frames.specs.Frames.{Rest, Begun, Passed, rest}
use Rattle.h4_frames.specs.Machine.{framer_after}
use Rattle.journal.specs.declared.entries.Entry.{Entry}
use Rattle.capture.specs.declared.centrals.Centrals.{Centrals}
use Rattle.capture.specs.declared.hosts.HostStream.{HostStream}
use Rattle.capture.specs.declared.recorder.Recorder.{Recorder}
use Rattle.capture.specs.Centrals.{central_of}
use Rattle.capture.specs.Clock.{clock_after}
use Rattle.capture.specs.Hosts.{fed_by}

-- the octets of the packet that is begun; none in the search for an HCI_Reset
abbrev pub front_of : Rest → List ℕ
front_of (Begun front) = front
front_of (Passed passed) = []

abbrev pub is_search : Rest → Bool
is_search (Begun front) = false
is_search (Passed passed) = true

-- a host sent these octets
pub record KnowsHost (stream : HostStream) (octets : List ℕ) : Type 0 where
  pub framer : stream.framer ≡ framer_after octets
  pub front : stream.front.items ≡ front_of (rest octets)
  pub search : stream.is_lost ≡ is_search (rest octets)

-- the centrals are those after these entries
abbrev pub KnowsCentrals : Centrals → List Entry → Type 0
KnowsCentrals centrals entries = (access : ℕ) → get nat_cmp centrals.by_access access ≡ central_of entries access

-- all of this after these entries
pub record Knows (recorder : Recorder) (entries : List Entry) : Type 0 where
  pub clock : recorder.clock ≡ clock_after entries
  pub a : KnowsHost recorder.a (fed_by A entries)
  pub b : KnowsHost recorder.b (fed_by B entries)
  pub centrals : KnowsCentrals recorder.centrals entries
