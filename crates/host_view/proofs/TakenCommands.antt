-- What is true of the parameters of an accepted command, and of the view that accepts it.
use Rattle.std.proofs.Common.{◌≡◌, ℕ, suc, ◌≤◌, ◌^◌, ◌==◌, ◌&&◌, ◌||◌, Bool, true, false, cond, not, List, length, nat_le, nat_lt, Option, Some, None, is_none, is_some, refl, sym, arith}
use Rattle.std.proofs.lemmas.Bool.Decides.{nat_tests}
use Rattle.ble_base.specs.ChannelMap.{IsMap, used_channels}
use Rattle.scan_init.specs.Addresses.{is_full_for}
use Rattle.hci_cmd.specs.declared.command.Command.TheVariants.{HostBufferSize, LeSetAdvParams, LeSetScanParams, LeCreateConnection, LeAddToList, LeSetChannels}
use Rattle.host_view.specs.View.{View}
use Rattle.host_view.specs.Refusals.{are_parameters, are_scan_times, is_full, is_generated, uses_list}
use Rattle.host_view.specs.Status.{are_intervals, has_link, if_named, is_connected, named_address, status_of}
use Rattle.host_view.specs.InRange.{is_supported, IsLinkRequest}

-- ---- rows that do not hold

-- a row with a code that is not 00 does not hold, nor does one of the next
passes : (condition : Bool) (code rest : ℕ) → cond condition (suc code) rest ≡ 0 → (condition ≡ false) × (rest ≡ 0)
passes true code rest is = absurd (omega (arith, is))
passes false code rest is = (refl, is)

not_not : (b : Bool) → not b ≡ false → b ≡ true
not_not true is = refl
not_not false is = sym is

-- ---- the accept list and the map of channels

pub takes_address : (view : View) (kind : ℕ) (octets : List ℕ) → status_of view (LeAddToList kind octets) ≡ 0
    → is_full_for view.accepted (named_address kind octets) ≡ false
unfolding status_of
takes_address view kind octets ok =
    let free = passes (uses_list view) _ _ ok in
    let typed = passes (nat_lt 1 kind) _ _ free.1 in
    (passes (is_full_for view.accepted (named_address kind octets)) _ _ typed.1).0

map_by : (map : ℕ) → (nat_lt (length (used_channels map)) 2 || nat_le (2 ^ 37) map) ≡ false → IsMap map
map_by map ok = record { data_channels_only = grind (arith, nat_tests); two_or_more = grind (arith, nat_tests) }

pub takes_map : (view : View) (map : ℕ) → status_of view (LeSetChannels map) ≡ 0 → IsMap map
unfolding status_of
takes_map view map ok =
    map_by map (passes (nat_lt (length (used_channels map)) 2 || nat_le (2 ^ 37) map) _ _ ok).0

-- ---- the buffers of the host

buffers_by : (acl_length acl_count : ℕ) → (nat_lt acl_length 27 || (acl_count == 0)) ≡ false → (27 ≤ acl_length) × (1 ≤ acl_count)
buffers_by acl_length acl_count ok = (grind (arith, nat_tests), grind (arith, nat_tests))

pub takes_buffers : (view : View) (acl_length sco_length acl_count sco_count : ℕ)
    → status_of view (HostBufferSize acl_length sco_length acl_count sco_count) ≡ 0 → (27 ≤ acl_length) × (1 ≤ acl_count)
unfolding status_of
takes_buffers view acl_length sco_length acl_count sco_count ok =
    let closed = passes (has_link view) _ _ ok in
    buffers_by acl_length acl_count (passes (nat_lt acl_length 27 || (acl_count == 0)) _ _ closed.1).0

-- ---- advertising and scanning

least_interval : (min max : ℕ) → are_intervals min max ≡ true → 1 ≤ min
least_interval min max are = grind (arith, nat_tests)

pub advertising_interval : (view : View) (min max kind own peer_kind : ℕ) (peer : List ℕ) (channels policy : ℕ)
    → status_of view (LeSetAdvParams min max kind own peer_kind peer channels policy) ≡ 0 → 1 ≤ min
unfolding status_of
advertising_interval view min max kind own peer_kind peer channels policy ok =
    let off = passes view.advertising.on _ _ ok in
    least_interval min max (not_not (are_intervals min max) (passes (not (are_intervals min max)) _ _ off.1).0)

supported_by : (kind : ℕ) → (kind == 1) ≡ false → nat_lt 4 kind ≡ false → is_supported kind ≡ true
supported_by kind high more = grind (arith, nat_tests)

pub advertising_type : (view : View) (min max kind own peer_kind : ℕ) (peer : List ℕ) (channels policy : ℕ)
    → status_of view (LeSetAdvParams min max kind own peer_kind peer channels policy) ≡ 0 → is_supported kind ≡ true
unfolding status_of
advertising_type view min max kind own peer_kind peer channels policy ok =
    let off = passes view.advertising.on _ _ ok in
    let timed = passes (not (are_intervals min max)) _ _ off.1 in
    let low = passes (kind == 1) _ _ timed.1 in
    supported_by kind low.0 (passes (nat_lt 4 kind) _ _ low.1).0

least_scan : (interval window : ℕ) → are_scan_times interval window ≡ true → 1 ≤ interval
least_scan interval window are = grind (arith, nat_tests)

pub scan_interval : (view : View) (kind interval window own policy : ℕ)
    → status_of view (LeSetScanParams kind interval window own policy) ≡ 0 → 1 ≤ interval
unfolding status_of
scan_interval view kind interval window own policy ok =
    let off = passes view.scanning.on _ _ ok in
    let typed = passes (nat_lt 1 kind) _ _ off.1 in
    least_scan interval window (not_not (are_scan_times interval window) (passes (not (are_scan_times interval window)) _ _ typed.1).0)

-- ---- connecting

-- the conditions on the view and the parameters that do not hold
record IsTaken (view : View) (scan_interval window own min max latency timeout : ℕ) : Type 0 where
  idle : (is_some view.initiating || view.scanning.on) ≡ false
  scan : are_scan_times scan_interval window ≡ true
  parameters : are_parameters min max latency timeout ≡ true
  room : is_full view ≡ false
  address : view.has_address ≡ true

taken : (view : View) (interval window policy peer_kind : ℕ) (peer : List ℕ) (own min max latency timeout : ℕ)
    (lengths : List ℕ)
    → status_of view (LeCreateConnection interval window policy peer_kind peer own min max latency timeout lengths) ≡ 0
    → IsTaken view interval window own min max latency timeout
unfolding status_of
taken view interval window policy peer_kind peer own min max latency timeout lengths ok =
    let idle = passes (is_some view.initiating || view.scanning.on) _ _ ok in
    let scan = passes (not (are_scan_times interval window)) _ _ idle.1 in
    let policy_ok = passes (nat_lt 1 policy) _ _ scan.1 in
    let peer_given = passes (if_named policy (is_generated peer_kind)) _ _ policy_ok.1 in
    let peer_ok = passes (if_named policy (nat_lt 3 peer_kind)) _ _ peer_given.1 in
    let own_given = passes (is_generated own) _ _ peer_ok.1 in
    let own_ok = passes (nat_lt 3 own) _ _ own_given.1 in
    let own_set = passes ((own == 1) && is_none view.random) _ _ own_ok.1 in
    let parameters = passes (not (are_parameters min max latency timeout)) _ _ own_set.1 in
    let new = passes (if_named policy (is_connected view own peer_kind peer)) _ _ parameters.1 in
    let room = passes (is_full view) _ _ new.1 in
    record {
      idle = idle.0;
      scan = not_not (are_scan_times interval window) scan.0;
      parameters = not_not (are_parameters min max latency timeout) parameters.0;
      room = room.0;
      address = not_not view.has_address (passes (not view.has_address) _ _ room.1).0;
    }

link_request : (interval window min max latency timeout : ℕ) → are_scan_times interval window ≡ true
    → are_parameters min max latency timeout ≡ true → IsLinkRequest interval max latency timeout
link_request interval window min max latency timeout scan are = record {
  scan_from = least_scan interval window scan;
  interval_from = grind (arith, nat_tests);
  interval_to = grind (arith, nat_tests);
  latency_to = grind (arith, nat_tests);
  timeout_from = grind (arith, nat_tests);
  timeout_to = grind (arith, nat_tests);
  timeout_outlasts = grind (arith, nat_tests);
}

pub connection_parameters : (view : View) (interval window policy peer_kind : ℕ) (peer : List ℕ)
    (own min max latency timeout : ℕ) (lengths : List ℕ)
    → status_of view (LeCreateConnection interval window policy peer_kind peer own min max latency timeout lengths) ≡ 0
    → IsLinkRequest interval max latency timeout
connection_parameters view interval window policy peer_kind peer own min max latency timeout lengths ok =
    let is = taken view interval window policy peer_kind peer own min max latency timeout lengths ok in
    link_request interval window min max latency timeout is.scan is.parameters

none_by : (initiating : Option ℕ) (scanning : Bool) → (is_some initiating || scanning) ≡ false → initiating ≡ None
none_by None scanning idle = refl
none_by (Some policy) scanning idle = absurd (let h : true ≡ false = idle in absurd cc)

pub connection_is_only : (view : View) (interval window policy peer_kind : ℕ) (peer : List ℕ)
    (own min max latency timeout : ℕ) (lengths : List ℕ)
    → status_of view (LeCreateConnection interval window policy peer_kind peer own min max latency timeout lengths) ≡ 0
    → view.initiating ≡ None
connection_is_only view interval window policy peer_kind peer own min max latency timeout lengths ok =
    none_by view.initiating view.scanning.on
    (taken view interval window policy peer_kind peer own min max latency timeout lengths ok).idle

pub connection_has_room : (view : View) (interval window policy peer_kind : ℕ) (peer : List ℕ)
    (own min max latency timeout : ℕ) (lengths : List ℕ)
    → status_of view (LeCreateConnection interval window policy peer_kind peer own min max latency timeout lengths) ≡ 0
    → is_full view ≡ false
connection_has_room view interval window policy peer_kind peer own min max latency timeout lengths ok =
    (taken view interval window policy peer_kind peer own min max latency timeout lengths ok).room

pub connection_has_address : (view : View) (interval window policy peer_kind : ℕ) (peer : List ℕ)
    (own min max latency timeout : ℕ) (lengths : List ℕ)
    → status_of view (LeCreateConnection interval window policy peer_kind peer own min max latency timeout lengths) ≡ 0
    → view.has_address ≡ true
connection_has_address view interval window policy peer_kind peer own min max latency timeout lengths ok =
    (taken view interval window policy peer_kind peer own min max latency timeout lengths ok).address
