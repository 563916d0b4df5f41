-- How many packets of data its host holds, by the view: what the octets that the host sends between two turns make of that.
use Rattle.std.proofs.Common.{◌≡◌, ℕ, zero, suc, ◌-◌, ◌==◌, ◌&&◌, Bool, true, false, Option, Some, None, List, [], ◌∷◌, ◌++◌, cond, refl, ap, sym, subst, ◌∙◌, arith}
use Rattle.std.specs.Prelude.{filter, fold, is_some, nat_le, not, sum_by}
use Rattle.std.specs.List.{list_all, list_any}
use Rattle.std.specs.Option.{option_map, option_map_or}
use Rattle.std.proofs.lemmas.Bool.{eqb-true}
use Rattle.std.proofs.lemmas.List.Sums.{fold-append, sum_by-cons}
use Rattle.h4_frames.specs.declared.packet.HostPacket.TheVariants.{Command as HostCommand, Acl}
use Rattle.h4_frames.specs.declared.packet.Fed.{Fed}
use Rattle.h4_frames.specs.declared.packet.Fed.TheVariants.{More, Packet, LostSync}
use Rattle.hci_cmd.specs.Command.{command_of}
use Rattle.hci_cmd.specs.declared.command.Command.{Command}
use Rattle.hci_cmd.specs.declared.command.Command.TheVariants.{Disconnect, HostBufferSize, HostCompleted, LeConnectionUpdate, LeEnableEncryption, LeKeyNegative, LeKeyReply, LeParamNegative, LeParamReply, LeReadRemoteFeatures, LeSetDataLength, LeSetPhy, ReadRemoteVersion, Reset, SetHostFlow}
use Rattle.hci_cmd.specs.declared.command.CmdRead.{CmdRead}
use Rattle.hci_cmd.specs.declared.command.CmdRead.TheVariants.{Known, UnknownOpcode, BadLength}
use Rattle.hci_cmd.specs.declared.command.HandleCount.{HandleCount}
use Rattle.host_view.specs.declared.links.Link.{Link as ViewLink}
use Rattle.host_view.specs.Changes.{after_count, after_counts, changed_at, view_after}
use Rattle.host_view.specs.Links.{link_in}
use Rattle.host_view.specs.Status.{count_for, has_link, may_complete, status_of}
use Rattle.host_view.specs.View.{View, no_links}
use Rattle.ble_base.specs.ErrorCodes.{invalid_hci_parameters}
use Rattle.ble_base.specs.declared.notes.Note.TheVariants.{Done}
use Rattle.ble_base.specs.declared.procedure_kinds.Kind.{Kind}
use Rattle.journal_data.specs.HostLines.{OpenUnder, link_under, packets_framed}
use Rattle.journal_data.specs.open_links.OpenLinks.{Links, link_at}
use Rattle.journal_data.specs.open_links.declared.offers.Offer.{Offer}
use Rattle.journal_data.specs.open_links.declared.offers.Offer.TheVariants.{NoLink, Empty, Overflow, Kept}
use Rattle.journal_data.specs.controller_model.Commands.{facts_commanded, facts_known}
use Rattle.journal_data.specs.controller_model.Data.{facts_offered, offer_of}
use Rattle.journal_data.specs.controller_model.Facts.{Setup, Facts}
use Rattle.journal_data.specs.controller_model.Side.{facts_after, facts_fed, result_of}
use Rattle.journal_data.specs.controller_model.Step.{HostOctet}
use Rattle.journal_data.specs.controller_model.link_commands.LinksCommanded.{known_in, view_known_on}
use Rattle.journal_data.specs.controller_model.link_commands.Views.{view_answered}
use Rattle.journal_data.proofs.controller_model.link_commands.Ranges.{passes as row_passes}
use Rattle.journal_data.proofs.controller_model.Asked.{of_asking}
use Rattle.journal_data.proofs.controller_model.Feds.{more_octets}
use Rattle.journal_data.proofs.HostPackets.{more_framed, none_framed, packets_of}
use Rattle.journal_hosts.specs.HostFlow.{counts_completed, counts_read, counts_sent, may_take}
use Rattle.journal_hosts.proofs.ViewCounts.{Counts, changed_out, note_out, out_in, suc_suc, suc_zero, zero_suc}
use mathlib.Core.Path.{fun_ext}

-- ---- packets that the host returns

-- what is left of a count
abbrev left_if : Bool → ℕ → ℕ → ℕ
left_if own count n = cond own (n - count) n

still : (out : Option ℕ) → out ≡ option_map (λ (n : ℕ). n) out
still None = refl
still (Some n) = refl

returned_one : (change : ViewLink → ViewLink) (count : ℕ) → ((link : ViewLink) → (change link).outstanding ≡ link.outstanding - count)
    → (links : List (Option ViewLink)) (handle other : ℕ)
    → out_in (changed_at handle change links) other ≡ option_map (left_if (handle == other) count) (out_in links other)
returned_one change count less [] handle other = refl
returned_one change count less (None ∷ links) zero zero = refl
returned_one change count less (Some link ∷ links) zero zero = ap (λ (n : ℕ). Some n) (less link)
returned_one change count less (place ∷ links) zero (suc other) =
    still (out_in links other) ∙ ap (λ (own : Bool). option_map (left_if own count) (out_in links other)) (sym (zero_suc other))
returned_one change count less (place ∷ links) (suc handle) zero =
    still (out_in (place ∷ links) zero) ∙ ap (λ (own : Bool). option_map (left_if own count) (out_in (place ∷ links) zero)) (sym (suc_zero handle))
returned_one change count less (place ∷ links) (suc handle) (suc other) =
    returned_one change count less links handle other ∙ ap (λ (own : Bool). option_map (left_if own count) (out_in links other)) (sym (suc_suc handle other))

counted_more : (pair : HandleCount) (pairs : List HandleCount) (other n : ℕ)
    → left_if (pair.handle == other) pair.count n - count_for other pairs ≡ n - count_for other (pair ∷ pairs)
counted_more pair pairs other n = by (pair.handle == other)
  where
    rest : List HandleCount
    rest = filter (λ (one : HandleCount). one.handle == other) pairs

    by : (own : Bool) → left_if own pair.count n - count_for other pairs
        ≡ n - sum_by (λ (one : HandleCount). one.count) (cond own (pair ∷ rest) rest)
    by true = let parts = sum_by-cons (λ (one : HandleCount). one.count) pair rest in omega (arith, parts)
    by false = refl

returned_out : (pairs : List HandleCount) (links : List (Option ViewLink)) (other : ℕ)
    → out_in (after_counts links pairs) other ≡ option_map (λ (n : ℕ). n - count_for other pairs) (out_in links other)
returned_out [] links other = none (out_in links other)
  where
    none : (out : Option ℕ) → out ≡ option_map (λ (n : ℕ). n - 0) out
    none None = refl
    none (Some n) = ap (λ (m : ℕ). Some m) (omega arith)
returned_out (pair ∷ pairs) links other =
    returned_out pairs (after_count links pair) other
    ∙ ap (option_map (λ (n : ℕ). n - count_for other pairs)) (returned_one _ pair.count (λ link. refl) links pair.handle other)
    ∙ by (out_in links other)
  where
    by : (out : Option ℕ) → option_map (λ (n : ℕ). n - count_for other pairs) (option_map (left_if (pair.handle == other) pair.count) out)
        ≡ option_map (λ (n : ℕ). n - count_for other (pair ∷ pairs)) out
    by None = refl
    by (Some n) = ap (λ (m : ℕ). Some m) (counted_more pair pairs other n)

-- ---- what the lines count and what the view has

-- no link is open
abbrev pub IsBare : List (Option ViewLink) → Type 0
IsBare links = (handle : ℕ) → out_in links handle ≡ None

-- the links of the lines are those of the view
abbrev pub AreSame : List OpenUnder → List (Option ViewLink) → Type 0
AreSame held links = (handle : ℕ) → is_some (link_under handle held) ≡ is_some (out_in links handle)

-- flow control is on, or is off, as it was when the octets came, or no link is open any more
data IsSynced (on : Bool) (held : List OpenUnder) (view : View) (counts : ℕ → ℕ) : Type 0 where
  in_step : on ≡ view.flow.on → Counts view.links counts → AreSame held view.links → IsSynced on held view counts
  bare : IsBare view.links → IsSynced on held view counts

synced_counts : (on : Bool) (held : List OpenUnder) (view : View) (counts : ℕ → ℕ) → IsSynced on held view counts → Counts view.links counts
synced_counts on held view counts (in_step same counted are) = counted
synced_counts on held view counts (bare none) = λ handle n is. absurd (let h : None ≡ Some n = sym (none handle) ∙ is in absurd cc)

-- a change of the view that leaves that
plain_synced : (on : Bool) (held : List OpenUnder) (view after : View) (counts : ℕ → ℕ) → after.flow.on ≡ view.flow.on
    → ((handle : ℕ) → out_in after.links handle ≡ out_in view.links handle) → IsSynced on held view counts → IsSynced on held after counts
plain_synced on held view after counts flow out (in_step same counted are) =
    in_step (same ∙ sym flow) (λ handle n is. counted handle n (sym (out handle) ∙ is)) (λ handle. are handle ∙ ap (λ (n : Option ℕ). is_some n) (sym (out handle)))
plain_synced on held view after counts flow out (bare none) = bare (λ handle. out handle ∙ none handle)

-- ---- Host Number Of Completed Packets

module _ (held : List OpenUnder) (links : List (Option ViewLink)) (counts : ℕ → ℕ) (counted : Counts links counts) (are : AreSame held links) where
  same_may : (pairs : List HandleCount) (pair : HandleCount) → may_take held counts pairs pair ≡ may_complete links pairs pair
  same_may pairs pair = by (link_in links pair.handle) refl
    where
      by : (place : Option ViewLink) → link_in links pair.handle ≡ place
          → (is_some (link_under pair.handle held) && nat_le (count_for pair.handle pairs) (counts pair.handle))
          ≡ option_map_or (λ (link : ViewLink). nat_le (count_for pair.handle pairs) link.outstanding) place false
      by None at =
          ap (λ (some : Bool). some && nat_le (count_for pair.handle pairs) (counts pair.handle))
          (are pair.handle ∙ ap (λ (p : Option ViewLink). is_some (option_map (λ (link : ViewLink). link.outstanding) p)) at)
      by (Some link) at =
          ap (λ (some : Bool). some && nat_le (count_for pair.handle pairs) (counts pair.handle))
          (are pair.handle ∙ ap (λ (p : Option ViewLink). is_some (option_map (λ (one : ViewLink). one.outstanding) p)) at)
          ∙ ap (nat_le (count_for pair.handle pairs)) (sym (counted pair.handle link.outstanding (ap (option_map (λ (one : ViewLink). one.outstanding)) at)))

  same_all : (pairs some : List HandleCount) → list_all (may_take held counts pairs) some ≡ list_all (may_complete links pairs) some
  same_all pairs [] = refl
  same_all pairs (pair ∷ some) = λ i. same_may pairs pair i && same_all pairs some i

  -- they are returned
  returned_counts : (pairs : List HandleCount) → list_all (may_complete links pairs) pairs ≡ true
      → Counts (after_counts links pairs) (counts_completed held counts pairs)
  returned_counts pairs all handle n is =
      by (out_in links handle) refl (sym (returned_out pairs links handle) ∙ is)
      ∙ sym (ap (λ (takes : Bool). cond takes (counts handle - count_for handle pairs) (counts handle)) (same_all pairs pairs ∙ all))
    where
      by : (out : Option ℕ) → out_in links handle ≡ out → option_map (λ (m : ℕ). m - count_for handle pairs) out ≡ Some n
          → n ≡ counts handle - count_for handle pairs
      by None at is = absurd (let h : None ≡ Some n = is in absurd cc)
      by (Some m) at is =
          let left : m - count_for handle pairs ≡ n = cc in
          sym left ∙ ap (λ (k : ℕ). k - count_for handle pairs) (counted handle m at)

  returned_same : (pairs : List HandleCount) → AreSame held (after_counts links pairs)
  returned_same pairs handle =
      are handle ∙ by (out_in links handle) ∙ ap (λ (n : Option ℕ). is_some n) (sym (returned_out pairs links handle))
    where
      by : (out : Option ℕ) → is_some out ≡ is_some (option_map (λ (m : ℕ). m - count_for handle pairs) out)
      by None = refl
      by (Some m) = refl

  -- or are not
  refused_same : (pairs : List HandleCount) → list_all (may_complete links pairs) pairs ≡ false → (handle : ℕ) → counts_completed held counts pairs handle ≡ counts handle
  refused_same pairs none handle =
      ap (λ (takes : Bool). cond takes (counts handle - count_for handle pairs) (counts handle)) (same_all pairs pairs ∙ none)

bare_returned : (pairs : List HandleCount) (links : List (Option ViewLink)) → IsBare links → IsBare (after_counts links pairs)
bare_returned pairs links none handle = returned_out pairs links handle ∙ ap (option_map (λ (n : ℕ). n - count_for handle pairs)) (none handle)

-- what the lines make of the counts
abbrev counts_if : Bool → List OpenUnder → (ℕ → ℕ) → CmdRead → ℕ → ℕ
counts_if on held counts read = cond on (counts_read held counts read) counts

same_read : (on : Bool) (held : List OpenUnder) (view : View) (counts : ℕ → ℕ) (read : CmdRead) → counts_read held counts read ≡ counts
    → IsSynced on held view counts → IsSynced on held view (counts_if on held counts read)
same_read true held view counts read same synced = subst (IsSynced true held view) (sym same) synced
same_read false held view counts read same synced = synced

is_all : (b : Bool) → not b ≡ false → b ≡ true
is_all true is = refl
is_all false is = absurd (let h : true ≡ false = is in absurd cc)

by_on : (flow all : Bool) → flow ≡ true → (flow && not all) ≡ false → all ≡ true
by_on true all on is = is_all all is
by_on false all on is = absurd (let h : false ≡ true = on in absurd cc)

completed_synced : (on : Bool) (held : List OpenUnder) (view : View) (counts : ℕ → ℕ) (pairs : List HandleCount)
    → (view.flow.on && not (list_all (may_complete view.links pairs) pairs)) ≡ false → IsSynced on held view counts
    → IsSynced on held (cond view.flow.on (record view { links = after_counts view.links pairs }) view) (cond on (counts_completed held counts pairs) counts)
completed_synced on held view counts pairs takes (bare none) = by view.flow.on
  where
    by : (flow : Bool) → IsSynced on held (cond flow (record view { links = after_counts view.links pairs }) view) (cond on (counts_completed held counts pairs) counts)
    by true = bare (bare_returned pairs view.links none)
    by false = bare none
completed_synced true held view counts pairs takes (in_step same counted are) =
    let all = by_on view.flow.on (list_all (may_complete view.links pairs) pairs) (sym same) takes in
    subst (λ (flow : Bool). IsSynced true held (cond flow (record view { links = after_counts view.links pairs }) view) (counts_completed held counts pairs)) same
    (in_step same (returned_counts held view.links counts counted are pairs all) (returned_same held view.links counts counted are pairs))
completed_synced false held view counts pairs takes (in_step same counted are) =
    subst (λ (flow : Bool). IsSynced false held (cond flow (record view { links = after_counts view.links pairs }) view) counts) same (in_step same counted are)

none_refused : (flow complete : Bool) → complete ≡ true → (cond (flow && not complete) invalid_hci_parameters 0 == 0) ≡ false → ⊥
none_refused true true all refused = let h : true ≡ false = refused in absurd cc
none_refused false complete all refused = let h : true ≡ false = refused in absurd cc
none_refused true false all refused = absurd cc

-- ---- an accepted command

pub bare_first : IsBare no_links
bare_first zero = refl
bare_first (suc zero) = refl
bare_first (suc (suc zero)) = refl
bare_first (suc (suc (suc zero))) = refl
bare_first (suc (suc (suc (suc zero)))) = refl
bare_first (suc (suc (suc (suc (suc zero))))) = refl
bare_first (suc (suc (suc (suc (suc (suc handle)))))) = refl

none_open : (links : List (Option ViewLink)) → list_any is_some links ≡ false → IsBare links
none_open [] none handle = refl
none_open (None ∷ links) none zero = refl
none_open (None ∷ links) none (suc handle) = none_open links none handle
none_open (Some link ∷ links) none handle = absurd (let h : true ≡ false = none in absurd cc)

module _ (on : Bool) (held : List OpenUnder) (view : View) (counts : ℕ → ℕ) (synced : IsSynced on held view counts) where
  link_synced : (change : ViewLink → ViewLink) → ((link : ViewLink) → (change link).outstanding ≡ link.outstanding) → (handle : ℕ) (read : CmdRead)
      → counts_read held counts read ≡ counts → IsSynced on held (record view { links = changed_at handle change view.links }) (counts_if on held counts read)
  link_synced change same handle read none =
      same_read on held (record view { links = changed_at handle change view.links }) counts read none
      (plain_synced on held view (record view { links = changed_at handle change view.links }) counts refl (changed_out change same handle view.links) synced)

  accepted_synced : (command : Command) → status_of view command ≡ 0 → IsSynced on held (view_after view command) (counts_if on held counts (Known command))
  unfolding view_after status_of
  accepted_synced Reset accepted = bare bare_first
  accepted_synced (SetHostFlow value) accepted = bare (none_open view.links (row_passes (has_link view) _ _ accepted).0)
  accepted_synced (HostBufferSize acl_length sco_length acl_count sco_count) accepted = bare (none_open view.links (row_passes (has_link view) _ _ accepted).0)
  accepted_synced (HostCompleted pairs) accepted =
      completed_synced on held view counts pairs.items (row_passes (view.flow.on && not (list_all (may_complete view.links pairs.items) pairs.items)) _ _ accepted).0 synced
  accepted_synced (Disconnect handle reason) accepted = link_synced _ (λ link. refl) handle (Known (Disconnect handle reason)) refl
  accepted_synced (ReadRemoteVersion handle) accepted = link_synced _ (λ link. refl) handle (Known (ReadRemoteVersion handle)) refl
  accepted_synced (LeConnectionUpdate handle least most latency timeout lengths) accepted =
      link_synced _ (λ link. refl) handle (Known (LeConnectionUpdate handle least most latency timeout lengths)) refl
  accepted_synced (LeReadRemoteFeatures handle) accepted = link_synced _ (λ link. refl) handle (Known (LeReadRemoteFeatures handle)) refl
  accepted_synced (LeEnableEncryption handle rand ediv key) accepted = link_synced _ (λ link. refl) handle (Known (LeEnableEncryption handle rand ediv key)) refl
  accepted_synced (LeKeyReply handle key) accepted = link_synced _ (λ link. refl) handle (Known (LeKeyReply handle key)) refl
  accepted_synced (LeKeyNegative handle) accepted = link_synced _ (λ link. refl) handle (Known (LeKeyNegative handle)) refl
  accepted_synced (LeParamReply handle least most latency timeout lengths) accepted =
      link_synced _ (λ link. refl) handle (Known (LeParamReply handle least most latency timeout lengths)) refl
  accepted_synced (LeParamNegative handle reason) accepted = link_synced _ (λ link. refl) handle (Known (LeParamNegative handle reason)) refl
  accepted_synced (LeSetDataLength handle most time) accepted = link_synced _ (λ link. refl) handle (Known (LeSetDataLength handle most time)) refl
  accepted_synced (LeSetPhy handle all tx rx options) accepted = link_synced _ (λ link. refl) handle (Known (LeSetPhy handle all tx rx options)) refl
  accepted_synced other accepted =
      same_read on held (view_after view other) counts (Known other) refl (plain_synced on held view (view_after view other) counts refl (λ handle. refl) synced)

  -- one that is refused
  refused_synced : (command : Command) → (status_of view command == 0) ≡ false → IsSynced on held view (counts_if on held counts (Known command))
  unfolding status_of
  refused_synced (HostCompleted pairs) refused =
      by synced (list_all (may_complete view.links pairs.items) pairs.items) refl
    where
      by : IsSynced on held view counts → (all : Bool) → list_all (may_complete view.links pairs.items) pairs.items ≡ all
          → IsSynced on held view (counts_if on held counts (Known (HostCompleted pairs)))
      by (bare none) all is = bare none
      by (in_step same counted are) false is =
          same_read on held view counts (Known (HostCompleted pairs)) (fun_ext (refused_same held view.links counts counted are pairs.items is)) (in_step same counted are)
      by (in_step same counted are) true is =
          absurd (none_refused view.flow.on (list_all (may_complete view.links pairs.items) pairs.items) is refused)
  refused_synced other refused = same_read on held view counts (Known other) refl synced

-- ---- an octet

answered_out : (view : View) (handle other : ℕ) (kind : Option Kind) → out_in (view_answered handle kind view).links other ≡ out_in view.links other
answered_out view handle other None = refl
answered_out view handle other (Some kind) = note_out view (Done handle kind) other tt

known_out : (view : View) (command : Command) (links : Links) (other : ℕ) → out_in (view_known_on view command links).links other ≡ out_in view.links other
known_out view (ReadRemoteVersion handle) links other = answered_out view handle other (known_in (ReadRemoteVersion handle) (link_at handle links))
known_out view (LeReadRemoteFeatures handle) links other = answered_out view handle other (known_in (LeReadRemoteFeatures handle) (link_at handle links))
known_out view command links other = refl

module _ (setup : Setup) (on : Bool) (held : List OpenUnder) (facts : Facts) (counts : ℕ → ℕ) (synced : IsSynced on held facts.view counts) where
  known_synced : (command : Command) (accepted : Bool) → (status_of facts.view command == 0) ≡ accepted
      → IsSynced on held (facts_known accepted setup facts command).view (counts_if on held counts (Known command))
  known_synced command true is = accepted_synced on held facts.view counts synced command (eqb-true (status_of facts.view command) 0 is)
  known_synced command false is = refused_synced on held facts.view counts synced command is

  read_synced : (read : CmdRead) → IsSynced on held (facts_commanded setup facts read).view (counts_if on held counts read)
  read_synced (Known command) =
      of_asking setup facts command (λ (after : Facts). IsSynced on held after.view (counts_if on held counts (Known command)))
      (known_synced command (status_of facts.view command == 0) refl)
      (λ asks left. plain_synced on held (view_after facts.view command) _ (counts_if on held counts (Known command)) refl
      (λ handle. known_out (view_after facts.view command) command facts.links handle) left)
  read_synced UnknownOpcode = same_read on held facts.view counts UnknownOpcode refl synced
  read_synced BadLength = same_read on held facts.view counts BadLength refl synced

  offered_synced : (offer : Offer) (handle : ℕ) (start : Bool) (octets : List ℕ) → IsSynced on held (facts_offered offer handle start octets facts).view counts
  offered_synced Kept handle start octets = synced
  offered_synced NoLink handle start octets = synced
  offered_synced Empty handle start octets = synced
  offered_synced Overflow handle start octets = synced

  same_if : (takes : Bool) → IsSynced takes held facts.view counts → IsSynced takes held facts.view (cond takes counts counts)
  same_if true is = is
  same_if false is = is

  fed_synced : (fed : Fed) → IsSynced on held (facts_fed setup facts fed).view (cond on (fold (counts_sent held) counts (packets_of fed)) counts)
  fed_synced (Packet (HostCommand opcode body)) = read_synced (command_of opcode body.items)
  fed_synced (Packet (Acl handle start count body)) =
      by on (offered_synced (offer_of setup facts handle count) handle start body.items)
    where
      by : (takes : Bool) → IsSynced on held (facts_offered (offer_of setup facts handle count) handle start body.items facts).view counts
          → IsSynced on held (facts_offered (offer_of setup facts handle count) handle start body.items facts).view (cond takes counts counts)
      by true is = is
      by false is = is
  fed_synced LostSync = same_if on synced
  fed_synced More = same_if on synced

-- ---- all octets of a feed

abbrev pub facts_sent : Setup → Facts → List ℕ → Facts
facts_sent setup facts [] = facts
facts_sent setup facts (octet ∷ octets) = facts_sent setup (facts_after setup facts (HostOctet octet)) octets

sent_synced : (setup : Setup) (on : Bool) (held : List OpenUnder) (octets : List ℕ) (facts : Facts) (counts : ℕ → ℕ) → IsSynced on held facts.view counts
    → IsSynced on held (facts_sent setup facts octets).view (cond on (fold (counts_sent held) counts (packets_framed facts.octets octets)) counts)
sent_synced setup on held [] facts counts synced =
    subst (λ packets. IsSynced on held facts.view (cond on (fold (counts_sent held) counts packets) counts)) (sym (none_framed facts.octets)) (by on synced)
  where
    by : (takes : Bool) → IsSynced on held facts.view counts → IsSynced on held facts.view (cond takes counts counts)
    by true is = is
    by false is = is
sent_synced setup on held (octet ∷ octets) facts counts synced =
    let next = facts_after setup facts (HostOctet octet) in
    let packets = packets_of (result_of facts.octets octet) in
    let one = fed_synced setup on held facts counts synced (result_of facts.octets octet) in
    let all : packets_framed facts.octets (octet ∷ octets) ≡ packets ++ packets_framed next.octets octets =
    more_framed facts.octets octet octets ∙ ap (λ before. packets ++ packets_framed before octets) (sym (more_octets setup facts octet)) in
    subst (λ more. IsSynced on held (facts_sent setup next octets).view (cond on (fold (counts_sent held) counts more) counts)) (sym all)
    (by on (sent_synced setup on held octets next (cond on (fold (counts_sent held) counts packets) counts) one))
  where
    by : (takes : Bool) → IsSynced on held (facts_sent setup (facts_after setup facts (HostOctet octet)) octets).view
        (cond takes (fold (counts_sent held) (cond takes (fold (counts_sent held) counts (packets_of (result_of facts.octets octet))) counts)
        (packets_framed (facts_after setup facts (HostOctet octet)).octets octets))
        (cond takes (fold (counts_sent held) counts (packets_of (result_of facts.octets octet))) counts))
        → IsSynced on held (facts_sent setup (facts_after setup facts (HostOctet octet)) octets).view
        (cond takes (fold (counts_sent held) counts (packets_of (result_of facts.octets octet) ++ packets_framed (facts_after setup facts (HostOctet octet)).octets octets)) counts)
    by true is =
        subst (IsSynced on held (facts_sent setup (facts_after setup facts (HostOctet octet)) octets).view)
        (sym (fold-append (counts_sent held) counts (packets_of (result_of facts.octets octet)) (packets_framed (facts_after setup facts (HostOctet octet)).octets octets))) is
    by false is = is

-- what the lines count after a feed is what the view has
pub sent_counts : (setup : Setup) (held : List OpenUnder) (octets : List ℕ) (facts : Facts) (counts : ℕ → ℕ) → Counts facts.view.links counts → AreSame held facts.view.links
    → Counts (facts_sent setup facts octets).view.links
    (cond facts.view.flow.on (fold (counts_sent held) counts (packets_framed facts.octets octets)) counts)
sent_counts setup held octets facts counts counted are =
    synced_counts facts.view.flow.on held (facts_sent setup facts octets).view _
    (sent_synced setup facts.view.flow.on held octets facts counts (in_step refl counted are))
