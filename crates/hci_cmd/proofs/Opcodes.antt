-- Each command has an opcode: the row of the opcode makes it.
use Rattle.std.proofs.Common.{◌≡◌, ℕ, List, [], ◌∷◌, ◌++◌, length, get_or, Option, Some, None, refl, sym, ap, subst, append_assoc, append-nil, arith}
use Rattle.wire_fields.specs.Layout.{Layout, Makes}
use Rattle.hci_cmd.specs.Command.{layout_of, layouts, counts_layout, HasOpcode, HasBothLengths}
use Rattle.hci_cmd.specs.declared.command.HandleCount.{HandleCount}
use Rattle.hci_cmd.specs.declared.command.Command.{Command}
use Rattle.hci_cmd.specs.declared.command.Command.TheVariants.{Disconnect, ReadRemoteVersion, SetEventMask, Reset, SetHostFlow, HostBufferSize, HostCompleted, ReadLocalVersion, ReadLocalFeatures, ReadBdAddr, LeSetEventMask, LeReadBufferSize, LeReadFeatures, LeSetRandomAddress, LeSetAdvParams, LeSetAdvData, LeSetScanResponse, LeSetAdvEnable, LeSetScanParams, LeSetScanEnable, LeCreateConnection, LeCreateCancel, LeReadListSize, LeClearList, LeAddToList, LeRemoveFromList, LeConnectionUpdate, LeSetChannels, LeReadChannelMap, LeReadRemoteFeatures, LeEncrypt, LeRand, LeEnableEncryption, LeKeyReply, LeKeyNegative, LeParamReply, LeParamNegative, LeSetDataLength, LeReadMaxLength, LeReadPhy, LeSetDefaultPhy, LeSetPhy}

abbrev RowMakes : Option (Layout Command) → Command → Type 0
RowMakes (Some layout) command = Makes layout command
RowMakes None command = ⊥

has_opcode : (row : Option (Layout Command)) (opcode : ℕ) (command : Command) → layout_of opcode ≡ row → RowMakes row command → HasOpcode command opcode
has_opcode (Some layout) opcode command row makes = record { layout = layout; has_layout = row; makes = makes }
has_opcode None opcode command row makes = absurd makes

at : {command : Command} (opcode : ℕ) → RowMakes (layout_of opcode) command → (opcode : ℕ) × HasOpcode command opcode
at {command = command} opcode makes = (opcode, has_opcode (layout_of opcode) opcode command refl makes)

made_of_counts : (counts taken : List HandleCount) → Makes (counts_layout (length counts) taken) (HostCompleted (record { items = taken ++ counts }))
made_of_counts [] taken = ap (λ (items : List HandleCount). HostCompleted (record { items = items })) (sym (append-nil taken))
made_of_counts (count ∷ counts) taken =
    let whole : (taken ++ count ∷ []) ++ counts ≡ taken ++ count ∷ counts = append_assoc taken (count ∷ []) counts in
    (count.handle, (count.count, subst (λ (items : List HandleCount). Makes (counts_layout (length counts) (taken ++ count ∷ [])) (HostCompleted (record { items = items }))) whole (made_of_counts counts (taken ++ count ∷ []))))

two : (lengths : List ℕ) → length lengths ≡ 2 → lengths ≡ get_or lengths 0 0 ∷ get_or lengths 1 0 ∷ []
two (a ∷ b ∷ []) len = refl
two [] len = absurd (omega arith)
two (a ∷ []) len = absurd (omega arith)
two (a ∷ b ∷ c ∷ rest) len = absurd (omega arith)

pub every : (command : Command) → HasBothLengths command → (opcode : ℕ) × HasOpcode command opcode
unfolding layout_of layouts
every (Disconnect handle reason) both = at 0x0406 (handle, (reason, refl))
every (ReadRemoteVersion handle) both = at 0x041D (handle, refl)
every (SetEventMask mask) both = at 0x0C01 (mask, refl)
every Reset both = at 0x0C03 refl
every (SetHostFlow value) both = at 0x0C31 (value, refl)
every (HostBufferSize acl_length sco_length acl_count sco_count) both = at 0x0C33 (acl_length, (sco_length, (acl_count, (sco_count, refl))))
every (HostCompleted counts) both = at 0x0C35 (length counts.items, made_of_counts counts.items [])
every ReadLocalVersion both = at 0x1001 refl
every ReadLocalFeatures both = at 0x1003 refl
every ReadBdAddr both = at 0x1009 refl
every (LeSetEventMask mask) both = at 0x2001 (mask, refl)
every LeReadBufferSize both = at 0x2002 refl
every LeReadFeatures both = at 0x2003 refl
every (LeSetRandomAddress address) both = at 0x2005 (address, refl)
every (LeSetAdvParams min max kind own peer_kind peer channels policy) both = at 0x2006 (min, (max, (kind, (own, (peer_kind, (peer, (channels, (policy, refl))))))))
every (LeSetAdvData count text) both = at 0x2008 (count, (text, refl))
every (LeSetScanResponse count text) both = at 0x2009 (count, (text, refl))
every (LeSetAdvEnable value) both = at 0x200A (value, refl)
every (LeSetScanParams kind interval window own policy) both = at 0x200B (kind, (interval, (window, (own, (policy, refl)))))
every (LeSetScanEnable value duplicates) both = at 0x200C (value, (duplicates, refl))
every (LeCreateConnection scan_interval window policy peer_kind peer own min max latency timeout lengths) both = at 0x200D (scan_interval, (window, (policy, (peer_kind, (peer, (own, (min, (max, (latency, (timeout, (get_or lengths 0 0, (get_or lengths 1 0, ap (λ (xs : List ℕ). LeCreateConnection scan_interval window policy peer_kind peer own min max latency timeout xs) (sym (two lengths both))))))))))))))
every LeCreateCancel both = at 0x200E refl
every LeReadListSize both = at 0x200F refl
every LeClearList both = at 0x2010 refl
every (LeAddToList kind address) both = at 0x2011 (kind, (address, refl))
every (LeRemoveFromList kind address) both = at 0x2012 (kind, (address, refl))
every (LeConnectionUpdate handle min max latency timeout lengths) both = at 0x2013 (handle, (min, (max, (latency, (timeout, (get_or lengths 0 0, (get_or lengths 1 0, ap (λ (xs : List ℕ). LeConnectionUpdate handle min max latency timeout xs) (sym (two lengths both)))))))))
every (LeSetChannels channels) both = at 0x2014 (channels, refl)
every (LeReadChannelMap handle) both = at 0x2015 (handle, refl)
every (LeReadRemoteFeatures handle) both = at 0x2016 (handle, refl)
every (LeEncrypt key text) both = at 0x2017 (key, (text, refl))
every LeRand both = at 0x2018 refl
every (LeEnableEncryption handle rand ediv key) both = at 0x2019 (handle, (rand, (ediv, (key, refl))))
every (LeKeyReply handle key) both = at 0x201A (handle, (key, refl))
every (LeKeyNegative handle) both = at 0x201B (handle, refl)
every (LeParamReply handle min max latency timeout lengths) both = at 0x2020 (handle, (min, (max, (latency, (timeout, (get_or lengths 0 0, (get_or lengths 1 0, ap (λ (xs : List ℕ). LeParamReply handle min max latency timeout xs) (sym (two lengths both)))))))))
every (LeParamNegative handle reason) both = at 0x2021 (handle, (reason, refl))
every (LeSetDataLength handle most time) both = at 0x2022 (handle, (most, (time, refl)))
every LeReadMaxLength both = at 0x202F refl
every (LeReadPhy handle) both = at 0x2030 (handle, refl)
every (LeSetDefaultPhy all tx rx) both = at 0x2031 (all, (tx, (rx, refl)))
every (LeSetPhy handle all tx rx options) both = at 0x2032 (handle, (all, (tx, (rx, (options, refl)))))
