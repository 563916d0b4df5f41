-- What a bank has under a handle, as it stays or is dropped.
use Rattle.std.proofs.Common.{◌≡◌, ℕ}
use Rattle.std.specs.List.{filter}
use Rattle.acl_banks.specs.Packets.{is_of}
use Rattle.acl_banks.specs.Banks.{Bank, bank_after_drop, credits_of}
use Rattle.acl_banks.proofs.Links.{none-filter}
use Rattle.link_end.proofs.Banked.{set_zero}
use Rattle.open_links.specs.Ended.{HasNone}

-- what a bank has under a handle is as it was
abbrev pub LeavesAt : ℕ → Bank → Bank → Type 0
LeavesAt handle before after =
    (filter (is_of handle) after.packets ≡ filter (is_of handle) before.packets) × (credits_of after handle ≡ credits_of before handle)

pub dropped : (handle : ℕ) (bank : Bank) → HasNone handle (bank_after_drop bank handle)
dropped handle bank = record { packets = none-filter (is_of handle) bank.packets; complete = set_zero bank.counts handle }
