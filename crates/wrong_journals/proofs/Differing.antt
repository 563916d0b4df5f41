-- What tells two values apart, and what lines of links must say of a link that is known.
use Rattle.std.proofs.Common.{◌≡◌, ℕ, ◌+◌, Bool, true, false, nat_eq, List, [], inl, inr, length, Option, Some, None, is_some}
use Rattle.std.proofs.Common.{sym, ap, ◌∙◌, arith}
use Rattle.std.specs.Prelude.{◌⊎◌}
use Rattle.acl_banks.specs.Packets.{Marked}
use Rattle.ble_base.specs.declared.roles.Role.{Role}
use Rattle.ble_base.specs.declared.roles.Side.{Side}
use Rattle.journal.specs.declared.entries.Entry.{Entry}
use Rattle.run_model.specs.Readers.{turns_of}
use Rattle.journal_pdus.specs.journal_links.Begun.{LinkBegun, link_numbered}
use Rattle.journal_pdus.specs.journal_links.Changes.{changes_of}
use Rattle.journal_pdus.specs.journal_links.Entered.{IsEnteredInTime, anchor_in, channel_in}
use Rattle.journal_pdus.specs.journal_links.Opened.{IsOpenedInTime, central_side}
use Rattle.wrong_journals.proofs.Packets.{some_is}

pub numbers_differ : (one other : ℕ) → nat_eq one other ≡ false → one ≡ other → ⊥
numbers_differ one other differ same = grind arith

pub truths_differ : true ≡ false → ⊥
truths_differ same = absurd (cc)

pub some_is_none : {X : Type 0} (x : X) (one other : Option X) → one ≡ Some x → other ≡ None → one ≡ other → ⊥
some_is_none x one other is_some is_none same = absurd (cc)

-- a host that was not full has not received all
pub not_handed : (received accepted : List Marked) (full : Bool) → (received ≡ accepted) ⊎ (full ≡ true)
    → nat_eq (length received) (length accepted) ≡ false → full ≡ false → ⊥
not_handed received accepted full handed differ room = elim handed [
  | inl same ↦ numbers_differ (length received) (length accepted) differ (ap (λ (xs : List Marked). length xs) same)
  | inr was ↦ truths_differ (sym was ∙ room)
]

-- ---- a link that is known

pub record IsOpenedAs (front : List Entry) (side : Side) (role : Role) (link : LinkBegun) : Type 0 where
  pub central : link.central ≡ central_side role side
  pub turn : link.slot + 1 ≡ length (turns_of front)

pub opened_as : (front : List Entry) (side : Side) (number : ℕ) (role : Role) (link : LinkBegun)
    → link_numbered number front ≡ Some link → IsOpenedInTime front side number role
    → IsOpenedAs front side role link
opened_as front side number role link known opened =
    let same : opened.link ≡ link = some_is opened.link link (sym opened.is_link ∙ known) in
    record {
      central = ap (λ (l : LinkBegun). l.central) (sym same) ∙ opened.central_is;
      turn = ap (λ (l : LinkBegun). l.slot + 1) (sym same) ∙ opened.in_turn;
    }

pub record IsEnteredAs (front : List Entry) (event channel : ℕ) (link : LinkBegun) : Type 0 where
  pub turn : length (turns_of front) ≡ anchor_in link [] event + 1
  pub on : channel ≡ channel_in link [] event

pub entered_as : (front : List Entry) (side : Side) (number event channel : ℕ) (link : LinkBegun)
    → link_numbered number front ≡ Some link → changes_of number link side front ≡ [] → IsEnteredInTime front side number event channel
    → IsEnteredAs front event channel link
entered_as front side number event channel link known none entered =
    let same : entered.link ≡ link = some_is entered.link link (sym entered.is_link ∙ known) in
    record {
      turn = entered.in_turn ∙ ap (λ (l : LinkBegun). anchor_in l (changes_of number l side front) event + 1) same
          ∙ ap (λ changes. anchor_in link changes event + 1) none;
      on = entered.on_channel ∙ ap (λ (l : LinkBegun). channel_in l (changes_of number l side front) event) same
          ∙ ap (λ changes. channel_in link changes event) none;
    }
