-- The line of a new PDU of an end says the PDU that is fixed, and its last one is acknowledged.
use Rattle.std.proofs.Common.{◌≡◌, ℕ, ◌&&◌, not, Bool, true, false, List, [], ◌∷◌, ◌++◌, map, refl, sym}
use Rattle.std.specs.Prelude.{⊤}
use Rattle.std.specs.List.{AllByRecursion}
use Rattle.ble_base.specs.declared.roles.Side.{Side}
use Rattle.journal.specs.declared.entries.Entry.{Entry}
use Rattle.journal.specs.declared.entries.Entry.TheVariants.{Sent}
use Rattle.journal_controls.specs.journal_links.LinkLines.{line_of}
use Rattle.journal_controls.specs.link_model.Acknowledgement.{Pdu, is_acked}
use Rattle.journal_controls.specs.link_model.Controls.{pdu_fixed}
use Rattle.journal_controls.specs.link_model.Data.{is_empty}
use Rattle.journal_controls.specs.link_model.Facts.{Facts}
use Rattle.journal_controls.specs.link_model.Sending.{sent_notes_if}
use Rattle.journal_fixing.specs.OnLines.{is_sending}

-- an end that sends with these facts, where it does, sends this PDU as a new one
pub record IsSentNew (goes : Bool) (facts : Facts) (pdu : Pdu) : Type 0 where
  pub sends : goes ≡ true
  pub acked : is_acked facts.acknowledgement ≡ true
  pub is : pdu ≡ pdu_fixed facts

abbrev pub IsSaidBy : Bool → Facts → Entry → Type 0
IsSaidBy goes facts (Sent side link count llid body) = IsSentNew goes facts (record { llid = llid; body = body })
IsSaidBy goes facts line = ⊤

abbrev pub AreUnsent : List Entry → Type 0
AreUnsent lines = AllByRecursion (λ line. is_sending line ≡ false) lines

pub unsent_said : (goes : Bool) (facts : Facts) (lines : List Entry) → AreUnsent lines → AllByRecursion (IsSaidBy goes facts) lines
unsent_said goes facts [] none = tt
unsent_said goes facts (line ∷ lines) none = (by line none.0, unsent_said goes facts lines none.1)
  where
    by : (line : Entry) → is_sending line ≡ false → IsSaidBy goes facts line
    by (Sent side link count llid body) is = absurd cc
    by line is = tt

pub all_both : {A : Type 0} (P : A → Type 0) (xs more : List A) → AllByRecursion P xs → AllByRecursion P more → AllByRecursion P (xs ++ more)
all_both P [] more here later = later
all_both P (x ∷ xs) more here later = (here.0, all_both P xs more here.1 later)

pub in_middle : {A : Type 0} (P : A → Type 0) (xs : List A) (x : A) (more : List A) → AllByRecursion P (xs ++ x ∷ more) → P x
in_middle P [] x more all = all.0
in_middle P (first ∷ xs) x more all = in_middle P xs x more all.1

pub left_true : (one other : Bool) → (one && other) ≡ true → one ≡ true
left_true true other is = refl
left_true false other is = is

pub sent_said : (side : Side) (number handle count : ℕ) (facts : Facts) (noted : Bool) → noted ≡ (is_acked facts.acknowledgement && not (is_empty (pdu_fixed facts)))
    → AllByRecursion (IsSaidBy true facts) (map (line_of side number) (sent_notes_if noted handle count (pdu_fixed facts) ++ []))
sent_said side number handle count facts true is =
    (record { sends = refl; acked = left_true (is_acked facts.acknowledgement) (not (is_empty (pdu_fixed facts))) (sym is); is = refl }, tt)
sent_said side number handle count facts false is = tt
