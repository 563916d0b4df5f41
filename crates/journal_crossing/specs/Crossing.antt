-- Control PDUs of a link of a journal, which never cross on the air, and the termination of a link, after which none is
-- taken (Core 5.2, volume 6 part B, sections 4.5.9 and 5.1.6).
use Rattle.std.specs.Prelude.{◌≡◌, ℕ, ◌+◌, ◌≤◌, false, List, ◌∷◌, ◌++◌, length, Some}
use Rattle.ble_base.specs.Side.{other_side}
use Rattle.ble_base.specs.declared.roles.Side.{Side}
use Rattle.data_pdu.specs.declared.ctrl.Ctrl.{Ctrl}
use Rattle.data_pdu.specs.declared.ctrl.CtrlRead.TheVariants.{Known}
use Rattle.journal.specs.declared.entries.Entry.{Entry}
use Rattle.journal.specs.declared.entries.Entry.TheVariants.{Sent, Took}
use Rattle.journal_collisions.specs.Collisions.{IsTermination, control_in}
use Rattle.journal_collisions.specs.journal_data.Delivered.{host_buffers}
use Rattle.journal_collisions.specs.journal_data.Followed.{Mixed}
use Rattle.journal_collisions.specs.journal_data.Lines.{lines_of, pdus_on}
use Rattle.journal_collisions.specs.journal_links.Begun.{LinkBegun, link_numbered}

-- a control PDU that is known (section 2.4.2)
pub record IsKnownControl (llid : ℕ) (body : List ℕ) : Type 0 where
  pub ctrl : Ctrl
  pub is : control_in llid body ≡ Some (Known ctrl)

-- the number of PDUs with a payload that a side has sent on a link, and that it has taken there
abbrev pub count_sent : ℕ → Side → List Entry → ℕ
count_sent number side entries = length (pdus_on number (lines_of host_buffers side entries).sent)

abbrev pub count_taken : ℕ → Side → List Entry → ℕ
count_taken number side entries = length (pdus_on number (lines_of host_buffers side entries).taken)

-- where a side takes a control PDU, the other side has taken each control PDU, with LLID 3, that this side sent before
-- (section 2.4.1). So it is as long as no packet of the link is mixed
abbrev pub AllControlsAreTaken : Mixed → List Entry → Type 0
AllControlsAreTaken mixed journal = (before between rest : List Entry) (link : LinkBegun) (side : Side)
    (number sent_count count llid : ℕ) (sent_body body : List ℕ)
    → journal ≡ before ++ Sent side number sent_count 3 sent_body ∷ between ++ Took side number count llid body ∷ rest
    → mixed number (before ++ Sent side number sent_count 3 sent_body ∷ between) ≡ false
    → link_numbered number before ≡ Some link → IsKnownControl llid body
    → count_sent number side before + 1
    ≤ count_taken number (other_side side) (before ++ Sent side number sent_count 3 sent_body ∷ between)

-- a peripheral that took LL_TERMINATE_IND takes no control PDU of the link after it (section 5.1.6), as long as no packet
-- of the link is mixed
abbrev pub NoneIsTakenAfterTermination : Mixed → List Entry → Type 0
NoneIsTakenAfterTermination mixed journal = (before between rest : List Entry) (link : LinkBegun)
    (number count llid later_count later_llid : ℕ) (body later : List ℕ)
    → let side = other_side link.central in
    journal ≡ before ++ Took side number count llid body ∷ between ++ Took side number later_count later_llid later ∷ rest
    → mixed number (before ++ Took side number count llid body ∷ between) ≡ false
    → link_numbered number before ≡ Some link → IsTermination llid body → IsKnownControl later_llid later → ⊥
