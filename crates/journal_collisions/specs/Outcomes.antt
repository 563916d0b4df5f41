-- What never comes of the procedure of a peripheral that collided: an indication of the central (Core 5.2, volume 6 part
-- B, sections 5.1.7, 5.1.10 and 5.3).
use Rattle.std.specs.Prelude.{◌≡◌, ◌⊎◌, ℕ, Bool, true, false, List, ◌∷◌, ◌++◌, Option, Some, None}
use Rattle.ble_base.specs.declared.procedure_kinds.Kind.{Kind}
use Rattle.ble_base.specs.declared.procedure_kinds.Kind.TheVariants.{Map, Phy, Request, Update}
use Rattle.data_pdu.specs.declared.ctrl.CtrlRead.{CtrlRead}
use Rattle.data_pdu.specs.declared.ctrl.CtrlRead.TheVariants.{Known}
use Rattle.data_pdu.specs.declared.ctrl.Ctrl.TheVariants.{ChannelMapInd, ConnectionUpdateInd, PhyUpdateInd}
use Rattle.journal.specs.declared.entries.Entry.{Entry}
use Rattle.journal.specs.declared.entries.Entry.TheVariants.{Sent, Took}
use Rattle.journal_endings.specs.journal_indications.journal_data.Followed.{Mixed}
use Rattle.journal_endings.specs.journal_indications.journal_data.journal_links.Begun.{LinkBegun}
use Rattle.journal_endings.specs.journal_indications.journal_data.journal_links.LinkLines.{lines_of}
use Rattle.journal_collisions.specs.Collisions.{Collides, any_line, control_in, is_kind, kind_begun, runs_on}

-- the procedure that a central itself completes by this indication: by 00 an update, by 01 a map, by 18 a PHY update
-- (sections 2.4.2.1, 2.4.2.2 and 2.4.2.23)
abbrev pub kind_indicated : Option CtrlRead → Option Kind
kind_indicated (Some (Known (ConnectionUpdateInd win_size win_offset interval latency timeout instant))) = Some Update
kind_indicated (Some (Known (ChannelMapInd map instant))) = Some Map
kind_indicated (Some (Known (PhyUpdateInd to_peripheral to_central instant))) = Some Phy
kind_indicated other = None

-- the procedure of the peripheral that the same indication answers, where the central runs none of its own: by 00 a
-- request, by 18 a PHY update; 01 answers none
abbrev pub kind_answered : Kind → Kind
kind_answered Update = Request
kind_answered own = own

-- a line in which the first PDU of such a procedure is taken
abbrev pub takes_first : Kind → Entry → Bool
takes_first kind (Took side number count llid body) = is_kind (kind_begun (control_in llid body)) kind
takes_first kind line = false

-- an indication that the central sends after it took the first PDU that collides is of its own procedure, in progress
-- then, or answers a first PDU that it took later. So it is as long as no packet of the link is mixed
abbrev pub NoneIsIndicated : Mixed → List Entry → Type 0
NoneIsIndicated mixed journal = (front between rest : List Entry) (link : LinkBegun) (number count llid : ℕ)
    (body : List ℕ) (next_count next_llid : ℕ) (next : List ℕ) (p q own : Kind)
    → journal ≡ front ++ Took link.central number count llid body ∷ between
    ++ Sent link.central number next_count next_llid next ∷ rest
    → mixed number (front ++ Took link.central number count llid body ∷ between) ≡ false
    → Collides front link number llid body p q → kind_indicated (control_in next_llid next) ≡ Some own
    → (runs_on own link.central number (front ++ Took link.central number count llid body ∷ between) ≡ true)
    ⊎ (any_line (takes_first (kind_answered own)) (lines_of link.central number between) ≡ true)
