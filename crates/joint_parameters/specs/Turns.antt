-- A joint run and the run of both tracks by turns and packets at once: what each turn and each packet is in both, and
-- the rules of a link that are left (our choice of words; Core 5.2, volume 6 part B, sections 4.5.2, 4.5.9 and 5.5).
use Rattle.std.specs.Prelude.{◌≡◌, ℕ, ◌≤◌, Bool, true, false, not, ◌||◌, List, [], ◌∷◌, ◌++◌, Option, Some, None, is_some, if◌then◌else◌, ⊤}
use Rattle.instants.specs.declared.indications.Indication.{Indication}
use Rattle.instants.specs.declared.indications.Params.{Params}
use Rattle.joint_controls.specs.procedure_values.Drafts.{indication_of}
use Rattle.two_tracks.specs.TwoEnds.{TwoEnds, Step, TurnBegins, PeripheralHears, CentralHears, CentralEnds, PeripheralEnds, LastPdu, Untaken, Acknowledged, MayReach, enters}
use Rattle.two_tracks.specs.TwoEnds as two_ends
use Rattle.two_tracks.specs.Reached.{untaken}
use Rattle.two_tracks.specs.Reached as reached
use Rattle.joint_controls.specs.phased_control.Taken.{Response}
use Rattle.joint_controls.specs.phased_control.Phased.{Phased}
use Rattle.joint_controls.specs.Joint.{CentralAcked, CentralEnters, CentralHost, CentralSends, CentralSendsData, CentralTakes, Clear, Control, Data, Item, Joint, JointStep, OnAir, PeripheralAcked, PeripheralEnters, PeripheralFixes, PeripheralFixesData, PeripheralHost, PeripheralSends, PeripheralTakes, Shuts, Taken, Way, after_all, beginning, event_now, is_clear, is_free, is_running, is_taken, item_on_air, latency_now, may, next_item, next_out, sends_data}
use Rattle.joint_controls.specs.Ends.{IsStepInRange}
use Rattle.joint_parameters.specs.Views.{View, change_on_air, view}

pub record Link : Type 0 where
  -- both tracks, by turns and packets
  pub turns : TwoEnds
  -- both control parts
  pub joint : Joint

-- a link that begins after this many turns
abbrev pub first_link : ℕ → ℕ → Params → ℕ → ℕ → Link
first_link central_rx peripheral_rx first slot turns =
    record { turns = two_ends.beginning first slot turns; joint = beginning central_rx peripheral_rx first slot }

-- what a peripheral fixes for its reply as it hears a packet (our choice of words; section 4.5.9)
pub data Fixing : Type 0 where
  -- nothing new: the reply has what was fixed before, or is empty
  FixesNothing : Fixing
  -- the control PDU that goes next, which leaves its queue
  FixesControl : Fixing
  -- data, where no control PDU goes
  FixesData : Fixing

pub data LinkStep : Type 0 where
  -- a turn begins: each end whose anchor is in it enters its next event
  Begins : (slot : ℕ) → LinkStep
  -- the central transmits for the first time: a control PDU, data, or an empty PDU
  SendsControl : (slot : ℕ) → LinkStep
  SendsData : LinkStep
  SendsEmpty : LinkStep
  -- a packet of the central is good at the peripheral, which has room for data or not and fixes this, with what it
  -- would draw to answer LL_ENC_REQ
  IsHeard : (room : Bool) → (fixing : Fixing) → (slot : ℕ) → (response : Response) → LinkStep
  -- the reply to it is good at the central, which has room for data or not
  IsAnswered : (room : Bool) → (slot : ℕ) → LinkStep
  -- with no packet: a host, or the peripheral as it fixes or sends a PDU
  Alone : JointStep → LinkStep
  -- an end of the link is shut, for whatever reason
  CentralShuts : LinkStep
  PeripheralShuts : LinkStep

-- ---- what a step is in each of the two runs

-- the indication that goes with the next control PDU of a central, if it is one
abbrev pub next_indication : Phased → Option Indication
next_indication s = indication_of (next_out s) (event_now s) (latency_now s)

-- a PDU is taken: each control PDU, and data where there is room for it
abbrev pub takes_item : Bool → Option Item → Bool
takes_item room None = false
takes_item room (Some Data) = room
takes_item room (Some (Control outgoing ctrl)) = true

-- a control PDU finds room always
abbrev pub turn_steps : LinkStep → Link → List Step
turn_steps (Begins slot) l = TurnBegins ∷ []
turn_steps (SendsControl slot) l = two_ends.CentralSends (next_indication l.joint.central) ∷ []
turn_steps SendsData l = two_ends.CentralSends None ∷ []
turn_steps SendsEmpty l = two_ends.CentralSends None ∷ []
turn_steps (IsHeard room fixing slot response) l = PeripheralHears (room || not (is_free l.joint.down)) ∷ []
turn_steps (IsAnswered room slot) l = CentralHears ∷ []
turn_steps (Alone step) l = []
turn_steps CentralShuts l = CentralEnds ∷ []
turn_steps PeripheralShuts l = PeripheralEnds ∷ []

abbrev pub step_if : Bool → JointStep → List JointStep
step_if does step = (if does then step ∷ [] else [])

-- what is fixed, as a step of the peripheral
abbrev pub fixing_steps : Fixing → ℕ → List JointStep
fixing_steps FixesNothing slot = []
fixing_steps FixesControl slot = PeripheralFixes slot ∷ []
fixing_steps FixesData slot = PeripheralFixesData ∷ []

-- an end sees its own PDU acknowledged before it takes that of the other; in between a peripheral fixes its next one
abbrev pub joint_steps : LinkStep → Link → List JointStep
joint_steps (Begins slot) l =
    step_if (enters l.turns.turns l.turns.central_open l.turns.central) (CentralEnters slot)
    ++ step_if (enters l.turns.turns l.turns.peripheral_open l.turns.peripheral) (PeripheralEnters slot)
joint_steps (SendsControl slot) l = CentralSends slot ∷ []
joint_steps SendsData l = CentralSendsData ∷ []
joint_steps SendsEmpty l = []
joint_steps (IsHeard room fixing slot response) l =
    step_if (is_taken l.joint.up) PeripheralAcked ++ fixing_steps fixing slot
    ++ step_if (takes_item room (item_on_air l.joint.down)) (PeripheralTakes slot response)
joint_steps (IsAnswered room slot) l =
    step_if (is_taken l.joint.down) CentralAcked
    ++ step_if (takes_item room (item_on_air l.joint.up)) (CentralTakes slot)
joint_steps (Alone step) l = step ∷ []
joint_steps CentralShuts l = Shuts ∷ []
joint_steps PeripheralShuts l = Shuts ∷ []

abbrev pub link_after : LinkStep → Link → Link
link_after step l =
    record {
      turns = reached.after_all (turn_steps step l) l.turns;
      joint = after_all (joint_steps step l) l.joint;
    }

abbrev pub link_after_all : List LinkStep → Link → Link
link_after_all [] l = l
link_after_all (step ∷ steps) l = link_after_all steps (link_after step l)

-- the steps of the joint run of all these
abbrev pub all_joint_steps : List LinkStep → Link → List JointStep
all_joint_steps [] l = []
all_joint_steps (step ∷ steps) l = joint_steps step l ++ all_joint_steps steps (link_after step l)

-- ---- the rules of a link: nothing is said of the numbers of events

-- a PDU is first transmitted in an event, where the one before it is acknowledged
pub record MayTransmit (l : Link) : Type 0 where
  pub in_event : 1 ≤ l.turns.central.entered
  pub acknowledged : l.turns.last ≡ Acknowledged

-- the steps with no packet
abbrev pub is_alone : JointStep → Bool
is_alone (CentralHost step) = true
is_alone (PeripheralHost step) = true
is_alone (PeripheralFixes slot) = true
is_alone PeripheralFixesData = true
is_alone PeripheralSends = true
is_alone step = false

-- the peripheral has seen its own PDU acknowledged, if it was taken
abbrev pub after_acknowledgement : Joint → Joint
after_acknowledgement s = after_all (step_if (is_taken s.up) PeripheralAcked) s

-- a peripheral fixes a PDU after that, where its last one is acknowledged: a control PDU, or data where none goes
abbrev pub MayFix : Fixing → ℕ → Joint → Type 0
MayFix FixesNothing slot s = ⊤
MayFix FixesControl slot s =
    (is_clear (after_acknowledgement s).up ≡ true) × (is_some (next_item (after_acknowledgement s).peripheral) ≡ true)
MayFix FixesData slot s =
    (is_clear (after_acknowledgement s).up ≡ true) × (sends_data (after_acknowledgement s).peripheral ≡ true)

abbrev pub MayLink : LinkStep → Link → Type 0
MayLink (Begins slot) l = ⊤
MayLink (SendsControl slot) l =
    MayTransmit l × (is_free l.joint.up ≡ true) × (is_some (next_item l.joint.central) ≡ true)
MayLink SendsData l = MayTransmit l × (is_free l.joint.up ≡ true) × (sends_data l.joint.central ≡ true)
MayLink SendsEmpty l = MayTransmit l
MayLink (IsHeard room fixing slot response) l = MayReach l.turns × MayFix fixing slot l.joint
MayLink (IsAnswered room slot) l = l.turns.replies ≡ true
MayLink (Alone step) l = (is_alone step ≡ true) × (may step l.joint ≡ true)
MayLink CentralShuts l = ⊤
MayLink PeripheralShuts l = ⊤

-- each of the steps may come while the run goes on
abbrev pub MayLinkAll : List LinkStep → Link → Type 0
MayLinkAll [] l = ⊤
MayLinkAll (step ∷ steps) l =
    (is_running l.joint ≡ true) × MayLink step l × MayLinkAll steps (link_after step l)

-- what the hosts ask is in its range
abbrev pub IsLinkInRange : LinkStep → Type 0
IsLinkInRange (Alone step) = IsStepInRange step
IsLinkInRange step = ⊤

abbrev pub AreLinksInRange : List LinkStep → Type 0
AreLinksInRange [] = ⊤
AreLinksInRange (step ∷ steps) = IsLinkInRange step × AreLinksInRange steps

-- ---- both runs have one state of the tracks

-- where the last PDU of the central is: an empty one leaves the way as it is
abbrev pub fits : LastPdu → Way → Bool
fits last Clear = true
fits (Untaken change) (OnAir item sealed) = true
fits two_ends.Taken (Taken item) = true
fits last way = false

pub record IsPairedWith (t : TwoEnds) (v : View) : Type 0 where
  pub central_open : t.central_open ≡ true
  pub peripheral_open : t.peripheral_open ≡ true
  pub central : t.central ≡ v.central
  pub peripheral : t.peripheral ≡ v.peripheral
  pub sent : t.sent ≡ v.sent
  pub way : fits t.last v.down ≡ true
  pub coming : untaken t.last ≡ change_on_air v

abbrev pub IsPaired : Link → Type 0
IsPaired l = IsPairedWith l.turns (view l.joint)
