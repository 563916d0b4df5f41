-- Open links, as the code holds them, that know their pasts, with the data of these in the banks.
use Rattle.std.specs.Prelude.{◌≡◌, ℕ, ◌<◌, Bool, List, [], ◌∷◌, ◌++◌, Option, Some, None, ⊤}
use Rattle.std.specs.Option.{option_map}
use Rattle.ble_base.specs.declared.notes.Note.{Note}
use Rattle.acl_banks.specs.declared.pieces.Piece.{Piece}
use Rattle.acl_banks.specs.Banks.{Bank, credits_of}
use Rattle.slot_plan.specs.declared.Want.{Want}
use Rattle.link_end.specs.control_end.declared.answers.Entry.{Entry}
use Rattle.open_links.specs.Ended.{HasNone}
use Rattle.link_end.specs.Held.{Held}
use Rattle.link_end.specs.Knowing.{Knows as KnowsEnd}
use Rattle.link_end.specs.Tied.{HoldsData, IsBefore, IsTied, LeavesOthers}
use Rattle.open_links.specs.OpenLinks.{Links, OpenLink, HaveHandles, facts_in, link_at}
use Rattle.open_links.specs.Turns.{entry_at, link_entered, notes_entering, want_entering, wants_entering}

-- a link, as the code holds it
pub record HeldLink : Type 0 where
  pub end : Held
  pub last_served : ℕ

-- a link that is held is this one
pub record KnowsLink (held : HeldLink) (link : OpenLink) : Type 0 where
  pub end : KnowsEnd link.setup held.end link.past
  pub served : held.last_served ≡ link.last_served

-- the code knows the link that may be in a place
abbrev pub KnowsPlace : Option HeldLink → Option OpenLink → Type 0
KnowsPlace None None = ⊤
KnowsPlace (Some held) (Some link) = KnowsLink held link
KnowsPlace held link = ⊥

-- the links that are held are these, place by place
abbrev pub KnowsPlaces : List (Option HeldLink) → Links → Type 0
KnowsPlaces [] [] = ⊤
KnowsPlaces (held ∷ helds) (link ∷ links) = KnowsPlace held link × KnowsPlaces helds links
KnowsPlaces helds links = ⊥

-- ---- the links with their data

-- all links, as the code holds them
pub record HeldLinks : Type 0 where
  -- what is under each handle
  pub places : List (Option HeldLink)
  -- the packets of the host that wait, and the pieces that it has not received
  pub bank : Bank
  pub received : List (ℕ × Piece)
  -- the slot before which all packets were received, and how often octets were taken since complete packets were
  -- reported
  pub heard_to : ℕ
  pub unreported : ℕ

-- a bank has the data of the link that may be under a handle
abbrev pub HoldsUnder : ℕ → Bank → Option OpenLink → Type 0
HoldsUnder handle bank None = HasNone handle bank
HoldsUnder handle bank (Some link) = HoldsData handle bank (facts_in link).outgoing

-- the links that are held are these, each under its handle, with their data, and these pieces wait for the host
pub record KnowsAll (held : HeldLinks) (links : Links) (received : List (ℕ × Piece)) : Type 0 where
  pub places : KnowsPlaces held.places links
  pub handles : HaveHandles 0 links
  pub data_of : (handle : ℕ) → HoldsUnder handle held.bank (link_at handle links)
  pub pieces : held.received ≡ received

-- the same as one word
unfoldable pub Knows : HeldLinks → Links → List (ℕ × Piece) → Type 0
Knows held links received = KnowsAll held links received

-- ---- a change of the link under a handle

-- a bank after a change of a link: it has the data of the link then, and of others what it had
pub record BankStep (change : OpenLink → OpenLink) (link : OpenLink) (before after : Bank) : Type 0 where
  pub leaves : LeavesOthers link.setup.link.handle before after
  pub holds : HoldsData link.setup.link.handle before (facts_in link).outgoing
      → HoldsData link.setup.link.handle after (facts_in (change link)).outgoing

-- the bank goes as a change of the link that may be under a handle says
abbrev pub BankGoes : (OpenLink → OpenLink) → Option OpenLink → Bank → Bank → Type 0
BankGoes change None before after = after ≡ before
BankGoes change (Some link) before after = BankStep change link before after

-- what the calls on the end of a link need of the bank
abbrev pub IsTiedIn : Bank → Option HeldLink → Type 0
IsTiedIn bank None = ⊤
IsTiedIn bank (Some held) = IsTied held.end bank

-- what an end needs to take octets in a slot
pub record CanHear (slot : ℕ) (bank : Bank) (held : Held) : Type 0 where
  pub tied : IsTied held bank
  pub counts : credits_of bank held.setup.link.handle < 65535
  pub before : IsBefore held slot

-- the link that may be under a handle can hear in a slot
abbrev pub CanHearIn : ℕ → Bank → Option HeldLink → Type 0
CanHearIn slot bank None = ⊤
CanHearIn slot bank (Some held) = CanHear slot bank held.end

-- ---- a link enters its event

-- a bank has the data of the link that may be in a place
abbrev pub HoldsPlace : Bank → Option OpenLink → Type 0
HoldsPlace bank None = ⊤
HoldsPlace bank (Some link) = HoldsData link.setup.link.handle bank (facts_in link).outgoing

-- a bank has the data of all links
abbrev pub HoldsPlaces : Bank → Links → Type 0
HoldsPlaces bank [] = ⊤
HoldsPlaces bank (place ∷ links) = HoldsPlace bank place × HoldsPlaces bank links

-- a link as its slot begins: it knows its past, has added exactly these notes, gives what comes of its event, and says
-- whether it wants the radio
pub record Enters (new : HeldLink) (link : OpenLink) (slot : ℕ) (before noted : List Note)
    (given : Option Entry) (wants : Bool) : Type 0 where
  pub knows : KnowsLink new (link_entered slot link)
  pub notes : noted ≡ before ++ notes_entering slot (Some link)
  pub entry : given ≡ entry_at slot (Some link)
  pub wants_radio : wants ≡ wants_entering slot link

-- the link that may be under a handle enters its event, with what it adds to the plan
pub record EntersPlace (new : Option HeldLink) (place : Option OpenLink) (slot handle : ℕ) (before noted : List Note)
    (given : Option Entry) (wanted wants : List Want) : Type 0 where
  pub knows : KnowsPlace new (option_map (link_entered slot) place)
  pub notes : noted ≡ before ++ notes_entering slot place
  pub entry : given ≡ entry_at slot place
  pub want : wants ≡ wanted ++ want_entering slot handle place
