-- A controller that has no link and is about to make none, as its turns go on.
use Rattle.std.proofs.Common.{◌≡◌, ℕ, zero, suc, ◌+◌, ◌==◌, Bool, true, false, Option, Some, None, List, [], ◌∷◌, ◌++◌, replicate, map, refl, ap, sym, ◌∙◌, subst}
use Rattle.std.specs.Prelude.{⊤, flat_map, fold, if◌then◌else◌}
use Rattle.std.specs.Option.{option_map}
use Rattle.acl_banks.specs.declared.pieces.Piece.{Piece}
use Rattle.host_view.specs.View.{View}
use Rattle.host_view.specs.Flow.{left_of}
use Rattle.host_view.specs.Noted.{view_noted}
use Rattle.hci_cmd.specs.declared.command.Command.{Command}
use Rattle.hci_cmd.specs.declared.command.Command.TheVariants.{Reset}
use Rattle.link_commands.specs.open_links.link_model.Step.{PacketSent, PduFixed}
use Rattle.slot_plan.specs.declared.Activity.{Activity}
use Rattle.slot_plan.specs.declared.Activity.TheVariants.{Link, Advertise, Scan, Initiate}
use Rattle.link_commands.specs.open_links.Data.{completed_from, link_reported, links_reported}
use Rattle.link_commands.specs.open_links.OpenLinks.{Links, OpenLink, link_after, link_at, link_from, link_served, with_change, with_change_from, without_links}
use Rattle.link_commands.specs.open_links.Turns.{ending_in, ends_by, link_entered, links_without, place_without}
use Rattle.controller_model.specs.declared.doing.Doing.{Doing}
use Rattle.controller_model.specs.declared.doing.Doing.TheVariants.{Advertises, Connects, CentralSends, PeripheralListens, PeripheralSends}
use Rattle.link_commands.specs.declared.moments.Moment.{Moment}
use Rattle.link_commands.specs.LinksCommanded.{links_commanded_from, place_commanded}
use Rattle.link_commands.specs.Commands.{is_about}
use Rattle.controller_model.specs.Facts.{Facts}
use Rattle.controller_model.specs.Commands.{links_after}
use Rattle.controller_model.specs.Data.{event_completed, facts_ended_turn, facts_handed, note_received, notes_ended_turn, pieces_handed}
use Rattle.controller_model.specs.Entering.{notes_all_entering}
use Rattle.controller_model.specs.Events.{notes_of_events}
use Rattle.controller_model.specs.Links.{notes_ended}
use Rattle.controller_model.specs.Packets.{facts_doing, links_sending, notes_doing, notes_sent}
use Rattle.controller_model.specs.Radio.{links_fixing}
use Rattle.controller_model.proofs.Alike.{Alike}
use Rattle.controller_model.proofs.Following.{view_followed}
use Rattle.controller_model.proofs.Handing.{handed_none, left_none}
use Rattle.controller_model.proofs.Always.{IsKeptAtStarts, MayBegin, leaving_is, links_won, received_shut, view_shut}

-- ---- no link

abbrev pub AreNone : Links → Type 0
AreNone [] = ⊤
AreNone (None ∷ links) = AreNone links
AreNone (Some link ∷ links) = ⊥

pub first_none : (n : ℕ) → AreNone (replicate n None)
first_none zero = tt
first_none (suc n) = first_none n

reset_none : (links : Links) → AreNone (without_links links)
reset_none [] = tt
reset_none (place ∷ links) = reset_none links

pub command_none : (command : Command) (links : Links) → AreNone links → AreNone (links_after command links)
command_none Reset links none = reset_none links
command_none other links none = none

pub none_map : (change : Option OpenLink → Option OpenLink) → change None ≡ None → (links : Links) → AreNone links → map change links ≡ links
none_map change is [] none = refl
none_map change is (None ∷ links) none = λ i. is i ∷ none_map change is links none i
none_map change is (Some link ∷ links) none = absurd none

none_change : (change : Option OpenLink → Option OpenLink) → change None ≡ None → (first handle : ℕ) (links : Links) → AreNone links
    → with_change_from first handle change links ≡ links
none_change change is first handle [] none = refl
none_change change is first handle (None ∷ links) none = at (first == handle) (none_change change is (first + 1) handle links none)
  where
    at : (test : Bool) → with_change_from (first + 1) handle change links ≡ links
        → (if test then change None ∷ links else None ∷ with_change_from (first + 1) handle change links) ≡ None ∷ links
    at true rest = λ i. is i ∷ links
    at false rest = λ i. None ∷ rest i
none_change change is first handle (Some link ∷ links) none = absurd none

none_placed : (about : Bool) (command : Command) (moment : Moment) → place_commanded about command moment None ≡ None
none_placed true command moment = refl
none_placed false command moment = refl

pub none_asked : (command : Command) (moment : Moment) (first : ℕ) (links : Links) → AreNone links → links_commanded_from first command moment links ≡ links
none_asked command moment first [] none = refl
none_asked command moment first (None ∷ links) none =
    λ i. none_placed (is_about first command) command moment i ∷ none_asked command moment (first + 1) links none i
none_asked command moment first (Some link ∷ links) none = absurd none

pub none_end : (reason : OpenLink → Option ℕ) (first : ℕ) (links : Links) → AreNone links → ends_by reason first links ≡ []
none_end reason first [] none = refl
none_end reason first (None ∷ links) none = none_end reason (first + 1) links none
none_end reason first (Some link ∷ links) none = absurd none

pub none_enter : (view : View) (slot first : ℕ) (links : Links) → AreNone links → notes_all_entering view slot first links ≡ []
none_enter view slot first [] none = refl
none_enter view slot first (None ∷ links) none = none_enter view slot (first + 1) links none
none_enter view slot first (Some link ∷ links) none = absurd none

pub none_stay : (reason : OpenLink → Option ℕ) (links : Links) → AreNone links → links_without reason links ≡ links
none_stay reason links none = none_map (place_without reason) refl links none

pub none_won : (slot : ℕ) (activity : Activity) (links : Links) → AreNone links → links_won slot activity links ≡ links
none_won slot (Link handle) links none = none_change (option_map (link_served slot)) refl 0 handle links none
none_won slot Advertise links none = refl
none_won slot Scan links none = refl
none_won slot Initiate links none = refl

pub none_sent : (slot : ℕ) (doing : Doing) (links : Links) → AreNone links → links_sending slot doing links ≡ links
none_sent slot (CentralSends handle) links none = none_change (option_map (link_after (PacketSent slot))) refl 0 handle links none
none_sent slot (PeripheralSends handle) links none = none_change (option_map (link_after (PacketSent slot))) refl 0 handle links none
none_sent slot (Advertises channel) links none = refl
none_sent slot other links none = refl

pub none_fixed : (doing : Doing) (links : Links) → AreNone links → links_fixing doing links ≡ links
none_fixed (CentralSends handle) links none = none_change (option_map (link_after PduFixed)) refl 0 handle links none
none_fixed (PeripheralListens handle) links none = none_change (option_map (link_after PduFixed)) refl 0 handle links none
none_fixed (Advertises channel) links none = refl
none_fixed other links none = refl

none_from : (first handle : ℕ) (links : Links) → AreNone links → link_from first handle links ≡ None
none_from first handle [] none = refl
none_from first handle (None ∷ links) none = at (first == handle) (none_from (first + 1) handle links none)
  where
    at : (test : Bool) → link_from (first + 1) handle links ≡ None → (if test then None else link_from (first + 1) handle links) ≡ None
    at true rest = refl
    at false rest = rest
none_from first handle (Some link ∷ links) none = absurd none

pub none_at : (handle : ℕ) (links : Links) → AreNone links → link_at handle links ≡ None
none_at handle links none = none_from 0 handle links none

completed_none : (first : ℕ) (links : Links) → AreNone links → completed_from first links ≡ []
completed_none first [] none = refl
completed_none first (None ∷ links) none = completed_none (first + 1) links none
completed_none first (Some link ∷ links) none = absurd none

none_reported : (links : Links) → AreNone links → links_reported links ≡ links
none_reported links none = none_map (option_map link_reported) refl links none

-- nothing is noted of data
pub none_noted : (doing : Doing) (facts : Facts) → AreNone facts.links → notes_doing doing facts ≡ []
none_noted (CentralSends handle) facts none = ap (notes_sent facts.turn.slot) (none_at handle facts.links none)
none_noted (PeripheralSends handle) facts none = ap (notes_sent facts.turn.slot) (none_at handle facts.links none)
none_noted (Advertises channel) facts none = refl
none_noted other facts none = refl

-- nothing waits, so nothing is sent, and nothing waits further
none_to_hand : (facts : Facts) → facts.received ≡ [] → pieces_handed facts ≡ []
none_to_hand facts nothing = handed_none facts.view facts.received nothing

none_kept_back : (facts : Facts) → facts.received ≡ [] → left_of facts.view facts.received ≡ []
none_kept_back facts nothing = left_none facts.view facts.received nothing

pub nothing_reported : (facts : Facts) → AreNone facts.links → facts.received ≡ [] → notes_ended_turn facts ≡ []
nothing_reported facts none nothing =
    let still = subst AreNone (sym (none_reported facts.links none)) none in
    λ i. (map note_received (none_to_hand facts nothing i)
    ++ notes_of_events facts.view (map event_completed (completed_none 0 facts.links none i)))
    ++ flat_map (notes_ended (facts_handed facts).view) (none_end ending_in 0 (links_reported facts.links) still i)

pub none_changed : (handle : ℕ) (change : OpenLink → OpenLink) (links : Links) → AreNone links → with_change handle change links ≡ links
none_changed handle change links none = none_change (option_map change) refl 0 handle links none

abbrev pub HasNone : Facts → Type 0
HasNone facts = AreNone facts.links

pub none_kept : IsKeptAtStarts HasNone HasNone
none_kept = record {
  weakens = λ facts none. none;
  ends = λ reason facts none. subst AreNone (sym (none_stay reason facts.links none)) none;
  begins = λ slot facts none. none;
  enters = λ slot facts none. subst AreNone (sym (none_map (option_map (link_entered slot)) refl facts.links none)) none;
  wins = λ slot activity facts none. subst AreNone (sym (none_won slot activity facts.links none)) none;
  fixes = λ doing facts none. subst AreNone (sym (none_fixed doing facts.links none)) none;
  does = λ doing facts may none. subst AreNone (sym (none_sent facts.turn.slot doing facts.links none)) none;
}

-- ---- none is made

abbrev pub MakesNone : Doing → Type 0
MakesNone (Connects channel link) = ⊥
MakesNone other = ⊤

start_makes : (doing : Doing) → MayBegin doing → MakesNone doing
start_makes (Connects channel link) may = may
start_makes (Advertises channel) may = tt
start_makes other may = tt

-- a controller without links that is alike another one, which was sent the same octets
pub record IsLike (other : Facts) (facts : Facts) : Type 0 where
  pub octets_are : facts.octets ≡ other.octets
  pub alike : Alike facts other
  pub none : AreNone facts.links
  -- nothing was received on a link
  pub nothing : facts.received ≡ []
  pub makes_none : MakesNone facts.turn.doing

pub doing_like : (other : Facts) (doing : Doing) (facts : Facts) → MakesNone doing → IsLike other facts → IsLike other (facts_doing doing facts)
doing_like other doing facts makes like =
    let same = none_sent facts.turn.slot doing facts.links like.none in
    record {
      octets_are = like.octets_are;
      alike = record { view_is = like.alike.view_is; drawn_is = like.alike.drawn_is; links_are = same ∙ like.alike.links_are };
      none = subst AreNone (sym same) like.none;
      nothing = like.nothing;
      makes_none = makes;
    }

-- the same with links that are equal to those
links_like : (other facts after : Facts) → after.octets ≡ facts.octets → after.view ≡ facts.view → after.drawn ≡ facts.drawn
    → after.links ≡ facts.links → after.received ≡ facts.received → after.turn.doing ≡ facts.turn.doing → IsLike other facts
    → IsLike other after
links_like other facts after octets view drawn links received doing like = record {
  octets_are = octets ∙ like.octets_are;
  alike = record {
    view_is = view ∙ like.alike.view_is;
    drawn_is = drawn ∙ like.alike.drawn_is;
    links_are = links ∙ like.alike.links_are;
  };
  none = subst AreNone (sym links) like.none;
  nothing = received ∙ like.nothing;
  makes_none = subst MakesNone (sym doing) like.makes_none;
}

pub start_like : (other : Facts) → IsKeptAtStarts (IsLike other) (IsLike other)
start_like other = record {
  weakens = λ facts like. like;
  ends = λ reason facts like.
      links_like other facts _ refl (ap (view_shut facts.view) (none_end reason 0 facts.links like.none)) refl
      (none_stay reason facts.links like.none) (ap (received_shut facts.received) (none_end reason 0 facts.links like.none)) refl like;
  begins = λ slot facts like. links_like other facts _ refl refl refl refl refl refl like;
  enters = λ slot facts like.
      links_like other facts _ refl (ap (view_followed facts.view) (none_enter facts.view slot 0 facts.links like.none)) refl
      (none_map (option_map (link_entered slot)) refl facts.links like.none) refl refl like;
  wins = λ slot activity facts like. links_like other facts _ refl refl refl (none_won slot activity facts.links like.none) refl refl like;
  fixes = λ doing facts like. links_like other facts _ refl refl refl (none_fixed doing facts.links like.none) refl refl like;
  does = λ doing facts may like. doing_like other doing facts (start_makes doing may) like;
}

pub ended_like : (other facts : Facts) → IsLike other facts → IsLike other (facts_ended_turn facts)
ended_like other facts like =
    subst (IsLike other) (sym (leaving_is (facts_handed facts)))
    ((start_like other).ends ending_in (facts_handed facts)
    (links_like other facts _ refl
    (ap (λ (pieces : List (ℕ × Piece)). record facts.view { links = (fold view_noted facts.view (map note_received pieces)).links })
    (none_to_hand facts like.nothing)) refl (none_reported facts.links like.none)
    (none_kept_back facts like.nothing ∙ sym like.nothing) refl like))
