-- Each step of a controller keeps the book of a handle.
use Rattle.std.proofs.Common.{ℕ, Bool, true, false, Option, Some, None, List, ◌++◌, refl, sym, subst, IfSome}
use Rattle.std.specs.Prelude.{filter}
use Rattle.std.specs.Option.{option_map}
use Rattle.acl_banks.specs.declared.pieces.Piece.{Piece}
use Rattle.ble_base.specs.declared.notes.Note.{Note}
use Rattle.link_commands.specs.open_links.link_model.Step.{Step as EndStep, EventEntered, PduFixed, PacketSent, PacketReceived}
use Rattle.link_commands.specs.open_links.OpenLinks.{Links, OpenLink, HaveHandles, link_after, link_at, link_served, with_change}
use Rattle.link_commands.specs.open_links.Turns.{entered_if, enters_in, link_entered}
use Rattle.link_commands.proofs.open_links.Handles.{changed_is, has_its_handle, other_stays}
use Rattle.link_commands.proofs.open_links.UnderHandles.{map_at}
use Rattle.controller_model.specs.declared.doing.Doing.{Doing}
use Rattle.controller_model.specs.declared.doing.Doing.TheVariants.{Advertises, CentralSends, PeripheralListens, PeripheralSends}
use Rattle.controller_model.specs.Facts.{Facts}
use Rattle.controller_model.specs.Heard.{links_refusing, notes_taken, piece_taken}
use Rattle.controller_model.specs.Packets.{links_sending, notes_doing, notes_sent}
use Rattle.controller_model.specs.Radio.{links_fixing}
use Rattle.controller_model.specs.Since.{is_piece_on}
use Rattle.controller_model.proofs.Books.{Fact, IsBook, IsBookAfter, IsKeptInBook, IsSilent, by_handle, elsewhere_kept, elsewhere_sent, elsewhere_took, others_noted, received_book, sent_book, served_book, silent_book}
use Rattle.controller_model.proofs.Places.{at_changed}
use Rattle.controller_model.specs.Entering.{all_entered}

module _ (most handle : ℕ) (fact : Fact) (kept : IsKeptInBook most handle fact) where
  -- ---- a change of one link

  pub silent_at : (step : EndStep) (other : ℕ) (links : Links) (waiting : List (ℕ × Piece)) (since : List Note) (count : ℕ) → IsSilent step
      → IsBook most handle fact (link_at handle links) waiting since count
      → IsBook most handle fact (link_at handle (with_change other (link_after step) links)) waiting since count
  silent_at step other links waiting since count is book =
      at_changed (λ (place : Option OpenLink). IsBook most handle fact place waiting since count) other handle (link_after step) links book
      (λ same. silent_book most handle fact kept step (link_at handle links) waiting since count is book)

  pub served_at : (slot other : ℕ) (links : Links) (waiting : List (ℕ × Piece)) (since : List Note) (count : ℕ)
      → IsBook most handle fact (link_at handle links) waiting since count
      → IsBook most handle fact (link_at handle (with_change other (link_served slot) links)) waiting since count
  served_at slot other links waiting since count book =
      at_changed (λ (place : Option OpenLink). IsBook most handle fact place waiting since count) other handle (link_served slot) links book
      (λ same. served_book most handle fact kept slot (link_at handle links) waiting since count book)

  pub sending_at : (slot other : ℕ) (links : Links) (waiting : List (ℕ × Piece)) (since : List Note) (count : ℕ) → HaveHandles 0 links
      → IsBook most handle fact (link_at handle links) waiting since count
      → IsBookAfter most handle fact (link_at handle (with_change other (link_after (PacketSent slot)) links)) waiting since count
      (notes_sent slot (link_at other links))
  sending_at slot other links waiting since count have book =
      let change = link_after (PacketSent slot) in
      by_handle other handle
      (λ same.
      subst (λ (n : ℕ). IsBookAfter most handle fact (link_at handle (with_change n change links)) waiting since count (notes_sent slot (link_at n links)))
      (sym same)
      (subst (λ (place : Option OpenLink). IsBookAfter most handle fact place waiting since count (notes_sent slot (link_at handle links)))
      (sym (changed_is (option_map change) 0 handle links refl)) (sent_book most handle fact kept slot (link_at handle links) waiting since count book)))
      (λ differs.
      subst (λ (place : Option OpenLink). IsBookAfter most handle fact place waiting since count (notes_sent slot (link_at other links)))
      (sym (other_stays (option_map change) 0 other handle links (λ is. differs (sym is))))
      (others_noted most handle fact kept (link_at handle links) waiting since count (notes_sent slot (link_at other links))
      (elsewhere_sent most handle fact kept slot (link_at other links) other (has_its_handle 0 other links have) differs) book))

  pub received_at : (slot : ℕ) (room : Bool) (octets : List ℕ) (other : ℕ) (links : Links) (received : List (ℕ × Piece)) (since : List Note) (count : ℕ)
      → HaveHandles 0 links → IsBook most handle fact (link_at handle links) (filter (is_piece_on handle) received) since count
      → IsBookAfter most handle fact (link_at handle (with_change other (link_after (PacketReceived slot octets room)) links))
      (filter (is_piece_on handle) (received ++ piece_taken slot room (link_at other links) octets)) since count (notes_taken slot room (link_at other links) octets)
  received_at slot room octets other links received since count have book =
      let change = link_after (PacketReceived slot octets room) in
      by_handle other handle
      (λ same.
      subst (λ (n : ℕ). IsBookAfter most handle fact (link_at handle (with_change n change links))
      (filter (is_piece_on handle) (received ++ piece_taken slot room (link_at n links) octets)) since count (notes_taken slot room (link_at n links) octets))
      (sym same)
      (subst (λ (place : Option OpenLink). IsBookAfter most handle fact place
      (filter (is_piece_on handle) (received ++ piece_taken slot room (link_at handle links) octets)) since count (notes_taken slot room (link_at handle links) octets))
      (sym (changed_is (option_map change) 0 handle links refl))
      (received_book most handle fact kept slot room octets (link_at handle links) received since count book)))
      (λ differs.
      let has = has_its_handle 0 other links have in
      let notes = notes_taken slot room (link_at other links) octets in
      subst (λ (place : Option OpenLink). IsBookAfter most handle fact place
      (filter (is_piece_on handle) (received ++ piece_taken slot room (link_at other links) octets)) since count notes)
      (sym (other_stays (option_map change) 0 other handle links (λ is. differs (sym is))))
      (subst (λ (waiting : List (ℕ × Piece)). IsBookAfter most handle fact (link_at handle links) waiting since count notes)
      (sym (elsewhere_kept most handle fact kept slot room octets received (link_at other links) other has differs))
      (others_noted most handle fact kept (link_at handle links) (filter (is_piece_on handle) received) since count notes
      (elsewhere_took most handle fact kept slot room octets (link_at other links) other has differs) book)))

  pub refusing_at : (refusal : Option EndStep) → IfSome refusal IsSilent → (other : ℕ) (links : Links) (waiting : List (ℕ × Piece)) (since : List Note) (count : ℕ)
      → IsBook most handle fact (link_at handle links) waiting since count
      → IsBook most handle fact (link_at handle (links_refusing refusal other links)) waiting since count
  refusing_at (Some step) silent other links waiting since count book = silent_at step other links waiting since count silent book
  refusing_at None silent other links waiting since count book = book

  -- ---- what is done next

  pub fixing_at : (doing : Doing) (links : Links) (waiting : List (ℕ × Piece)) (since : List Note) (count : ℕ)
      → IsBook most handle fact (link_at handle links) waiting since count
      → IsBook most handle fact (link_at handle (links_fixing doing links)) waiting since count
  fixing_at (CentralSends other) links waiting since count book = silent_at PduFixed other links waiting since count tt book
  fixing_at (PeripheralListens other) links waiting since count book = silent_at PduFixed other links waiting since count tt book
  fixing_at (Advertises channel) links waiting since count book = book
  fixing_at other links waiting since count book = book

  pub doing_at : (doing : Doing) (facts : Facts) (waiting : List (ℕ × Piece)) (since : List Note) (count : ℕ) → HaveHandles 0 facts.links
      → IsBook most handle fact (link_at handle facts.links) waiting since count
      → IsBookAfter most handle fact (link_at handle (links_sending facts.turn.slot doing facts.links)) waiting since count (notes_doing doing facts)
  doing_at (CentralSends other) facts waiting since count have book = sending_at facts.turn.slot other facts.links waiting since count have book
  doing_at (PeripheralSends other) facts waiting since count have book = sending_at facts.turn.slot other facts.links waiting since count have book
  doing_at (Advertises channel) facts waiting since count have book = book
  doing_at other facts waiting since count have book = book

  -- ---- the links enter their events

  entered_by : (enters : Bool) (slot : ℕ) (link : OpenLink) (waiting : List (ℕ × Piece)) (since : List Note) (count : ℕ)
      → IsBook most handle fact (Some link) waiting since count
      → IsBook most handle fact (Some (entered_if enters slot link)) waiting since count
  entered_by true slot link waiting since count book = silent_book most handle fact kept (EventEntered slot) (Some link) waiting since count tt book
  entered_by false slot link waiting since count book = book

  entered_book : (slot : ℕ) (place : Option OpenLink) (waiting : List (ℕ × Piece)) (since : List Note) (count : ℕ)
      → IsBook most handle fact place waiting since count
      → IsBook most handle fact (option_map (link_entered slot) place) waiting since count
  entered_book slot None waiting since count book = book
  entered_book slot (Some link) waiting since count book = entered_by (enters_in slot link) slot link waiting since count book

  pub entering_at : (slot : ℕ) (links : Links) (waiting : List (ℕ × Piece)) (since : List Note) (count : ℕ)
      → IsBook most handle fact (link_at handle links) waiting since count
      → IsBook most handle fact (link_at handle (all_entered slot links)) waiting since count
  entering_at slot links waiting since count book =
      subst (λ (place : Option OpenLink). IsBook most handle fact place waiting since count)
      (sym (map_at (option_map (link_entered slot)) 0 handle links refl)) (entered_book slot (link_at handle links) waiting since count book)
