-- The pieces that wait for the host are of links of the controller.
use Rattle.std.proofs.Common.{◌≡◌, ℕ, ◌+◌, ◌<◌, ◌==◌, Bool, true, false, Option, Some, None, List, [], ◌∷◌, ◌++◌, length, cond, subst, arith}
use Rattle.std.specs.Prelude.{IfSome, not}
use Rattle.std.specs.List.{AllByRecursion}
use Rattle.acl_banks.specs.declared.pieces.Piece.{Piece}
use Rattle.hci_cmd.specs.declared.command.Command.{Command}
use Rattle.hci_cmd.specs.declared.command.Command.TheVariants.{Reset}
use Rattle.link_commands.specs.open_links.declared.ended.LinkEnded.{LinkEnded}
use Rattle.link_commands.specs.open_links.Data.{received_past}
use Rattle.link_commands.specs.open_links.Ended.{received_without}
use Rattle.link_commands.specs.open_links.OpenLinks.{OpenLink, facts_in, link_at}
use Rattle.controller_model.specs.Commands.{received_after}
use Rattle.controller_model.specs.Facts.{Setup, Facts, first_facts}
use Rattle.controller_model.specs.Heard.{has_room, link_taken, piece_taken}
use Rattle.controller_model.specs.Side.{facts_of}
use Rattle.controller_model.specs.Step.{Step}
use Rattle.controller_model.proofs.Handing.{left_are}
use Rattle.controller_model.proofs.Always.{IsKept, always, opening_passes, received_shut}
use Rattle.controller_model.proofs.Books.{kept_has}
use Rattle.controller_model.proofs.Handles.{HaveOwnHandles, below_at, handles_kept, own_handles}
use Rattle.controller_model.specs.Links.{ends_for}

abbrev pub AreBelow : ℕ → List (ℕ × Piece) → Type 0
AreBelow most received = AllByRecursion (λ piece. piece.0 < most) received

module _ (most : ℕ) where
  both_below : (xs ys : List (ℕ × Piece)) → AreBelow most xs → AreBelow most ys → AreBelow most (xs ++ ys)
  both_below [] ys are also = also
  both_below (x ∷ xs) ys are also = (are.0, both_below xs ys are.1 also)

  without_below : (handle : ℕ) (received : List (ℕ × Piece)) → AreBelow most received → AreBelow most (received_without handle received)
  without_below handle [] are = tt
  without_below handle (piece ∷ received) are = at (piece.0 == handle) (without_below handle received are.1)
    where
      at : (drops : Bool) → AreBelow most (received_without handle received)
          → AreBelow most (cond (not drops) (piece ∷ received_without handle received) (received_without handle received))
      at true rest = rest
      at false rest = (are.0, rest)

  past_below : (place : Option OpenLink) (handle : ℕ) (received : List (ℕ × Piece)) → AreBelow most received
      → AreBelow most (received_past place handle received)
  past_below None handle received are = are
  past_below (Some link) handle received are = without_below handle received are

  shut_below : (received : List (ℕ × Piece)) (ended : List LinkEnded) → AreBelow most received → AreBelow most (received_shut received ended)
  shut_below received [] are = are
  shut_below received (one ∷ ended) are = shut_below (received_without one.handle received) ended (without_below one.handle received are)

  commanded_below : (command : Command) (received : List (ℕ × Piece)) → AreBelow most received → AreBelow most (received_after command received)
  commanded_below Reset received are = tt
  commanded_below other received are = are

  taken_below : (slot : ℕ) (room : Bool) (octets : List ℕ) (place : Option OpenLink) → IfSome place (λ link. link.setup.link.handle < most)
      → AreBelow most (piece_taken slot room place octets)
  taken_below slot room octets None below = tt
  taken_below slot room octets (Some link) below = kept_has (λ n. n < most) link.setup (facts_in link) slot octets room below

pub record ArePieces (setup : Setup) (facts : Facts) : Type 0 where
  pub own : HaveOwnHandles setup facts
  pub below : AreBelow setup.links facts.received

pub pieces_kept : (setup : Setup) → IsKept setup (ArePieces setup) (ArePieces setup)
pieces_kept setup =
    let most = setup.links in
    let handles = handles_kept setup in
    let starts = handles.turns.starts in
    record {
      accepted = λ facts opcode octets command is accepted are. record {
        own = handles.accepted facts opcode octets command is accepted are.own;
        below = commanded_below most command facts.received are.below;
      };
      asked = λ facts command asks are left. record { own = handles.asked facts command asks are.own left.own; below = left.below };
      given = λ facts handle count start octets is are. record { own = handles.given facts handle count start octets is are.own; below = are.below };
      octet = λ facts octet are. record { own = handles.octet facts octet are.own; below = are.below };
      turns = record {
        starts = record {
          weakens = λ facts are. are;
          ends = λ reason facts are. record {
            own = starts.ends reason facts are.own;
            below = shut_below most facts.received (ends_for reason facts) are.below;
          };
          begins = λ slot facts are. record { own = starts.begins slot facts are.own; below = are.below };
          enters = λ slot facts are. record { own = starts.enters slot facts are.own; below = are.below };
          wins = λ slot activity facts are. record { own = starts.wins slot activity facts are.own; below = are.below };
          fixes = λ doing facts are. record { own = starts.fixes doing facts are.own; below = are.below };
          does = λ doing facts may are. record { own = starts.does doing facts may are.own; below = are.below };
        };
        reports = λ facts are. record { own = handles.turns.reports facts are.own; below = left_are (λ (piece : ℕ × Piece). piece.0 < most) facts.view facts.received are.below };
        words = λ handle facts listens are. record { own = handles.turns.words handle facts listens are.own; below = are.below };
        passes = λ facts are.
            let passes = handles.turns.passes facts are.own in
            record {
              rests = record { own = passes.rests; below = are.below };
              awaits_request = λ channel doing. record { own = passes.awaits_request channel doing; below = are.below };
              awaits_response = λ channel advertiser doing. record { own = passes.awaits_response channel advertiser doing; below = are.below };
              central_listens = λ handle doing. record { own = passes.central_listens handle doing; below = are.below };
              sent = λ channel link doing. record {
                own = passes.sent channel link doing;
                below = opening_passes (λ next. AreBelow most next.received) link facts
                    (past_below most (link_at link.handle facts.links) link.handle facts.received are.below);
              };
              responds = λ channel on doing is_on. record { own = passes.responds channel on doing is_on; below = are.below };
              taken = λ channel octets pdu on fields handle is_on hears takes free. record {
                own = passes.taken channel octets pdu on fields handle is_on hears takes free;
                below = opening_passes (λ next. AreBelow most next.received) (link_taken facts.view on.params.own pdu fields handle) facts
                    (past_below most (link_at handle facts.links) handle facts.received are.below);
              };
              scanned = λ channel octets pdu on doing is_on hears. record {
                own = passes.scanned channel octets pdu on doing is_on hears;
                below = are.below;
              };
              answered = λ channel octets pdu on doing is_on hears. record {
                own = passes.answered channel octets pdu on doing is_on hears;
                below = are.below;
              };
              connects = λ channel octets pdu on access handle doing is_on hears answers next free in_range. record {
                own = passes.connects channel octets pdu on access handle doing is_on hears answers next free in_range;
                below = are.below;
              };
              received = λ handle octets. record {
                own = passes.received handle octets;
                below = both_below most facts.received (piece_taken facts.turn.slot (has_room setup facts) (link_at handle facts.links) octets) are.below
                    (taken_below most facts.turn.slot (has_room setup facts) octets (link_at handle facts.links)
                    (subst (λ n. IfSome (link_at handle facts.links) (λ link. link.setup.link.handle < n))
                    (let same : 0 + length facts.links ≡ setup.links = omega (arith, are.own.many) in same)
                    (below_at handle facts.links are.own.handles)));
              };
            };
      };
    }

pub first_pieces : (setup : Setup) → ArePieces setup (first_facts setup)
unfolding facts_of
first_pieces setup = record { own = own_handles setup []; below = tt }

pub all_pieces : (setup : Setup) (past : List Step) → ArePieces setup (facts_of setup past)
all_pieces setup past = always setup (ArePieces setup) (ArePieces setup) (pieces_kept setup) (first_pieces setup) past
