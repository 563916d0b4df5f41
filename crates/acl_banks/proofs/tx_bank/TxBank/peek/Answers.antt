-- The proof of `TxBank::peek`.
use Rattle.std.proofs.Common.{false, [], Some, get_or, refl, sym, ap, ◌∙◌}
use Rattle.acl_banks.specs.Packets.{new_packet, has_unsent}
use Rattle.acl_banks.proofs.Places.{read_first}
use Rattle.acl_banks.proofs.Steps.{next_piece-none, unsent_of-none, next_piece-first, unsent_of-some, piece-octets}
use Rattle.acl_banks.proofs.tx_bank.TxBank.peek.Goals as goal

pub returns-in_default-clause-next : goal.returns-in_default-clause-next
returns-in_default-clause-next g c =
    sym (next_piece-none c.args.self.now c.args.handle (sym c.first_unsent.ensures ∙ c.in_default.is) c.args.limit)

pub returns-in_default-clause-none : goal.returns-in_default-clause-none
returns-in_default-clause-none g c = (
  λ _. unsent_of-none c.args.self.now c.args.handle (sym c.first_unsent.ensures ∙ c.in_default.is),
  λ _. refl,
)

pub returns-clause-next : goal.returns-clause-next
returns-clause-next g c =
    let at = sym c.first_unsent.ensures ∙ c.in-Some.is in
    let d = new_packet 0 false [] in
    let packet = get_or c.args.self.now.packets c.in-Some.place d in
    let read = read_first (has_unsent c.args.handle) c.args.self.now.packets c.in-Some.place d at in
    ap (λ piece. Some piece) (c.piece_at.ensures d)
    ∙ sym (next_piece-first c.args.self.now c.args.handle c.in-Some.place packet at read c.args.limit)

pub returns-clause-none : goal.returns-clause-none
returns-clause-none g c =
    let at = sym c.first_unsent.ensures ∙ c.in-Some.is in
    let d = new_packet 0 false [] in
    let packet = get_or c.args.self.now.packets c.in-Some.place d in
    let read = read_first (has_unsent c.args.handle) c.args.self.now.packets c.in-Some.place d at in (
      λ wrong. absurd (cc),
      unsent_of-some c.args.self.now c.args.handle c.in-Some.place packet at read,
    )

pub returns-clause-first : goal.returns-clause-first
returns-clause-first g c =
    let at = sym c.first_unsent.ensures ∙ c.in-Some.is in
    let d = new_packet 0 false [] in
    let packet = get_or c.args.self.now.packets c.in-Some.place d in
    let read = read_first (has_unsent c.args.handle) c.args.self.now.packets c.in-Some.place d at in
    let octets = piece-octets c.args.self.now c.args.handle c.in-Some.place packet at read c.args.limit in
    rw (c.piece_at.ensures d) octets
