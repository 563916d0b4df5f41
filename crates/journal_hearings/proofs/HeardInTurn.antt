-- A side that heard a CONNECT_IND in the turn that is under way heard some packet in it.
use Rattle.std.proofs.Common.{◌≡◌, ℕ, ◌||◌, Bool, true, false, List, [], ◌∷◌, fold, refl, ap, ◌∙◌}
use Rattle.std.proofs.lemmas.Bool.{or_right}
use Rattle.std.proofs.lemmas.List.Sums.{fold-append}
use Rattle.ble_base.specs.Side.{other_side}
use Rattle.ble_base.specs.declared.roles.Side.{Side}
use Rattle.ble_base.specs.declared.verdicts.Verdict.TheVariants.{Good}
use Rattle.journal.specs.declared.entries.Entry.{Entry}
use Rattle.journal.specs.declared.entries.Entry.TheVariants.{Turn, Air}
use Rattle.journal_data.specs.run_model.Readers.{turns_of}
use Rattle.journal_data.specs.journal_packets.Belonging.{is_side}
use Rattle.journal_data.proofs.journal_packets.SendersLink.{same_side}
use Rattle.journal_hearings.specs.Taken.{HasHeardConnect}

abbrev pub heard_after : Side → Bool → Entry → Bool
heard_after side heard (Turn slot a_on b_on) = false
heard_after side heard (Air sender channel octets fate Good) = heard || is_side sender (other_side side)
heard_after side heard entry = heard

abbrev pub has_heard : Side → List Entry → Bool
has_heard side front = fold (heard_after side) false front

stays_heard : (side : Side) (entries : List Entry) → turns_of entries ≡ [] → fold (heard_after side) true entries ≡ true
stays_heard side [] none = refl
stays_heard side (Turn slot a_on b_on ∷ entries) none = absurd cc
stays_heard side (Air sender channel octets fate Good ∷ entries) none = stays_heard side entries none
stays_heard side (Air sender channel octets fate verdict ∷ entries) none = stays_heard side entries none
stays_heard side (entry ∷ entries) none = stays_heard side entries none

pub heard_in_turn : (side : Side) (number : ℕ) (front : List Entry) → HasHeardConnect side number front → has_heard side front ≡ true
heard_in_turn side number front has =
    let line = Air (other_side side) has.channel has.octets has.fate Good in
    let before = has_heard side has.before in
    ap (has_heard side) has.is_at ∙ fold-append (heard_after side) false has.before (line ∷ has.between)
    ∙ ap (λ heard. fold (heard_after side) heard has.between) (or_right before (is_side (other_side side) (other_side side)) (same_side (other_side side)))
    ∙ stays_heard side has.between has.in_turn
