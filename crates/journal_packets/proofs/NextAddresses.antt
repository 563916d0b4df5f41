-- In every journal of a run of a pair, each link has the next access address of the side that began it.
use Rattle.std.proofs.Common.{◌≡◌, ℕ, ◌⊎◌, inl, inr, List, [], ◌∷◌, length, refl, sym, subst}
use Rattle.ble_base.specs.declared.roles.Side.{Side}
use Rattle.ble_base.specs.declared.roles.Side.TheVariants.{A, B}
use Rattle.radio_replay.specs.Script.{Script}
use Rattle.journal_links.specs.run_model.Due.{Each}
use Rattle.journal_links.specs.run_model.History.{Event}
use Rattle.journal_links.specs.run_model.Journal.{journal_of, side_of}
use Rattle.journal_links.specs.run_model.LinkEnds.{HaveAddresses}
use Rattle.journal_links.specs.run_model.Pair.{given_of}
use Rattle.journal_links.specs.run_model.Run.{Given, history_of, run_of, setup_at}
use Rattle.journal_links.proofs.run_model.LinkEnds.{AreTaken, IsUnderstood, pair_addresses}
use Rattle.journal_links.proofs.run_model.Walk.{IsStopped, IsWhole, ends_with, run_kept}
use Rattle.journal_links.specs.run_laws.Access.{connects_sent}
use Rattle.journal_links.proofs.run_laws.ConnectInds.{TakenInOrder}
use Rattle.journal_links.specs.Begun.{links_begun}
use Rattle.journal_packets.specs.Addresses.{AllAddressesAreNext, AreInOrder, cursor_of}
use Rattle.journal_packets.proofs.AccessOrder.{sent_ordered}
use Rattle.journal_packets.proofs.SentLinks.{IsOfTwo, begun_are_sent, links_sent}
use Rattle.journal_packets.proofs.SoFar.{IsBelongingSoFar, belonging_first, belonging_kept}

-- what the CONNECT_INDs of a history are
record AreSent (given : Given) (history : List Event) : Type 0 where
  two : Each IsOfTwo [] history
  taken : Each (TakenInOrder given) [] history

run_sent : IsUnderstood → AreTaken → (given : Given) → given.stations ≡ 0 ∷ 1 ∷ [] → HaveAddresses given → AreSent given (history_of (run_of given))
run_sent understood taken given are_two six =
    ends_with (run_of given) (IsWhole given (IsBelongingSoFar given)) (IsStopped given (IsBelongingSoFar given)) (AreSent given)
    (run_kept given (IsBelongingSoFar given) (belonging_kept understood taken given are_two six) (belonging_first given))
    (λ history whole. record { two = whole.is.asked.sent; taken = whole.is.asked.counted.each })
    (λ history stop stopped. record { two = stopped.kept.asked.sent; taken = stopped.kept.asked.counted.each })

none_sent : (station : ℕ) → connects_sent station [] ≡ 0
unfolding connects_sent
none_sent station = refl

next_of : (given : Given) (station : ℕ) → (station ≡ 0) ⊎ (station ≡ 1) → AreSent given (history_of (run_of given))
    → AreInOrder (side_of station) (setup_at given station).cursor 0 (links_begun (journal_of (history_of (run_of given))))
next_of given station one are =
    let history = history_of (run_of given) in
    subst (AreInOrder (side_of station) (setup_at given station).cursor 0) (sym (begun_are_sent history are.two))
    (subst (λ n. AreInOrder (side_of station) (setup_at given station).cursor n (links_sent [] history)) (none_sent station) (sent_ordered given station one [] history are.two are.taken))

pub addresses_next : IsUnderstood → AreTaken → (a b : List ℕ) (script : Script) → length script.a.public ≡ 6 → length script.b.public ≡ 6
    → AllAddressesAreNext script (journal_of (history_of (run_of (given_of a b script))))
addresses_next understood taken a b script six six_too side = by side (run_sent understood taken (given_of a b script) refl (pair_addresses a b script six six_too))
  where
    by : (side : Side) → AreSent (given_of a b script) (history_of (run_of (given_of a b script)))
        → AreInOrder side (cursor_of script side) 0 (links_begun (journal_of (history_of (run_of (given_of a b script)))))
    by A are = next_of (given_of a b script) 0 (inl refl) are
    by B are = next_of (given_of a b script) 1 (inr refl) are
