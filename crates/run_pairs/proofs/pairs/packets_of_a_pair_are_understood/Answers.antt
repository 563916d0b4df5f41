-- The proof of the law `packets_of_a_pair_are_understood`.
use Rattle.std.proofs.Common.{◌≡◌, ◌⊎◌, inl, inr, ◌∷◌, refl, sym}
use Rattle.ble_base.specs.declared.verdicts.Verdict.{Verdict}
use Rattle.ble_base.specs.declared.verdicts.Verdict.TheVariants.{Broken, Forged, Good, Missed}
use Rattle.link_calls.specs.link_model.Packets.{verdict_of}
use Rattle.link_calls.specs.open_links.OpenLinks.{facts_in}
use Rattle.link_calls.specs.controller_model.Step.{PacketHeard}
use Rattle.link_calls.specs.run_model.History.{Called}
use Rattle.link_calls.specs.run_model.Pair.{given_of}
use Rattle.link_calls.proofs.run_model.LinkEnds.{pair_addresses}
use Rattle.link_calls.proofs.run_model.Ordered.{pair_distinct}
use Rattle.link_calls.proofs.run_laws.SameEvent.{one_connect_ind, two_stations}
use Rattle.run_pairs.proofs.pairs.packets_of_a_pair_are_understood.Goals as goal

-- a packet that is not forged comes from the far end, and so it is good
good_now : (verdict : Verdict) (Now : Type 0) → ((verdict ≡ Forged → ⊥) → Now) → (Now → (verdict ≡ Good) ⊎ (verdict ≡ Forged))
    → ((verdict ≡ Good) × Now) ⊎ (verdict ≡ Forged)
good_now Forged Now now judged = inr refl
good_now Good Now now judged = inl (refl, now (λ forged. absurd cc))
good_now Missed Now now judged = by (judged (now (λ forged. absurd cc)))
  where
    by : (Missed ≡ Good) ⊎ (Missed ≡ Forged) → ((Missed ≡ Good) × Now) ⊎ (Missed ≡ Forged)
    by (inl good) = absurd cc
    by (inr forged) = inr forged
good_now Broken Now now judged = by (judged (now (λ forged. absurd cc)))
  where
    by : (Broken ≡ Good) ⊎ (Broken ≡ Forged) → ((Broken ≡ Good) × Now) ⊎ (Broken ≡ Forged)
    by (inl good) = absurd cc
    by (inr forged) = inr forged

pub returns-clause-peripheral : goal.returns-clause-peripheral
returns-clause-peripheral c = λ a b script before rest octets central peripheral long long_too is is_too at ends none_mixed is_open is_open_too listens sent.
    let given = given_of a b script in
    let distinct = pair_distinct a b script in
    let six = pair_addresses a b script long long_too in
    let hear = c.both_ends_hear_each_other_in_turns.ensures.hear given 0 1 before (Called peripheral.station (PacketHeard octets) ∷ rest) central peripheral refl distinct six
    is is_too at ends in
    let same = one_connect_ind before central peripheral ends in
    good_now (verdict_of peripheral.link.setup (facts_in peripheral.link) octets) _
    (λ unforged. c.both_ends_hear_each_other_in_turns.ensures.now given 0 1 before rest octets peripheral central refl distinct six is
    (λ equal. two_stations before central peripheral ends (sym equal)) at (record { fields = sym same.fields; opened = sym same.opened }) is_open_too listens unforged sent)
    (λ now. c.packets_of_a_link_are_understood.ensures.peripheral given before rest octets central peripheral distinct six is is_too at ends hear none_mixed is_open is_open_too
    listens now)

pub returns-clause-central : goal.returns-clause-central
returns-clause-central c = λ a b script before rest octets central peripheral long long_too is is_too at ends none_mixed is_open is_open_too listens sent.
    let given = given_of a b script in
    let distinct = pair_distinct a b script in
    let six = pair_addresses a b script long long_too in
    let hear = c.both_ends_hear_each_other_in_turns.ensures.hear given 0 1 before (Called central.station (PacketHeard octets) ∷ rest) central peripheral refl distinct six
    is is_too at ends in
    good_now (verdict_of central.link.setup (facts_in central.link) octets) _
    (λ unforged. c.both_ends_hear_each_other_in_turns.ensures.now given 0 1 before rest octets central peripheral refl distinct six is_too
    (two_stations before central peripheral ends) at (one_connect_ind before central peripheral ends) is_open listens unforged sent)
    (λ now. c.packets_of_a_link_are_understood.ensures.central given before rest octets central peripheral distinct six is is_too at ends hear none_mixed is_open is_open_too
    listens now)
