-- Octets are drawn one after another, and packets are made of them.
use Rattle.std.proofs.Common.{◌≡◌, ℕ, zero, suc, ◌+◌, List, [], ◌∷◌, ◌++◌, sym, ◌∙◌, ap, arith, append_assoc}
use Rattle.radio_replay.specs.LoadStreams.{data_packet, packets_before, size_of, sizes_before}
use Rattle.radio_replay.specs.RandomOctets.{next_state, octet_of, octets_from, state_after}

pub one_more : (n : ℕ) → suc n ≡ n + 1
one_more n = omega arith

-- ---- octets

pub state_next : (first draws now new : ℕ) → now ≡ state_after first draws → new ≡ next_state now
    → new ≡ state_after first (draws + 1)
unfolding state_after
state_next first draws now new now_is new_is =
    new_is ∙ ap next_state now_is ∙ ap (state_after first) (one_more draws)

pub octet_next : (first draws new octet : ℕ) (front old then : List ℕ) → new ≡ state_after first (draws + 1) → octet ≡ octet_of new
    → old ≡ front ++ octets_from first draws → then ≡ old ++ octet ∷ [] → then ≡ front ++ octets_from first (draws + 1)
unfolding octets_from
octet_next first draws new octet front old then new_is octet_is old_is then_is =
    then_is ∙ ap (λ xs. xs ++ octet ∷ []) old_is ∙ append_assoc front (octets_from first draws) (octet ∷ [])
    ∙ ap (λ x. front ++ (octets_from first draws ++ x ∷ []))
    (octet_is ∙ ap octet_of (new_is ∙ ap (state_after first) (sym (one_more draws))))
    ∙ ap (λ count. front ++ octets_from first count) (one_more draws)

-- ---- packets

state_after-add : (state first second : ℕ) → state_after (state_after state first) second ≡ state_after state (first + second)
unfolding state_after
state_after-add state first zero = ap (state_after state) (omega arith)
state_after-add state first (suc second) =
    let more : suc (first + second) ≡ first + suc second = omega arith in
    ap next_state (state_after-add state first second) ∙ ap (state_after state) more

pub states_next : (first place now new : ℕ) → now ≡ state_after first (sizes_before place) → new ≡ state_after now (size_of place)
    → new ≡ state_after first (sizes_before (place + 1))
unfolding sizes_before
states_next first place now new now_is new_is =
    new_is ∙ ap (λ state. state_after state (size_of place)) now_is ∙ state_after-add first (sizes_before place) (size_of place)
    ∙ ap (λ count. state_after first (sizes_before count)) (one_more place)

pub packet_next : (first place now : ℕ) (front old then : List ℕ) → now ≡ state_after first (sizes_before place)
    → old ≡ front ++ packets_before first place
    → then ≡ old ++ data_packet (size_of place) (octets_from now (size_of place)) → then ≡ front ++ packets_before first (place + 1)
unfolding packets_before
packet_next first place now front old then now_is old_is then_is =
    let packet : ℕ → List ℕ = λ state. data_packet (size_of place) (octets_from state (size_of place)) in
    then_is ∙ ap (λ xs. xs ++ packet now) old_is ∙ append_assoc front (packets_before first place) (packet now)
    ∙ ap (λ state. front ++ (packets_before first place ++ packet state)) now_is
    ∙ ap (λ count. front ++ packets_before first count) (one_more place)
