-- The frames of more octets.
use Rattle.std.proofs.Common.{◌≡◌, ℕ, ◌+◌, ◌<◌, ◌≤◌, List, [], ◌∷◌, ◌++◌, length, map, get_or, All, ⊎_elim, refl, arith, append_assoc, append-nil}
use Rattle.std.specs.List.Sorted.{IsStrictlyIncreasing}
use Rattle.std.proofs.lemmas.Bool.{cases_lt}
use Rattle.std.proofs.lemmas.List.{length_push, length-map, map_push, get_or_append_left, get_or_push, get_or-map}
use Rattle.std.proofs.lemmas.List.Elements.{All-push, All-weaker}
use Rattle.h4_frames.specs.declared.packet.Fed.{Fed}
use Rattle.h4_frames.specs.declared.packet.Fed.TheVariants.{More, Packet, LostSync}
use Rattle.h4_frames.specs.Frames.{frames, rest, frame_entry, frame_entries, AreResults}
use Rattle.h4_frames.proofs.Steps.{fed_of}
use Rattle.h4_frames.proofs.Feeding.{frames_step}

pub frames_cut : (past octets : List ℕ) (results : List Fed) → AreResults past octets results
    → frames (past ++ octets) ≡ frames past ++ frame_entries (length past) results
frames_cut past [] [] are = rw (append-nil past, append-nil (frames past)) refl
frames_cut past [] (fed ∷ more) are = absurd are
frames_cut past (x ∷ xs) [] are = absurd are
frames_cut past (x ∷ xs) (fed ∷ more) are =
    let later = frames_cut (past ++ x ∷ []) xs more are.1 in
    let same : past ++ x ∷ xs ≡ (past ++ x ∷ []) ++ xs = simp append_assoc in
    rw (same, later, are.0, length_push past x) (simp append_assoc)

pub frames_more : (past octets : List ℕ) → (more : List (ℕ × Fed)) × (frames (past ++ octets) ≡ frames past ++ more)
frames_more past [] = ([], rw (append-nil past, append-nil (frames past)) refl)
frames_more past (x ∷ xs) =
    let later = frames_more (past ++ x ∷ []) xs in
    let same : past ++ x ∷ xs ≡ (past ++ x ∷ []) ++ xs = simp append_assoc in (
      frame_entry (length past + 1) (fed_of (rest past) x) ++ later.0,
      rw (same, later.1, frames_step past x) (simp append_assoc),
    )

-- the frames end within n octets, one after the other
pub record ArePlaced (n : ℕ) (entries : List (ℕ × Fed)) : Type 0 where
  pub within : All (λ entry. entry.0 ≤ n) entries
  pub in_order : IsStrictlyIncreasing (map (λ entry. entry.0) entries)

rising_push : (ps : List ℕ) (p : ℕ) → IsStrictlyIncreasing ps → All (λ q. q < p) ps → IsStrictlyIncreasing (ps ++ p ∷ [])
rising_push ps p rising below = λ k h. ⊎_elim (before k) (at k h) (cases_lt (k + 1) (length ps))
  where
    before : (k : ℕ) → k + 1 < length ps → get_or (ps ++ p ∷ []) k 0 < get_or (ps ++ p ∷ []) (k + 1) 0
    before k l =
        let low : k < length ps = omega arith in
        rw (get_or_append_left ps (p ∷ []) 0 k low, get_or_append_left ps (p ∷ []) 0 (k + 1) l) (rising k l)

    at : (k : ℕ) → k + 1 < length (ps ++ p ∷ []) → length ps ≤ k + 1 → get_or (ps ++ p ∷ []) k 0 < get_or (ps ++ p ∷ []) (k + 1) 0
    at k h l =
        let low : k < length ps = omega (arith, length_push ps p) in
        let last : length ps ≡ k + 1 = omega (arith, length_push ps p) in
        rw (get_or_append_left ps (p ∷ []) 0 k low, get_or_push ps p 0 (k + 1) last) (below k 0 low)

placed_add : (n : ℕ) (entries : List (ℕ × Fed)) (fed : Fed) → ArePlaced n entries → ArePlaced (n + 1) (entries ++ (n + 1, fed) ∷ [])
placed_add n entries fed placed =
    record {
      within =
          All-push (λ entry. entry.0 ≤ n + 1) entries (n + 1, fed)
          (All-weaker (λ entry. entry.0 ≤ n) (λ entry. entry.0 ≤ n + 1) (λ entry h. omega arith) entries placed.within) (omega arith);
      in_order =
          rw (map_push (λ (entry : ℕ × Fed). entry.0) entries (n + 1, fed))
          (rising_push (map (λ (entry : ℕ × Fed). entry.0) entries) (n + 1) placed.in_order
          (λ k d h. let low : k < length entries = omega (arith, length-map entries (λ (entry : ℕ × Fed). entry.0)) in
          rw (get_or-map (λ (entry : ℕ × Fed). entry.0) entries k (0, fed) d low) (omega (arith, placed.within k (0, fed) low))));
    }

placed_push : (n : ℕ) (entries : List (ℕ × Fed)) (fed : Fed) → ArePlaced n entries → ArePlaced (n + 1) (entries ++ frame_entry (n + 1) fed)
placed_push n entries More placed =
    rw append-nil
    (record {
      within = All-weaker (λ entry. entry.0 ≤ n) (λ entry. entry.0 ≤ n + 1) (λ entry h. omega arith) entries placed.within;
      in_order = placed.in_order;
    })
placed_push n entries (Packet packet) placed = placed_add n entries (Packet packet) placed
placed_push n entries LostSync placed = placed_add n entries LostSync placed

placed_more : (past octets : List ℕ) → ArePlaced (length past) (frames past) → ArePlaced (length (past ++ octets)) (frames (past ++ octets))
placed_more past [] placed = rw append-nil placed
placed_more past (x ∷ xs) placed =
    let same : past ++ x ∷ xs ≡ (past ++ x ∷ []) ++ xs = simp append_assoc in
    rw same (placed_more (past ++ x ∷ []) xs (rw (frames_step past x, length_push past x) (placed_push _ _ _ placed)))

pub frames-placed : (octets : List ℕ) → ArePlaced (length octets) (frames octets)
unfolding frames
frames-placed octets = placed_more [] octets (record { within = λ k d h. absurd (omega arith); in_order = λ k h. absurd (omega arith) })
