-- One octet more: the frames and the rest of the octets before it decide its result.
use Rattle.std.proofs.Common.{◌≡◌, ℕ, zero, suc, ◌+◌, ◌<◌, ◌≤◌, Bool, true, false, cond, List, [], ◌∷◌, ◌++◌, length, drop, Option, Some, None, refl, ap, sym, ◌∙◌, arith, length-drop}
use Rattle.std.proofs.lemmas.List.{drop-append-le, length_push, drop_all}
use Rattle.h4_frames.specs.declared.packet.Fed.{Fed}
use Rattle.h4_frames.specs.declared.packet.Fed.TheVariants.{More, Packet, LostSync}
use Rattle.h4_frames.specs.Packets.{is_indicator, SizedPacket, first_packet}
use Rattle.h4_frames.specs.Frames.{first_reset, packet_entries, frames_from, Rest, Begun, Passed, rest_after, rest_from, frame_entry}
use Rattle.h4_frames.proofs.Finders.{Goes, stays, ends, lacks, first-one, goes_packet, goes_reset}

-- the result for an octet that ends what is found
abbrev pub found_fed : Option SizedPacket → Fed
found_fed None = More
found_fed (Some found) = Packet found.packet

-- the rest then
abbrev pub found_rest : Option SizedPacket → Rest → Rest
found_rest None otherwise = otherwise
found_rest (Some found) otherwise = Begun []

-- the result for an octet after this rest
abbrev pub fed_of : Rest → ℕ → Fed
fed_of (Begun []) x = cond (is_indicator x) More LostSync
fed_of (Begun (y ∷ ys)) x = found_fed (first_packet (y ∷ ys ++ x ∷ []))
fed_of (Passed ys) x = found_fed (first_reset (ys ++ x ∷ []))

-- the rest after the octet
abbrev pub next : Rest → ℕ → Rest
next (Begun []) x = cond (is_indicator x) (Begun (x ∷ [])) (Passed [])
next (Begun (y ∷ ys)) x = found_rest (first_packet (y ∷ ys ++ x ∷ [])) (Begun (y ∷ ys ++ x ∷ []))
next (Passed ys) x = found_rest (first_reset (ys ++ x ∷ [])) (Passed (ys ++ x ∷ []))

pub frames-nil : (fuel place : ℕ) → frames_from fuel place [] ≡ []
frames-nil zero place = refl
frames-nil (suc fuel) place = refl

rest-nil : (fuel : ℕ) → rest_from fuel [] ≡ Begun []
rest-nil zero = refl
rest-nil (suc fuel) = refl

-- how the frames and the rest go on by one octet
pub record GoesOn (f g place : ℕ) (xs : List ℕ) (x : ℕ) : Type 0 where
  pub frames : frames_from g place (xs ++ x ∷ []) ≡ frames_from f place xs ++ frame_entry (place + length xs + 1) (fed_of (rest_from f xs) x)
  pub rest : rest_from g (xs ++ x ∷ []) ≡ next (rest_from f xs) x

module _ (f g : ℕ) (later : (place : ℕ) (xs : List ℕ) (x : ℕ) → length xs ≤ f → length xs < g → GoesOn f g place xs x) where
  frames_then : (place : ℕ) (xs : List ℕ) (x : ℕ) (r : Rest) {before after : Option SizedPacket} → Goes (length xs) before after
      → length xs ≤ suc f → length xs ≤ g → (before ≡ None → fed_of r x ≡ found_fed after)
      → packet_entries (frames_from g) place (xs ++ x ∷ []) after
      ≡ packet_entries (frames_from f) place xs before ++ frame_entry (place + length xs + 1) (fed_of (rest_after (rest_from f) xs before r) x)
  frames_then place xs x r (stays found positive within) low high same =
      let on = later (place + found.size) (drop found.size xs) x (omega (arith, length-drop found.size xs)) (omega (arith, length-drop found.size xs)) in
      let e : place + found.size + length (drop found.size xs) + 1 ≡ place + length xs + 1 = omega (arith, length-drop found.size xs) in
      ap (λ fs. (place + found.size, Packet found.packet) ∷ fs)
      (rw (drop-append-le found.size xs (x ∷ []) within)
      (on.frames ∙ ap (λ n. frames_from f (place + found.size) (drop found.size xs) ++ frame_entry n (fed_of (rest_from f (drop found.size xs)) x)) e))
  frames_then place xs x r (ends found all) low high same =
      let none : drop found.size (xs ++ x ∷ []) ≡ [] = drop_all found.size (xs ++ x ∷ []) (omega (arith, length_push xs x)) in
      let e : place + found.size ≡ place + length xs + 1 = omega arith in
      rw (same refl, none, frames-nil g (place + found.size)) (ap (λ n. (n, Packet found.packet) ∷ []) e)
  frames_then place xs x r lacks low high same = rw (same refl) refl

  rest_then : (xs : List ℕ) (x : ℕ) (r r' : Rest) {before after : Option SizedPacket} → Goes (length xs) before after
      → length xs ≤ suc f → length xs ≤ g → (before ≡ None → next r x ≡ found_rest after r')
      → rest_after (rest_from g) (xs ++ x ∷ []) after r' ≡ next (rest_after (rest_from f) xs before r) x
  rest_then xs x r r' (stays found positive within) low high same =
      rw (drop-append-le found.size xs (x ∷ []) within)
      (later 0 (drop found.size xs) x (omega (arith, length-drop found.size xs)) (omega (arith, length-drop found.size xs))).rest
  rest_then xs x r r' (ends found all) low high same =
      let none : drop found.size (xs ++ x ∷ []) ≡ [] = drop_all found.size (xs ++ x ∷ []) (omega (arith, length_push xs x)) in
      rw (same refl, none, rest-nil g) refl
  rest_then xs x r r' lacks low high same = sym (same refl)

-- the first octet of a part
first_frames : (b : Bool) (place n : ℕ) → n ≡ place + 1
    → cond b [] ((place + 1, LostSync) ∷ []) ≡ frame_entry n (cond b More LostSync)
first_frames true place n e = refl
first_frames false place n e = rw e refl

goes_first : (f g place x : ℕ) → GoesOn f (suc g) place [] x
goes_first f g place x =
    record {
      frames = rw (rest-nil f, frames-nil f place, first-one x) (first_frames (is_indicator x) place (place + 0 + 1) (omega arith));
      rest = rw (rest-nil f, first-one x) refl;
    }

frames_either : (b : Bool) (n : ℕ) (x : ℕ) (now later : List (ℕ × Fed)) (now' later' : List (ℕ × Fed)) (r s : Rest)
    → later ≡ now ++ frame_entry n (fed_of r x) → later' ≡ now' ++ frame_entry n (fed_of s x)
    → cond b later later' ≡ cond b now now' ++ frame_entry n (fed_of (cond b r s) x)
frames_either true n x now later now' later' r s p q = p
frames_either false n x now later now' later' r s p q = q

rest_either : (b : Bool) (x : ℕ) (r s r' s' : Rest) → r' ≡ next r x → s' ≡ next s x → cond b r' s' ≡ next (cond b r s) x
rest_either true x r s r' s' p q = p
rest_either false x r s r' s' p q = q

two_ways : (m n : ℕ) → m + 1 + n + 1 ≡ m + suc n + 1
two_ways m n = omega arith

pub goes_on : (f g place : ℕ) (xs : List ℕ) (x : ℕ) → length xs ≤ f → length xs < g → GoesOn f g place xs x
goes_on f zero place xs x low high = absurd (omega arith)
goes_on f (suc g) place [] x low high = goes_first f g place x
goes_on zero (suc g) place (y ∷ ys) x low high = absurd (omega arith)
goes_on (suc f) (suc g) place (y ∷ ys) x low high =
    record {
      frames =
          frames_either (is_indicator y) _ x _ _ _ _ _ _
          (frames_then f g (goes_on f g) place (y ∷ ys) x (Begun (y ∷ ys)) (goes_packet (y ∷ ys) x) (omega arith) (omega arith) (λ _. refl))
          (ap (λ fs. (place + 1, LostSync) ∷ fs)
          (frames_then f g (goes_on f g) (place + 1) ys x (Passed ys) (goes_reset ys x) (omega arith) (omega arith) (λ _. refl)
          ∙ ap (λ n. packet_entries (frames_from f) (place + 1) ys (first_reset ys)
          ++ frame_entry n (fed_of (rest_after (rest_from f) ys (first_reset ys) (Passed ys)) x)) (two_ways place (length ys))));
      rest =
          rest_either (is_indicator y) x _ _ _ _
          (rest_then f g (goes_on f g) (y ∷ ys) x (Begun (y ∷ ys)) (Begun (y ∷ ys ++ x ∷ [])) (goes_packet (y ∷ ys) x) (omega arith) (omega arith) (λ _. refl))
          (rest_then f g (goes_on f g) ys x (Passed ys) (Passed (ys ++ x ∷ [])) (goes_reset ys x) (omega arith) (omega arith) (λ _. refl));
    }
