-- The frames are the one division of the octets into packets and losses.
use Rattle.std.proofs.Common.{◌≡◌, ◌↔◌, ℕ, zero, suc, ◌+◌, ◌-◌, ◌<◌, ◌≤◌, Bool, true, false, ◌&&◌, ◌||◌, cond, eqb, leb, List, [], ◌∷◌, ◌++◌, length, take, drop, replicate, Option, Some, None, refl, ap, sym, subst, ◌∙◌, arith, append_assoc, append-nil, length-append, length-take, take-append-drop}
use Rattle.std.specs.Prelude.{nat_eq}
use Rattle.std.specs.List.{starts_with}
use Rattle.std.proofs.lemmas.Bool.{eqb-true, leb-true, leb-false, le-leb, cond-true, cond-false}
use Rattle.std.proofs.lemmas.Option.{cond_some}
use Rattle.std.proofs.lemmas.List.{take_at, drop_at, length-replicate}
use Rattle.h4_frames.specs.declared.packet.HostPacket.{HostPacket}
use Rattle.h4_frames.specs.declared.packet.Fed.{Fed}
use Rattle.h4_frames.specs.declared.packet.Fed.TheVariants.{Packet, LostSync}
use Rattle.h4_frames.specs.Packets.{is_indicator, word_of, SizedPacket, first_command, first_acl, first_packet}
use Rattle.h4_frames.specs.Frames.{reset, reset_octets, one_later, first_reset, packet_entries, frames_from, frames}
use Rattle.h4_frames.specs.Framing.{IsSentAs, command, acl, HasNoReset, IsFramed, whole, begun, lost, searching}
use Rattle.h4_frames.proofs.Finders.{Goes, stays, ends, lacks, goes_packet}
use Rattle.h4_frames.proofs.Searches.{not_found}
use Rattle.h4_frames.proofs.Stages.{none_false}
use Rattle.h4_frames.proofs.Steps.{frames-nil}

-- a packet that was sent is found
sent_found : {packet : HostPacket} {octets : List ℕ} → IsSentAs packet octets → (tail : List ℕ)
    → first_packet (octets ++ tail) ≡ Some (record { size = length octets; packet = packet })
sent_found (command low high count parameters e) tail =
    let fits : leb count (length (parameters ++ tail)) ≡ true = le-leb _ _ (omega (arith, length-append parameters tail)) in
    let all : take count (parameters ++ tail) ≡ parameters = take_at parameters tail count (sym e) in
    let size : 4 + count ≡ suc (suc (suc (suc (length parameters)))) = omega arith in
    rw (fits, all, size) refl
sent_found (acl low high count_low count_high octets e) tail =
    let fits : leb (word_of count_low count_high) (length (octets ++ tail)) ≡ true = le-leb _ _ (omega (arith, length-append octets tail)) in
    let all : take (word_of count_low count_high) (octets ++ tail) ≡ octets = take_at octets tail _ (sym e) in
    let size : 5 + (word_of count_low count_high) ≡ suc (suc (suc (suc (suc (length octets))))) = omega arith in
    rw (fits, all, size) refl

sent_indicator : {packet : HostPacket} {octet : ℕ} {octets : List ℕ} → IsSentAs packet (octet ∷ octets) → is_indicator octet ≡ true
sent_indicator (command low high count parameters e) = refl
sent_indicator (acl low high count_low count_high octets e) = refl

sent_not_empty : {packet : HostPacket} → IsSentAs packet [] → ⊥
sent_not_empty sent = elim sent [ ]

-- what is found stays found, whatever comes after it
goes_within : {n : ℕ} {before after : Option SizedPacket} (found : SizedPacket) → Goes n before after → before ≡ Some found
    → (after ≡ Some found) × (found.size ≤ n)
goes_within found (stays same positive within) e = let is : same ≡ found = cc in (e, rw (← is) within)
goes_within found (ends same all) e = absurd (cc)
goes_within found lacks e = absurd (cc)

found_stays : (octets tail : List ℕ) (found : SizedPacket) → first_packet octets ≡ Some found
    → (first_packet (octets ++ tail) ≡ Some found) × (found.size ≤ length octets)
found_stays octets [] found e = (rw append-nil e, (goes_within found (goes_packet octets 0) e).1)
found_stays octets (x ∷ xs) found e =
    let now = goes_within found (goes_packet octets x) e in
    let same : octets ++ x ∷ xs ≡ (octets ++ x ∷ []) ++ xs = simp append_assoc in
    (rw same (found_stays (octets ++ x ∷ []) xs found now.0).0, now.1)

begun_by : (octets : List ℕ) (octet : ℕ) (more : List ℕ) (packet : HostPacket) → IsSentAs packet (octets ++ octet ∷ more)
    → (o : Option SizedPacket) → first_packet octets ≡ o → o ≡ None
begun_by octets octet more packet sent None e = refl
begun_by octets octet more packet sent (Some found) e =
    let early = found_stays octets (octet ∷ more) found e in
    let late : first_packet (octets ++ octet ∷ more) ≡ Some (record { size = length (octets ++ octet ∷ more); packet = packet }) =
    rw append-nil at (sent_found sent []) in
    let same : found ≡ record { size = length (octets ++ octet ∷ more); packet = packet } = cc (early.0, late) in
    let size : found.size ≡ length (octets ++ octet ∷ more) = ap (λ (f : SizedPacket). f.size) same in
    absurd (omega (arith, early.1, size, length-append octets (octet ∷ more)))

-- four octets that the test passes
and_split : (b c : Bool) → b && c ≡ true → (b ≡ true) × (c ≡ true)
and_split true c e = (refl, e)
and_split false c e = absurd (cc)

starts_split : (xs : List ℕ) → starts_with nat_eq xs reset_octets ≡ true → xs ≡ reset_octets ++ drop 4 xs
starts_split [] e = absurd (cc)
starts_split (a ∷ []) e = let no = (and_split (eqb 1 a) false e).1 in absurd (cc no)
starts_split (a ∷ b ∷ []) e = let no = (and_split (eqb 3 b) false (and_split (eqb 1 a) _ e).1).1 in absurd (cc no)
starts_split (a ∷ b ∷ c ∷ []) e =
    let no = (and_split (eqb 12 c) false (and_split (eqb 3 b) _ (and_split (eqb 1 a) _ e).1).1).1 in absurd (cc no)
starts_split (a ∷ b ∷ c ∷ d ∷ xs) e =
    let one = and_split (eqb 1 a) _ e in
    let two = and_split (eqb 3 b) _ one.1 in
    let three = and_split (eqb 12 c) _ two.1 in
    let four = and_split (eqb 0 d) _ three.1 in
    let is_one : a ≡ 1 = sym (eqb-true 1 a one.0) in
    let is_two : b ≡ 3 = sym (eqb-true 3 b two.0) in
    let is_three : c ≡ 12 = sym (eqb-true 12 c three.0) in
    let is_four : d ≡ 0 = sym (eqb-true 0 d four.0) in
    rw (is_one, is_two, is_three, is_four) refl

same_start : (y : ℕ) (ys tail : List ℕ) → starts_with nat_eq (y ∷ ys ++ (reset_octets ++ tail)) reset_octets
    ≡ starts_with nat_eq (y ∷ ys ++ 1 ∷ 3 ∷ 12 ∷ []) reset_octets
same_start y [] tail = refl
same_start y (a ∷ []) tail = refl
same_start y (a ∷ b ∷ []) tail = refl
same_start y (a ∷ b ∷ c ∷ ys) tail = refl

none_tail : (y : ℕ) (ys : List ℕ) → HasNoReset (y ∷ ys) → HasNoReset ys
none_tail y ys none = λ front tail e. none (y ∷ front) tail (ap (λ zs. y ∷ zs) e)

none_starts : (y : ℕ) (ys : List ℕ) → HasNoReset (y ∷ ys) → (b : Bool) → starts_with nat_eq (y ∷ ys) reset_octets ≡ b → b ≡ false
none_starts y ys none true e = absurd (none [] (drop 4 (y ∷ ys)) (starts_split (y ∷ ys) e))
none_starts y ys none false e = refl

-- no HCI_Reset is found where there is none
reset_none : (xs : List ℕ) → HasNoReset xs → first_reset xs ≡ None
reset_none [] none = refl
reset_none (x ∷ xs) none =
    cond-false (starts_with nat_eq (x ∷ xs) reset_octets) _ _ (none_starts x xs none _ refl)
    ∙ ap one_later (reset_none xs (none_tail x xs none))

-- the first is found
reset_found : (passed tail : List ℕ) → HasNoReset (passed ++ 1 ∷ 3 ∷ 12 ∷ [])
    → first_reset (passed ++ (reset_octets ++ tail)) ≡ Some (record { size = length passed + 4; packet = reset })
reset_found [] tail none = refl
reset_found (y ∷ ys) tail none =
    let size : length ys + 4 + 1 ≡ suc (length ys) + 4 = omega arith in
    cond-false (starts_with nat_eq (y ∷ ys ++ (reset_octets ++ tail)) reset_octets) _ _
    (same_start y ys tail ∙ none_starts y (ys ++ 1 ∷ 3 ∷ 12 ∷ []) none _ refl)
    ∙ ap one_later (reset_found ys tail (none_tail y _ none))
    ∙ rw size refl

tail_after_reset : (passed tail : List ℕ) → drop (length passed + 4) (passed ++ (reset_octets ++ tail)) ≡ tail
tail_after_reset passed tail =
    let size : length (passed ++ reset_octets) ≡ length passed + 4 = length-append passed reset_octets in
    rw (← append_assoc passed reset_octets tail) (drop_at (passed ++ reset_octets) tail (length passed + 4) size)

pub framed_once : {place : ℕ} {octets : List ℕ} {entries : List (ℕ × Fed)} → IsFramed place octets entries
    → (fuel : ℕ) → length octets ≤ fuel → frames_from fuel place octets ≡ entries
framed_once (whole place packet [] tail entries sent later) fuel h = absurd (sent_not_empty sent)
framed_once (whole place packet (y ∷ ys) tail entries sent later) zero h = absurd (omega arith)
framed_once (whole place packet (y ∷ ys) tail entries sent later) (suc f) h =
    cond-true (is_indicator y) _ _ (sent_indicator sent)
    ∙ ap (packet_entries (frames_from f) place (y ∷ ys ++ tail)) (sent_found sent tail)
    ∙ ap (λ es. (place + length (y ∷ ys), Packet packet) ∷ es)
    (ap (frames_from f (place + length (y ∷ ys))) (drop_at (y ∷ ys) tail (length (y ∷ ys)) refl)
    ∙ framed_once later f (omega (arith, length-append ys tail)))
framed_once (begun place packet [] octet more sent) fuel h = frames-nil fuel place
framed_once (begun place packet (y ∷ ys) octet more sent) zero h = absurd (omega arith)
framed_once (begun place packet (y ∷ ys) octet more sent) (suc f) h =
    cond-true (is_indicator y) _ _ (sent_indicator sent)
    ∙ ap (packet_entries (frames_from f) place (y ∷ ys)) (begun_by (y ∷ ys) octet more packet sent _ refl)
framed_once (lost place octet passed tail entries wrong none later) zero h = absurd (omega arith)
framed_once (lost place octet passed tail entries wrong none later) (suc f) h =
    cond-false (is_indicator octet) _ _ wrong
    ∙ ap (λ es. (place + 1, LostSync) ∷ es)
    (ap (packet_entries (frames_from f) (place + 1) (passed ++ (reset_octets ++ tail))) (reset_found passed tail none)
    ∙ ap (λ es. (place + 1 + (length passed + 4), Packet reset) ∷ es)
    (ap (frames_from f (place + 1 + (length passed + 4))) (tail_after_reset passed tail)
    ∙ framed_once later f (omega (arith, length-append passed (reset_octets ++ tail)))))
framed_once (searching place octet passed wrong none) zero h = absurd (omega arith)
framed_once (searching place octet passed wrong none) (suc f) h =
    cond-false (is_indicator octet) _ _ wrong
    ∙ ap (λ es. (place + 1, LostSync) ∷ es) (ap (packet_entries (frames_from f) (place + 1) passed) (reset_none passed none))

-- a packet was found, so it was sent
record IsSent (xs : List ℕ) (found : SizedPacket) : Type 0 where
  octets : List ℕ
  tail : List ℕ
  split : xs ≡ octets ++ tail
  sent : IsSentAs found.packet octets
  size : found.size ≡ length octets

command_sent : (ys : List ℕ) (found : SizedPacket) → first_command ys ≡ Some found → IsSent (1 ∷ ys) found
command_sent [] found e = absurd (cc)
command_sent (a ∷ []) found e = absurd (cc)
command_sent (a ∷ b ∷ []) found e = absurd (cc)
command_sent (a ∷ b ∷ c ∷ ys) found e =
    let is = cond_some (leb c (length ys)) _ found e in
    let fits : c ≤ length ys = leb-true c (length ys) is.0 in
    let all : c ≡ length (take c ys) = omega (arith, length-take c ys) in
    subst (λ f. IsSent (1 ∷ a ∷ b ∷ c ∷ ys) f) is.1
    (record {
      octets = 1 ∷ a ∷ b ∷ c ∷ take c ys;
      tail = drop c ys;
      split = ap (λ zs. 1 ∷ a ∷ b ∷ c ∷ zs) (sym (take-append-drop c ys));
      sent = command a b c (take c ys) all;
      size = omega arith;
    })

acl_sent : (ys : List ℕ) (found : SizedPacket) → first_acl ys ≡ Some found → IsSent (2 ∷ ys) found
acl_sent [] found e = absurd (cc)
acl_sent (a ∷ []) found e = absurd (cc)
acl_sent (a ∷ b ∷ []) found e = absurd (cc)
acl_sent (a ∷ b ∷ c ∷ []) found e = absurd (cc)
acl_sent (a ∷ b ∷ c ∷ d ∷ ys) found e =
    let count = word_of c d in
    let is = cond_some (leb count (length ys)) _ found e in
    let fits : count ≤ length ys = leb-true count (length ys) is.0 in
    let all : count ≡ length (take count ys) = omega (arith, length-take count ys) in
    subst (λ f. IsSent (2 ∷ a ∷ b ∷ c ∷ d ∷ ys) f) is.1
    (record {
      octets = 2 ∷ a ∷ b ∷ c ∷ d ∷ take count ys;
      tail = drop count ys;
      split = ap (λ zs. 2 ∷ a ∷ b ∷ c ∷ d ∷ zs) (sym (take-append-drop count ys));
      sent = acl a b c d (take count ys) all;
      size = omega arith;
    })

-- more octets make a packet of these
record IsOpening (xs : List ℕ) : Type 0 where
  packet : HostPacket
  octet : ℕ
  more : List ℕ
  sent : IsSentAs packet (xs ++ octet ∷ more)

command_opens : (ys : List ℕ) → first_command ys ≡ None → IsOpening (1 ∷ ys)
command_opens [] e = record { packet = _; octet = 0; more = 0 ∷ 0 ∷ []; sent = command 0 0 0 [] refl }
command_opens (a ∷ []) e = record { packet = _; octet = 0; more = 0 ∷ []; sent = command a 0 0 [] refl }
command_opens (a ∷ b ∷ []) e = record { packet = _; octet = 0; more = []; sent = command a b 0 [] refl }
command_opens (a ∷ b ∷ c ∷ ys) e =
    let short : length ys < c = leb-false c (length ys) (none_false (leb c (length ys)) _ e) in
    let more = replicate (c - length ys - 1) 0 in
    let all : c ≡ length (ys ++ 0 ∷ more) = omega (arith, length-append ys (0 ∷ more), length-replicate {A = ℕ} (c - length ys - 1) 0) in
    record { packet = _; octet = 0; more = more; sent = command a b c (ys ++ 0 ∷ more) all }

acl_opens : (ys : List ℕ) → first_acl ys ≡ None → IsOpening (2 ∷ ys)
acl_opens [] e = record { packet = _; octet = 0; more = 0 ∷ 0 ∷ 0 ∷ []; sent = acl 0 0 0 0 [] refl }
acl_opens (a ∷ []) e = record { packet = _; octet = 0; more = 0 ∷ 0 ∷ []; sent = acl a 0 0 0 [] refl }
acl_opens (a ∷ b ∷ []) e = record { packet = _; octet = 0; more = 0 ∷ []; sent = acl a b 0 0 [] refl }
acl_opens (a ∷ b ∷ c ∷ []) e =
    let all : word_of c 0 ≡ length (replicate c 0) = omega (arith, length-replicate {A = ℕ} c 0) in
    record { packet = _; octet = 0; more = replicate c 0; sent = acl a b c 0 (replicate c 0) all }
acl_opens (a ∷ b ∷ c ∷ d ∷ ys) e =
    let count = word_of c d in
    let short : length ys < count = leb-false count (length ys) (none_false (leb count (length ys)) _ e) in
    let more = replicate (count - length ys - 1) 0 in
    let all : count ≡ length (ys ++ 0 ∷ more) = omega (arith, length-append ys (0 ∷ more), length-replicate {A = ℕ} (count - length ys - 1) 0) in
    record { packet = _; octet = 0; more = more; sent = acl a b c d (ys ++ 0 ∷ more) all }

-- an indicator is 1 or 2
packet_sent : (y : ℕ) (ys : List ℕ) (found : SizedPacket) (a b : Bool) → eqb y 1 ≡ a → eqb y 2 ≡ b → a || b ≡ true
    → cond a (first_command ys) (first_acl ys) ≡ Some found → IsSent (y ∷ ys) found
packet_sent y ys found true b p q is e = rw (eqb-true y 1 p) (command_sent ys found e)
packet_sent y ys found false true p q is e = rw (eqb-true y 2 q) (acl_sent ys found e)
packet_sent y ys found false false p q is e = absurd (cc is)

packet_opens : (y : ℕ) (ys : List ℕ) (a b : Bool) → eqb y 1 ≡ a → eqb y 2 ≡ b → a || b ≡ true
    → cond a (first_command ys) (first_acl ys) ≡ None → IsOpening (y ∷ ys)
packet_opens y ys true b p q is e = rw (eqb-true y 1 p) (command_opens ys e)
packet_opens y ys false true p q is e = rw (eqb-true y 2 q) (acl_opens ys e)
packet_opens y ys false false p q is e = absurd (cc is)

-- where none is found there is none
no_reset : (front tail : List ℕ) → first_reset (front ++ (reset_octets ++ tail)) ≡ None → ⊥
no_reset [] tail e = absurd (cc)
no_reset (y ∷ ys) tail e =
    no_reset ys tail (not_found (starts_with nat_eq (y ∷ ys ++ (reset_octets ++ tail)) reset_octets) _ _ e).1

-- the first was found
record IsPassed (xs : List ℕ) (found : SizedPacket) : Type 0 where
  passed : List ℕ
  tail : List ℕ
  split : xs ≡ passed ++ (reset_octets ++ tail)
  none : HasNoReset (passed ++ 1 ∷ 3 ∷ 12 ∷ [])
  is : found ≡ record { size = length passed + 4; packet = reset }

three_octets : HasNoReset (1 ∷ 3 ∷ 12 ∷ [])
three_octets = λ front tail e.
    let same : 3 ≡ length (front ++ (reset_octets ++ tail)) = ap length e in
    omega (arith, same, length-append front (reset_octets ++ tail))

none_more : (y : ℕ) (ys : List ℕ) → starts_with nat_eq (y ∷ ys) reset_octets ≡ false → HasNoReset ys
    → (front tail : List ℕ) → y ∷ ys ≡ front ++ (reset_octets ++ tail) → ⊥
none_more y ys apart none [] tail e =
    let starts : starts_with nat_eq (y ∷ ys) reset_octets ≡ true = ap (λ zs. starts_with nat_eq zs reset_octets) e in absurd (cc)
none_more y ys apart none (z ∷ zs) tail e = let tails : ys ≡ zs ++ (reset_octets ++ tail) = cc in none zs tail tails

passed_by : (x : ℕ) (xs : List ℕ) (found : SizedPacket) (b : Bool) (o : Option SizedPacket) → starts_with nat_eq (x ∷ xs) reset_octets ≡ b
    → first_reset xs ≡ o → ((next : SizedPacket) → first_reset xs ≡ Some next → IsPassed xs next)
    → cond b (Some (record { size = 4; packet = reset })) (one_later o) ≡ Some found → IsPassed (x ∷ xs) found
passed_by x xs found true o starts is before e =
    let same : ◌≡◌ {A = SizedPacket} (record { size = 4; packet = reset }) found = cc in
    record { passed = []; tail = drop 4 (x ∷ xs); split = starts_split (x ∷ xs) starts; none = three_octets; is = sym same }
passed_by x xs found false None starts is before e = absurd (cc)
passed_by x xs found false (Some next) starts is before e =
    let p = before next is in
    let same : ◌≡◌ {A = SizedPacket} (record { size = next.size + 1; packet = next.packet }) found = cc in
    let size : length p.passed + 4 + 1 ≡ suc (length p.passed) + 4 = omega arith in
    record {
      passed = x ∷ p.passed;
      tail = p.tail;
      split = ap (λ zs. x ∷ zs) p.split;
      none =
          none_more x (p.passed ++ 1 ∷ 3 ∷ 12 ∷ [])
          (sym (same_start x p.passed p.tail) ∙ ap (λ zs. starts_with nat_eq (x ∷ zs) reset_octets) (sym p.split) ∙ starts) p.none;
      is =
          sym same ∙ ap (λ (q : SizedPacket). record { size = q.size + 1; packet = q.packet }) p.is
          ∙ ap (λ n. record { size = n; packet = reset }) size;
    }

reset_passed : (xs : List ℕ) (found : SizedPacket) → first_reset xs ≡ Some found → IsPassed xs found
reset_passed [] found e = absurd (cc)
reset_passed (x ∷ xs) found e =
    passed_by x xs found (starts_with nat_eq (x ∷ xs) reset_octets) (first_reset xs) refl refl (reset_passed xs) e

sent_positive : {packet : HostPacket} {octets : List ℕ} → IsSentAs packet octets → 0 < length octets
sent_positive (command low high count parameters e) = omega arith
sent_positive (acl low high count_low count_high octets e) = omega arith

module _ (f : ℕ) (later : (place : ℕ) (xs : List ℕ) → length xs ≤ f → IsFramed place xs (frames_from f place xs)) where
  whole_framed : (place : ℕ) (xs : List ℕ) (found : SizedPacket) → IsSent xs found → length xs ≤ suc f
      → IsFramed place xs (packet_entries (frames_from f) place xs (Some found))
  whole_framed place xs found s h =
      let fits : length s.tail ≤ f = omega (arith, sent_positive s.sent, ap length s.split, length-append s.octets s.tail) in
      rw (s.split, s.size, drop_at s.octets s.tail (length s.octets) refl)
      (whole place found.packet s.octets s.tail _ s.sent (later (place + length s.octets) s.tail fits))

  packet_framed : (place y : ℕ) (ys : List ℕ) (o : Option SizedPacket) → length ys ≤ f → first_packet (y ∷ ys) ≡ o → is_indicator y ≡ true
      → IsFramed place (y ∷ ys) (packet_entries (frames_from f) place (y ∷ ys) o)
  packet_framed place y ys None h e is =
      let opening = packet_opens y ys (eqb y 1) (eqb y 2) refl refl is e in
      begun place opening.packet (y ∷ ys) opening.octet opening.more opening.sent
  packet_framed place y ys (Some found) h e is =
      whole_framed place (y ∷ ys) found (packet_sent y ys found (eqb y 1) (eqb y 2) refl refl is e) (omega arith)

  passed_framed : (place y : ℕ) (ys : List ℕ) (found : SizedPacket) → IsPassed ys found → length ys ≤ f → is_indicator y ≡ false
      → IsFramed place (y ∷ ys) ((place + 1, LostSync) ∷ packet_entries (frames_from f) (place + 1) ys (Some found))
  passed_framed place y ys found s h wrong =
      let fits : length s.tail ≤ f =
      omega (arith, ap length s.split, length-append s.passed (reset_octets ++ s.tail)) in
      rw (s.split, s.is, tail_after_reset s.passed s.tail)
      (lost place y s.passed s.tail _ wrong s.none (later (place + 1 + (length s.passed + 4)) s.tail fits))

  reset_framed : (place y : ℕ) (ys : List ℕ) (o : Option SizedPacket) → length ys ≤ f → first_reset ys ≡ o → is_indicator y ≡ false
      → IsFramed place (y ∷ ys) ((place + 1, LostSync) ∷ packet_entries (frames_from f) (place + 1) ys o)
  reset_framed place y ys None h e wrong =
      searching place y ys wrong (λ front tail same. no_reset front tail (rw same at e))
  reset_framed place y ys (Some found) h e wrong = passed_framed place y ys found (reset_passed ys found e) h wrong

  first_framed : (place y : ℕ) (ys : List ℕ) (b : Bool) → length ys ≤ f → is_indicator y ≡ b
      → IsFramed place (y ∷ ys) (cond b (packet_entries (frames_from f) place (y ∷ ys) (first_packet (y ∷ ys)))
      ((place + 1, LostSync) ∷ packet_entries (frames_from f) (place + 1) ys (first_reset ys)))
  first_framed place y ys true h is = packet_framed place y ys _ h refl is
  first_framed place y ys false h wrong = reset_framed place y ys _ h refl wrong

pub framed : (fuel place : ℕ) (xs : List ℕ) → length xs ≤ fuel → IsFramed place xs (frames_from fuel place xs)
framed fuel place [] h = rw (frames-nil fuel place) (begun place _ [] 1 (0 ∷ 0 ∷ 0 ∷ []) (command 0 0 0 [] refl))
framed zero place (y ∷ ys) h = absurd (omega arith)
framed (suc f) place (y ∷ ys) h = first_framed f (framed f) place y ys (is_indicator y) (omega arith) refl

-- the division is that of `frames`
pub division : (octets : List ℕ) (entries : List (ℕ × Fed)) → IsFramed 0 octets entries ↔ (entries ≡ frames octets)
unfolding frames
division octets entries =
    (λ is. sym (framed_once is (length octets) (omega arith)), λ e. rw e (framed (length octets) 0 octets (omega arith)))
