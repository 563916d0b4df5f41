-- The PDUs that a side sends and takes on a link, and the lines that say them.
use Rattle.std.proofs.Common.{◌≡◌, ℕ, ◌+◌, ◌≤◌, ◌==◌, Bool, true, false, List, [], ◌∷◌, ◌++◌, refl, sym, ap, ◌∙◌, append-nil, append_assoc, arith, length-append}
use Rattle.std.specs.Prelude.{drop, fold, length, Some, if◌then◌else◌}
use Rattle.std.specs.List.{flat_map}
use Rattle.std.proofs.lemmas.Bool.{eq-eqb, eqb-true}
use Rattle.std.proofs.lemmas.Grind.{flat_map-append}
use Rattle.std.proofs.lemmas.List.{take-append-drop}
use Rattle.std.proofs.lemmas.List.Elements.{filter-append}
use Rattle.ble_base.specs.Side.{other_side}
use Rattle.ble_base.specs.declared.roles.Side.{Side}
use Rattle.ble_base.specs.declared.roles.Side.TheVariants.{A, B}
use Rattle.journal.specs.declared.entries.Entry.{Entry}
use Rattle.journal.specs.declared.entries.Entry.TheVariants.{Fed, Opened, Sent, Shut, Took, Up}
use Rattle.journal_crossing.specs.journal_data.Followed.{Mixed}
use Rattle.journal_crossing.specs.journal_data.Delivered.{AllDataArrives}
use Rattle.journal_crossing.specs.journal_data.Lines.{Lines, PduLine, line_after, lines_after, lines_of, no_lines, pdus_on}
use Rattle.journal_crossing.specs.journal_links.Begun.{LinkBegun, link_numbered}
use Rattle.journal_crossing.specs.journal_packets.Belonging.{is_side}
use Rattle.journal_crossing.specs.run_model.Readers.{of_side}
use Rattle.journal_outcomes.specs.Numbering.{AllAreNumbered}
use Rattle.journal_outcomes.proofs.Places.{AtMostOne, NoneIn, OneIn, place_of}

-- ---- the PDU of a line

abbrev pub pdu_line : (number count llid : ℕ) → List ℕ → PduLine
pdu_line number count llid body = record { link = number; number = count; pdu = record { llid = llid; body = body } }

abbrev pub sent_in : Side → ℕ → Entry → List PduLine
sent_in side number (Sent other link count llid body) = of_side side other (if link == number then pdu_line link count llid body ∷ [] else [])
sent_in side number line = []

abbrev pub taken_in : Side → ℕ → Entry → List PduLine
taken_in side number (Took other link count llid body) = of_side side other (if link == number then pdu_line link count llid body ∷ [] else [])
taken_in side number line = []

abbrev pub sents : Side → ℕ → List Entry → List PduLine
sents side number entries = flat_map (sent_in side number) entries

abbrev pub takens : Side → ℕ → List Entry → List PduLine
takens side number entries = flat_map (taken_in side number) entries

-- ---- the PDUs of all lines

module _ (number : ℕ) where
  same_sent : (side other : Side) (lines : Lines) (line : Entry) → (line_after 8 lines line).sent ≡ lines.sent
      → pdus_on number (if is_side other side then line_after 8 lines line else lines).sent ≡ pdus_on number lines.sent ++ []
  same_sent side other lines line same = by (is_side other side)
    where
      by : (own : Bool) → pdus_on number (if own then line_after 8 lines line else lines).sent ≡ pdus_on number lines.sent ++ []
      by true = ap (pdus_on number) same ∙ sym (append-nil (pdus_on number lines.sent))
      by false = sym (append-nil (pdus_on number lines.sent))

  same_taken : (side other : Side) (lines : Lines) (line : Entry) → (line_after 8 lines line).taken ≡ lines.taken
      → pdus_on number (if is_side other side then line_after 8 lines line else lines).taken ≡ pdus_on number lines.taken ++ []
  same_taken side other lines line same = by (is_side other side)
    where
      by : (own : Bool) → pdus_on number (if own then line_after 8 lines line else lines).taken ≡ pdus_on number lines.taken ++ []
      by true = ap (pdus_on number) same ∙ sym (append-nil (pdus_on number lines.taken))
      by false = sym (append-nil (pdus_on number lines.taken))

  one_more : (pdus : List PduLine) (one : PduLine) → pdus_on number (pdus ++ one ∷ []) ≡ pdus_on number pdus ++ (if one.link == number then one ∷ [] else [])
  one_more pdus one = filter-append (λ (pdu : PduLine). pdu.link == number) pdus (one ∷ [])

  sent_more : (side : Side) (lines : Lines) (line : Entry) → pdus_on number (lines_after 8 side lines line).sent ≡ pdus_on number lines.sent ++ sent_in side number line
  sent_more A lines (Sent A link count llid body) = one_more lines.sent (pdu_line link count llid body)
  sent_more B lines (Sent B link count llid body) = one_more lines.sent (pdu_line link count llid body)
  sent_more A lines (Sent B link count llid body) = sym (append-nil (pdus_on number lines.sent))
  sent_more B lines (Sent A link count llid body) = sym (append-nil (pdus_on number lines.sent))
  sent_more side lines (Took other link count llid body) = same_sent side other lines (Took other link count llid body) refl
  sent_more side lines (Fed other octets) = same_sent side other lines (Fed other octets) refl
  sent_more side lines (Up other octets) = same_sent side other lines (Up other octets) refl
  sent_more side lines (Opened other link handle role) = same_sent side other lines (Opened other link handle role) refl
  sent_more side lines (Shut other link reason) = same_sent side other lines (Shut other link reason) refl
  sent_more side lines line = sym (append-nil (pdus_on number lines.sent))

  taken_more : (side : Side) (lines : Lines) (line : Entry) → pdus_on number (lines_after 8 side lines line).taken ≡ pdus_on number lines.taken ++ taken_in side number line
  taken_more A lines (Took A link count llid body) = one_more lines.taken (pdu_line link count llid body)
  taken_more B lines (Took B link count llid body) = one_more lines.taken (pdu_line link count llid body)
  taken_more A lines (Took B link count llid body) = sym (append-nil (pdus_on number lines.taken))
  taken_more B lines (Took A link count llid body) = sym (append-nil (pdus_on number lines.taken))
  taken_more side lines (Sent other link count llid body) = same_taken side other lines (Sent other link count llid body) refl
  taken_more side lines (Fed other octets) = same_taken side other lines (Fed other octets) refl
  taken_more side lines (Up other octets) = same_taken side other lines (Up other octets) refl
  taken_more side lines (Opened other link handle role) = same_taken side other lines (Opened other link handle role) refl
  taken_more side lines (Shut other link reason) = same_taken side other lines (Shut other link reason) refl
  taken_more side lines line = sym (append-nil (pdus_on number lines.taken))

  all_sent : (side : Side) (lines : Lines) (entries : List Entry)
      → pdus_on number (fold (lines_after 8 side) lines entries).sent ≡ pdus_on number lines.sent ++ sents side number entries
  all_sent side lines [] = sym (append-nil (pdus_on number lines.sent))
  all_sent side lines (line ∷ entries) =
      all_sent side (lines_after 8 side lines line) entries ∙ ap (λ xs. xs ++ sents side number entries) (sent_more side lines line)
      ∙ append_assoc (pdus_on number lines.sent) (sent_in side number line) (sents side number entries)

  all_taken : (side : Side) (lines : Lines) (entries : List Entry)
      → pdus_on number (fold (lines_after 8 side) lines entries).taken ≡ pdus_on number lines.taken ++ takens side number entries
  all_taken side lines [] = sym (append-nil (pdus_on number lines.taken))
  all_taken side lines (line ∷ entries) =
      all_taken side (lines_after 8 side lines line) entries ∙ ap (λ xs. xs ++ takens side number entries) (taken_more side lines line)
      ∙ append_assoc (pdus_on number lines.taken) (taken_in side number line) (takens side number entries)

  pub sents_are : (side : Side) (entries : List Entry) → pdus_on number (lines_of 8 side entries).sent ≡ sents side number entries
  unfolding lines_of
  sents_are side entries = all_sent side no_lines entries

  pub takens_are : (side : Side) (entries : List Entry) → pdus_on number (lines_of 8 side entries).taken ≡ takens side number entries
  unfolding lines_of
  takens_are side entries = all_taken side no_lines entries

-- ---- the line of a PDU

one_or_none : (side other : Side) (same : Bool) (one : PduLine) → AtMostOne PduLine (of_side side other (if same then one ∷ [] else []))
one_or_none A A true one = OneIn one refl
one_or_none B B true one = OneIn one refl
one_or_none A A false one = NoneIn refl
one_or_none B B false one = NoneIn refl
one_or_none A B same one = NoneIn refl
one_or_none B A same one = NoneIn refl

few_sent : (side : Side) (number : ℕ) (line : Entry) → AtMostOne PduLine (sent_in side number line)
few_sent side number (Sent other link count llid body) = one_or_none side other (link == number) (pdu_line link count llid body)
few_sent side number line = NoneIn refl

few_taken : (side : Side) (number : ℕ) (line : Entry) → AtMostOne PduLine (taken_in side number line)
few_taken side number (Took other link count llid body) = one_or_none side other (link == number) (pdu_line link count llid body)
few_taken side number line = NoneIn refl

record IsOwn (side other : Side) (number link : ℕ) (pdu one : PduLine) : Type 0 where
  side_is : other ≡ side
  link_is : link ≡ number
  pdu_is : pdu ≡ one

own_line : (side other : Side) (number link : ℕ) (pdu one : PduLine) → of_side side other (if link == number then pdu ∷ [] else []) ≡ one ∷ []
    → IsOwn side other number link pdu one
own_line side other number link pdu one is = by side other (link == number) refl is
  where
    by : (here there : Side) (same : Bool) → (link == number) ≡ same → of_side here there (if same then pdu ∷ [] else []) ≡ one ∷ [] → IsOwn here there number link pdu one
    by A A true same all = let pdus : pdu ≡ one = cc in record { side_is = refl; link_is = eqb-true link number same; pdu_is = pdus }
    by B B true same all = let pdus : pdu ≡ one = cc in record { side_is = refl; link_is = eqb-true link number same; pdu_is = pdus }
    by A A false same all = absurd cc
    by B B false same all = absurd cc
    by A B same same_is all = absurd cc
    by B A same same_is all = absurd cc

sent_line : (side : Side) (number : ℕ) (line : Entry) (one : PduLine) → sent_in side number line ≡ one ∷ [] → line ≡ Sent side number one.number one.pdu.llid one.pdu.body
sent_line side number (Sent other link count llid body) one is =
    let own = own_line side other number link (pdu_line link count llid body) one is in
    λ i. Sent (own.side_is i) (own.link_is i) (own.pdu_is i).number (own.pdu_is i).pdu.llid (own.pdu_is i).pdu.body
sent_line side number line one is = absurd cc

taken_line : (side : Side) (number : ℕ) (line : Entry) (one : PduLine) → taken_in side number line ≡ one ∷ [] → line ≡ Took side number one.number one.pdu.llid one.pdu.body
taken_line side number (Took other link count llid body) one is =
    let own = own_line side other number link (pdu_line link count llid body) one is in
    λ i. Took (own.side_is i) (own.link_is i) (own.pdu_is i).number (own.pdu_is i).pdu.llid (own.pdu_is i).pdu.body
taken_line side number line one is = absurd cc

-- these entries have the line of a PDU, after those of the earlier ones
pub record HasLine (line : Entry) (in_line : Entry → List PduLine) (entries : List Entry) (earlier : List PduLine) : Type 0 where
  pub before : List Entry
  pub after : List Entry
  pub is : entries ≡ before ++ line ∷ after
  pub earlier_are : flat_map in_line before ≡ earlier

pub sent_at : (side : Side) (number count llid : ℕ) (body : List ℕ) (entries : List Entry) (earlier later : List PduLine)
    → sents side number entries ≡ earlier ++ pdu_line number count llid body ∷ later
    → HasLine (Sent side number count llid body) (sent_in side number) entries earlier
sent_at side number count llid body entries earlier later is =
    let place = place_of PduLine (sent_in side number) (few_sent side number) entries earlier later (pdu_line number count llid body) is in record {
      before = place.before;
      after = place.after;
      is = place.is ∙ (λ i. place.before ++ sent_line side number place.line (pdu_line number count llid body) place.line_is i ∷ place.after);
      earlier_are = place.earlier_are;
    }

pub taken_at : (side : Side) (number count llid : ℕ) (body : List ℕ) (entries : List Entry) (earlier later : List PduLine)
    → takens side number entries ≡ earlier ++ pdu_line number count llid body ∷ later
    → HasLine (Took side number count llid body) (taken_in side number) entries earlier
taken_at side number count llid body entries earlier later is =
    let place = place_of PduLine (taken_in side number) (few_taken side number) entries earlier later (pdu_line number count llid body) is in record {
      before = place.before;
      after = place.after;
      is = place.is ∙ (λ i. place.before ++ taken_line side number place.line (pdu_line number count llid body) place.line_is i ∷ place.after);
      earlier_are = place.earlier_are;
    }

-- ---- how many there are

own_pdu : (side : Side) (number : ℕ) (one : PduLine) → of_side side side (if number == number then one ∷ [] else []) ≡ one ∷ []
own_pdu A number one = ap (λ (b : Bool). if b then one ∷ [] else []) (eq-eqb number number refl)
own_pdu B number one = ap (λ (b : Bool). if b then one ∷ [] else []) (eq-eqb number number refl)

-- with one more that is sent, or taken
pub sents_with : (side : Side) (number count llid : ℕ) (body : List ℕ) (front rest : List Entry)
    → sents side number (front ++ Sent side number count llid body ∷ rest) ≡ sents side number front ++ pdu_line number count llid body ∷ sents side number rest
sents_with side number count llid body front rest =
    flat_map-append (sent_in side number) front (Sent side number count llid body ∷ rest)
    ∙ ap (λ (xs : List PduLine). sents side number front ++ (xs ++ sents side number rest)) (own_pdu side number (pdu_line number count llid body))

pub takens_with : (side : Side) (number count llid : ℕ) (body : List ℕ) (front rest : List Entry)
    → takens side number (front ++ Took side number count llid body ∷ rest) ≡ takens side number front ++ pdu_line number count llid body ∷ takens side number rest
takens_with side number count llid body front rest =
    flat_map-append (taken_in side number) front (Took side number count llid body ∷ rest)
    ∙ ap (λ (xs : List PduLine). takens side number front ++ (xs ++ takens side number rest)) (own_pdu side number (pdu_line number count llid body))

pub few_more : {X : Type 0} (in_line : Entry → List X) (front rest : List Entry) → length (flat_map in_line front) ≤ length (flat_map in_line (front ++ rest))
few_more in_line front rest =
    let parts = ap (λ xs. length xs) (flat_map-append in_line front rest) ∙ length-append (flat_map in_line front) (flat_map in_line rest) in
    omega (arith, parts)

pub one_less : (in_line : Entry → List PduLine) (front whole : List Entry) (one : PduLine) (later : List PduLine)
    → flat_map in_line whole ≡ flat_map in_line front ++ one ∷ later → length (flat_map in_line front) + 1 ≤ length (flat_map in_line whole)
one_less in_line front whole one later is =
    let parts = ap (λ xs. length xs) is ∙ length-append (flat_map in_line front) (one ∷ later) in omega (arith, parts)

-- ---- by the laws of a journal

module _ (mixed : Mixed) (journal : List Entry) (arrives : AllDataArrives mixed journal) (number : ℕ) (side far : Side) (is_far : other_side side ≡ far) where
  -- what the far side took is what this side sent first
  pub record TookFirst (front : List Entry) : Type 0 where
    pub more : List PduLine
    pub is : sents side number front ≡ takens far number front ++ more

  pub took_first : (front rest : List Entry) → journal ≡ front ++ rest → mixed number front ≡ false → TookFirst front
  took_first front rest is unmixed =
      let ordered = (arrives front rest is side number unmixed).reliable.in_order in
      let same : pdus_on number (lines_of 8 (other_side side) front).taken ≡ takens far number front =
      ap (λ (s : Side). pdus_on number (lines_of 8 s front).taken) is_far ∙ takens_are number far front in
      let sent = pdus_on number (lines_of 8 side front).sent in
      let count = length (pdus_on number (lines_of 8 (other_side side) front).taken) in
      record {
        more = drop count sent;
        is = sym (sents_are number side front) ∙ sym (take-append-drop count sent) ∙ ap (λ xs. xs ++ drop count sent) (sym ordered ∙ same);
      }

  -- a PDU that is taken was sent, after as many as were taken before
  pub was_sent : (front rest : List Entry) (count llid : ℕ) (body : List ℕ) → journal ≡ front ++ Took far number count llid body ∷ rest
      → mixed number (front ++ Took far number count llid body ∷ []) ≡ false
      → HasLine (Sent side number count llid body) (sent_in side number) front (takens far number front)
  was_sent front rest count llid body is unmixed =
      let line = Took far number count llid body in
      let after = is ∙ sym (append_assoc front (line ∷ []) rest) in
      let first = took_first (front ++ line ∷ []) rest after unmixed in
      let same : sents side number (front ++ line ∷ []) ≡ sents side number front =
      flat_map-append (sent_in side number) front (line ∷ []) ∙ append-nil (sents side number front) in
      sent_at side number count llid body front (takens far number front) first.more
      (sym same ∙ first.is
      ∙ ap (λ (xs : List PduLine). xs ++ first.more) (takens_with far number count llid body front [])
      ∙ append_assoc (takens far number front) (pdu_line number count llid body ∷ []) first.more)

-- the number of a PDU that is sent
pub numbered : (journal : List Entry) → AllAreNumbered journal → (link : LinkBegun) (side : Side) (number count llid : ℕ) (body : List ℕ) (front rest : List Entry)
    → journal ≡ front ++ Sent side number count llid body ∷ rest → link_numbered number journal ≡ Some link → count ≡ length (sents side number front) + 1
numbered journal all link side number count llid body front rest is is_link =
    all front rest link side number count llid body is is_link ∙ ap (λ (xs : List PduLine). length xs + 1) (sents_are number side front)
