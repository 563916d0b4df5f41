-- An end that takes the PDUs of its central in order follows the indications that its central sent.
use Rattle.std.proofs.Common.{◌≡◌, ◌⊎◌, inl, inr, ℕ, ◌+◌, ◌<◌, ◌≤◌, ◌==◌, Bool, true, false, List, [], ◌∷◌, ◌++◌, refl, sym, ap, subst, ◌∙◌, arith}
use Rattle.std.specs.Prelude.{Option, Some, None, fold, length, map, take, drop, if◌then◌else◌}
use Rattle.std.specs.List.{All, flat_map}
use Rattle.std.specs.Option.{option_to_list}
use Rattle.std.proofs.Math.Seq.{take-append_seam, drop-append_seam}
use Rattle.std.proofs.lemmas.Bool.{eq-eqb, eqb-true}
use Rattle.std.proofs.lemmas.List.{append-nil, append_assoc, length-append, take_all, take-append-drop}
use Rattle.std.proofs.lemmas.List.Elements.{All-drop, All-head, All-same, All-take}
use Rattle.std.proofs.lemmas.List.Sums.{fold-append}
use Rattle.ble_base.specs.Side.{other_side}
use Rattle.ble_base.specs.declared.roles.Role.{Role}
use Rattle.ble_base.specs.declared.roles.Role.TheVariants.{Central, Peripheral}
use Rattle.ble_base.specs.declared.roles.Side.{Side}
use Rattle.ble_base.specs.declared.roles.Side.TheVariants.{A, B}
use Rattle.instants.specs.Arrivals.{Taking, taking_of}
use Rattle.instants.specs.Track.{gap_ahead}
use Rattle.instants.specs.declared.indications.Indication.{Indication}
use Rattle.instants.specs.declared.track.Change.{Change}
use Rattle.journal.specs.declared.entries.Entry.{Entry}
use Rattle.journal.specs.declared.entries.Entry.TheVariants.{Enter, Took}
use Rattle.link_changes.specs.Noted.{applied_noted, event_after, event_noted, indication_in, indications_noted, taking_if, takings_from, takings_noted}
use Rattle.link_changes.proofs.Notes.{event_more, takings-append}
use Rattle.journal_data.specs.Delivered.{AllDataArrives, IsReliable}
use Rattle.journal_data.specs.Followed.{Mixed, StaysMixed}
use Rattle.journal_data.specs.Lines.{Lines, PduLine, line_after, lines_after, lines_of, no_lines, pdus_on}
use Rattle.journal_data.specs.journal_links.Begun.{LinkBegun, link_numbered}
use Rattle.journal_data.specs.journal_links.Changes.{note_said, notes_said, role_by, role_on}
use Rattle.journal_data.specs.journal_links.LinkLines.{link_named, where_named}
use Rattle.journal_data.specs.journal_packets.Belonging.{is_side}
use Rattle.journal_data.specs.run_model.Readers.{of_side}
use Rattle.journal_data.proofs.LinesGrow.{IsLonger}
use Rattle.journal_data.proofs.journal_links.LinkLines.{named_here}
use Rattle.journal_data.proofs.journal_links.LinksBegun.{number_stays}
use Rattle.journal_agreement.specs.Indications.{AllFollowCentral, FollowsCentral, indications_sent}
use Rattle.link_indications.specs.InTime.{IsTakenInTime}
use Rattle.journal_agreement.specs.Taken.{AllAreReadAsSent, AllCameInTime}
use Rattle.journal_agreement.proofs.BothEnds.{indications_more, said_more, sent_more}
use Rattle.journal_agreement.proofs.CountedPdus.{count_in, count_more, either_named, indications_counted, one_more}

-- ---- lists of which one is the front of the other

longer_still : (X : Type 0) (first second third : List X) → IsLonger X first second → (more : List X) → third ≡ second ++ more → IsLonger X first third
longer_still X first second third longer more is = record {
  more = longer.more ++ more;
  is = is ∙ ap (λ all. all ++ more) longer.is ∙ append_assoc first longer.more more;
}

front_of : (X : Type 0) (first second : List X) → IsLonger X first second → first ≡ take (length first) second
front_of X first second longer = sym (ap (take (length first)) longer.is ∙ take-append_seam first longer.more)

-- so is the front of a front
front_first : (X : Type 0) (count : ℕ) (first second : List X) → IsLonger X first second → take count first ≡ take (length (take count first)) second
front_first X count first second longer = front_of X (take count first) second (record {
  more = drop count first ++ longer.more;
  is = longer.is ∙ ap (λ all. all ++ longer.more) (sym (take-append-drop count first)) ∙ append_assoc (take count first) (drop count first) longer.more;
})

-- a list of one element more than its front ends with its last element
pub one_after : (X : Type 0) (first all earlier : List X) (last : X) → IsLonger X first all → length all ≡ length first + 1
    → all ≡ earlier ++ last ∷ [] → all ≡ first ++ last ∷ []
one_after X first all earlier last longer size is =
    let long : length all ≡ length earlier + 1 = ap (λ xs. length xs) is ∙ length-append earlier (last ∷ []) in
    let count : length earlier ≡ length first = omega (arith, size, long) in
    let same : earlier ≡ first =
    sym (take-append_seam earlier (last ∷ [])) ∙ (λ i. take (count i) (sym is i)) ∙ sym (front_of X first all longer) in
    is ∙ ap (λ xs. xs ++ last ∷ []) same

-- where no more than one is left, and one more of them comes, they are all
all_came : (X : Type 0) (sent taken : List X) (one : X) → length sent ≤ length taken + 1
    → taken ++ one ∷ [] ≡ take (length (taken ++ one ∷ [])) sent → sent ≡ taken ++ one ∷ []
all_came X sent taken one few first =
    let size : length (taken ++ one ∷ []) ≡ length taken + 1 = length-append taken (one ∷ []) in
    sym (first ∙ take_all (length (taken ++ one ∷ [])) sent (omega (arith, few, size)))

first_all : {X : Type 0} (P : X → Type 0) (xs ys : List X) → All P (xs ++ ys) → All P xs
first_all P xs ys all = All-same P xs (take (length xs) (xs ++ ys)) (sym (take-append_seam xs ys)) (All-take P (length xs) (xs ++ ys) all)

pub rest_all : {X : Type 0} (P : X → Type 0) (xs ys : List X) → All P (xs ++ ys) → All P ys
rest_all P xs ys all = All-same P ys (drop (length xs) (xs ++ ys)) (sym (drop-append_seam xs ys)) (All-drop P (length xs) (xs ++ ys) all)

-- ---- sides

far_side : (central side : Side) → role_by central side ≡ Peripheral → other_side central ≡ side
far_side A B is = refl
far_side B A is = refl
far_side A A is = absurd cc
far_side B B is = absurd cc

-- a line of a side on a link is of this side and this link, or of another
own_or_not : (side other : Side) (number link : ℕ) (line : Entry)
    → ((other ≡ side) × (link ≡ number)) ⊎ (where_named side number (Some (other, link)) line ≡ [])
own_or_not side other number link line = by side other (link == number) refl
  where
    by : (here there : Side) (same : Bool) → (link == number) ≡ same
        → ((there ≡ here) × (link ≡ number)) ⊎ (of_side here there (if same then line ∷ [] else []) ≡ [])
    by A A true is = inl (refl, eqb-true link number is)
    by B B true is = inl (refl, eqb-true link number is)
    by A A false is = inr refl
    by B B false is = inr refl
    by A B same is = inr refl
    by B A same is = inr refl

-- ---- the lines of a side after one more

-- a PDU that is taken
abbrev pdu_taken : ℕ → ℕ → ℕ → List ℕ → PduLine
pdu_taken number count llid body = record { link = number; number = count; pdu = record { llid = llid; body = body } }

sent_same : (side other : Side) (front : List Entry) (number count llid : ℕ) (body : List ℕ)
    → (lines_of 8 side (front ++ Took other number count llid body ∷ [])).sent ≡ (lines_of 8 side front).sent
unfolding lines_of
sent_same side other front number count llid body =
    ap (λ (lines : Lines). lines.sent) (fold-append (lines_after 8 side) no_lines front (Took other number count llid body ∷ []))
    ∙ by (is_side other side) (fold (lines_after 8 side) no_lines front)
  where
    by : (own : Bool) (lines : Lines) → (if own then line_after 8 lines (Took other number count llid body) else lines).sent ≡ lines.sent
    by true lines = refl
    by false lines = refl

taken_more : (side : Side) (front : List Entry) (number count llid : ℕ) (body : List ℕ)
    → (lines_of 8 side (front ++ Took side number count llid body ∷ [])).taken ≡ (lines_of 8 side front).taken ++ pdu_taken number count llid body ∷ []
unfolding lines_of
taken_more A front number count llid body =
    ap (λ (lines : Lines). lines.taken) (fold-append (lines_after 8 A) no_lines front (Took A number count llid body ∷ []))
taken_more B front number count llid body =
    ap (λ (lines : Lines). lines.taken) (fold-append (lines_after 8 B) no_lines front (Took B number count llid body ∷ []))

-- ---- one link, up to a line

module _ (mixed : Mixed) (stays : StaysMixed mixed) (journal : List Entry) (arrives : AllDataArrives mixed journal) (as_sent : AllAreReadAsSent mixed journal) (number : ℕ) (link : LinkBegun)
    (is_link : link_numbered number journal ≡ Some link) (side : Side) (is_peripheral : role_on link side ≡ Peripheral) where
  abbrev sent : List Entry → List Change
  sent front = indications_sent number link front

  abbrev taken : List Entry → List Change
  taken front = indications_noted Peripheral (notes_said side number front)

  abbrev event_at : List Entry → ℕ
  event_at front = event_noted (notes_said side number front)

  -- the indications that a line takes
  abbrev takings_in : List Entry → List Entry → List Taking
  takings_in front lines = takings_from Peripheral (event_at front) (notes_said side number lines)

  -- what the central sent on the link is what this side took and the PDU that it takes now
  pdus_sent : (front rest : List Entry) (count llid : ℕ) (body : List ℕ) → journal ≡ front ++ Took side number count llid body ∷ rest
      → mixed number (front ++ Took side number count llid body ∷ []) ≡ false
      → pdus_on number (lines_of 8 link.central front).sent ≡ pdus_on number (lines_of 8 side front).taken ++ pdu_taken number count llid body ∷ []
  pdus_sent front rest count llid body is unmixed =
      let line = Took side number count llid body in
      let one = pdu_taken number count llid body in
      let far = far_side link.central side is_peripheral in
      let is_after = is ∙ sym (append_assoc front (line ∷ []) rest) in
      let before = subst (λ s. IsReliable number (lines_of 8 link.central front) (lines_of 8 s front)) far
      (arrives front (line ∷ rest) is link.central number (stays number front (line ∷ []) unmixed)).reliable in
      let after = subst (λ s. IsReliable number (lines_of 8 link.central (front ++ line ∷ [])) (lines_of 8 s (front ++ line ∷ []))) far
      (arrives (front ++ line ∷ []) rest is_after link.central number unmixed).reliable in
      let now : pdus_on number (lines_of 8 side (front ++ line ∷ [])).taken ≡ pdus_on number (lines_of 8 side front).taken ++ one ∷ [] =
      ap (pdus_on number) (taken_more side front number count llid body) ∙ one_more number (lines_of 8 side front).taken one
      ∙ ap (λ b. pdus_on number (lines_of 8 side front).taken ++ (if b then one ∷ [] else [])) (eq-eqb number number refl) in
      let same = ap (pdus_on number) (sent_same link.central side front number count llid body) in
      all_came PduLine (pdus_on number (lines_of 8 link.central front).sent) (pdus_on number (lines_of 8 side front).taken) one before.at_most_one_ahead
      (sym now ∙ after.in_order ∙ (λ i. take (length (now i)) (same i)))

  -- so it sent one indication more than this side took, if the PDU is one
  one_ahead : (front rest : List Entry) (count llid : ℕ) (body : List ℕ) (indication : Indication) → journal ≡ front ++ Took side number count llid body ∷ rest
      → mixed number (front ++ Took side number count llid body ∷ []) ≡ false
      → indication_in llid body ≡ Some indication → length (sent front) ≡ length (taken front) + 1
  one_ahead front rest count llid body indication is unmixed reads =
      let one = pdu_taken number count llid body in
      let pdus = pdus_on number (lines_of 8 side front).taken in
      let last : count_in (one ∷ []) ≡ 1 = ap (λ may. length (option_to_list may ++ [])) reads in
      indications_counted Central link.central number front ∙ ap count_in (pdus_sent front rest count llid body is unmixed) ∙ count_more pdus (one ∷ [])
      ∙ (λ i. sym (indications_counted Peripheral side number front) i + last i)

  -- and that is the one that it takes
  sent_with : (front rest : List Entry) (count llid : ℕ) (body : List ℕ) (indication : Indication) → journal ≡ front ++ Took side number count llid body ∷ rest
      → mixed number (front ++ Took side number count llid body ∷ []) ≡ false
      → indication_in llid body ≡ Some indication → gap_ahead (event_at front) indication < 32767 → IsLonger Change (taken front) (sent front)
      → sent front ≡ taken front ++ (taking_of (event_at front) indication).change ∷ []
  sent_with front rest count llid body indication is unmixed reads in_time longer =
      let last = as_sent front rest side number count llid body link indication is
      (stays number front (Took side number count llid body ∷ []) unmixed) is_link is_peripheral reads in_time in
      one_after Change (taken front) (sent front) last.earlier (taking_of (event_at front) indication).change longer
      (one_ahead front rest count llid body indication is unmixed reads) last.is

  -- ---- one line more

  abbrev Follows : List Entry → Type 0
  Follows front = IsLonger Change (taken front) (sent front)

  follows_more : (front : List Entry) (line : Entry) (takings : List Taking) → takings_in front (line ∷ []) ≡ takings
      → IsLonger Change (taken front ++ map (λ (taking : Taking). taking.change) takings) (sent front) → Follows (front ++ line ∷ [])
  follows_more front line takings are longer =
      let now = indications_more Peripheral side number front (line ∷ [])
      ∙ ap (λ (all : List Taking). taken front ++ map (λ (taking : Taking). taking.change) all) are in
      subst (λ all. IsLonger Change all (sent (front ++ line ∷ []))) (sym now)
      (longer_still Change _ (sent front) (sent (front ++ line ∷ [])) longer _ (sent_more number link front (line ∷ [])))

  follows_none : (front : List Entry) (line : Entry) → takings_in front (line ∷ []) ≡ [] → Follows front → Follows (front ++ line ∷ [])
  follows_none front line none follows =
      follows_more front line [] none (subst (λ all. IsLonger Change all (sent front)) (sym (append-nil (taken front))) follows)

  -- what a line takes came in time
  abbrev Steps : List Entry → List Entry → Entry → Type 0
  Steps front rest line =
      journal ≡ front ++ line ∷ rest → mixed number (front ++ line ∷ []) ≡ false → All IsTakenInTime (takings_in front (line ∷ [])) → Follows front
      → Follows (front ++ line ∷ [])

  took_here : (front rest : List Entry) (count llid : ℕ) (body : List ℕ) → Steps front rest (Took side number count llid body)
  took_here front rest count llid body is unmixed all follows = by (indication_in llid body) refl
    where
      here : takings_in front (Took side number count llid body ∷ []) ≡ taking_if (event_at front) (indication_in llid body) ++ []
      here = ap (λ lines. takings_from Peripheral (event_at front) (flat_map note_said lines))
          (named_here side number number (Took side number count llid body) (eq-eqb number number refl))

      by : (may : Option Indication) → indication_in llid body ≡ may → Follows (front ++ Took side number count llid body ∷ [])
      by None reads = follows_none front (Took side number count llid body) (here ∙ ap (λ m. taking_if (event_at front) m ++ []) reads) follows
      by (Some indication) reads =
          let taking = taking_of (event_at front) indication in
          let one : takings_in front (Took side number count llid body ∷ []) ≡ taking ∷ [] = here ∙ ap (λ m. taking_if (event_at front) m ++ []) reads in
          let came : IsTakenInTime taking = All-head IsTakenInTime taking []
          (All-same IsTakenInTime (taking ∷ []) (takings_in front (Took side number count llid body ∷ [])) (sym one) all) in
          follows_more front (Took side number count llid body) (taking ∷ []) one
          (record { more = []; is = sent_with front rest count llid body indication is unmixed reads (omega (arith, came)) follows ∙ sym (append-nil _) })

  steps : (front rest : List Entry) (line : Entry) → Steps front rest line
  steps front rest (Took other of count llid body) = by (own_or_not side other number of (Took other of count llid body))
    where
      by : ((other ≡ side) × (of ≡ number)) ⊎ (where_named side number (Some (other, of)) (Took other of count llid body) ≡ [])
          → Steps front rest (Took other of count llid body)
      by (inl same) = subst (Steps front rest) (λ i. Took (sym same.0 i) (sym same.1 i) count llid body) (took_here front rest count llid body)
      by (inr none) = λ is unmixed all follows. follows_none front (Took other of count llid body)
          (ap (λ lines. takings_from Peripheral (event_at front) (flat_map note_said (lines ++ []))) none) follows
  steps front rest line = λ is unmixed all follows. follows_none front line
      (either_named (λ lines. takings_from Peripheral (event_at front) (flat_map note_said lines) ≡ []) side number (link_named line) line refl refl) follows

  -- ---- all lines up to one

  follows_to : (whole tail front rest : List Entry) → journal ≡ whole ++ tail → mixed number whole ≡ false → whole ≡ front ++ rest
      → All IsTakenInTime (takings_in front rest) → Follows front → Follows whole
  follows_to whole tail front [] is unmixed parts all follows = subst Follows (sym (parts ∙ append-nil front)) follows
  follows_to whole tail front (line ∷ rest) is unmixed parts all follows =
      let said = notes_said side number (line ∷ []) in
      let more = takings_in front (line ∷ []) in
      let next = front ++ line ∷ [] in
      let event : event_at next ≡ fold event_after (event_at front) said =
      ap event_noted (said_more side number front (line ∷ [])) ∙ event_more (notes_said side number front) said in
      let later = takings_from Peripheral (fold event_after (event_at front) said) (notes_said side number rest) in
      let both : takings_in front (line ∷ rest) ≡ more ++ later =
      ap (takings_from Peripheral (event_at front)) (said_more side number (line ∷ []) rest)
      ∙ takings-append Peripheral (event_at front) said (notes_said side number rest) in
      let in_time = All-same IsTakenInTime (more ++ later) (takings_in front (line ∷ rest)) (sym both) all in
      let here = is ∙ ap (λ all. all ++ tail) parts ∙ append_assoc front (line ∷ rest) tail in
      let parts_then = parts ∙ sym (append_assoc front (line ∷ []) rest) in
      follows_to whole tail next rest is unmixed parts_then
      (subst (λ n. All IsTakenInTime (takings_from Peripheral n (notes_said side number rest))) (sym event) (rest_all IsTakenInTime more later in_time))
      (steps front (rest ++ tail) line here (stays number next rest (sym (ap (mixed number) parts_then) ∙ unmixed)) (first_all IsTakenInTime more later in_time) follows)

  pub follows_all : (whole tail : List Entry) → journal ≡ whole ++ tail → mixed number whole ≡ false
      → All IsTakenInTime (takings_noted Peripheral (notes_said side number whole)) → Follows whole
  follows_all whole tail is unmixed all = follows_to whole tail [] whole is unmixed refl all (record { more = sent []; is = refl })

-- ---- both ends

follows_as : (role : Role) (number : ℕ) (link : LinkBegun) (side : Side) (front : List Entry) → role_on link side ≡ role
    → IsLonger Change (indications_noted role (notes_said side number front)) (indications_sent number link front) → FollowsCentral number link side front
follows_as role number link side front is longer =
    let notes = notes_said side number front in
    front_first Change (applied_noted notes) (indications_noted (role_on link side) notes) (indications_sent number link front)
    (subst (λ r. IsLonger Change (indications_noted r (notes_said side number front)) (indications_sent number link front)) (sym is) longer)

own_central : (central side : Side) → role_by central side ≡ Central → central ≡ side
own_central A A is = refl
own_central B B is = refl
own_central A B is = absurd cc
own_central B A is = absurd cc

pub follow_in_order : (mixed : Mixed) (journal : List Entry) → StaysMixed mixed → AllDataArrives mixed journal → AllAreReadAsSent mixed journal
    → AllCameInTime journal → AllFollowCentral mixed journal
follow_in_order mixed journal stays arrives as_sent in_time front rest side number event channel link is unmixed is_link = by (role_on link side) refl
  where
    by : (role : Role) → role_on link side ≡ role → FollowsCentral number link side front
    by Central role =
        let same = own_central link.central side role in
        follows_as Central number link side front role (record {
          more = [];
          is = ap (λ s. indications_noted Central (notes_said s number front)) same ∙ sym (append-nil _);
        })
    by Peripheral role =
        let enters = Enter side number event channel ∷ rest in
        let whole = ap (link_numbered number) is ∙ number_stays number front enters link is_link in
        follows_as Peripheral number link side front role
        (follows_all mixed stays journal arrives as_sent number link whole side role front enters is unmixed (in_time front rest side number event channel link is is_link role))
