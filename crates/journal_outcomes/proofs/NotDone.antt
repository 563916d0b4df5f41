-- A peripheral is not done with a procedure that collided, by the laws of the lines of its journal.
use Rattle.std.proofs.Common.{◌≡◌, ◌⊎◌, inl, inr, ℕ, ◌+◌, ◌≤◌, ◌==◌, Bool, true, false, Option, Some, None, List, [], ◌∷◌, ◌++◌, refl, sym, ap, ◌∙◌, append_assoc, append-nil, arith, length-append}
use Rattle.std.specs.Prelude.{length, if◌then◌else◌}
use Rattle.std.proofs.lemmas.Bool.{eq-eqb, eqb-true}
use Rattle.std.proofs.lemmas.List.{append_cancel_left}
use Rattle.ble_base.specs.Side.{other_side}
use Rattle.ble_base.specs.declared.procedure_kinds.Kind.{Kind}
use Rattle.ble_base.specs.declared.procedure_kinds.Kind.TheVariants.{Features, Length, Map, Phy, Request, Update, Version, Encrypt}
use Rattle.ble_base.specs.declared.roles.Side.{Side}
use Rattle.ble_base.specs.declared.roles.Side.TheVariants.{A, B}
use Rattle.data_pdu.specs.Reading.{ctrl_of}
use Rattle.data_pdu.specs.declared.ctrl.Ctrl.TheVariants.{ConnectionParamReq, ConnectionUpdateInd, PhyReq, PhyUpdateInd}
use Rattle.data_pdu.specs.declared.ctrl.CtrlRead.{CtrlRead}
use Rattle.data_pdu.specs.declared.ctrl.CtrlRead.TheVariants.{Known}
use Rattle.journal.specs.declared.entries.Entry.{Entry}
use Rattle.journal.specs.declared.entries.Entry.TheVariants.{Done, Refused, Sent, Took}
use Rattle.procedure_stages.specs.Collisions.{collision_code}
use Rattle.procedure_values.specs.Asks.{is_same_kind}
use Rattle.journal_crossing.specs.journal_data.Delivered.{AllDataArrives}
use Rattle.journal_crossing.specs.journal_data.Followed.{Mixed, StaysMixed}
use Rattle.journal_crossing.specs.journal_links.Begun.{LinkBegun, link_numbered}
use Rattle.journal_crossing.specs.journal_links.LinkLines.{lines_of}
use Rattle.journal_crossing.proofs.journal_links.LinkLines.{lines_append, named_here}
use Rattle.journal_crossing.proofs.journal_links.LinksBegun.{number_stays}
use Rattle.journal_crossing.specs.journal_collisions.Collisions.{AllAreRefused, AllAreRejectedNext, Collides, IsRejection, IsTermination, SendsNothing, any_line, control_in, first_of, kind_begun}
use Rattle.journal_crossing.specs.Crossing.{AllControlsAreTaken, IsKnownControl, NoneIsTakenAfterTermination, count_sent, count_taken}
use Rattle.journal_outcomes.specs.Numbering.{AllAreNumbered}
use Rattle.journal_outcomes.specs.Done.{AllDoneAreAnswered, IsAnsweredIn, NoneIsDone, begins, ends, kind_completed}
use Rattle.journal_outcomes.proofs.PduPlaces.{HasLine, few_more, numbered, one_less, pdu_line, sent_in, sents, sents_are, sents_with, taken_at, taken_in, takens, takens_are, takens_with, took_first, was_sent}
use Rattle.journal_outcomes.proofs.SaidLines.{InFront, IsFirst, IsNext, FirstSent, NoneSent, OneSent, any_at, first_among, first_sent, said_first, said_later}
use Rattle.journal_outcomes.proofs.Splits.{After, Before, InOrder, Same, in_order}

-- ---- PDUs

record IsControl (llid : ℕ) (body : List ℕ) : Type 0 where
  llid_is : llid ≡ 3
  control : IsKnownControl llid body

known_begun : (llid : ℕ) (body : List ℕ) (q : Kind) (read : CtrlRead) → llid ≡ 3 → control_in llid body ≡ Some read → kind_begun (Some read) ≡ Some q → IsControl llid body
known_begun llid body q (Known (ConnectionParamReq min max latency timeout periodicity reference offsets)) three says is =
    record { llid_is = three; control = record { ctrl = ConnectionParamReq min max latency timeout periodicity reference offsets; is = says } }
known_begun llid body q (Known (PhyReq tx rx)) three says is = record { llid_is = three; control = record { ctrl = PhyReq tx rx; is = says } }
known_begun llid body q other three says is = absurd cc

known_completed : (llid : ℕ) (body : List ℕ) (q : Kind) (read : CtrlRead) → llid ≡ 3 → control_in llid body ≡ Some read → kind_completed (Some read) ≡ Some q → IsControl llid body
known_completed llid body q (Known (ConnectionUpdateInd win_size win_offset interval latency timeout instant)) three says is =
    record { llid_is = three; control = record { ctrl = ConnectionUpdateInd win_size win_offset interval latency timeout instant; is = says } }
known_completed llid body q (Known (PhyUpdateInd to_peripheral to_central instant)) three says is =
    record { llid_is = three; control = record { ctrl = PhyUpdateInd to_peripheral to_central instant; is = says } }
known_completed llid body q other three says is = absurd cc

none_known : (X : Type 0) (q : Kind) → None ≡ Some q → X
none_known X q is = absurd cc

control_by : (of : Option CtrlRead → Option Kind) → of None ≡ None → (llid : ℕ) (body : List ℕ) (q : Kind)
    → ((read : CtrlRead) → llid ≡ 3 → control_in llid body ≡ Some read → of (Some read) ≡ Some q → IsControl llid body)
    → of (control_in llid body) ≡ Some q → IsControl llid body
control_by of none llid body q known is = by (llid == 3) refl is
  where
    by : (b : Bool) → (llid == 3) ≡ b → of (if b then Some (ctrl_of body) else None) ≡ Some q → IsControl llid body
    by true three now = known (ctrl_of body) (eqb-true llid 3 three) (ap (λ (b : Bool). if b then Some (ctrl_of body) else None) three) now
    by false three now = none_known _ q (sym none ∙ now)

begun_control : (llid : ℕ) (body : List ℕ) (q : Kind) → kind_begun (control_in llid body) ≡ Some q → IsControl llid body
begun_control llid body q is = control_by kind_begun refl llid body q (known_begun llid body q) is

completed_control : (llid : ℕ) (body : List ℕ) (q : Kind) → kind_completed (control_in llid body) ≡ Some q → IsControl llid body
completed_control llid body q is = control_by kind_completed refl llid body q (known_completed llid body q) is

-- a rejection completes nothing, nor does LL_TERMINATE_IND
no_answer : (llid : ℕ) (body : List ℕ) (p q kind : Kind) (X : Type 0) → kind_completed (control_in llid body) ≡ Some kind
    → IsRejection p q llid body ⊎ IsTermination llid body → X
no_answer llid body p q kind X completes (inl rejected) = none_known X kind (sym (ap kind_completed rejected) ∙ completes)
no_answer llid body p q kind X completes (inr ends) = none_known X kind (sym (ap kind_completed ends.is) ∙ completes)

kind_itself : (kind : Kind) → is_same_kind kind kind ≡ true
kind_itself Update = refl
kind_itself Request = refl
kind_itself Map = refl
kind_itself Phy = refl
kind_itself Features = refl
kind_itself Version = refl
kind_itself Length = refl
kind_itself Encrypt = refl

-- ---- sides

twice : (side : Side) → other_side (other_side side) ≡ side
twice A = refl
twice B = refl

sides_differ : (side : Side) (X : Type 0) → side ≡ other_side side → X
sides_differ A X is = absurd cc
sides_differ B X is = absurd cc

abbrev side_in : Side → Entry → Side
side_in side (Took other number count llid body) = other
side_in side line = side

-- ---- the links of PDUs that are sent

-- the link with this number began before
pub record HasLink (number : ℕ) (front : List Entry) : Type 0 where
  pub link : LinkBegun
  pub is_link : link_numbered number front ≡ Some link

-- so did that of each PDU that is sent on a link of the journal
abbrev pub AllAreOnLinks : List Entry → Type 0
AllAreOnLinks journal = (front rest : List Entry) (side : Side) (link : LinkBegun) (number count llid : ℕ) (body : List ℕ)
    → journal ≡ front ++ Sent side number count llid body ∷ rest → link_numbered number journal ≡ Some link → HasLink number front

-- ---- one procedure that collided

-- more lines come after these and this one
record HasMore (before after : List Entry) (line : Entry) : Type 0 where
  mid : List Entry
  is : after ≡ before ++ line ∷ mid

module _ (mixed : Mixed) (stays : StaysMixed mixed) (journal : List Entry) (arrives : AllDataArrives mixed journal) (next : AllAreNumbered journal)
    (rejected : AllAreRejectedNext mixed journal) (refused : AllAreRefused mixed journal) (controls : AllControlsAreTaken mixed journal)
    (terminated : NoneIsTakenAfterTermination mixed journal)
    (linked : AllAreOnLinks journal) (answered : AllDoneAreAnswered journal) (front rest start between later : List Entry) (link : LinkBegun) (number count llid : ℕ)
    (body : List ℕ) (p q : Kind) where
  abbrev central : Side
  central = link.central

  abbrev peripheral : Side
  peripheral = other_side link.central

  -- the first PDU, as it is sent and as it is taken
  abbrev first_out : Entry
  first_out = Sent peripheral number count llid body

  abbrev first_in : Entry
  first_in = Took central number count llid body

  abbrev done : Entry
  done = Done peripheral number q

  module _ (is : journal ≡ front ++ first_in ∷ rest) (unmixed_taken : mixed number (front ++ first_in ∷ []) ≡ false) (collides : Collides front link number llid body p q)
      (at : journal ≡ start ++ first_out ∷ between ++ done ∷ later) (unmixed_done : mixed number (start ++ first_out ∷ between) ≡ false)
      (none : any_line (begins q) (lines_of peripheral number between) ≡ false) where
    is_link : link_numbered number journal ≡ Some link
    is_link = ap (link_numbered number) is ∙ number_stays number front (first_in ∷ rest) link collides.is_link

    answer : IsAnsweredIn peripheral number q between
    answer = answered start between later link number count llid body q at is_link collides.first none

    abbrev answer_in : Entry
    answer_in = Took peripheral number answer.count answer.llid answer.body

    abbrev answer_out : Entry
    answer_out = Sent central number answer.count answer.llid answer.body

    -- the entries before the answer is taken, and after it
    abbrev whole : List Entry
    whole = start ++ first_out ∷ answer.earlier

    abbrev tail : List Entry
    tail = answer.later ++ done ∷ later

    sent_at : journal ≡ start ++ first_out ∷ (between ++ done ∷ later)
    sent_at = at ∙ append_assoc start (first_out ∷ between) (done ∷ later)

    answer_at : journal ≡ whole ++ answer_in ∷ tail
    answer_at =
        sent_at ∙ ap (λ (xs : List Entry). start ++ first_out ∷ (xs ++ done ∷ later)) answer.is
        ∙ ap (λ (xs : List Entry). start ++ first_out ∷ xs) (append_assoc answer.earlier (answer_in ∷ answer.later) (done ∷ later))
        ∙ sym (append_assoc start (first_out ∷ answer.earlier) (answer_in ∷ tail))

    first_control : IsControl llid body
    first_control = begun_control llid body q collides.first

    answer_control : IsControl answer.llid answer.body
    answer_control = completed_control answer.llid answer.body q answer.completes

    -- ---- the link is not mixed before

    done_is : start ++ first_out ∷ between ≡ (whole ++ answer_in ∷ []) ++ answer.later
    done_is =
        ap (λ (xs : List Entry). start ++ first_out ∷ xs) answer.is ∙ sym (append_assoc start (first_out ∷ answer.earlier) (answer_in ∷ answer.later))
        ∙ sym (append_assoc whole (answer_in ∷ []) answer.later)

    unmixed_answer : mixed number (whole ++ answer_in ∷ []) ≡ false
    unmixed_answer = stays number (whole ++ answer_in ∷ []) answer.later (sym (ap (mixed number) done_is) ∙ unmixed_done)

    unmixed_whole : mixed number whole ≡ false
    unmixed_whole = stays number whole (answer_in ∷ []) unmixed_answer

    unmixed_front : mixed number front ≡ false
    unmixed_front = stays number front (first_in ∷ []) unmixed_taken

    -- before a front of the lines before the answer is taken
    unmixed_in : (few more : List Entry) → whole ≡ few ++ more → mixed number few ≡ false
    unmixed_in few more parts = stays number few more (sym (ap (mixed number) parts) ∙ unmixed_whole)

    -- ---- the first PDU is taken after it is sent

    was_first : HasLine first_out (sent_in peripheral number) front (takens central number front)
    was_first = was_sent mixed journal arrives number peripheral central (twice central) front rest count llid body is unmixed_taken

    -- it has its place among the PDUs of the link
    place : length (takens central number front) ≡ length (sents peripheral number start)
    place =
        let one = numbered journal next link peripheral number count llid body start (between ++ done ∷ later) sent_at is_link in
        let two = numbered journal next link peripheral number count llid body was_first.before (was_first.after ++ first_in ∷ rest)
        (is ∙ ap (λ (xs : List Entry). xs ++ first_in ∷ rest) was_first.is ∙ append_assoc was_first.before (first_out ∷ was_first.after) (first_in ∷ rest)) is_link in
        let same = ap (λ xs. length xs) was_first.earlier_are in
        omega (arith, one, two, same)

    sent_before : HasMore start front first_out
    sent_before = by (in_order front rest start (between ++ done ∷ later) first_in first_out (sym is ∙ sent_at))
      where
        by : InOrder front rest start (between ++ done ∷ later) first_in first_out → HasMore start front first_out
        by (Before mid more others) =
            let less = one_less (sent_in peripheral number) was_first.before front (pdu_line number count llid body) (sents peripheral number was_first.after)
            (ap (sents peripheral number) was_first.is ∙ sents_with peripheral number count llid body was_first.before was_first.after) in
            let grown = few_more (sent_in peripheral number) front (first_in ∷ mid) in
            let same = ap (λ xs. length xs) was_first.earlier_are in
            let long = ap (λ (xs : List Entry). length (sents peripheral number xs)) more in
            let here = place in
            absurd (omega (arith, less, grown, same, long, here))
        by (Same same) = absurd cc
        by (After mid more others) = record { mid = mid; is = more }

    -- ---- and the answer is taken after that

    counted_sent : (side : Side) (xs : List Entry) → count_sent number side xs ≡ length (sents side number xs)
    counted_sent side xs = ap (λ pdus. length pdus) (sents_are number side xs)

    counted_taken : (side : Side) (xs : List Entry) → count_taken number side xs ≡ length (takens side number xs)
    counted_taken side xs = ap (λ pdus. length pdus) (takens_are number side xs)

    -- the central took the first PDU before the peripheral took the answer
    crossed : length (sents peripheral number start) + 1 ≤ length (takens central number whole)
    crossed =
        let begun = linked start (between ++ done ∷ later) peripheral link number count llid body sent_at is_link in
        let taken = controls start answer.earlier tail begun.link peripheral number count answer.count answer.llid body answer.body
        (answer_at ∙ ap (λ n. start ++ Sent peripheral number count n body ∷ answer.earlier ++ answer_in ∷ tail) first_control.llid_is)
        (sym (ap (λ n. mixed number (start ++ Sent peripheral number count n body ∷ answer.earlier)) first_control.llid_is) ∙ unmixed_whole) begun.is_link
        answer_control.control in
        let three = ap (λ n. length (takens central number (start ++ Sent peripheral number count n body ∷ answer.earlier))) first_control.llid_is in
        let sent = counted_sent peripheral start in
        let same = ap (λ s. count_taken number s (start ++ Sent peripheral number count 3 body ∷ answer.earlier)) (twice central)
        ∙ counted_taken central (start ++ Sent peripheral number count 3 body ∷ answer.earlier) in
        omega (arith, taken, sent, same, three)

    taken_before : HasMore front whole first_in
    taken_before = by (in_order front rest whole tail first_in answer_in (sym is ∙ answer_at))
      where
        by : InOrder front rest whole tail first_in answer_in → HasMore front whole first_in
        by (Before mid more others) = record { mid = mid; is = more }
        by (Same same) = sides_differ central _ (ap (side_in central) same)
        by (After mid more others) =
            let taken = crossed in
            let grown = few_more (taken_in central number) whole (answer_in ∷ mid) in
            let long = ap (λ (xs : List Entry). length (takens central number xs)) more in
            let here = place in
            absurd (omega (arith, taken, grown, long, here))

    -- ---- the answer is sent after that

    was_answer : HasLine answer_out (sent_in central number) whole (takens peripheral number whole)
    was_answer = was_sent mixed journal arrives number central peripheral refl whole tail answer.count answer.llid answer.body answer_at unmixed_answer

    answer_after : HasMore front was_answer.before first_in
    answer_after = by (in_order front taken_before.mid was_answer.before was_answer.after first_in answer_out (sym taken_before.is ∙ was_answer.is))
      where
        by : InOrder front taken_before.mid was_answer.before was_answer.after first_in answer_out → HasMore front was_answer.before first_in
        by (Before mid more others) = record { mid = mid; is = more }
        by (Same same) = absurd cc
        by (After mid more others) =
            let out = Sent central number answer.count 3 answer.body in
            let before = was_answer.before in
            let at_out : journal ≡ before ++ out ∷ mid ++ first_in ∷ rest =
            is ∙ ap (λ (xs : List Entry). xs ++ first_in ∷ rest) more
            ∙ ap (λ n. before ++ Sent central number answer.count n answer.body ∷ mid ++ first_in ∷ rest) answer_control.llid_is in
            let begun = linked before (mid ++ first_in ∷ rest) central link number answer.count 3 answer.body
            (at_out ∙ append_assoc before (out ∷ mid) (first_in ∷ rest)) is_link in
            let unmixed_out =
            sym (ap (mixed number) (more ∙ ap (λ n. before ++ Sent central number answer.count n answer.body ∷ mid) answer_control.llid_is)) ∙ unmixed_front in
            let taken = controls before mid rest begun.link central number answer.count count llid answer.body body at_out unmixed_out begun.is_link
            first_control.control in
            let three = ap (λ (xs : List Entry). length (takens peripheral number xs)) more
            ∙ ap (λ n. length (takens peripheral number (before ++ Sent central number answer.count n answer.body ∷ mid))) answer_control.llid_is in
            let sent = counted_sent central before in
            let same = counted_taken peripheral (before ++ out ∷ mid) in
            let grown = few_more (taken_in peripheral number) front (first_in ∷ taken_before.mid) in
            let long = ap (λ (xs : List Entry). length (takens peripheral number xs)) taken_before.is in
            let here = ap (λ xs. length xs) was_answer.earlier_are in
            absurd (omega (arith, taken, three, sent, same, grown, long, here))

    -- ---- what the central sends next

    answer_out_at : journal ≡ was_answer.before ++ answer_out ∷ (was_answer.after ++ answer_in ∷ tail)
    answer_out_at =
        answer_at ∙ ap (λ (xs : List Entry). xs ++ answer_in ∷ tail) was_answer.is
        ∙ append_assoc was_answer.before (answer_out ∷ was_answer.after) (answer_in ∷ tail)

    -- it is not the answer
    not_answer : (X : Type 0) → SendsNothing central number answer_after.mid → X
    not_answer X nothing =
        no_answer answer.llid answer.body p q q X answer.completes
        (rejected front answer_after.mid (was_answer.after ++ answer_in ∷ tail) link number count llid body answer.count answer.llid answer.body p q
        (answer_out_at ∙ ap (λ (xs : List Entry). xs ++ answer_out ∷ (was_answer.after ++ answer_in ∷ tail)) answer_after.is)
        (unmixed_in (front ++ first_in ∷ answer_after.mid) (answer_out ∷ was_answer.after)
        (was_answer.is ∙ ap (λ (xs : List Entry). xs ++ answer_out ∷ was_answer.after) answer_after.is)) collides nothing)

    module _ (next_count next_llid : ℕ) (next_body : List ℕ) (mid others : List Entry)
        (next_is : answer_after.mid ≡ mid ++ Sent central number next_count next_llid next_body ∷ others) (nothing : SendsNothing central number mid) where
      abbrev next_out : Entry
      next_out = Sent central number next_count next_llid next_body

      abbrev next_in : Entry
      next_in = Took peripheral number next_count next_llid next_body

      -- the entries before it
      abbrev base : List Entry
      base = front ++ first_in ∷ mid

      before_answer : was_answer.before ≡ base ++ next_out ∷ others
      before_answer =
          answer_after.is ∙ ap (λ (xs : List Entry). front ++ first_in ∷ xs) next_is ∙ sym (append_assoc front (first_in ∷ mid) (next_out ∷ others))

      abbrev between_outs : List Entry
      between_outs = others ++ answer_out ∷ was_answer.after

      whole_is : whole ≡ base ++ next_out ∷ between_outs
      whole_is =
          was_answer.is ∙ ap (λ (xs : List Entry). xs ++ answer_out ∷ was_answer.after) before_answer
          ∙ append_assoc base (next_out ∷ others) (answer_out ∷ was_answer.after)

      next_at : journal ≡ base ++ next_out ∷ (between_outs ++ answer_in ∷ tail)
      next_at = answer_at ∙ ap (λ (xs : List Entry). xs ++ answer_in ∷ tail) whole_is ∙ append_assoc base (next_out ∷ between_outs) (answer_in ∷ tail)

      unmixed_base : mixed number base ≡ false
      unmixed_base = unmixed_in base (next_out ∷ between_outs) whole_is

      -- the peripheral took it before the answer
      was_next : HasLine next_in (taken_in peripheral number) whole (sents central number base)
      was_next =
          taken_at peripheral number next_count next_llid next_body whole (sents central number base) (sents central number others)
          (sym was_answer.earlier_are ∙ ap (sents central number) before_answer ∙ sents_with central number next_count next_llid next_body base others)

      next_after : HasMore base was_next.before next_out
      next_after = by (in_order base between_outs was_next.before was_next.after next_out next_in (sym whole_is ∙ was_next.is))
        where
          by : InOrder base between_outs was_next.before was_next.after next_out next_in → HasMore base was_next.before next_out
          by (Before mid more others) = record { mid = mid; is = more }
          by (Same same) = absurd cc
          by (After mid more others) =
              let less = one_less (taken_in peripheral number) was_next.before base (pdu_line number next_count next_llid next_body) (takens peripheral number mid)
              (ap (takens peripheral number) more ∙ takens_with peripheral number next_count next_llid next_body was_next.before mid) in
              let first = took_first mixed journal arrives number central peripheral refl base (next_out ∷ (between_outs ++ answer_in ∷ tail)) next_at unmixed_base in
              let parts = ap (λ xs. length xs) first.is ∙ length-append (takens peripheral number base) first.more in
              let here = ap (λ xs. length xs) was_next.earlier_are in
              absurd (omega (arith, less, parts, here))

      next_in_at : journal ≡ was_next.before ++ next_in ∷ was_next.after ++ answer_in ∷ tail
      next_in_at = answer_at ∙ ap (λ (xs : List Entry). xs ++ answer_in ∷ tail) was_next.is

      -- ---- LL_TERMINATE_IND

      not_over : (X : Type 0) → IsTermination next_llid next_body → X
      not_over X ends =
          let linked = ap (link_numbered number) (next_after.is ∙ append_assoc front (first_in ∷ mid) (next_out ∷ next_after.mid))
          ∙ number_stays number front (first_in ∷ (mid ++ next_out ∷ next_after.mid)) link collides.is_link in
          absurd (terminated was_next.before was_next.after tail link number next_count next_llid answer.count answer.llid next_body answer.body
          next_in_at (unmixed_in (was_next.before ++ next_in ∷ was_next.after) [] (was_next.is ∙ sym (append-nil _))) linked ends answer_control.control)

      -- ---- the rejection

      -- the lines of the peripheral after it takes what came next
      abbrev said : List Entry
      said = lines_of peripheral number was_next.after

      said_is : lines_of peripheral number (was_next.after ++ answer_in ∷ tail) ≡ said ++ answer_in ∷ lines_of peripheral number tail
      said_is =
          lines_append peripheral number was_next.after (answer_in ∷ tail)
          ∙ ap (λ (xs : List Entry). said ++ xs)
          (lines_append peripheral number (answer_in ∷ []) tail
          ∙ ap (λ (xs : List Entry). xs ++ lines_of peripheral number tail) (named_here peripheral number number answer_in (eq-eqb number number refl)))

      abbrev refusal : Entry
      refusal = Refused peripheral number q (collision_code p q)

      refused_first : IsRejection p q next_llid next_body → first_of (said ++ answer_in ∷ lines_of peripheral number tail) ≡ Some refusal
      refused_first rejection =
          sym (ap first_of said_is)
          ∙ refused front mid next_after.mid (was_next.after ++ answer_in ∷ tail) link number count llid body next_count next_llid next_body p q
          (next_in_at ∙ append_assoc was_next.before (next_in ∷ was_next.after) (answer_in ∷ tail)
          ∙ ap (λ (xs : List Entry). xs ++ next_in ∷ (was_next.after ++ answer_in ∷ tail)) next_after.is)
          (unmixed_in (base ++ next_out ∷ next_after.mid) (next_in ∷ was_next.after)
          (was_next.is ∙ ap (λ (xs : List Entry). xs ++ next_in ∷ was_next.after) next_after.is)) collides nothing rejection

      -- these lines are among those since the first PDU was sent
      abbrev earlier : List Entry
      earlier = sent_before.mid ++ first_in ∷ mid ++ next_out ∷ next_after.mid

      before_is : was_next.before ≡ start ++ first_out ∷ earlier
      before_is =
          next_after.is
          ∙ ap (λ (xs : List Entry). xs ++ next_out ∷ next_after.mid)
          (ap (λ (xs : List Entry). xs ++ first_in ∷ mid) sent_before.is ∙ append_assoc start (first_out ∷ sent_before.mid) (first_in ∷ mid))
          ∙ append_assoc start (first_out ∷ (sent_before.mid ++ first_in ∷ mid)) (next_out ∷ next_after.mid)

      earlier_is : answer.earlier ≡ earlier ++ next_in ∷ was_next.after
      earlier_is =
          let all : first_out ∷ answer.earlier ≡ first_out ∷ (earlier ++ next_in ∷ was_next.after) =
          append_cancel_left start (first_out ∷ answer.earlier) (first_out ∷ (earlier ++ next_in ∷ was_next.after))
          (was_next.is ∙ ap (λ (xs : List Entry). xs ++ next_in ∷ was_next.after) before_is
          ∙ append_assoc start (first_out ∷ earlier) (next_in ∷ was_next.after)) in
          cc

      ends_between : (others : List Entry) → said ≡ refusal ∷ others → any_line (ends q) (lines_of peripheral number between) ≡ true
      ends_between others is_first =
          let here = ap (any_line (ends q)) is_first ∙ any_at (ends q) [] others refusal (kind_itself q) in
          ap (λ (xs : List Entry). any_line (ends q) (lines_of peripheral number xs))
          (answer.is ∙ ap (λ (xs : List Entry). xs ++ answer_in ∷ answer.later) earlier_is)
          ∙ said_first (ends q) peripheral number (earlier ++ next_in ∷ was_next.after) (answer_in ∷ answer.later)
          (said_later (ends q) peripheral number earlier (next_in ∷ was_next.after) (said_later (ends q) peripheral number (next_in ∷ []) was_next.after here))

      not_rejected : (X : Type 0) → IsRejection p q next_llid next_body → X
      not_rejected X rejection = by (first_among said (lines_of peripheral number tail) answer_in refusal (refused_first rejection))
        where
          by : IsFirst said answer_in refusal → X
          by (InFront others is_first) =
              absurd (let both : true ≡ false = sym (ends_between others is_first) ∙ answer.goes_on in cc)
          by (IsNext same) = absurd cc

      nothing_next : (X : Type 0) → X
      nothing_next X =
          by (rejected front mid (between_outs ++ answer_in ∷ tail) link number count llid body next_count next_llid next_body p q next_at unmixed_base
          collides nothing)
        where
          by : IsRejection p q next_llid next_body ⊎ IsTermination next_llid next_body → X
          by (inl rejection) = not_rejected X rejection
          by (inr ends) = not_over X ends

    cannot_be : (X : Type 0) → X
    cannot_be X = by (first_sent central number answer_after.mid)
      where
        by : FirstSent central number answer_after.mid → X
        by (NoneSent nothing) = not_answer X nothing
        by (OneSent next_count next_llid next_body mid others next_is nothing) = nothing_next next_count next_llid next_body mid others next_is nothing X

  begun_between : journal ≡ front ++ first_in ∷ rest → mixed number (front ++ first_in ∷ []) ≡ false → Collides front link number llid body p q
      → journal ≡ start ++ first_out ∷ between ++ done ∷ later → mixed number (start ++ first_out ∷ between) ≡ false → any_line (begins q) (lines_of peripheral number between) ≡ true
  begun_between is unmixed_taken collides at unmixed_done = by (any_line (begins q) (lines_of peripheral number between)) refl
    where
      by : (b : Bool) → any_line (begins q) (lines_of peripheral number between) ≡ b → any_line (begins q) (lines_of peripheral number between) ≡ true
      by true begun = begun
      by false none = cannot_be is unmixed_taken collides at unmixed_done none _

pub none_done : (mixed : Mixed) → StaysMixed mixed → (journal : List Entry) → AllDataArrives mixed journal → AllAreNumbered journal
    → AllAreRejectedNext mixed journal → AllAreRefused mixed journal → AllControlsAreTaken mixed journal → NoneIsTakenAfterTermination mixed journal
    → AllAreOnLinks journal → AllDoneAreAnswered journal → NoneIsDone mixed journal
none_done mixed stays journal arrives next rejected refused controls terminated linked answered front rest start between later link number count llid body p q
    is unmixed_taken collides at unmixed_done =
    begun_between mixed stays journal arrives next rejected refused controls terminated linked answered front rest start between later link number count llid body p q
    is unmixed_taken collides at unmixed_done
