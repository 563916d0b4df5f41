-- What a call on one side of a link keeps of both sides.
use Rattle.std.proofs.Common.{◌≡◌, ℕ, zero, suc, ◌+◌, ◌<◌, ◌≤◌, ◌==◌, ◌⊎◌, inl, inr, arith, Bool, true, false, Option, Some, None, List, [], length, take, refl, sym, ap, subst, ◌∙◌, append-nil}
use Rattle.std.specs.Prelude.{◌≢◌}
use Rattle.std.specs.List.{filter, flat_map}
use Rattle.std.proofs.lemmas.Bool.{eqb-true, eqb-false}
use Rattle.acl_banks.specs.Packets.{Marked}
use Rattle.ack_bit.specs.Nonempty.{nonempty}
use Rattle.journal_acks.specs.link_model.Acknowledgement.{Acknowledgement}
use Rattle.journal_acks.specs.link_model.Data.{data_in, data_of, is_empty}
use Rattle.journal_acks.specs.link_model.Delivery.{IsInOrder}
use Rattle.journal_acks.specs.link_model.Facts.{Facts as EndFacts}
use Rattle.journal_acks.specs.link_model.OneLink.{AreInAgreement}
use Rattle.journal_data.specs.Lines.{Lines, PduLine, accepted_on, data_on, pdus_on, submitted_on}
use Rattle.journal_data.specs.HostLines.{has_octets}
use Rattle.journal_data.specs.Delivered.{ArrivesInOrder}
use Rattle.journal_data.proofs.Arriving.{Arrives, Grows, IsAhead, IsEndBooked, both_open, from_alone, to_alone}
use Rattle.journal_data.proofs.Middle.{IsFed, from_fed, to_fed}

-- ---- the ends of a side

-- the number of an open link, what the end holds, and the data that its host has not received
pub record End : Type 0 where
  pub link : ℕ
  pub facts : EndFacts
  pub waiting : List Marked

pub record IsSound (end : End) (lines : Lines) : Type 0 where
  pub booked : IsEndBooked end.link lines end.facts end.waiting
  pub order : IsInOrder end.facts
  pub one_out : length end.facts.acknowledgement.sent ≤ end.facts.acknowledgement.acked + 1

-- the ends of a side, by handle: one of them is of this link, or none is
pub data IsFound (ends : ℕ → Option End) (link : ℕ) : Type 0 where
  Here : (handle : ℕ) (end : End) → ends handle ≡ Some end → end.link ≡ link → IsFound ends link
  Nowhere : ((handle : ℕ) (end : End) → ends handle ≡ Some end → end.link ≢ link) → IsFound ends link

abbrev NoneBelow : ℕ → (ℕ → Option End) → ℕ → Type 0
NoneBelow many ends link = (handle : ℕ) (end : End) → handle < many → ends handle ≡ Some end → end.link ≢ link

one_above : (handle many : ℕ) → handle < suc many → (handle == many) ≡ false → handle < many
one_above handle many below differs = grind (arith, below, differs)

find_end : (many : ℕ) (ends : ℕ → Option End) (link : ℕ) → IsFound ends link ⊎ NoneBelow many ends link
find_end zero ends link = inr (λ handle end below is. absurd (omega (arith, below)))
find_end (suc many) ends link = by (ends many) refl (find_end many ends link)
  where
    none_at : (place : Option End) → ends many ≡ place → ((end : End) → place ≡ Some end → end.link ≢ link) → NoneBelow many ends link → NoneBelow (suc many) ends link
    none_at place is none below = λ handle end few at. here handle end few at (handle == many) refl
      where
        here : (handle : ℕ) (end : End) → handle < suc many → ends handle ≡ Some end → (same : Bool) → (handle == many) ≡ same → end.link ≢ link
        here handle end few at true same = none end (sym is ∙ ap ends (sym (eqb-true handle many same)) ∙ at)
        here handle end few at false differs = below handle end (one_above handle many few differs) at

    by_link : (end : End) (same : Bool) → ends many ≡ Some end → (end.link == link) ≡ same → NoneBelow many ends link → IsFound ends link ⊎ NoneBelow (suc many) ends link
    by_link end true is same below = inl (Here many end is (eqb-true end.link link same))
    by_link end false is differs below =
        inr (none_at (Some end) is (λ other equal. let one : Some end ≡ Some other = equal in let e : end ≡ other = cc in
        subst (λ (x : End). x.link ≢ link) e (eqb-false end.link link differs)) below)

    by : (place : Option End) → ends many ≡ place → IsFound ends link ⊎ NoneBelow many ends link → IsFound ends link ⊎ NoneBelow (suc many) ends link
    by place is (inl found) = inl found
    by None is (inr below) = inr (none_at None is (λ end equal. absurd (let h : None ≡ Some end = equal in absurd cc)) below)
    by (Some end) is (inr below) = by_link end (end.link == link) is refl below

-- where all ends are under handles below a number, one of the two holds
pub found : (many : ℕ) (ends : ℕ → Option End) (link : ℕ) → ((handle : ℕ) (end : End) → ends handle ≡ Some end → handle < many) → IsFound ends link
found many ends link few = by (find_end many ends link)
  where
    by : IsFound ends link ⊎ NoneBelow many ends link → IsFound ends link
    by (inl is) = is
    by (inr below) = Nowhere (λ handle end at. below handle end (few handle end at) at)

-- what is acknowledged to these ends of the links that are followed, the lines took
abbrev pub AreAhead : (ℕ → Type 0) → (ℕ → Option End) → Lines → Type 0
AreAhead Followed ends lines =
    (handle : ℕ) (end : End) → ends handle ≡ Some end → Followed end.link → IsAhead end.link end.facts.acknowledgement lines

-- both directions of all links that are followed, and what is acknowledged to their open ends
pub record AreArriving (Followed : ℕ → Type 0) (one other : Lines) (own peer : ℕ → Option End) : Type 0 where
  pub out : (link : ℕ) → Followed link → ArrivesInOrder link one other
  pub in_ : (link : ℕ) → Followed link → ArrivesInOrder link other one
  pub ahead : AreAhead Followed own other
  pub behind : AreAhead Followed peer one

-- a link that is followed after a step was followed before it
abbrev pub IsStillFollowed : (ℕ → Type 0) → (ℕ → Type 0) → Type 0
IsStillFollowed Before After = (link : ℕ) → After link → Before link

-- of fewer links
pub still_arriving : (Before After : ℕ → Type 0) → IsStillFollowed Before After → (one other : Lines) (own peer : ℕ → Option End)
    → AreArriving Before one other own peer → AreArriving After one other own peer
still_arriving Before After still one other own peer arriving = record {
  out = λ link now. arriving.out link (still link now);
  in_ = λ link now. arriving.in_ link (still link now);
  ahead = λ handle end is now. arriving.ahead handle end is (still end.link now);
  behind = λ handle end is now. arriving.behind handle end is (still end.link now);
}

-- ---- a link of which the lines say nothing more but what its host submits

ahead_fed : (link : ℕ) (ack : Acknowledgement) (before after : Lines) → IsFed link before after → IsAhead link ack before → IsAhead link ack after
ahead_fed link ack before after fed ahead =
    let took : accepted_on link after ≡ accepted_on link before = ap (flat_map (λ (one : PduLine). data_in one.pdu)) fed.taken in
    record {
      pdus = subst (λ pdus. length (nonempty is_empty (take ack.acked ack.sent)) ≤ length pdus) (sym fed.taken) ahead.pdus;
      octets = subst (λ octets. length (data_of (take ack.acked ack.sent)) ≤ length octets) (sym took) ahead.octets;
    }

-- what is acknowledged to its own ends does not grow, or they are gone
pub idle_arrives : (Before After : ℕ → Type 0) → IsStillFollowed Before After → (before after other : Lines) (own then_own peer : ℕ → Option End)
    → ((link : ℕ) → IsFed link before after) → AreAhead After then_own other
    → AreArriving Before before other own peer → AreArriving After after other then_own peer
idle_arrives Before After still before after other own then_own peer fed ahead arriving = record {
  out = λ link now. from_fed link before after other (fed link) (arriving.out link (still link now));
  in_ = λ link now. to_fed link before after other (fed link) (arriving.in_ link (still link now));
  ahead = ahead;
  behind = λ handle end is now.
      ahead_fed end.link end.facts.acknowledgement before after (fed end.link) (arriving.behind handle end is (still end.link now));
}

-- ---- a link that changes

-- where the other side has an open end of the same link, both are in agreement; else nothing is taken, and no more is
-- acknowledged than the other side took. So it is of a link that is followed
pub record IsBusy (before after other : Lines) (end : End) (peer : ℕ → Option End) : Type 0 where
  pub sound : IsSound end after
  pub sends : Grows (pdus_on end.link before.sent) (pdus_on end.link after.sent)
  pub submits : submitted_on end.link after ≡ submitted_on end.link before
  pub both : (handle : ℕ) (far : End) → peer handle ≡ Some far → far.link ≡ end.link
      → IsSound far other × AreInAgreement end.facts.acknowledgement far.facts.acknowledgement × AreInAgreement far.facts.acknowledgement end.facts.acknowledgement
  pub alone : ((handle : ℕ) (far : End) → peer handle ≡ Some far → far.link ≢ end.link)
      → (pdus_on end.link after.taken ≡ pdus_on end.link before.taken) × IsAhead end.link end.facts.acknowledgement other

-- both directions of it, and what is acknowledged to its ends
record Arrived (link : ℕ) (after other : Lines) (ack : Acknowledgement) (peer : ℕ → Option End) : Type 0 where
  out : ArrivesInOrder link after other
  in_ : ArrivesInOrder link other after
  ahead : IsAhead link ack other
  behind : (handle : ℕ) (far : End) → peer handle ≡ Some far → far.link ≡ link → IsAhead link far.facts.acknowledgement after

module _ (Before : ℕ → Type 0) (before after other : Lines) (own : ℕ → Option End) (end : End) (peer : ℕ → Option End)
    (busy : IsBusy before after other end peer) (was : Before end.link) (arriving : AreArriving Before before other own peer) where
  -- an end of it is open at the other side
  module _ (handle : ℕ) (far : End) (is : peer handle ≡ Some far) (same : far.link ≡ end.link) where
    one_link : IsEndBooked end.link other far.facts far.waiting
    one_link = subst (λ n. IsEndBooked n other far.facts far.waiting) same (busy.both handle far is same).0.booked

    out_both : Arrives end.link after other end.facts.acknowledgement
    out_both = both_open end.link after other end.facts far.facts end.waiting far.waiting busy.sound.booked one_link busy.sound.order (busy.both handle far is same).1

    in_both : Arrives end.link other after far.facts.acknowledgement
    in_both = both_open end.link other after far.facts end.facts far.waiting end.waiting one_link busy.sound.booked (busy.both handle far is same).0.order (busy.both handle far is same).2

  -- the other side has no open end of it
  module _ (none : (handle : ℕ) (far : End) → peer handle ≡ Some far → far.link ≢ end.link) where
    data_same : Grows (data_on end.link before) (data_on end.link after)
    data_same = record { more = []; is = ap (filter has_octets) busy.submits ∙ sym (append-nil (data_on end.link before)) }

    arrived_alone : Arrived end.link after other end.facts.acknowledgement peer
    arrived_alone = record {
      out = from_alone end.link before after other end.facts end.waiting (arriving.out end.link was) busy.sound.booked busy.sound.order busy.sound.one_out
          (busy.alone none).1 busy.sends data_same;
      in_ = to_alone end.link other before after end.facts end.waiting (arriving.in_ end.link was) busy.sound.booked (busy.alone none).0;
      ahead = (busy.alone none).1;
      behind = λ handle far is same. absurd (none handle far is same);
    }

  arrived : IsFound peer end.link → Arrived end.link after other end.facts.acknowledgement peer
  arrived (Here handle far is same) = record {
    out = (out_both handle far is same).arrives;
    in_ = (in_both handle far is same).arrives;
    ahead = (out_both handle far is same).ahead;
    behind = λ one too is_too same_too. (in_both one too is_too same_too).ahead;
  }
  arrived (Nowhere none) = arrived_alone none

-- ---- a call of a side

-- each link of which it has an open end changes so where it is followed, and of the others nothing is said
pub call_arrives : (Before After : ℕ → Type 0) → IsStillFollowed Before After → (before after other : Lines) (own then_own peer : ℕ → Option End)
    → ((link : ℕ) → IsFound then_own link) → ((link : ℕ) → IsFound peer link)
    → ((handle : ℕ) (end : End) → then_own handle ≡ Some end → After end.link → IsBusy before after other end peer)
    → ((link : ℕ) → ((handle : ℕ) (end : End) → then_own handle ≡ Some end → end.link ≢ link) → IsFed link before after)
    → AreArriving Before before other own peer → AreArriving After after other then_own peer
call_arrives Before After still before after other own then_own peer finds peer_finds busy fed arriving = record {
  out = λ link now. out_by link now (finds link);
  in_ = λ link now. in_by link now (finds link);
  ahead = λ handle end is now. (one handle end is now).ahead;
  behind = λ handle far is now. behind_by handle far is now (finds far.link);
}
  where
    one : (handle : ℕ) (end : End) → then_own handle ≡ Some end → After end.link → Arrived end.link after other end.facts.acknowledgement peer
    one handle end is now = arrived Before before after other own end peer (busy handle end is now) (still end.link now) arriving (peer_finds end.link)

    out_by : (link : ℕ) → After link → IsFound then_own link → ArrivesInOrder link after other
    out_by link now (Here handle end is same) = subst (λ n. ArrivesInOrder n after other) same (one handle end is (subst After (sym same) now)).out
    out_by link now (Nowhere none) = from_fed link before after other (fed link none) (arriving.out link (still link now))

    in_by : (link : ℕ) → After link → IsFound then_own link → ArrivesInOrder link other after
    in_by link now (Here handle end is same) = subst (λ n. ArrivesInOrder n other after) same (one handle end is (subst After (sym same) now)).in_
    in_by link now (Nowhere none) = to_fed link before after other (fed link none) (arriving.in_ link (still link now))

    behind_by : (handle : ℕ) (far : End) → peer handle ≡ Some far → After far.link → IsFound then_own far.link
        → IsAhead far.link far.facts.acknowledgement after
    behind_by handle far is now (Here own_handle end at same) =
        subst (λ n. IsAhead n far.facts.acknowledgement after) same
        ((one own_handle end at (subst After (sym same) now)).behind handle far is (sym same))
    behind_by handle far is now (Nowhere none) =
        ahead_fed far.link far.facts.acknowledgement before after (fed far.link none) (arriving.behind handle far is (still far.link now))
