-- What holds of both sides of a link before a call and after it, holds in the middle of its notes.
use Rattle.std.proofs.Common.{◌≡◌, ℕ, ◌+◌, ◌-◌, ◌≤◌, ◌⊎◌, inl, inr, nat_lt, not, Bool, true, false, List, [], ◌∷◌, ◌++◌, length, take, sym, ap, subst, ◌∙◌, arith, if◌then◌else◌}
use Rattle.std.specs.List.{filter, flat_map}
use Rattle.std.proofs.Math.Seq.{take-append_seam}
use Rattle.std.proofs.lemmas.List.Concat.{flat_map-append}
use Rattle.std.proofs.lemmas.List.Elements.{filter-append}
use Rattle.std.proofs.lemmas.List.{length-append}
use Rattle.acl_banks.specs.History.{HostData, octets_of, whole_packets}
use Rattle.journal_acks.specs.link_model.Data.{data_in}
use Rattle.journal_acks.proofs.link_model.Taking.{more_whole, take_less}
use Rattle.journal_data.specs.HostLines.{has_octets}
use Rattle.journal_data.specs.Lines.{Lines, PduLine, accepted_on, credited_on, data_on, empties_on, pdus_on, received_on, submitted_on}
use Rattle.journal_data.specs.Delivered.{ArrivesInOrder}
use Rattle.journal_data.proofs.Arriving.{Grows, grown_take, octets_grow}

-- ---- growth

fits_in : {A : Type 0} (before after : List A) → Grows before after → length before ≤ length after
fits_in before after grows = let parts = ap length grows.is ∙ length-append before grows.more in omega (arith, parts)

first_of : {A : Type 0} (before after : List A) → Grows before after → before ≡ take (length before) after
first_of before after grows = sym (take-append_seam before grows.more) ∙ ap (take (length before)) (sym grows.is)

-- the front of a front
front_front : {A : Type 0} (mid after whole : List A) → Grows mid after → after ≡ take (length after) whole → mid ≡ take (length mid) whole
front_front mid after whole grows is =
    first_of mid after grows ∙ ap (take (length mid)) is ∙ take_less (length mid) (length after) whole (fits_in mid after grows)

grown_front : {A : Type 0} (front before after : List A) → Grows before after → front ≡ take (length front) before → front ≡ take (length front) after
grown_front front before after grows is = grown_take front before grows.more is ∙ ap (take (length front)) (sym grows.is)

data_grows : (before after : List PduLine) → Grows before after
    → Grows (flat_map (λ (one : PduLine). data_in one.pdu) before) (flat_map (λ (one : PduLine). data_in one.pdu) after)
data_grows before after grows = record {
  more = flat_map (λ (one : PduLine). data_in one.pdu) grows.more;
  is = ap (flat_map (λ (one : PduLine). data_in one.pdu)) grows.is ∙ flat_map-append (λ (one : PduLine). data_in one.pdu) before grows.more;
}

-- ---- the middle of a call of one side

pub record IsBetween (link : ℕ) (before mid after : Lines) : Type 0 where
  pub sent : Grows (pdus_on link before.sent) (pdus_on link mid.sent)
  pub sent_then : Grows (pdus_on link mid.sent) (pdus_on link after.sent)
  pub taken : Grows (pdus_on link before.taken) (pdus_on link mid.taken)
  pub taken_then : Grows (pdus_on link mid.taken) (pdus_on link after.taken)
  pub received : Grows (received_on link before) (received_on link mid)
  pub received_then : Grows (received_on link mid) (received_on link after)
  pub credited : credited_on link mid ≤ credited_on link after
  pub submitted : submitted_on link mid ≡ submitted_on link before
  pub submitted_then : submitted_on link after ≡ submitted_on link mid
  -- a call that notes PDUs hands up no data
  pub one_kind : (pdus_on link after.taken ≡ pdus_on link mid.taken) ⊎ (received_on link mid ≡ received_on link before)

module _ (link : ℕ) (before mid after other : Lines) (between : IsBetween link before mid after) where
  -- the side that notes sends
  pub from_middle : ArrivesInOrder link before other → ArrivesInOrder link after other → ArrivesInOrder link mid other
  from_middle start end =
      let fewer = fits_in (pdus_on link mid.sent) (pdus_on link after.sent) between.sent_then in
      let most = end.reliable.at_most_one_ahead in
      let credits = end.delivered.credited in
      let less = between.credited in
      let packets : data_on link mid ≡ data_on link before = ap (filter has_octets) between.submitted in
      let counted : empties_on link after + whole_packets (data_on link after) (length (accepted_on link other))
      ≡ empties_on link mid + whole_packets (data_on link mid) (length (accepted_on link other)) =
      (λ i. length (filter (λ (packet : HostData). not (has_octets packet)) (between.submitted_then i)) + whole_packets (filter has_octets (between.submitted_then i)) (length (accepted_on link other))) in
      record {
        reliable = record {
          in_order = grown_front (pdus_on link other.taken) (pdus_on link before.sent) (pdus_on link mid.sent) between.sent start.reliable.in_order;
          at_most_one_ahead = omega (arith, fewer, most);
        };
        delivered = record {
          received = start.delivered.received;
          accepted = start.delivered.accepted ∙ ap (λ given. take (length (accepted_on link other)) (octets_of given)) (sym packets);
          credited = omega (arith, credits, less, counted);
        };
      }

  received_middle : (pdus_on link after.taken ≡ pdus_on link mid.taken) ⊎ (received_on link mid ≡ received_on link before) → ArrivesInOrder link other before
      → ArrivesInOrder link other after → received_on link mid ≡ take (length (received_on link mid)) (accepted_on link mid)
  received_middle (inl same) start end =
      front_front (received_on link mid) (received_on link after) (accepted_on link mid) between.received_then
      (end.delivered.received ∙ ap (λ pdus. take (length (received_on link after)) (flat_map (λ (one : PduLine). data_in one.pdu) pdus)) same)
  received_middle (inr same) start end =
      same ∙ grown_front (received_on link before) (accepted_on link before) (accepted_on link mid)
      (data_grows (pdus_on link before.taken) (pdus_on link mid.taken) between.taken) start.delivered.received
      ∙ ap (λ n. take n (accepted_on link mid)) (sym (ap length same))

  -- the side that notes takes
  pub to_middle : ArrivesInOrder link other before → ArrivesInOrder link other after → ArrivesInOrder link other mid
  to_middle start end =
      let more = fits_in (pdus_on link before.taken) (pdus_on link mid.taken) between.taken in
      let most = start.reliable.at_most_one_ahead in
      let octets = fits_in (accepted_on link before) (accepted_on link mid) (data_grows (pdus_on link before.taken) (pdus_on link mid.taken) between.taken) in
      let credits = start.delivered.credited in
      let whole = more_whole (data_on link other) (length (accepted_on link before)) (length (accepted_on link mid)) octets in
      record {
        reliable = record {
          in_order = front_front (pdus_on link mid.taken) (pdus_on link after.taken) (pdus_on link other.sent) between.taken_then end.reliable.in_order;
          at_most_one_ahead = omega (arith, more, most);
        };
        delivered = record {
          received = received_middle between.one_kind start end;
          accepted = front_front (accepted_on link mid) (accepted_on link after) (octets_of (data_on link other))
              (data_grows (pdus_on link mid.taken) (pdus_on link after.taken) between.taken_then) end.delivered.accepted;
          credited = omega (arith, credits, whole);
        };
      }

-- ---- octets are fed

whole_grows : (packets more : List HostData) (count : ℕ) → whole_packets packets count ≤ whole_packets (packets ++ more) count
whole_grows [] more count = omega arith
whole_grows (packet ∷ packets) more count = by (nat_lt count (length packet.body)) (whole_grows packets more (count - length packet.body))
  where
    by : (short : Bool) → whole_packets packets (count - length packet.body) ≤ whole_packets (packets ++ more) (count - length packet.body)
        → (if short then 0 else 1 + whole_packets packets (count - length packet.body)) ≤ (if short then 0 else 1 + whole_packets (packets ++ more) (count - length packet.body))
    by true less = omega arith
    by false less = omega (arith, less)

-- its host submits further packets, and is credited for some of those without octets
pub record IsFed (link : ℕ) (before after : Lines) : Type 0 where
  pub sent : pdus_on link after.sent ≡ pdus_on link before.sent
  pub taken : pdus_on link after.taken ≡ pdus_on link before.taken
  pub received : received_on link after ≡ received_on link before
  pub credited : credited_on link after + empties_on link before ≤ credited_on link before + empties_on link after
  pub submitted : Grows (submitted_on link before) (submitted_on link after)

module _ (link : ℕ) (before after other : Lines) (fed : IsFed link before after) where
  pub from_fed : ArrivesInOrder link before other → ArrivesInOrder link after other
  from_fed start =
      let test = λ (packet : HostData). not (has_octets packet) in
      let accepted = length (accepted_on link other) in
      let packets : data_on link after ≡ data_on link before ++ filter has_octets fed.submitted.more =
      ap (filter has_octets) fed.submitted.is ∙ filter-append has_octets (submitted_on link before) fed.submitted.more in
      let empties : empties_on link after ≡ empties_on link before + length (filter test fed.submitted.more) =
      ap (λ all. length (filter test all)) fed.submitted.is ∙ ap length (filter-append test (submitted_on link before) fed.submitted.more)
      ∙ length-append (filter test (submitted_on link before)) (filter test fed.submitted.more) in
      let whole = whole_grows (data_on link before) (filter has_octets fed.submitted.more) accepted in
      let same : whole_packets (data_on link after) accepted ≡ whole_packets (data_on link before ++ filter has_octets fed.submitted.more) accepted =
      ap (λ given. whole_packets given accepted) packets in
      let credits = start.delivered.credited in
      let counted = fed.credited in
      record {
        reliable = record {
          in_order = start.reliable.in_order ∙ ap (take (length (pdus_on link other.taken))) (sym fed.sent);
          at_most_one_ahead = subst (λ pdus. length pdus ≤ length (pdus_on link other.taken) + 1) (sym fed.sent) start.reliable.at_most_one_ahead;
        };
        delivered = record {
          received = start.delivered.received;
          accepted = grown_take (accepted_on link other) (octets_of (data_on link before)) (octets_of (filter has_octets fed.submitted.more)) start.delivered.accepted
              ∙ ap (take accepted) (sym (octets_grow (data_on link before) (filter has_octets fed.submitted.more)) ∙ ap octets_of (sym packets));
          credited = omega (arith, credits, counted, empties, whole, same);
        };
      }

  pub to_fed : ArrivesInOrder link other before → ArrivesInOrder link other after
  to_fed start =
      let took : accepted_on link after ≡ accepted_on link before = ap (flat_map (λ (one : PduLine). data_in one.pdu)) fed.taken in
      record {
        reliable = record {
          in_order = fed.taken ∙ start.reliable.in_order ∙ ap (λ n. take n (pdus_on link other.sent)) (sym (ap length fed.taken));
          at_most_one_ahead = subst (λ pdus. length (pdus_on link other.sent) ≤ length pdus + 1) (sym fed.taken) start.reliable.at_most_one_ahead;
        };
        delivered = record {
          received = fed.received ∙ start.delivered.received ∙ (λ i. take (length (sym fed.received i)) (sym took i));
          accepted = took ∙ start.delivered.accepted ∙ ap (λ n. take n (octets_of (data_on link other))) (sym (ap length took));
          credited = subst (λ octets. credited_on link other ≤ empties_on link other + whole_packets (data_on link other) (length octets)) (sym took) start.delivered.credited;
        };
      }
