-- A run of exchanges of lengths is, without the values and the data, a run of an exchange.
use Rattle.std.proofs.Common.{◌≡◌, ◌⊎◌, inl, inr, ℕ, Bool, true, false, ◌&&◌, List, [], ◌∷◌, ◌++◌, map, drop, Option, Some, None, is_some, is_none, if◌then◌else◌, refl, ap, sym, ◌∙◌, subst}
use Rattle.std.proofs.lemmas.Bool.{and_parts}
use Rattle.ble_base.specs.declared.roles.Role.{Role}
use Rattle.ble_base.specs.declared.roles.Role.TheVariants.{Central, Peripheral}
use Rattle.machines.specs.Machine.{run, run_from, step}
use Rattle.exchange_pairs.specs.Exchange.{ExchangeEnd, ExchangePdu, ExchangeStage, Answer, Idle, Question, Sent, Unsent, is_question}
use Rattle.exchange_pairs.specs.Exchange
use Rattle.exchange_pairs.specs.ExchangeRun.{ExchangeEvent, ExchangeLink, exchanges}
use Rattle.exchange_pairs.specs.ExchangeRun
use Rattle.exchange_pairs.specs.Lengths
use Rattle.exchange_pairs.specs.Lengths.{LengthEnd, LengthPdu, begun, first_of, queued, sent, taken, taken_as}
use Rattle.exchange_pairs.specs.LengthPart.{exchange_end, exchange_link, exchange_way}
use Rattle.exchange_pairs.specs.LengthRun.{LengthEvent, LengthLink, LengthWay, Accepts, Begins, Closes, Control, Data, Keeps, Limits, Sends, SendsData, Takes, TakesKept, act, central_keeps, central_takes_kept, end_of, end_sends, end_takes, is_question_way, length_exchanges, may, start, way_from, way_to}

-- ---- one end

pdus_more : (queue : List LengthPdu) (pdu : LengthPdu) → map (λ (x : LengthPdu). x.pdu) (queue ++ pdu ∷ []) ≡ map (λ (x : LengthPdu). x.pdu) queue ++ pdu.pdu ∷ []
pdus_more [] pdu = refl
pdus_more (first ∷ queue) pdu = ap (λ rest. first.pdu ∷ rest) (pdus_more queue pdu)

queued_end : (pdu : ExchangePdu) (e : LengthEnd) → exchange_end (queued pdu e) ≡ Exchange.queued pdu (exchange_end e)
queued_end pdu e = by e.closed refl
  where
    by : (b : Bool) → e.closed ≡ b → exchange_end (queued pdu e) ≡ Exchange.queued pdu (exchange_end e)
    by true is = rw is refl
    by false is = rw is (λ i. record (exchange_end e) { queue = pdus_more e.queue (Lengths.length_pdu pdu e.lengths) i; closed = false })

sent_end : (pdu : LengthPdu) (e : LengthEnd) → exchange_end (sent pdu e) ≡ Exchange.sent pdu.pdu (exchange_end e)
sent_end pdu e = λ i. record (exchange_end (sent pdu e)) { queue = by e.queue i }
  where
    by : (queue : List LengthPdu) → map (λ (x : LengthPdu). x.pdu) (drop 1 queue) ≡ drop 1 (map (λ (x : LengthPdu). x.pdu) queue)
    by [] = refl
    by (first ∷ queue) = refl

taken_end : (pdu : LengthPdu) (e : LengthEnd) → exchange_end (taken pdu e) ≡ Exchange.taken pdu.pdu (exchange_end e)
taken_end pdu e = by pdu.pdu
  where
    by : (x : ExchangePdu) → exchange_end (taken_as x pdu e) ≡ Exchange.taken x (exchange_end e)
    by Question = queued_end Answer (Lengths.with_limits pdu e)
    by Answer = stage_by e.own refl
      where
        stage_by : (o : ExchangeStage) → e.own ≡ o → exchange_end (taken_as Answer pdu e) ≡ Exchange.taken Answer (exchange_end e)
        stage_by Sent is = rw is refl
        stage_by Idle is = rw is refl
        stage_by Unsent is = rw is refl

first_pdu : (queue : List LengthPdu) (pdu : LengthPdu) → first_of queue ≡ Some pdu → Exchange.first_of (map (λ (x : LengthPdu). x.pdu) queue) ≡ Some pdu.pdu
first_pdu [] pdu is = absurd (cc)
first_pdu (first ∷ queue) pdu is = ap pdu_of is
  where
    pdu_of : Option LengthPdu → Option ExchangePdu
    pdu_of None = None
    pdu_of (Some x) = Some x.pdu

-- ---- a step of both ends

abbrev IsStep : LengthLink → LengthLink → Type 0
IsStep s t =
    (exchange_link t ≡ exchange_link s) ⊎ ((event : ExchangeEvent) × (exchange_link t ≡ step exchanges event (exchange_link s)))

comes : (event : ExchangeEvent) (s : ExchangeLink) → ExchangeRun.may event s ≡ true → ExchangeRun.act event s ≡ step exchanges event s
comes event s may = by (ExchangeRun.may event s) may
  where
    by : (b : Bool) → b ≡ true → ExchangeRun.act event s ≡ (if b then ExchangeRun.act event s else s)
    by true is = refl
    by false is = absurd (cc)

makes : (event : ExchangeEvent) (s t : LengthLink) → exchange_link t ≡ ExchangeRun.act event (exchange_link s)
    → ExchangeRun.may event (exchange_link s) ≡ true → IsStep s t
makes event s t is may = inr (event, is ∙ comes event (exchange_link s) may)

no_way : (way : Option LengthWay) → is_none way ≡ true → None ≡ exchange_way way
no_way None is = refl
no_way (Some x) is = absurd (cc)

-- only a question is kept
abbrev KeepsQuestion : Option LengthPdu → Type 0
KeepsQuestion None = Unit {0}
KeepsQuestion (Some pdu) = pdu.pdu ≡ Question

pub record IsPart (s t : LengthLink) : Type 0 where
  pub goes : IsStep s t
  pub kept : KeepsQuestion t.kept

begins_part : (role : Role) (s : LengthLink) → may (Begins role) s ≡ true → KeepsQuestion s.kept → IsPart s (act (Begins role) s)
begins_part Central s may kept =
    record {
      goes = makes (ExchangeRun.Begins Central) s (act (Begins Central) s)
          (λ i. record (exchange_link s) { central = queued_end Question (record s.central { own = Unsent }) i }) may;
      kept = kept;
    }
begins_part Peripheral s may kept =
    record {
      goes = makes (ExchangeRun.Begins Peripheral) s (act (Begins Peripheral) s)
          (λ i. record (exchange_link s) { peripheral = queued_end Question (record s.peripheral { own = Unsent }) i }) may;
      kept = kept;
    }

-- a way with nothing of the other procedure
way_none : (way : Option LengthWay) → is_none way ≡ true → is_none (exchange_way way) ≡ true
way_none None is = refl
way_none (Some x) is = absurd (cc)

both_true : (a b : Bool) → a ≡ true → b ≡ true → (a && b) ≡ true
both_true a b first second = ap (λ x. x && b) first ∙ second

sends_part : (role : Role) (first : Option LengthPdu) (s : LengthLink) → first_of (end_of role s).queue ≡ first → is_none (way_from role s) ≡ true → KeepsQuestion s.kept
    → IsPart s (end_sends role first s)
sends_part role None s is none kept = record { goes = inl refl; kept = kept }
sends_part Central (Some pdu) s is none kept =
    let first = first_pdu s.central.queue pdu is in
    record {
      goes = makes (ExchangeRun.Sends Central) s (end_sends Central (Some pdu) s)
          ((λ i. record (exchange_link s) { central = sent_end pdu s.central i; down = Some pdu.pdu }) ∙ (λ i. ExchangeRun.end_sends Central (sym first i) (exchange_link s)))
          (both_true _ _ (way_none s.down none) (ap is_some first));
      kept = kept;
    }
sends_part Peripheral (Some pdu) s is none kept =
    let first = first_pdu s.peripheral.queue pdu is in
    record {
      goes = makes (ExchangeRun.Sends Peripheral) s (end_sends Peripheral (Some pdu) s)
          ((λ i. record (exchange_link s) { peripheral = sent_end pdu s.peripheral i; up = Some pdu.pdu }) ∙ (λ i. ExchangeRun.end_sends Peripheral (sym first i) (exchange_link s)))
          (both_true _ _ (way_none s.up none) (ap is_some first));
      kept = kept;
    }

takes_part : (role : Role) (way : Option LengthWay) (s : LengthLink) → way_to role s ≡ way → KeepsQuestion s.kept → IsPart s (end_takes role way s)
takes_part role None s is kept = record { goes = inl refl; kept = kept }
takes_part Central (Some (Data octets)) s is kept =
    record { goes = inl (λ i. record (exchange_link s) { up = exchange_way (sym is i) }); kept = kept }
takes_part Peripheral (Some (Data octets)) s is kept =
    record { goes = inl (λ i. record (exchange_link s) { down = exchange_way (sym is i) }); kept = kept }
takes_part Central (Some (Control pdu)) s is kept =
    record {
      goes = makes (ExchangeRun.Takes Central) s (end_takes Central (Some (Control pdu)) s)
          ((λ i. record (exchange_link s) { central = taken_end pdu s.central i; up = None }) ∙ (λ i. ExchangeRun.end_takes Central (exchange_way (sym is i)) (exchange_link s)))
          (ap (λ w. is_some (exchange_way w)) is);
      kept = kept;
    }
takes_part Peripheral (Some (Control pdu)) s is kept =
    record {
      goes = makes (ExchangeRun.Takes Peripheral) s (end_takes Peripheral (Some (Control pdu)) s)
          ((λ i. record (exchange_link s) { peripheral = taken_end pdu s.peripheral i; down = None }) ∙ (λ i. ExchangeRun.end_takes Peripheral (exchange_way (sym is i)) (exchange_link s)))
          (ap (λ w. is_some (exchange_way w)) is);
      kept = kept;
    }

question_from : (pdu : ExchangePdu) → is_question pdu ≡ true → pdu ≡ Question
question_from Question is = refl
question_from Answer is = absurd (cc)

keeps_part : (way : Option LengthWay) (s : LengthLink) → s.up ≡ way → is_question_way way ≡ true → KeepsQuestion s.kept → IsPart s (central_keeps way s)
keeps_part None s is question kept = record { goes = inl refl; kept = kept }
keeps_part (Some (Data octets)) s is question kept = record { goes = inl refl; kept = kept }
keeps_part (Some (Control pdu)) s is question kept =
    record {
      goes = makes ExchangeRun.Keeps s (central_keeps (Some (Control pdu)) s) refl (ap (λ w. ExchangeRun.is_pdu is_question (exchange_way w)) is ∙ question);
      kept = question_from pdu.pdu question;
    }

takes_kept_part : (kept : Option LengthPdu) (s : LengthLink) → s.kept ≡ kept → KeepsQuestion kept → IsPart s (central_takes_kept kept s)
takes_kept_part None s is question = record { goes = inl refl; kept = subst (λ k. KeepsQuestion k) (sym is) tt }
takes_kept_part (Some pdu) s is question =
    record {
      goes = makes ExchangeRun.TakesKept s (central_takes_kept (Some pdu) s)
          (λ i. record (exchange_link s) { central = (taken_end pdu s.central ∙ ap (λ x. Exchange.taken x (exchange_end s.central)) question) i; kept = false })
          (ap is_some is);
      kept = tt;
    }

part_of : (event : LengthEvent) (s : LengthLink) → may event s ≡ true → KeepsQuestion s.kept → IsPart s (act event s)
part_of (Accepts Central octets) s may kept = record { goes = inl refl; kept = kept }
part_of (Accepts Peripheral octets) s may kept = record { goes = inl refl; kept = kept }
part_of (Limits Central octets) s may kept = record { goes = inl refl; kept = kept }
part_of (Limits Peripheral octets) s may kept = record { goes = inl refl; kept = kept }
part_of (Begins role) s may kept = begins_part role s may kept
part_of (Closes Central) s may kept = record { goes = makes (ExchangeRun.Closes Central) s (act (Closes Central) s) refl may; kept = kept }
part_of (Closes Peripheral) s may kept = record { goes = makes (ExchangeRun.Closes Peripheral) s (act (Closes Peripheral) s) refl may; kept = kept }
part_of (Sends role) s may kept =
    sends_part role (first_of (end_of role s).queue) s refl (and_parts (is_none (way_from role s)) (is_some (first_of (end_of role s).queue)) may).0 kept
part_of (SendsData Central octets) s may kept =
    let none = (and_parts (is_none s.down) _ may).0 in
    record { goes = inl (λ i. record (exchange_link s) { down = no_way s.down none i }); kept = kept }
part_of (SendsData Peripheral octets) s may kept =
    let none = (and_parts (is_none s.up) _ may).0 in
    record { goes = inl (λ i. record (exchange_link s) { up = no_way s.up none i }); kept = kept }
part_of (Takes role) s may kept = takes_part role (way_to role s) s refl kept
part_of Keeps s may kept = keeps_part s.up s refl (and_parts (is_question_way s.up) (is_none s.kept) may).0 kept
part_of TakesKept s may kept = takes_kept_part s.kept s refl kept

-- ---- the runs

module _ (central_rx peripheral_rx : ℕ) where
  step_part : (event : LengthEvent) (s : LengthLink) → KeepsQuestion s.kept → IsPart s (step (length_exchanges central_rx peripheral_rx) event s)
  step_part event s kept = by (may event s) refl
    where
      by : (b : Bool) → may event s ≡ b → IsPart s (if b then act event s else s)
      by true comes = part_of event s comes kept
      by false comes = record { goes = inl refl; kept = kept }

  parts_from : (s : LengthLink) (events : List LengthEvent) → KeepsQuestion s.kept
      → (parts : List ExchangeEvent) × (exchange_link (run_from (length_exchanges central_rx peripheral_rx) s events) ≡ run_from exchanges (exchange_link s) parts)
  parts_from s [] kept = ([], refl)
  parts_from s (event ∷ events) kept =
      let one = step_part event s kept in
      let rest = parts_from (step (length_exchanges central_rx peripheral_rx) event s) events one.kept in
      by one.goes rest
    where
      by : IsStep s (step (length_exchanges central_rx peripheral_rx) event s)
          → ((parts : List ExchangeEvent) × (exchange_link (run_from (length_exchanges central_rx peripheral_rx) (step (length_exchanges central_rx peripheral_rx) event s) events) ≡ run_from exchanges (exchange_link (step (length_exchanges central_rx peripheral_rx) event s)) parts))
          → (parts : List ExchangeEvent) × (exchange_link (run_from (length_exchanges central_rx peripheral_rx) (step (length_exchanges central_rx peripheral_rx) event s) events) ≡ run_from exchanges (exchange_link s) parts)
      by (inl same) rest = (rest.0, rest.1 ∙ ap (λ t. run_from exchanges t rest.0) same)
      by (inr made) rest = (made.0 ∷ rest.0, rest.1 ∙ ap (λ t. run_from exchanges t rest.0) made.1)

  pub parts : (events : List LengthEvent)
      → (part : List ExchangeEvent) × (exchange_link (run (length_exchanges central_rx peripheral_rx) events) ≡ run exchanges part)
  parts events = parts_from (start central_rx peripheral_rx) events tt

-- ---- one end, for the law

pub begun_end : (e : LengthEnd) → exchange_end (begun e) ≡ Exchange.begun (exchange_end e)
begun_end e = queued_end Question (record e { own = Unsent })

pub sent_ends : (e : LengthEnd) (pdu : LengthPdu) → exchange_end (sent pdu e) ≡ Exchange.sent pdu.pdu (exchange_end e)
sent_ends e pdu = sent_end pdu e

pub taken_ends : (e : LengthEnd) (pdu : LengthPdu) → exchange_end (taken pdu e) ≡ Exchange.taken pdu.pdu (exchange_end e)
taken_ends e pdu = taken_end pdu e
