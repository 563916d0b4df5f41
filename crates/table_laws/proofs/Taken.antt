-- A PDU of the peer is taken: it is answered where few wait.
use Rattle.std.proofs.Common.{◌≡◌, ℕ, zero, suc, ◌+◌, ◌≤◌, Bool, true, false, not, ◌&&◌, ◌||◌, if◌then◌else◌, [], ◌∷◌, ◌++◌, Some, is_some, nat_le, refl, arith, subst}
use Rattle.ble_base.specs.declared.roles.Role.{Role}
use Rattle.ble_base.specs.declared.procedure_kinds.Kind.TheVariants.{Encrypt}
use Rattle.data_pdu.specs.declared.ctrl.CtrlRead.{CtrlRead}
use Rattle.procedures.specs.procedure_values.declared.drafts.Draft.{Draft}
use Rattle.procedures.specs.procedure_values.declared.drafts.Draft.TheVariants.{PhyRsp, PhyInd, FeatureRsp, VersionInd, LengthRsp, UnknownRsp}
use Rattle.procedures.specs.declared.outcome.Outcome.{Outcome}
use Rattle.procedures.specs.procedure_stages.declared.reply.Reply.{Reply}
use Rattle.procedures.specs.procedure_stages.declared.reply.Reply.TheVariants.{Nothing as no_reply, Reject, Answer}
use Rattle.procedures.specs.procedure_stages.declared.stages.Exchange.TheVariants.{FeaturesUnsent, FeaturesSent, VersionUnsent, VersionSent, LengthUnsent, LengthSent}
use Rattle.procedures.specs.procedure_stages.declared.stages.OwnCentral.{OwnCentral}
use Rattle.exclusive_stages.specs.declared.stages.CentralStage.TheVariants.{Idle, UpdateUnsent, UpdateSent, MapUnsent, MapSent, PhyUnsent, PhySent, PhyAnswered, PhyIndicated}
use Rattle.exclusive_stages.specs.declared.stages.PeripheralStage.TheVariants.{Idle as idle, RequestUnsent, RequestSent, RequestAcknowledged, RequestGranted, PhyUnsent as phy_unsent, PhySent as phy_sent}
use Rattle.procedures.specs.procedure_stages.declared.stages.OwnCentral.TheVariants.{Exclusive as exclusive, Exchange as exchange, EncryptUnsent, EncryptSent}
use Rattle.procedures.specs.procedure_stages.declared.stages.OwnPeripheral.{OwnPeripheral}
use Rattle.procedures.specs.procedure_stages.declared.stages.OwnPeripheral.TheVariants.{Exclusive as exclusive_p, Exchange as exchange_p}
use Rattle.procedures.specs.procedure_stages.declared.stages.Progress.{Progress}
use Rattle.procedures.specs.procedure_stages.declared.stages.Progress.TheVariants.{Central as central, Peripheral as peripheral}
use Rattle.procedures.specs.procedure_stages.declared.steps.Effect.{Effect}
use Rattle.procedures.specs.procedure_stages.declared.steps.Effect.TheVariants.{PeerEnds}
use Rattle.procedures.specs.procedure_stages.declared.steps.Step.{Step}
use Rattle.procedures.specs.procedure_stages.declared.closing.Closing.{Closing}
use Rattle.procedures.specs.procedure_stages.declared.closing.Closing.TheVariants.{Open, Closed, Disconnecting}
use Rattle.procedures.specs.procedure_stages.Kinds.{kind_at_central, kind_at_peripheral, own_kind, role_of}
use Rattle.procedures.specs.procedure_stages.Queue.{QueueFacts, waiting_in, with_reply, has_reply, is_version_reply}
use Rattle.procedures.specs.Table.{TableFacts}
use Rattle.procedures.specs.procedure_stages.Closing.{is_open}
use Rattle.procedures.specs.procedure_stages.Steps.{asks_host, closing_after}
use Rattle.procedures.specs.Taking.{facts_with, lacks_room, outcome_of, took_step}
use Rattle.procedures.specs.Calls.{takes}
use Rattle.table_laws.specs.Waiting.{end_waiting, is_asked, is_version_ind, count_if, own_waiting, version_waiting}
use Rattle.table_laws.specs.Pasts.{May}
use Rattle.table_laws.proofs.Numbers.{Counts, same, with_one, with_rejection_more}
use Rattle.table_laws.proofs.Outcomes.{Took, encrypts, is_answer, is_reply, own_room, room_at_central, room_at_peripheral, took}
use Rattle.table_laws.proofs.Kept.{Kept, at_most_one, kept_anew, kept_by, one_room}
use Rattle.table_laws.proofs.Begun.{at}

-- ---- a PDU of the peer is taken

-- an answer is queued, or the host asked, only where fewer than sixteen wait
pub few : (waits : ℕ) (b : Bool) → (true && nat_le 16 waits && b) ≡ false → b ≡ true → waits ≤ 15
few waits true full is = grind arith
few waits false full is = absurd (cc)

few_answers : (o : Outcome) (waits : ℕ) → (true && nat_le 16 waits && (has_reply o.reply || asks_host o.step.effect)) ≡ false → has_reply o.reply ≡ true → waits ≤ 15
few_answers o waits full is = few waits (has_reply o.reply || asks_host o.step.effect) full (rw is refl)

or_right : (a : Bool) → (a || true) ≡ true
or_right true = refl
or_right false = refl

few_asked : (o : Outcome) (waits : ℕ) → (true && nat_le 16 waits && (has_reply o.reply || asks_host o.step.effect)) ≡ false → asks_host o.step.effect ≡ true → waits ≤ 15
few_asked o waits full is = few waits (has_reply o.reply || asks_host o.step.effect) full (rw is (or_right (has_reply o.reply)))

and_less : (a b : Bool) → count_if (a && b) ≤ count_if b
and_less true b = omega arith
and_less false true = omega arith
and_less false false = omega arith

closing_grows : (effect : Effect) (closing : Closing) → count_if (not (is_open closing)) ≤ count_if (not (is_open (closing_after effect closing)))
closing_grows (PeerEnds code) Open = omega arith
closing_grows (PeerEnds code) Closed = omega arith
closing_grows (PeerEnds code) Disconnecting = omega arith
closing_grows other closing = omega arith

stays_closed : (effect : Effect) (closing : Closing) → is_open closing ≡ false → is_open (closing_after effect closing) ≡ false
stays_closed (PeerEnds code) Open h = absurd (cc)
stays_closed (PeerEnds code) Closed h = refl
stays_closed (PeerEnds code) Disconnecting h = refl
stays_closed other closing h = h

-- where the request of an own encryption waits that goes on
keeps_room : (p p' : Progress) (waits : ℕ) → waits ≤ own_room p → own_room p ≤ own_room p' + count_if (encrypts p)
    → (own_kind p ≡ Some Encrypt → 1 ≤ waits → own_kind p' ≡ Some Encrypt) → waits ≤ own_room p'
keeps_room p p' waits less keeps may = by (encrypts p) refl
  where
    is_encrypt : (p : Progress) → encrypts p ≡ true → own_kind p ≡ Some Encrypt
    is_encrypt (central c) h = central_by c.own h
      where
        central_by : (own : OwnCentral) → encrypts (central (record c { own = own })) ≡ true → kind_at_central own ≡ Some Encrypt
        central_by EncryptUnsent h = refl
        central_by EncryptSent h = refl
        central_by other h = absurd (cc)
    is_encrypt (peripheral q) h = absurd (cc)

    encrypt_room : (p : Progress) → own_kind p ≡ Some Encrypt → own_room p ≡ 1
    encrypt_room (central c) h = central_by c.own h
      where
        central_by : (own : OwnCentral) → kind_at_central own ≡ Some Encrypt → room_at_central own ≡ 1
        central_by EncryptUnsent h = refl
        central_by EncryptSent h = refl
        central_by (exchange FeaturesUnsent) h = absurd (cc)
        central_by (exchange FeaturesSent) h = absurd (cc)
        central_by (exchange VersionUnsent) h = absurd (cc)
        central_by (exchange VersionSent) h = absurd (cc)
        central_by (exchange LengthUnsent) h = absurd (cc)
        central_by (exchange LengthSent) h = absurd (cc)
        central_by (exclusive Idle) h = absurd (cc)
        central_by (exclusive UpdateUnsent) h = absurd (cc)
        central_by (exclusive UpdateSent) h = absurd (cc)
        central_by (exclusive MapUnsent) h = absurd (cc)
        central_by (exclusive MapSent) h = absurd (cc)
        central_by (exclusive PhyUnsent) h = absurd (cc)
        central_by (exclusive PhySent) h = absurd (cc)
        central_by (exclusive PhyAnswered) h = absurd (cc)
        central_by (exclusive PhyIndicated) h = absurd (cc)
    encrypt_room (peripheral q) h = peripheral_by q.own h
      where
        peripheral_by : (own : OwnPeripheral) → kind_at_peripheral own ≡ Some Encrypt → room_at_peripheral own ≡ 1
        peripheral_by (exchange_p FeaturesUnsent) h = absurd (cc)
        peripheral_by (exchange_p FeaturesSent) h = absurd (cc)
        peripheral_by (exchange_p VersionUnsent) h = absurd (cc)
        peripheral_by (exchange_p VersionSent) h = absurd (cc)
        peripheral_by (exchange_p LengthUnsent) h = absurd (cc)
        peripheral_by (exchange_p LengthSent) h = absurd (cc)
        peripheral_by (exclusive_p idle) h = absurd (cc)
        peripheral_by (exclusive_p RequestUnsent) h = absurd (cc)
        peripheral_by (exclusive_p RequestSent) h = absurd (cc)
        peripheral_by (exclusive_p RequestAcknowledged) h = absurd (cc)
        peripheral_by (exclusive_p RequestGranted) h = absurd (cc)
        peripheral_by (exclusive_p phy_unsent) h = absurd (cc)
        peripheral_by (exclusive_p phy_sent) h = absurd (cc)

    at_most : waits ≤ 1
    at_most = let one = one_room p in omega (arith, less, one)

    by_waits : encrypts p ≡ true → (n : ℕ) → waits ≡ n → waits ≤ own_room p'
    by_waits owns zero is = omega (arith, is)
    by_waits owns (suc n) is =
        let room = encrypt_room p' (may (is_encrypt p owns) (omega (arith, is))) in
        omega (arith, room, at_most)

    by : (b : Bool) → encrypts p ≡ b → waits ≤ own_room p'
    by true is = by_waits is waits refl
    by false is = let none : count_if (encrypts p) ≡ 0 = rw is refl in omega (arith, less, keeps, none)

reply_counts : (queue : QueueFacts) (reply : Reply) → Type 0
reply_counts queue no_reply = Counts queue queue 0 0 0 0
reply_counts queue (Reject rejection) = Counts queue (record queue { rejections = queue.rejections ++ rejection ∷ [] }) 1 0 0 0
reply_counts queue (Answer draft) = Counts queue (record queue { drafts = queue.drafts ++ draft ∷ [] }) 1 0 (count_if (is_version_ind draft)) 0

-- an answer is no request and does not end the link
answer_counts : (queue : QueueFacts) (role : Role) (used : Bool) (draft : Draft) → is_answer role used draft ≡ true
    → Counts queue (record queue { drafts = queue.drafts ++ draft ∷ [] }) 1 0 (count_if (is_version_ind draft)) 0
answer_counts queue role used VersionInd h = with_one queue VersionInd
answer_counts queue role used FeatureRsp h = with_one queue FeatureRsp
answer_counts queue role used (LengthRsp rx tx) h = with_one queue (LengthRsp rx tx)
answer_counts queue role used (UnknownRsp opcode) h = with_one queue (UnknownRsp opcode)
answer_counts queue role used PhyInd h = with_one queue PhyInd
answer_counts queue role used PhyRsp h = with_one queue PhyRsp
answer_counts queue role used other h = absurd (cc)

answer_used : (role : Role) (used : Bool) (draft : Draft) → is_answer role used draft ≡ true
    → count_if used + count_if (is_version_ind draft) ≤ count_if (used || (is_version_reply (Answer draft) && true))
answer_used role true VersionInd h = absurd (cc)
answer_used role false VersionInd h = omega arith
answer_used role true other h = omega arith
answer_used role false FeatureRsp h = omega arith
answer_used role false (LengthRsp rx tx) h = omega arith
answer_used role false (UnknownRsp opcode) h = omega arith
answer_used role false PhyInd h = omega arith
answer_used role false PhyRsp h = omega arith
answer_used role false other h = absurd (cc)

used_grows : (used b : Bool) → count_if used ≤ count_if (used || b)
used_grows true b = omega arith
used_grows false b = omega arith

module _ (f : TableFacts) (slot : ℕ) (key : Bool) (progress : Progress) (used : Bool) where
  abbrev here : Closing → TableFacts
  here closing = at f progress closing used

  asked_few : (o : Outcome) → Took progress used o → (closing : Closing) → count_if (is_open closing && is_asked o.progress key) ≤ 1
  asked_few o t closing = at_most_one (is_open closing && is_asked o.progress key)

  -- once the link is to end nothing more waits
  taken_closed : (o : Outcome) → Took progress used o → (closing : Closing) → is_open closing ≡ false → Kept (here closing) key
      → own_waiting f ≤ own_room o.progress → with_reply closing o.reply f.queue ≡ f.queue
      → Kept (facts_with (here closing) slot o) key
  taken_closed o t closing shut kept room queue =
      let k2 = kept.version in
      let k3 = kept.end in
      let g1 = used_grows used (is_version_reply o.reply && is_open closing) in
      let g2 = closing_grows o.step.effect closing in
      let none : count_if (is_open (closing_after o.step.effect closing) && is_asked o.progress key) ≡ 0 = rw (stays_closed o.step.effect closing shut) refl in
      let counts : Counts f.queue (with_reply closing o.reply f.queue) 0 0 0 0 = rw queue (same f.queue) in
      kept_by (here closing) (facts_with (here closing) slot o) key key 0 0 0 0 kept counts
      (omega (arith, none)) (omega (arith, room)) (omega (arith, k2, g1)) (omega (arith, k3, g2))

  taken_open : (o : Outcome) → Took progress used o → Kept (here Open) key → own_waiting f ≤ own_room o.progress
      → (reply : Reply) → o.reply ≡ reply → lacks_room (here Open) o ≡ false → Kept (facts_with (here Open) slot o) key
  taken_open o t kept room no_reply is full = by (asks_host o.step.effect) refl
    where
      k2 : version_waiting f ≤ count_if used
      k2 = kept.version

      k3 : end_waiting f ≤ 0
      k3 = kept.end

      g1 : count_if used ≤ count_if (used || (is_version_reply o.reply && true))
      g1 = used_grows used (is_version_reply o.reply && true)

      counts : Counts f.queue (with_reply Open o.reply f.queue) 0 0 0 0
      counts = rw is (same f.queue)

      by : (b : Bool) → asks_host o.step.effect ≡ b → Kept (facts_with (here Open) slot o) key
      by true asking =
          let less = few_asked o (waiting_in f.queue) full asking in
          let one = at_most_one (is_open (closing_after o.step.effect Open) && is_asked o.progress key) in
          kept_anew (here Open) (facts_with (here Open) slot o) key key 0 0 0 0 kept counts
          (omega (arith, less, one)) (omega (arith, room)) (omega (arith, k2, g1)) (omega (arith, k3))
      by false asking =
          let less = t.asks key in
          let none : count_if (asks_host o.step.effect) ≡ 0 = rw asking refl in
          let one = and_less (is_open (closing_after o.step.effect Open)) (is_asked o.progress key) in
          kept_by (here Open) (facts_with (here Open) slot o) key key 0 0 0 0 kept counts
          (omega (arith, less, none, one)) (omega (arith, room)) (omega (arith, k2, g1)) (omega (arith, k3))
  taken_open o t kept room (Reject rejection) is full =
      let k2 = kept.version in
      let k3 = kept.end in
      let has : has_reply o.reply ≡ true = rw is refl in
      let less = few_answers o (waiting_in f.queue) full has in
      let one = at_most_one (is_open (closing_after o.step.effect Open) && is_asked o.progress key) in
      let g1 = used_grows used (is_version_reply o.reply && true) in
      let counts : Counts f.queue (with_reply Open o.reply f.queue) 1 0 0 0 = rw is (with_rejection_more f.queue rejection) in
      kept_anew (here Open) (facts_with (here Open) slot o) key key 1 0 0 0 kept counts
      (omega (arith, less, one)) (omega (arith, room)) (omega (arith, k2, g1)) (omega (arith, k3))
  taken_open o t kept room (Answer draft) is full =
      let k2 = kept.version in
      let k3 = kept.end in
      let has : has_reply o.reply ≡ true = rw is refl in
      let answers : is_answer (role_of progress) used draft ≡ true = subst (λ (r : Reply). is_reply (role_of progress) used r ≡ true) is t.reply in
      let less = few_answers o (waiting_in f.queue) full has in
      let one = at_most_one (is_open (closing_after o.step.effect Open) && is_asked o.progress key) in
      let g1 : count_if used + count_if (is_version_ind draft) ≤ count_if (used || (is_version_reply o.reply && true)) = rw is (answer_used (role_of progress) used draft answers) in
      let counts : Counts f.queue (with_reply Open o.reply f.queue) 1 0 (count_if (is_version_ind draft)) 0 = rw is (answer_counts f.queue (role_of progress) used draft answers) in
      kept_anew (here Open) (facts_with (here Open) slot o) key key 1 0 (count_if (is_version_ind draft)) 0 kept counts
      (omega (arith, less, one)) (omega (arith, room)) (omega (arith, k2, g1)) (omega (arith, k3))

  closed_reply : (closing : Closing) (reply : Reply) → is_open closing ≡ false → with_reply closing reply f.queue ≡ f.queue
  closed_reply closing no_reply shut = refl
  closed_reply closing (Reject rejection) shut = rw shut refl
  closed_reply closing (Answer draft) shut = rw shut refl

  taken_at : (o : Outcome) → Took progress used o → (closing : Closing) → Kept (here closing) key → own_waiting f ≤ own_room o.progress
      → lacks_room (here closing) o ≡ false → Kept (facts_with (here closing) slot o) key
  taken_at o t Open kept room full = taken_open o t kept room o.reply refl full
  taken_at o t Closed kept room full = taken_closed o t Closed refl kept room (closed_reply Closed o.reply refl)
  taken_at o t Disconnecting kept room full = taken_closed o t Disconnecting refl kept room (closed_reply Disconnecting o.reply refl)

abbrev settled_of : Bool → Bool → TableFacts → TableFacts → Step → Step → Step → TableFacts × Step
settled_of a b f g x y z = if a then (f, x) else (if b then (f, y) else (g, z))

settled_by : (a b : Bool) (f g : TableFacts) (x y z : Step) (key : Bool) → Kept f key → (a ≡ false → b ≡ false → Kept g key) → Kept (settled_of a b f g x y z).0 key
settled_by true b f g x y z key kept next = kept
settled_by false true f g x y z key kept next = kept
settled_by false false f g x y z key kept next = next refl refl

-- the procedures after a PDU that does something
settled_progress : (a b : Bool) (f g : TableFacts) (x y z : Step) → a ≡ false → b ≡ false → (settled_of a b f g x y z).0.progress ≡ g.progress
settled_progress a b f g x y z ha hb = rw (ha, hb) refl

pub takes_one : (f : TableFacts) (read : CtrlRead) (slot : ℕ) (quiet key : Bool) → Kept f key → May f key (takes read slot quiet) → Kept (took_step f read slot quiet).0 key
takes_one f read slot quiet key kept may =
    settled_by (lacks_room f o) (is_some o.step.ends) f (facts_with f slot o) _ _ _ key kept
    (λ full. λ lasts.
    let progress = settled_progress (lacks_room f o) (is_some o.step.ends) f (facts_with f slot o) _ _ _ full lasts in
    taken_at f slot key f.progress f.version_used o t f.closing kept
    (keeps_room f.progress o.progress (own_waiting f) kept.own t.keeps
    (λ is. λ waits. subst (λ (p : Progress). own_kind p ≡ Some Encrypt) progress (may is waits)))
    full)
  where
    o : Outcome
    o = outcome_of f quiet read

    t : Took f.progress f.version_used o
    t = took f quiet read
