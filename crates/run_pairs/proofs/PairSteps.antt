-- The relation of the two ends of a link at each place of a turn, and what each call on one of them makes of it.
use Rattle.std.proofs.Common.{◌≡◌, ◌⊎◌, inl, inr, ℕ, zero, suc, ◌+◌, Bool, true, false, Option, Some, None, List, [], ◌∷◌, ◌++◌, is_none, refl, sym, ap, subst, ◌∙◌, arith}
use Rattle.std.specs.Prelude.{IfSome, if◌then◌else◌}
use Rattle.ble_base.specs.declared.verdicts.Verdict.TheVariants.{Good}
use Rattle.link_calls.specs.link_model.End.{facts_after as end_after}
use Rattle.link_calls.specs.link_model.Facts.{Facts as EndFacts}
use Rattle.link_calls.specs.link_model.Packets.{is_forged, verdict_of}
use Rattle.link_calls.specs.link_model.Receiving.{replies_of}
use Rattle.link_calls.specs.link_model.Sending.{facts_sent}
use Rattle.link_calls.specs.link_model.Setup.{Setup as EndSetup}
use Rattle.link_calls.specs.link_model.Step.{Step as EndStep, DataReported, KeyAnswered, PacketReceived, PacketSent, RequestAnswered, WordsGiven}
use Rattle.link_calls.specs.link_model.Times.{due_of, ending_of}
use Rattle.link_calls.proofs.link_model.Hearing.{IsHeardWhole}
use Rattle.link_calls.specs.open_links.OpenLinks.{OpenLink, facts_in, link_after}
use Rattle.link_calls.proofs.AtOnce.{IsRefusal}
use Rattle.link_calls.proofs.run_laws.Agreed.{step_facts}
use Rattle.link_runs.proofs.link_pairs.Understanding.{IsOpenedThere}
use Rattle.link_calls.specs.controller_model.declared.doing.Doing.{Doing}
use Rattle.link_calls.specs.controller_model.Facts.{Facts, Setup}
use Rattle.link_calls.specs.Phases.{link_worded, refusal}
use Rattle.link_runs.specs.link_pairs.Ends.{AreEnds}
use Rattle.link_runs.specs.link_pairs.Hosts.{MayHost}
use Rattle.link_runs.specs.link_pairs.Hearing.{IsPacketOf, answered, is_mixed_packet, received}
use Rattle.link_runs.specs.link_pairs.Turns.{MayExchange, central_begun, prepared}
use Rattle.link_runs.specs.link_pairs.Turns as turns
use Rattle.link_runs.specs.Open.{AreOpenEnds}
use Rattle.link_runs.specs.Runs.{MayHostAll}
use Rattle.link_runs.specs.Turn.{facts_hosted}
use Rattle.run_pairs.specs.Stages.{AreAnsweredEnds, AreBegunEnds, AreHeardEnds}
use Rattle.link_calls.proofs.run_laws.TurnPlaces.{Between, Stage, Within}
use Rattle.run_pairs.proofs.AtOnce.{may_refuse}
use Rattle.run_pairs.proofs.EndCalls.{IsEndBegun, IsUnheard, good_or_unheard, refused_facts}
use Rattle.run_pairs.proofs.Worded.{fitting_words, link_in_phase, worded_channel}
use Rattle.run_pairs.proofs.OneSide.{LastBefore, last_other}
use Rattle.run_pairs.proofs.Refusing.{lacking_first, received_stays, refused_first}
use Rattle.run_pairs.proofs.QuietSteps.{IsQuiet, answer_quiet, key_quiet, reported_quiet}
use Rattle.run_pairs.proofs.Stages.{answered_quiet, begun_worded, both_begin, central_forged, central_heard, central_hosted_open, central_quiet, central_unheard, peripheral_forged, peripheral_heard, peripheral_hosted_open, peripheral_quiet, peripheral_unheard}
use Rattle.link_calls.specs.Uses.{listens_under}

-- where the end sent last in this slot, this is so
abbrev pub SentIf : Bool → ℕ → List EndStep → Type 0
SentIf does slot past = (front : List EndStep) → past ≡ front ++ PacketSent slot ∷ [] → does ≡ true

pub unsent_if : (does : Bool) (slot : ℕ) (past : List EndStep) → (does ≡ false → LastBefore slot past) → SentIf does slot past
unsent_if true slot past before = λ front is. refl
unsent_if false slot past before = λ front is. absurd (let now = before refl slot front is in omega (arith, now))

-- the packet that an end heard is the one that the other end sent in this slot
pub record IsPacketNow (other : EndSetup) (slot : ℕ) (listener : EndFacts) (sender : OpenLink) (octets : List ℕ) : Type 0 where
  pub front : List EndStep
  pub last : sender.past ≡ front ++ PacketSent slot ∷ []
  pub channel : ℕ
  pub packet : IsPacketOf other slot (facts_in sender) channel octets
  pub same : channel ≡ listener.event.channel

-- also once it was given words
pub packet_worded : (other : EndSetup) (slot : ℕ) (setup : Setup) (facts : Facts) (doing : Doing) (listener sender : OpenLink) (octets : List ℕ)
    → IsPacketNow other slot (facts_in listener) sender octets → IsPacketNow other slot (facts_in (link_worded setup facts doing listener)) sender octets
packet_worded other slot setup facts doing listener sender octets is = record {
  front = is.front;
  last = is.last;
  channel = is.channel;
  packet = is.packet;
  same = is.same ∙ sym (worded_channel setup facts doing listener);
}

module _ (c_end p_end : EndSetup) (peripheral_handle : ℕ) where
  -- ---- the central has begun the turn in this slot, and the peripheral has not
  pub record IsCentralBegun (slot : ℕ) (c p : OpenLink) : Type 0 where
    pub before : EndFacts
    pub transmits : Bool
    pub is : facts_in c ≡ central_begun c_end slot transmits before
    pub may : MayExchange c_end slot transmits before
    pub ends_before : AreOpenEnds c_end p_end slot before (facts_in p)
    pub sends : SentIf transmits slot c.past

  -- ---- the peripheral has, and the central has not
  pub record IsPeripheralBegun (slot : ℕ) (doing : Doing) (c p : OpenLink) : Type 0 where
    pub before : EndFacts
    pub listens : Bool
    pub is : facts_in p ≡ prepared p_end slot listens before
    pub may : MayExchange p_end slot listens before
    pub not_due : is_none (due_of p_end before slot) ≡ true
    pub ends_before : AreOpenEnds c_end p_end slot (facts_in c) before
    pub hears : listens_under peripheral_handle doing ≡ true → listens ≡ true
    pub unsent : SentIf false slot p.past

  -- ---- both have
  pub record AreBothBegun (slot : ℕ) (doing : Doing) (c p : OpenLink) : Type 0 where
    pub transmits : Bool
    pub listens : Bool
    pub begun : AreBegunEnds c_end p_end slot transmits listens (facts_in c) (facts_in p)
    pub sends : SentIf transmits slot c.past
    pub hears : listens_under peripheral_handle doing ≡ true → listens ≡ true
    pub unsent : SentIf false slot p.past

  -- ---- the peripheral has heard what it hears in the turn
  pub record IsPeripheralDone (slot : ℕ) (c p : OpenLink) : Type 0 where
    pub answers : Bool
    pub answered_so : AreAnsweredEnds c_end p_end slot answers (facts_in c) (facts_in p)
    pub sends : SentIf answers slot p.past

  -- ---- by how many phases of the turn are over at the central, and at the peripheral

  abbrev pub ByCentral : ℕ → ℕ → OpenLink → OpenLink → Type 0
  ByCentral zero slot c p = IsPeripheralDone slot c p
  ByCentral (suc zero) slot c p = IsPeripheralDone slot c p
  ByCentral (suc (suc phases)) slot c p = AreHeardEnds c_end p_end slot (facts_in c) (facts_in p)

  abbrev pub InTurn : ℕ → ℕ → ℕ → Doing → OpenLink → OpenLink → Type 0
  InTurn zero phases slot doing c p = AreBothBegun slot doing c p
  InTurn (suc others) phases slot doing c p = ByCentral phases slot c p

  -- the link was opened in the turn, or this relation holds
  abbrev pub NewOr : ℕ → (ℕ → Type 0) → Type 0
  NewOr turns R = (c_end.opened + 1 ≡ turns) ⊎ ((slot : ℕ) → turns ≡ slot + 1 → R slot)

  pub record IsCentralEnded (turns : ℕ) (c p : OpenLink) : Type 0 where
    pub heard : (slot : ℕ) → turns ≡ slot + 1 → AreHeardEnds c_end p_end slot (facts_in c) (facts_in p)
    pub stays : is_none (ending_of (facts_in c)) ≡ true

  pub record IsPeripheralEnded (turns : ℕ) (c p : OpenLink) : Type 0 where
    pub heard : (slot : ℕ) → turns ≡ slot + 1 → AreHeardEnds c_end p_end slot (facts_in c) (facts_in p)
    pub stays : is_none (ending_of (facts_in p)) ≡ true

  -- ---- by the places of both controllers, and how many turns each began; `doing` is that of the peripheral

  abbrev pub PeripheralWithin : ℕ → ℕ → ℕ → Doing → OpenLink → OpenLink → Type 0
  PeripheralWithin zero turns others doing c p = IsPeripheralBegun turns doing c p
  PeripheralWithin (suc phases) turns others doing c p = IsCentralEnded others c p

  abbrev pub CentralWithin : ℕ → ℕ → ℕ → OpenLink → OpenLink → Type 0
  CentralWithin zero turns others c p = IsCentralBegun others c p
  CentralWithin (suc phases) turns others c p = IsPeripheralEnded turns c p

  abbrev pub AtPlace : Stage → Stage → ℕ → ℕ → Doing → OpenLink → OpenLink → Type 0
  AtPlace Between Between turns others doing c p = AreOpenEnds c_end p_end turns (facts_in c) (facts_in p)
  AtPlace Between (Within phases) turns others doing c p = PeripheralWithin phases turns others doing c p
  AtPlace (Within phases) Between turns others doing c p = CentralWithin phases turns others c p
  AtPlace (Within phases) (Within other) turns others doing c p = (turns ≡ others) × NewOr turns (λ slot. InTurn other phases slot doing c p)

module _ (whole : IsHeardWhole) (opens_there : IsOpenedThere) (c_end p_end : EndSetup) (ends : AreEnds c_end p_end) (p_handle : ℕ) where
  -- ---- hosts

  pub central_hosted_all : (turns : ℕ) (steps : List EndStep) (c p : EndFacts) → MayHostAll c_end steps c → AreOpenEnds c_end p_end turns c p
      → AreOpenEnds c_end p_end turns (facts_hosted c_end steps c) p
  central_hosted_all turns [] c p may both = both
  central_hosted_all turns (step ∷ steps) c p may both =
      central_hosted_all turns steps (end_after c_end c step) p may.1 (central_hosted_open c_end p_end ends turns c p step may.0 both)

  pub peripheral_hosted_all : (turns : ℕ) (steps : List EndStep) (c p : EndFacts) → MayHostAll p_end steps p → AreOpenEnds c_end p_end turns c p
      → AreOpenEnds c_end p_end turns c (facts_hosted p_end steps p)
  peripheral_hosted_all turns [] c p may both = both
  peripheral_hosted_all turns (step ∷ steps) c p may both =
      peripheral_hosted_all turns steps c (end_after p_end p step) may.1 (peripheral_hosted_open c_end p_end ends turns c p step may.0 both)

  -- ---- a turn begins

  pub central_begins : (slot : ℕ) (exchanges sends : Bool) (before c p : OpenLink) → exchanges ≡ sends → IsEndBegun c_end slot exchanges sends before c
      → AreOpenEnds c_end p_end slot (facts_in before) (facts_in p) → IsCentralBegun c_end p_end p_handle slot c p
  central_begins slot exchanges sends before c p same begun both = record {
    before = facts_in before;
    transmits = sends;
    is = begun.facts ∙ ap (λ b. turns.sent_if sends c_end slot (prepared c_end slot b (facts_in before))) same;
    may = subst (λ b. MayExchange c_end slot b (facts_in before)) same begun.may;
    ends_before = both;
    sends = unsent_if sends slot c.past begun.unsent;
  }

  pub peripheral_begins : (slot : ℕ) (exchanges sends : Bool) (doing : Doing) (before c p : OpenLink) → sends ≡ false → listens_under p_handle doing ≡ exchanges
      → IsEndBegun p_end slot exchanges sends before p → due_of p_end (facts_in before) slot ≡ None → AreOpenEnds c_end p_end slot (facts_in c) (facts_in before)
      → IsPeripheralBegun c_end p_end p_handle slot doing c p
  peripheral_begins slot exchanges sends doing before c p none same begun due both = record {
    before = facts_in before;
    listens = exchanges;
    is = begun.facts ∙ ap (λ b. turns.sent_if b p_end slot (prepared p_end slot exchanges (facts_in before))) none;
    may = begun.may;
    not_due = ap (λ (o : Option ℕ). is_none o) due;
    ends_before = both;
    hears = λ listens. sym same ∙ listens;
    unsent = unsent_if false slot p.past (λ off. begun.unsent none);
  }

  -- the other one has begun before
  pub central_begins_too : (slot : ℕ) (exchanges sends : Bool) (doing : Doing) (before c p : OpenLink) → exchanges ≡ sends → IsEndBegun c_end slot exchanges sends before c
      → IsPeripheralBegun c_end p_end p_handle slot doing before p → AreBothBegun c_end p_end p_handle slot doing c p
  central_begins_too slot exchanges sends doing before c p same begun other =
      let facts_are : facts_in c ≡ central_begun c_end slot sends (facts_in before) =
      begun.facts ∙ ap (λ b. turns.sent_if sends c_end slot (prepared c_end slot b (facts_in before))) same in
      let both = both_begin whole opens_there c_end p_end ends slot sends other.listens (facts_in before) other.before other.ends_before
      (λ lasts. subst (λ b. MayExchange c_end slot b (facts_in before)) same begun.may) (λ lasts. other.may) other.not_due in record {
        transmits = sends;
        listens = other.listens;
        begun = subst (λ (f : EndFacts). AreBegunEnds c_end p_end slot sends other.listens f (facts_in p)) (sym facts_are)
            (subst (λ (f : EndFacts). AreBegunEnds c_end p_end slot sends other.listens (central_begun c_end slot sends (facts_in before)) f) (sym other.is) both);
        sends = unsent_if sends slot c.past begun.unsent;
        hears = other.hears;
        unsent = other.unsent;
      }

  pub peripheral_begins_too : (slot : ℕ) (exchanges sends : Bool) (doing : Doing) (before c p : OpenLink) → sends ≡ false → listens_under p_handle doing ≡ exchanges
      → IsEndBegun p_end slot exchanges sends before p → due_of p_end (facts_in before) slot ≡ None → IsCentralBegun c_end p_end p_handle slot c before → AreBothBegun c_end p_end p_handle slot doing c p
  peripheral_begins_too slot exchanges sends doing before c p none same begun due other =
      let facts_are : facts_in p ≡ prepared p_end slot exchanges (facts_in before) =
      begun.facts ∙ ap (λ b. turns.sent_if b p_end slot (prepared p_end slot exchanges (facts_in before))) none in
      let both = both_begin whole opens_there c_end p_end ends slot other.transmits exchanges other.before (facts_in before) other.ends_before
      (λ lasts. other.may) (λ lasts. begun.may) (ap (λ (o : Option ℕ). is_none o) due) in record {
        transmits = other.transmits;
        listens = exchanges;
        begun = subst (λ (f : EndFacts). AreBegunEnds c_end p_end slot other.transmits exchanges f (facts_in p)) (sym other.is)
            (subst (λ (f : EndFacts). AreBegunEnds c_end p_end slot other.transmits exchanges (central_begun c_end slot other.transmits other.before) f) (sym facts_are) both);
        sends = other.sends;
        hears = λ listens. sym same ∙ listens;
        unsent = unsent_if false slot p.past (λ off. begun.unsent none);
      }

  -- ---- the peripheral hears, or does not

  pub peripheral_deaf : (slot : ℕ) (doing : Doing) (c p : OpenLink) → AreBothBegun c_end p_end p_handle slot doing c p → IsPeripheralDone c_end p_end p_handle slot c p
  peripheral_deaf slot doing c p both = record {
    answers = false;
    answered_so = peripheral_unheard whole opens_there c_end p_end ends slot both.transmits both.listens (facts_in c) (facts_in p) both.begun;
    sends = both.unsent;
  }

  -- it answers at once in place of its host, before it sends
  module _ (slot : ℕ) (octets : List ℕ) (room : Bool) (c p : EndFacts)
      (done : AreAnsweredEnds c_end p_end slot (replies_of p_end p slot octets room) c (answered p_end slot octets room p)) where
    abbrev replied : Bool
    replied = replies_of p_end p slot octets room

    abbrev heard_so : EndFacts
    heard_so = received p_end slot octets room p

    step_then : (step : EndStep) (replies : Bool) → replies ≡ replied → ((f : EndFacts) → MayHost step f)
        → ((f : EndFacts) → IsQuiet f (end_after p_end f step))
        → (replied ≡ true → facts_sent slot (end_after p_end heard_so step) ≡ end_after p_end (facts_sent slot heard_so) step)
        → AreAnsweredEnds c_end p_end slot replied c (turns.sent_if replies p_end slot (end_after p_end heard_so step))
    step_then step replies are may quiet first = by replies are
      where
        done_then : AreAnsweredEnds c_end p_end slot replied c (end_after p_end (answered p_end slot octets room p) step)
        done_then = answered_quiet whole opens_there c_end p_end ends slot c (answered p_end slot octets room p) _ replied step (may (answered p_end slot octets room p)) refl
            (quiet (answered p_end slot octets room p)) done

        by : (b : Bool) → b ≡ replied → AreAnsweredEnds c_end p_end slot replied c (turns.sent_if b p_end slot (end_after p_end heard_so step))
        by false none = subst (λ b. AreAnsweredEnds c_end p_end slot replied c (end_after p_end (turns.sent_if b p_end slot heard_so) step)) (sym none) done_then
        by true does =
            subst (λ (f : EndFacts). AreAnsweredEnds c_end p_end slot replied c f) (sym (first (sym does)))
            (subst (λ b. AreAnsweredEnds c_end p_end slot replied c (end_after p_end (turns.sent_if b p_end slot heard_so) step)) (sym does) done_then)

    refuses_then : (answer : Option EndStep) (replies : Bool) → IfSome answer IsRefusal → heard_so.encryption.end.phase ≡ heard_so.encryption.phase → replies ≡ replied
        → AreAnsweredEnds c_end p_end slot replied c (turns.sent_if replies p_end slot (refused_facts answer p_end heard_so))
    refuses_then None replies is in_phase are =
        subst (λ b. AreAnsweredEnds c_end p_end slot replied c (turns.sent_if b p_end slot heard_so)) (sym are) done
    refuses_then (Some (RequestAnswered answer)) replies is in_phase are =
        subst (λ a. AreAnsweredEnds c_end p_end slot replied c (turns.sent_if replies p_end slot (end_after p_end heard_so (RequestAnswered a)))) (sym is)
        (step_then (RequestAnswered refusal) replies are may_refuse (λ f. answer_quiet p_end f refusal)
        (λ does. refused_first slot refusal heard_so (received_stays p_end slot octets room p ends.is_peripheral does)))
    refuses_then (Some (KeyAnswered key now)) replies is in_phase are =
        subst (λ k. AreAnsweredEnds c_end p_end slot replied c (turns.sent_if replies p_end slot (end_after p_end heard_so (KeyAnswered k now)))) (sym is)
        (step_then (KeyAnswered None now) replies are (λ f. tt) (λ f. key_quiet p_end f now)
        (λ does. lacking_first slot now heard_so (received_stays p_end slot octets room p ends.is_peripheral does) in_phase))
    refuses_then (Some other) replies is in_phase are = absurd is

  -- it is given words, and then hears
  pub both_worded : (setup : Setup) (facts : Facts) (given : Doing) (slot : ℕ) (doing : Doing) (c p : OpenLink) → p.setup ≡ p_end
      → AreBothBegun c_end p_end p_handle slot doing c p → AreBothBegun c_end p_end p_handle slot doing c (link_worded setup facts given p)
  both_worded setup facts given slot doing c p setup_is both =
      fitting_words (AreBothBegun c_end p_end p_handle slot doing c) setup facts given p both
      (λ skd_s iv_s fits.
      let step = WordsGiven skd_s iv_s in record {
        transmits = both.transmits;
        listens = both.listens;
        begun = subst (λ (f : EndFacts). AreBegunEnds c_end p_end slot both.transmits both.listens (facts_in c) f) (sym (step_facts p step))
            (subst (λ (s : EndSetup). AreBegunEnds c_end p_end slot both.transmits both.listens (facts_in c) (end_after s (facts_in p) step)) (sym setup_is)
            (begun_worded whole opens_there c_end p_end ends slot both.transmits both.listens (facts_in c) (facts_in p) skd_s iv_s fits both.begun));
        sends = both.sends;
        hears = both.hears;
        unsent = unsent_if false slot (p.past ++ step ∷ []) (λ off. last_other slot p.past step refl);
      })

  pub peripheral_takes : (slot : ℕ) (octets : List ℕ) (room : Bool) (answer : Option EndStep) (replies : Bool) (doing : Doing) (c before p : OpenLink)
      → IfSome answer IsRefusal → before.setup ≡ p_end → AreBothBegun c_end p_end p_handle slot doing c before
      → listens_under p_handle doing ≡ true → replies ≡ replies_of p_end (facts_in before) slot octets room
      → facts_in p ≡ turns.sent_if replies p_end slot (refused_facts answer p_end (received p_end slot octets room (facts_in before)))
      → (replies ≡ false → LastBefore slot p.past)
      → (verdict_of p_end (facts_in before) octets ≡ Good → IsPacketNow c_end slot (facts_in before) c octets)
      → (verdict_of p_end (facts_in before) octets ≡ Good → is_mixed_packet p_end (facts_in before) (facts_in c) octets ≡ false)
      → IsPeripheralDone c_end p_end p_handle slot c p
  peripheral_takes slot octets room answer replies doing c before p refusals setup_is both listening are facts_are unsent now unmixed =
      by_forged (is_forged p_end (facts_in before) octets) refl
    where
      in_phase : (received p_end slot octets room (facts_in before)).encryption.end.phase ≡ (received p_end slot octets room (facts_in before)).encryption.phase
      in_phase =
          subst (λ (f : EndFacts). f.encryption.end.phase ≡ f.encryption.phase)
          (step_facts before (PacketReceived slot octets room) ∙ ap (λ (s : EndSetup). received s slot octets room (facts_in before)) setup_is)
          (link_in_phase (link_after (PacketReceived slot octets room) before))

      as_sent : (b : Bool) → b ≡ replies → SentIf b slot p.past
      as_sent b is = unsent_if b slot p.past (λ none. unsent (sym is ∙ none))

      made : AreAnsweredEnds c_end p_end slot (replies_of p_end (facts_in before) slot octets room) (facts_in c) (answered p_end slot octets room (facts_in before)) → IsPeripheralDone c_end p_end p_handle slot c p
      made done = record {
        answers = replies_of p_end (facts_in before) slot octets room;
        answered_so = subst (λ (f : EndFacts). AreAnsweredEnds c_end p_end slot (replies_of p_end (facts_in before) slot octets room) (facts_in c) f) (sym facts_are)
            (refuses_then slot octets room (facts_in c) (facts_in before) done answer replies refusals in_phase are);
        sends = as_sent (replies_of p_end (facts_in before) slot octets room) (sym are);
      }

      by : is_forged p_end (facts_in before) octets ≡ false → (verdict_of p_end (facts_in before) octets ≡ Good) ⊎ IsUnheard p_end slot octets room (facts_in before)
          → IsPeripheralDone c_end p_end p_handle slot c p
      by genuine (inl good) =
          let packet = now good in
          let begun = subst (λ b. AreBegunEnds c_end p_end slot b true (facts_in c) (facts_in before)) (both.sends packet.front packet.last)
          (subst (λ b. AreBegunEnds c_end p_end slot both.transmits b (facts_in c) (facts_in before)) (both.hears listening) both.begun) in
          made (peripheral_heard whole opens_there c_end p_end ends slot (facts_in c) (facts_in before) packet.channel octets room packet.packet packet.same (unmixed good) genuine begun)
      by genuine (inr none) =
          let same : answered p_end slot octets room (facts_in before) ≡ facts_in before =
          ap (λ b. turns.sent_if b p_end slot (received p_end slot octets room (facts_in before))) none.replies ∙ none.same in
          made (subst (λ b. AreAnsweredEnds c_end p_end slot b (facts_in c) (answered p_end slot octets room (facts_in before))) (sym none.replies)
          (subst (λ (f : EndFacts). AreAnsweredEnds c_end p_end slot false (facts_in c) f) (sym same)
          (peripheral_unheard whole opens_there c_end p_end ends slot both.transmits both.listens (facts_in c) (facts_in before) both.begun)))

      by_forged : (forged : Bool) → is_forged p_end (facts_in before) octets ≡ forged → IsPeripheralDone c_end p_end p_handle slot c p
      by_forged true wrong =
          made (peripheral_forged whole opens_there c_end p_end ends slot both.transmits both.listens (facts_in c) (facts_in before) octets room wrong both.begun)
      by_forged false genuine = by genuine (good_or_unheard p_end slot octets room (facts_in before) genuine)

  -- ---- the central hears, or does not

  pub central_deaf : (slot : ℕ) (c p : OpenLink) → IsPeripheralDone c_end p_end p_handle slot c p → AreHeardEnds c_end p_end slot (facts_in c) (facts_in p)
  central_deaf slot c p done = central_unheard whole opens_there c_end p_end ends slot done.answers (facts_in c) (facts_in p) done.answered_so

  refused_heard : (slot : ℕ) (answer : Option EndStep) (c p : EndFacts) → IfSome answer IsRefusal → AreHeardEnds c_end p_end slot c p
      → AreHeardEnds c_end p_end slot (refused_facts answer c_end c) p
  refused_heard slot None c p is heard = heard
  refused_heard slot (Some (RequestAnswered answer)) c p is heard =
      subst (λ a. AreHeardEnds c_end p_end slot (end_after c_end c (RequestAnswered a)) p) (sym is)
      (central_quiet whole opens_there c_end p_end ends slot c p _ (RequestAnswered refusal) (may_refuse c) refl (answer_quiet c_end c refusal) heard)
  refused_heard slot (Some (KeyAnswered key now)) c p is heard =
      subst (λ k. AreHeardEnds c_end p_end slot (end_after c_end c (KeyAnswered k now)) p) (sym is)
      (central_quiet whole opens_there c_end p_end ends slot c p _ (KeyAnswered None now) tt refl (key_quiet c_end c now) heard)
  refused_heard slot (Some other) c p is heard = absurd is

  pub central_takes : (slot : ℕ) (octets : List ℕ) (room : Bool) (answer : Option EndStep) (before c p : OpenLink) → IfSome answer IsRefusal
      → IsPeripheralDone c_end p_end p_handle slot before p
      → facts_in c ≡ refused_facts answer c_end (received c_end slot octets room (facts_in before))
      → (verdict_of c_end (facts_in before) octets ≡ Good → IsPacketNow p_end slot (facts_in before) p octets)
      → (verdict_of c_end (facts_in before) octets ≡ Good → is_mixed_packet c_end (facts_in before) (facts_in p) octets ≡ false)
      → AreHeardEnds c_end p_end slot (facts_in c) (facts_in p)
  central_takes slot octets room answer before c p refusals done facts_are now unmixed = by_forged (is_forged c_end (facts_in before) octets) refl
    where
      made : AreHeardEnds c_end p_end slot (received c_end slot octets room (facts_in before)) (facts_in p) → AreHeardEnds c_end p_end slot (facts_in c) (facts_in p)
      made heard = subst (λ (f : EndFacts). AreHeardEnds c_end p_end slot f (facts_in p)) (sym facts_are)
          (refused_heard slot answer (received c_end slot octets room (facts_in before)) (facts_in p) refusals heard)

      by : is_forged c_end (facts_in before) octets ≡ false → (verdict_of c_end (facts_in before) octets ≡ Good) ⊎ IsUnheard c_end slot octets room (facts_in before)
          → AreHeardEnds c_end p_end slot (facts_in c) (facts_in p)
      by genuine (inl good) =
          let packet = now good in
          made (central_heard whole opens_there c_end p_end ends slot (facts_in before) (facts_in p) packet.channel octets room packet.packet packet.same (unmixed good) genuine
          (subst (λ b. AreAnsweredEnds c_end p_end slot b (facts_in before) (facts_in p)) (done.sends packet.front packet.last) done.answered_so))
      by genuine (inr none) = made (subst (λ (f : EndFacts). AreHeardEnds c_end p_end slot f (facts_in p)) (sym none.same) (central_deaf slot before p done))

      by_forged : (forged : Bool) → is_forged c_end (facts_in before) octets ≡ forged → AreHeardEnds c_end p_end slot (facts_in c) (facts_in p)
      by_forged true wrong = made (central_forged whole opens_there c_end p_end ends slot (facts_in before) (facts_in p) octets room wrong (central_deaf slot before p done))
      by_forged false genuine = by genuine (good_or_unheard c_end slot octets room (facts_in before) genuine)

  -- ---- a turn ends

  abbrev reported_if : Bool → EndSetup → EndFacts → EndFacts
  reported_if reports setup facts = if reports then end_after setup facts DataReported else facts

  pub central_reports : (slot : ℕ) (reports : Bool) (c p : EndFacts) → AreHeardEnds c_end p_end slot c p → AreHeardEnds c_end p_end slot (reported_if reports c_end c) p
  central_reports slot true c p heard = central_quiet whole opens_there c_end p_end ends slot c p _ DataReported tt refl (reported_quiet c_end c) heard
  central_reports slot false c p heard = heard

  pub peripheral_reports : (slot : ℕ) (reports : Bool) (c p : EndFacts) → AreHeardEnds c_end p_end slot c p → AreHeardEnds c_end p_end slot c (reported_if reports p_end p)
  peripheral_reports slot true c p heard = peripheral_quiet whole opens_there c_end p_end ends slot c p _ DataReported tt refl (reported_quiet p_end p) heard
  peripheral_reports slot false c p heard = heard
