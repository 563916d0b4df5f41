-- Where one of two stations hears a packet of the first phase of a turn, its controller is called with it in that
-- phase, and until then no line comes.
use Rattle.std.proofs.Common.{◌≡◌, ℕ, ◌<◌, ◌⊎◌, inl, inr, true, false, Option, Some, None, List, [], ◌∷◌, ◌++◌, map, refl, sym, ap, subst, ◌∙◌, append-nil, append_assoc, arith}
use Rattle.std.specs.Prelude.{⊤}
use Rattle.journal_wants.specs.controller_model.declared.doing.Doing.{Doing}
use Rattle.journal_wants.specs.controller_model.declared.doing.Doing.TheVariants.{Advertises, AwaitsRequest, AwaitsResponse, CentralListens, CentralSends, Connects, Initiates, PeripheralListens, PeripheralSends, Requests, Responds, Rests, Scans}
use Rattle.journal_wants.specs.controller_model.Facts.{Facts, Sends, Setup}
use Rattle.journal_wants.specs.controller_model.Heard.{heard, unheard}
use Rattle.journal_wants.specs.controller_model.Outcome.{Outcome, notes_passed}
use Rattle.journal_wants.specs.controller_model.Packets.{listens_on, use_for}
use Rattle.journal_wants.specs.controller_model.Side.{notes_after}
use Rattle.journal_wants.specs.controller_model.Step.{Step}
use Rattle.journal_wants.specs.controller_model.open_links.OpenLinks.{OpenLink, link_at}
use Rattle.journal_wants.specs.run_model.Due.{packet_in}
use Rattle.journal_wants.specs.run_model.History.{Event, Called, Noted, packet_received, turns_begun}
use Rattle.journal_wants.specs.run_model.Journal.{journal_of}
use Rattle.journal_wants.specs.run_model.Run.{Given, after_call, after_listening, facts_at, history_of, run_of, setup_at, step_of, use_at}
use Rattle.journal_wants.proofs.journal_acks.TwoStations.{IsOfTwo, other_of}
use Rattle.journal_wants.proofs.journal_leaving.journal_ends.run_laws.Hearings.{other_facts}
use Rattle.journal_wants.proofs.journal_leaving.journal_ends.run_laws.TurnPlaces.{AllStand}
use Rattle.journal_wants.proofs.run_model.Fronts.{IsFrontAt, front_at, fronts_kept}
use Rattle.journal_wants.proofs.run_model.LinkEnds.{received_by, wanted_is}
use Rattle.journal_wants.proofs.run_model.Parts.{journal_event}
use Rattle.journal_wants.proofs.run_model.Stations.{is_in}
use Rattle.journal_wants.proofs.run_model.Walk.{AtListening, AtPackets, IsKept, called_turns}
use Rattle.journal_moves.proofs.DoingPhases.{IsPhase, doing_at}
use Rattle.journal_moves.proofs.Phases.{phase_of}

-- ---- who sends in the first phase

abbrev pub SendsFirst : Doing → Type 0
SendsFirst (Advertises channel) = ⊤
SendsFirst (CentralSends handle) = ⊤
SendsFirst other = ⊥

listens_only : (place : Option OpenLink) (channel : ℕ) (octets : List ℕ) (X : Type 0)
    → listens_on place ≡ Sends channel octets → X
listens_only None channel octets X is = absurd cc
listens_only (Some link) channel octets X is = absurd cc

sends_first : (base : Facts) (channel : ℕ) (octets : List ℕ) (doing : Doing) → IsPhase 0 (phase_of doing)
    → use_for base doing ≡ Sends channel octets
    → SendsFirst doing
sends_first base channel octets (Advertises on) first wants = tt
sends_first base channel octets (CentralSends handle) first wants = tt
sends_first base channel octets (Scans on) first wants = absurd cc
sends_first base channel octets (Initiates on) first wants = absurd cc
sends_first base channel octets (PeripheralListens handle) first wants =
    listens_only (link_at handle base.links) channel octets _ wants
sends_first base channel octets (AwaitsRequest on) first wants = absurd cc
sends_first base channel octets (AwaitsResponse on) first wants = absurd cc
sends_first base channel octets (CentralListens handle) first wants =
    listens_only (link_at handle base.links) channel octets _ wants
sends_first base channel octets (Requests on advertiser) first wants = absurd (omega (arith, first))
sends_first base channel octets (Connects on link) first wants = absurd (omega (arith, first))
sends_first base channel octets (PeripheralSends handle) first wants = absurd (omega (arith, first))
sends_first base channel octets (Responds on) first wants = absurd (omega (arith, first))
sends_first base channel octets Rests first wants = absurd cc

pub sender_first : (given : Given) (done left : List ℕ) (sender channel : ℕ) (octets : List ℕ) (history : List Event)
    → AllStand given (AtPackets 0 done left) history
    → is_in sender given.stations ≡ true → use_at given sender history ≡ Sends channel octets
    → SendsFirst (facts_at given sender history).turn.doing
sender_first given done left sender channel octets history stand in_it wants =
    let does = doing_at given (AtPackets 0 done left) history sender stand in_it in
    sends_first does.wants.base channel octets (facts_at given sender history).turn.doing does.in_phase
    (sym does.wants.wanted ∙ wanted_is given sender history ∙ wants)

-- who initiates does so in the first phase, and sends nothing
pub initiates_first : (given : Given) (phases : ℕ) (done left : List ℕ) (station own : ℕ) (history : List Event)
    → AllStand given (AtPackets phases done left) history
    → is_in station given.stations ≡ true → (facts_at given station history).turn.doing ≡ Initiates own
    → (phases ≡ 0) × (packet_in (use_at given station history) ≡ [])
initiates_first given phases done left station own history stand in_it is =
    let does = doing_at given (AtPackets phases done left) history station stand in_it in
    let phase : 0 ≡ phases = subst (λ (doing : Doing). IsPhase phases (phase_of doing)) is does.in_phase in
    let listens = sym (wanted_is given station history) ∙ does.wants.wanted ∙ ap (use_for does.wants.base) is in
    (sym phase, ap packet_in listens)

-- ---- it notes nothing in that phase

abbrev taking : Setup → Facts → Doing → Option (List ℕ) → Outcome
taking setup facts doing None = unheard doing facts
taking setup facts doing (Some octets) = heard setup doing octets facts

silent_taking : (setup : Setup) (facts : Facts) (doing : Doing) (received : Option (List ℕ)) → SendsFirst doing
    → notes_passed (taking setup facts doing received) ≡ []
silent_taking setup facts (Advertises channel) None first = refl
silent_taking setup facts (Advertises channel) (Some octets) first = refl
silent_taking setup facts (CentralSends handle) None first = refl
silent_taking setup facts (CentralSends handle) (Some octets) first = refl
silent_taking setup facts other received first = absurd first

pub silent_first : (setup : Setup) (facts : Facts) (received : Option (List ℕ)) → SendsFirst facts.turn.doing
    → notes_after setup facts (step_of received) ≡ []
silent_first setup facts None first = silent_taking setup facts facts.turn.doing None first
silent_first setup facts (Some octets) first = silent_taking setup facts facts.turn.doing (Some octets) first

-- ---- the two stations, in order

abbrev IsFirst : List ℕ → ℕ → List ℕ → Type 0
IsFirst done sender left = (done ≡ []) × (sender ≡ 0) × (left ≡ 1 ∷ [])

abbrev IsSecond : List ℕ → ℕ → List ℕ → Type 0
IsSecond done sender left = (done ≡ 0 ∷ []) × (sender ≡ 1) × (left ≡ [])

placed : (done left : List ℕ) (sender : ℕ) → 0 ∷ 1 ∷ [] ≡ done ++ sender ∷ left
    → IsFirst done sender left ⊎ IsSecond done sender left
placed [] left sender is = inl (refl, cc, cc)
placed (one ∷ []) left sender is =
    let here : 0 ≡ one = cc in
    let later : 1 ≡ sender = cc in
    let last : [] ≡ left = cc in inr (ap (λ n. n ∷ []) (sym here), sym later, sym last)
placed (one ∷ two ∷ []) left sender is = absurd (let h : [] ≡ sender ∷ left = cc in absurd cc)
placed (one ∷ two ∷ three ∷ done) left sender is =
    absurd (let h : [] ≡ three ∷ (done ++ sender ∷ left) = cc in absurd cc)

-- the next call on a station is one after a phase, and no line comes before it
pub record IsHandedOn (given : Given) (history : List Event) (station : ℕ) (received : Option (List ℕ)) : Type 0 where
  pub base : List Event
  pub rest : List Event
  pub at : history_of (run_of given) ≡ base ++ Called station (step_of received) ∷ rest
  pub lines : journal_of base ≡ journal_of history
  pub same : facts_at given station base ≡ facts_at given station history

module _ (given : Given) (pair : IsOfTwo given) where
  fronts : IsKept given (IsFrontAt given)
  fronts = fronts_kept given

  -- after a packet to a station that sends nothing both listen
  pub both_listen : (phases : ℕ) (done left : List ℕ) (sender : ℕ) (history : List Event)
      → given.stations ≡ done ++ sender ∷ left
      → packet_in (use_at given (other_of sender) history) ≡ []
      → IsFrontAt given (AtPackets phases (done ++ sender ∷ []) left) history
      → IsFrontAt given (AtListening phases [] given.stations) history
  both_listen phases done left sender history are none is =
      fronts.on_air phases history (by (placed done left sender (sym pair ∙ are)))
    where
      by : IsFirst done sender left ⊎ IsSecond done sender left
          → IsFrontAt given (AtPackets phases given.stations []) history
      by (inl first) =
          let here : IsFrontAt given (AtPackets phases (0 ∷ []) (1 ∷ [])) history =
          subst (λ xs. IsFrontAt given (AtPackets phases (0 ∷ []) xs) history) first.2
          (subst (λ xs. IsFrontAt given (AtPackets phases xs left) history) (λ i. first.0 i ++ first.1 i ∷ []) is) in
          subst (λ xs. IsFrontAt given (AtPackets phases xs []) history) (sym pair)
          (fronts.on_silence phases (0 ∷ []) [] 1 history pair
          (subst (λ n. packet_in (use_at given (other_of n) history) ≡ []) first.1 none) here)
      by (inr second) =
          subst (λ xs. IsFrontAt given (AtPackets phases xs []) history) (sym pair)
          (subst (λ xs. IsFrontAt given (AtPackets phases (0 ∷ 1 ∷ []) xs) history) second.2
          (subst (λ xs. IsFrontAt given (AtPackets phases xs left) history) (λ i. second.0 i ++ second.1 i ∷ []) is))

  module _ (phases : ℕ) (history : List Event)
      (front : IsFrontAt given (AtListening phases [] given.stations) history) (some : 0 < turns_begun history) where
    abbrev first_step : Step
    first_step = step_of (packet_received 0 history)

    abbrev middle : List Event
    middle = after_call given 0 first_step history

    first_on : IsFrontAt given (AtListening phases (0 ∷ []) (1 ∷ [])) middle
    first_on =
        fronts.on_hearing phases [] (1 ∷ []) 0 history pair some
        (subst (λ xs. IsFrontAt given (AtListening phases [] xs) history) pair front)

    first_handed : IsHandedOn given history 0 (packet_received 0 history)
    first_handed =
        let notes = map (Noted 0) (notes_after (setup_at given 0) (facts_at given 0 history) first_step) in
        let later = front_at given (AtListening phases (0 ∷ []) (1 ∷ [])) middle first_on in record {
          base = history;
          rest = notes ++ later.rest;
          at = later.at ∙ append_assoc history (Called 0 first_step ∷ notes) later.rest;
          lines = refl;
          same = refl;
        }

    second_handed : notes_after (setup_at given 0) (facts_at given 0 history) first_step ≡ []
        → IsHandedOn given history 1 (packet_received 1 history)
    second_handed none =
        let step = step_of (packet_received 1 middle) in
        let notes = map (Noted 1) (notes_after (setup_at given 1) (facts_at given 1 middle) step) in
        let last = fronts.on_hearing phases (0 ∷ []) [] 1 middle pair
        (subst (λ n. 0 < n) (sym
        (called_turns given (turns_begun history) 0 first_step history refl)) some) first_on in
        let later = front_at given (AtListening phases (0 ∷ 1 ∷ []) [])
        (after_listening given 1 middle) last in record {
          base = middle;
          rest = notes ++ later.rest;
          at = later.at ∙ append_assoc middle (Called 1 step ∷ notes) later.rest
              ∙ ap (λ received. middle ++ Called 1 (step_of received) ∷ (notes ++ later.rest))
              (received_by given 1 0 first_step history false refl);
          lines = ap (λ xs. journal_of (history ++ Called 0 first_step ∷ map (Noted 0) xs)) none
              ∙ journal_event history (Called 0 first_step)
              ∙ append-nil (journal_of history);
          same = other_facts given 0 first_step history 1 refl;
        }

    -- the one that hears a packet of the other
    pub handed_on : (sender station : ℕ) → (sender ≡ 0) ⊎ (sender ≡ 1) → station ≡ other_of sender
        → notes_after (setup_at given sender) (facts_at given sender history)
        (step_of (packet_received sender history)) ≡ []
        → IsHandedOn given history station (packet_received station history)
    handed_on sender station (inl zero_is) other none =
        subst (λ n. IsHandedOn given history n (packet_received n history)) (sym (other ∙ ap other_of zero_is))
        (second_handed (subst
        (λ n. notes_after (setup_at given n) (facts_at given n history) (step_of (packet_received n history))
        ≡ []) zero_is none))
    handed_on sender station (inr one_is) other none =
        subst (λ n. IsHandedOn given history n (packet_received n history))
        (sym (other ∙ ap other_of one_is)) first_handed
