-- Runs of one link, turn by turn: what is kept from turn to turn, whether both ends are open or one is shut.
use Rattle.std.proofs.Common.{◌≡◌, inl, inr, ℕ, ◌+◌, Bool, true, false, List, [], ◌∷◌, length, Option, Some, None, is_none, refl, ap, subst, ◌∙◌, arith}
use Rattle.ble_base.specs.declared.error_codes.ErrCode.{ErrCode}
use Rattle.link_pairs.proofs.link_model.Hearing.{IsHeardWhole}
use Rattle.link_pairs.specs.link_model.OneLink.{AreInAgreement}
use Rattle.link_pairs.specs.link_model.Setup.{Setup}
use Rattle.link_pairs.specs.link_model.End.{facts_after}
use Rattle.link_pairs.specs.link_model.Facts.{Facts}
use Rattle.link_pairs.specs.link_model.Step.{DataReported, Step}
use Rattle.link_pairs.specs.link_model.Times.{due_of}
use Rattle.link_pairs.specs.Ends.{AreEnds, is_lasting}
use Rattle.link_pairs.specs.Parting.{ArePartingFrom}
use Rattle.link_pairs.specs.Shown.{AreLinked}
use Rattle.link_pairs.specs.Sound.{AreSoundEnds}
use Rattle.link_pairs.proofs.EndingNothing.{begun_ends_nothing, prepared_ends_nothing}
use Rattle.link_pairs.proofs.First.{first_linked}
use Rattle.link_pairs.proofs.Hosting.{central_hosts, peripheral_hosts}
use Rattle.link_pairs.proofs.NothingNew.{host_still, sender_still, taker_still}
use Rattle.link_pairs.proofs.Sounding.{are_sound}
use Rattle.link_runs.specs.Open.{AreOpenEnds, GoOnUnlessLate}
use Rattle.link_pairs.proofs.Understanding.{IsOpenedThere}
use Rattle.link_runs.specs.Turn.{Ends, Given, IsUnmixed, central_heard, end_after_turn, end_at_start, ends_after_turn, ends_heard, ends_in_turn, facts_hosted, listens, open_if, peripheral_heard, transmits}
use Rattle.link_runs.specs.Runs.{AreUnmixed, AreUnmixedFrom, IsUnmixedAt, IsUnmixedTurn, MayAllHost, MayAllHostFrom, MayHostAll, MayHostEnd, MayHostTurn, ends_from, ends_of, first_ends, slot_after}
use Rattle.link_runs.proofs.GoingOn.{hosted_ends_nothing, lasting_goes, lasting_took_none, open_goes_on, shut_by, still_lasts}
use Rattle.link_runs.proofs.OneTurn.{AreAfterTurn, central_hosted, lasting_turn, parting_turn, peripheral_hosted}

-- ---- the hosts of two ends that part

module _ (central peripheral : Setup) where
  central_parts : (steps : List Step) (c p : Facts) → MayHostAll central steps c → ArePartingFrom central peripheral c p
      → ArePartingFrom central peripheral (facts_hosted central steps c) p
  central_parts [] c p may parting = parting
  central_parts (step ∷ steps) c p may parting =
      central_parts steps _ p may.1 (taker_still central peripheral c p parting (facts_after central c step) (host_still central c step may.0))

  peripheral_parts : (steps : List Step) (c p : Facts) → MayHostAll peripheral steps p → ArePartingFrom central peripheral c p
      → ArePartingFrom central peripheral c (facts_hosted peripheral steps p)
  peripheral_parts [] c p may parting = parting
  peripheral_parts (step ∷ steps) c p may parting =
      peripheral_parts steps c _ may.1 (sender_still central peripheral c p parting (facts_after peripheral p step) (host_still peripheral p step may.0))

  -- ---- the hosts of two open ends

  module _ (ends : AreEnds central peripheral) (slot : ℕ) (given : Given) (c p : Facts) (c_may : MayHostAll central given.central_host c)
      (p_may : MayHostAll peripheral given.peripheral_host p) where
    abbrev c_now : Facts
    c_now = facts_hosted central given.central_host c

    abbrev p_now : Facts
    p_now = facts_hosted peripheral given.peripheral_host p

    hosted : AreOpenEnds central peripheral slot c p → AreOpenEnds central peripheral slot c_now p_now
    hosted (inl link) =
        inl (record {
          central_lasts = still_lasts c c_now (hosted_ends_nothing central given.central_host c c_may) link.central_lasts;
          peripheral_lasts = still_lasts p p_now (hosted_ends_nothing peripheral given.peripheral_host p p_may) link.peripheral_lasts;
          linked =
              peripheral_hosted central peripheral ends slot false given.peripheral_host c_now p p_may
              (central_hosted central peripheral ends slot false given.central_host c p c_may link.linked);
        })
    hosted (inr parting) = inr (peripheral_parts given.peripheral_host c_now p p_may (central_parts given.central_host c p c_may parting))

  -- ---- the complete packets are reported

  abbrev reported : Setup → Facts → Facts
  reported setup facts = facts_after setup facts DataReported

  are_reported : AreEnds central peripheral → (slot : ℕ) (c p : Facts) → AreOpenEnds central peripheral slot c p
      → AreOpenEnds central peripheral slot (reported central c) (reported peripheral p)
  are_reported ends slot c p (inl link) =
      inl (record {
        central_lasts = link.central_lasts;
        peripheral_lasts = link.peripheral_lasts;
        linked =
            peripheral_hosts central peripheral ends slot false (reported central c) p
            (central_hosts central peripheral ends slot false c p link.linked DataReported tt) DataReported tt;
      })
  are_reported ends slot c p (inr parting) =
      inr (peripheral_parts (DataReported ∷ []) (reported central c) p (tt, tt) (central_parts (DataReported ∷ []) c p (tt, tt) parting))

  -- ---- what is kept from turn to turn

  -- two open ends, or what is known of an end whose other end is shut
  abbrev Keeps : ℕ → Option Facts → Option Facts → Type 0
  Keeps slot None None = Unit {0}
  Keeps slot None (Some p) = p.control.ends ≡ None
  Keeps slot (Some c) None = c.control.ends ≡ None
  Keeps slot (Some c) (Some p) = AreOpenEnds central peripheral slot c p

  open_alone : (stays : Bool) (facts : Facts) → facts.control.ends ≡ None → (slot : ℕ) → Keeps slot (open_if stays facts) None
  open_alone true facts goes slot = goes
  open_alone false facts goes slot = tt

  open_last : (stays : Bool) (facts : Facts) → (stays ≡ true → facts.control.ends ≡ None) → (slot : ℕ) → Keeps slot None (open_if stays facts)
  open_last true facts goes slot = goes refl
  open_last false facts goes slot = tt

  open_first : (stays : Bool) (facts : Facts) → (stays ≡ true → facts.control.ends ≡ None) → (slot : ℕ) → Keeps slot (open_if stays facts) None
  open_first true facts goes slot = goes refl
  open_first false facts goes slot = tt

  closes : (slot : ℕ) (c_stays p_stays : Bool) (c p : Facts) → (c_stays ≡ true → c.control.ends ≡ None) → (p_stays ≡ true → p.control.ends ≡ None)
      → (c_stays ≡ true → p_stays ≡ true → AreOpenEnds central peripheral slot c p) → Keeps slot (open_if c_stays c) (open_if p_stays p)
  closes slot true true c p c_goes p_goes opens = opens refl refl
  closes slot true false c p c_goes p_goes opens = open_first true c c_goes slot
  closes slot false p_stays c p c_goes p_goes opens = open_last p_stays p p_goes slot

  -- ---- one turn

  module _ (whole : IsHeardWhole) (opened : IsOpenedThere) (ends : AreEnds central peripheral) (slot : ℕ) (given : Given) where
    abbrev heard : Option Facts → Option Facts → Ends
    heard o q = ends_heard central peripheral slot given o q

    record Goes (o q : Option Facts) : Type 0 where
      late : GoOnUnlessLate (heard o q)
      keeps : Keeps (slot + 1) (end_after_turn central (heard o q).central) (end_after_turn peripheral (heard o q).peripheral)

    both_go : (c p : Facts) → AreAfterTurn central peripheral slot given c p → Goes (Some c) (Some p)
    both_go c p after_it =
        record {
          late = record { central = after_it.central_goes_on; peripheral = after_it.peripheral_goes_on };
          keeps =
              closes (slot + 1) _ _ _ _ (λ c_open. open_goes_on (central_heard central peripheral slot given c p) c_open) (λ p_open. open_goes_on (peripheral_heard central peripheral slot given c p) p_open)
              (λ c_open p_open. are_reported ends (slot + 1) _ _ (after_it.opens c_open p_open));
        }

    central_goes : (c : Facts) → c.control.ends ≡ None → Goes (Some c) None
    central_goes c goes =
        let still = (begun_ends_nothing central slot (transmits central peripheral slot given c) c).procedures ∙ goes in
        record { late = record { central = inl still; peripheral = tt }; keeps = open_alone _ _ still (slot + 1) }

    peripheral_goes : (p : Facts) → p.control.ends ≡ None → Goes None (Some p)
    peripheral_goes p goes =
        let still = (prepared_ends_nothing peripheral slot (listens central peripheral slot given p) p).procedures ∙ goes in
        record { late = record { central = tt; peripheral = still }; keeps = open_last _ _ (λ is. still) (slot + 1) }

    none_goes : Goes None None
    none_goes = record { late = record { central = tt; peripheral = tt }; keeps = tt }

    open_goes : (c p : Facts) → is_none (due_of peripheral p slot) ≡ true → IsUnmixed central peripheral slot given c p → AreOpenEnds central peripheral slot c p
        → Goes (Some c) (Some p)
    open_goes c p not_due unmixed (inl link) = both_go c p (lasting_turn central peripheral slot given c p whole opened ends unmixed link not_due)
    open_goes c p not_due unmixed (inr parting) = both_go c p (parting_turn central peripheral slot given c p whole opened ends unmixed parting)

    goes_of : (c p : Facts) → AreOpenEnds central peripheral slot c p → (c.control.ends ≡ None) × (p.control.ends ≡ None)
    goes_of c p (inl link) = (lasting_goes c link.central_lasts, lasting_goes p link.peripheral_lasts)
    goes_of c p (inr parting) = (parting.took.goes_on, parting.sent.goes_on)

    starts : (c_stays p_stays : Bool) (c p : Facts) → is_none (due_of peripheral p slot) ≡ p_stays
        → IsUnmixedAt central peripheral slot given (open_if c_stays c) (open_if p_stays p) → AreOpenEnds central peripheral slot c p
        → Goes (open_if c_stays c) (open_if p_stays p)
    starts true true c p is unmixed opens = open_goes c p is unmixed opens
    starts true false c p is unmixed opens = central_goes c (goes_of c p opens).0
    starts false true c p is unmixed opens = peripheral_goes p (goes_of c p opens).1
    starts false false c p is unmixed opens = none_goes

    central_starts : (stays : Bool) (c : Facts) → c.control.ends ≡ None → Goes (open_if stays c) None
    central_starts true c goes = central_goes c goes
    central_starts false c goes = none_goes

    peripheral_starts : (stays : Bool) (p : Facts) → p.control.ends ≡ None → Goes None (open_if stays p)
    peripheral_starts true p goes = peripheral_goes p goes
    peripheral_starts false p goes = none_goes

    turn : (o q : Option Facts) → MayHostEnd central given.central_host o → MayHostEnd peripheral given.peripheral_host q
        → IsUnmixedAt central peripheral slot given (end_at_start central slot given.central_host o) (end_at_start peripheral slot given.peripheral_host q) → Keeps slot o q
        → Goes (end_at_start central slot given.central_host o) (end_at_start peripheral slot given.peripheral_host q)
    turn None None c_may p_may unmixed keeps = none_goes
    turn (Some c) None c_may p_may unmixed keeps =
        central_starts _ _ ((hosted_ends_nothing central given.central_host c c_may).procedures ∙ keeps)
    turn None (Some p) c_may p_may unmixed keeps =
        peripheral_starts _ _ ((hosted_ends_nothing peripheral given.peripheral_host p p_may).procedures ∙ keeps)
    turn (Some c) (Some p) c_may p_may unmixed keeps = starts _ _ _ _ refl unmixed (hosted ends slot given c p c_may p_may keeps)

  -- ---- all turns

  module _ (whole : IsHeardWhole) (opened : IsOpenedThere) (ends : AreEnds central peripheral) where
    abbrev KeepsEnds : ℕ → Ends → Type 0
    KeepsEnds slot now = Keeps slot now.central now.peripheral

    by_turns : (turns : List Given) (slot : ℕ) (now : Ends) → MayAllHostFrom central peripheral slot now turns
        → AreUnmixedFrom central peripheral slot now turns → KeepsEnds slot now
        → KeepsEnds (slot + length turns) (ends_from central peripheral slot now turns)
    by_turns [] slot now may unmixed keeps = subst (λ (n : ℕ). KeepsEnds n now) (omega arith) keeps
    by_turns (given ∷ turns) slot now may unmixed keeps =
        subst (λ (n : ℕ). KeepsEnds n (ends_from central peripheral slot now (given ∷ turns))) (omega arith)
        (by_turns turns (slot + 1) (ends_after_turn central peripheral slot given now) may.1 unmixed.1
        (turn whole opened ends slot given now.central now.peripheral may.0.0 may.0.1 unmixed.0 keeps).keeps)

    kept : (turns : List Given) → MayAllHost central peripheral turns → AreUnmixed central peripheral turns → KeepsEnds (slot_after central turns) (ends_of central peripheral turns)
    kept turns may unmixed =
        by_turns turns (central.opened + 1) (first_ends central peripheral) may unmixed
        (inl (record { central_lasts = refl; peripheral_lasts = refl; linked = first_linked central peripheral ends }))

    pub open_by_turns : (turns : List Given) (c p : Facts) → MayAllHost central peripheral turns → AreUnmixed central peripheral turns
        → (ends_of central peripheral turns).central ≡ Some c → (ends_of central peripheral turns).peripheral ≡ Some p
        → AreOpenEnds central peripheral (slot_after central turns) c p
    open_by_turns turns c p may unmixed is_c is_p =
        subst (λ (q : Option Facts). Keeps (slot_after central turns) (Some c) q) is_p
        (subst (λ (o : Option Facts). Keeps (slot_after central turns) o (ends_of central peripheral turns).peripheral) is_c (kept turns may unmixed))

    pub late_by_turns : (turns : List Given) (given : Given) → MayAllHost central peripheral turns → AreUnmixed central peripheral turns
        → MayHostTurn central peripheral given (ends_of central peripheral turns)
        → IsUnmixedTurn central peripheral (slot_after central turns) given (ends_of central peripheral turns)
        → GoOnUnlessLate (ends_in_turn central peripheral (slot_after central turns) given (ends_of central peripheral turns))
    late_by_turns turns given may unmixed next unmixed_next =
        (turn whole opened ends (slot_after central turns) given _ _ next.0 next.1 unmixed_next (kept turns may unmixed)).late

    lasting_open : (slot : ℕ) (c p : Facts) → AreOpenEnds central peripheral slot c p → is_lasting c ≡ true → AreLinked central peripheral slot false c p
    lasting_open slot c p (inl link) lasts = link.linked
    lasting_open slot c p (inr parting) lasts =
        absurd (shut_by c.leaving.ended_by_peer parting.took.took (ap (λ (o : Option ErrCode). is_none o) (lasting_took_none c lasts)))

    pub linked_by_turns : (turns : List Given) (c p : Facts) → MayAllHost central peripheral turns → AreUnmixed central peripheral turns
        → (ends_of central peripheral turns).central ≡ Some c → (ends_of central peripheral turns).peripheral ≡ Some p
        → is_lasting c ≡ true → is_lasting p ≡ true → AreLinked central peripheral (slot_after central turns) false c p
    linked_by_turns turns c p may unmixed is_c is_p c_lasts p_lasts =
        lasting_open (slot_after central turns) c p (open_by_turns turns c p may unmixed is_c is_p) c_lasts

    agreed : (slot : ℕ) (c p : Facts) → AreOpenEnds central peripheral slot c p → AreInAgreement c.acknowledgement p.acknowledgement
    agreed slot c p (inl link) = (are_sound central peripheral ends slot false c p link.linked link.central_lasts link.peripheral_lasts).agreement
    agreed slot c p (inr parting) = parting.agreement

    pub agreed_by_turns : (turns : List Given) (c p : Facts) → MayAllHost central peripheral turns → AreUnmixed central peripheral turns
        → (ends_of central peripheral turns).central ≡ Some c → (ends_of central peripheral turns).peripheral ≡ Some p
        → AreInAgreement c.acknowledgement p.acknowledgement
    agreed_by_turns turns c p may unmixed is_c is_p = agreed (slot_after central turns) c p (open_by_turns turns c p may unmixed is_c is_p)

    pub sound_by_turns : (turns : List Given) (c p : Facts) → MayAllHost central peripheral turns → AreUnmixed central peripheral turns
        → (ends_of central peripheral turns).central ≡ Some c → (ends_of central peripheral turns).peripheral ≡ Some p
        → is_lasting c ≡ true → is_lasting p ≡ true → AreSoundEnds central peripheral c p
    sound_by_turns turns c p may unmixed is_c is_p c_lasts p_lasts =
        are_sound central peripheral ends (slot_after central turns) false c p (linked_by_turns turns c p may unmixed is_c is_p c_lasts p_lasts) c_lasts p_lasts
