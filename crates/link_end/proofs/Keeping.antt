-- What an end holds keeps up with its past.
use Rattle.std.proofs.Common.{◌≡◌, ℕ, ◌≤◌, ◌==◌, Bool, not, is_some, List, [], ◌∷◌, ◌++◌, length, refl, ap, sym, subst, ◌∙◌}
use Rattle.std.specs.List.{filter}
use Rattle.acl_banks.specs.Banks.{Bank, bank_after_credited, bank_after_offer, credits_of, unsent_of as bank_unsent}
use Rattle.acl_banks.specs.Packets.{is_of, new_packet}
use Rattle.link_model.specs.Data.{data_given, pdu_with}
use Rattle.link_model.specs.Setup.{Setup}
use Rattle.link_model.specs.Lost.{skips_by}
use Rattle.link_model.specs.Facts.{Facts}
use Rattle.link_model.specs.Step.{Step, DataGiven, DataReported}
use Rattle.link_model.specs.Times.{wants_of}
use Rattle.link_model.specs.End.{facts_after, facts_of}
use Rattle.link_model.proofs.Pasts.{grows}
use Rattle.link_model.proofs.Pieces.{fixed_is_next, piece_out_where_waits}
use Rattle.link_end.specs.Held.{Held, held_of}
use Rattle.link_end.specs.Knowing.{Knows}
use Rattle.link_end.specs.Tied.{HoldsData, IsTied}
use Rattle.link_end.specs.Times.{is_idle_with}
use Rattle.link_end.proofs.Banked.{cut_same, holds_given, holds_reported, out_same, unsent_same}

-- what an end that knows its past holds
pub held_is : (setup : Setup) (held : Held) (past : List Step) → Knows setup held past → held ≡ held_of setup (facts_of setup past)
unfolding Knows
held_is setup held past knows = knows

-- the step of what is held is what is held of the step
pub stepped : (setup : Setup) (held : Held) (past : List Step) (step : Step)
    → held ≡ held_of setup (facts_after setup (facts_of setup past) step) → Knows setup held (past ++ step ∷ [])
unfolding Knows
stepped setup held past step is = is ∙ ap (held_of setup) (sym (grows setup past step))

-- a bank that has the data after a step
pub holds_after : (setup : Setup) (past : List Step) (step : Step) (bank : Bank)
    → HoldsData setup.link.handle bank (facts_after setup (facts_of setup past) step).outgoing
    → HoldsData setup.link.handle bank (facts_of setup (past ++ step ∷ [])).outgoing
holds_after setup past step bank holds =
    subst (λ (facts : Facts). HoldsData setup.link.handle bank facts.outgoing) (sym (grows setup past step)) holds

-- ---- it wants the radio

pub wanted : (setup : Setup) (held : Held) (past : List Step) (bank : Bank) (skips : Bool)
    → skips ≡ skips_by held.setup.link.role held.event held.last_good
    (is_idle_with (length (bank_unsent bank held.setup.link.handle) == 0) held)
    → Knows setup held past → HoldsData setup.link.handle bank (facts_of setup past).outgoing
    → not skips ≡ wants_of setup (facts_of setup past)
wanted setup held past bank skips is knows holds =
    let facts = facts_of setup past in
    ap not (is ∙ ap (λ (h : Held). skips_by h.setup.link.role h.event h.last_good
    (is_idle_with (length (bank_unsent bank h.setup.link.handle) == 0) h)) (held_is setup held past knows)
    ∙ ap (λ octets. skips_by setup.link.role facts.event facts.last_good (is_idle_with (length octets == 0) (held_of setup facts)))
    (unsent_same setup.link.handle bank facts.outgoing holds))

-- ---- laws

pub knows_tied : (setup : Setup) (held : Held) (past : List Step) (bank : Bank) → Knows setup held past
    → HoldsData setup.link.handle bank (facts_of setup past).outgoing → IsTied held bank
knows_tied setup held past bank knows holds =
    let outgoing = (facts_of setup past).outgoing in
    let handle = setup.link.handle in
    subst (λ (h : Held). IsTied h bank) (sym (held_is setup held past knows))
    (record {
      out = ap is_some (out_same handle bank outgoing holds) ∙ piece_out_where_waits setup past;
      next = λ carries. ap pdu_with (cut_same handle bank outgoing holds (length outgoing.fixed.body)) ∙ fixed_is_next setup past carries;
    })

given_of : (setup : Setup) (facts : Facts) (start : Bool) (body : List ℕ)
    → held_of setup facts ≡ held_of setup (record facts { outgoing = data_given setup.link.handle start body facts.outgoing })
given_of setup facts start [] = refl
given_of setup facts start (octet ∷ octets) = refl

pub given : (setup : Setup) (held : Held) (past : List Step) (start : Bool) (body : List ℕ) → Knows setup held past
    → Knows setup held (past ++ DataGiven start body ∷ [])
given setup held past start body knows =
    stepped setup held past (DataGiven start body) (held_is setup held past knows ∙ given_of setup (facts_of setup past) start body)

pub reported : (setup : Setup) (held : Held) (past : List Step) → Knows setup held past → Knows setup held (past ++ DataReported ∷ [])
reported setup held past knows = stepped setup held past DataReported (held_is setup held past knows)

pub given_holds : (setup : Setup) (past : List Step) (bank : Bank) (start : Bool) (body : List ℕ) → 1 ≤ length body
    → HoldsData setup.link.handle bank (facts_of setup past).outgoing
    → HoldsData setup.link.handle (bank_after_offer bank (new_packet setup.link.handle start body))
    (facts_of setup (past ++ DataGiven start body ∷ [])).outgoing
given_holds setup past bank start body some holds =
    holds_after setup past (DataGiven start body) (bank_after_offer bank (new_packet setup.link.handle start body))
    (holds_given setup.link.handle bank (facts_of setup past).outgoing start body some holds)

pub reported_holds : (setup : Setup) (past : List Step) (bank : Bank) → HoldsData setup.link.handle bank (facts_of setup past).outgoing
    → HoldsData setup.link.handle (bank_after_credited bank setup.link.handle) (facts_of setup (past ++ DataReported ∷ [])).outgoing
reported_holds setup past bank holds =
    holds_after setup past DataReported (bank_after_credited bank setup.link.handle)
    (holds_reported setup.link.handle bank (facts_of setup past).outgoing holds)

pub begun : (setup : Setup) (bank : Bank) → filter (is_of setup.link.handle) bank.packets ≡ [] → credits_of bank setup.link.handle ≡ 0
    → HoldsData setup.link.handle bank (facts_of setup []).outgoing
unfolding facts_of
begun setup bank none zero = record { packets = none; complete = zero }
