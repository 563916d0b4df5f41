-- Where a controller is in its turn at each call of a run, and that a link which is taken has its fields in range.
use Rattle.std.proofs.Common.{◌≡◌, ℕ, zero, suc, ◌+◌, ◌≤◌, false, List, refl, sym, ap, subst, ◌∙◌, arith}
use Rattle.std.specs.Prelude.{⊤}
use Rattle.ble_base.specs.declared.addresses.Address.{Address}
use Rattle.adv_pdu.specs.declared.pdu.AdvPdu.{AdvPdu}
use Rattle.adv_pdu.specs.declared.pdu.AdvPdu.TheVariants.{ScanReq, Connect}
use Rattle.adv_pdu.specs.declared.pdu.ConnectFields.{ConnectFields}
use Rattle.adv_pdu.specs.Ranges.{IsInRange}
use Rattle.advertise.specs.declared.answers.AdvAnswer.TheVariants.{Connect as Takes}
use Rattle.advertise.specs.declared.params.AdvParams.{AdvParams}
use Rattle.advertise.specs.Answers.{advertiser_answer, is_scan_answered}
use Rattle.run_model.specs.link_model.declared.setup.LinkSetup.{LinkSetup}
use Rattle.run_model.specs.controller_model.declared.doing.Doing.{Doing}
use Rattle.run_model.specs.controller_model.declared.doing.Doing.TheVariants.{Connects, Rests}
use Rattle.run_model.specs.controller_model.declared.doing.Turn.{Turn}
use Rattle.run_model.proofs.controller_model.Always.{MayBegin}
use Rattle.run_model.proofs.controller_model.HostBuffers.{least_step, most_in_range}
use Rattle.run_model.specs.controller_model.Step.{HostOctet, TurnBegins, TurnEnds}
use Rattle.run_model.specs.controller_model.Facts.{Setup, Facts, first_facts}
use Rattle.run_model.specs.controller_model.Side.{facts_after}
use Rattle.run_model.specs.Run.{step_of}
use Rattle.run_model.proofs.LinkEnds.{AreTaken, scan_takes_none}
use Rattle.run_laws.proofs.TurnPlaces.{Between, IsTurned, Stage, Within}
use Rattle.run_laws.proofs.TurnSteps.{FitsChannel, FitsFirst, IsListening, begins_listening, may_fit, phase_fits, phase_listens, initiates, pending, Makes, MakesWell, begins_begun, begins_make, begins_may, begins_slot, ends_turn, octet_turn, phase_makes, phase_turn}

-- ---- a link that is taken has its fields in range

pub taken_in_range : AreTaken → (params : AdvParams) (list : List Address) (pdu : AdvPdu) (fields : ConnectFields)
    → advertiser_answer params list pdu ≡ Takes fields → IsInRange fields
taken_in_range taken params list (Connect from to ch_sel said) fields takes =
    let told = taken params list from to ch_sel said fields takes in
    subst IsInRange (sym told.1) told.0.in_range
taken_in_range taken params list (ScanReq from to) fields takes = scan_takes_none (is_scan_answered params list from to) fields _ takes
taken_in_range taken params list other fields takes = absurd cc

-- ---- a turn

-- where a controller stands in its turn
abbrev SlotIs : Stage → ℕ → ℕ → Type 0
SlotIs Between begun slot = ⊤
SlotIs (Within phases) begun slot = slot + 1 ≡ begun

abbrev pub DoesAt : Stage → Doing → Type 0
DoesAt Between doing = doing ≡ Rests
DoesAt (Within zero) doing = MayBegin doing
DoesAt (Within (suc phases)) doing = FitsFirst phases doing

pub record IsInTurn (setup : Setup) (stage : Stage) (begun : ℕ) (facts : Facts) : Type 0 where
  pub begun_is : facts.turn.begun ≡ begun
  pub slot_is : SlotIs stage begun facts.turn.slot
  pub does : DoesAt stage facts.turn.doing
  pub makes : Makes setup facts
  pub listens : IsListening facts facts.turn.doing
  pub fits : FitsChannel facts.turn.doing
  -- the host takes payloads of the least length
  pub least : 27 ≤ facts.view.flow.acl_length

first_does : (phases : ℕ) (before after : Doing) → DoesAt (Within phases) before → initiates after ≡ false
    → (initiates before ≡ false → pending after ≡ 0) → DoesAt (Within (suc phases)) after
first_does zero before after does later last = later
first_does (suc zero) before after does later last = (later, last does)
first_does (suc (suc phases)) before after does later last = (later, last does.0)

pub turn_kept : (setup : Setup) → IsTurned setup (IsInTurn setup)
turn_kept setup = record {
  feeds = λ begun octet facts in_turn.
      let same = octet_turn setup facts octet in
      let rests = ap (λ (turn : Turn). turn.doing) same.turn ∙ in_turn.does in record {
        listens = subst (IsListening (facts_after setup facts (HostOctet octet))) (sym rests) tt;
        fits = subst FitsChannel (sym rests) tt;
        begun_is = ap (λ (turn : Turn). turn.begun) same.turn ∙ in_turn.begun_is;
        slot_is = tt;
        does = rests;
        makes = subst (MakesWell setup (facts_after setup facts (HostOctet octet)).view (facts_after setup facts (HostOctet octet)).connections) (sym rests) tt;
        least = least_step setup facts (HostOctet octet) in_turn.least;
      };
  begins = λ begun on facts in_turn. record {
    begun_is = begins_begun setup begun on facts;
    slot_is = ap (λ n. n + 1) (begins_slot setup begun on facts);
    does = begins_may setup begun on facts in_turn.begun_is;
    makes = begins_make setup begun on facts in_turn.begun_is;
    listens = begins_listening setup begun on facts;
    fits = may_fit _ (begins_may setup begun on facts in_turn.begun_is);
    least = least_step setup facts (TurnBegins begun on) in_turn.least;
  };
  passes = λ phases begun received facts in_turn.
      let passed = phase_turn setup facts received in record {
        begun_is = passed.begun ∙ in_turn.begun_is;
        slot_is = ap (λ n. n + 1) passed.slot ∙ in_turn.slot_is;
        does = first_does phases facts.turn.doing _ in_turn.does passed.later passed.last;
        makes = phase_makes setup facts received;
        listens = phase_listens setup facts received;
        fits = phase_fits setup facts received in_turn.fits;
        least = least_step setup facts (step_of received) in_turn.least;
      };
  ends = λ begun facts in_turn. record {
    begun_is = ap (λ (turn : Turn). turn.begun) (ends_turn setup facts) ∙ in_turn.begun_is;
    slot_is = tt;
    does = refl;
    makes = tt;
    listens = tt;
    fits = tt;
    least = least_step setup facts TurnEnds in_turn.least;
  };
}

-- a link that is to be made receives payloads of the least length at least, and of no length that there is not
pub made_range : (setup : Setup) (stage : Stage) (begun : ℕ) (facts : Facts) → IsInTurn setup stage begun facts → (channel : ℕ) (link : LinkSetup)
    → facts.turn.doing ≡ Connects channel link → (27 ≤ link.max_rx) × (link.max_rx ≤ 251)
made_range setup stage begun facts in_turn channel link doing =
    let made = subst (MakesWell setup facts.view facts.connections) doing in_turn.makes in
    subst (λ (n : ℕ). (27 ≤ n) × (n ≤ 251)) (sym made.receives) (most_in_range facts.view in_turn.least)

pub turn_first : (setup : Setup) → IsInTurn setup Between 0 (first_facts setup)
turn_first setup = record { begun_is = refl; slot_is = tt; does = refl; makes = tt; listens = tt; fits = tt; least = omega arith }
