-- What a central holds after the call in which it takes the first PDU of a procedure of the peripheral.
use Rattle.std.proofs.Common.{◌≡◌, ◌&&◌, ◌<◌, ℕ, Bool, true, false, List, [], ◌∷◌, ◌++◌, Result, Option, Some, None, is_none, refl, sym, ap, ◌∙◌, subst, if◌then◌else◌, arith}
use Rattle.std.specs.Prelude.{IfSome}
use Rattle.ble_base.specs.declared.error_codes.ErrCode.{ErrCode}
use Rattle.ble_base.specs.declared.roles.Role.TheVariants.{Central}
use Rattle.exclusive_stages.specs.declared.pdus.Exclusive.{Exclusive}
use Rattle.exclusive_stages.specs.declared.stages.PeerAtCentral.{PeerAtCentral}
use Rattle.exclusive_stages.specs.declared.stages.PeerAtCentral.TheVariants.{Absent}
use Rattle.exclusive_stages.specs.Kinds.{is_host_asked_at_central}
use Rattle.collision_steps.specs.CentralPart.{central_of}
use Rattle.controller_model.specs.Facts.{Facts, Setup}
use Rattle.controller_model.specs.Heard.{has_room}
use Rattle.controller_model.specs.Side.{facts_after, facts_of}
use Rattle.controller_model.specs.Step.{Step, PacketHeard}
use Rattle.controller_model.proofs.Pasts.{facts_more}
use Rattle.link_pairs.specs.control_model.Control.{Answers, Control, after, table_if}
use Rattle.link_pairs.specs.procedures.Going.{host_answer_step, is_answer}
use Rattle.link_pairs.specs.procedures.Table.{TableFacts}
use Rattle.link_pairs.specs.procedure_stages.declared.stages.Progress.{Progress}
use Rattle.link_pairs.specs.procedure_stages.declared.stages.Progress.TheVariants.{Central as central, Peripheral as peripheral}
use Rattle.link_pairs.specs.procedure_stages.InProgress.{is_host_asked}
use Rattle.link_pairs.specs.procedure_values.declared.asks.Ask.{Ask}
use Rattle.run_pairs.specs.link_calls.link_model.Facts.{Facts as EndFacts}
use Rattle.run_pairs.specs.link_calls.link_model.Hosts.{facts_key_answered}
use Rattle.run_pairs.specs.link_calls.link_model.Setup.{Setup as EndSetup}
use Rattle.run_pairs.specs.link_calls.link_model.Step.{Step as EndStep, KeyAnswered, PacketReceived, RequestAnswered}
use Rattle.run_pairs.specs.link_calls.open_links.OpenLinks.{OpenLink, facts_in, link_after, link_at}
use Rattle.run_pairs.specs.link_calls.run_model.History.{Called, Event, past_of}
use Rattle.run_pairs.specs.link_calls.run_model.Run.{Given, facts_at, setup_at}
use Rattle.run_pairs.specs.link_calls.Phases.{HasPassed, IsNew, Stays, Takes, link_worded, refusal_at}
use Rattle.run_pairs.specs.link_calls.Uses.{listens_under, sends_under}
use Rattle.run_pairs.proofs.link_calls.LinkCalls.{passes_under}
use Rattle.run_pairs.proofs.link_calls.run_laws.TurnSteps.{IsListening}
use Rattle.run_pairs.proofs.link_calls.run_model.Calls.{past_own}
use Rattle.link_runs.specs.link_pairs.Hearing.{received}
use Rattle.link_runs.specs.link_pairs.Turns.{sent_if}
use Rattle.run_pairs.proofs.link_calls.AtOnce.{IsRefusal, refusal_is}
use Rattle.run_pairs.proofs.link_calls.run_laws.Agreed.{step_facts}
use Rattle.run_collisions.proofs.NoKey.{key_none}
use Rattle.run_pairs.proofs.EndCalls.{central_silent, refused_facts, taking_facts}
use Rattle.run_pairs.proofs.LinkSteps.{replies_under}
use Rattle.run_collisions.specs.Prevailing.{Prevails}

-- ---- a refusal to the peripheral changes nothing where nothing of it is left

not_asked_by : (progress : Progress) (f : TableFacts) → (central_of (record f { progress = progress })).peer ≡ Absent → is_host_asked progress ≡ false
not_asked_by (central x) f is = ap (λ (peer : PeerAtCentral). is_host_asked_at_central peer) is
not_asked_by (peripheral x) f is = refl

none_answered : (goes : Bool) (answer : Result Ask ErrCode) (k : Control) → is_host_asked k.table.progress ≡ false
    → (if goes then table_if (is_host_asked k.table.progress && is_answer answer) (host_answer_step k.table answer) k else k) ≡ k
none_answered true answer k is = ap (λ (b : Bool). table_if (b && is_answer answer) (host_answer_step k.table answer) k) is
none_answered false answer k is = refl

answer_same : (answer : Result Ask ErrCode) (k : Control) → (central_of k.table).peer ≡ Absent → after (Answers answer) k ≡ k
answer_same answer k is = none_answered (is_none k.ends) answer k (not_asked_by k.table.progress k.table is)

-- and no host of a central is asked for a key
refused_same : (answer : Option EndStep) (link : OpenLink) → IfSome answer IsRefusal → link.setup.link.role ≡ Central
    → (central_of (facts_in link).control.table).peer ≡ Absent → refused_facts answer link.setup (facts_in link) ≡ facts_in link
refused_same None link refusals role is = refl
refused_same (Some (RequestAnswered answer)) link refusals role is = λ i. record (facts_in link) { control = answer_same answer (facts_in link).control is i }
refused_same (Some (KeyAnswered key slot)) link refusals role is =
    ap (λ (k : Option (List ℕ)). facts_key_answered k slot (facts_in link)) refusals ∙ key_none link.setup link.past slot role
refused_same (Some other) link refusals role is = absurd refusals

-- ---- the link under its handle after the call

module _ (setup : Setup) (facts : Facts) (octets : List ℕ) (handle : ℕ) (one next : OpenLink) (at : link_at handle facts.links ≡ Some one)
    (on : listens_under handle facts.turn.doing ≡ true) (old : one.setup.opened < facts.turn.slot) (same : next.setup ≡ one.setup)
    (role : one.setup.link.role ≡ Central) (unworded : link_worded setup facts facts.turn.doing one ≡ one) where
  abbrev room : Bool
  room = has_room setup facts

  abbrev received_here : EndFacts
  received_here = received one.setup facts.turn.slot octets room (facts_in one)

  abbrev IsHere : EndFacts → Type 0
  IsHere held = held ≡ refused_facts (refusal_at handle room octets facts one) one.setup received_here

  abbrev sends : Bool
  sends = sends_under handle (facts_after setup facts (PacketHeard octets)).turn.doing

  silent : sends ≡ false
  silent =
      replies_under setup facts (Some octets) octets handle one refl on at
      ∙ central_silent (link_worded setup facts facts.turn.doing one).setup facts.turn.slot octets room (facts_in (link_worded setup facts facts.turn.doing one))
      (ap (λ (l : OpenLink). l.setup.link.role) unworded ∙ role)

  same_link : (a b : OpenLink) → Some a ≡ Some b → a ≡ b
  same_link a b is = cc

  same_octets : (a b : List ℕ) → Some a ≡ Some b → a ≡ b
  same_octets a b is = cc

  -- it is given no words
  same_base : (link : OpenLink) → Some link ≡ Some one → link_worded setup facts facts.turn.doing link ≡ one
  same_base link is = ap (link_worded setup facts facts.turn.doing) (same_link link one is) ∙ unworded

  here : HasPassed setup facts room (Some octets) handle (facts_after setup facts (PacketHeard octets)).turn.doing next → IsHere (facts_in next)
  here (IsNew end made opened off) =
      let now = ap (λ (s : EndSetup). s.opened) (sym same) ∙ ap (λ (l : OpenLink). l.setup.opened) made ∙ opened in absurd (omega (arith, old, now))
  here (Stays was none nothing listened) = absurd (let no = nothing on in cc)
  here (Takes link others was got listened is) =
      ap facts_in is ∙ taking_facts sends handle room others facts (link_worded setup facts facts.turn.doing link)
      ∙ (λ i. sent_if (silent i) (same_base link (sym was ∙ at) i).setup facts.turn.slot
      (refused_facts (refusal_at handle room (same_octets others octets (sym got) i) facts (same_base link (sym was ∙ at) i)) (same_base link (sym was ∙ at) i).setup
      (received (same_base link (sym was ∙ at) i).setup facts.turn.slot (same_octets others octets (sym got) i) room (facts_in (same_base link (sym was ∙ at) i)))))

  pub held_here : IsListening facts facts.turn.doing → link_at handle (facts_after setup facts (PacketHeard octets)).links ≡ Some next → IsHere (facts_in next)
  held_here listening is = here (passes_under setup facts (Some octets) handle next listening is)

  pub prevails_held : (before : EndFacts) (own other : Exclusive) → IsListening facts facts.turn.doing
      → link_at handle (facts_after setup facts (PacketHeard octets)).links ≡ Some next → Prevails before received_here own other
      → Prevails before (facts_in next) own other
  prevails_held before own other listening is prevails =
      let taken = link_after (PacketReceived facts.turn.slot octets room) one in
      let taken_is : facts_in taken ≡ received_here = step_facts one (PacketReceived facts.turn.slot octets room) in
      let same = subst (λ (f : EndFacts). (central_of f.control.table).peer ≡ Absent → refused_facts (refusal_at handle room octets facts one) one.setup f ≡ f) taken_is
      (refused_same (refusal_at handle room octets facts one) taken (refusal_is handle room octets facts one) role) in
      subst (λ (held : EndFacts). Prevails before held own other) (sym (held_here listening is ∙ same prevails.peer)) prevails

-- the facts of the station after the call
pub called_facts : (given : Given) (station : ℕ) (step : Step) (before : List Event)
    → facts_at given station (before ++ Called station step ∷ []) ≡ facts_after (setup_at given station) (facts_at given station before) step
called_facts given station step before =
    ap (facts_of (setup_at given station)) (past_own station step [] before) ∙ facts_more (setup_at given station) (past_of station before) step
