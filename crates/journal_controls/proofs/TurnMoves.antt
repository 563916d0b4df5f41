-- An end in a turn goes by the lines that the end says in it.
use Rattle.std.proofs.Common.{◌≡◌, ℕ, Bool, true, false, Some, List, [], fold, refl, sym, ap, ◌∙◌}
use Rattle.ble_base.specs.declared.roles.Role.TheVariants.{Central, Peripheral}
use Rattle.ble_base.specs.declared.roles.Side.{Side}
use Rattle.data_pdu.specs.Header.{header_in}
use Rattle.journal_ends.specs.journal_acks.Exchange.{Exchanged}
use Rattle.journal_ends.specs.link_model.Acknowledgement.{Pdu}
use Rattle.journal_ends.specs.link_model.Data.{is_control}
use Rattle.journal_ends.specs.link_model.End.{facts_after, facts_of, notes_after, notes_from}
use Rattle.journal_ends.specs.link_model.Facts.{Facts, keyed_of}
use Rattle.journal_ends.specs.link_model.Packets.{good_pdu}
use Rattle.journal_ends.specs.link_model.Sending.{takes_leave}
use Rattle.journal_ends.specs.link_model.Setup.{Setup}
use Rattle.journal_ends.specs.link_model.Step.{Step, EventEntered, PacketReceived, PacketSent, PduFixed}
use Rattle.journal_ends.specs.link_model.keyed_control.declared.material.Response.{Response}
use Rattle.journal_ends.proofs.link_model.KeyedSteps.{fixed}
use Rattle.journal_controls.specs.KeyedLines.{has_next, keyed_by_all}
use Rattle.journal_controls.specs.LineSteps.{steps_heard}
use Rattle.journal_controls.specs.OneEnd.{IsToldOf, steps_noted}
use Rattle.journal_controls.specs.TurnSteps.{first_if, steps_begun, steps_taken}
use Rattle.journal_controls.proofs.CentralFixed.{IsFree, past_free, step_free}
use Rattle.journal_controls.proofs.EndMoves.{AreByLines, by_none, by_then}
use Rattle.journal_controls.proofs.EndSteps.{central_sends_free, entry_moves, good_leave, left_sends, packet_moves}
use Rattle.journal_controls.proofs.NotedSteps.{joined, noted_both}

module _ (side : Side) (number : ℕ) (response : Response) (slot : ℕ) (setup : Setup) where
  -- ---- as a turn begins

  sends_by : (sends : Bool) (facts : Facts) → (setup.link.role ≡ Central → IsFree facts) → (sends ≡ true → setup.link.role ≡ Central)
      → AreByLines side number response slot setup facts (first_if sends (PacketSent slot) [])
  sends_by false facts free central = by_none side number response slot setup facts
  sends_by true facts free central =
      let role = central refl in
      by_then side number response slot setup facts (PacketSent slot) []
      (central_sends_free side number response slot setup facts (free role)
      ∙ ap (λ r. keyed_by_all (steps_noted side number r response slot (notes_after setup facts (PacketSent slot))) (keyed_of facts)) (sym role))
      (by_none side number response slot setup (facts_after setup facts (PacketSent slot)))

  fixes_by : (fixes sends : Bool) (facts : Facts) → (setup.link.role ≡ Central → IsFree facts) → (sends ≡ true → setup.link.role ≡ Central)
      → AreByLines side number response slot setup facts (first_if fixes PduFixed (first_if sends (PacketSent slot) []))
  fixes_by false sends facts free central = sends_by sends facts free central
  fixes_by true sends facts free central =
      by_then side number response slot setup facts PduFixed (first_if sends (PacketSent slot) []) (fixed (is_control facts.outgoing.fixed) facts)
      (sends_by sends (facts_after setup facts PduFixed) (λ role. step_free setup role facts PduFixed (free role)) central)

  begins_by : (enters fixes sends : Bool) (facts : Facts) → (setup.link.role ≡ Central → IsFree facts) → (sends ≡ true → setup.link.role ≡ Central)
      → AreByLines side number response slot setup facts (steps_begun enters fixes sends slot)
  begins_by false fixes sends facts free central = fixes_by fixes sends facts free central
  begins_by true fixes sends facts free central =
      by_then side number response slot setup facts (EventEntered slot) (first_if fixes PduFixed (first_if sends (PacketSent slot) []))
      (entry_moves side number response slot setup facts)
      (fixes_by fixes sends (facts_after setup facts (EventEntered slot)) (λ role. step_free setup role facts (EventEntered slot) (free role)) central)

  pub turn_moves : (past : List Step) (enters fixes sends : Bool) → (sends ≡ true → setup.link.role ≡ Central)
      → AreByLines side number response slot setup (facts_of setup past) (steps_begun enters fixes sends slot)
  turn_moves past enters fixes sends central = begins_by enters fixes sends (facts_of setup past) (λ role. past_free setup role past) central

  -- ---- as a packet is taken

  -- a peripheral sends what left the queue
  pub left_answers : (now : Facts) (answers : Bool) → (answers ≡ true → setup.link.role ≡ Peripheral) → (answers ≡ true → takes_leave now ≡ false)
      → AreByLines side number response slot setup now (first_if answers (PacketSent slot) [])
  left_answers now false peripheral leaves = by_none side number response slot setup now
  left_answers now true peripheral leaves =
      by_then side number response slot setup now (PacketSent slot) []
      (left_sends side number response slot setup now (leaves refl)
      ∙ ap (λ r. keyed_by_all (steps_noted side number r response slot (notes_after setup now (PacketSent slot))) (keyed_of now)) (sym (peripheral refl)))
      (by_none side number response slot setup (facts_after setup now (PacketSent slot)))

  module _ (octets pdu : List ℕ) (room : Bool) (facts : Facts) (good : good_pdu setup facts octets ≡ Some pdu) where
    abbrev now : Facts
    now = facts_after setup facts (PacketReceived slot octets room)

    pub answers_by : (answers : Bool) → (answers ≡ true → setup.link.role ≡ Peripheral) → AreByLines side number response slot setup now (first_if answers (PacketSent slot) [])
    answers_by answers peripheral = left_answers now answers peripheral (λ yes. good_leave slot octets pdu room setup facts (peripheral yes) good)

    pub taking_moves : (answers : Bool) (before after : Exchanged) (last : Pdu) → facts.encryption.response ≡ response → (answers ≡ true → setup.link.role ≡ Peripheral)
        → IsToldOf setup.link.role facts (header_in pdu) before after last
        → let steps = steps_taken slot octets room answers in
        keyed_of (fold (facts_after setup) facts steps)
        ≡ keyed_by_all (steps_noted side number setup.link.role response slot (notes_from setup facts steps))
        (keyed_by_all (steps_heard setup.link.role slot before after last (has_next (keyed_of facts))) (keyed_of facts))
    taking_moves answers before after last drawn peripheral told =
        let role = setup.link.role in
        let heard = keyed_by_all (steps_heard role slot before after last (has_next (keyed_of facts))) (keyed_of facts) in
        let here = notes_after setup facts (PacketReceived slot octets room) in
        let later = notes_from setup now (first_if answers (PacketSent slot) []) in
        answers_by answers peripheral
        ∙ ap (keyed_by_all (steps_noted side number role response slot later))
        (packet_moves side number slot room setup facts before after last octets pdu good told
        ∙ ap (λ r. keyed_by_all (steps_noted side number role r slot here) heard) drawn)
        ∙ sym (joined (steps_noted side number role response slot here) (steps_noted side number role response slot later) heard)
        ∙ sym (ap (λ all. keyed_by_all all heard) (noted_both side number role response slot here later))
