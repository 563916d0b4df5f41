-- MD of a packet is what waited as the turn began.
use Rattle.std.proofs.Common.{◌≡◌, ℕ, ◌&&◌, ◌||◌, Bool, true, false, List, [], ◌∷◌, refl, ap, ◌∙◌, if◌then◌else◌}
use Rattle.link_model.specs.Setup.{Setup}
use Rattle.link_model.specs.Acknowledgement.{is_acked}
use Rattle.link_model.specs.Data.{Data, data_acked_if, data_given}
use Rattle.link_model.specs.Facts.{Facts}
use Rattle.link_model.specs.Step.{Step, PacketReceived, begins_turn}
use Rattle.link_model.specs.Packets.{more_sent}
use Rattle.link_model.specs.Sending.{control_gone_if, data_sent_as, facts_sent, takes_leave}
use Rattle.link_model.specs.Payload.{payload_made}
use Rattle.link_model.specs.End.{facts_after}
use Rattle.link_model.proofs.TurnParts.{IsOfTurn, gone_leaves, packet_leaves, step_leaves}

given_more : (handle : ℕ) (start : Bool) (body : List ℕ) (outgoing : Data)
    → (data_given handle start body outgoing).more ≡ outgoing.more
given_more handle start [] outgoing = refl
given_more handle start (octet ∷ octets) outgoing = refl

acked_more : (acked : Bool) (outgoing : Data) → (data_acked_if acked outgoing).more ≡ outgoing.more
acked_more true outgoing = refl
acked_more false outgoing = refl

more_of_turn : IsOfTurn (λ outgoing. outgoing.more)
more_of_turn =
    record { given = given_more; gone = λ pdu outgoing. refl; acked = acked_more; reported = λ outgoing. refl }

given_again : (handle : ℕ) (start : Bool) (body : List ℕ) (outgoing : Data)
    → (data_given handle start body outgoing).more_again ≡ outgoing.more_again
given_again handle start [] outgoing = refl
given_again handle start (octet ∷ octets) outgoing = refl

acked_again : (acked : Bool) (outgoing : Data) → (data_acked_if acked outgoing).more_again ≡ outgoing.more_again
acked_again true outgoing = refl
acked_again false outgoing = refl

again_of_turn : IsOfTurn (λ outgoing. outgoing.more_again)
again_of_turn =
    record { given = given_again; gone = λ pdu outgoing. refl; acked = acked_again; reported = λ outgoing. refl }

-- a packet that is sent leaves it
sent_as_again : (payload : List ℕ) (is_new : Bool) (outgoing : Data)
    → (data_sent_as payload is_new outgoing).more_again ≡ outgoing.more_again
sent_as_again payload true outgoing = refl
sent_as_again payload false outgoing = refl

sent_again : (slot : ℕ) (facts : Facts) → (facts_sent slot facts).outgoing.more_again ≡ facts.outgoing.more_again
sent_again slot facts =
    let now = control_gone_if (takes_leave facts) slot facts in
    sent_as_again (payload_made now.encryption.end now.outgoing.fixed) (is_acked now.acknowledgement) now.outgoing
    ∙ gone_leaves (λ outgoing. outgoing.more_again) again_of_turn (takes_leave facts) slot facts

-- ---- as the law has it

pub again_stays : (setup : Setup) (facts : Facts) (step : Step) → begins_turn step ≡ false
    → (facts_after setup facts step).outgoing.more_again ≡ facts.outgoing.more_again
again_stays setup facts step other =
    step_leaves (λ outgoing. outgoing.more_again) again_of_turn setup facts step
    (λ begins. absurd cc) (λ slot. sent_again slot facts)

module _ (setup : Setup) (facts : Facts) (slot : ℕ) (octets : List ℕ) (room : Bool) where
  abbrev after : Facts
  after = facts_after setup facts (PacketReceived slot octets room)

  pub new_more : is_acked after.acknowledgement ≡ true → more_sent after ≡ facts.outgoing.more
  new_more is =
      ap (λ b. if b then after.outgoing.more else after.outgoing.more_again) is
      ∙ packet_leaves (λ outgoing. outgoing.more) more_of_turn setup facts slot octets room

  pub more_again : is_acked after.acknowledgement ≡ false → more_sent after ≡ facts.outgoing.more_again
  more_again is =
      ap (λ b. if b then after.outgoing.more else after.outgoing.more_again) is
      ∙ packet_leaves (λ outgoing. outgoing.more_again) again_of_turn setup facts slot octets room
