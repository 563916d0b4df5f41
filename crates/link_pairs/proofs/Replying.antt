-- Whether an end answers what it received: not a forged packet.
use Rattle.std.proofs.Common.{◌≡◌, ℕ, Bool, true, false, List, Option, None, is_some, refl, sym, ap, ◌∙◌}
use Rattle.ble_base.specs.declared.roles.Role.{Role}
use Rattle.ble_base.specs.declared.roles.Role.TheVariants.{Central, Peripheral}
use Rattle.link_model.specs.Facts.{Facts}
use Rattle.link_model.specs.Packets.{good_pdu, is_forged}
use Rattle.link_model.specs.Receiving.{ended_by_forgery, facts_forged_if, facts_received, has_ended, replies_by, replies_of}
use Rattle.link_model.specs.Setup.{Setup}
use Rattle.link_model.specs.Step.{PacketReceived}
use Rattle.link_model.proofs.KeyedSteps.{forged_ends, forged_none}
use Rattle.link_pairs.specs.Hearing.{received}

-- a good packet is not forged
pub good_not_forged : (setup : Setup) (facts : Facts) (octets : List ℕ) → is_some (good_pdu setup facts octets) ≡ true → is_forged setup facts octets ≡ false
good_not_forged setup facts octets good = by (is_forged setup facts octets) refl
  where
    by : (b : Bool) → is_forged setup facts octets ≡ b → b ≡ false
    by true is = absurd (let none = sym good ∙ ap (λ (o : Option (List ℕ)). is_some o) (forged_none setup facts octets is) in cc)
    by false is = refl

pub replies_as : (setup : Setup) (facts : Facts) (slot : ℕ) (octets : List ℕ) (room : Bool) → is_forged setup facts octets ≡ false
    → replies_of setup facts slot octets room
    ≡ replies_by setup.link.role (has_ended (received setup slot octets room facts)) (good_pdu setup facts octets)
unfolding replies_of
replies_as setup facts slot octets room genuine =
    ap
    (λ (b : Bool). replies_by setup.link.role (has_ended (facts_forged_if b (facts_received setup.link.role slot room (good_pdu setup facts octets) facts)))
    (good_pdu setup facts octets))
    (sym genuine)

-- a forged one ends the link and is not answered
module _ (setup : Setup) (facts : Facts) (slot : ℕ) (octets : List ℕ) (room : Bool) (forged : is_forged setup facts octets ≡ true) where
  pub received_forged : received setup slot octets room facts ≡ record facts { control = ended_by_forgery facts.control }
  received_forged = forged_ends setup facts (PacketReceived slot octets room) forged

  none_answered : (role : Role) (ended : Bool) → replies_by role ended None ≡ false
  none_answered Central ended = refl
  none_answered Peripheral ended = refl

  pub forged_unanswered : replies_of setup facts slot octets room ≡ false
  unfolding replies_of
  forged_unanswered =
      (λ i. replies_by setup.link.role (has_ended (facts_received setup.link.role slot room (forged_none setup facts octets forged i) facts))
      (forged_none setup facts octets forged i))
      ∙ none_answered setup.link.role (has_ended facts)
