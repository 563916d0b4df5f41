-- An end that replies to a packet is a peripheral, and the packet is good.
use Rattle.std.proofs.Common.{◌≡◌, ℕ, Bool, true, false, Option, Some, None, List, refl, sym, ap, ◌∙◌}
use Rattle.ble_base.specs.declared.roles.Role.{Role}
use Rattle.ble_base.specs.declared.roles.Role.TheVariants.{Central, Peripheral}
use Rattle.journal_ends.specs.controller_model.Facts.{Setup as StationSetup, Facts as StationFacts}
use Rattle.journal_ends.specs.controller_model.declared.doing.Doing.TheVariants.{PeripheralListens}
use Rattle.journal_ends.specs.link_model.Facts.{Facts}
use Rattle.journal_ends.specs.link_model.Packets.{good_pdu}
use Rattle.journal_ends.specs.link_model.Receiving.{replies_by, replies_of}
use Rattle.journal_ends.specs.link_model.Setup.{Setup}
use Rattle.journal_ends.specs.open_links.OpenLinks.{OpenLink, facts_in}
use Rattle.journal_ends.proofs.WordedLinks.{IsWordedAs, same_as, worded_as, worded_good}
use Rattle.journal_ends.proofs.journal_acks.Worded.{link_worded}

pub record IsReply (setup : Setup) (facts : Facts) (octets : List ℕ) : Type 0 where
  pub role : setup.link.role ≡ Peripheral
  pub pdu : List ℕ
  pub good : good_pdu setup facts octets ≡ Some pdu

reply_by : (setup : Setup) (facts : Facts) (octets : List ℕ) (role : Role) (ended : Bool) (found : Option (List ℕ)) → setup.link.role ≡ role → good_pdu setup facts octets ≡ found
    → replies_by role ended found ≡ true → IsReply setup facts octets
reply_by setup facts octets Central ended found role_is good is = absurd cc
reply_by setup facts octets Peripheral ended None role_is good is = absurd cc
reply_by setup facts octets Peripheral ended (Some pdu) role_is good is = record { role = role_is; pdu = pdu; good = good }

pub replies_as : (setup : Setup) (facts : Facts) (slot : ℕ) (octets : List ℕ) (room : Bool) → replies_of setup facts slot octets room ≡ true → IsReply setup facts octets
unfolding replies_of
replies_as setup facts slot octets room is = reply_by setup facts octets setup.link.role _ (good_pdu setup facts octets) refl refl is

-- ---- also with words

pub worded_reply : (link base : OpenLink) → IsWordedAs link base → (octets : List ℕ) → IsReply base.setup (facts_in base) octets → IsReply link.setup (facts_in link) octets
worded_reply link base words octets reply = record {
  role = ap (λ (end : Setup). end.link.role) (sym words.setup_is) ∙ reply.role;
  pdu = reply.pdu;
  good = sym (worded_good link base words octets) ∙ reply.good;
}

pub words_are : (words : Bool) (setup : StationSetup) (facts : StationFacts) (link : OpenLink) → IsWordedAs link (link_worded words setup facts link)
words_are true setup facts link = worded_as setup facts (PeripheralListens 0) link
words_are false setup facts link = same_as link
