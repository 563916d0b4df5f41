-- An initiator makes a link with each device that it is to connect to.
use Rattle.std.proofs.Common.{◌≡◌, ℕ, ◌≤◌, Bool, true, false, Option, Some, None, List, rules}
use Rattle.std.specs.Prelude.{is_some, IsSome}
use Rattle.adv_pdu.specs.declared.pdu.AdvPdu.{AdvPdu}
use Rattle.adv_pdu.specs.Ranges.{is_in_range}
use Rattle.host_view.specs.scan_init.Access.{nth_access}
use Rattle.host_view.specs.scan_init.Initiating.{InitiatorFacts}
use Rattle.link_commands.specs.open_links.link_model.declared.setup.LinkSetup.{LinkSetup}
use Rattle.link_commands.specs.open_links.OpenLinks.{free_from}
use Rattle.controller_model.specs.declared.doing.Doing.TheVariants.{Initiates}
use Rattle.controller_model.specs.Step.{Step}
use Rattle.controller_model.specs.Facts.{Setup, Facts}
use Rattle.controller_model.specs.Connecting.{SendsEach}
use Rattle.controller_model.specs.Heard.{access_found, answers_by_connecting, fields_sent, link_if, link_to, link_under, link_wanted, link_with}
use Rattle.controller_model.specs.Side.{facts_of}
use Rattle.controller_model.proofs.AccessAddresses.{initiators_have_addresses}
use Rattle.controller_model.proofs.FreeHandles.{initiators_have_handles}
use Rattle.controller_model.proofs.Requests.{asks_in_range}

module _ (setup : Setup) (facts : Facts) (on : InitiatorFacts) (pdu : AdvPdu)
    (in_range : (access : ℕ) → is_in_range (fields_sent setup on access facts) ≡ true) where
  made_if : (test : Bool) (link : LinkSetup) → test ≡ true → IsSome (link_if test link)
  made_if true link is = search rules
  made_if false link is = absurd (let h : false ≡ true = is in absurd cc)

  made_under : (free : Option ℕ) (access : ℕ) → IsSome free → IsSome (link_under free setup on pdu access facts)
  made_under None access is = absurd (let h : false ≡ true = is in absurd cc)
  made_under (Some handle) access is = made_if (is_in_range (fields_sent setup on access facts)) _ (in_range access)

  made_with : (found : Option (ℕ × ℕ)) → is_some found ≡ true → IsSome (free_from 0 facts.links)
      → IsSome (link_with (access_found found) setup on pdu facts)
  made_with None is free = absurd (let h : false ≡ true = is in absurd cc)
  made_with (Some pair) is free = made_under (free_from 0 facts.links) pair.0 free

  made_wanted : (answers : Bool) → answers ≡ true → is_some (nth_access setup.cursor facts.connections) ≡ true
      → IsSome (free_from 0 facts.links) → IsSome (link_wanted answers setup on pdu facts)
  made_wanted true is next free = made_with (nth_access setup.cursor facts.connections) next free
  made_wanted false is next free = absurd (let h : false ≡ true = is in absurd cc)

pub link_is_made : (setup : Setup) (past : List Step) (on : InitiatorFacts) (channel : ℕ) (pdu : AdvPdu) → setup.links ≤ 6 → SendsEach setup past
    → (facts_of setup past).initiator ≡ Some on → (facts_of setup past).turn.doing ≡ Initiates channel
    → answers_by_connecting on pdu (facts_of setup past) ≡ true → IsSome (link_to setup on pdu (facts_of setup past))
link_is_made setup past on channel pdu few sends is doing answers =
    let facts = facts_of setup past in
    made_wanted setup facts on pdu (λ access. asks_in_range setup past on access is) (answers_by_connecting on pdu facts) answers
    (initiators_have_addresses setup past on channel sends is doing) (initiators_have_handles setup past on few is)
