-- A link as it hears a packet: a peripheral is given words before, and a request in the packet may be answered at once.
-- Neither changes what it sent and accepted.
use Rattle.std.proofs.Common.{◌≡◌, ℕ, Bool, true, false, Option, Some, None, IfSome, List, refl, ap, ◌∙◌, if◌then◌else◌}
use Rattle.std.specs.Option.{option_map}
use Rattle.journal_packets.specs.link_model.Step.{Step as EndStep, PacketReceived, WordsGiven}
use Rattle.journal_packets.specs.open_links.OpenLinks.{OpenLink, link_after, link_at}
use Rattle.journal_packets.specs.controller_model.Facts.{Facts, Setup}
use Rattle.journal_packets.specs.controller_model.Heard.{facts_with_words}
use Rattle.journal_packets.specs.controller_model.declared.doing.Doing.TheVariants.{PeripheralListens}
use Rattle.journal_packets.proofs.controller_model.Asked.{IsAskedStep}
use Rattle.journal_packets.proofs.controller_model.Places.{link_receiving, refusal_at, refusal_is, refused_if}
use Rattle.journal_packets.proofs.run_laws.Agreed.{ack_asked, ack_of}
use Rattle.link_calls.specs.Phases.{link_worded as worded_in}
use Rattle.link_calls.proofs.UnderHandles.{change_by}
use Rattle.link_calls.proofs.Worded.{given_ack, given_good, given_heard}
use Rattle.journal_acks.proofs.Counting.{ack_taking, has_own_line}
use Rattle.journal_acks.proofs.TwoStations.{same_number}

-- ---- words

-- the facts as a packet is heard on the link under a handle: it is that of a peripheral, which is given words, or it is not
abbrev pub worded : Bool → Setup → ℕ → Facts → Facts
worded words setup other facts = record facts { links = (if words then (facts_with_words setup other facts).links else facts.links) }

-- and the link
abbrev pub link_worded : Bool → Setup → Facts → OpenLink → OpenLink
link_worded words setup facts link = if words then worded_in setup facts (PeripheralListens 0) link else link

pub worded_here : (words : Bool) (setup : Setup) (other : ℕ) (facts : Facts) (found : Option OpenLink) → link_at other facts.links ≡ found
    → link_at other (worded words setup other facts).links ≡ option_map (link_worded words setup facts) found
worded_here true setup other facts found is =
    let change : OpenLink → OpenLink = worded_in setup facts (PeripheralListens 0) in
    change_by true other other change facts.links (same_number other) ∙ ap (option_map change) is
worded_here false setup other facts None is = is
worded_here false setup other facts (Some link) is = is

-- ---- words change nothing of what is sent and accepted

given_taking : (skd_s iv_s : ℕ) (link : OpenLink) (slot : ℕ) (octets : List ℕ)
    → ack_taking true (Some octets) slot (link_after (WordsGiven skd_s iv_s) link) ≡ ack_taking true (Some octets) slot link
given_taking skd_s iv_s link slot octets =
    let heard = given_heard skd_s iv_s link slot octets false in
    let own = ap has_own_line (given_good skd_s iv_s link octets) in
    let ack = given_ack skd_s iv_s link in
    (λ i. record (heard i) { accepted = (if own i then (ack i).accepted else (heard i).accepted) })

module _ (setup : Setup) (facts : Facts) (link : OpenLink) where
  pub worded_setup : (words : Bool) → (link_worded words setup facts link).setup ≡ link.setup
  worded_setup true = refl
  worded_setup false = refl

  pub worded_ack : (words : Bool) → ack_of (link_worded words setup facts link) ≡ ack_of link
  worded_ack true = given_ack _ _ link
  worded_ack false = refl

  pub worded_heard : (words : Bool) (slot : ℕ) (octets : List ℕ) (room : Bool)
      → ack_of (link_after (PacketReceived slot octets room) (link_worded words setup facts link)) ≡ ack_of (link_after (PacketReceived slot octets room) link)
  worded_heard true slot octets room = given_heard _ _ link slot octets room
  worded_heard false slot octets room = refl

  pub worded_taking : (words : Bool) (slot : ℕ) (octets : List ℕ) → ack_taking true (Some octets) slot (link_worded words setup facts link) ≡ ack_taking true (Some octets) slot link
  worded_taking true slot octets = given_taking _ _ link slot octets
  worded_taking false slot octets = refl

-- ---- a request that is answered at once

pub received_ack_is : (other : ℕ) (room : Bool) (octets : List ℕ) (facts : Facts) (link : OpenLink)
    → ack_of (link_receiving other room octets facts link) ≡ ack_of (link_after (PacketReceived facts.turn.slot octets room) link)
received_ack_is other room octets facts link = by (refusal_at other room octets facts) (refusal_is other room octets facts)
  where
    taken : OpenLink
    taken = link_after (PacketReceived facts.turn.slot octets room) link

    by : (refusal : Option EndStep) → IfSome refusal IsAskedStep → ack_of (refused_if refusal taken) ≡ ack_of taken
    by None is = refl
    by (Some step) is = ack_asked step taken is
