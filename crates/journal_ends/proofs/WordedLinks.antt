-- A peripheral is given words before it hears a packet. It says and hears nothing by that, and is as it was but for what it
-- would draw.
use Rattle.std.proofs.Common.{◌≡◌, ℕ, true, Option, Some, None, List, [], ◌∷◌, refl, ap, ◌∙◌, append-nil}
use Rattle.std.specs.Option.{option_map}
use Rattle.std.proofs.lemmas.Bool.{eqb-true}
use Rattle.ble_base.specs.declared.roles.Side.{Side}
use Rattle.journal_acks.specs.controller_model.Facts.{Setup as StationSetup, Facts as StationFacts}
use Rattle.journal_acks.specs.controller_model.Since.{notes_opened_on}
use Rattle.journal_acks.specs.controller_model.declared.doing.Doing.{Doing}
use Rattle.journal_acks.specs.controller_model.declared.doing.Doing.TheVariants.{Advertises, CentralListens, PeripheralListens}
use Rattle.journal_acks.specs.controller_model.Heard.{facts_with_words, heard, link_heard}
use Rattle.journal_acks.specs.link_calls.Phases.{link_worded}
use Rattle.journal_acks.specs.link_calls.Uses.{listens_under}
use Rattle.journal_acks.specs.link_model.Facts.{Facts}
use Rattle.journal_acks.specs.link_model.Packets.{good_pdu, verdict_of, whole_pdu}
use Rattle.journal_acks.specs.link_model.Setup.{Setup}
use Rattle.journal_acks.specs.link_model.Step.{WordsGiven}
use Rattle.journal_acks.specs.link_model.keyed_control.declared.material.Response.{Response}
use Rattle.journal_acks.specs.open_links.OpenLinks.{Links, OpenLink, facts_in, link_after, link_at, with_change}
use Rattle.journal_acks.proofs.open_links.Handles.{changed_is}
use Rattle.journal_acks.proofs.run_laws.Agreed.{step_facts}
use Rattle.journal_ends.specs.Seen.{seen_of}
use Rattle.journal_ends.proofs.PastSeen.{notes_more, seen_grows}

-- an end that would draw this
abbrev pub with_response : Response → Facts → Facts
with_response response facts = record facts { encryption = record facts.encryption { response = response } }

pub record IsWordedAs (link base : OpenLink) : Type 0 where
  pub response : Response
  pub setup_is : base.setup ≡ link.setup
  pub facts_is : facts_in base ≡ with_response response (facts_in link)
  pub notes : notes_opened_on base.setup base.past ≡ notes_opened_on link.setup link.past
  pub seen : (side : Side) (number : ℕ) → seen_of side number base.setup base.past ≡ seen_of side number link.setup link.past

pub same_as : (link : OpenLink) → IsWordedAs link link
same_as link = record {
  response = (facts_in link).encryption.response;
  setup_is = refl;
  facts_is = refl;
  notes = refl;
  seen = λ side number. refl;
}

words_as : (skd_s iv_s : ℕ) (link : OpenLink) → IsWordedAs link (link_after (WordsGiven skd_s iv_s) link)
words_as skd_s iv_s link =
    let step = WordsGiven skd_s iv_s in record {
      response = record { skd_s = skd_s; iv_s = iv_s };
      setup_is = refl;
      facts_is = step_facts link step;
      notes = notes_more link.setup link.past (step ∷ []) ∙ append-nil (notes_opened_on link.setup link.past);
      seen = λ side number. seen_grows side number link.setup link.past (step ∷ []) ∙ append-nil (seen_of side number link.setup link.past);
    }

pub worded_as : (setup : StationSetup) (facts : StationFacts) (doing : Doing) (link : OpenLink) → IsWordedAs link (link_worded setup facts doing link)
worded_as setup facts (PeripheralListens handle) link = words_as _ _ link
worded_as setup facts doing link = same_as link

-- ---- what it makes of octets does not depend on that

verdict_still : (setup : Setup) (facts : Facts) (response : Response) (octets : List ℕ)
    → verdict_of setup (with_response response facts) octets ≡ verdict_of setup facts octets
unfolding verdict_of
verdict_still setup facts response octets = refl

good_still : (setup : Setup) (facts : Facts) (response : Response) (octets : List ℕ)
    → good_pdu setup (with_response response facts) octets ≡ good_pdu setup facts octets
unfolding good_pdu whole_pdu
good_still setup facts response octets = refl

module _ (link base : OpenLink) (is : IsWordedAs link base) (octets : List ℕ) where
  pub worded_verdict : verdict_of base.setup (facts_in base) octets ≡ verdict_of link.setup (facts_in link) octets
  worded_verdict =
      (λ i. verdict_of (is.setup_is i) (is.facts_is i) octets) ∙ verdict_still link.setup (facts_in link) is.response octets

  pub worded_good : good_pdu base.setup (facts_in base) octets ≡ good_pdu link.setup (facts_in link) octets
  worded_good = (λ i. good_pdu (is.setup_is i) (is.facts_is i) octets) ∙ good_still link.setup (facts_in link) is.response octets

-- ---- at its controller

-- the links as a packet is heard on the one under a handle
abbrev pub links_on : StationSetup → StationFacts → Doing → ℕ → Links
links_on setup facts (PeripheralListens other) handle = (facts_with_words setup handle facts).links
links_on setup facts doing handle = facts.links

abbrev pub facts_on : StationSetup → StationFacts → Doing → ℕ → StationFacts
facts_on setup facts doing handle = record facts { links = links_on setup facts doing handle }

changed_at : (change : OpenLink → OpenLink) (handle : ℕ) (links : Links) (found : Option OpenLink) → link_at handle links ≡ found
    → link_at handle (with_change handle change links) ≡ option_map change found
changed_at change handle links found at = changed_is (option_map change) 0 handle links refl ∙ ap (option_map change) at

pub worded_at : (setup : StationSetup) (facts : StationFacts) (doing : Doing) (handle : ℕ) (link : OpenLink) → link_at handle facts.links ≡ Some link
    → link_at handle (facts_on setup facts doing handle).links ≡ Some (link_worded setup facts doing link)
worded_at setup facts (PeripheralListens other) handle link at = changed_at (link_worded setup facts (PeripheralListens other)) handle facts.links (Some link) at
worded_at setup facts doing handle link at = at

pub worded_none : (setup : StationSetup) (facts : StationFacts) (doing : Doing) (handle : ℕ) → link_at handle facts.links ≡ None
    → link_at handle (facts_on setup facts doing handle).links ≡ None
worded_none setup facts (PeripheralListens other) handle none = changed_at (link_worded setup facts (PeripheralListens other)) handle facts.links None none
worded_none setup facts doing handle none = none

pub heard_on : (setup : StationSetup) (facts : StationFacts) (octets : List ℕ) (handle : ℕ) (doing : Doing) → listens_under handle doing ≡ true
    → heard setup doing octets facts ≡ link_heard setup handle octets (facts_on setup facts doing handle)
heard_on setup facts octets handle (CentralListens other) on = ap (λ n. link_heard setup n octets facts) (eqb-true other handle on)
heard_on setup facts octets handle (PeripheralListens other) on = ap (λ n. link_heard setup n octets (facts_with_words setup n facts)) (eqb-true other handle on)
heard_on setup facts octets handle (Advertises channel) on = absurd cc
heard_on setup facts octets handle other on = absurd cc
