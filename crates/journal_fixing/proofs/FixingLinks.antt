-- What a link on which a controller sends or listens fixed, as a turn begins and as a phase passes.
use Rattle.std.proofs.Common.{◌≡◌, ℕ, suc, ◌==◌, ◌||◌, Bool, true, false, Option, Some, None, List, [], ◌∷◌, refl, sym, ap, ◌∙◌, arith}
use Rattle.std.specs.Prelude.{IfSome}
use Rattle.journal_controls.specs.controller_model.declared.doing.Doing.{Doing}
use Rattle.journal_controls.specs.controller_model.declared.doing.Doing.TheVariants.{Advertises, CentralListens, CentralSends, PeripheralListens}
use Rattle.journal_controls.specs.controller_model.declared.doing.Doing.TheVariants.{PeripheralSends}
use Rattle.journal_controls.specs.controller_model.Facts.{Facts, Setup}
use Rattle.journal_controls.specs.journal_acks.link_calls.Phases.{link_receiving, link_worded, refusal_at, refused_if}
use Rattle.journal_controls.specs.journal_acks.link_calls.Turns.{sent_if}
use Rattle.journal_controls.specs.journal_acks.link_calls.Uses.{fixes_under, is_on_link, listens_under, sends_under, uses_under}
use Rattle.journal_controls.specs.link_model.End.{facts_of}
use Rattle.journal_controls.specs.link_model.Step.{Step, KeyAnswered, PacketReceived, PacketSent, RequestAnswered, WordsGiven}
use Rattle.journal_controls.specs.journal_ends.open_links.OpenLinks.{Links, OpenLink, link_after}
use Rattle.journal_controls.proofs.journal_ends.GrownLinks.{IsRefusal, refusal_is}
use Rattle.journal_controls.proofs.journal_ends.run_laws.LinkPhases.{IsInPhase}
use Rattle.journal_fixing.specs.PastFixing.{facts_fixing}
use Rattle.journal_fixing.proofs.FixedPasts.{FixesNone, fixing_stays}

-- ---- which links are used

or_left : (one other : Bool) → other ≡ false → (one || other) ≡ true → one ≡ true
or_left true other none is = refl
or_left false other none is = absurd (let h : false ≡ true = sym none ∙ is in absurd cc)

-- in the first phase an exchange begins on it
pub user_fixes : (handle : ℕ) (links : Links) (doing : Doing) → IsInPhase 0 links doing → uses_under handle doing ≡ true → fixes_under handle doing ≡ true
user_fixes handle links (CentralSends other) is uses = or_left (other == handle) false refl uses
user_fixes handle links (PeripheralListens other) is uses = uses
user_fixes handle links (CentralListens other) is uses = absurd (let same = is.0 in omega (arith, same))
user_fixes handle links (PeripheralSends other) is uses = absurd (let same = is.0 in omega (arith, same))
user_fixes handle links (Advertises channel) is uses = absurd cc
user_fixes handle links doing is uses = absurd cc

-- after the second phase none is
pub late_rests : (phases handle : ℕ) (links : Links) (doing : Doing) → IsInPhase (suc (suc phases)) links doing → uses_under handle doing ≡ false
late_rests phases handle links (CentralSends other) is = absurd (let same = is.0 in omega (arith, same))
late_rests phases handle links (PeripheralListens other) is = absurd (let same = is.0 in omega (arith, same))
late_rests phases handle links (CentralListens other) is = absurd (let same = is.0 in omega (arith, same))
late_rests phases handle links (PeripheralSends other) is = absurd (let same = is.0 in omega (arith, same))
late_rests phases handle links (Advertises channel) is = refl
late_rests phases handle links doing is = refl

pub uses_on : (handle : ℕ) (doing : Doing) → uses_under handle doing ≡ true → is_on_link doing ≡ true
uses_on handle (CentralSends other) uses = refl
uses_on handle (PeripheralListens other) uses = refl
uses_on handle (CentralListens other) uses = refl
uses_on handle (PeripheralSends other) uses = refl
uses_on handle (Advertises channel) uses = absurd cc
uses_on handle doing uses = absurd cc

-- one that does not send listens
pub listens_then : (handle : ℕ) (doing : Doing) → sends_under handle doing ≡ false → uses_under handle doing ≡ true → listens_under handle doing ≡ true
listens_then handle doing none uses = sym (ap (λ b. b || listens_under handle doing) none) ∙ uses

pub sends_uses : (handle : ℕ) (doing : Doing) → sends_under handle doing ≡ true → uses_under handle doing ≡ true
sends_uses handle doing sends = ap (λ b. b || listens_under handle doing) sends

pub listens_uses : (handle : ℕ) (doing : Doing) → listens_under handle doing ≡ true → uses_under handle doing ≡ true
listens_uses handle doing listens = by (sends_under handle doing) listens
  where
    by : (sends : Bool) → listens_under handle doing ≡ true → (sends || listens_under handle doing) ≡ true
    by true listens = refl
    by false listens = listens

-- ---- a packet is received

after_same : (step : Step) (link : OpenLink) → FixesNone step → facts_fixing link.setup (link_after step link).past ≡ facts_fixing link.setup link.past
after_same step link none = ap (facts_of link.setup) (fixing_stays link.past (step ∷ []) (none, tt))

sent_same : (sends : Bool) (slot : ℕ) (link : OpenLink) → facts_fixing (sent_if sends slot link).setup (sent_if sends slot link).past ≡ facts_fixing link.setup link.past
sent_same true slot link = after_same (PacketSent slot) link (λ front before. refl)
sent_same false slot link = refl

refused_same : (refusal : Option Step) (link : OpenLink) → IfSome refusal IsRefusal
    → facts_fixing (refused_if refusal link).setup (refused_if refusal link).past ≡ facts_fixing link.setup link.past
refused_same None link is = refl
refused_same (Some (RequestAnswered answer)) link is = after_same (RequestAnswered answer) link (λ front before. refl)
refused_same (Some (KeyAnswered key slot)) link is = after_same (KeyAnswered key slot) link (λ front before. refl)
refused_same (Some step) link is = absurd is

worded_same : (setup : Setup) (facts : Facts) (doing : Doing) (link : OpenLink) → let worded = link_worded setup facts doing link in
    facts_fixing worded.setup worded.past ≡ facts_fixing link.setup link.past
worded_same setup facts (PeripheralListens handle) link = after_same (WordsGiven _ _) link (λ front before. refl)
worded_same setup facts doing link = refl

pub receiving_fixed : (sends : Bool) (setup : Setup) (handle : ℕ) (room : Bool) (octets : List ℕ) (facts : Facts) (link : OpenLink)
    → let after = sent_if sends facts.turn.slot (link_receiving setup handle room octets facts link) in
    facts_fixing after.setup after.past ≡ facts_fixing link.setup link.past
receiving_fixed sends setup handle room octets facts link =
    let worded = link_worded setup facts facts.turn.doing link in
    let taken = link_after (PacketReceived facts.turn.slot octets room) worded in
    sent_same sends facts.turn.slot (link_receiving setup handle room octets facts link)
    ∙ refused_same (refusal_at handle room octets facts worded) taken (refusal_is handle room octets facts worded)
    ∙ after_same (PacketReceived facts.turn.slot octets room) worded (λ front before. refl)
    ∙ worded_same setup facts facts.turn.doing link
