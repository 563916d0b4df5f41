-- A peripheral is given words before it hears a packet: with them it would answer LL_ENC_REQ (Core 5.2, volume 6 part B,
-- section 5.1.3.1). What it hears is the same with them.
use Rattle.std.proofs.Common.{◌≡◌, ℕ, ◌%◌, ◌^◌, ◌<◌, List, refl, ap, ◌∙◌, arith}
use Rattle.std.proofs.Math.Nat.{mod-lt}
use Rattle.data_pdu.specs.Layouts.{IsCtrl}
use Rattle.data_pdu.specs.declared.ctrl.Ctrl.TheVariants.{EncRsp}
use Rattle.link_calls.specs.link_model.Facts.{Facts as EndFacts}
use Rattle.link_calls.specs.link_model.Hosts.{facts_with_words}
use Rattle.link_calls.specs.link_model.Packets.{good_pdu, verdict_of, whole_pdu}
use Rattle.link_calls.specs.link_model.Setup.{Setup as EndSetup}
use Rattle.link_calls.proofs.link_model.KeyedPasts.{past_in_phase}
use Rattle.link_runs.specs.link_pairs.Hearing.{is_mixed_packet}
use Rattle.link_calls.specs.link_model.Step.{WordsGiven}
use Rattle.link_calls.specs.open_links.OpenLinks.{OpenLink, facts_in, link_after}
use Rattle.link_calls.specs.controller_model.declared.doing.Doing.{Doing}
use Rattle.link_calls.specs.controller_model.declared.doing.Doing.TheVariants.{Advertises, PeripheralListens}
use Rattle.link_calls.specs.controller_model.Facts.{Setup, Facts}
use Rattle.link_calls.specs.Phases.{link_worded}
use Rattle.link_calls.proofs.Worded.{each_worded}
use Rattle.link_calls.proofs.run_laws.Agreed.{step_facts}

-- two random words, the second by its low half, fit LL_ENC_RSP
words_fit : (first second : ℕ) → IsCtrl (EncRsp (first % 2 ^ 64) (second % 2 ^ 32))
words_fit first second =
    let whole : first % 2 ^ 64 < 2 ^ 64 = mod-lt first (omega arith) in
    let half : second % 2 ^ 32 < 2 ^ 32 = mod-lt second (omega arith) in
    record { fits = (omega arith, (omega (arith, whole), (omega (arith, half), tt))); six_offsets = tt; range = tt }

-- so a fact of a link that is given words in their range, or none
pub fitting_words : (P : OpenLink → Type 0) (setup : Setup) (facts : Facts) (doing : Doing) (link : OpenLink) → P link
    → ((skd_s iv_s : ℕ) → IsCtrl (EncRsp skd_s iv_s) → P (link_after (WordsGiven skd_s iv_s) link)) → P (link_worded setup facts doing link)
fitting_words P setup facts (PeripheralListens other) link same words = words _ _ (words_fit _ _)
fitting_words P setup facts (Advertises channel) link same words = same
fitting_words P setup facts other link same words = same

-- it is on the same channel
pub worded_channel : (setup : Setup) (facts : Facts) (doing : Doing) (link : OpenLink)
    → (facts_in (link_worded setup facts doing link)).event.channel ≡ (facts_in link).event.channel
worded_channel setup facts doing link =
    each_worded (λ base. (facts_in base).event.channel ≡ (facts_in link).event.channel) setup facts doing link refl
    (λ skd_s iv_s. ap (λ (f : EndFacts). f.event.channel) (step_facts link (WordsGiven skd_s iv_s)))

-- it is in the same event
pub worded_slot : (setup : Setup) (facts : Facts) (doing : Doing) (link : OpenLink)
    → (facts_in (link_worded setup facts doing link)).event.slot ≡ (facts_in link).event.slot
worded_slot setup facts doing link =
    each_worded (λ base. (facts_in base).event.slot ≡ (facts_in link).event.slot) setup facts doing link refl
    (λ skd_s iv_s. ap (λ (f : EndFacts). f.event.slot) (step_facts link (WordsGiven skd_s iv_s)))

-- and judges a packet as before
verdict_same : (end : EndSetup) (skd_s iv_s : ℕ) (octets : List ℕ) (facts : EndFacts)
    → verdict_of end (facts_with_words skd_s iv_s facts) octets ≡ verdict_of end facts octets
unfolding verdict_of
verdict_same end skd_s iv_s octets facts = refl

pub worded_verdict : (end : EndSetup) (setup : Setup) (facts : Facts) (doing : Doing) (link : OpenLink) (octets : List ℕ)
    → verdict_of end (facts_in (link_worded setup facts doing link)) octets ≡ verdict_of end (facts_in link) octets
worded_verdict end setup facts doing link octets =
    each_worded (λ base. verdict_of end (facts_in base) octets ≡ verdict_of end (facts_in link) octets) setup facts doing link refl
    (λ skd_s iv_s.
    ap (λ (f : EndFacts). verdict_of end f octets) (step_facts link (WordsGiven skd_s iv_s))
    ∙ verdict_same end skd_s iv_s octets (facts_in link))

-- a packet is mixed for it as before
mixed_same : (end : EndSetup) (skd_s iv_s : ℕ) (octets : List ℕ) (facts sender : EndFacts)
    → is_mixed_packet end (facts_with_words skd_s iv_s facts) sender octets ≡ is_mixed_packet end facts sender octets
unfolding is_mixed_packet good_pdu whole_pdu
mixed_same end skd_s iv_s octets facts sender = refl

pub worded_mixed : (end : EndSetup) (setup : Setup) (facts : Facts) (doing : Doing) (link : OpenLink) (sender : EndFacts) (octets : List ℕ)
    → is_mixed_packet end (facts_in (link_worded setup facts doing link)) sender octets ≡ is_mixed_packet end (facts_in link) sender octets
worded_mixed end setup facts doing link sender octets =
    each_worded (λ base. is_mixed_packet end (facts_in base) sender octets ≡ is_mixed_packet end (facts_in link) sender octets) setup facts doing link refl
    (λ skd_s iv_s.
    ap (λ (f : EndFacts). is_mixed_packet end f sender octets) (step_facts link (WordsGiven skd_s iv_s))
    ∙ mixed_same end skd_s iv_s octets (facts_in link) sender)

-- the session of a link is in the phase of its procedures
pub link_in_phase : (link : OpenLink) → (facts_in link).encryption.end.phase ≡ (facts_in link).encryption.phase
link_in_phase link = past_in_phase link.setup link.past

-- and reads the same in it
pub good_same : (end : EndSetup) (skd_s iv_s : ℕ) (octets : List ℕ) (facts : EndFacts)
    → good_pdu end (facts_with_words skd_s iv_s facts) octets ≡ good_pdu end facts octets
unfolding good_pdu whole_pdu
good_same end skd_s iv_s octets facts = refl
