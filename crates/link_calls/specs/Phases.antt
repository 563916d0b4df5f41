-- What a phase of a turn does to the link under one handle (Core 5.2, volume 6 part B, sections 4.5.1, 4.5.9,
-- 5.1.3.1 and 5.1.7).
use Rattle.std.specs.Prelude.{◌≡◌, ℕ, ◌+◌, ◌%◌, ◌^◌, Bool, true, false, List, Option, Some, None, Result, Err}
use Rattle.ble_base.specs.ErrorCodes.{unsupported_remote_feature}
use Rattle.ble_base.specs.declared.error_codes.ErrCode.{ErrCode}
use Rattle.run_laws.specs.run_model.procedure_values.declared.asks.Ask.{Ask}
use Rattle.run_laws.specs.link_model.Setup.{Setup as EndSetup}
use Rattle.run_laws.specs.link_model.Step.{Step as EndStep, PacketReceived, WordsGiven}
use Rattle.run_laws.specs.open_links.OpenLinks.{OpenLink, link_after, link_at, new_link}
use Rattle.run_laws.specs.controller_model.declared.doing.Doing.{Doing}
use Rattle.run_laws.specs.controller_model.declared.doing.Doing.TheVariants.{PeripheralListens}
use Rattle.run_laws.specs.controller_model.Answers.{next_word}
use Rattle.run_laws.specs.controller_model.Facts.{Setup, Facts}
use Rattle.run_laws.specs.controller_model.Heard.{refusal_in}
use Rattle.link_calls.specs.Turns.{sent_if}
use Rattle.link_calls.specs.Uses.{is_on_link, listens_under, sends_under}

-- ---- a link that receives a packet

-- a peripheral is given words before it hears a packet: with them it would answer LL_ENC_REQ (section 5.1.3.1)
abbrev pub link_worded : Setup → Facts → Doing → OpenLink → OpenLink
link_worded setup facts (PeripheralListens other) link =
    link_after (WordsGiven (next_word setup facts.drawn % 2 ^ 64) (next_word setup (facts.drawn + 1) % 2 ^ 32)) link
link_worded setup facts doing link = link

-- a request for parameters whose event the mask of the host withholds is refused at once (section 5.1.7)
abbrev pub refusal : Result Ask ErrCode
refusal = Err (record { 0 = unsupported_remote_feature })

-- that, or the answer to a request for a key, as of a host that has none (section 5.1.3.1)
abbrev pub refusal_at : ℕ → Bool → List ℕ → Facts → OpenLink → Option EndStep
refusal_at handle room octets facts base = refusal_in facts.view handle facts.turn.slot room (Some base) octets

abbrev pub refused_if : Option EndStep → OpenLink → OpenLink
refused_if None link = link
refused_if (Some step) link = link_after step link

abbrev pub base_receiving : ℕ → Bool → List ℕ → Facts → OpenLink → OpenLink
base_receiving handle room octets facts base =
    refused_if (refusal_at handle room octets facts base) (link_after (PacketReceived facts.turn.slot octets room) base)

abbrev pub link_receiving : Setup → ℕ → Bool → List ℕ → Facts → OpenLink → OpenLink
link_receiving setup handle room octets facts link =
    base_receiving handle room octets facts (link_worded setup facts facts.turn.doing link)

-- ---- a phase passes: the link that is open under a handle after it

pub data HasPassed (setup : Setup) (facts : Facts) (room : Bool) (received : Option (List ℕ)) (handle : ℕ)
    (doing : Doing) (after : OpenLink) : Type 0 where
  -- it is new
  IsNew : (end : EndSetup) → after ≡ new_link end → end.opened ≡ facts.turn.slot → is_on_link doing ≡ false
      → HasPassed setup facts room received handle doing after
  -- nothing happened to it
  Stays : link_at handle facts.links ≡ Some after → sends_under handle doing ≡ false
      → (listens_under handle facts.turn.doing ≡ true → received ≡ None)
      → (listens_under handle doing ≡ true → sends_under handle facts.turn.doing ≡ true)
      → HasPassed setup facts room received handle doing after
  -- it received a packet, may have answered a request in it at once, and may have sent its packet
  Takes : (link : OpenLink) (octets : List ℕ) → link_at handle facts.links ≡ Some link → received ≡ Some octets
      → listens_under handle facts.turn.doing ≡ true
      → after
      ≡ sent_if (sends_under handle doing) facts.turn.slot (link_receiving setup handle room octets facts link)
      → HasPassed setup facts room received handle doing after
