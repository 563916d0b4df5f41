-- What it takes for words by lines to be those that the stations of a run draw (our choice).
use Rattle.std.specs.Prelude.{◌≡◌, ℕ, ◌+◌, ◌%◌, ◌^◌, Bool, true, false, List, [], ◌∷◌, ◌++◌}
use Rattle.ble_base.specs.declared.roles.Side.{Side}
use Rattle.journal.specs.declared.entries.Entry.{Entry}
use Rattle.journal.specs.declared.entries.Entry.TheVariants.{Air, Took, Up}
use Rattle.journal_acks.specs.controller_model.Answers.{next_word}
use Rattle.journal_acks.specs.controller_model.Facts.{Facts, Setup}
use Rattle.journal_acks.specs.controller_model.Step.{Step as Call, HostOctet, PacketHeard}
use Rattle.journal_acks.specs.link_model.keyed_control.declared.material.Response.{Response}
use Rattle.journal_acks.specs.run_model.History.{Event, Called}
use Rattle.journal_acks.specs.run_model.Journal.{journal_of, side_of}
use Rattle.journal_acks.specs.run_model.Run.{Given, facts_at, history_of, run_of, setup_at}
use Rattle.journal_ends.specs.Asked.{Words}

-- ---- where they change

-- in the line of a command that is accepted, of a packet, or of a PDU that is taken
abbrev pub may_draw : Entry → Bool
may_draw (Up side octets) = true
may_draw (Air side channel octets fate verdict) = true
may_draw (Took side link count llid body) = true
may_draw line = false

abbrev pub AreKept : Words → Type 0
AreKept words =
    (side : Side) (front : List Entry) (line : Entry) → may_draw line ≡ false
    → words side (front ++ line ∷ []) ≡ words side front

-- ---- where they are drawn

-- in a call with an octet of a host, or as a packet is heard
abbrev pub draws_in_call : Call → Bool
draws_in_call (HostOctet octet) = true
draws_in_call (PacketHeard octets) = true
draws_in_call call = false

-- the next two words of a controller, the second of them by its low half
abbrev pub words_next : Setup → Facts → Response
words_next setup facts =
    record { skd_s = next_word setup facts.drawn % 2 ^ 64; iv_s = next_word setup (facts.drawn + 1) % 2 ^ 32 }

-- before each such call in this history they are those that the controller of its station would draw
pub record GivesWordsIn (given : Given) (words : Words) (history : List Event) : Type 0 where
  pub kept : AreKept words
  pub gives : (before rest : List Event) (station : ℕ) (call : Call)
      → draws_in_call call ≡ true → history ≡ before ++ Called station call ∷ rest
      → words (side_of station) (journal_of before) ≡ words_next (setup_at given station) (facts_at given station before)

-- in all of a run; laws of runs have this premise
abbrev pub GivesWords : Given → Words → Type 0
GivesWords given words = GivesWordsIn given words (history_of (run_of given))
