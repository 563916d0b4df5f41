-- The packets of links as their ends seal, open and judge them, by the lines of a journal alone (Core 5.2, volume 6 part B,
-- sections 2.4, 4.5.9 and 5.1.3, and part E, section 2).
use Rattle.std.specs.Prelude.{◌≡◌, ℕ, false, List, ◌∷◌, ◌++◌}
use Rattle.ble_base.specs.declared.roles.Side.{Side}
use Rattle.ble_base.specs.declared.verdicts.Verdict.{Verdict}
use Rattle.journal.specs.declared.entries.Entry.{Entry}
use Rattle.journal.specs.declared.entries.Entry.TheVariants.{Air}
use Rattle.journal.specs.declared.entries.Mark.{Mark}
use Rattle.journal_seals.specs.journal_forgeries.Forgeries.{AllForgedAreOfOtherKeys}
use Rattle.journal_seals.specs.journal_sealing.Judged.{AllVerdictsAreOfLines}
use Rattle.journal_seals.specs.journal_sealing.SealedLines.{AllPayloadsAreOfLines, IsSentAgain}
use Rattle.journal_seals.specs.Seals.{AllAreSealedAsOpened}
use Rattle.journal_moves.specs.journal_wants.journal_sending.journal_controls.journal_ends.Asked.{Words}
use Rattle.journal_moves.specs.journal_wants.journal_sending.run_model.Links.{is_advertising}

-- a PDU that is sent again has the payload of its first packet, until it is acknowledged
abbrev pub AllAreSentAgain : Words → List Entry → Type 0
AllAreSentAgain words journal =
    (front more rest : List Entry) (side : Side) (channel channel_too : ℕ) (octets octets_too : List ℕ)
    (fate fate_too : Mark) (verdict verdict_too : Verdict)
    → journal
    ≡ (front ++ Air side channel octets fate verdict ∷ more) ++ Air side channel_too octets_too fate_too verdict_too ∷ rest
    → is_advertising channel ≡ false → is_advertising channel_too ≡ false
    → IsSentAgain words front more side channel channel_too octets octets_too fate verdict

pub record PacketsAreSealed (words : Words) (journal : List Entry) : Type 0 where
  -- each packet of a link has the payload that its end made of the PDU in the line of that, with the keys and the counter
  -- that it had before that line
  pub payloads : AllPayloadsAreOfLines words journal
  pub again : AllAreSentAgain words journal
  -- a packet of a link that its listener hears whole is forged exactly where its integrity code is wrong for that end
  pub verdicts : AllVerdictsAreOfLines words journal
  -- one that reaches the other side unchanged is forged only where both ends have two session keys
  pub forged : AllForgedAreOfOtherKeys words journal
  -- one that reaches it unchanged and brings it a new PDU is sealed exactly where the end of that side opens what it hears
  pub as_opened : AllAreSealedAsOpened words journal
