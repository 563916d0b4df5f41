-- What an end of a link says and hears, and what its host asks of it, in order: its lines, and between them the good
-- packets that reach it, those that it judges forged, and the commands that are accepted (Core 5.2, volume 6 part B,
-- sections 2.1.2, 4.5 and 5.1; the order is our choice).
use Rattle.std.specs.Prelude.{ℕ, ◌-◌, ◌&&◌, not, Bool, true, false, List, [], ◌∷◌, ◌++◌, fold, length, map, Option, Some, None}
use Rattle.std.specs.List.{flat_map}
use Rattle.ble_base.specs.Side.{other_side}
use Rattle.ble_base.specs.declared.notes.Note.{Note}
use Rattle.ble_base.specs.declared.roles.Side.{Side}
use Rattle.ble_base.specs.declared.verdicts.Verdict.{Verdict}
use Rattle.ble_base.specs.declared.verdicts.Verdict.TheVariants.{Broken, Forged, Good, Missed}
use Rattle.journal.specs.declared.entries.Entry.{Entry}
use Rattle.journal.specs.declared.entries.Entry.TheVariants.{Air}
use Rattle.journal.specs.declared.entries.Mark.{Mark}
use Rattle.journal_acks.specs.controller_model.Facts.{Facts as StationFacts}
use Rattle.journal_acks.specs.controller_model.Links.{note_opened}
use Rattle.journal_acks.specs.controller_model.Step.{Step as Call, PacketHeard}
use Rattle.host_answers.specs.Answered.{accepted_in}
use Rattle.journal_acks.specs.journal_links.Begun.{links_begun}
use Rattle.journal_acks.specs.journal_links.LinkLines.{line_of, link_named, where_named}
use Rattle.journal_acks.specs.journal_packets.Belonging.{central_of, first_number, is_side, link_of_packet}
use Rattle.journal_acks.specs.link_model.End.{facts_after, notes_after}
use Rattle.journal_acks.specs.link_model.Facts.{Facts, first_facts}
use Rattle.journal_acks.specs.link_model.Packets.{verdict_of}
use Rattle.journal_acks.specs.link_model.Setup.{Setup}
use Rattle.journal_acks.specs.link_model.Step.{Step, Disconnected, PacketReceived, ProcedureAsked}
use Rattle.journal_acks.specs.open_links.OpenLinks.{OpenLink, facts_in}
use Rattle.journal_acks.specs.run_laws.Ends.{link_listened}
use Rattle.journal_acks.specs.run_model.Links.{is_advertising}
use Rattle.journal_acks.specs.run_model.Readers.{turns_of}
use Rattle.journal_acks.specs.Exchange.{is_number}
use Rattle.journal_ends.specs.Asked.{Words, step_asked}
use Rattle.journal_ends.specs.Left.{left_of}

pub data Seen : Type 0 where
  -- a line of its side on its link
  Says : (line : Entry) → Seen
  -- a good packet of the other end, with these octets, reaches it in the turn of this slot
  Hears : (slot : ℕ) (octets : List ℕ) → Seen
  -- a packet of the other end reaches it, of which it finds the integrity code wrong (section 5.1.3.1)
  HearsForged : Seen
  -- its host asks this of it, by a command that is accepted
  Asks : (step : Step) → Seen

-- a packet is heard where it is good, or forged
abbrev pub heard_as : Verdict → ℕ → List ℕ → List Seen
heard_as Good slot octets = Hears slot octets ∷ []
heard_as Forged slot octets = HearsForged ∷ []
heard_as Missed slot octets = []
heard_as Broken slot octets = []

abbrev pub heard_where : Bool → Verdict → ℕ → List ℕ → List Seen
heard_where true verdict slot octets = heard_as verdict slot octets
heard_where false verdict slot octets = []

-- a host asks for a procedure, or ends the link. An answer to a request of the peer is not among what is seen: the past of
-- an end has one also where the request is withheld from the host and refused at once, which no line says (our choice)
abbrev pub asked_in_step : Step → List Seen
asked_in_step (ProcedureAsked ask) = Asks (ProcedureAsked ask) ∷ []
asked_in_step (Disconnected reason slot) = Asks (Disconnected reason slot) ∷ []
asked_in_step step = []

abbrev pub asked_if : Option Step → List Seen
asked_if None = []
asked_if (Some step) = asked_in_step step

-- ---- by the lines alone

-- the number of the link of a packet of which the radio left this
abbrev pub link_of_left : List Entry → Side → List ℕ → List ℕ → Option ℕ
link_of_left front sender octets left = first_number (central_of front sender octets) left 1 (links_begun front)

-- the number of the link on which a packet is heard that a side sends after these entries: one that is judged forged may
-- have been changed into one of another link
abbrev pub heard_link : List Entry → Side → List ℕ → Mark → Verdict → Option ℕ
heard_link front sender octets fate Forged = link_of_left front sender octets (left_of fate octets)
heard_link front sender octets fate verdict = link_of_packet front sender octets

abbrev pub is_heard_on : ℕ → List Entry → Side → ℕ → List ℕ → Mark → Verdict → Bool
is_heard_on number front sender channel octets fate verdict =
    not (is_advertising channel) && is_number (heard_link front sender octets fate verdict) number

-- the packet is one of the other side on the link with this number
abbrev pub heard_in_line : Side → ℕ → List Entry → Entry → List Seen
heard_in_line side number front (Air sender channel octets fate verdict) =
    heard_where (is_heard_on number front sender channel octets fate verdict && is_side sender (other_side side))
    verdict (length (turns_of front) - 1) octets
heard_in_line side number front line = []

-- the line answers a command of its host, which asks this of it
abbrev pub asked_in_line : Words → Side → ℕ → List Entry → Entry → List Seen
asked_in_line words side number front line =
    flat_map (λ command. asked_if (step_asked words side number front command)) (accepted_in side front line)

-- what the end of a side on the link with a number says, hears and is asked in a line that comes after these
abbrev pub seen_in_line : Words → Side → ℕ → List Entry → Entry → List Seen
seen_in_line words side number front line =
    asked_in_line words side number front line
    ++ (heard_in_line side number front line ++ map Says (where_named side number (link_named line) line))

abbrev pub seen_from : Words → Side → ℕ → List Entry → List Entry → List Seen
seen_from words side number front [] = []
seen_from words side number front (line ∷ lines) =
    seen_in_line words side number front line ++ seen_from words side number (front ++ line ∷ []) lines

unfoldable pub seen_on : Words → Side → ℕ → List Entry → List Seen
seen_on words side number journal = seen_from words side number [] journal

-- the lines among what is seen of an end
abbrev pub line_said : Seen → List Entry
line_said (Says line) = line ∷ []
line_said (Hears slot octets) = []
line_said HearsForged = []
line_said (Asks step) = []

abbrev pub lines_said : List Seen → List Entry
lines_said seen = flat_map line_said seen

-- the slot of the good packet that it hears last
abbrev pub slot_after : Option ℕ → Seen → Option ℕ
slot_after before (Says line) = before
slot_after before (Hears slot octets) = Some slot
slot_after before HearsForged = before
slot_after before (Asks step) = before

abbrev pub last_slot : List Seen → Option ℕ
last_slot seen = fold slot_after None seen

-- ---- by the past of the end

-- the lines of these notes
abbrev pub notes_said : Side → ℕ → List Note → List Seen
notes_said side number notes = map Says (map (line_of side number) notes)

-- a packet, by its verdict
abbrev pub heard_in_step : Setup → Facts → Step → List Seen
heard_in_step setup facts (PacketReceived slot octets room) = heard_as (verdict_of setup facts octets) slot octets
heard_in_step setup facts step = []

-- what the end with these facts says, hears and is asked in a step
abbrev pub seen_in : Side → ℕ → Setup → Facts → Step → List Seen
seen_in side number setup facts step =
    asked_in_step step ++ (heard_in_step setup facts step ++ notes_said side number (notes_after setup facts step))

abbrev pub seen_in_steps : Side → ℕ → Setup → Facts → List Step → List Seen
seen_in_steps side number setup facts [] = []
seen_in_steps side number setup facts (step ∷ steps) =
    seen_in side number setup facts step ++ seen_in_steps side number setup (facts_after setup facts step) steps

-- what is seen of the end of a side on the link with a number, from the line that says that it was opened
unfoldable pub seen_of : Side → ℕ → Setup → List Step → List Seen
seen_of side number setup past =
    Says (line_of side number (note_opened setup.link)) ∷ seen_in_steps side number setup (first_facts setup) past

-- ---- by the call that comes next

-- what its end hears in this call, where the station listens on the link under this handle
abbrev pub heard_next : ℕ → StationFacts → Call → OpenLink → List Seen
heard_next handle facts (PacketHeard octets) link =
    heard_where (is_number (link_listened facts.turn.doing) handle) (verdict_of link.setup (facts_in link) octets)
    facts.turn.slot octets
heard_next handle facts call link = []
