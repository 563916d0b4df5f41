-- How a step of one end changes the view of its link: by what the end notes, and by what its host receives (our
-- choice).
use Rattle.std.specs.Prelude.{Bool, true, false, fold}
use Rattle.ble_base.specs.declared.notes.Note.{Note}
use Rattle.ble_base.specs.declared.notes.Note.TheVariants.{Done, Refused, Took}
use Rattle.procedure_events.specs.procedure_stages.declared.steps.Effect.{Effect}
use Rattle.procedure_events.specs.procedure_stages.declared.steps.Effect.TheVariants.{AskHost, Nothing}
use Rattle.link_commands.specs.open_links.link_model.Setup.{Setup}
use Rattle.link_commands.specs.open_links.link_model.Facts.{Facts}
use Rattle.link_commands.specs.open_links.link_model.Step.{Step, Disconnected, KeyAnswered, PacketReceived, ProcedureAsked, RequestAnswered}
use Rattle.link_commands.specs.open_links.link_model.End.{notes_after}
use Rattle.link_commands.specs.open_links.link_model.Receiving.{effect_of, kept_effect_of}
use Rattle.host_view.specs.declared.links.Link.{Link}
use Rattle.host_view.specs.Changes.{answered, completed, started}
use Rattle.host_view.specs.Noted.{is_start_rsp}

-- a step that the host makes by a command
abbrev pub is_of_host : Step → Bool
is_of_host (ProcedureAsked ask) = true
is_of_host (RequestAnswered answer) = true
is_of_host (KeyAnswered key slot) = true
is_of_host (Disconnected reason slot) = true
is_of_host other = false

-- LL_START_ENC_RSP was taken on the link, or not
abbrev pub link_encrypted_if : Bool → Link → Link
link_encrypted_if true link = started link
link_encrypted_if false link = link

-- a procedure that is done or refused is no longer asked for, and with that of encryption the link is encrypted
abbrev pub link_after_note : Link → Note → Link
link_after_note link (Refused handle kind code) = answered kind link
link_after_note link (Done handle kind) = completed kind link
link_after_note link (Took handle number llid body) = link_encrypted_if (is_start_rsp llid body.items) link
link_after_note link other = link

-- the host receives a request of the peer: LE Remote Connection Parameter Request (volume 4 part E, section 7.7.65.6)
abbrev pub link_with_request : Effect → Link → Link
link_with_request (AskHost min max latency timeout) link = record link { waits_for_parameters = true }
link_with_request other link = link

-- the request of the PDU that was taken, or else that of the one that was kept until then
abbrev pub or_request : Effect → Effect → Effect
or_request (AskHost min max latency timeout) kept = AskHost min max latency timeout
or_request other kept = kept

-- the request that a step brings for the host, if it brings one
abbrev pub effect_after : Setup → Facts → Step → Effect
effect_after setup facts (PacketReceived slot octets room) =
    or_request (effect_of setup facts slot octets room) (kept_effect_of setup facts slot octets room)
effect_after setup facts other = Nothing

-- the link after the notes of a step
abbrev pub link_after_notes : Setup → Facts → Step → Link → Link
link_after_notes setup facts step link = fold link_after_note link (notes_after setup facts step)

-- and after the event of a request, where no mask withholds it
abbrev pub link_after_step : Setup → Facts → Step → Link → Link
link_after_step setup facts step link =
    link_with_request (effect_after setup facts step) (link_after_notes setup facts step link)
