-- The random words that a side draws, from the lines of a journal and the words of its script (Core 5.2, volume 4 part E,
-- sections 7.8.23 and 7.8.24, and volume 6 part B, section 5.1.3.1; the order of the words is our choice).
use Rattle.std.specs.Prelude.{ℕ, ◌+◌, ◌%◌, ◌^◌, ◌&&◌, Bool, false, List, [], ◌∷◌, ◌++◌, length, slice_index, sum_by, Option, Some, None, is_none, if◌then◌else◌}
use Rattle.ble_base.specs.declared.roles.Role.{Role}
use Rattle.ble_base.specs.declared.roles.Role.TheVariants.{Central, Peripheral}
use Rattle.ble_base.specs.declared.roles.Side.{Side}
use Rattle.ble_base.specs.declared.roles.Side.TheVariants.{A, B}
use Rattle.journal.specs.declared.entries.Entry.{Entry}
use Rattle.journal.specs.declared.entries.Entry.TheVariants.{Air, Took}
use Rattle.radio_replay.specs.Script.{Script}
use Rattle.journal_controls.specs.LineSteps.{keyed_on, turn_now}
use Rattle.journal_controls.specs.controller_model.Host.{words_if, words_of}
use Rattle.journal_controls.specs.host_answers.Answered.{accepted_in}
use Rattle.journal_controls.specs.journal_packets.Belonging.{is_side}
use Rattle.journal_controls.specs.link_model.Acknowledgement.{Pdu}
use Rattle.journal_controls.specs.link_model.Controls.{is_procedure_pdu, read_of}
use Rattle.journal_controls.specs.link_model.enc_phase.Phases.{may_follow}
use Rattle.journal_controls.specs.link_model.enc_phase.declared.facts.Transition.TheVariants.{Ask}
use Rattle.journal_controls.specs.link_model.keyed_control.Keyed.{Keyed}
use Rattle.journal_controls.specs.link_model.keyed_control.KeyedSteps.{Takes, keyed_after}
use Rattle.journal_controls.specs.link_model.keyed_control.declared.material.Response.{Response}
use Rattle.journal_controls.specs.link_model.phased_control.Phased.{is_open_now}
use Rattle.journal_controls.specs.link_model.phased_control.Taken.{role_now}
use Rattle.journal_controls.specs.link_model.phased_end.Held.{held_of}
use Rattle.journal_controls.specs.link_model.phased_end.Taking.{drawn, is_handed}
use Rattle.journal_controls.specs.link_model.unencrypted_ends.Unencrypted.{is_enc_req}
use Rattle.journal_controls.specs.journal_ends.Asked.{Words}
use Rattle.journal_controls.specs.run_model.Links.{begins_link}
use Rattle.journal_controls.specs.run_model.Readers.{station_of}
use Rattle.journal_controls.specs.run_model.Run.{Given, setup_at}

-- ---- the words

-- the one that comes next where so many were drawn: they are used in order, and then again from the first
abbrev pub word_after : List ℕ → ℕ → ℕ
word_after list count = slice_index list (count % length list)

-- with the next two a side would answer LL_ENC_REQ; the second gives its low half
abbrev pub response_after : List ℕ → ℕ → Response
response_after list count =
    record { skd_s = word_after list count % 2 ^ 64; iv_s = word_after list (count + 1) % 2 ^ 32 }

-- ---- how many a line draws

-- one for each LE Rand that it accepts, and two for each LE Enable Encryption
abbrev pub words_asked : Side → List Entry → Entry → ℕ
words_asked side front line = sum_by words_of (accepted_in side front line)

-- one for a CONNECT_IND of this side
abbrev pub words_connecting : Side → Entry → ℕ
words_connecting side (Air sender channel octets fate verdict) =
    if is_side sender side && begins_link channel octets then 1 else 0
words_connecting side line = 0

-- two for LL_ENC_REQ that a peripheral takes and answers. Only one that asks its host for a key does
abbrev pub may_answer : Role → Keyed → Bool
may_answer Central k = false
may_answer Peripheral k = may_follow Ask k.phased.phase && is_open_now k.phased

abbrev pub draws_taking : Response → ℕ → Pdu → Keyed → Bool
draws_taking response slot pdu k =
    (is_procedure_pdu pdu && is_enc_req (read_of pdu))
    && (may_answer (role_now k.phased) k
    && (is_handed (read_of pdu) (held_of k)
    && is_none (keyed_after (Takes (read_of pdu) slot (drawn response)) k).phased.control.ends))

abbrev pub words_taken : Response → ℕ → Pdu → Option Keyed → ℕ
words_taken response slot pdu None = 0
words_taken response slot pdu (Some k) = words_if (draws_taking response slot pdu k)

abbrev pub words_taking : Words → Side → List Entry → Entry → ℕ
words_taking words side front (Took other link count llid body) =
    if is_side other side
    then
    words_taken (words side front) (turn_now front) (record { llid = llid; body = body })
    (keyed_on words side link front)
    else 0
words_taking words side front line = 0

abbrev pub words_in_line : Words → Side → List Entry → Entry → ℕ
words_in_line words side front line =
    words_asked side front line + (words_connecting side line + words_taking words side front line)

-- ---- how many were drawn: one count for each of the first entries, from none of them on. An end by some entries looks only
-- at what its side would draw after fewer of them

-- a side with this list of words
abbrev pub words_by_counts : List ℕ → List ℕ → Words
words_by_counts list counts side front = response_after list (slice_index counts (length front))

abbrev pub next_count : List ℕ → Side → List ℕ → List Entry → Entry → ℕ
next_count list side counts front line =
    slice_index counts (length front) + words_in_line (words_by_counts list counts) side front line

abbrev pub counts_from : List ℕ → Side → List Entry → List ℕ → List Entry → List ℕ
counts_from list side front counts [] = counts
counts_from list side front counts (line ∷ lines) =
    counts_from list side (front ++ line ∷ []) (counts ++ next_count list side counts front line ∷ []) lines

unfoldable pub drawn_counts : List ℕ → Side → List Entry → List ℕ
drawn_counts list side journal = counts_from list side [] (0 ∷ []) journal

-- how many words a side with these words drew
abbrev pub drawn_on : List ℕ → Side → List Entry → ℕ
drawn_on list side journal = slice_index (drawn_counts list side journal) (length journal)

-- and what it would draw then
abbrev pub response_on : List ℕ → Side → List Entry → Response
response_on list side journal = response_after list (drawn_on list side journal)

-- ---- the words of the stations of a run, and those of a script

abbrev pub words_in : Given → Words
words_in given side front = response_on (setup_at given (station_of side)).words side front

abbrev pub list_of : Script → Side → List ℕ
list_of script A = script.a.words.items
list_of script B = script.b.words.items

abbrev pub words_by : Script → Words
words_by script side front = response_on (list_of script side) side front
