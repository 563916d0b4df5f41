-- What its lines make an end do with its procedures, its phase and its keys (Core 5.2, volume 6 part B, sections 4.5.9, 5.1
-- and 5.1.3).
use Rattle.std.specs.Prelude.{ℕ, Bool, true, List, [], ◌∷◌, ◌++◌, Option, Some, None, is_some, if◌then◌else◌}
use Rattle.ble_base.specs.declared.roles.Role.{Role}
use Rattle.ble_base.specs.declared.roles.Role.TheVariants.{Central, Peripheral}
use Rattle.journal_ends.specs.link_model.Acknowledgement.{Pdu}
use Rattle.journal_ends.specs.link_model.Controls.{is_procedure_pdu, read_of}
use Rattle.journal_ends.specs.link_model.Data.{is_data}
use Rattle.journal_ends.specs.link_model.Hosts.{key_step}
use Rattle.journal_ends.specs.link_model.Payload.{end_accepting}
use Rattle.journal_ends.specs.link_model.Receiving.{ended_by_forgery}
use Rattle.journal_ends.specs.link_model.Step.{Step, KeyAnswered, RequestAnswered}
use Rattle.journal_ends.specs.link_model.control_end.Answers.{next_ctrl}
use Rattle.journal_ends.specs.link_model.control_end.Held.{held_of}
use Rattle.journal_ends.specs.link_model.keyed_control.Keyed.{Keyed}
use Rattle.journal_ends.specs.link_model.keyed_control.KeyedSteps.{KeyedStep, Answers, Seals, Sends, Takes, TakesData, keyed_after}
use Rattle.journal_ends.specs.link_model.keyed_control.declared.material.Response.{Response}
use Rattle.journal_ends.specs.link_model.phased_control.Phased.{is_quiet_now}
use Rattle.journal_ends.specs.link_model.phased_end.Held.{held_of as keyed_held}
use Rattle.journal_ends.specs.link_model.phased_end.Taking.{drawn, taken_keyed}
use Rattle.journal_ends.specs.link_model.phased_end.declared.taking.TakenKeyed.{TakenKeyed}
use Rattle.journal_controls.specs.Withheld.{Withheld, withheld_answer}

-- ---- what it does

pub data LineStep : Type 0 where
  -- a step of its procedures, its phase and its keys
  Does : (step : KeyedStep) → LineStep
  -- a new PDU that is not empty is accepted: where it is sealed it takes its counter. A line has its body as it was opened
  -- (part E, section 2.1)
  Accepts : LineStep
  -- a packet that it judges forged ends the link, and does nothing else (part B, section 5.1.3.1)
  Forges : LineStep

abbrev pub keyed_forged : Keyed → Keyed
keyed_forged k = record k { phased = record k.phased { control = ended_by_forgery k.phased.control } }

abbrev pub keyed_by : LineStep → Keyed → Keyed
keyed_by (Does step) k = keyed_after step k
keyed_by Accepts k = record k { end = end_accepting true k.end }
keyed_by Forges k = keyed_forged k

abbrev pub keyed_by_all : List LineStep → Keyed → Keyed
keyed_by_all [] k = k
keyed_by_all (step ∷ steps) k = keyed_by_all steps (keyed_by step k)

-- a step that is made, or is not
abbrev pub does_if : Bool → KeyedStep → List LineStep
does_if is_made step = if is_made then Does step ∷ [] else []

abbrev pub does_some : Option KeyedStep → List LineStep
does_some None = []
does_some (Some step) = Does step ∷ []

-- its host answers a request of the peer, or whether it has a key
abbrev pub answering : Step → List LineStep
answering (RequestAnswered answer) = Does (Answers answer) ∷ []
answering (KeyAnswered key slot) = Does (key_step key) ∷ []
answering step = []

-- ---- a new PDU that is not empty is sent, and takes its counter where it is sealed

-- a control PDU of a central is first sent in its line; that of a peripheral was, as it heard the packet before
abbrev pub steps_sending : Role → ℕ → Pdu → List LineStep
steps_sending Central slot pdu = does_if (is_procedure_pdu pdu) (Sends slot) ++ Does (Seals pdu.llid pdu.body) ∷ []
steps_sending Peripheral slot pdu = Does (Seals pdu.llid pdu.body) ∷ []

-- a control PDU waits that may go in this phase
abbrev pub has_next : Keyed → Bool
has_next k = is_some (next_ctrl (is_quiet_now k.phased) (held_of k.phased.control))

-- ---- a new PDU that is not empty is taken

abbrev pub steps_taking : Response → ℕ → Pdu → List LineStep
steps_taking response slot pdu =
    Accepts ∷ does_if (is_procedure_pdu pdu) (Takes (read_of pdu) slot (drawn response)) ++ does_if (is_data pdu) TakesData

-- what its procedures give for a control PDU, and for one that was kept until now
abbrev pub given_by : Response → ℕ → Keyed → Pdu → TakenKeyed
given_by response slot k pdu = taken_keyed slot response (read_of pdu) (keyed_held k)

-- a request that is withheld from the host is answered at once, which no line says
abbrev pub answer_by : Withheld → Response → ℕ → Keyed → Pdu → Option KeyedStep
answer_by withheld response slot k pdu =
    if is_procedure_pdu pdu then withheld_answer withheld (given_by response slot k pdu) else None

abbrev pub steps_refusing : Withheld → Response → ℕ → Keyed → Pdu → List LineStep
steps_refusing withheld response slot k pdu = does_some (answer_by withheld response slot k pdu)
