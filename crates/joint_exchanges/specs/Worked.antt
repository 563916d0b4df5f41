-- Worked joint runs of exchanges (our choice).
use Rattle.std.specs.Prelude.{List, [], ◌∷◌, ◌++◌, replicate}
use Rattle.ble_base.specs.declared.channel_map.ChannelMap.{ChannelMap}
use Rattle.ble_base.specs.declared.roles.Role.TheVariants.{Central, Peripheral}
use Rattle.joint_controls.specs.control_model.Worked.{six_slots}
use Rattle.exchange_steps.specs.procedure_values.declared.asks.Ask.TheVariants.{Encrypt, Features, Length}
use Rattle.joint_controls.specs.Joint.{AsksFor, CentralHost, CentralTakes, HasKey, Joint, JointStep, PeripheralAcked, PeripheralFixes, PeripheralHost, PeripheralSends, beginning}
use Rattle.joint_controls.specs.Worked.{enter, goes_down, goes_down_again, goes_up, goes_up_again}
use Rattle.exchange_steps.specs.exchange_pairs.Exchange.{Answer, Question}
use Rattle.exchange_steps.specs.Steps.{begins_features, begins_lengths, limits}
use Rattle.joint_exchanges.specs.Moves.{Does, Keeps, Move, Sends, Takes, TakesKept}
use Rattle.joint_exchanges.specs.Parts.{AnyPdu, of_features, of_lengths}

abbrev pub link_of : ChannelMap → Joint
link_of map = beginning 27 27 (six_slots map) 3

-- the central's host asks for the features of the peripheral, which answers
abbrev pub features_asked : List JointStep
features_asked = CentralHost (AsksFor Features) ∷ enter ++ goes_down ++ goes_up_again

abbrev pub features_moves : List Move
features_moves =
    Does Central begins_features ∷ Sends Central (of_features Question) ∷ Takes Peripheral (of_features Question)
    ∷ Sends Peripheral (of_features Answer) ∷ Takes Central (of_features Answer) ∷ []

-- the peripheral's host asks for an exchange of lengths and the central's for encryption, which begin together: the
-- central keeps LL_LENGTH_REQ, and answers it once encryption has started
abbrev pub question_kept : List JointStep
question_kept =
    PeripheralHost (AsksFor (Length 27)) ∷ CentralHost (AsksFor (Encrypt 0 0 (replicate 16 0) 0 0)) ∷ enter
    ++ PeripheralFixes 0 ∷ PeripheralSends ∷ CentralTakes 0 ∷ goes_down_again ++ PeripheralHost HasKey ∷ goes_up_again
    ++ PeripheralAcked ∷ goes_up ++ goes_down_again ++ goes_up_again

abbrev pub question : AnyPdu
question = of_lengths (record { pdu = Question; rx = 27; tx = 27 })

abbrev pub kept_moves : List Move
kept_moves =
    Does Peripheral (limits 27) ∷ Does Peripheral begins_lengths ∷ Sends Peripheral question ∷ Keeps question
    ∷ TakesKept question ∷ []
