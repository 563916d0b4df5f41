-- The packet that a station wants to transmit, and what the other one is handed of it (our choice).
use Rattle.std.specs.Prelude.{ℕ, Bool, true, false, List, Option, Some, None}
use Rattle.ble_base.specs.declared.verdicts.Verdict.{Verdict}
use Rattle.ble_base.specs.declared.verdicts.Verdict.TheVariants.{Missed, Broken, Forged, Good}
use Rattle.radio_replay.specs.declared.fates.Fate.{Fate}
use Rattle.radio_replay.specs.Damage.{damaged_packet}
use Rattle.controller_model.specs.Facts.{Use, Sends, Listens, Idle}
use Rattle.run_model.specs.History.{is_handed}

abbrev pub packet_wanted : Use → Option (List ℕ)
packet_wanted (Sends channel octets) = Some octets
packet_wanted (Listens channel) = None
packet_wanted Idle = None

-- its octets, where it is handed on
abbrev pub heard_of : Bool → Use → Option (List ℕ)
heard_of true wanted = packet_wanted wanted
heard_of false wanted = None

-- as the radio left it
abbrev pub use_damaged : Fate → Use → Use
use_damaged fate (Sends channel octets) = Sends channel (damaged_packet fate octets)
use_damaged fate (Listens channel) = Listens channel
use_damaged fate Idle = Idle

-- what is forged is handed on as the radio left it, and what is good as it was sent
abbrev pub use_handed : Fate → Verdict → Use → Use
use_handed fate Forged wanted = use_damaged fate wanted
use_handed fate Good wanted = wanted
use_handed fate Missed wanted = wanted
use_handed fate Broken wanted = wanted

-- what the controller of the other station is handed, which has this verdict on it
abbrev pub handed_of : Fate → Verdict → Use → Option (List ℕ)
handed_of fate verdict wanted = heard_of (is_handed verdict) (use_handed fate verdict wanted)
