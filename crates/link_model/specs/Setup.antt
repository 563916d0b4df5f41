-- What one end of a link is set up with, and what the CONNECT_IND says of its first event.
use Rattle.std.specs.Prelude.{ℕ, ◌+◌, if◌then◌else◌}
use Rattle.adv_pdu.specs.declared.pdu.ConnectFields.{ConnectFields}
use Rattle.chan_select.specs.declared.selection.Algorithm.{Algorithm}
use Rattle.chan_select.specs.declared.selection.Algorithm.TheVariants.{One, Two}
use Rattle.instants.specs.declared.indications.Params.{Params}
use Rattle.link_model.specs.declared.setup.LinkSetup.{LinkSetup}

pub record Setup : Type 0 where
  pub link : LinkSetup
  -- the slot of the CONNECT_IND
  pub opened : ℕ

-- the first parameters (Core 5.2, volume 6 part B, section 2.3.3.1)
abbrev pub first_params : ConnectFields → Params
first_params fields =
    record { interval = fields.interval; latency = fields.latency; timeout = fields.timeout; map = fields.map }

-- the slot of the anchor of event 0: the slot after the CONNECT_IND is free, and the transmit window begins WinOffset
-- slots later (sections 4.5.3; that it is one slot wide is our choice)
abbrev pub first_anchor : Setup → ℕ
first_anchor setup = setup.opened + 2 + setup.link.fields.win_offset

-- how the channels of the link are selected (section 4.5.8)
abbrev pub algorithm_of : LinkSetup → Algorithm
algorithm_of link = if link.two then Two link.fields.access else One link.fields.hop
