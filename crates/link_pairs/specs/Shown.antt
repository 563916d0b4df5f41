-- A link by turns and packets, with keys, that shows what two ends hold (our choice; the rules of such a link are those of
-- `joint_parameters`, and its keys those of `joint_keys`).
use Rattle.std.specs.Prelude.{◌≡◌, ℕ, ◌+◌, ◌≤◌, Bool, true, List, length}
use Rattle.joint_laws.specs.joint_controls.Joint.{is_free, is_running}
use Rattle.joint_laws.specs.joint_parameters.Turns.{AreLinksInRange, Link, MayLinkAll, first_link, link_after_all}
use Rattle.joint_keys.specs.KeyedJoint.{KeyedJoint, Keys}
use Rattle.joint_keys.specs.KeyedLinks.{KeyedLinkStep, link_steps}
use Rattle.joint_keys.specs.KeyedLinks as keyed_links
use Rattle.link_model.specs.Acknowledgement.{is_acked}
use Rattle.link_model.specs.OneLink.{AreInAgreement}
use Rattle.link_model.specs.Setup.{Setup, first_anchor, first_params}
use Rattle.link_model.specs.Facts.{Facts}
use Rattle.link_model.specs.Payload.{payload_made}
use Rattle.link_pairs.specs.Ends.{IsAtRest, heard_turns, is_lasting, phased_of}
use Rattle.link_pairs.specs.Ways.{ShowsLast, ShowsWay}

-- after this number of turns began, between two calls; in the last of them the peripheral has answered, or has not
pub record Shows (central peripheral : Setup) (turns : ℕ) (answers : Bool) (l : Link) (c p : Facts) : Type 0 where
  -- the control parts of both ends, and where their last PDUs are
  pub central_part : l.joint.central ≡ phased_of c
  pub peripheral_part : l.joint.peripheral ≡ phased_of p
  pub down : ShowsWay l.joint.down c.acknowledgement p.acknowledgement
  pub up : ShowsWay l.joint.up p.acknowledgement c.acknowledgement
  -- the counts agree
  pub agreement : AreInAgreement c.acknowledgement p.acknowledgement
  -- the turns, and what each end heard last
  pub begun : l.turns.turns ≡ turns
  pub replies : answers ≡ true → l.turns.replies ≡ true
  pub last : ShowsLast l.turns.last c.acknowledgement p.acknowledgement
  pub central_heard : l.turns.central_heard_at ≡ heard_turns central c
  pub peripheral_heard : l.turns.peripheral_heard_at ≡ heard_turns peripheral p
  -- where the last PDU of the central is acknowledged, that of the peripheral was taken, or is data
  pub free : is_acked c.acknowledgement ≡ true → is_free l.joint.up ≡ true
  -- each end alone
  pub central_rests : IsAtRest central turns c
  pub peripheral_rests : IsAtRest peripheral turns p
  -- the last PDU of each end fits the other
  pub central_fits : length c.acknowledgement.last.body ≤ peripheral.link.max_rx
  pub peripheral_fits : length p.acknowledgement.last.body ≤ central.link.max_rx

-- the keys of one end of a joint run are those of this end, and its last PDU was made with them
pub record HasKeys (keys : Keys) (facts : Facts) : Type 0 where
  pub material : keys.material ≡ facts.encryption.material
  pub session : keys.end ≡ facts.encryption.end
  -- the payload of that PDU, as it is on the air
  pub made : facts.outgoing.payload ≡ payload_made keys.made facts.acknowledgement.last

pub record HaveKeys (k : KeyedJoint) (c p : Facts) : Type 0 where
  pub central_keys : HasKeys k.central c
  pub peripheral_keys : HasKeys k.peripheral p

-- a link that begins as its CONNECT_IND says, in the turn of that
abbrev pub new_link : Setup → Setup → Link
new_link central peripheral =
    first_link central.link.max_rx peripheral.link.max_rx (first_params central.link.fields) (first_anchor central)
    (central.opened + 1)

abbrev pub link_of : Setup → Setup → List KeyedLinkStep → Link
link_of central peripheral steps = link_after_all (link_steps steps) (new_link central peripheral)

-- the same with the keys of both ends
abbrev pub keys_of : Setup → Setup → List KeyedLinkStep → KeyedJoint
keys_of central peripheral steps =
    keyed_links.keys_of central.link.max_rx peripheral.link.max_rx (first_params central.link.fields) (first_anchor central)
    (central.opened + 1) steps

-- both ends came to what they hold as a link by turns and packets does, as long as that goes on: until one of them ended
-- it, is shut, or took LL_TERMINATE_IND
pub record AreLinked (central peripheral : Setup) (turns : ℕ) (answers : Bool) (c p : Facts) : Type 0 where
  pub steps : List KeyedLinkStep
  pub may : MayLinkAll (link_steps steps) (new_link central peripheral)
  pub in_range : AreLinksInRange (link_steps steps)
  pub shows :
      is_running (link_of central peripheral steps).joint ≡ true
      → Shows central peripheral turns answers (link_of central peripheral steps) c p
  pub keys :
      is_running (link_of central peripheral steps).joint ≡ true → HaveKeys (keys_of central peripheral steps) c p
  -- it goes on while the link lasts at both ends
  pub lasts :
      is_lasting c ≡ true → is_lasting p ≡ true → is_running (link_of central peripheral steps).joint ≡ true
