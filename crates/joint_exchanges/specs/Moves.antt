-- The moves of the exchanges of both ends, each of one end, and when each may come (Core 5.2, volume 6 part B, sections
-- 5.1.4, 5.1.5 and 5.1.9).
use Rattle.std.specs.Prelude.{◌≡◌, ⊤, ◌==◌, Bool, true, false, ◌||◌, List, [], ◌∷◌, Option, Some, None}
use Rattle.ble_base.specs.declared.roles.Role.{Role}
use Rattle.ble_base.specs.declared.roles.Role.TheVariants.{Central, Peripheral}
use Rattle.exchange_steps.specs.exchange_pairs.Exchange.{Answer, Question, is_idle}
use Rattle.exchange_steps.specs.Ends.{ExchangeEnds}
use Rattle.exchange_steps.specs.Steps.{EndStep, MayCome, after_step, begins_features, begins_lengths, begins_version, limits, sends_features, sends_lengths, sends_version, takes_features, takes_lengths, takes_version, terminates, wants_version}
use Rattle.joint_exchanges.specs.Parts.{AnyPdu, ExchangeParts, of_features, of_lengths, of_versions}

pub data Move : Type 0 where
  -- an end wants or begins an exchange, limits what it transmits, or queues LL_TERMINATE_IND
  Does : Role → EndStep → Move
  -- an end fixes a PDU of an exchange
  Sends : Role → AnyPdu → Move
  -- an end takes the PDU that is on its way to it
  Takes : Role → AnyPdu → Move
  -- the central keeps that PDU, and takes it afterwards
  Keeps : AnyPdu → Move
  TakesKept : AnyPdu → Move

-- the step of an end that sends a PDU, and the step of the other end that takes it
abbrev pub sending : AnyPdu → EndStep
sending (of_features pdu) = sends_features pdu
sending (of_lengths pdu) = sends_lengths pdu
sending of_versions = sends_version

abbrev pub taking : AnyPdu → EndStep
taking (of_features pdu) = takes_features pdu
taking (of_lengths pdu) = takes_lengths pdu
taking of_versions = takes_version

abbrev pub is_version : AnyPdu → Bool
is_version of_versions = true
is_version pdu = false

abbrev pub is_some_version : Option AnyPdu → Bool
is_some_version None = false
is_some_version (Some pdu) = is_version pdu

-- ---- the ends and the directions, by the role of an end

abbrev pub end_of : Role → ExchangeParts → ExchangeEnds
end_of Central p = p.central
end_of Peripheral p = p.peripheral

abbrev pub knows : Role → ExchangeParts → Bool
knows Central p = p.central_knows
knows Peripheral p = p.peripheral_knows

abbrev pub way_from : Role → ExchangeParts → Option AnyPdu
way_from Central p = p.down
way_from Peripheral p = p.up

abbrev pub way_to : Role → ExchangeParts → Option AnyPdu
way_to Central p = p.up
way_to Peripheral p = p.down

-- the central keeps LL_VERSION_IND
abbrev pub keeps_version : Role → ExchangeParts → Bool
keeps_version Central p = is_some_version p.kept
keeps_version Peripheral p = false

-- ---- what a move does

abbrev pub with_end : Role → EndStep → ExchangeParts → ExchangeParts
with_end Central step p = record p { central = after_step step p.central }
with_end Peripheral step p = record p { peripheral = after_step step p.peripheral }

abbrev pub with_way_from : Role → Option AnyPdu → ExchangeParts → ExchangeParts
with_way_from Central way p = record p { down = way }
with_way_from Peripheral way p = record p { up = way }

abbrev pub with_taken : Role → AnyPdu → ExchangeParts → ExchangeParts
with_taken Central pdu p =
    record p {
      central = after_step (taking pdu) p.central;
      central_knows = p.central_knows || is_version pdu;
      up = None;
    }
with_taken Peripheral pdu p =
    record p {
      peripheral = after_step (taking pdu) p.peripheral;
      peripheral_knows = p.peripheral_knows || is_version pdu;
      down = None;
    }

abbrev pub after_move : Move → ExchangeParts → ExchangeParts
after_move (Does role step) p = with_end role step p
after_move (Sends role pdu) p = with_way_from role (Some pdu) (with_end role (sending pdu) p)
after_move (Takes role pdu) p = with_taken role pdu p
after_move (Keeps pdu) p = record p { up = None; kept = Some pdu }
after_move (TakesKept pdu) p =
    record p {
      central = after_step (taking pdu) p.central;
      central_knows = p.central_knows || is_version pdu;
      kept = None;
    }

abbrev pub after_moves : List Move → ExchangeParts → ExchangeParts
after_moves [] p = p
after_moves (move ∷ moves) p = after_moves moves (after_move move p)

-- ---- when it may come

-- a host wants a version only where that of the peer is not known, and no exchange of it runs or is wanted
pub record MayWant (role : Role) (p : ExchangeParts) : Type 0 where
  pub unknown : knows role p ≡ false
  pub idle : is_idle (end_of role p).versions.own ≡ true
  pub unwanted : ((end_of role p).versions.wanted == 0) ≡ true

-- an exchange of versions begins only where none of the peer's is kept
pub record MayBegin (role : Role) (p : ExchangeParts) : Type 0 where
  pub may : MayCome (Some begins_version) (end_of role p)
  pub none_kept : keeps_version role p ≡ false

-- LL_TERMINATE_IND is queued once
pub record IsOpenEnd (e : ExchangeEnds) : Type 0 where
  pub features : e.features.closed ≡ false
  pub lengths : e.lengths.closed ≡ false
  pub versions : e.versions.closed ≡ false

abbrev pub MayDo : Role → EndStep → ExchangeParts → Type 0
MayDo role wants_version p = MayWant role p
MayDo role (limits tx) p = ⊤
MayDo role begins_features p = MayCome (Some begins_features) (end_of role p)
MayDo role begins_lengths p = MayCome (Some begins_lengths) (end_of role p)
MayDo role begins_version p = MayBegin role p
MayDo role terminates p = IsOpenEnd (end_of role p)
MayDo role step p = ⊥

-- an end sends the first PDU of an exchange that waits, and nothing of an exchange is on its way from it
pub record MaySend (role : Role) (pdu : AnyPdu) (p : ExchangeParts) : Type 0 where
  pub none : way_from role p ≡ None
  pub waits : MayCome (Some (sending pdu)) (end_of role p)

-- a central keeps a question of the peripheral or its LL_VERSION_IND
abbrev pub IsFirst : AnyPdu → Type 0
IsFirst (of_features Question) = ⊤
IsFirst (of_features Answer) = ⊥
IsFirst (of_lengths pdu) = pdu.pdu ≡ Question
IsFirst of_versions = ⊤

-- it keeps one at a time, and while it runs no exchange of versions
pub record MayKeep (pdu : AnyPdu) (p : ExchangeParts) : Type 0 where
  pub comes : p.up ≡ Some pdu
  pub first : IsFirst pdu
  pub none_kept : p.kept ≡ None
  pub idle : is_idle p.central.versions.own ≡ true

pub record MayTakeKept (pdu : AnyPdu) (p : ExchangeParts) : Type 0 where
  pub keeps : p.kept ≡ Some pdu
  pub first : IsFirst pdu

abbrev pub MayMove : Move → ExchangeParts → Type 0
MayMove (Does role step) p = MayDo role step p
MayMove (Sends role pdu) p = MaySend role pdu p
MayMove (Takes role pdu) p = way_to role p ≡ Some pdu
MayMove (Keeps pdu) p = MayKeep pdu p
MayMove (TakesKept pdu) p = MayTakeKept pdu p

abbrev pub MayMoveAll : List Move → ExchangeParts → Type 0
MayMoveAll [] p = ⊤
MayMoveAll (move ∷ moves) p = MayMove move p × MayMoveAll moves (after_move move p)
