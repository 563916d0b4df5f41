-- The exchanges of both ends as the three machines of exchanges have them, and the events that each move is there (Core
-- 5.2, volume 6 part B, sections 5.1.4, 5.1.5 and 5.1.9).
use Rattle.std.specs.Prelude.{ℕ, List, [], ◌∷◌, ◌++◌, Option, Some, None, is_some, option_map}
use Rattle.ble_base.specs.declared.roles.Role.TheVariants.{Central, Peripheral}
use Rattle.exchange_steps.specs.exchange_pairs.Exchange.{ExchangePdu}
use Rattle.exchange_steps.specs.exchange_pairs.ExchangeRun
use Rattle.exchange_steps.specs.exchange_pairs.ExchangeRun.{ExchangeEvent, ExchangeLink}
use Rattle.exchange_steps.specs.exchange_pairs.LengthRun
use Rattle.exchange_steps.specs.exchange_pairs.LengthRun.{Control, LengthEvent, LengthLink}
use Rattle.exchange_steps.specs.exchange_pairs.Lengths.{LengthPdu}
use Rattle.exchange_steps.specs.exchange_pairs.VersionRun
use Rattle.exchange_steps.specs.exchange_pairs.VersionRun.{VersionEvent, VersionLink}
use Rattle.exchange_steps.specs.Steps.{begins_features, begins_lengths, begins_version, limits, terminates, wants_version}
use Rattle.joint_exchanges.specs.Moves.{Does, Keeps, Move, Sends, Takes, TakesKept, is_some_version}
use Rattle.joint_exchanges.specs.Parts.{AnyPdu, ExchangeParts, of_features, of_lengths, of_versions}

-- ---- the exchange of features

abbrev pub features_in : Option AnyPdu → Option ExchangePdu
features_in (Some (of_features pdu)) = Some pdu
features_in pdu = None

abbrev pub features_link : ExchangeParts → ExchangeLink
features_link p =
    record {
      central = p.central.features;
      peripheral = p.peripheral.features;
      down = features_in p.down;
      up = features_in p.up;
      kept = is_some (features_in p.kept);
    }

abbrev pub features_event : Move → List ExchangeEvent
features_event (Does role begins_features) = ExchangeRun.Begins role ∷ []
features_event (Does role terminates) = ExchangeRun.Closes role ∷ []
features_event (Sends role (of_features pdu)) = ExchangeRun.Sends role ∷ []
features_event (Takes role (of_features pdu)) = ExchangeRun.Takes role ∷ []
features_event (Keeps (of_features pdu)) = ExchangeRun.Keeps ∷ []
features_event (TakesKept (of_features pdu)) = ExchangeRun.TakesKept ∷ []
features_event move = []

-- ---- the exchange of lengths, without data; the receive maxima that were sent are not in the state of a link

pub record SentMaxima : Type 0 where
  pub central : List ℕ
  pub peripheral : List ℕ

abbrev pub none_sent : SentMaxima
none_sent = record { central = []; peripheral = [] }

abbrev pub maxima_after : Move → SentMaxima → SentMaxima
maxima_after (Sends Central (of_lengths pdu)) sent = record sent { central = sent.central ++ pdu.rx ∷ [] }
maxima_after (Sends Peripheral (of_lengths pdu)) sent = record sent { peripheral = sent.peripheral ++ pdu.rx ∷ [] }
maxima_after move sent = sent

abbrev pub lengths_in : Option AnyPdu → Option LengthPdu
lengths_in (Some (of_lengths pdu)) = Some pdu
lengths_in pdu = None

abbrev pub lengths_link : SentMaxima → ExchangeParts → LengthLink
lengths_link sent p =
    record {
      central = p.central.lengths;
      peripheral = p.peripheral.lengths;
      down = option_map (λ pdu. Control pdu) (lengths_in p.down);
      up = option_map (λ pdu. Control pdu) (lengths_in p.up);
      kept = lengths_in p.kept;
      central_sent = sent.central;
      peripheral_sent = sent.peripheral;
    }

abbrev pub lengths_event : Move → List LengthEvent
lengths_event (Does role (limits tx)) = LengthRun.Limits role tx ∷ []
lengths_event (Does role begins_lengths) = LengthRun.Begins role ∷ []
lengths_event (Does role terminates) = LengthRun.Closes role ∷ []
lengths_event (Sends role (of_lengths pdu)) = LengthRun.Sends role ∷ []
lengths_event (Takes role (of_lengths pdu)) = LengthRun.Takes role ∷ []
lengths_event (Keeps (of_lengths pdu)) = LengthRun.Keeps ∷ []
lengths_event (TakesKept (of_lengths pdu)) = LengthRun.TakesKept ∷ []
lengths_event move = []

-- ---- the exchange of versions

abbrev pub versions_link : ExchangeParts → VersionLink
versions_link p =
    record {
      central = p.central.versions;
      peripheral = p.peripheral.versions;
      central_knows = p.central_knows;
      peripheral_knows = p.peripheral_knows;
      down = is_some_version p.down;
      up = is_some_version p.up;
      kept = is_some_version p.kept;
    }

abbrev pub versions_event : Move → List VersionEvent
versions_event (Does role wants_version) = VersionRun.Wants role ∷ []
versions_event (Does role begins_version) = VersionRun.Begins role ∷ []
versions_event (Does role terminates) = VersionRun.Closes role ∷ []
versions_event (Sends role of_versions) = VersionRun.Sends role ∷ []
versions_event (Takes role of_versions) = VersionRun.Takes role ∷ []
versions_event (Keeps of_versions) = VersionRun.Keeps ∷ []
versions_event (TakesKept of_versions) = VersionRun.TakesKept ∷ []
versions_event move = []

-- ---- of moves one after another

module _ {E : Type 0} where
  abbrev pub events_of : (Move → List E) → List Move → List E
  events_of event [] = []
  events_of event (move ∷ moves) = event move ++ events_of event moves

abbrev pub maxima_after_all : List Move → SentMaxima → SentMaxima
maxima_after_all [] sent = sent
maxima_after_all (move ∷ moves) sent = maxima_after_all moves (maxima_after move sent)
