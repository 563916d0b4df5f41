-- What a joint run of exchanges of lengths is without the values and the data: an exchange of a question and an answer.
use Rattle.std.specs.Prelude.{map, Option, Some, None, is_some}
use Rattle.exchange_pairs.specs.Exchange.{ExchangeEnd, ExchangePdu}
use Rattle.exchange_pairs.specs.ExchangeRun.{ExchangeLink}
use Rattle.exchange_pairs.specs.Lengths.{LengthEnd}
use Rattle.exchange_pairs.specs.LengthRun.{LengthLink, LengthWay, Control}

abbrev pub exchange_end : LengthEnd → ExchangeEnd
exchange_end e = record { own = e.own; queue = map (λ pdu. pdu.pdu) e.queue; closed = e.closed }

-- data that is on its way counts as none
abbrev pub exchange_way : Option LengthWay → Option ExchangePdu
exchange_way (Some (Control pdu)) = Some pdu.pdu
exchange_way way = None

abbrev pub exchange_link : LengthLink → ExchangeLink
exchange_link s =
    record {
      central = exchange_end s.central;
      peripheral = exchange_end s.peripheral;
      down = exchange_way s.down;
      up = exchange_way s.up;
      kept = is_some s.kept;
    }
