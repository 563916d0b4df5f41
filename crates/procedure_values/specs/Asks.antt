-- The kind of what a host asks for (Core 5.2, volume 6 part B, section 5.1).
use Rattle.std.specs.Prelude.{Bool, true, false}
use Rattle.ble_base.specs.declared.procedure_kinds.Kind.{Kind}
use Rattle.ble_base.specs.declared.procedure_kinds.Kind.TheVariants.{Update, Request, Map, Phy, Features, Version, Length, Encrypt}
use Rattle.procedure_values.specs.declared.asks.Ask.{Ask}
use Rattle.procedure_values.specs.declared.asks.Ask.TheVariants.{Update as ask_update, Request as ask_request, Map as ask_map, Phy as ask_phy, Features as ask_features, Version as ask_version, Length as ask_length, Encrypt as ask_encrypt}

abbrev pub kind_of_ask : Ask → Kind
kind_of_ask (ask_update interval latency timeout) = Update
kind_of_ask (ask_request min max latency timeout) = Request
kind_of_ask (ask_map map) = Map
kind_of_ask ask_phy = Phy
kind_of_ask ask_features = Features
kind_of_ask ask_version = Version
kind_of_ask (ask_length tx) = Length
kind_of_ask (ask_encrypt rand ediv ltk skd_m iv_m) = Encrypt

-- whether two kinds are the same
abbrev pub is_same_kind : Kind → Kind → Bool
is_same_kind Update Update = true
is_same_kind Request Request = true
is_same_kind Map Map = true
is_same_kind Phy Phy = true
is_same_kind Features Features = true
is_same_kind Version Version = true
is_same_kind Length Length = true
is_same_kind Encrypt Encrypt = true
is_same_kind a b = false
