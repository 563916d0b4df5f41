-- What an accepted command asks for is in its range.
use Rattle.std.proofs.Common.{◌≡◌, ℕ, suc, ◌^◌, ◌≤◌, ◌||◌, Bool, true, false, cond, not, length, nat_le, nat_lt, is_none, refl, sym, arith}
use Rattle.std.proofs.lemmas.Bool.Decides.{nat_tests}
use Rattle.ble_base.specs.ChannelMap.{IsMap, used_channels}
use Rattle.ble_base.specs.declared.roles.Role.{Role}
use Rattle.ble_base.specs.declared.roles.Role.TheVariants.{Central, Peripheral}
use Rattle.hci_cmd.specs.declared.command.Command.{Command}
use Rattle.hci_cmd.specs.declared.command.Command.TheVariants.{LeConnectionUpdate, LeParamReply, LeSetChannels, LeSetDataLength}
use Rattle.open_links.specs.procedure_values.Values.{IsParams, IsPayloadMax}
use Rattle.open_links.specs.procedure_values.Wants.{IsAsk}
use Rattle.host_view.specs.View.{View}
use Rattle.host_view.specs.Links.{link_has, link_in}
use Rattle.host_view.specs.Refusals.{are_parameters, first_refusal}
use Rattle.host_view.specs.Status.{is_data_length, rows_of}
use Rattle.link_commands.specs.Commands.{AsksInRange, transmit_maximum, update_by}

-- ---- rows that do not hold

-- a row with a code that is not 00 does not hold, nor does one of the next
pub passes : (condition : Bool) (code rest : ℕ) → cond condition (suc code) rest ≡ 0 → (condition ≡ false) × (rest ≡ 0)
passes true code rest is = absurd (omega (arith, is))
passes false code rest is = (refl, is)

pub not_not : (b : Bool) → not b ≡ false → b ≡ true
not_not true is = refl
not_not false is = sym is

-- ---- values

pub params_fit : (min max latency timeout : ℕ) → are_parameters min max latency timeout ≡ true
    → IsParams (record { interval = max; latency = latency; timeout = timeout })
params_fit min max latency timeout are =
    record {
      win_size_one = refl;
      win_offset_within = omega arith;
      interval_from = grind (arith, nat_tests);
      interval_to = grind (arith, nat_tests);
      latency_to = grind (arith, nat_tests);
      timeout_from = grind (arith, nat_tests);
      timeout_to = grind (arith, nat_tests);
      timeout_outlasts = grind (arith, nat_tests);
    }

-- a time of at least 328 us is enough for 27 octets
pub length_fits : (octets time : ℕ) → is_data_length octets time ≡ true → IsPayloadMax (transmit_maximum octets time)
length_fits octets time is =
    let least : 27 ≤ octets = grind (arith, nat_tests) in
    let most : octets ≤ 251 = grind (arith, nat_tests) in
    let long : 328 ≤ time = grind (arith, nat_tests) in
    record { from = omega (arith, least, long); to = omega (arith, most) }

-- ---- by command

update_is : (role : Role) (min max latency timeout : ℕ) → are_parameters min max latency timeout ≡ true
    → IsAsk (update_by role min max latency timeout)
update_is Central min max latency timeout are = params_fit min max latency timeout are
update_is Peripheral min max latency timeout are = tt

pub map_fits : (map : ℕ) → (nat_lt (length (used_channels map)) 2 || nat_le (2 ^ 37) map) ≡ false → IsMap map
map_fits map ok = record { data_channels_only = grind (arith, nat_tests); two_or_more = grind (arith, nat_tests) }

pub asked_in_range : (view : View) (command : Command) → first_refusal (rows_of view command) ≡ 0 → AsksInRange command
asked_in_range view (LeSetDataLength handle octets time) ok =
    let link = link_in view.links handle in
    let there = passes (is_none link) _ _ ok in
    let going = passes (link_has link (λ l. l.disconnecting)) _ _ there.1 in
    length_fits octets time (not_not (is_data_length octets time) (passes (not (is_data_length octets time)) _ _ going.1).0)
asked_in_range view (LeConnectionUpdate handle min max latency timeout lengths) ok =
    let link = link_in view.links handle in
    let there = passes (is_none link) _ _ ok in
    let going = passes (link_has link (λ l. l.disconnecting)) _ _ there.1 in
    let valid = passes (not (are_parameters min max latency timeout)) _ _ going.1 in
    λ role. update_is role min max latency timeout (not_not (are_parameters min max latency timeout) valid.0)
asked_in_range view (LeSetChannels map) ok =
    map_fits map (passes (nat_lt (length (used_channels map)) 2 || nat_le (2 ^ 37) map) _ _ ok).0
asked_in_range view (LeParamReply handle min max latency timeout lengths) ok =
    let link = link_in view.links handle in
    let there = passes (is_none link) _ _ ok in
    let going = passes (link_has link (λ l. l.disconnecting)) _ _ there.1 in
    let waits = passes (link_has link (λ l. not l.waits_for_parameters)) _ _ going.1 in
    params_fit min max latency timeout
    (not_not (are_parameters min max latency timeout) (passes (not (are_parameters min max latency timeout)) _ _ waits.1).0)
asked_in_range view other ok = tt
