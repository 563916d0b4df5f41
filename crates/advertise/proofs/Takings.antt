-- A CONNECT_IND that is taken meets each condition.
use Rattle.std.proofs.Common.{◌≡◌, ◌^◌, Bool, true, false, not, ◌||◌, nat_le, nat_lt, List, length, if◌then◌else◌, refl, sym}
use Rattle.std.proofs.lemmas.Bool.{ltb-true, leb-true}
use Rattle.ble_base.specs.Bits.{has_bit}
use Rattle.ble_base.specs.ChannelMap.{used_channels}
use Rattle.data_pdu.specs.Ranges.{is_map, is_update}
use Rattle.data_pdu.proofs.RangeTests.{update_is_tested}
use Rattle.scan_init.proofs.Listed.{equal_addresses}
use Rattle.std.proofs.lemmas.Bool.{and_parts}
use Rattle.ble_base.specs.declared.addresses.Address.{Address}
use Rattle.adv_pdu.specs.declared.pdu.AdvPdu.TheVariants.{Connect}
use Rattle.adv_pdu.specs.declared.pdu.ConnectFields.{ConnectFields}
use Rattle.adv_pdu.specs.Ranges.{IsInRange, is_in_range}
use Rattle.advertise.specs.declared.answers.AdvAnswer.TheVariants.{Ignore, Connect as Connects}
use Rattle.advertise.specs.declared.params.AdvParams.{AdvParams}
use Rattle.advertise.specs.Advertising.{is_connectable, is_directed}
use Rattle.advertise.specs.Answers.{IsTaken, advertiser_answer, is_connect_taken, lets_connect, may_connect}
use Rattle.scan_init.specs.Addresses.{is_listed, is_same_address}

-- by whether it is directed: the sender is the target, or passes the policy
target_by : (directed target passed : Bool) → (if directed then target else passed) ≡ true → directed ≡ true → target ≡ true
target_by true target passed h e = h
target_by false target passed h e = absurd cc

passed_by : (directed target passed : Bool) → (if directed then target else passed) ≡ true → directed ≡ false → passed ≡ true
passed_by true target passed h e = absurd cc
passed_by false target passed h e = h

listed_by : (asked listed : Bool) → (not asked || listed) ≡ true → asked ≡ true → listed ≡ true
listed_by true listed h e = h
listed_by false listed h e = absurd cc

in_range_of : (fields : ConnectFields) → is_in_range fields ≡ true → IsInRange fields
in_range_of fields h =
    let a = and_parts _ (nat_le fields.hop 16) h in
    let b = and_parts _ (nat_le 5 fields.hop) a.0 in
    let c = and_parts (is_update fields.win_size fields.win_offset fields.interval fields.latency fields.timeout) (is_map fields.map) b.0 in
    let m = and_parts (nat_lt fields.map (2 ^ 37)) (nat_le 2 (length (used_channels fields.map))) c.1 in
    record {
      parameters = (update_is_tested fields.win_size fields.win_offset fields.interval fields.latency fields.timeout).0 c.0;
      map = record { data_channels_only = ltb-true _ _ m.0; two_or_more = leb-true _ _ m.1 };
      hop_from = leb-true _ _ b.1;
      hop_to = leb-true _ _ a.1;
    }

taken_facts : (params : AdvParams) (list : List Address) (from to : Address) (fields : ConnectFields)
    → is_connect_taken params list from to fields ≡ true → IsTaken params list from to fields
taken_facts params list from to fields h =
    let a = and_parts _ (is_in_range fields) h in
    let b = and_parts _ (may_connect params list from) a.0 in
    let c = and_parts (is_connectable params.kind) (is_same_address params.own to) b.0 in
    let target = is_same_address params.target from in
    let passed = lets_connect params.policy list from in
    record {
      connectable = c.0;
      to_advertiser = sym (equal_addresses params.own to c.1);
      from_target = λ directed.
          sym (equal_addresses params.target from (target_by (is_directed params.kind) target passed b.1 directed));
      from_list = λ other asked.
          listed_by (has_bit params.policy 1) (is_listed list from)
          (passed_by (is_directed params.kind) target passed b.1 other) asked;
      in_range = in_range_of fields a.1;
    }

taken_by : (test : Bool) (fields taken : ConnectFields) → (if test then Connects fields else Ignore) ≡ Connects taken
    → (test ≡ true) × (taken ≡ fields)
taken_by true fields taken h = (refl, cc)
taken_by false fields taken h = absurd cc

pub taken_connection : (params : AdvParams) (list : List Address) (from to : Address) (ch_sel : Bool) (fields taken : ConnectFields)
    → advertiser_answer params list (Connect from to ch_sel fields) ≡ Connects taken
    → IsTaken params list from to fields × (taken ≡ fields)
taken_connection params list from to ch_sel fields taken h =
    let both = taken_by (is_connect_taken params list from to fields) fields taken h in
    (taken_facts params list from to fields both.0, both.1)
