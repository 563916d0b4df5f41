-- Two ends of one link come from one event of the history.
use Rattle.std.proofs.Common.{◌≡◌, ◌≢◌, ℕ, ◌+◌, ◌==◌, Bool, false, List, [], ◌∷◌, ◌++◌, sym, ap, subst, ◌∙◌, arith}
use Rattle.std.specs.Prelude.{Some}
use Rattle.std.proofs.lemmas.Bool.{eqb-true, false_from_ne_true}
use Rattle.ble_base.specs.declared.addresses.Address.{Address}
use Rattle.adv_pdu.specs.declared.pdu.AdvPdu.TheVariants.{Connect}
use Rattle.adv_pdu.specs.declared.pdu.ConnectFields.{ConnectFields}
use Rattle.run_model.specs.link_model.Setup.{Setup}
use Rattle.run_model.specs.controller_model.Packets.{pdu_heard}
use Rattle.run_model.specs.History.{Event, turns_begun}
use Rattle.run_model.specs.LinkEnds.{ConnectInd, HasConnectInd, IsAtEnd}
use Rattle.run_laws.specs.Ends.{AreEnds, HaveOneConnectInd, OpenEnd}

same_at : (history before other after later : List Event) (one two : Event) → history ≡ before ++ one ∷ after → history ≡ other ++ two ∷ later → before ≡ other → one ≡ two
same_at history before other after later one two is is_too same = heads before (sym is ∙ is_too ∙ ap (λ (xs : List Event). xs ++ two ∷ later) (sym same))
  where
    heads : (front : List Event) → front ++ one ∷ after ≡ front ++ two ∷ later → one ≡ two
    heads [] e = cc
    heads (first ∷ front) e = heads front (let h : front ++ one ∷ after ≡ front ++ two ∷ later = cc in h)

-- what is said of one event by two
pub record IsOneEvent (one other : ConnectInd) : Type 0 where
  pub sender : one.sender ≡ other.sender
  pub fields : one.fields ≡ other.fields
  pub ch_sel : one.ch_sel ≡ other.ch_sel

one_pdu : (from from_too to to_too : Address) (sel sel_too : Bool) (fields fields_too : ConnectFields)
    → Some (Connect from to sel fields) ≡ Some (Connect from_too to_too sel_too fields_too) → (fields ≡ fields_too) × (sel ≡ sel_too)
one_pdu from from_too to to_too sel sel_too fields fields_too same = (cc, cc)

pub one_event : (history : List Event) (one other : ℕ) (end far : Setup) (has : HasConnectInd history one end) (too : HasConnectInd history other far)
    → has.before ≡ too.before → IsOneEvent has.sent too.sent
one_event history one other end far has too same =
    let event = same_at history has.before too.before has.after too.after _ _ has.is_at too.is_at same in
    let sender : has.sent.sender ≡ too.sent.sender = cc in
    let channel : has.sent.channel ≡ too.sent.channel = cc in
    let octets : has.sent.octets ≡ too.sent.octets = cc in
    let pdu = one_pdu has.sent.from too.sent.from has.sent.to too.sent.to has.sent.ch_sel too.sent.ch_sel has.sent.fields too.sent.fields
    (sym has.says ∙ ap (λ (c : ℕ). pdu_heard c has.sent.octets) channel ∙ ap (λ (xs : List ℕ). pdu_heard too.sent.channel xs) octets ∙ too.says) in
    record { sender = sender; fields = pdu.0; ch_sel = pdu.1 }

one_slot : (one other : ℕ) → one + 1 ≡ other + 1 → one ≡ other
one_slot one other same = omega (arith, same)

pub one_connect_ind : (history : List Event) (central peripheral : OpenEnd) → AreEnds history central peripheral
    → HaveOneConnectInd central.link.setup peripheral.link.setup
one_connect_ind history central peripheral ends =
    let event = one_event history central.station peripheral.station central.link.setup peripheral.link.setup ends.of_central ends.of_peripheral ends.same in
    record {
      fields = sym ends.of_central.fields_are ∙ event.fields ∙ ends.of_peripheral.fields_are;
      opened = one_slot central.link.setup.opened peripheral.link.setup.opened
          (sym ends.of_central.in_turn ∙ ap turns_begun ends.same ∙ ends.of_peripheral.in_turn);
    }

-- the two are at two stations
pub two_stations : (history : List Event) (central peripheral : OpenEnd) → AreEnds history central peripheral → central.station ≢ peripheral.station
two_stations history central peripheral ends = λ same.
    let event = one_event history central.station peripheral.station central.link.setup peripheral.link.setup ends.of_central ends.of_peripheral ends.same in
    let from = subst (λ role. IsAtEnd role central.station central.link.setup ends.of_central.sent) ends.is_central ends.of_central.is_at_end in
    let to = subst (λ role. IsAtEnd role peripheral.station peripheral.link.setup ends.of_peripheral.sent) ends.is_peripheral ends.of_peripheral.is_at_end in
    to.0 (sym event.sender ∙ from.0 ∙ same)

pub apart_ends : (history : List Event) (central peripheral : OpenEnd) → AreEnds history central peripheral → (central.station == peripheral.station) ≡ false
apart_ends history central peripheral ends =
    let differs = two_stations history central peripheral ends in
    false_from_ne_true (central.station == peripheral.station) (λ same. differs (eqb-true central.station peripheral.station same))
