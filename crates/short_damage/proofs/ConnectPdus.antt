-- What both ends of a link were set up with comes from the CONNECT_IND of their access address.
use Rattle.std.proofs.Common.{◌≡◌, ℕ, zero, suc, ◌^◌, ◌<◌, ◌==◌, inl, inr, true, false, Some, List, ◌∷◌, ◌++◌, sym, ap, subst, ◌∙◌, append_assoc}
use Rattle.adv_pdu.specs.declared.pdu.AdvPdu.{AdvPdu}
use Rattle.adv_pdu.specs.declared.pdu.AdvPdu.TheVariants.{Connect}
use Rattle.adv_pdu.specs.declared.pdu.ConnectFields.{ConnectFields}
use Rattle.adv_pdu.specs.Pdu.{IsPdu}
use Rattle.link_calls.specs.link_model.Setup.{Setup as EndSetup}
use Rattle.link_calls.specs.controller_model.Facts.{Sends}
use Rattle.link_calls.specs.controller_model.Packets.{pdu_heard}
use Rattle.link_calls.proofs.controller_model.DataChannels.{link_channel}
use Rattle.link_calls.specs.run_model.Due.{IsDue, IsPacketDue}
use Rattle.link_calls.specs.run_model.Feeding.{AreDistinct}
use Rattle.link_calls.specs.run_model.History.{Event, Transmitted, past_of}
use Rattle.link_calls.specs.run_model.LinkEnds.{ConnectInd, HasConnectInd, HaveAddresses}
use Rattle.link_calls.specs.run_model.Run.{Given, facts_at, history_of, run_of, setup_at}
use Rattle.link_calls.proofs.run_model.Dues.{run_due}
use Rattle.link_calls.proofs.run_model.LinkEnds.{AreTaken, IsUnderstood, wanted_is}
use Rattle.link_calls.proofs.run_model.Places.{each_at}
use Rattle.link_calls.proofs.run_model.Stations.{is_in}
use Rattle.link_calls.proofs.run_laws.ConnectInds.{no_advertising}
use Rattle.link_calls.proofs.run_laws.DistinctAccess.{AreApart}
use Rattle.link_calls.proofs.run_laws.LinkPhases.{SendsAs}
use Rattle.link_calls.proofs.run_laws.OwnLinks.{ListensAs, at_central, at_peripheral, not_same, one_before, sender_in}
use Rattle.link_calls.proofs.run_laws.SameEvent.{one_event}
use Rattle.link_calls.proofs.run_laws.SentPackets.{IsUseSent, use_is_sent}
use Rattle.link_calls.proofs.run_laws.TurnPlaces.{stands_in_run}
use Rattle.link_calls.proofs.run_laws.TwoStations.{AreTwo, differs_back}

module _ (understood : IsUnderstood) (taken : AreTaken) (apart : AreApart) (given : Given) (six : HaveAddresses given)
    (distinct : AreDistinct given.stations)
    (before rest : List Event) (at : history_of (run_of given) ≡ before ++ rest) where
  -- its CONNECT_IND was sent in form
  module _ (station : ℕ) (end : EndSetup) (has : HasConnectInd before station end) where
    abbrev sent : ConnectInd
    sent = has.sent

    abbrev event : Event
    event = Transmitted sent.sender sent.channel sent.octets sent.hearings

    in_run : history_of (run_of given) ≡ has.before ++ event ∷ (has.after ++ rest)
    in_run = at ∙ ap (λ history. history ++ rest) has.is_at ∙ append_assoc has.before (event ∷ has.after) rest

    is_one : is_in sent.sender given.stations ≡ true
    is_one = sender_in understood taken apart given six distinct before rest at station end has

    due : IsPacketDue given has.before sent.sender sent.channel sent.octets sent.hearings
    due = each_at (IsDue given) (history_of (run_of given)) has.before (has.after ++ rest) event
        (run_due given).each in_run

    was_sent : IsUseSent (facts_at given sent.sender has.before) (Sends sent.channel sent.octets)
    was_sent =
        let stands = stands_in_run given has.before (event ∷ (has.after ++ rest)) sent.sender distinct is_one in_run in
        subst (IsUseSent (facts_at given sent.sender has.before))
        (wanted_is given sent.sender has.before ∙ due.is_wanted)
        (use_is_sent (setup_at given sent.sender) (past_of sent.sender has.before) stands.at
        (six sent.sender) stands.is)

    abbrev connect : AdvPdu
    connect = Connect sent.from sent.to sent.ch_sel sent.fields

    is_pdu : IsPdu connect
    is_pdu = by was_sent
      where
        by : IsUseSent (facts_at given sent.sender has.before) (Sends sent.channel sent.octets) → IsPdu connect
        by (inl pdu_sent) =
            let heard : Some pdu_sent.pdu ≡ Some connect =
            sym (understood sent.channel pdu_sent.pdu pdu_sent.is_pdu)
            ∙ ap (pdu_heard sent.channel) (sym pdu_sent.packet) ∙ has.says in
            let same : pdu_sent.pdu ≡ connect = cc in
            subst IsPdu same pdu_sent.is_pdu
        by (inr link_sent) =
            let below : sent.channel < 37 = subst (λ (n : ℕ). n < 37) (sym link_sent.channel_is)
            (link_channel link_sent.link) in
            let no : true ≡ false = no_advertising sent.channel true has.on_channel below in absurd cc

    pub access_below : end.link.fields.access < 2 ^ 32
    access_below = subst (λ (f : ConnectFields). f.access < 2 ^ 32) has.fields_are (is_pdu.fits.1.1.0)

    pub init_below : end.link.fields.crc_init < 2 ^ 24
    init_below = subst (λ (f : ConnectFields). f.crc_init < 2 ^ 24) has.fields_are is_pdu.bits.crc_init

  -- of two stations, one that listens on a link to the other one, which sends on a link with the same access address
  module _ (two : AreTwo given) (one other : ℕ) (in_it : is_in one given.stations ≡ true)
      (in_too : is_in other given.stations ≡ true) (differs : (one == other) ≡ false)
      (end far : EndSetup) (has : HasConnectInd before one end) (too : HasConnectInd before other far) where
    one_sender : (phases : ℕ) → ListensAs phases end.link.role → SendsAs phases far.link.role
        → has.sent.sender ≡ too.sent.sender
    one_sender zero listens sends =
        let off = at_peripheral end.link.role one end has.sent listens has.is_at_end in
        let own = at_central far.link.role other far too.sent sends too.is_at_end in
        two.only one other has.sent.sender in_it in_too
        (sender_in understood taken apart given six distinct before rest at one end has) differs
        (not_same has.sent.sender one off) ∙ sym own
    one_sender (suc phases) listens sends =
        let own = at_central end.link.role one end has.sent listens has.is_at_end in
        let off = at_peripheral far.link.role other far too.sent sends too.is_at_end in
        own ∙ sym (two.only other one too.sent.sender in_too in_it
        (sender_in understood taken apart given six distinct before rest at other far too)
        (differs_back one other differs) (not_same too.sent.sender other off))

    pub one_connect : (phases : ℕ) → ListensAs phases end.link.role → SendsAs phases far.link.role
        → end.link.fields.access ≡ far.link.fields.access
        → end.link.fields ≡ far.link.fields
    one_connect phases listens sends access =
        let event = one_event before one other end far has too
        (one_before understood taken apart given six distinct before rest at one other end far has too
        (one_sender phases listens sends) access) in
        sym has.fields_are ∙ event.fields ∙ too.fields_are
