-- Both open ends of a link that is followed are in agreement.
use Rattle.std.proofs.Common.{◌≡◌, ℕ, true, Some, List, [], ◌++◌, refl}
use Rattle.ble_base.specs.declared.roles.Role.{Role}
use Rattle.ble_base.specs.declared.roles.Role.TheVariants.{Central, Peripheral}
use Rattle.journal_acks.specs.link_model.OneLink.{AreInAgreement}
use Rattle.journal_acks.specs.open_links.OpenLinks.{OpenLink, link_at}
use Rattle.journal_acks.specs.run_laws.Ends.{OpenEnd}
use Rattle.journal_acks.specs.run_model.Due.{Each}
use Rattle.journal_acks.specs.run_model.History.{Event}
use Rattle.journal_acks.specs.run_model.Numbers.{AreNumbered}
use Rattle.journal_acks.specs.run_model.Run.{Given, facts_at, history_of, run_of}
use Rattle.journal_acks.proofs.run_model.Stations.{is_in}
use Rattle.journal_acks.proofs.run_laws.Agreed.{ack_of, exchange}
use Rattle.journal_acks.proofs.journal_packets.SentLinks.{IsOfTwo as IsHeardByTwo}
use Rattle.journal_acks.proofs.Exchanging.{number_at}
use Rattle.journal_acks.proofs.TwoStations.{IsOfTwo, other_of}
use Rattle.journal_data.proofs.Followed.{AgreeUnmixed, AgreeWhereFollowed, IsFollowed, is_of_two}
use Rattle.journal_data.proofs.KeptData.{other_in}
use Rattle.journal_data.proofs.Mine.{HasFarEnd}
use Rattle.journal_data.proofs.PairedEnds.{far_central, far_end, own_central, own_end}

module _ (given : Given) (agree : AgreeUnmixed given) (are_two : IsOfTwo given) (history rest : List Event)
    (at : history_of (run_of given) ≡ history ++ rest) (numbers : AreNumbered given history) (two : Each IsHeardByTwo [] history)
    (station : ℕ) (on : is_in station given.stations ≡ true) where
  module _ (handle far_handle : ℕ) (link far : OpenLink) (is_open : link_at handle (facts_at given station history).links ≡ Some link)
      (is_open_too : link_at far_handle (facts_at given (other_of station) history).links ≡ Some far)
      (same : number_at (other_of station) far_handle history ≡ number_at station handle history)
      (followed : IsFollowed given history (number_at station handle history)) where
    abbrev own : OpenEnd
    own = own_end station handle link

    abbrev far_is : HasFarEnd given station history handle
    far_is = record { far_handle = far_handle; far = far; is_open = is_open_too; same = same }

    abbrev there : OpenEnd
    there = far_end given station history handle far_is

    in_far : is_in (other_of station) given.stations ≡ true
    in_far = other_in given are_two station on

    agree_by : (role : Role) → link.setup.link.role ≡ role → AreInAgreement (ack_of link) (ack_of far)
    agree_by Central is =
        let both = own_central given are_two history numbers two station on handle link is_open far_is is in
        agree history rest own there (is_of_two given are_two station on) (is_of_two given are_two (other_of station) in_far) at both.ends
        (followed own there on in_far both) is_open is_open_too
    agree_by Peripheral is =
        let both = far_central given are_two history numbers two station on handle link is_open far_is is in
        exchange (ack_of far) (ack_of link)
        (agree history rest there own (is_of_two given are_two (other_of station) in_far) (is_of_two given are_two station on) at both.ends
        (followed there own in_far on both) is_open_too is_open)

  pub agree_followed : AgreeWhereFollowed given (IsFollowed given history) station history
  agree_followed handle far_handle link far is_open is_open_too same followed =
      agree_by handle far_handle link far is_open is_open_too same followed link.setup.link.role refl
