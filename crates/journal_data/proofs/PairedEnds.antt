-- Two open ends with one number, of which one is the peripheral's, are the two ends of a link.
use Rattle.std.proofs.Common.{◌≡◌, ℕ, zero, suc, true, Some, List, [], ◌∷◌, ◌++◌, refl, sym, ap, ◌∙◌}
use Rattle.ble_base.specs.Side.{other_side}
use Rattle.ble_base.specs.declared.roles.Role.{Role}
use Rattle.ble_base.specs.declared.roles.Role.TheVariants.{Central, Peripheral}
use Rattle.ble_base.specs.declared.roles.Side.{Side}
use Rattle.ble_base.specs.declared.roles.Side.TheVariants.{A, B}
use Rattle.journal_acks.specs.controller_model.Step.{Step}
use Rattle.journal_acks.specs.journal_links.Begun.{LinkBegun, link_numbered}
use Rattle.journal_acks.specs.journal_links.Changes.{role_by}
use Rattle.journal_acks.specs.journal_links.Opened.{central_side}
use Rattle.journal_acks.specs.open_links.OpenLinks.{OpenLink, link_at}
use Rattle.journal_acks.specs.run_laws.Ends.{OpenEnd}
use Rattle.journal_acks.specs.run_model.History.{Event, Called}
use Rattle.journal_acks.specs.run_model.Journal.{journal_of, side_of}
use Rattle.journal_acks.specs.run_model.LinkEnds.{HaveAddresses}
use Rattle.journal_acks.specs.run_model.Numbers.{AreNumbered}
use Rattle.journal_acks.specs.run_model.Run.{Given, facts_at, history_of, run_of}
use Rattle.journal_data.proofs.Followed.{AreEndsOf}
use Rattle.journal_data.proofs.KeptData.{other_in}
use Rattle.journal_data.proofs.Mine.{HasFarEnd}
use Rattle.journal_acks.proofs.Exchanging.{number_at}
use Rattle.journal_acks.proofs.TwoStations.{IsOfTwo, other_of}
use Rattle.journal_acks.proofs.journal_links.ChangesAt.{role_is}
use Rattle.journal_acks.proofs.journal_links.OfTwo.{are_distinct, of_two_stations}
use Rattle.journal_acks.proofs.run_model.LinkEnds.{AreTaken, IsUnderstood}
use Rattle.journal_acks.proofs.run_model.Numbers.{numbered_at}
use Rattle.journal_acks.proofs.run_model.Stations.{is_in}
use Rattle.journal_acks.specs.run_model.Due.{Each}
use Rattle.journal_acks.proofs.journal_packets.SentLinks.{IsOfTwo as IsHeardByTwo}
use Rattle.journal_data.proofs.NumberedEnds.{IsNumberedEnd, front_of_two, numbered_end, same_link}
use Rattle.journal_data.proofs.OneNumber.{one_connect}

-- the other one is on the other side
pub far_side : (station : ℕ) → other_side (side_of station) ≡ side_of (other_of station)
far_side zero = refl
far_side (suc station) = refl

central_by : (side : Side) → role_by side side ≡ Central
central_by A = refl
central_by B = refl

-- the end that listens, and the one that the other station has open
abbrev pub own_end : ℕ → ℕ → OpenLink → OpenEnd
own_end station handle link = record { station = station; handle = handle; link = link }

abbrev pub far_end : (given : Given) (station : ℕ) (history : List Event) (handle : ℕ) → HasFarEnd given station history handle → OpenEnd
far_end given station history handle far = record { station = other_of station; handle = far.far_handle; link = far.far }

peripheral_by : (station : ℕ) → role_by (side_of station) (side_of (other_of station)) ≡ Peripheral
peripheral_by zero = refl
peripheral_by (suc station) = refl

module _ (given : Given) (are_two : IsOfTwo given) (before : List Event) (numbers : AreNumbered given before) (two : Each IsHeardByTwo [] before)
    (station : ℕ) (on : is_in station given.stations ≡ true) (handle : ℕ) (link : OpenLink)
    (is_open : link_at handle (facts_at given station before).links ≡ Some link) (far : HasFarEnd given station before handle) where
  abbrev other : ℕ
  other = other_of station

  own : IsNumberedEnd before (number_at station handle before) station link.setup
  own = numbered_end before (number_at station handle before) station link.setup two (of_two_stations given are_two station on) (numbers station handle link is_open)

  there : IsNumberedEnd before (number_at other far.far_handle before) other far.far.setup
  there =
      numbered_end before (number_at other far.far_handle before) other far.far.setup two (of_two_stations given are_two other (other_in given are_two station on))
      (numbers other far.far_handle far.far far.is_open)

  one_link : there.link ≡ own.link
  one_link = same_link there.link own.link (sym there.is_link ∙ ap (λ n. link_numbered n (journal_of before)) far.same ∙ own.is_link)

  one_place : (numbers other far.far_handle far.far far.is_open).has.before ≡ (numbers station handle link is_open).has.before
  one_place =
      one_connect before (number_at other far.far_handle before) (number_at station handle before) other station far.far.setup link.setup far.same
      (numbers other far.far_handle far.far far.is_open) (numbers station handle link is_open)

  -- the role of the far end is that of its side on the link of the own end
  far_role : (role : Role) → link.setup.link.role ≡ role → far.far.setup.link.role ≡ role_by (central_side role (side_of station)) (side_of other)
  far_role role is =
      sym (role_is far.far.setup.link.role (side_of other))
      ∙ ap (λ s. role_by s (side_of other))
      (sym there.central_is ∙ ap (λ (l : LinkBegun). l.central) one_link ∙ own.central_is ∙ ap (λ r. central_side r (side_of station)) is)

  -- the far end is the central's, or the own end is
  pub far_central : link.setup.link.role ≡ Peripheral
      → AreEndsOf before (number_at station handle before) (far_end given station before handle far) (own_end station handle link)
  far_central role = record {
    ends = record {
      of_central = (numbers other far.far_handle far.far far.is_open).has;
      of_peripheral = (numbers station handle link is_open).has;
      same = one_place;
      is_central = far_role Peripheral role ∙ ap (λ s. role_by s (side_of other)) (far_side station) ∙ central_by (side_of other);
      is_peripheral = role;
    };
    number_is = sym far.same ∙ (numbers other far.far_handle far.far far.is_open).number_is;
  }

  pub own_central : link.setup.link.role ≡ Central
      → AreEndsOf before (number_at station handle before) (own_end station handle link) (far_end given station before handle far)
  own_central role = record {
    ends = record {
      of_central = (numbers station handle link is_open).has;
      of_peripheral = (numbers other far.far_handle far.far far.is_open).has;
      same = sym one_place;
      is_central = role;
      is_peripheral = far_role Central role ∙ peripheral_by station;
    };
    number_is = (numbers station handle link is_open).number_is;
  }

-- before a call at a peripheral
pub are_ends : IsUnderstood → AreTaken → (given : Given) → IsOfTwo given → HaveAddresses given → (before rest : List Event) (station : ℕ) (step : Step)
    → history_of (run_of given) ≡ before ++ Called station step ∷ rest → is_in station given.stations ≡ true → (handle : ℕ) (link : OpenLink)
    → link_at handle (facts_at given station before).links ≡ Some link → link.setup.link.role ≡ Peripheral → (far : HasFarEnd given station before handle)
    → AreEndsOf before (number_at station handle before) (far_end given station before handle far) (own_end station handle link)
are_ends understood taken given are_two six before rest station step at on handle link is_open role far =
    far_central given are_two before (numbered_at understood taken given before rest (Called station step) (are_distinct given are_two) six at refl)
    (front_of_two understood taken given are_two six before (Called station step ∷ rest) at) station on handle link is_open far role
