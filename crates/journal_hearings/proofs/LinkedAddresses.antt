-- A controller has an open link between two addresses exactly where one is open by the lines of its side.
use Rattle.std.proofs.Common.{◌≡◌, ◌≢◌, ℕ, ◌+◌, ◌≤◌, ◌==◌, ◌||◌, Bool, true, false, Option, Some, None, List, [], ◌∷◌, ◌++◌, cond, append_assoc, refl, sym, ap, ◌∙◌, arith}
use Rattle.std.specs.Prelude.{◌&&◌, is_some}
use Rattle.std.specs.List.{find, list_any}
use Rattle.std.specs.Option.{option_map}
use Rattle.std.proofs.lemmas.Bool.{eqb-true, false_from_ne_true, or_left, or_right}
use Rattle.ble_base.specs.declared.addresses.Address.{Address}
use Rattle.ble_base.specs.declared.roles.Role.{Role}
use Rattle.ble_base.specs.declared.roles.Role.TheVariants.{Central, Peripheral}
use Rattle.ble_base.specs.declared.roles.Side.{Side}
use Rattle.ble_base.specs.declared.roles.Side.TheVariants.{A, B}
use Rattle.scan_init.specs.Addresses.{is_same_address}
use Rattle.journal_data.specs.link_model.Setup.{Setup}
use Rattle.journal_data.specs.open_links.OpenLinks.{Links, OpenLink, has_link_between, is_between as is_link_between, link_at, link_from}
use Rattle.journal_data.proofs.open_links.Handles.{here, later}
use Rattle.journal_data.specs.run_model.History.{Event, Transmitted}
use Rattle.journal_data.specs.run_model.Journal.{journal_of, side_of}
use Rattle.journal_data.specs.run_model.LinkEnds.{ConnectInd, IsAtEnd}
use Rattle.journal_data.specs.run_model.Numbers.{AreNumbered}
use Rattle.journal_data.specs.run_model.Run.{Given, facts_at, history_of, run_of, setup_at}
use Rattle.journal_data.proofs.run_model.OfStations.{OfStations, run_of_stations}
use Rattle.journal_data.proofs.run_model.Places.{each_at}
use Rattle.journal_data.proofs.run_model.Stations.{is_in}
use Rattle.journal_data.proofs.journal_links.OfTwo.{two_apart}
use Rattle.journal_data.specs.journal_packets.Belonging.{is_side}
use Rattle.journal_data.proofs.journal_acks.Exchanging.{number_at}
use Rattle.journal_data.proofs.journal_acks.TwoStations.{IsOfTwo, side_same}
use Rattle.journal_data.specs.Held.{links_open}
use Rattle.journal_data.specs.HostLines.{OpenUnder, link_under}
use Rattle.journal_data.proofs.EachLine.{lines_at, numbers_at}
use Rattle.journal_data.proofs.HeldLinks.{one_of, under_is}
use Rattle.journal_data.proofs.Openness.{is_open}
use Rattle.journal_data.proofs.StationLines.{IsStationBooked}
use Rattle.journal_hearings.specs.Connects.{connect_numbered}
use Rattle.journal_hearings.specs.Openings.{is_between, is_linked}
use Rattle.journal_hearings.proofs.ConnectLines.{connect_of}

-- ---- the open link of a controller

record IsOpenBetween (first : ℕ) (own peer : Address) (links : Links) : Type 0 where
  handle : ℕ
  from : first ≤ handle
  link : OpenLink
  is_open : link_from first handle links ≡ Some link
  between : is_link_between own peer (Some link) ≡ true

open_between : (first : ℕ) (own peer : Address) (links : Links) → has_link_between own peer links ≡ true → IsOpenBetween first own peer links
open_between first own peer [] is = absurd (let h : false ≡ true = is in absurd cc)
open_between first own peer (place ∷ links) is = by place (is_link_between own peer place) refl is (open_between (first + 1) own peer links)
  where
    by : (one : Option OpenLink) (test : Bool) → is_link_between own peer one ≡ test → (test || has_link_between own peer links) ≡ true
        → (has_link_between own peer links ≡ true → IsOpenBetween (first + 1) own peer links) → IsOpenBetween first own peer (one ∷ links)
    by None true test some rest = absurd (let h : false ≡ true = test in absurd cc)
    by (Some link) true test some rest = record { handle = first; from = omega arith; link = link; is_open = here first (Some link) links; between = test }
    by one false test some rest =
        let found = rest some in record {
          handle = found.handle;
          from = let more = found.from in omega (arith, more);
          link = found.link;
          is_open = later first found.handle one links (let more = found.from in omega (arith, more)) ∙ found.is_open;
          between = found.between;
        }

between_open : (first handle : ℕ) (own peer : Address) (links : Links) (link : OpenLink) → link_from first handle links ≡ Some link → is_link_between own peer (Some link) ≡ true
    → has_link_between own peer links ≡ true
between_open first handle own peer [] link is between = absurd (let h : None ≡ Some link = is in cc)
between_open first handle own peer (place ∷ links) link is between = by (first == handle) is (λ rest. between_open (first + 1) handle own peer links link rest between)
  where
    by : (same : Bool) → cond same place (link_from (first + 1) handle links) ≡ Some link
        → (link_from (first + 1) handle links ≡ Some link → has_link_between own peer links ≡ true) → (is_link_between own peer place || has_link_between own peer links) ≡ true
    by true is rest = or_left (is_link_between own peer place) (has_link_between own peer links) (ap (is_link_between own peer) is ∙ between)
    by false is rest = or_right (is_link_between own peer place) (has_link_between own peer links) (rest is)

record IsPlaceOpen (place : Option OpenLink) : Type 0 where
  link : OpenLink
  is : place ≡ Some link

place_open : (place : Option OpenLink) → is_some place ≡ true → IsPlaceOpen place
place_open None is = absurd cc
place_open (Some link) is = record { link = link; is = refl }

-- ---- its lines

-- one of the links has what is tested
record IsOneWith (test : ℕ → Bool) (links : List OpenUnder) : Type 0 where
  before : List OpenUnder
  one : OpenUnder
  after : List OpenUnder
  is_at : links ≡ before ++ one ∷ after
  tests : test one.link ≡ true

one_linked : (test : ℕ → Bool) (links : List OpenUnder) → list_any (λ (one : OpenUnder). test one.link) links ≡ true → IsOneWith test links
one_linked test [] is = absurd cc
one_linked test (one ∷ links) is = by (test one.link) refl is (one_linked test links)
  where
    by : (tested : Bool) → test one.link ≡ tested → (tested || list_any (λ (x : OpenUnder). test x.link) links) ≡ true
        → (list_any (λ (x : OpenUnder). test x.link) links ≡ true → IsOneWith test links) → IsOneWith test (one ∷ links)
    by true tests is rest = record { before = []; one = one; after = links; is_at = refl; tests = tests }
    by false tests is rest =
        let found = rest is in
        record { before = one ∷ found.before; one = found.one; after = found.after; is_at = ap (λ xs. one ∷ xs) found.is_at; tests = found.tests }

any_under : (test : ℕ → Bool) (handle link : ℕ) (links : List OpenUnder) → link_under handle links ≡ Some link → test link ≡ true
    → list_any (λ (one : OpenUnder). test one.link) links ≡ true
any_under test handle link [] is tests = absurd (let h : None ≡ Some link = is in absurd cc)
any_under test handle link (one ∷ links) is tests = by (one.handle == handle) (test one.link) refl is (λ rest. any_under test handle link links rest tests)
  where
    by : (own same : Bool) → test one.link ≡ same
        → option_map (λ (x : OpenUnder). x.link) (cond own (Some one) (find (λ (x : OpenUnder). x.handle == handle) links)) ≡ Some link
        → (link_under handle links ≡ Some link → list_any (λ (x : OpenUnder). test x.link) links ≡ true)
        → (same || list_any (λ (x : OpenUnder). test x.link) links) ≡ true
    by own true same is rest = refl
    by true false same is rest =
        let equal : one.link ≡ link = cc in
        absurd (let h : true ≡ false = sym tests ∙ ap test (sym equal) ∙ same in absurd cc)
    by false false same is rest = rest is

no_side : (one other : Side) → one ≢ other → is_side one other ≡ false
no_side A A differs = absurd (differs refl)
no_side A B differs = refl
no_side B A differs = refl
no_side B B differs = absurd (differs refl)

-- the CONNECT_IND of an end is between its addresses
end_between : (role : Role) (station : ℕ) (own peer : Address) (end : Setup) (sent : ConnectInd) → end.link.role ≡ role → IsAtEnd role station end sent
    → (sent.sender ≢ station → side_of sent.sender ≢ side_of station)
    → is_between (side_of station) own peer (Some (record { central = side_of sent.sender; from = sent.from; to = sent.to }))
    ≡ (is_same_address own end.link.own && is_same_address peer end.link.peer)
end_between Central station own peer end sent role at apart =
    let same : is_side (side_of sent.sender) (side_of station) ≡ true = ap (λ n. is_side (side_of n) (side_of station)) at.0 ∙ side_same station in
    ap (λ b. cond b (is_same_address own sent.from && is_same_address peer sent.to) (is_same_address own sent.to && is_same_address peer sent.from)) same
    ∙ (λ i. is_same_address own (at.1 i) && is_same_address peer (at.2 i))
end_between Peripheral station own peer end sent role at apart =
    ap (λ b. cond b (is_same_address own sent.from && is_same_address peer sent.to) (is_same_address own sent.to && is_same_address peer sent.from))
    (no_side (side_of sent.sender) (side_of station) (apart at.0))
    ∙ (λ i. is_same_address own (at.3 i) && is_same_address peer (at.2 i))

-- ---- at a time of a run

module _ (given : Given) (pair : IsOfTwo given) (station : ℕ) (in_it : is_in station given.stations ≡ true) (before rest : List Event)
    (at : history_of (run_of given) ≡ before ++ rest) (booked : IsStationBooked given station before) (numbered : AreNumbered given before) where
  abbrev links : Links
  links = (facts_at given station before).links

  apart_from : (sender : ℕ) → is_in sender given.stations ≡ true → sender ≢ station → side_of sender ≢ side_of station
  apart_from sender is_too differs =
      let other = false_from_ne_true (station == sender) (λ same. differs (sym (eqb-true station sender same))) in
      λ same. two_apart given pair station in_it sender is_too other (sym same)

  -- an open link, by its lines
  line_between : (own peer : Address) (handle : ℕ) (link : OpenLink) → link_at handle links ≡ Some link
      → is_between (side_of station) own peer (connect_numbered (number_at station handle before) (journal_of before)) ≡ is_link_between own peer (Some link)
  line_between own peer handle link is_open =
      let of = numbered station handle link is_open in
      let has = of.has in
      let event = Transmitted has.sent.sender has.sent.channel has.sent.octets has.sent.hearings in
      let whole : history_of (run_of given) ≡ has.before ++ event ∷ (has.after ++ rest) =
      at ∙ ap (λ xs. xs ++ rest) has.is_at ∙ append_assoc has.before (event ∷ has.after) rest in
      let sender = each_at (OfStations given) (history_of (run_of given)) has.before (has.after ++ rest) event (run_of_stations given) whole in
      ap (is_between (side_of station) own peer) (connect_of given pair station (number_at station handle before) link.setup before rest at of)
      ∙ end_between link.setup.link.role station own peer link.setup has.sent refl has.is_at_end (apart_from has.sent.sender sender)

  linked : (own peer : Address) → has_link_between own peer links ≡ true → is_linked (side_of station) own peer (journal_of before) ≡ true
  linked own peer is =
      let found = open_between 0 own peer links is in
      let number = number_at station found.handle before in
      let test = λ (n : ℕ). is_between (side_of station) own peer (connect_numbered n (journal_of before)) in
      let tests : test number ≡ true = line_between own peer found.handle found.link found.is_open ∙ found.between in
      let under : link_under found.handle (lines_at station before).links ≡ Some number =
      under_is (setup_at given station).links (lines_at station before).links (numbers_at station before) (is_open links) booked.links found.handle
      ∙ ap (λ (place : Option OpenLink). cond (is_some place) (Some number) None) found.is_open in
      any_under test found.handle number (links_open (side_of station) (journal_of before)) under tests

  pub unlinked : (own peer : Address) → is_linked (side_of station) own peer (journal_of before) ≡ false → has_link_between own peer links ≡ false
  unlinked own peer none =
      false_from_ne_true (has_link_between own peer links) (λ is. let h : true ≡ false = sym (linked own peer is) ∙ none in absurd cc)

  has_linked : (own peer : Address) → is_linked (side_of station) own peer (journal_of before) ≡ true → has_link_between own peer links ≡ true
  has_linked own peer is =
      let found = one_linked (λ (n : ℕ). is_between (side_of station) own peer (connect_numbered n (journal_of before))) (links_open (side_of station) (journal_of before)) is in
      let one = one_of (setup_at given station).links (lines_at station before).links (numbers_at station before) (is_open links) booked.links found.before found.after found.one found.is_at in
      let place = place_open (link_at found.one.handle links) one.is_open in
      between_open 0 found.one.handle own peer links place.link place.is
      (sym (line_between own peer found.one.handle place.link place.is)
      ∙ ap (λ n. is_between (side_of station) own peer (connect_numbered n (journal_of before))) (sym one.number_is) ∙ found.tests)

  pub unlinked_lines : (own peer : Address) → has_link_between own peer links ≡ false → is_linked (side_of station) own peer (journal_of before) ≡ false
  unlinked_lines own peer none =
      false_from_ne_true (is_linked (side_of station) own peer (journal_of before)) (λ is. let h : true ≡ false = sym (has_linked own peer is) ∙ none in absurd cc)
