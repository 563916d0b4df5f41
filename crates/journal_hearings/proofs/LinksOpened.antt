-- In every run of two stations, each link whose CONNECT_IND was heard, and which is to be opened by the lines, is opened by the
-- side that heard it before the next turn.
use Rattle.std.proofs.Common.{◌≡◌, ℕ, ◌+◌, ◌≤◌, Bool, true, Option, List, [], ◌∷◌, ◌++◌, length, refl, sym, ap, subst, ◌∙◌, append-nil, append_assoc, arith}
use Rattle.ble_base.specs.Side.{other_side}
use Rattle.ble_base.specs.declared.roles.Side.{Side}
use Rattle.ble_base.specs.declared.verdicts.Verdict.TheVariants.{Good}
use Rattle.journal.specs.declared.entries.Entry.TheVariants.{Turn, Air}
use Rattle.journal.specs.declared.entries.Mark.{Mark}
use Rattle.journal_data.proofs.link_model.Hearing.{IsHeardWhole}
use Rattle.journal_data.specs.run_model.Due.{Each}
use Rattle.journal_data.specs.run_model.History.{Event, TurnBegan, HostFed, Called, Noted, Transmitted, Hearing, has_received, is_good}
use Rattle.journal_data.specs.run_model.Journal.{entries_of, journal_of, side_of}
use Rattle.journal_data.specs.run_model.LinkEnds.{HaveAddresses}
use Rattle.journal_data.specs.run_model.Links.{Links, is_connect_ind, links_of}
use Rattle.journal_data.specs.run_model.Run.{Given, GoesOn, history_of, run_of, setup_at}
use Rattle.journal_data.proofs.run_model.Dues.{run_due}
use Rattle.journal_data.specs.run_model.Due.{IsDue}
use Rattle.journal_data.proofs.run_model.EntryEvents.{is_of_event, turn_not_air, note_not_air}
use Rattle.journal_data.proofs.run_model.Fates.{FatesBefore, run_fated}
use Rattle.journal_data.proofs.run_model.Journals.{each_front, two}
use Rattle.journal_data.proofs.run_model.LinkEnds.{AreTaken, IsUnderstood}
use Rattle.journal_data.proofs.run_model.OfStations.{OfStations, run_of_stations}
use Rattle.journal_data.proofs.run_model.Places.{each_at}
use Rattle.journal_data.proofs.run_model.Stations.{is_in}
use Rattle.journal_data.proofs.run_model.UpToDate.{note_not_turn}
use Rattle.journal_data.proofs.run_laws.DistinctAccess.{AreApart}
use Rattle.journal_data.specs.journal_links.Begun.{links_begun}
use Rattle.journal_data.proofs.journal_links.OfTwo.{are_distinct}
use Rattle.journal_data.proofs.journal_packets.AccessOrder.{AreNth}
use Rattle.journal_data.proofs.journal_packets.SentLinks.{IsOfTwo as IsOfTwoSides, begun_are_sent, number_sent}
use Rattle.journal_data.proofs.journal_acks.Seen.{IsSeen, seen_last, seen_turn}
use Rattle.journal_data.proofs.journal_acks.TwoStations.{IsOfTwo, hearing_of, one_hearing, other_of, other_received, same_number, side_other}
use Rattle.journal_data.proofs.FewLinks.{HaveFewLinks}
use Rattle.journal_data.proofs.KeptData.{other_in}
use Rattle.journal_hearings.specs.Openings.{AllHeardLinksAreOpened, HeardLinksAreOpened, IsToOpen, is_taken_by}
use Rattle.journal_hearings.proofs.ConnectLines.{begins_one, one_other}
use Rattle.journal_hearings.proofs.ConnectsAwaited.{takes_at}
use Rattle.journal_hearings.proofs.HeardTaken.{AreOpening, HasOpened, WillTake, opened_now, opening_first, opening_kept}

-- ---- the event of a line

pub record IsTurnEvent (event : Event) : Type 0 where
  pub slot : ℕ
  pub radios : List Bool
  pub is : event ≡ TurnBegan slot radios

pub turn_event : (links : Links) (event : Event) (slot : ℕ) (a_on : Bool) (b_on : Option Bool) → entries_of links event ≡ Turn slot a_on b_on ∷ [] → IsTurnEvent event
turn_event links (TurnBegan now radios) slot a_on b_on is = record { slot = now; radios = radios; is = refl }
turn_event links (HostFed station octets) slot a_on b_on is = absurd cc
turn_event links (Called station step) slot a_on b_on is = absurd cc
turn_event links (Noted station note) slot a_on b_on is =
    note_not_turn (side_of station) (links.link_of station) (links.last_of station) note slot a_on b_on (IsTurnEvent (Noted station note)) is
turn_event links (Transmitted station channel octets []) slot a_on b_on is = absurd cc
turn_event links (Transmitted station channel octets (hearing ∷ hearings)) slot a_on b_on is = absurd cc

record IsGoodPacket (event : Event) (side : Side) (channel : ℕ) (octets : List ℕ) : Type 0 where
  sender : ℕ
  hearing : Hearing
  others : List Hearing
  is : event ≡ Transmitted sender channel octets (hearing ∷ others)
  side_is : side_of sender ≡ side
  good : is_good hearing.verdict ≡ true

good_packet : (links : Links) (event : Event) (side : Side) (channel : ℕ) (octets : List ℕ) (fate : Mark) → entries_of links event ≡ Air side channel octets fate Good ∷ []
    → IsGoodPacket event side channel octets
good_packet links (TurnBegan slot radios) side channel octets fate is = turn_not_air slot radios side channel octets fate Good _ is
good_packet links (HostFed station fed) side channel octets fate is = absurd cc
good_packet links (Called station step) side channel octets fate is = absurd cc
good_packet links (Noted station note) side channel octets fate is =
    note_not_air (side_of station) (links.link_of station) (links.last_of station) note side channel octets fate Good _ is
good_packet links (Transmitted station on sent []) side channel octets fate is = absurd cc
good_packet links (Transmitted station on sent (hearing ∷ others)) side channel octets fate is =
    let same_side : side_of station ≡ side = cc in
    let same_channel : on ≡ channel = cc in
    let same_octets : sent ≡ octets = cc in
    let same_verdict : hearing.verdict ≡ Good = cc in record {
      sender = station;
      hearing = hearing;
      others = others;
      is = λ i. Transmitted station (same_channel i) (same_octets i) (hearing ∷ others);
      side_is = same_side;
      good = ap is_good same_verdict;
    }

-- ---- how many links began

module _ (given : Given) (pair : IsOfTwo given) where
  of_two : (before events : List Event) → Each (OfStations given) before events → Each (FatesBefore given) before events → Each IsOfTwoSides before events
  of_two before [] stations fates = tt
  of_two before (event ∷ events) stations fates = (one event stations.0 fates.0, of_two (before ++ event ∷ []) events stations.1 fates.1)
    where
      one : (event : Event) → OfStations given before event → FatesBefore given before event → IsOfTwoSides before event
      one (Transmitted sender channel octets hearings) station fate =
          record { is_one = two sender (ap (is_in sender) (sym pair) ∙ station); once = (fate (one_other given pair)).1 }
      one (TurnBegan slot radios) station fate = tt
      one (HostFed sender octets) station fate = tt
      one (Called sender step) station fate = tt
      one (Noted sender note) station fate = tt

  pub begun_is : (before rest : List Event) → history_of (run_of given) ≡ before ++ rest → (links_of before).begun ≡ length (links_begun (journal_of before))
  begun_is before rest at =
      number_sent before
      ∙ ap length (sym (begun_are_sent before (of_two [] before
      (each_front (OfStations given) [] before rest (subst (Each (OfStations given) []) at (run_of_stations given)))
      (each_front (FatesBefore given) [] before rest (subst (Each (FatesBefore given) []) at (run_fated given))))))

-- ---- each line

module _ (whole : IsHeardWhole) (understood : IsUnderstood) (taken : AreTaken) (nth : AreNth) (apart : AreApart) (given : Given) (pair : IsOfTwo given) (six : HaveAddresses given)
    (few : (station : ℕ) → (setup_at given station).links ≤ 6) (eight : (station : ℕ) → (setup_at given station).host_buffers ≡ 8) where
  few_links : HaveFewLinks given
  few_links = record { links = λ station. let least = few station in omega (arith, least) }

  module _ (history rest : List Event) (at : history_of (run_of given) ≡ history ++ rest) (opened : Each (HasOpened given history) [] history) where
    heard_opened : HeardLinksAreOpened (journal_of history)
    heard_opened = λ front later side channel octets fate from to ch_sel fields is on found to_open.
        let line = is_of_event history front later (Air side channel octets fate Good) is in
        let packet = good_packet (links_of line.before) line.event side channel octets fate line.entry_is in
        let before = line.before in
        let sender = packet.sender in
        let station = other_of sender in
        let hearings = packet.hearing ∷ packet.others in
        let event = Transmitted sender channel octets hearings in
        let here : history ≡ before ++ event ∷ line.after = line.is_at ∙ ap (λ e. before ++ e ∷ line.after) packet.is in
        let wholly : history_of (run_of given) ≡ before ++ event ∷ (line.after ++ rest) =
        at ∙ ap (λ xs. xs ++ rest) here ∙ append_assoc before (event ∷ line.after) rest in
        let in_it = each_at (OfStations given) (history_of (run_of given)) before (line.after ++ rest) event (run_of_stations given) wholly in
        let due = each_at (IsDue given) (history_of (run_of given)) before (line.after ++ rest) event (run_due given).each wholly in
        let one = due.hearings_are ∙ one_hearing given pair due.plan.fates sender channel octets before in_it in
        let told = hearing_of given due.plan.fates sender channel octets before in
        let same : packet.hearing ≡ told = cc in
        let received : has_received station hearings ≡ true =
        ap (has_received station) one ∙ other_received station told (same_number station) ∙ ap (λ (h : Hearing). is_good h.verdict) (sym same) ∙ packet.good in
        let side_is : side_of station ≡ other_side side = side_other sender ∙ ap other_side packet.side_is in
        let open_here : IsToOpen (side_of station) (journal_of before) from to fields =
        subst (λ xs. IsToOpen (side_of station) xs from to fields) line.front_is (subst (λ s. IsToOpen s front from to fields) (sym side_is) to_open) in
        let will : WillTake given before sender channel octets hearings = record {
          is_one = other_in given pair sender in_it;
          received = received;
          begins = begins_one channel octets on (ap is_connect_ind found);
          takes = takes_at understood given pair six whole taken nth apart few_links eight few before (line.after ++ rest) sender channel octets hearings from to ch_sel fields wholly on
              found open_here;
        } in
        let number : (links_of before).begun ≡ length (links_begun front) =
        begun_is given pair before (event ∷ (line.after ++ rest)) wholly ∙ ap (λ xs. length (links_begun xs)) (sym line.front_is) in
        (λ i. is_taken_by (sym side_is i) (sym number i + 1) (journal_of history))
        ∙ each_at (HasOpened given history) history before line.after event opened here will

  abbrev AreOpened : List Event → Type 0
  AreOpened history = Each (HasOpened given history) [] history

  sees : IsSeen given (AreOpening given) AreOpened (λ history station channel octets. Unit {0})
  sees = record {
    turn = λ history is. opened_now given history is.hearing.hears is.each;
    packet = λ phases done left station channel octets history are wanted is. tt;
  }

  pub heard_lines : AllHeardLinksAreOpened (journal_of (history_of (run_of given)))
  heard_lines = λ front rest slot a_on b_on is.
      let one = is_of_event (history_of (run_of given)) front rest (Turn slot a_on b_on) is in
      let turn = turn_event (links_of one.before) one.event slot a_on b_on one.entry_is in
      let opened = seen_turn given (AreOpening given) (opening_kept given pair six (are_distinct given pair)) AreOpened (λ history station channel octets. Unit {0}) sees
      (opening_first given pair) one.before one.after turn.slot turn.radios (one.is_at ∙ ap (λ event. one.before ++ event ∷ one.after) turn.is) in
      subst HeardLinksAreOpened (sym one.front_is) (heard_opened one.before (one.event ∷ one.after) one.is_at opened)

  pub heard_last : (history : List Event) → run_of given ≡ GoesOn history → HeardLinksAreOpened (journal_of history)
  heard_last history goes =
      let opened = seen_last given (AreOpening given) (opening_kept given pair six (are_distinct given pair)) AreOpened (λ history station channel octets. Unit {0}) sees
      (opening_first given pair) history goes in
      heard_opened history [] (ap history_of goes ∙ sym (append-nil history)) opened
