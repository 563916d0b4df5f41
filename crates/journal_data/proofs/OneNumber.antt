-- Two ends with one number have one CONNECT_IND, at one place of the history.
use Rattle.std.proofs.Common.{◌≡◌, ℕ, ◌+◌, ◌≤◌, ◌<◌, Bool, true, false, List, [], ◌∷◌, ◌++◌, fold, refl, sym, ap, ◌∙◌, arith}
use Rattle.std.specs.Prelude.{◌&&◌, if◌then◌else◌}
use Rattle.std.proofs.lemmas.List.Sums.{fold-append}
use Rattle.journal_acks.specs.link_model.Setup.{Setup as EndSetup}
use Rattle.journal_acks.specs.run_model.History.{Event, TurnBegan, HostFed, Called, Noted, Transmitted}
use Rattle.journal_acks.specs.run_model.LinkEnds.{ConnectInd, HasConnectInd}
use Rattle.journal_acks.specs.run_model.Links.{Links, begins_link, first_links, is_connect_ind, links_after, links_of, with_link}
use Rattle.journal_acks.specs.run_model.Numbers.{HasNumber}
use Rattle.journal_acks.proofs.journal_links.LinkLines.{noted_count}

-- ---- the number of links grows

event_grows : (links : Links) (event : Event) → links.begun ≤ (links_after links event).begun
event_grows links (Noted station note) = noted_count links station note
event_grows links (TurnBegan slot radios) = omega arith
event_grows links (HostFed station octets) = omega arith
event_grows links (Called station step) = omega arith
event_grows links (Transmitted sender channel octets hearings) = by (begins_link channel octets)
  where
    by : (begins : Bool) → links.begun ≤ (if begins then with_link sender hearings links else links).begun
    by true = omega arith
    by false = omega arith

events_grow : (links : Links) (events : List Event) → links.begun ≤ (fold links_after links events).begun
events_grow links [] = omega arith
events_grow links (event ∷ events) =
    let first = event_grows links event in
    let rest = events_grow (links_after links event) events in omega (arith, first, rest)

connect_begins : (history : List Event) (station : ℕ) (end : EndSetup) (has : HasConnectInd history station end)
    → begins_link has.sent.channel has.sent.octets ≡ true
unfolding begins_link
connect_begins history station end has = λ i. has.on_channel i && is_connect_ind (has.says i)

-- a CONNECT_IND begins a link more
one_grows : (before more : List Event) (sent : ConnectInd) → begins_link sent.channel sent.octets ≡ true
    → (links_of before).begun < (links_of (before ++ Transmitted sent.sender sent.channel sent.octets sent.hearings ∷ more)).begun
unfolding links_of
one_grows before more sent begins =
    let links = fold links_after first_links before in
    let event = Transmitted sent.sender sent.channel sent.octets sent.hearings in
    let next : (links_after links event).begun ≡ links.begun + 1 = ap (λ b. (if b then with_link sent.sender sent.hearings links else links).begun) begins in
    let rest = events_grow (links_after links event) more in
    let all = ap (λ (l : Links). l.begun) (fold-append links_after first_links before (event ∷ more)) in
    omega (arith, next, rest, all)

-- ---- two fronts of a history

-- an event after each of them: they are one, or one of them is in the other, with its event
data AreFronts (one other : List Event) (first second : Event) : Type 0 where
  AreSame : one ≡ other → AreFronts one other first second
  IsBefore : (more : List Event) → other ≡ one ++ first ∷ more → AreFronts one other first second
  IsAfter : (more : List Event) → one ≡ other ++ second ∷ more → AreFronts one other first second

fronts_of : (one other rest last : List Event) (first second : Event) → one ++ first ∷ rest ≡ other ++ second ∷ last → AreFronts one other first second
fronts_of [] [] rest last first second is = AreSame refl
fronts_of [] (event ∷ other) rest last first second is =
    let same : first ≡ event = cc in IsBefore other (λ i. sym same i ∷ other)
fronts_of (event ∷ one) [] rest last first second is =
    let same : event ≡ second = cc in IsAfter one (λ i. same i ∷ one)
fronts_of (event ∷ one) (found ∷ other) rest last first second is =
    by (fronts_of one other rest last first second cc) cc
  where
    by : AreFronts one other first second → event ≡ found → AreFronts (event ∷ one) (found ∷ other) first second
    by (AreSame same) head = AreSame (λ i. head i ∷ same i)
    by (IsBefore more at) head = IsBefore more (λ i. sym head i ∷ at i)
    by (IsAfter more at) head = IsAfter more (λ i. head i ∷ at i)

-- two ends with one number have one CONNECT_IND, at one place of the history
pub one_connect : (history : List Event) (number other station far : ℕ) (end far_end : EndSetup) → number ≡ other → (has : HasNumber history number station end)
    → (has_too : HasNumber history other far far_end) → has.has.before ≡ has_too.has.before
one_connect history number other station far end far_end same has has_too =
    by (fronts_of has.has.before has_too.has.before has.has.after has_too.has.after _ _ (sym has.has.is_at ∙ has_too.has.is_at))
  where
    event : HasConnectInd history station end → Event
    event one = Transmitted one.sent.sender one.sent.channel one.sent.octets one.sent.hearings

    by : AreFronts has.has.before has_too.has.before (Transmitted has.has.sent.sender has.has.sent.channel has.has.sent.octets has.has.sent.hearings)
        (Transmitted has_too.has.sent.sender has_too.has.sent.channel has_too.has.sent.octets has_too.has.sent.hearings)
        → has.has.before ≡ has_too.has.before
    by (AreSame is) = is
    by (IsBefore more at) =
        let grows = one_grows has.has.before more has.has.sent (connect_begins history station end has.has) in
        let here = has.number_is in
        let there = has_too.number_is in
        let equal = ap (λ h. (links_of h).begun) at in
        absurd (omega (arith, grows, here, there, equal, same))
    by (IsAfter more at) =
        let grows = one_grows has_too.has.before more has_too.has.sent (connect_begins history far far_end has_too.has) in
        let here = has.number_is in
        let there = has_too.number_is in
        let equal = ap (λ h. (links_of h).begun) at in
        absurd (omega (arith, grows, here, there, equal, same))
