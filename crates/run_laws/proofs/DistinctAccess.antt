-- No two CONNECT_INDs of one station have the same access address.
use Rattle.std.proofs.Common.{◌≡◌, ◌≢◌, ℕ, ◌+◌, ◌<◌, ◌≤◌, true, Option, Some, None, List, [], ◌∷◌, ◌++◌, length, sym, ap, subst, ◌∙◌, arith}
use Rattle.std.specs.Prelude.{fold, ◌&&◌, if◌then◌else◌}
use Rattle.std.proofs.lemmas.List.Sums.{fold-append}
use Rattle.scan_init.specs.Access.{nth_access}
use Rattle.adv_pdu.specs.declared.pdu.ConnectFields.{ConnectFields}
use Rattle.run_model.specs.controller_model.Heard.{access_found}
use Rattle.run_model.specs.Feeding.{AreDistinct}
use Rattle.run_model.specs.History.{Event, Transmitted, Hearing}
use Rattle.run_model.specs.LinkEnds.{HaveAddresses}
use Rattle.run_model.specs.Links.{begins_link, is_advertising, is_connect_ind}
use Rattle.run_model.specs.Run.{Given, setup_at, run_of, history_of}
use Rattle.run_model.specs.controller_model.Packets.{pdu_heard}
use Rattle.run_model.proofs.Calls.{same_station}
use Rattle.run_model.proofs.LinkEnds.{IsUnderstood}
use Rattle.run_laws.specs.Access.{IsConnectSent, connects_in, connects_sent}
use Rattle.run_laws.proofs.ConnectInds.{taken_in_order}

-- the addresses with two numbers differ
abbrev pub AreApart : Type 0
AreApart = (cursor m n a b first second : ℕ) → m < n → nth_access cursor m ≡ Some (a, first) → nth_access cursor n ≡ Some (b, second) → a ≢ b

pub record IsFound (may : Option (ℕ × ℕ)) (access : ℕ) : Type 0 where
  pub after : ℕ
  pub is : may ≡ Some (access, after)

pub found_at : (may : Option (ℕ × ℕ)) (access : ℕ) → access_found may ≡ Some access → IsFound may access
found_at None access is = absurd cc
found_at (Some found) access is = let same : found.0 ≡ access = cc in record { after = found.1; is = ap (λ (n : ℕ). Some (n, found.1)) same }

apart : AreApart → (cursor m n a b : ℕ) → m < n → access_found (nth_access cursor m) ≡ Some a → access_found (nth_access cursor n) ≡ Some b → a ≢ b
apart apart_at cursor m n a b less is is_too =
    let one = found_at (nth_access cursor m) a is in
    let other = found_at (nth_access cursor n) b is_too in
    apart_at cursor m n a b one.after other.after less one.is other.is

-- the shorter of two parts of a history begins the longer one
record BeginsWith (before later : List Event) (event : Event) : Type 0 where
  between : List Event
  is : later ≡ before ++ event ∷ between

begins_with : (before later : List Event) (event other : Event) (after rest : List Event) → before ++ event ∷ after ≡ later ++ other ∷ rest → length before < length later
    → BeginsWith before later event
begins_with before [] event other after rest same less = absurd (omega (arith, less))
begins_with [] (first ∷ later) event other after rest same less =
    let one : event ≡ first = cc in record { between = later; is = ap (λ (e : Event). e ∷ later) (sym one) }
begins_with (first ∷ before) (second ∷ later) event other after rest same less =
    let one : first ≡ second = cc in
    let more : before ++ event ∷ after ≡ later ++ other ∷ rest = cc in
    let tail = begins_with before later event other after rest more (omega (arith, less)) in
    record { between = tail.between; is = ap (λ (e : Event). e ∷ later) (sym one) ∙ ap (λ (xs : List Event). first ∷ xs) tail.is }

at_least : (station start : ℕ) (events : List Event) → start ≤ fold (λ count event. count + connects_in station event) start events
at_least station start [] = omega arith
at_least station start (event ∷ events) =
    let rest = at_least station (start + connects_in station event) events in
    omega (arith, rest)

counts_more : (station : ℕ) (before between : List Event) (event : Event) → connects_in station event ≡ 1 → connects_sent station before < connects_sent station (before ++ event ∷ between)
unfolding connects_sent
counts_more station before between event one =
    let step : ℕ → Event → ℕ = λ count event. count + connects_in station event in
    let start = fold step 0 before in
    let rest = at_least station (start + connects_in station event) between in
    let whole = fold-append step 0 before (event ∷ between) in
    omega (arith, rest, whole, one)

is_one : (station channel : ℕ) (octets : List ℕ) (hearings : List Hearing) → is_advertising channel ≡ true → is_connect_ind (pdu_heard channel octets) ≡ true
    → connects_in station (Transmitted station channel octets hearings) ≡ 1
unfolding begins_link
is_one station channel octets hearings on_air connects =
    ap (λ b. if b && (is_advertising channel && is_connect_ind (pdu_heard channel octets)) then 1 else 0) (same_station station)
    ∙ ap (λ b. if b && is_connect_ind (pdu_heard channel octets) then 1 else 0) on_air
    ∙ ap (λ b. if b then 1 else 0) connects

pub sent_in_order : IsUnderstood → (given : Given) (before : List Event) (station : ℕ) (fields : ConnectFields) → AreDistinct given.stations → HaveAddresses given
    → IsConnectSent (history_of (run_of given)) before station fields
    → access_found (nth_access (setup_at given station).cursor (connects_sent station before)) ≡ Some fields.access
sent_in_order understood given before station fields distinct six sent =
    taken_in_order understood given six distinct before sent.after station sent.channel sent.octets sent.hearings sent.from sent.to sent.ch_sel fields sent.is_at sent.on_channel sent.says

pub sent_distinct : IsUnderstood → AreApart → (given : Given) (before later : List Event) (station : ℕ) (fields other : ConnectFields) → AreDistinct given.stations → HaveAddresses given
    → IsConnectSent (history_of (run_of given)) before station fields → IsConnectSent (history_of (run_of given)) later station other → length before < length later
    → fields.access ≢ other.access
sent_distinct understood apart_at given before later station fields other distinct six sent sent_too less =
    let event = Transmitted station sent.channel sent.octets sent.hearings in
    let begins = begins_with before later event (Transmitted station sent_too.channel sent_too.octets sent_too.hearings) sent.after sent_too.after (sym sent.is_at ∙ sent_too.is_at) less in
    let more = counts_more station before begins.between event (is_one station sent.channel sent.octets sent.hearings sent.on_channel (ap is_connect_ind sent.says)) in
    apart apart_at (setup_at given station).cursor (connects_sent station before) (connects_sent station later) fields.access other.access
    (subst (λ (xs : List Event). connects_sent station before < connects_sent station xs) (sym begins.is) more)
    (sent_in_order understood given before station fields distinct six sent) (sent_in_order understood given later station other distinct six sent_too)
