-- What tells that an event has to continue, and that it has not, where its link is known.
use Rattle.std.proofs.Common.{◌≡◌, ℕ, ◌+◌, ◌&&◌, ◌||◌, ◌⊎◌, inl, inr, Bool, true, false, not, List, [], ◌∷◌, ◌++◌, length, Some, refl, sym, ap, subst, ◌∙◌, arith}
use Rattle.std.specs.List.{list_any}
use Rattle.std.proofs.lemmas.List.Folds.{list_any-append}
use Rattle.ble_base.specs.Side.{other_side}
use Rattle.ble_base.specs.declared.roles.Side.{Side}
use Rattle.journal.specs.declared.entries.Entry.{Entry}
use Rattle.journal.specs.declared.entries.Entry.TheVariants.{Air}
use Rattle.journal_acks.specs.run_model.History.{is_good}
use Rattle.journal_acks.specs.run_model.Links.{is_advertising}
use Rattle.journal_acks.specs.run_model.Readers.{turns_of}
use Rattle.journal_acks.specs.journal_links.Begun.{LinkBegun, link_numbered}
use Rattle.journal_acks.specs.journal_links.Changes.{changes_of}
use Rattle.journal_acks.specs.journal_links.Entered.{anchor_in}
use Rattle.journal_acks.specs.journal_packets.Belonging.{is_side, link_of_packet}
use Rattle.journal_acks.proofs.journal_packets.SendersLink.{same_side}
use Rattle.journal_acks.specs.EventOrder.{entered_on}
use Rattle.journal_slots.specs.SecondSlot.{HasToContinue, IsContinued, PacketInSlot, has_more}

-- ---- the link and the event are known

pub record IsKnownAs (front : List Entry) (side : Side) (octets : List ℕ) (number event : ℕ) (link : LinkBegun) : Type 0 where
  pub belongs : link_of_packet front side octets ≡ Some number
  pub is_link : link_numbered number front ≡ Some link
  pub entered : entered_on side number front ≡ event + 1
  -- no change of its parameters is in force
  pub unchanged : changes_of number link side front ≡ []

one_event : (count one other : ℕ) → count ≡ one + 1 → count ≡ other + 1 → one ≡ other
one_event count one other is is_too = omega (arith, is, is_too)

-- what has to be shown of it
pub continued_as : (front : List Entry) (side : Side) (octets : List ℕ) (number event : ℕ) (link : LinkBegun) → IsKnownAs front side octets number event link
    → (length (turns_of front) ≡ anchor_in link [] event + 2 → HasToContinue number (anchor_in link [] event) side front) → IsContinued front side octets
continued_as front side octets number event link known continues = λ other later one belongs is_link entered in_turn.
    let numbers : Some number ≡ Some other = sym known.belongs ∙ belongs in
    let same : number ≡ other = cc in
    let links : Some link ≡ Some one = sym known.is_link ∙ ap (λ n. link_numbered n front) same ∙ is_link in
    let alike : link ≡ one = cc in
    let events = one_event (entered_on side other front) event later (ap (λ n. entered_on side n front) (sym same) ∙ known.entered) entered in
    let none : changes_of other one side front ≡ [] = (λ i. changes_of (sym same i) (sym alike i) side front) ∙ known.unchanged in
    subst (λ changes. HasToContinue other (anchor_in one changes later) side front) (sym none)
    (subst (λ n. HasToContinue n (anchor_in one [] later) side front) same
    (subst (λ (l : LinkBegun). HasToContinue number (anchor_in l [] later) side front) alike
    (subst (λ n. HasToContinue number (anchor_in link [] n) side front) events
    (continues (in_turn ∙ ap (λ changes. anchor_in one changes later + 2) none ∙ sym (λ i. anchor_in (alike i) [] (events i) + 2))))))

-- and what it says of it
pub has_to_continue : (front : List Entry) (side : Side) (octets : List ℕ) (number event : ℕ) (link : LinkBegun) → IsKnownAs front side octets number event link
    → length (turns_of front) ≡ anchor_in link [] event + 2 → IsContinued front side octets → HasToContinue number (anchor_in link [] event) side front
has_to_continue front side octets number event link known in_turn continued =
    subst (λ changes. HasToContinue number (anchor_in link changes event) side front) known.unchanged
    (continued number event link known.belongs known.is_link known.entered (in_turn ∙ ap (λ changes. anchor_in link changes event + 2) (sym known.unchanged)))

-- ---- no packet says that more waits, or none is heard

abbrev pub says_more : Entry → Bool
says_more (Air sender channel octets fate verdict) = not (is_advertising channel) && has_more channel octets
says_more entry = false

abbrev pub is_heard_by : Side → Entry → Bool
is_heard_by side (Air sender channel octets fate verdict) = not (is_advertising channel) && (is_side sender (other_side side) && is_good verdict)
is_heard_by side entry = false

neither : (one other rest : Bool) → (one || (other || rest)) ≡ false → other ≡ false
neither true other rest is = absurd cc
neither false true rest is = absurd cc
neither false false rest is = refl

-- an entry of a list in which no entry passes a test
none_passes : (test : Entry → Bool) (before after : List Entry) (entry : Entry) (front : List Entry) → front ≡ before ++ entry ∷ after → list_any test front ≡ false → test entry ≡ false
none_passes test before after entry front is none =
    neither (list_any test before) (test entry) (list_any test after) (sym (ap (list_any test) is ∙ list_any-append test before (entry ∷ after)) ∙ none)

second_false : (on more : Bool) → on ≡ false → (not on && more) ≡ false → more ≡ false
second_false true more off is = absurd cc
second_false false more off is = is

none_says : (number slot : ℕ) (sender : Side) (front : List Entry) → list_any says_more front ≡ false → (packet : PacketInSlot number slot sender front)
    → has_more packet.channel packet.octets ≡ true → ⊥
none_says number slot sender front none packet more =
    let entry = Air sender packet.channel packet.octets packet.fate packet.verdict in
    let quiet = second_false (is_advertising packet.channel) (has_more packet.channel packet.octets) packet.on_data_channel
    (none_passes says_more packet.before packet.after entry front packet.is_at none) in
    let h : true ≡ false = sym more ∙ quiet in absurd cc

pub no_more_refutes : (number slot : ℕ) (side : Side) (front : List Entry) → list_any says_more front ≡ false → HasToContinue number slot side front → ⊥
no_more_refutes number slot side front none has = by has.more
  where
    by : (has_more has.heard.channel has.heard.octets ≡ true) ⊎ ((sent : PacketInSlot number slot side front) × (has_more sent.channel sent.octets ≡ true)) → ⊥
    by (inl more) = none_says number slot (other_side side) front none has.heard more
    by (inr sent) = none_says number slot side front none sent.0 sent.1

pub unheard_refutes : (number slot : ℕ) (side : Side) (front : List Entry) → list_any (is_heard_by side) front ≡ false → HasToContinue number slot side front → ⊥
unheard_refutes number slot side front none has =
    let heard = has.heard in
    let entry = Air (other_side side) heard.channel heard.octets heard.fate heard.verdict in
    let unheard = second_false (is_advertising heard.channel) (is_side (other_side side) (other_side side) && is_good heard.verdict) heard.on_data_channel
    (none_passes (is_heard_by side) heard.before heard.after entry front heard.is_at none) in
    let h : true ≡ false = sym (λ i. same_side (other_side side) i && is_good (has.good i)) ∙ unheard in absurd cc
