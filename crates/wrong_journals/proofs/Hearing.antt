-- A side that did not hear the CONNECT_IND of a link does not open it.
use Rattle.std.proofs.Common.{◌≡◌, ℕ, Bool, true, false, List, [], ◌∷◌, ◌++◌, refl, sym, ap, ◌∙◌}
use Rattle.std.specs.Prelude.{◌&&◌, ◌||◌}
use Rattle.std.specs.List.{list_any}
use Rattle.ble_base.specs.Side.{other_side}
use Rattle.ble_base.specs.declared.roles.Side.{Side}
use Rattle.ble_base.specs.declared.roles.Side.TheVariants.{A, B}
use Rattle.ble_base.specs.declared.verdicts.Verdict.TheVariants.{Good}
use Rattle.journal.specs.declared.entries.Entry.{Entry}
use Rattle.journal.specs.declared.entries.Entry.TheVariants.{Air}
use Rattle.journal.specs.declared.entries.Mark.{Mark}
use Rattle.run_model.specs.History.{is_good}
use Rattle.run_model.specs.Rows.{turn_entry}
use Rattle.journal_pdus.specs.journal_hearings.Openings.{WasToOpen, lets_in, offer_in}
use Rattle.journal_pdus.specs.journal_hearings.Settings.{accept_list, filter_policy}
use Rattle.journal_pdus.specs.journal_hearings.Taken.{HasHeardConnect}
use Rattle.journal_pdus.specs.journal_packets.Belonging.{is_side}
use Rattle.wrong_journals.proofs.Differing.{truths_differ}
use Rattle.wrong_journals.specs.Hearings.{unasked_connect}

-- a packet of the other side that this side judged good
abbrev pub is_heard_packet : Side → Entry → Bool
is_heard_packet side (Air sender channel octets fate verdict) = is_side sender (other_side side) && is_good verdict
is_heard_packet side entry = false

same_side : (side : Side) → is_side side side ≡ true
same_side A = refl
same_side B = refl

heard_is : (side : Side) (channel : ℕ) (octets : List ℕ) (fate : Mark) → is_heard_packet side (Air (other_side side) channel octets fate Good) ≡ true
heard_is side channel octets fate = ap (λ (b : Bool). b && true) (same_side (other_side side))

or_true : (a : Bool) → a || true ≡ true
or_true true = refl
or_true false = refl

pub any_there : (test : Entry → Bool) (before after : List Entry) (entry : Entry) → test entry ≡ true → list_any test (before ++ entry ∷ after) ≡ true
any_there test [] after entry is = ap (λ (b : Bool). b || list_any test after) is
any_there test (first ∷ before) after entry is = ap (λ (b : Bool). test first || b) (any_there test before after entry is) ∙ or_true (test first)

-- where none of the lines is such a packet, the link is not opened
pub none_heard : (side : Side) (number : ℕ) (front : List Entry) → list_any (is_heard_packet side) front ≡ false → HasHeardConnect side number front → ⊥
none_heard side number front none heard =
    truths_differ (sym (any_there (is_heard_packet side) heard.before heard.between _ (heard_is side heard.channel heard.octets heard.fate))
    ∙ ap (list_any (is_heard_packet side)) (sym heard.is_at) ∙ none)

-- the one packet that the side heard answers no advertisement
pub unasked : WasToOpen A 1 unasked_connect → ⊥
unasked was = by was.heard.before was.heard.is_at was.to_open.lets
  where
    by : (before : List Entry) → unasked_connect ≡ before ++ Air B was.heard.channel was.heard.octets was.heard.fate Good ∷ was.heard.between
        → lets_in (offer_in A before) (filter_policy A before) (accept_list A before) was.heard.from was.heard.to ≡ true → ⊥
    by [] is lets = absurd cc
    by (turn ∷ []) is lets =
        let first : turn ≡ turn_entry 0 = let same = is in cc in
        truths_differ (sym lets ∙ ap (λ (entry : Entry). lets_in (offer_in A (entry ∷ [])) (filter_policy A (entry ∷ [])) (accept_list A (entry ∷ [])) was.heard.from was.heard.to) first)
    by (turn ∷ packet ∷ []) is lets = let same = is in absurd cc
    by (turn ∷ packet ∷ opened ∷ more) is lets = let same = is in by_more more (let rest : [] ≡ more ++ Air B was.heard.channel was.heard.octets was.heard.fate Good ∷ was.heard.between = cc in rest)
      where
        by_more : (more : List Entry) → [] ≡ more ++ Air B was.heard.channel was.heard.octets was.heard.fate Good ∷ was.heard.between → ⊥
        by_more [] none = absurd cc
        by_more (entry ∷ more) none = absurd cc
