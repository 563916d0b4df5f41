-- The stage of a framer is that of what is left of its octets.
use Rattle.std.proofs.Common.{◌≡◌, ℕ, zero, suc, ◌+◌, ◌-◌, ◌<◌, ◌≤◌, Bool, true, false, ◌||◌, cond, eqb, leb, ltb, List, [], ◌∷◌, ◌++◌, length, take, Option, Some, None, refl, ap, sym, ◌∙◌, arith, length-take}
use Rattle.std.proofs.lemmas.Bool.{leb-false, ltb-true, ltb-false}
use Rattle.std.proofs.lemmas.Bool.Decides.{nat_tests}
use Rattle.std.proofs.lemmas.List.{length_push, take_all, take-append-le}
use Rattle.ble_base.specs.declared.limits.TheConstants.{PAYLOAD_OCTETS}
use Rattle.h4_frames.specs.declared.packet.HostPacket.{HostPacket}
use Rattle.h4_frames.specs.declared.packet.HostPacket.TheVariants.{Command, Acl}
use Rattle.h4_frames.specs.declared.packet.Fed.{Fed}
use Rattle.h4_frames.specs.declared.packet.Fed.TheVariants.{More, Packet, LostSync}
use Rattle.h4_frames.specs.declared.stage.Stage.{Stage}
use Rattle.h4_frames.specs.declared.stage.Stage.TheVariants.{Indicator, CommandHead, AclHead, CommandBody, AclBody, Search}
use Rattle.h4_frames.specs.Packets.{is_indicator, word_of, handle_of, is_start, SizedPacket, first_command, first_acl, first_packet}
use Rattle.h4_frames.specs.Frames.{reset, first_reset, Rest, Begun, Passed, rest_after, rest_from}
use Rattle.h4_frames.specs.Parts.{kept_data}
use Rattle.h4_frames.specs.Machine.{step, end_of_part, seen_with, seen_from, command_stage, acl_stage, stage_of}
use Rattle.h4_frames.proofs.Steps.{found_fed, found_rest, fed_of, next}
use Rattle.h4_frames.proofs.Searches.{first_reset-after, reset_after-push, seen_from-push}

-- what is left is the front of a packet, or holds no HCI_Reset
abbrev pub IsRest : Rest → Type 0
IsRest (Begun []) = Unit {0}
IsRest (Begun (y ∷ ys)) = (is_indicator y ≡ true) × (first_packet (y ∷ ys) ≡ None)
IsRest (Passed ys) = first_reset ys ≡ None

is_rest_after : (f : ℕ) (xs : List ℕ) (o : Option SizedPacket) (r : Rest) → ((zs : List ℕ) → IsRest (rest_from f zs))
    → (o ≡ None → IsRest r) → IsRest (rest_after (rest_from f) xs o r)
is_rest_after f xs None r before here = here refl
is_rest_after f xs (Some found) r before here = before _

is_rest_either : (b : Bool) (r s : Rest) → (b ≡ true → IsRest r) → (b ≡ false → IsRest s) → IsRest (cond b r s)
is_rest_either true r s p q = p refl
is_rest_either false r s p q = q refl

pub is_rest : (f : ℕ) (xs : List ℕ) → IsRest (rest_from f xs)
is_rest zero xs = tt
is_rest (suc f) [] = tt
is_rest (suc f) (y ∷ ys) =
    is_rest_either (is_indicator y) _ _
    (λ yes. is_rest_after f (y ∷ ys) (first_packet (y ∷ ys)) (Begun (y ∷ ys)) (is_rest f) (λ none. (yes, none)))
    (λ no. is_rest_after f ys (first_reset ys) (Passed ys) (is_rest f) (λ none. none))

-- the stage after what is found
abbrev found_stage : Option SizedPacket → Stage → Stage
found_stage None stage = stage
found_stage (Some found) stage = Indicator

abbrev outcome : Option SizedPacket → Stage → Stage × Fed
outcome found stage = (found_stage found stage, found_fed found)

ends_or_goes : (e t : Bool) (n : ℕ) (packet packet' : HostPacket) (stage stage' : Stage) → e ≡ t → packet' ≡ packet → stage ≡ stage'
    → ◌≡◌ {A = Stage × Fed} (cond e (Indicator, Packet packet) (stage, More)) (outcome (cond t (Some (record { size = n; packet = packet' })) None) stage')
ends_or_goes true true n packet packet' stage stage' e same goes = rw same refl
ends_or_goes false false n packet packet' stage stage' e same goes = rw goes refl
ends_or_goes true false n packet packet' stage stage' e same goes = absurd (cc)
ends_or_goes false true n packet packet' stage stage' e same goes = absurd (cc)

end_tests : (e : Bool) (packet : HostPacket) (stage : Stage)
    → ◌≡◌ {A = Stage × Fed} (end_of_part (cond e (Some packet) None) stage) (cond e (Indicator, Packet packet) (stage, More))
end_tests true packet stage = refl
end_tests false packet stage = refl

pub none_false : (b : Bool) (found : SizedPacket) → cond b (Some found) None ≡ None → b ≡ false
none_false true found e = absurd (cc)
none_false false found e = refl

ends_now : (x : ℕ) → eqb x 0 ≡ leb x 0
ends_now x = grind (arith, nat_tests)

ends_then : (m n k : ℕ) → n < m → k ≡ n + 1 → eqb (m - n - 1) 0 ≡ leb m k
ends_then m n k h e = grind (arith, nat_tests)

kept_data-by : (n : ℕ) (ys : List ℕ) (x : ℕ) (b : Bool) → ltb (length (take n ys)) n ≡ b
    → cond b (take n ys ++ x ∷ []) (take n ys) ≡ take n (ys ++ x ∷ [])
kept_data-by n ys x true e =
    let short : length ys < n = omega (arith, ltb-true _ _ e, length-take n ys) in
    rw (take_all n ys (omega arith), take_all n (ys ++ x ∷ []) (omega (arith, length_push ys x))) refl
kept_data-by n ys x false e =
    let long : n ≤ length ys = omega (arith, ltb-false _ _ e, length-take n ys) in
    rw (take-append-le n ys (x ∷ []) long) refl

kept_data-take : (ys : List ℕ) (x : ℕ) → kept_data (take PAYLOAD_OCTETS ys) x ≡ take PAYLOAD_OCTETS (ys ++ x ∷ [])
kept_data-take ys x = kept_data-by PAYLOAD_OCTETS ys x (ltb (length (take PAYLOAD_OCTETS ys)) PAYLOAD_OCTETS) refl

-- a command whose head is there
abbrev parameters_stage : ℕ → ℕ → List ℕ → Stage
parameters_stage opcode left items = CommandBody (record { opcode = opcode; left = left; body = record { items = items } })

command_step : (ys : List ℕ) (x : ℕ) → first_command ys ≡ None
    → step (command_stage ys) x ≡ outcome (first_command (ys ++ x ∷ [])) (command_stage (ys ++ x ∷ []))
command_step [] x none = refl
command_step (a ∷ []) x none = refl
command_step (a ∷ b ∷ []) x none =
    ends_or_goes (eqb x 0) (leb x 0) (4 + x) (Command (word_of a b) (record { items = [] }))
    (Command (word_of a b) (record { items = take x [] })) (parameters_stage (word_of a b) x [])
    (parameters_stage (word_of a b) (x - 0) []) (ends_now x)
    (ap (λ items. Command (word_of a b) (record { items = items })) (take_all x [] (omega arith)))
    (ap (λ left. parameters_stage (word_of a b) left []) (omega arith))
command_step (a ∷ b ∷ c ∷ ys) x none =
    let short : length ys < c = leb-false _ _ (none_false _ _ none) in
    end_tests (eqb (c - length ys - 1) 0) _ _
    ∙ ends_or_goes (eqb (c - length ys - 1) 0) (leb c (length (ys ++ x ∷ []))) (4 + c)
    (Command (word_of a b) (record { items = ys ++ x ∷ [] }))
    (Command (word_of a b) (record { items = take c (ys ++ x ∷ []) }))
    (parameters_stage (word_of a b) (c - length ys - 1) (ys ++ x ∷ []))
    (parameters_stage (word_of a b) (c - length (ys ++ x ∷ [])) (ys ++ x ∷ []))
    (ends_then c (length ys) _ short (length_push ys x))
    (ap (λ items. Command (word_of a b) (record { items = items })) (take_all c (ys ++ x ∷ []) (omega (arith, length_push ys x))))
    (ap (λ left. parameters_stage (word_of a b) left (ys ++ x ∷ [])) (omega (arith, length_push ys x)))

-- ACL data whose head is there
abbrev body_packet : ℕ → ℕ → List ℕ → HostPacket
body_packet word count items = Acl (handle_of word) (is_start word) count (record { items = items })

abbrev body_stage : ℕ → ℕ → ℕ → List ℕ → Stage
body_stage word count left items =
    AclBody (record { handle = handle_of word; start = is_start word; length = count; left = left; body = record { items = items } })

acl_step : (ys : List ℕ) (x : ℕ) → first_acl ys ≡ None
    → step (acl_stage ys) x ≡ outcome (first_acl (ys ++ x ∷ [])) (acl_stage (ys ++ x ∷ []))
acl_step [] x none = refl
acl_step (a ∷ []) x none = refl
acl_step (a ∷ b ∷ []) x none = refl
acl_step (a ∷ b ∷ c ∷ []) x none =
    let word = word_of a b in
    let count = word_of c x in
    ends_or_goes (eqb count 0) (leb count 0) (5 + count) (body_packet word count []) (body_packet word count (take PAYLOAD_OCTETS (take count [])))
    (body_stage word count count []) (body_stage word count (count - 0) []) (ends_now count)
    (ap (body_packet word count) (ap (take PAYLOAD_OCTETS) (take_all count [] (omega arith))))
    (ap (λ left. body_stage word count left []) (omega arith))
acl_step (a ∷ b ∷ c ∷ d ∷ ys) x none =
    let word = word_of a b in
    let count = word_of c d in
    let short : length ys < count = leb-false _ _ (none_false _ _ none) in
    end_tests (eqb (count - length ys - 1) 0) _ _
    ∙ ends_or_goes (eqb (count - length ys - 1) 0) (leb count (length (ys ++ x ∷ []))) (5 + count)
    (body_packet word count (kept_data (take PAYLOAD_OCTETS ys) x)) (body_packet word count (take PAYLOAD_OCTETS (take count (ys ++ x ∷ []))))
    (body_stage word count (count - length ys - 1) (kept_data (take PAYLOAD_OCTETS ys) x))
    (body_stage word count (count - length (ys ++ x ∷ [])) (take PAYLOAD_OCTETS (ys ++ x ∷ [])))
    (ends_then count (length ys) _ short (length_push ys x))
    (ap (body_packet word count) (ap (take PAYLOAD_OCTETS) (take_all count (ys ++ x ∷ []) (omega (arith, length_push ys x))) ∙ sym (kept_data-take ys x)))
    (ap (λ left. body_stage word count left (kept_data (take PAYLOAD_OCTETS ys) x)) (omega (arith, length_push ys x))
    ∙ ap (body_stage word count (count - length (ys ++ x ∷ []))) (kept_data-take ys x))

found_outcome : (o : Option SizedPacket) (r : Rest) (stage : Stage) → stage_of r ≡ stage
    → ◌≡◌ {A = Stage × Fed} (outcome o stage) (stage_of (found_rest o r), found_fed o)
found_outcome None r stage e = rw e refl
found_outcome (Some found) r stage e = refl

first_step : (x : ℕ) (a b : Bool) → eqb x 1 ≡ a
    → ◌≡◌ {A = Stage × Fed} (cond a (CommandHead (record { items = [] }), More) (cond b (AclHead (record { items = [] }), More) (Search 0, LostSync)))
    (stage_of (cond (a || b) (Begun (x ∷ [])) (Passed [])), cond (a || b) More LostSync)
first_step x true b e = rw e refl
first_step x false true e = rw e refl
first_step x false false e = refl

inside_step : (y : ℕ) (ys : List ℕ) (x : ℕ) (b : Bool) → eqb y 1 ≡ b → cond b (first_command ys) (first_acl ys) ≡ None
    → ◌≡◌ {A = Stage × Fed} (step (cond b (command_stage ys) (acl_stage ys)) x) (
      stage_of (found_rest (cond b (first_command (ys ++ x ∷ [])) (first_acl (ys ++ x ∷ []))) (Begun (y ∷ ys ++ x ∷ []))),
      found_fed (cond b (first_command (ys ++ x ∷ [])) (first_acl (ys ++ x ∷ []))),
    )
inside_step y ys x true e none =
    command_step ys x none ∙ found_outcome (first_command (ys ++ x ∷ [])) (Begun (y ∷ ys ++ x ∷ [])) _ (rw e refl)
inside_step y ys x false e none =
    acl_step ys x none ∙ found_outcome (first_acl (ys ++ x ∷ [])) (Begun (y ∷ ys ++ x ∷ [])) _ (rw e refl)

search_goes_on : (ys : List ℕ) (x : ℕ) → first_reset ys ≡ None
    → ◌≡◌ {A = Stage × Fed} (step (Search (seen_from 0 ys)) x)
    (stage_of (found_rest (first_reset (ys ++ x ∷ [])) (Passed (ys ++ x ∷ []))), found_fed (first_reset (ys ++ x ∷ [])))
search_goes_on ys x none =
    let seen = seen_with (seen_from 0 ys) x in
    let found = first_reset-after (ys ++ x ∷ []) ∙ reset_after-push 0 ys x (sym (first_reset-after ys) ∙ none) in
    rw found
    (ends_or_goes (eqb seen 4) (eqb seen 4) (length ys + 1) reset reset (Search seen) (Search (seen_from 0 (ys ++ x ∷ []))) refl refl
    (ap Search (sym (seen_from-push 0 ys x)))
    ∙ found_outcome _ (Passed (ys ++ x ∷ [])) _ refl)

pub steps : (r : Rest) (x : ℕ) → IsRest r → ◌≡◌ {A = Stage × Fed} (step (stage_of r) x) (stage_of (next r x), fed_of r x)
steps (Begun []) x is = first_step x (eqb x 1) (eqb x 2) refl
steps (Begun (y ∷ ys)) x is = inside_step y ys x (eqb y 1) refl is.1
steps (Passed ys) x is = search_goes_on ys x is
