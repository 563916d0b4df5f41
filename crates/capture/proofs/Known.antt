-- What a recorder knows after one entry more, and the packets of an entry by their parts.
use Rattle.std.proofs.Common.{◌≡◌, ℕ, List, [], ◌∷◌, ◌++◌, None, refl, sym, ap, subst, ◌∙◌, append_assoc, append-nil}
use Rattle.std.specs.Prelude.{Option, Result, Ok, Err, OnOk, flat_map}
use Rattle.std.proofs.lemmas.List.Sums.{fold-append}
use Rattle.std.proofs.lemmas.Grind.{flat_map-append}
use Rattle.ble_base.specs.declared.roles.Side.{Side}
use Rattle.ble_base.specs.declared.roles.Side.TheVariants.{A, B}
use Rattle.ble_base.specs.declared.verdicts.Verdict.{Verdict}
use Rattle.journal.specs.declared.entries.Mark.{Mark}
use Rattle.journal.specs.declared.entries.Entry.{Entry}
use Rattle.journal.specs.declared.entries.Entry.TheVariants.{Fed, Up, Air}
use Rattle.capture.specs.declared.clock.Clock.{Clock}
use Rattle.capture.specs.declared.recorder.Recorder.{Recorder}
use Rattle.capture.specs.declared.centrals.Direction.{Direction}
use Rattle.capture.specs.Air.{air_packet}
use Rattle.capture.specs.Blocks.{packet_block}
use Rattle.capture.specs.Capture.{octets_of, packets_of}
use Rattle.capture.specs.Centrals.{central_of, central_with, direction_of, new_link}
use Rattle.capture.specs.Clock.{clock_after, clock_with, first_clock, microseconds}
use Rattle.capture.specs.Hosts.{fed_by, fed_in, packets_ended}
use Rattle.capture.specs.Knowing.{Knows, KnowsCentrals, KnowsHost}
use Rattle.capture.specs.Parts.{host_blocks, packet_by}

clock_more : (past : List Entry) (entry : Entry) → clock_with (clock_after past) entry ≡ clock_after (past ++ entry ∷ [])
clock_more past entry = sym (fold-append clock_with first_clock past (entry ∷ []))

fed_more : (side : Side) (past : List Entry) (entry : Entry) → fed_by side past ++ fed_in side entry ≡ fed_by side (past ++ entry ∷ [])
fed_more side past entry =
    sym (flat_map-append (fed_in side) past (entry ∷ [])
    ∙ ap (λ (xs : List ℕ). fed_by side past ++ xs) (append-nil (fed_in side entry)))

pub central_more : (past : List Entry) (entry : Entry) (access : ℕ)
    → central_with access (central_of past access) (new_link entry) ≡ central_of (past ++ entry ∷ []) access
central_more past entry access = sym (fold-append (λ (before : Option Side) (e : Entry). central_with access before (new_link e)) None past (entry ∷ []))

pub knows_more : (old new : Recorder) (past : List Entry) (entry : Entry) → Knows old past → new.clock ≡ clock_with old.clock entry
    → KnowsHost new.a (fed_by A past ++ fed_in A entry) → KnowsHost new.b (fed_by B past ++ fed_in B entry)
    → KnowsCentrals new.centrals (past ++ entry ∷ []) → Knows new (past ++ entry ∷ [])
knows_more old new past entry knows clock a b centrals = record {
  clock = clock ∙ ap (λ (c : Clock). clock_with c entry) knows.clock ∙ clock_more past entry;
  a = subst (λ (octets : List ℕ). KnowsHost new.a octets) (fed_more A past entry) a;
  b = subst (λ (octets : List ℕ). KnowsHost new.b octets) (fed_more B past entry) b;
  centrals = centrals;
}

-- ---- the packets of an entry

parts_of : List Entry → Entry → List ℕ
parts_of past entry =
    let before = microseconds (clock_after past) in
    (host_blocks A before (packets_ended (fed_by A past) (fed_in A entry))
    ++ host_blocks B before (packets_ended (fed_by B past) (fed_in B entry)))
    ++ flat_map octets_of (packet_by (direction_of past) before (microseconds (clock_with (clock_after past) entry)) entry)

packets_by_parts : (past : List Entry) (entry : Entry) → parts_of past entry ≡ flat_map octets_of (packets_of past entry)
unfolding parts_of
packets_by_parts past (Fed A octets) = append-nil _ ∙ append-nil _
packets_by_parts past (Fed B octets) = append-nil _
packets_by_parts past (Up side octets) = refl
packets_by_parts past (Air side channel octets fate verdict) = refl
packets_by_parts past _ = refl

pub put_parts : (past : List Entry) (entry : Entry) (start a b out : List ℕ)
    → a ≡ start ++ host_blocks A (microseconds (clock_after past)) (packets_ended (fed_by A past) (fed_in A entry))
    → b ≡ a ++ host_blocks B (microseconds (clock_after past)) (packets_ended (fed_by B past) (fed_in B entry))
    → out ≡ b ++ flat_map octets_of (packet_by (direction_of past) (microseconds (clock_after past)) (microseconds (clock_with (clock_after past) entry)) entry)
    → out ≡ start ++ flat_map octets_of (packets_of past entry)
unfolding parts_of
put_parts past entry start a b out first second third =
    let parts = packets_by_parts past entry in
    let before = microseconds (clock_after past) in
    let xs = host_blocks A before (packets_ended (fed_by A past) (fed_in A entry)) in
    let ys = host_blocks B before (packets_ended (fed_by B past) (fed_in B entry)) in
    let zs = flat_map octets_of (packet_by (direction_of past) before (microseconds (clock_with (clock_after past) entry)) entry) in
    third ∙ ap (λ (l : List ℕ). l ++ zs) (second ∙ ap (λ (l : List ℕ). l ++ ys) first)
    ∙ ap (λ (l : List ℕ). l ++ zs) (append_assoc start xs ys)
    ∙ append_assoc start (xs ++ ys) zs
    ∙ ap (λ (l : List ℕ). start ++ l) parts

-- the packets of an entry, from what the calls gave
pub entry_packets : (past : List Entry) (entry : Entry) (clock after : Clock) (before now : ℕ) (of_a of_b start a b out : List ℕ)
    → clock ≡ clock_after past → before ≡ microseconds clock → after ≡ clock_with clock entry → now ≡ microseconds after
    → of_a ≡ fed_in A entry → of_b ≡ fed_in B entry
    → a ≡ start ++ host_blocks A before (packets_ended (fed_by A past) of_a)
    → b ≡ a ++ host_blocks B before (packets_ended (fed_by B past) of_b)
    → out ≡ b ++ flat_map octets_of (packet_by (direction_of past) before now entry)
    → out ≡ start ++ flat_map octets_of (packets_of past entry)
entry_packets past entry clock after before now of_a of_b start a b out clock_is before_is after_is now_is a_is b_is first second third =
    let t = microseconds (clock_after past) in
    let u = microseconds (clock_with (clock_after past) entry) in
    let t_is : before ≡ t = before_is ∙ ap microseconds clock_is in
    let u_is : now ≡ u = now_is ∙ ap microseconds (after_is ∙ ap (λ (c : Clock). clock_with c entry) clock_is) in
    put_parts past entry start a b out
    (first ∙ ap (λ (s : ℕ). start ++ host_blocks A s (packets_ended (fed_by A past) of_a)) t_is
    ∙ ap (λ (f : List ℕ). start ++ host_blocks A t (packets_ended (fed_by A past) f)) a_is)
    (second ∙ ap (λ (s : ℕ). a ++ host_blocks B s (packets_ended (fed_by B past) of_b)) t_is
    ∙ ap (λ (f : List ℕ). a ++ host_blocks B t (packets_ended (fed_by B past) f)) b_is)
    (third ∙ ap (λ (s : ℕ). b ++ flat_map octets_of (packet_by (direction_of past) s now entry)) t_is
    ∙ ap (λ (s : ℕ). b ++ flat_map octets_of (packet_by (direction_of past) t s entry)) u_is)

-- the packet on the air of an entry
pub own_air : (past : List Entry) (entry : Entry) (before now : ℕ) (side : Side) (channel : ℕ) (octets slice : List ℕ) (fate : Mark)
    (verdict : Verdict) (direction : Direction) (packet out more : List ℕ)
    → entry ≡ Air side channel octets fate verdict → direction ≡ direction_of past side channel slice
    → packet ≡ air_packet channel slice fate verdict direction → slice ≡ octets → more ≡ out ++ packet_block 0 now packet
    → more ≡ out ++ flat_map octets_of (packet_by (direction_of past) before now entry)
own_air past entry before now side channel octets slice fate verdict direction packet out more entry_is direction_is packet_is slice_is is =
    let whole : packet ≡ air_packet channel octets fate verdict (direction_of past side channel octets)
    = packet_is ∙ ap (λ (d : Direction). air_packet channel slice fate verdict d) direction_is
    ∙ ap (λ (o : List ℕ). air_packet channel o fate verdict (direction_of past side channel o)) slice_is in
    rw entry_is
    (is ∙ ap (λ (p : List ℕ). out ++ packet_block 0 now p) whole
    ∙ ap (λ (xs : List ℕ). out ++ xs)
    (sym (append-nil (packet_block 0 now (air_packet channel octets fate verdict (direction_of past side channel octets))))))

pub on_ok_map : {E : Type 0} (result : Result (Unit {0}) E) {P Q : Type 0} → (P → Q) → OnOk result P → OnOk result Q
on_ok_map (Ok done) f p = f p
on_ok_map (Err e) f p = tt
