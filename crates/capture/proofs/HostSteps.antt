-- One octet more of a host: what is left over then, and the packet that ends.
use Rattle.std.proofs.Common.{◌≡◌, ℕ, ◌+◌, Bool, true, false, cond, List, [], ◌∷◌, ◌++◌, length, Some, None, refl, sym, ap, ◌∙◌, arith}
use Rattle.std.specs.Prelude.{Option}
use Rattle.std.proofs.lemmas.List.{append_cancel_left, length_push}
use Rattle.h4_frames.specs.declared.packet.HostPacket.{HostPacket}
use Rattle.h4_frames.specs.declared.packet.Fed.{Fed}
use Rattle.h4_frames.specs.declared.packet.Fed.TheVariants.{More, Packet, LostSync}
use Rattle.h4_frames.specs.Packets.{SizedPacket, first_packet, is_indicator}
use Rattle.h4_frames.specs.Frames.{Rest, Begun, Passed, first_reset, frame_entry, frames, reset_octets, rest}
use Rattle.h4_frames.proofs.Steps.{fed_of, found_fed, found_rest, goes_on, next}
use Rattle.h4_frames.proofs.Feeding.{frames_step}
use Rattle.h4_frames.specs.Machine.{framer_after}
use Rattle.capture.specs.declared.hosts.HostStream.{HostStream}
use Rattle.capture.specs.Hosts.{packet_at}
use Rattle.capture.specs.Knowing.{KnowsHost, front_of, is_search}

rest_step : (past : List ℕ) (x : ℕ) → rest (past ++ x ∷ []) ≡ next (rest past) x
unfolding rest
rest_step past x =
    (goes_on (length past) (length (past ++ x ∷ [])) 0 past x (omega arith) (omega (arith, length_push past x))).rest

-- the result of an entry of the frames
fed_in_entry : List (ℕ × Fed) → Fed
fed_in_entry [] = More
fed_in_entry (entry ∷ entries) = entry.1

entry_has : (n : ℕ) (fed : Fed) → fed_in_entry (frame_entry n fed) ≡ fed
unfolding fed_in_entry
entry_has n More = refl
entry_has n (Packet packet) = refl
entry_has n LostSync = refl

-- the result that the frames say is that of the rest
fed_is : (past : List ℕ) (x : ℕ) (fed : Fed) → frames (past ++ x ∷ []) ≡ frames past ++ frame_entry (length past + 1) fed → fed ≡ fed_of (rest past) x
fed_is past x fed e =
    let same = append_cancel_left (frames past) (frame_entry (length past + 1) fed) (frame_entry (length past + 1) (fed_of (rest past) x)) (sym e ∙ frames_step past x) in
    sym (entry_has (length past + 1) fed) ∙ ap fed_in_entry same ∙ entry_has (length past + 1) (fed_of (rest past) x)

-- what a stream holds after an octet, and the packet that it gives
pub record Steps (before : Rest) (x : ℕ) (after : Rest) (begun : List ℕ) (searches : Bool) (packets : List (List ℕ)) : Type 0 where
  pub front : begun ≡ front_of after
  pub lost : searches ≡ is_search after
  pub packet : packets ≡ packet_at before x after

-- ---- more octets are needed

first_kept : (b : Bool) (x : ℕ) → cond b More LostSync ≡ More → Steps (Begun []) x (cond b (Begun (x ∷ [])) (Passed [])) (x ∷ []) false []
first_kept true x e = record { front = refl; lost = refl; packet = refl }
first_kept false x e = absurd (cc)

later_kept : (o : Option SizedPacket) (y : ℕ) (ys : List ℕ) (x : ℕ) → found_fed o ≡ More
    → Steps (Begun (y ∷ ys)) x (found_rest o (Begun (y ∷ ys ++ x ∷ []))) (y ∷ ys ++ x ∷ []) false []
later_kept None y ys x e = record { front = refl; lost = refl; packet = refl }
later_kept (Some found) y ys x e = absurd (cc)

skipped : (o : Option SizedPacket) (ys : List ℕ) (x : ℕ) → found_fed o ≡ More → Steps (Passed ys) x (found_rest o (Passed (ys ++ x ∷ []))) [] true []
skipped None ys x e = record { front = refl; lost = refl; packet = refl }
skipped (Some found) ys x e = absurd (cc)

kept : (r : Rest) (x : ℕ) → fed_of r x ≡ More → Steps r x (next r x) (cond (is_search r) (front_of r) (front_of r ++ x ∷ [])) (is_search r) []
kept (Begun []) x e = first_kept (is_indicator x) x e
kept (Begun (y ∷ ys)) x e = later_kept (first_packet (y ∷ ys ++ x ∷ [])) y ys x e
kept (Passed ys) x e = skipped (first_reset (ys ++ x ∷ [])) ys x e

-- ---- synchronisation is lost

first_lost : (b : Bool) (x : ℕ) → cond b More LostSync ≡ LostSync → Steps (Begun []) x (cond b (Begun (x ∷ [])) (Passed [])) [] true []
first_lost true x e = absurd (cc)
first_lost false x e = record { front = refl; lost = refl; packet = refl }

not_lost : (o : Option SizedPacket) → found_fed o ≡ LostSync → ⊥
not_lost None e = absurd (cc)
not_lost (Some found) e = absurd (cc)

loses : (r : Rest) (x : ℕ) → fed_of r x ≡ LostSync → Steps r x (next r x) (front_of r) true []
loses (Begun []) x e = first_lost (is_indicator x) x e
loses (Begun (y ∷ ys)) x e = absurd (not_lost _ e)
loses (Passed ys) x e = absurd (not_lost _ e)

-- ---- a packet ends

first_whole : (b : Bool) (packet : HostPacket) → cond b More LostSync ≡ Packet packet → ⊥
first_whole true packet e = absurd (cc)
first_whole false packet e = absurd (cc)

found_whole : (o : Option SizedPacket) (packet : HostPacket) (r : Rest) → found_fed o ≡ Packet packet → found_rest o r ≡ Begun []
found_whole None packet r e = absurd (cc)
found_whole (Some found) packet r e = refl

ended : (r : Rest) (x : ℕ) (packet : HostPacket) → fed_of r x ≡ Packet packet
    → Steps r x (next r x) [] false (cond (is_search r) reset_octets (front_of r ++ x ∷ []) ∷ [])
ended (Begun []) x packet e = absurd (first_whole (is_indicator x) packet e)
ended (Begun (y ∷ ys)) x packet e =
    rw (found_whole (first_packet (y ∷ ys ++ x ∷ [])) packet (Begun (y ∷ ys ++ x ∷ [])) e)
    (record { front = refl; lost = refl; packet = refl })
ended (Passed ys) x packet e =
    rw (found_whole (first_reset (ys ++ x ∷ [])) packet (Passed (ys ++ x ∷ [])) e)
    (record { front = refl; lost = refl; packet = refl })

-- ---- by the frames

abbrev pub Grows : List ℕ → ℕ → Fed → Type 0
Grows past x fed = frames (past ++ x ∷ []) ≡ frames past ++ frame_entry (length past + 1) fed

pub keeps_octet : (past : List ℕ) (x : ℕ) → Grows past x More
    → Steps (rest past) x (rest (past ++ x ∷ [])) (cond (is_search (rest past)) (front_of (rest past)) (front_of (rest past) ++ x ∷ []))
    (is_search (rest past)) []
keeps_octet past x e = rw (rest_step past x) (kept (rest past) x (sym (fed_is past x More e)))

pub loses_sync : (past : List ℕ) (x : ℕ) → Grows past x LostSync
    → Steps (rest past) x (rest (past ++ x ∷ [])) (front_of (rest past)) true []
loses_sync past x e = rw (rest_step past x) (loses (rest past) x (sym (fed_is past x LostSync e)))

pub ends_packet : (past : List ℕ) (x : ℕ) (packet : HostPacket) → Grows past x (Packet packet)
    → Steps (rest past) x (rest (past ++ x ∷ [])) [] false
    (cond (is_search (rest past)) reset_octets (front_of (rest past) ++ x ∷ []) ∷ [])
ends_packet past x packet e = rw (rest_step past x) (ended (rest past) x packet (sym (fed_is past x (Packet packet) e)))

-- ---- what a stream knows then

-- what a stream knows after an octet, and the packets that it gave with it
pub record KnowsMore (stream : HostStream) (past : List ℕ) (x : ℕ) (packets : List (List ℕ)) : Type 0 where
  pub knows : KnowsHost stream (past ++ x ∷ [])
  pub packet : packets ≡ packet_at (rest past) x (rest (past ++ x ∷ []))

pub host_keeps : (old new : HostStream) (past : List ℕ) (x : ℕ) → KnowsHost old past → Grows past x More
    → new.framer ≡ framer_after (past ++ x ∷ [])
    → new.front.items ≡ cond old.is_lost old.front.items (old.front.items ++ x ∷ []) → new.is_lost ≡ old.is_lost
    → KnowsMore new past x []
host_keeps old new past x knows grows framer front lost =
    let steps = keeps_octet past x grows in
    let same : cond old.is_lost old.front.items (old.front.items ++ x ∷ [])
    ≡ cond (is_search (rest past)) (front_of (rest past)) (front_of (rest past) ++ x ∷ [])
    = rw (knows.search, knows.front) refl in
    record {
      knows = record { framer = framer; front = front ∙ same ∙ steps.front; search = lost ∙ knows.search ∙ steps.lost };
      packet = steps.packet;
    }

pub host_loses : (old new : HostStream) (past : List ℕ) (x : ℕ) → KnowsHost old past → Grows past x LostSync
    → new.framer ≡ framer_after (past ++ x ∷ []) → new.front.items ≡ old.front.items → new.is_lost ≡ true
    → KnowsMore new past x []
host_loses old new past x knows grows framer front lost =
    let steps = loses_sync past x grows in
    record {
      knows = record { framer = framer; front = front ∙ knows.front ∙ steps.front; search = lost ∙ steps.lost };
      packet = steps.packet;
    }

none_after : (r : Rest) → cond (is_search r) (front_of r) [] ≡ []
none_after (Begun front) = refl
none_after (Passed passed) = refl

pub host_ends : (old new : HostStream) (past : List ℕ) (x : ℕ) (packet : HostPacket) (octets : List ℕ) → KnowsHost old past
    → Grows past x (Packet packet) → new.framer ≡ framer_after (past ++ x ∷ [])
    → new.front.items ≡ cond old.is_lost old.front.items [] → new.is_lost ≡ false
    → octets ≡ cond old.is_lost reset_octets (old.front.items ++ x ∷ [])
    → KnowsMore new past x (octets ∷ [])
host_ends old new past x packet octets knows grows framer front lost is =
    let steps = ends_packet past x packet grows in
    let same : cond old.is_lost old.front.items [] ≡ cond (is_search (rest past)) (front_of (rest past)) []
    = rw (knows.search, knows.front) refl in
    let whole : cond old.is_lost reset_octets (old.front.items ++ x ∷ [])
    ≡ cond (is_search (rest past)) reset_octets (front_of (rest past) ++ x ∷ [])
    = rw (knows.search, knows.front) refl in
    record {
      knows = record {
        framer = framer;
        front = front ∙ same ∙ none_after (rest past) ∙ steps.front;
        search = lost ∙ steps.lost;
      };
      packet = ap (λ (xs : List ℕ). xs ∷ []) (is ∙ whole) ∙ steps.packet;
    }

-- ---- a host that has sent nothing

none_left : rest [] ≡ Begun []
unfolding rest
none_left = refl

pub new_host : (stream : HostStream) → stream.framer ≡ framer_after [] → stream.front.items ≡ [] → stream.is_lost ≡ false → KnowsHost stream []
new_host stream framer front lost = record {
  framer = framer;
  front = front ∙ ap front_of (sym none_left);
  search = lost ∙ ap is_search (sym none_left);
}
