-- The notes on octets of a host alone are those on their frames, one after another.
use Rattle.std.proofs.Common.{◌≡◌, ℕ, ◌+◌, List, [], ◌∷◌, ◌++◌, length, map, refl, ap, sym, ◌∙◌, subst, append-nil, append_assoc}
use Rattle.std.specs.Prelude.{fold}
use Rattle.std.proofs.lemmas.List.Sums.{fold-append}
use Rattle.ble_base.specs.declared.notes.Note.{Note}
use Rattle.h4_frames.specs.declared.packet.Fed.{Fed}
use Rattle.h4_frames.specs.declared.packet.Fed.TheVariants.{More, Packet, LostSync}
use Rattle.h4_frames.specs.Frames.{frames, frame_entry}
use Rattle.hci_cmd.specs.declared.command.Command.{Command}
use Rattle.link_commands.specs.LinksCommanded.{links_commanded}
use Rattle.controller_model.specs.Commands.{moment_by, moment_of}
use Rattle.controller_model.specs.Step.{HostOctet}
use Rattle.controller_model.specs.Facts.{Setup, Facts, first_facts}
use Rattle.controller_model.specs.Side.{facts_after, facts_fed, notes_after, notes_fed, notes_from, notes_of, result_of}
use Rattle.controller_model.specs.Notes.{answers_from, answers_of}
use Rattle.controller_model.proofs.Alike.{Alike, fed_alike, notes_alike}
use Rattle.controller_model.proofs.Feds.{fed_begun, frames_more, more_octets, no_frames}

-- what is held after these frames
abbrev held_from : Setup → Facts → List (ℕ × Fed) → Facts
held_from setup facts entries = fold (λ (held : Facts) (entry : ℕ × Fed). facts_fed setup held entry.1) facts entries

held-append : (setup : Setup) (facts : Facts) (xs ys : List (ℕ × Fed)) → held_from setup facts (xs ++ ys) ≡ held_from setup (held_from setup facts xs) ys
held-append setup facts xs ys = fold-append (λ (held : Facts) (entry : ℕ × Fed). facts_fed setup held entry.1) facts xs ys

held_entry : (setup : Setup) (facts : Facts) (place : ℕ) (fed : Fed) → held_from setup facts (frame_entry place fed) ≡ facts_fed setup facts fed
held_entry setup facts place More = refl
held_entry setup facts place (Packet packet) = refl
held_entry setup facts place LostSync = refl

answers-append : (setup : Setup) (facts : Facts) (xs ys : List (ℕ × Fed))
    → answers_from setup facts (xs ++ ys) ≡ answers_from setup facts xs ++ answers_from setup (held_from setup facts xs) ys
answers-append setup facts [] ys = refl
answers-append setup facts (x ∷ xs) ys =
    let notes = notes_fed setup facts x.1 in
    let next = facts_fed setup facts x.1 in
    ap (λ (rest : List Note). notes ++ rest) (answers-append setup next xs ys)
    ∙ sym (append_assoc notes (answers_from setup next xs) (answers_from setup (held_from setup next xs) ys))

answers_entry : (setup : Setup) (facts : Facts) (place : ℕ) (fed : Fed)
    → answers_from setup facts (frame_entry place fed) ≡ notes_fed setup facts fed
answers_entry setup facts place More = refl
answers_entry setup facts place (Packet packet) = append-nil (notes_fed setup facts (Packet packet))
answers_entry setup facts place LostSync = append-nil (notes_fed setup facts LostSync)

-- ---- an octet more

-- it is alike what is held after the frames of its octets, in the same turn
record FollowsFrames (setup : Setup) (start facts : Facts) : Type 0 where
  alike : Alike facts (held_from setup start (frames facts.octets))
  begun_is : facts.turn.begun ≡ (held_from setup start (frames facts.octets)).turn.begun

-- so commands ask the same of their links
asked_alike : (setup : Setup) (start facts : Facts) → FollowsFrames setup start facts → (command : Command)
    → let other = held_from setup start (frames facts.octets) in
    links_commanded command (moment_of setup facts) facts.links ≡ links_commanded command (moment_of setup other) other.links
asked_alike setup start facts follows command =
    λ i. links_commanded command (moment_by setup (follows.begun_is i) (follows.alike.drawn_is i)) (follows.alike.links_are i)

follows_more : (setup : Setup) (start facts : Facts) (octet : ℕ) → FollowsFrames setup start facts → FollowsFrames setup start (facts_after setup facts (HostOctet octet))
follows_more setup start facts octet follows =
    let fed = result_of facts.octets octet in
    let entry = frame_entry (length facts.octets + 1) fed in
    let other = held_from setup start (frames facts.octets) in
    let held : facts_fed setup other fed ≡ held_from setup start (frames (facts_after setup facts (HostOctet octet)).octets) =
    sym (ap (λ (octets : List ℕ). held_from setup start (frames octets)) (more_octets setup facts octet)
    ∙ ap (held_from setup start) (frames_more facts.octets octet)
    ∙ held-append setup start (frames facts.octets) entry
    ∙ held_entry setup other (length facts.octets + 1) fed) in
    let after = subst (Alike (facts_fed setup facts fed)) held
    (fed_alike setup facts other fed (asked_alike setup start facts follows) follows.alike) in
    record {
      alike = record { view_is = after.view_is; drawn_is = after.drawn_is; links_are = after.links_are };
      begun_is =
          fed_begun setup facts fed ∙ follows.begun_is ∙ sym (fed_begun setup other fed) ∙ ap (λ (next : Facts). next.turn.begun) held;
    }

answers_more : (setup : Setup) (start facts : Facts) (octet : ℕ) → FollowsFrames setup start facts
    → answers_from setup start (frames (facts_after setup facts (HostOctet octet)).octets)
    ≡ answers_from setup start (frames facts.octets) ++ notes_after setup facts (HostOctet octet)
answers_more setup start facts octet follows =
    let fed = result_of facts.octets octet in
    let entry = frame_entry (length facts.octets + 1) fed in
    let other = held_from setup start (frames facts.octets) in
    ap (λ (octets : List ℕ). answers_from setup start (frames octets)) (more_octets setup facts octet)
    ∙ ap (answers_from setup start) (frames_more facts.octets octet)
    ∙ answers-append setup start (frames facts.octets) entry
    ∙ ap (λ (notes : List Note). answers_from setup start (frames facts.octets) ++ notes)
    (answers_entry setup other (length facts.octets + 1) fed ∙ sym (notes_alike setup facts other fed follows.alike))

by_frames_from : (setup : Setup) (start facts : Facts) (octets : List ℕ) → FollowsFrames setup start facts
    → answers_from setup start (frames (facts.octets ++ octets))
    ≡ answers_from setup start (frames facts.octets) ++ notes_from setup facts (map HostOctet octets)
by_frames_from setup start facts [] follows =
    ap (λ (octets : List ℕ). answers_from setup start (frames octets)) (append-nil facts.octets)
    ∙ sym (append-nil (answers_from setup start (frames facts.octets)))
by_frames_from setup start facts (octet ∷ octets) follows =
    let next = facts_after setup facts (HostOctet octet) in
    let later = notes_from setup next (map HostOctet octets) in
    ap (λ (all : List ℕ). answers_from setup start (frames all)) (sym (append_assoc facts.octets (octet ∷ []) octets))
    ∙ ap (λ (front : List ℕ). answers_from setup start (frames (front ++ octets))) (sym (more_octets setup facts octet))
    ∙ by_frames_from setup start next octets (follows_more setup start facts octet follows)
    ∙ ap (λ (notes : List Note). notes ++ later) (answers_more setup start facts octet follows)
    ∙ append_assoc (answers_from setup start (frames facts.octets)) (notes_after setup facts (HostOctet octet)) later

pub by_frames : (setup : Setup) (octets : List ℕ) → notes_of setup (map HostOctet octets) ≡ answers_of setup (frames octets)
unfolding notes_of answers_of
by_frames setup octets =
    let start = first_facts setup in
    let none : start ≡ held_from setup start (frames []) = ap (held_from setup start) (sym no_frames) in
    let alike : Alike start start = record { view_is = refl; drawn_is = refl; links_are = refl } in
    sym (by_frames_from setup start start octets
    (record { alike = subst (Alike start) none alike; begun_is = ap (λ (facts : Facts). facts.turn.begun) none })
    ∙ ap (λ (entries : List (ℕ × Fed)). answers_from setup start entries ++ notes_from setup start (map HostOctet octets)) no_frames)
