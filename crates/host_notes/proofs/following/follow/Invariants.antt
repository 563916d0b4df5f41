-- Invariants of `following::follow`.
use Rattle.std.proofs.Common.{◌≡◌, drop}
use Rattle.std.specs.List.{fold}
use Rattle.host_view.specs.Noted.{view_noted}
use Rattle.host_notes.proofs.following.follow.Given as goal

-- to take what is left is to take all
abbrev pub invariant-loop-note : goal.invariant-loop-note
invariant-loop-note l = fold view_noted l.view (drop l.note-index l.notes) ≡ fold view_noted l.fn.view l.notes
