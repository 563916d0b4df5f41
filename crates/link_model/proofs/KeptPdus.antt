-- A PDU that is kept is known as it is answered.
use Rattle.std.proofs.Common.{◌≡◌, ℕ, ◌&&◌, Bool, true, false, Option, Some, None, is_none, refl, ap, ◌∙◌, if◌then◌else◌}
use Rattle.data_pdu.specs.declared.ctrl.Ctrl.{Ctrl}
use Rattle.data_pdu.specs.declared.ctrl.CtrlRead.{CtrlRead}
use Rattle.data_pdu.specs.declared.ctrl.CtrlRead.TheVariants.{Bare, Known}
use Rattle.link_model.specs.Acknowledgement.{Pdu}
use Rattle.link_model.specs.Controls.{read_of}
use Rattle.link_model.specs.Facts.{Facts}
use Rattle.link_model.specs.Receiving.{control_taken, is_seen, kept_answered, keyed_taken, peer_answered, peer_from, peer_from_if, peer_taken}
use Rattle.link_model.specs.declared.state.PeerFacts.{PeerFacts}

by_kept : (goes_on : Bool) (read : CtrlRead) (peer : PeerFacts) → peer_answered goes_on false read Bare peer ≡ peer
by_kept true read peer = refl
by_kept false read peer = refl

module _ (pdu : Pdu) (slot : ℕ) (facts : Facts) where
  abbrev kept_after : Option Ctrl
  kept_after = (keyed_taken pdu slot facts).phased.kept

  abbrev lasts_after : Bool
  lasts_after = is_none (control_taken pdu slot facts).ends

  pub peer_stays : is_seen pdu facts ≡ false → kept_answered facts.encryption.kept kept_after ≡ Bare
      → peer_taken pdu slot facts ≡ facts.peer
  peer_stays unseen none =
      (λ i. peer_answered lasts_after (unseen i) (read_of pdu) (none i) facts.peer)
      ∙ by_kept lasts_after (read_of pdu) facts.peer

  pub kept_known : (ctrl : Ctrl) → facts.encryption.kept ≡ Some ctrl → kept_after ≡ None → lasts_after ≡ true
      → peer_taken pdu slot facts
      ≡ peer_from (Known ctrl) (peer_from_if (is_seen pdu facts) (read_of pdu) facts.peer)
  kept_known ctrl before none lasts =
      λ i. peer_answered (lasts i) (is_seen pdu facts) (read_of pdu) (kept_answered (before i) (none i)) facts.peer

  pub seen_known : is_seen pdu facts ≡ true → facts.encryption.kept ≡ None → lasts_after ≡ true
      → peer_taken pdu slot facts ≡ peer_from (read_of pdu) facts.peer
  seen_known seen none lasts =
      λ i. peer_answered (lasts i) (seen i) (read_of pdu) (kept_answered (none i) kept_after) facts.peer

  pub nothing_known : lasts_after ≡ false → peer_taken pdu slot facts ≡ facts.peer
  nothing_known over =
      ap (λ goes_on. peer_answered goes_on (is_seen pdu facts) (read_of pdu)
      (kept_answered facts.encryption.kept kept_after) facts.peer) over
