-- An end knows the version of its peer where its procedures saw LL_VERSION_IND.
use Rattle.std.proofs.Common.{◌≡◌, ℕ, Bool, true, false, ◌&&◌, ◌||◌, not, nat_le, if◌then◌else◌, List, Option, Some, None, is_none, is_some, refl, ap, sym, ◌∙◌, subst}
use Rattle.ble_base.specs.ErrorCodes.{memory_capacity_exceeded, mic_failure}
use Rattle.ble_base.specs.declared.error_codes.ErrCode.{ErrCode}
use Rattle.ble_base.specs.declared.roles.Role.{Role}
use Rattle.data_pdu.specs.declared.ctrl.Ctrl.{Ctrl}
use Rattle.data_pdu.specs.declared.ctrl.Ctrl.TheVariants.{VersionInd}
use Rattle.data_pdu.specs.declared.ctrl.CtrlRead.{CtrlRead}
use Rattle.data_pdu.specs.declared.ctrl.CtrlRead.TheVariants.{Bare, Known, Unknown}
use Rattle.link_commands.specs.open_links.control_model.Control.{Enters as control_enters}
use Rattle.procedure_events.specs.procedure_stages.Closing.{is_open}
use Rattle.procedure_events.specs.procedure_stages.Queue.{waiting_in}
use Rattle.link_commands.specs.open_links.link_model.phased_end.Taking.{drawn, is_answered_in}
use Rattle.link_commands.specs.open_links.link_model.phased_end.enc_phase.declared.classes.PduClass.TheVariants.{Data}
use Rattle.link_commands.specs.open_links.link_model.phased_end.enc_phase.declared.facts.PhaseFacts.{PhaseFacts}
use Rattle.link_commands.specs.open_links.link_model.phased_end.enc_phase.declared.facts.PhaseFacts.TheVariants.{Clear}
use Rattle.link_commands.specs.open_links.link_model.phased_end.enc_phase.declared.facts.Transition.TheVariants.{Ask as AskTransition, Refuse}
use Rattle.link_commands.specs.open_links.link_model.phased_end.enc_phase.Phases.{is_quiet, may_follow, phase_after}
use Rattle.link_commands.specs.open_links.link_model.phased_end.enc_phase.Taking.{allows}
use Rattle.link_commands.specs.open_links.link_model.phased_end.phased_control.Phased.{Phased, asking_if, asks_again, encrypting, encrypting_if, is_open_now, is_quiet_now, key_given, key_lacking, refused_if, with_owed_if, with_step}
use Rattle.link_commands.specs.open_links.link_model.phased_end.phased_control.Steps.{seen_by_procedures}
use Rattle.link_commands.specs.open_links.link_model.phased_end.phased_control.Taken.{Response, answered_if_quiet, answered_kept, ciphered, class_of_read, ctrl_in, does_keep, ended_with, handed_on, is_allowed, is_answered, is_answered_at, is_version, keeping, keeps_class, lacks_room_now, role_now}
use Rattle.link_commands.specs.open_links.link_model.phased_end.keyed_control.Keyed.{Keyed}
use Rattle.link_commands.specs.open_links.link_model.phased_end.keyed_control.KeyedSteps.{Enters, SeesAcknowledged, Takes, TakesData, keyed_after, keyed_moved}
use Rattle.link_commands.specs.open_links.link_model.declared.state.PeerFacts.{PeerFacts}
use Rattle.link_commands.specs.open_links.link_model.Acknowledgement.{Pdu}
use Rattle.link_commands.specs.open_links.link_model.Controls.{read_of}
use Rattle.link_commands.specs.open_links.link_model.Entering.{keyed_entered}
use Rattle.link_commands.specs.open_links.link_model.Facts.{Facts, keyed_of}
use Rattle.link_commands.specs.open_links.link_model.Hosts.{key_step}
use Rattle.link_commands.specs.open_links.link_model.Receiving.{acknowledged_if, acks_control, data_taken_if, is_seen, kept_answered, keyed_acked_if, peer_answered, peer_from, peer_from_if, procedures_take_if}
use Rattle.link_commands.specs.open_links.link_model.Sending.{control_gone_if}
use Rattle.link_commands.proofs.open_links.link_model.phased_end.keyed_control.phased_control.Answering.{answers}
use Rattle.link_commands.proofs.open_links.link_model.Views.{Knows}
use Rattle.host_asks.specs.Knowing.{KnowsVersion}

-- ---- steps that take no control PDU leave what the end knows

-- the procedures saw a version
abbrev pub has : Phased → Bool
has s = s.knows_version

owed_knows : (owed : Option Ctrl) (s : Phased) → has (with_owed_if owed s) ≡ has s
owed_knows None s = refl
owed_knows (Some ctrl) s = refl

begun_knows : (phase : PhaseFacts) (s : Phased) → has (encrypting phase s) ≡ has s
begun_knows Clear s = owed_knows s.request (record s { phase = phase_after AskTransition s.phase })
begun_knows phase s = refl

begun_if_knows : (begins : Bool) (request : Option Ctrl) (s : Phased) → has (encrypting_if begins request s) ≡ has s
begun_if_knows true request s = begun_knows s.phase (record s { request = request })
begun_if_knows false request s = refl

-- an event is entered
pub entered_version : (slot : ℕ) (facts : Facts) → has (keyed_entered slot facts).phased ≡ has (keyed_of facts).phased
entered_version slot facts = by (is_none facts.control.ends)
  where
    k : Keyed
    k = keyed_of facts

    by : (goes : Bool) → has (if goes then keyed_moved (Enters slot) k else k).phased ≡ has k.phased
    by true = begun_if_knows _ _ (with_step (control_enters slot (is_quiet_now k.phased)) k.phased)
    by false = refl

-- the host has a key or none
refused_knows : (refuses : Bool) (s : Phased) → has (refused_if refuses s) ≡ has s
refused_knows true s = refl
refused_knows false s = refl

asked_knows : (asks : Bool) (then_after s : Phased) → has then_after ≡ has s → has (if asks then then_after else s) ≡ has s
asked_knows true then_after s is = is
asked_knows false then_after s is = refl

pub key_version : (key : Option (List ℕ)) (facts : Facts) → has (keyed_after (key_step key) (keyed_of facts)).phased ≡ has (keyed_of facts).phased
key_version None facts = by (is_none facts.control.ends)
  where
    k : Keyed
    k = keyed_of facts

    by : (goes : Bool) → has (if goes then keyed_moved (key_step None) k else k).phased ≡ has k.phased
    by true =
        asked_knows (k.phased.asks_key && is_open_now k.phased) (key_lacking k.phased) k.phased (refused_knows (may_follow Refuse k.phased.phase) k.phased)
    by false = refl
key_version (Some ltk) facts = by (is_none facts.control.ends)
  where
    k : Keyed
    k = keyed_of facts

    by : (goes : Bool) → has (if goes then keyed_moved (key_step (Some ltk)) k else k).phased ≡ has k.phased
    by true = asked_knows (k.phased.asks_key && is_open_now k.phased) (key_given k.phased) k.phased refl
    by false = refl

-- the last control PDU is acknowledged, or is not
again_knows : (asks : Bool) (s : Phased) → has (asking_if asks s) ≡ has s
again_knows true s = owed_knows s.request (record s { phase = phase_after AskTransition s.phase })
again_knows false s = refl

acked_knows : (acked : Bool) (k : Keyed) → has (keyed_acked_if acked k).phased ≡ has k.phased
acked_knows true k = by (is_none k.phased.control.ends)
  where
    by : (goes : Bool) → has (if goes then keyed_moved SeesAcknowledged k else k).phased ≡ has k.phased
    by true = again_knows (asks_again k.phased) _
    by false = refl
acked_knows false k = refl

pub acked_version : (acked : Bool) (facts : Facts) → KnowsVersion facts → KnowsVersion (acknowledged_if acked facts)
acked_version acked facts knows some = knows (sym (acked_knows (acks_control acked facts) (keyed_of facts)) ∙ some)

-- a control PDU goes, or does not
pub gone_version : (goes : Bool) (slot : ℕ) (facts : Facts) → KnowsVersion facts → KnowsVersion (control_gone_if goes slot facts)
gone_version true slot facts knows = knows
gone_version false slot facts knows = knows

-- data is taken, or is not
pub data_version : (takes : Bool) (facts : Facts) → KnowsVersion facts → KnowsVersion (data_taken_if takes facts)
data_version true facts knows some = knows (sym (by (is_none facts.control.ends)) ∙ some)
  where
    k : Keyed
    k = keyed_of facts

    allowed : (may : Bool) → has (if may then k.phased else ended_with mic_failure k.phased) ≡ has k.phased
    allowed true = refl
    allowed false = refl

    by : (goes : Bool) → has (if goes then keyed_moved TakesData k else k).phased ≡ has k.phased
    by true = allowed (allows k.phased.phase (role_now k.phased) Data)
    by false = refl
data_version false facts knows some = knows some

-- ---- what it knows of its peer after a PDU

or_true : (b : Bool) → (b || true) ≡ true
or_true true = refl
or_true false = refl

or_false : (b : Bool) → (b || false) ≡ b
or_false true = refl
or_false false = refl

version_from : (read : CtrlRead) (peer : PeerFacts) → is_some (peer_from read peer).version ≡ (is_some peer.version || is_version read)
version_from (Known (VersionInd version company sub)) peer = sym (or_true (is_some peer.version))
version_from (Known ctrl) peer = sym (or_false (is_some peer.version))
version_from (Unknown opcode) peer = sym (or_false (is_some peer.version))
version_from Bare peer = sym (or_false (is_some peer.version))

still_or : (had told seen : Bool) → (had ≡ true → told ≡ true) → (had || seen) ≡ true → (told || seen) ≡ true
still_or true told seen knows some = ap (λ (b : Bool). b || seen) (knows refl)
still_or false told true knows some = or_true told
still_or false told false knows some = absurd cc

-- ---- what it takes

module _ (slot : ℕ) (response : Response) (read : CtrlRead) (s : Phased) (peer : PeerFacts)
    (knows : s.knows_version ≡ true → is_some peer.version ≡ true) where
  -- as the procedures have seen it
  abbrev t : Phased
  t = seen_by_procedures read slot s

  abbrev u : Phased
  u = ciphered response read t

  known_then : u.knows_version ≡ (s.knows_version || is_version read)
  known_then = ap (λ (v : Phased). v.knows_version) (answers t response read)

  kept_then : u.kept ≡ s.kept
  kept_then = ap (λ (v : Phased). v.kept) (answers t response read)

  -- it is known of the peer, or is read
  told : u.knows_version ≡ true → (is_some peer.version || is_version read) ≡ true
  told some = still_or s.knows_version (is_some peer.version) (is_version read) knows (sym known_then ∙ some)

  from_both : (kept : CtrlRead)
      → is_some (peer_from kept (peer_from read peer)).version ≡ ((is_some peer.version || is_version read) || is_version kept)
  from_both kept =
      version_from kept (peer_from read peer) ∙ ap (λ (b : Bool). b || is_version kept) (version_from read peer)

  none_answered : (kept : CtrlRead) → u.knows_version ≡ true → is_some (peer_from kept (peer_from read peer)).version ≡ true
  none_answered kept some = from_both kept ∙ ap (λ (b : Bool). b || is_version kept) (told some)

  -- what was kept is answered, or not
  abbrev Tells : Phased → Type 0
  Tells n =
      n.knows_version ≡ true → is_some (peer_from (kept_answered s.kept n.kept) (peer_from read peer)).version ≡ true

  kept_tells : (kept : Option Ctrl) → u.kept ≡ kept → Tells (answered_kept slot kept u)
  kept_tells None is some = none_answered _ some
  kept_tells (Some ctrl) is some =
      subst (λ (before : Option Ctrl). is_some (peer_from (kept_answered before None) (peer_from read peer)).version ≡ true)
      (sym is ∙ kept_then)
      (from_both (Known ctrl)
      ∙ still_or u.knows_version (is_some peer.version || is_version read) (is_version (Known ctrl)) told some)

  quiet_tells : (quiet : Bool) → Tells (if quiet then answered_kept slot u.kept u else u)
  quiet_tells true some = kept_tells u.kept refl some
  quiet_tells false some = none_answered _ some

  handed_tells : (goes : Bool) → is_none t.control.ends ≡ goes → (if goes then answered_if_quiet slot u else t).control.ends ≡ None
      → Tells (if goes then answered_if_quiet slot u else t)
  handed_tells true is lasts some = quiet_tells (is_quiet_now u) some
  handed_tells false is lasts some = absurd (let h : false ≡ true = sym is ∙ ap (λ (ends : Option ErrCode). is_none ends) lasts in cc)

  abbrev taken_as : (allowed keeps full : Bool) → Phased
  taken_as allowed keeps full =
      if allowed
      then (if keeps then keeping read s
      else (if full then ended_with memory_capacity_exceeded s else handed_on slot response read s))
      else ended_with mic_failure s

  took_tells : (allowed keeps full : Bool) → (taken_as allowed keeps full).control.ends ≡ None
      → (taken_as allowed keeps full).knows_version ≡ true
      → is_some (peer_from (kept_answered s.kept (taken_as allowed keeps full).kept)
      (peer_from_if (allowed && (not keeps && not full)) read peer)).version ≡ true
  took_tells false keeps full lasts some = absurd cc
  took_tells true true full lasts some =
      version_from _ peer ∙ ap (λ (b : Bool). b || is_version (kept_answered s.kept (ctrl_in read))) (knows some)
  took_tells true false true lasts some = absurd cc
  took_tells true false false lasts some = handed_tells (is_none t.control.ends) refl lasts some

-- ---- a control PDU is taken, or is not

answered_so : (read : CtrlRead) (role : Role) (phase : PhaseFacts) (s : Phased) → role_now s ≡ role → s.phase ≡ phase
    → is_answered_in role read phase ≡ is_answered read s
answered_so (Known ctrl) role phase s role_is phase_is = λ i. is_answered_at (sym role_is i) ctrl (sym phase_is i)
answered_so (Unknown opcode) role phase s role_is phase_is = refl
answered_so Bare role phase s role_is phase_is = refl

module _ (pdu : Pdu) (slot : ℕ) (facts : Facts) (holds : Knows (keyed_of facts)) (knows : KnowsVersion facts) where
  abbrev read : CtrlRead
  read = read_of pdu

  abbrev k : Keyed
  k = keyed_of facts

  abbrev s : Phased
  s = k.phased

  -- the procedures see it where the phase has it so
  seen_is : is_none facts.control.ends ≡ true
      → is_seen pdu facts ≡ (is_allowed read s && (not (does_keep read s) && not (lacks_room_now read s)))
  seen_is goes =
      let role = (holds.fits goes).role in
      λ i. goes i && (allows (holds.phase i) (sym role i) (class_of_read read)
      && (not (keeps_class (class_of_read read) (sym role i) (is_quiet (holds.phase i)))
      && not (is_open facts.control.table.closing && (nat_le 16 (waiting_in facts.control.table.queue)
      && answered_so read facts.encryption.end.role facts.encryption.end.phase s role (sym holds.phase) i))))

  abbrev peer_by : Phased → PeerFacts
  peer_by n =
      peer_answered (is_none n.control.ends) (is_seen pdu facts) read (kept_answered s.kept n.kept) facts.peer

  abbrev taken_if : Bool → Phased
  taken_if goes = (if goes then keyed_moved (Takes read slot (drawn facts.encryption.response)) k else k).phased

  taken_knows : (goes : Bool) → is_none facts.control.ends ≡ goes → (taken_if goes).control.ends ≡ None
      → (taken_if goes).knows_version ≡ true → is_some (peer_by (taken_if goes)).version ≡ true
  taken_knows true is lasts some =
      let kept = kept_answered s.kept (taken_if true).kept in
      (λ i. is_some (peer_answered (is_none (lasts i)) (seen_is is i) read kept facts.peer).version)
      ∙ took_tells slot (drawn facts.encryption.response) read s facts.peer knows (is_allowed read s) (does_keep read s) (lacks_room_now read s) lasts some
  taken_knows false is lasts some = absurd (let h : false ≡ true = sym is ∙ ap (λ (ends : Option ErrCode). is_none ends) lasts in cc)

  pub taken_version : (takes : Bool) → (procedures_take_if takes pdu slot facts).control.ends ≡ None → KnowsVersion (procedures_take_if takes pdu slot facts)
  taken_version true lasts some = taken_knows (is_none facts.control.ends) refl lasts some
  taken_version false lasts some = knows some
