-- The view of all links, as notes, commands and packets change it.
use Rattle.std.proofs.Common.{◌≡◌, ℕ, zero, suc, ◌<◌, ◌==◌, ◌&&◌, not, Bool, true, false, List, [], ◌∷◌, ◌++◌, fold, length, Option, Some, None, if◌then◌else◌, refl, ap, ◌∙◌, subst, eqb-true, arith}
use Rattle.std.specs.List.{AllByRecursion}
use Rattle.std.specs.Option.{option_map}
use Rattle.std.proofs.lemmas.List.{get_or-set_other, get_or-set_same}
use Rattle.ble_base.specs.declared.addresses.Address.{Address}
use Rattle.ble_base.specs.declared.error_codes.ErrCode.{ErrCode}
use Rattle.ble_base.specs.declared.procedure_kinds.Kind.{Kind}
use Rattle.ble_base.specs.declared.notes.Note.{Note}
use Rattle.ble_base.specs.declared.notes.Note.TheVariants.{Done, Opened, Refused, Shut, Took, Up}
use Rattle.hci_cmd.specs.declared.command.Command.{Command}
use Rattle.hci_cmd.specs.declared.command.Command.TheVariants.{Disconnect, HostCompleted, LeConnectionUpdate, LeEnableEncryption, LeKeyNegative, LeKeyReply, LeParamNegative, LeParamReply, LeReadRemoteFeatures, LeSetChannels, LeSetDataLength, LeSetPhy, ReadRemoteVersion, Reset}
use Rattle.data_pdu.specs.Header.{header_in}
use Rattle.data_pdu.specs.declared.header.DataHeader.{DataHeader}
use Rattle.link_commands.specs.open_links.control_end.declared.answers.Entry.{Entry}
use Rattle.link_commands.specs.open_links.control_end.declared.answers.Taken.{Taken}
use Rattle.link_commands.specs.open_links.control_end.Answers.{entry_of}
use Rattle.link_commands.specs.open_links.control_end.Held.{held_of}
use Rattle.link_commands.specs.open_links.link_model.declared.events.ConnectionEvent.{ConnectionEvent}
use Rattle.link_commands.specs.open_links.link_model.Acknowledgement.{Pdu}
use Rattle.link_commands.specs.open_links.link_model.Controls.{goes_on, is_procedure_pdu, is_quiet_now, pdu_fixed}
use Rattle.link_commands.specs.open_links.link_model.Data.{is_empty}
use Rattle.link_commands.specs.open_links.link_model.End.{notes_after}
use Rattle.link_commands.specs.open_links.link_model.Entering.{began_notes, done_notes, event_notes, facts_entered}
use Rattle.link_commands.specs.open_links.link_model.Events.{applied_notes}
use Rattle.link_commands.specs.open_links.link_model.Facts.{Facts, first_facts}
use Rattle.link_commands.specs.open_links.link_model.Packets.{good_pdu}
use Rattle.link_commands.specs.open_links.link_model.Receiving.{accepts, acked_kind, acks_control, facts_before_taking, given_if, given_notes, has_acknowledged, kept_given_if, notes_hearing, received_notes, refused_notes, took_notes_if}
use Rattle.link_commands.specs.open_links.link_model.Sending.{sent_notes_if}
use Rattle.link_commands.specs.open_links.link_model.Setup.{Setup}
use Rattle.link_commands.specs.open_links.link_model.Step.{Step, EventEntered, PacketReceived, PacketSent}
use Rattle.link_commands.specs.open_links.link_model.Verdicts.{pdu_of}
use Rattle.host_view.specs.declared.links.Link.{Link}
use Rattle.host_view.specs.View.{View}
use Rattle.host_view.specs.Changes.{changed_at, on_link, view_after}
use Rattle.host_view.specs.Links.{link_in}
use Rattle.host_view.specs.Noted.{encrypted_if, is_start_rsp, opened_link, view_noted}
use Rattle.link_commands.specs.Commands.{is_about, link_accepted}
use Rattle.host_asks.specs.Noting.{link_after_note, link_encrypted_if}
use Rattle.host_asks.specs.Views.{IsNoteOf, KnowsAt, leaves_other_links}
use Rattle.host_asks.proofs.Ends.{first_knows}

-- ---- a change of one link

changed_own : (links : List (Option Link)) (handle : ℕ) (change : Link → Link)
    → link_in (changed_at handle change links) handle ≡ option_map change (link_in links handle)
changed_own [] handle change = refl
changed_own (link ∷ links) zero change = refl
changed_own (link ∷ links) (suc handle) change = changed_own links handle change

changed_other : (links : List (Option Link)) (given handle : ℕ) (change : Link → Link) → (handle ≡ given → ⊥)
    → link_in (changed_at given change links) handle ≡ link_in links handle
changed_other links given handle change other = get_or-set_other links given handle (option_map change (link_in links given)) None other

same_link : (link : Option Link) → link ≡ option_map (λ l. l) link
same_link None = refl
same_link (Some link) = refl

joined : (f g : Link → Link) (link : Option Link) → option_map g (option_map f link) ≡ option_map (λ l. g (f l)) link
joined f g None = refl
joined f g (Some link) = refl

-- ---- the notes of an end

note_own : (handle : ℕ) (view : View) (note : Note) → IsNoteOf handle note
    → link_in (view_noted view note).links handle ≡ option_map (λ link. link_after_note link note) (link_in view.links handle)
unfolding view_noted
note_own handle view (Refused given kind code) is =
    subst (λ (h : ℕ). link_in (view_noted view (Refused given kind code)).links h ≡ option_map (λ link. link_after_note link (Refused given kind code)) (link_in view.links h)) is
    (changed_own view.links given _)
note_own handle view (Done given kind) is =
    subst (λ (h : ℕ). link_in (view_noted view (Done given kind)).links h ≡ option_map (λ link. link_after_note link (Done given kind)) (link_in view.links h)) is
    (changed_own view.links given _)
note_own handle view (Took given number llid body) is = by (is_start_rsp llid body.items)
  where
    by : (starts : Bool) → link_in (encrypted_if starts given view).links handle ≡ option_map (link_encrypted_if starts) (link_in view.links handle)
    by true =
        subst (λ (h : ℕ). link_in (encrypted_if true given view).links h ≡ option_map (link_encrypted_if true) (link_in view.links h)) is
        (changed_own view.links given _)
    by false = same_link (link_in view.links handle)
note_own handle view (Up packet) is = absurd is
note_own handle view (Opened given role own peer) is = absurd is
note_own handle view (Shut given reason) is = absurd is
note_own handle view other is = same_link (link_in view.links handle)

note_other : (handle other : ℕ) (view : View) (note : Note) → IsNoteOf handle note → (other ≡ handle → ⊥)
    → link_in (view_noted view note).links other ≡ link_in view.links other
unfolding view_noted
note_other handle other view (Refused given kind code) is differs = changed_other view.links given other _ (λ same. differs (same ∙ is))
note_other handle other view (Done given kind) is differs = changed_other view.links given other _ (λ same. differs (same ∙ is))
note_other handle other view (Took given number llid body) is differs = by (is_start_rsp llid body.items)
  where
    by : (starts : Bool) → link_in (encrypted_if starts given view).links other ≡ link_in view.links other
    by true = changed_other view.links given other _ (λ same. differs (same ∙ is))
    by false = refl
note_other handle other view (Up packet) is differs = absurd is
note_other handle other view (Opened given role own peer) is differs = absurd is
note_other handle other view (Shut given reason) is differs = absurd is
note_other handle other view note is differs = refl

pub notes_own : (handle : ℕ) (view : View) (notes : List Note) → AllByRecursion (IsNoteOf handle) notes
    → link_in (fold view_noted view notes).links handle ≡ option_map (λ link. fold link_after_note link notes) (link_in view.links handle)
notes_own handle view [] are = same_link (link_in view.links handle)
notes_own handle view (note ∷ notes) are =
    notes_own handle (view_noted view note) notes are.1
    ∙ ap (option_map (λ link. fold link_after_note link notes)) (note_own handle view note are.0)
    ∙ joined (λ link. link_after_note link note) (λ link. fold link_after_note link notes) (link_in view.links handle)

pub notes_other : (handle other : ℕ) (view : View) (notes : List Note) → AllByRecursion (IsNoteOf handle) notes → (other ≡ handle → ⊥)
    → link_in (fold view_noted view notes).links other ≡ link_in view.links other
notes_other handle other view [] are differs = refl
notes_other handle other view (note ∷ notes) are differs =
    notes_other handle other (view_noted view note) notes are.1 differs ∙ note_other handle other view note are.0 differs

-- those that it makes

module _ (handle : ℕ) where
  abbrev All : List Note → Type 0
  All notes = AllByRecursion (IsNoteOf handle) notes

  both : (notes more : List Note) → All notes → All more → All (notes ++ more)
  both [] more here later = later
  both (note ∷ notes) more here later = (here.0, both notes more here.1 later)

  of_done : (over : Option Kind) → All (done_notes handle over)
  of_done None = tt
  of_done (Some kind) = (refl, tt)

  of_began : (began : Option Kind) → All (began_notes handle began)
  of_began None = tt
  of_began (Some kind) = (tt, tt)

  of_applied : (event : ℕ) (applied : Option ℕ) → All (applied_notes handle event applied)
  of_applied event None = tt
  of_applied event (Some number) = (tt, tt)

  of_refused : (refused : Option (Kind × ErrCode)) → All (refused_notes handle refused)
  of_refused None = tt
  of_refused (Some (kind, code)) = (refl, tt)

  of_event : (event : ConnectionEvent) (entry : Entry) → All (event_notes handle event entry)
  of_event event entry =
      both _ _ (both _ _ (both _ _ (of_applied event.number entry.applied) (tt, tt)) (of_done entry.done)) (of_began entry.began)

  of_entry : (goes : Bool) (event : ConnectionEvent) (entry : Entry) → All (if goes then event_notes handle event entry else [])
  of_entry true event entry = of_event event entry
  of_entry false event entry = tt

  of_sent : (noted : Bool) (number : ℕ) (pdu : Pdu) → All (sent_notes_if noted handle number pdu)
  of_sent true number pdu = (tt, tt)
  of_sent false number pdu = tt

  of_took : (noted : Bool) (pdu : Pdu) (facts : Facts) → All (took_notes_if noted handle pdu facts)
  of_took true pdu facts = (refl, tt)
  of_took false pdu facts = tt

  of_given : (given : Taken) → All (given_notes handle given)
  of_given given = both _ _ (of_refused given.refused) (of_done given.done)

of_hearing : (setup : Setup) (slot : ℕ) (room : Bool) (header : DataHeader) (pdu : Pdu) (facts : Facts)
    → AllByRecursion (IsNoteOf setup.link.handle) (notes_hearing setup slot room header pdu facts)
of_hearing setup slot room header pdu facts =
    let now = facts_before_taking setup.link.role slot header facts in
    let accepted = accepts room header pdu now in
    let takes = accepted && is_procedure_pdu pdu in
    both setup.link.handle _ _ (of_done setup.link.handle (acked_kind (acks_control (has_acknowledged facts header) facts) facts))
    (both setup.link.handle _ _ (of_took setup.link.handle (accepted && not (is_empty pdu)) pdu now)
    (both setup.link.handle _ _ (of_given setup.link.handle (given_if takes pdu slot now)) (of_given setup.link.handle (kept_given_if takes pdu slot now))))

of_received : (setup : Setup) (slot : ℕ) (room : Bool) (octets : Option (List ℕ)) (facts : Facts)
    → AllByRecursion (IsNoteOf setup.link.handle) (received_notes setup slot room octets facts)
of_received setup slot room None facts = tt
of_received setup slot room (Some octets) facts = of_hearing setup slot room (header_in octets) (pdu_of octets) facts

pub notes_of_step : (setup : Setup) (facts : Facts) (step : Step) → AllByRecursion (IsNoteOf setup.link.handle) (notes_after setup facts step)
notes_of_step setup facts (EventEntered slot) =
    of_entry setup.link.handle (goes_on facts) (facts_entered setup slot facts).event (entry_of slot (is_quiet_now facts) (held_of facts.control))
notes_of_step setup facts (PacketSent slot) = of_sent setup.link.handle _ _ (pdu_fixed facts)
notes_of_step setup facts (PacketReceived slot octets room) = of_received setup slot room (good_pdu setup facts octets) facts
notes_of_step setup facts other = tt

-- ---- accepted commands

pub about_own : (view : View) (given handle : ℕ) (change : Link → Link) → (given == handle) ≡ true
    → link_in (on_link given change view).links handle ≡ option_map change (link_in view.links handle)
about_own view given handle change same =
    subst (λ (h : ℕ). link_in (on_link given change view).links h ≡ option_map change (link_in view.links h)) (eqb-true given handle same)
    (changed_own view.links given change)

pub command_own : (view : View) (command : Command) (handle : ℕ) → is_about handle command ≡ true
    → link_in (view_after view command).links handle ≡ option_map (link_accepted command) (link_in view.links handle)
unfolding view_after
command_own view (Disconnect given reason) handle about = about_own view given handle _ about
command_own view (ReadRemoteVersion given) handle about = about_own view given handle _ about
command_own view (LeReadRemoteFeatures given) handle about = about_own view given handle _ about
command_own view (LeSetDataLength given most time) handle about = about_own view given handle _ about
command_own view (LeConnectionUpdate given min max latency timeout lengths) handle about = about_own view given handle _ about
command_own view (LeSetChannels map) handle about = same_link (link_in view.links handle)
command_own view (LeSetPhy given all tx rx options) handle about = about_own view given handle _ about
command_own view (LeParamReply given min max latency timeout lengths) handle about = about_own view given handle _ about
command_own view (LeParamNegative given reason) handle about = about_own view given handle _ about
command_own view (LeEnableEncryption given rand ediv key) handle about = about_own view given handle _ about
command_own view (LeKeyReply given key) handle about = about_own view given handle _ about
command_own view (LeKeyNegative given) handle about = about_own view given handle _ about
command_own view other handle about = absurd (cc)

pub differs : (given handle : ℕ) → (given == handle) ≡ false → handle ≡ given → ⊥
differs given handle other same = let h : (given == given) ≡ false = subst (λ (n : ℕ). (given == n) ≡ false) same other in grind (arith, h)

pub about_other : (view : View) (given handle : ℕ) (change : Link → Link) → (given == handle) ≡ false
    → link_in (on_link given change view).links handle ≡ link_in view.links handle
about_other view given handle change other = changed_other view.links given handle change (differs given handle other)

pub command_other : (view : View) (command : Command) (handle : ℕ) → is_about handle command ≡ false → leaves_other_links command ≡ true
    → link_in (view_after view command).links handle ≡ link_in view.links handle
unfolding view_after
command_other view (Disconnect given reason) handle about leaves = about_other view given handle _ about
command_other view (ReadRemoteVersion given) handle about leaves = about_other view given handle _ about
command_other view (LeReadRemoteFeatures given) handle about leaves = about_other view given handle _ about
command_other view (LeSetDataLength given most time) handle about leaves = about_other view given handle _ about
command_other view (LeConnectionUpdate given min max latency timeout lengths) handle about leaves = about_other view given handle _ about
command_other view (LeParamReply given min max latency timeout lengths) handle about leaves = about_other view given handle _ about
command_other view (LeParamNegative given reason) handle about leaves = about_other view given handle _ about
command_other view (LeSetPhy given all tx rx options) handle about leaves = about_other view given handle _ about
command_other view Reset handle about leaves = absurd (cc)
command_other view (HostCompleted counts) handle about leaves = absurd (cc)
command_other view (LeEnableEncryption given rand ediv key) handle about leaves = about_other view given handle _ about
command_other view (LeKeyReply given key) handle about leaves = about_other view given handle _ about
command_other view (LeKeyNegative given) handle about leaves = about_other view given handle _ about
command_other view other handle about leaves = refl

-- ---- a link is opened

pub opened_known : (view : View) (setup : Setup) (own peer : Address) → setup.link.handle < length view.links
    → KnowsAt (view_noted view (Opened setup.link.handle setup.link.role own peer)) setup.link.handle (first_facts setup)
unfolding view_noted
opened_known view setup own peer fits =
    record {
      link = opened_link setup.link.role own peer;
      is_open = get_or-set_same view.links setup.link.handle (Some (opened_link setup.link.role own peer)) None fits;
      knows = first_knows setup own peer;
    }
