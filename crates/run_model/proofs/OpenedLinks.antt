-- A link that is noted as opened is the one that its station knows last.
use Rattle.std.proofs.Common.{◌≡◌, ℕ, ◌+◌, ◌<◌, ◌==◌, true, false, Some, None, List, [], ◌∷◌, ◌++◌, length, map, refl, sym, ap, subst, ◌∙◌, append-nil, append_assoc}
use Rattle.std.specs.Prelude.{⊤}
use Rattle.std.proofs.lemmas.Bool.{or_parts}
use Rattle.ble_base.specs.declared.addresses.Address.{Address}
use Rattle.ble_base.specs.declared.notes.Note.{Note}
use Rattle.ble_base.specs.declared.notes.Note.TheVariants.{Opened}
use Rattle.ble_base.specs.declared.roles.Role.{Role}
use Rattle.controller_model.specs.link_model.declared.setup.LinkSetup.{LinkSetup}
use Rattle.controller_model.specs.link_model.Setup.{Setup as EndSetup}
use Rattle.controller_model.specs.open_links.OpenLinks.{Links as Places, link_at, new_link}
use Rattle.controller_model.proofs.open_links.Handles.{handle_is, opened_at}
use Rattle.scan_init.specs.Reports.{scan_answer}
use Rattle.controller_model.specs.Step.{Step, HostOctet, TurnBegins, PacketHeard, NothingHeard, TurnEnds}
use Rattle.controller_model.specs.Facts.{Facts, Setup}
use Rattle.controller_model.specs.Events.{notes_of_events}
use Rattle.controller_model.specs.Heard.{events_reported, facts_with_words, has_room, link_heard, link_taken, opens, scanner_heard}
use Rattle.controller_model.specs.Links.{events_opened}
use Rattle.controller_model.specs.Outcome.{Outcome, facts_passed, notes_passed}
use Rattle.controller_model.specs.Packets.{notes_doing}
use Rattle.controller_model.specs.Side.{facts_after, notes_after}
use Rattle.controller_model.proofs.Always.{opening_is}
use Rattle.controller_model.proofs.Handles.{HaveOwnHandles, IsNew, free_is_new, own_handles}
use Rattle.controller_model.proofs.LinkNotes.{all_in}
use Rattle.controller_model.proofs.Phases.{EachOutcome, heard_is, unheard_is}
use Rattle.run_model.specs.History.{Event, TurnBegan, HostFed, Called, Noted, Transmitted, noted_by, past_of, turns_begun}
use Rattle.run_model.specs.Due.{Each}
use Rattle.run_model.specs.Feeding.{is_note}
use Rattle.run_model.specs.Links.{links_of}
use Rattle.run_model.specs.Numbers.{HasNumber}
use Rattle.run_model.specs.Run.{Given, setup_at, facts_at}
use Rattle.run_model.proofs.Calls.{noted_called, same_station, turns_called, with_notes}
use Rattle.run_model.proofs.LinkEnds.{IsLast}
use Rattle.run_model.proofs.LinkSteps.{MayOpen, each_in, link_has, step_opens}
use Rattle.run_model.proofs.Linked.{numbered_more}
use Rattle.run_model.proofs.LinksKnown.{last_by_call}
use Rattle.run_model.proofs.OpenedNotes.{doing_open, events_open, is_opened, neither, opens_under, outside_open, hearing_open}

-- a link that is noted as opened is open after the step, under a handle that was free
record IsOpenNow (facts : Facts) (links : Places) (handle : ℕ) (role : Role) : Type 0 where
  link : LinkSetup
  handle_is : link.handle ≡ handle
  role_is : link.role ≡ role
  was_free : link_at handle facts.links ≡ None
  is_open : link_at handle links ≡ Some (new_link (record { link = link; opened = facts.turn.slot }))

abbrev OpensNow : Facts → Places → Note → Type 0
OpensNow facts links (Opened handle role own peer) = IsOpenNow facts links handle role
OpensNow facts links other = ⊤

-- none of these notes says that a link is opened; or only the first of them may
abbrev OpenNone : List Note → Type 0
OpenNone notes = (handle : ℕ) → is_opened handle notes ≡ false

abbrev FirstOpens : Facts → Places → List Note → Type 0
FirstOpens facts links [] = ⊤
FirstOpens facts links (note ∷ notes) = OpensNow facts links note × OpenNone notes

rest_open : (note : Note) (notes : List Note) → OpenNone (note ∷ notes) → OpenNone notes
rest_open note notes none = λ handle. (or_parts (opens_under handle note) (is_opened handle notes) (none handle)).1

not_opened : (handle : ℕ) (role : Role) (own peer : Address) (notes : List Note) (X : Type 0) → OpenNone (Opened handle role own peer ∷ notes) → X
not_opened handle role own peer notes X none =
    absurd (let h : true ≡ false = sym (same_station handle) ∙ (or_parts (handle == handle) (is_opened handle notes) (none handle)).0 in absurd cc)

none_now : (facts : Facts) (links : Places) (notes : List Note) → OpenNone notes → FirstOpens facts links notes
none_now facts links [] none = tt
none_now facts links (Opened handle role own peer ∷ notes) none = not_opened handle role own peer notes _ none
none_now facts links (note ∷ notes) none = (tt, rest_open note notes none)

-- ---- a phase

abbrev NotesNow : Facts → Outcome → Type 0
NotesNow facts outcome = FirstOpens facts (facts_passed outcome).links (notes_passed outcome)

passed_now : (facts : Facts) (outcome : Outcome) → OpenNone outcome.notes → NotesNow facts outcome
passed_now facts outcome none =
    none_now facts (facts_passed outcome).links (notes_passed outcome)
    (λ handle. neither handle outcome.notes (notes_doing outcome.next outcome.facts) (none handle) (doing_open handle outcome.next outcome.facts))

opened_now : (facts : Facts) (link : LinkSetup) → link.handle < length facts.links → link_at link.handle facts.links ≡ None → NotesNow facts (opens link facts)
opened_now facts link within free =
    let end : EndSetup = record { link = link; opened = facts.turn.slot } in
    let events = notes_of_events facts.view (events_opened facts.view link) in (
      record {
        link = link;
        handle_is = refl;
        role_is = refl;
        was_free = free;
        is_open = ap (λ (f : Facts). link_at link.handle f.links) (opening_is link facts) ∙ opened_at end facts.links within;
      },
      λ handle. neither handle events [] (events_open handle facts.view (events_opened facts.view link)) refl,
    )

phase_now : (setup : Setup) (facts : Facts) → HaveOwnHandles setup facts → EachOutcome setup facts (NotesNow facts)
phase_now setup facts own = record {
  rests = tt;
  awaits_request = λ channel doing. tt;
  awaits_response = λ channel advertiser doing. tt;
  central_listens = λ handle doing. tt;
  sent = λ channel link doing. let new = subst (IsNew facts.links) doing own.new in opened_now facts link new.0 new.1;
  responds = λ channel on doing is_on. tt;
  taken = λ channel octets pdu on fields handle is_on hears takes free.
      let new = free_is_new facts.links handle free in opened_now facts (link_taken facts.view on.params.own pdu fields handle) new.0 new.1;
  scanned = λ channel octets pdu on doing is_on hears.
      passed_now facts (scanner_heard (Some on) true channel pdu facts)
      (λ handle. events_open handle facts.view (events_reported (scan_answer on.params facts.view.accepted on.recent pdu) pdu));
  answered = λ channel octets pdu on doing is_on hears.
      passed_now facts (scanner_heard (Some on) false channel pdu facts)
      (λ handle. events_open handle facts.view (events_reported (scan_answer on.params facts.view.accepted on.recent pdu) pdu));
  connects = λ channel octets pdu on access handle doing is_on hears answers next free in_range. tt;
  received = λ handle octets.
      passed_now facts (link_heard setup handle octets facts)
      (λ other. hearing_open other (has_room setup facts) handle octets facts);
}

step_now : (setup : Setup) (facts : Facts) (step : Step) → HaveOwnHandles setup facts
    → FirstOpens facts (facts_after setup facts step).links (notes_after setup facts step)
step_now setup facts (HostOctet octet) own =
    none_now facts _ (notes_after setup facts (HostOctet octet)) (λ handle. outside_open handle setup facts (HostOctet octet) refl)
step_now setup facts (TurnBegins slot on) own =
    none_now facts _ (notes_after setup facts (TurnBegins slot on)) (λ handle. outside_open handle setup facts (TurnBegins slot on) refl)
step_now setup facts (PacketHeard octets) own =
    heard_is setup facts (NotesNow facts) (phase_now setup facts own) facts.turn.doing octets refl
    (λ handle. let worded = facts_with_words setup handle facts in
    passed_now facts (link_heard setup handle octets worded) (λ other. hearing_open other (has_room setup facts) handle octets worded))
step_now setup facts NothingHeard own = unheard_is setup facts (NotesNow facts) (phase_now setup facts own) facts.turn.doing refl
step_now setup facts TurnEnds own =
    none_now facts _ (notes_after setup facts TurnEnds) (λ handle. outside_open handle setup facts TurnEnds refl)

-- ---- a call

-- a link is noted as opened: it has the number that its station knows last, and its CONNECT_IND was on the air in the
-- turn that is under way, after these events; the station noted nothing since
pub record IsOpening (before : List Event) (station handle : ℕ) (role : Role) : Type 0 where
  pub end : EndSetup
  pub has : HasNumber before ((links_of before).last_of station) station end
  pub handle_is : end.link.handle ≡ handle
  pub role_is : end.link.role ≡ role
  pub now : turns_begun before ≡ end.opened + 1
  pub known : List Event
  pub since : List Event
  pub is_at : before ≡ known ++ since
  pub number_is : (links_of before).last_of station ≡ (links_of known).begun + 1
  pub unnoted : noted_by station before ≡ noted_by station known

abbrev OpensNote : List Event → ℕ → Note → Type 0
OpensNote before station (Opened handle role own peer) = IsOpening before station handle role
OpensNote before station other = ⊤

abbrev pub OpensLast : List Event → Event → Type 0
OpensLast before (Noted station note) = OpensNote before station note
OpensLast before (TurnBegan slot radios) = ⊤
OpensLast before (HostFed station octets) = ⊤
OpensLast before (Called station step) = ⊤
OpensLast before (Transmitted station channel octets hearings) = ⊤

pub opens_nothing : (before : List Event) (event : Event) → is_note event ≡ false → OpensLast before event
opens_nothing before (Noted station note) is = absurd cc
opens_nothing before (TurnBegan slot radios) is = tt
opens_nothing before (HostFed station octets) is = tt
opens_nothing before (Called station step) is = tt
opens_nothing before (Transmitted station channel octets hearings) is = tt

module _ (given : Given) (station : ℕ) (step : Step) (history : List Event) (may : MayOpen (IsLast history station) (facts_at given station history) step) where
  abbrev links_after_it : Places
  links_after_it = (facts_after (setup_at given station) (facts_at given station history) step).links

  -- what is open under the handle after the step comes from the CONNECT_IND that the station knows last
  open_last : (handle : ℕ) (role : Role) (now : IsOpenNow (facts_at given station history) links_after_it handle role)
      → IsLast history station (record { link = now.link; opened = (facts_at given station history).turn.slot })
  open_last handle role now =
      let setup = setup_at given station in
      let facts = facts_at given station history in
      let own = own_handles setup (past_of station history) in
      let P = λ (end : EndSetup). end.link.handle ≡ handle → IsLast history station end in
      let each = step_opens P setup facts step (record {
        made = λ channel link ends doing same. may.made channel link ends doing;
        taken = λ channel octets on pdu fields other is doing found is_on takes new free same. may.taken channel octets on pdu fields other is doing found takes;
      }) (each_in P facts.links facts.links 0 (all_in facts.links) (λ other link at same.
      let under : other ≡ handle = sym (handle_is 0 other facts.links link own.handles at) ∙ same in
      absurd (let h : None ≡ Some link = sym now.was_free ∙ ap (λ n. link_at n facts.links) (sym under) ∙ at in absurd cc))) in
      link_has P 0 handle links_after_it (new_link (record { link = now.link; opened = facts.turn.slot })) each now.is_open now.handle_is

  -- the first note of the call
  note_opens : (note : Note) → OpensNow (facts_at given station history) links_after_it note → OpensNote (with_notes station step [] history) station note
  note_opens (Opened handle role own peer) now =
      let last = open_last handle role now in
      let has = last.has in
      let sent = has.sent in
      let begins = Transmitted sent.sender sent.channel sent.octets sent.hearings in
      let number = last_by_call station step [] history station ∙ last.number in record {
        end = record { link = now.link; opened = (facts_at given station history).turn.slot };
        has = numbered_more history (Called station step ∷ []) _ station _ has number;
        handle_is = now.handle_is;
        role_is = now.role_is;
        now = turns_called station step [] history ∙ last.now;
        known = has.before;
        since = begins ∷ has.after ++ Called station step ∷ [];
        is_at = ap (λ events. events ++ Called station step ∷ []) has.is_at ∙ append_assoc has.before (begins ∷ has.after) (Called station step ∷ []);
        number_is = number;
        unnoted = noted_called station station step [] history true (same_station station) ∙ append-nil (noted_by station history) ∙ last.unnoted;
      }
  note_opens note now = tt

  none_open : (before : List Event) (notes : List Note) → OpenNone notes → Each OpensLast before (map (Noted station) notes)
  none_open before [] none = tt
  none_open before (Opened handle role own peer ∷ notes) none = not_opened handle role own peer notes _ none
  none_open before (note ∷ notes) none = (tt, none_open (before ++ Noted station note ∷ []) notes (rest_open note notes none))

  notes_open : (notes : List Note) → FirstOpens (facts_at given station history) links_after_it notes
      → Each OpensLast (with_notes station step [] history) (map (Noted station) notes)
  notes_open [] first = tt
  notes_open (note ∷ notes) first = (note_opens note first.0, none_open (with_notes station step [] history ++ Noted station note ∷ []) notes first.1)

  pub call_opens_last : Each OpensLast history (Called station step ∷ map (Noted station) (notes_after (setup_at given station) (facts_at given station history) step))
  call_opens_last =
      let setup = setup_at given station in
      let facts = facts_at given station history in
      (tt, notes_open (notes_after setup facts step) (step_now setup facts step (own_handles setup (past_of station history))))
