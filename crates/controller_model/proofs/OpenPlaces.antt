-- Which handles have open links, to the controller and in the view of its host.
use Rattle.std.proofs.Common.{◌≡◌, ℕ, zero, suc, ◌+◌, ◌≤◌, ◌==◌, Bool, true, false, Option, Some, None, List, [], ◌∷◌, ◌++◌, length, replicate, map, cond, refl, ap, sym, subst, ◌∙◌, append_assoc, length-append, arith}
use Rattle.std.specs.Prelude.{count_by, fold, is_some, slice_set, if◌then◌else◌}
use Rattle.std.specs.Option.{option_map}
use Rattle.std.proofs.Math.ListN.{set}
use Rattle.std.proofs.Math.Seq.{map-set_same, set-append_seam}
use Rattle.std.proofs.lemmas.Bool.{eq-eqb}
use Rattle.std.proofs.lemmas.List.{map-set}
use Rattle.std.proofs.lemmas.List.Sums.{sum_by-append}
use Rattle.ble_base.specs.declared.notes.Note.{Note}
use Rattle.ble_base.specs.declared.procedure_kinds.Kind.{Kind}
use Rattle.ble_base.specs.declared.notes.Note.TheVariants.{Up, Opened, Shut, Took, Refused, Done}
use Rattle.hci_cmd.specs.declared.command.HandleCount.{HandleCount}
use Rattle.hci_cmd.specs.declared.command.Command.{Command}
use Rattle.hci_cmd.specs.declared.command.Command.TheVariants.{Disconnect, ReadRemoteVersion, HostCompleted, Reset, LeConnectionUpdate, LeReadRemoteFeatures, LeEnableEncryption, LeKeyReply, LeKeyNegative, LeParamReply, LeParamNegative, LeSetDataLength, LeSetPhy}
use Rattle.host_view.specs.declared.links.Link.{Link as ViewLink}
use Rattle.host_view.specs.View.{View}
use Rattle.host_view.specs.Changes.{after_count, after_counts, changed_at, on_link, view_after}
use Rattle.host_view.specs.Noted.{acl_handle, after_packet, encrypted_if, event_handle, is_acl_data, is_le_event, is_start_rsp, view_noted}
use Rattle.host_view.specs.Links.{link_in}
use Rattle.link_commands.specs.open_links.link_model.Step.{PacketSent, PduFixed}
use Rattle.slot_plan.specs.declared.Activity.{Activity}
use Rattle.slot_plan.specs.declared.Activity.TheVariants.{Link, Advertise, Scan, Initiate}
use Rattle.link_commands.specs.open_links.OpenLinks.{Links, OpenLink, free_from, link_after, link_at, link_served, with_change, with_change_from, without_links}
use Rattle.link_commands.specs.open_links.Ended.{end_by}
use Rattle.link_commands.specs.declared.moments.Moment.{Moment}
use Rattle.link_commands.specs.LinksCommanded.{known_in, links_commanded, view_known_on}
use Rattle.link_commands.specs.Views.{view_answered}
use Rattle.link_commands.specs.open_links.Turns.{ends_by, links_without, staying_by}
use Rattle.controller_model.specs.declared.doing.Doing.{Doing}
use Rattle.controller_model.specs.declared.doing.Doing.TheVariants.{Advertises, CentralSends, PeripheralListens, PeripheralSends}
use Rattle.controller_model.specs.Facts.{Facts}
use Rattle.controller_model.specs.Heard.{link_received}
use Rattle.controller_model.specs.Packets.{links_sending}
use Rattle.controller_model.specs.Radio.{links_fixing}
use Rattle.controller_model.proofs.Asked.{asked_same}
use Rattle.controller_model.proofs.Following.{AreOfOpenLinks, IsOfOpenLink}
use Rattle.controller_model.proofs.Always.{links_shut, links_won}
use Rattle.controller_model.proofs.Places.{link_receiving, receiving_is}

-- by handle, whether a link is open
abbrev pub opens : {A : Type 0} → List (Option A) → List Bool
opens places = map is_some places

-- how many are
abbrev pub many : List Bool → ℕ
many [] = 0
many (true ∷ places) = suc (many places)
many (false ∷ places) = many places

-- ---- how many

count_one : (place : Bool) (places : List Bool) (counted : ℕ) → counted ≡ many places → (0 + cond place 1 0) + counted ≡ many (place ∷ places)
count_one true places counted is = omega (arith, is)
count_one false places counted is = omega (arith, is)

pub count_many : (links : List (Option ViewLink)) → count_by is_some links ≡ many (opens links)
count_many [] = refl
count_many (link ∷ links) =
    sum_by-append (λ (place : Option ViewLink). cond (is_some place) 1 0) (link ∷ []) links
    ∙ count_one (is_some link) (opens links) (count_by is_some links) (count_many links)

many_less : (place : Bool) (places : List Bool) → many places ≤ many (place ∷ places)
many_less true places = omega arith
many_less false places = omega arith

pub many_opened : (places : List Bool) (place : ℕ) → many (set places place true) ≤ many places + 1
many_opened [] place = omega arith
many_opened (b ∷ places) zero = let least = many_less b places in omega (arith, least)
many_opened (true ∷ places) (suc place) = let rest = many_opened places place in omega (arith, rest)
many_opened (false ∷ places) (suc place) = many_opened places place

pub many_shut : (places : List Bool) (place : ℕ) → many (set places place false) ≤ many places
many_shut [] place = omega arith
many_shut (b ∷ places) zero = many_less b places
many_shut (true ∷ places) (suc place) = let rest = many_shut places place in omega (arith, rest)
many_shut (false ∷ places) (suc place) = many_shut places place

pub many-append : (xs ys : List Bool) → many (xs ++ ys) ≡ many xs + many ys
many-append [] ys = omega arith
many-append (true ∷ xs) ys = let rest = many-append xs ys in omega (arith, rest)
many-append (false ∷ xs) ys = many-append xs ys

pub many_none : (n : ℕ) → many (replicate n false) ≡ 0
many_none zero = refl
many_none (suc n) = many_none n

-- where no handle is free each has a link
pub many_full : (first : ℕ) (links : Links) → free_from first links ≡ None → many (opens links) ≡ length links
many_full first [] none = refl
many_full first (None ∷ links) none = absurd cc
many_full first (Some link ∷ links) none = ap suc (many_full (first + 1) links none)

-- ---- changes of links

some_still : {A B : Type 0} (change : A → B) (place : Option A) → is_some (option_map change place) ≡ is_some place
some_still change None = refl
some_still change (Some one) = refl

pub mapped_opens : (change : OpenLink → OpenLink) (links : Links) → opens (map (option_map change) links) ≡ opens links
mapped_opens change [] = refl
mapped_opens change (place ∷ links) = λ i. some_still change place i ∷ mapped_opens change links i

changed_from : (change : OpenLink → OpenLink) (first handle : ℕ) (links : Links)
    → opens (with_change_from first handle (option_map change) links) ≡ opens links
changed_from change first handle [] = refl
changed_from change first handle (place ∷ links) = at (first == handle) (changed_from change (first + 1) handle links)
  where
    at : (test : Bool) → opens (with_change_from (first + 1) handle (option_map change) links) ≡ opens links
        → opens (if test then option_map change place ∷ links else place ∷ with_change_from (first + 1) handle (option_map change) links)
        ≡ opens (place ∷ links)
    at true rest = λ i. some_still change place i ∷ opens links
    at false rest = λ i. is_some place ∷ rest i

pub changed_opens : (change : OpenLink → OpenLink) (handle : ℕ) (links : Links) → opens (with_change handle change links) ≡ opens links
changed_opens change handle links = changed_from change 0 handle links

pub won_opens : (slot : ℕ) (activity : Activity) (links : Links) → opens (links_won slot activity links) ≡ opens links
won_opens slot (Link handle) links = changed_opens (link_served slot) handle links
won_opens slot Advertise links = refl
won_opens slot Scan links = refl
won_opens slot Initiate links = refl

pub fixed_opens : (doing : Doing) (links : Links) → opens (links_fixing doing links) ≡ opens links
fixed_opens (CentralSends handle) links = changed_opens (link_after PduFixed) handle links
fixed_opens (PeripheralListens handle) links = changed_opens (link_after PduFixed) handle links
fixed_opens (Advertises channel) links = refl
fixed_opens other links = refl

pub sent_opens : (slot : ℕ) (doing : Doing) (links : Links) → opens (links_sending slot doing links) ≡ opens links
sent_opens slot (CentralSends handle) links = changed_opens (link_after (PacketSent slot)) handle links
sent_opens slot (PeripheralSends handle) links = changed_opens (link_after (PacketSent slot)) handle links
sent_opens slot (Advertises channel) links = refl
sent_opens slot other links = refl

pub received_opens : (handle : ℕ) (room : Bool) (octets : List ℕ) (facts : Facts)
    → opens (link_received handle room octets facts).links ≡ opens facts.links
received_opens handle room octets facts =
    ap opens (receiving_is handle room octets facts) ∙ changed_opens (link_receiving handle room octets facts) handle facts.links

pub asked_opens : (command : Command) (moment : Moment) (links : Links) → opens (links_commanded command moment links) ≡ opens links
asked_opens command moment links = asked_same is_some (λ link step asks. refl) command moment 0 links

-- a place this much later than the first one is another
later_than : (first place : ℕ) → (first == first + suc place) ≡ false
later_than first place = grind arith

opened_from : (link : OpenLink) (first place handle : ℕ) (links : Links) → handle ≡ first + place
    → opens (with_change_from first handle (λ before. Some link) links) ≡ set (opens links) place true
opened_from link first zero handle [] is = refl
opened_from link first (suc place) handle [] is = refl
opened_from link first zero handle (before ∷ links) is =
    let same : (first == handle) ≡ true = eq-eqb first handle (omega (arith, is)) in
    rw same refl
opened_from link first (suc place) handle (before ∷ links) is =
    let rest = opened_from link (first + 1) place handle links (omega (arith, is)) in
    let other : (first == handle) ≡ false = rw is (later_than first place) in
    rw other (λ i. is_some before ∷ rest i)

pub opened_opens : (link : OpenLink) (handle : ℕ) (links : Links)
    → opens (with_change_from 0 handle (λ before. Some link) links) ≡ set (opens links) handle true
opened_opens link handle links = opened_from link 0 handle handle links (omega arith)

pub reset_opens : (links : Links) → opens (without_links links) ≡ replicate (length links) false
reset_opens [] = refl
reset_opens (place ∷ links) = λ i. false ∷ reset_opens links i

pub first_opens : (n : ℕ) → opens {A = OpenLink} (replicate n None) ≡ replicate n false
first_opens zero = refl
first_opens (suc n) = λ i. false ∷ first_opens n i

-- ---- changes of the view

pub view_changed : (change : ViewLink → ViewLink) (handle : ℕ) (links : List (Option ViewLink))
    → opens (changed_at handle change links) ≡ opens links
view_changed change handle links =
    map-set_same is_some links handle (option_map change (link_in links handle)) None (some_still change (link_in links handle))

packet_opens : (octets : List ℕ) (view : View) → opens (after_packet octets view).links ≡ opens view.links
packet_opens octets view = by (is_acl_data octets) (is_le_event 0x05 octets) (is_le_event 0x06 octets) view.flow.on _ _ _
  where
    by : (acl key request flow : Bool) (one two three : ViewLink → ViewLink)
        → opens (if acl then (if flow then on_link (acl_handle octets) one view else view)
        else if key then on_link (event_handle octets) two view else if request then on_link (event_handle octets) three view else view).links
        ≡ opens view.links
    by true key request true one two three = view_changed one (acl_handle octets) view.links
    by true key request false one two three = refl
    by false true request flow one two three = view_changed two (event_handle octets) view.links
    by false false true flow one two three = view_changed three (event_handle octets) view.links
    by false false false flow one two three = refl

started_opens : (view : View) (handle : ℕ) (starts : Bool) → opens (encrypted_if starts handle view).links ≡ opens view.links
started_opens view handle true = view_changed _ handle view.links
started_opens view handle false = refl

note_opens : (view : View) (note : Note) → IsOfOpenLink note → opens (view_noted view note).links ≡ opens view.links
unfolding view_noted
note_opens view (Up packet) of = packet_opens packet.items view
note_opens view (Opened handle role own peer) of = absurd of
note_opens view (Shut handle reason) of = absurd of
note_opens view (Took handle number llid body) of = started_opens view handle (is_start_rsp llid body.items)
note_opens view (Refused handle kind code) of = view_changed _ handle view.links
note_opens view (Done handle kind) of = view_changed _ handle view.links
note_opens view other of = refl

-- a view that follows notes of open links
pub followed_opens : (view : View) (notes : List Note) → AreOfOpenLinks notes → opens (fold view_noted view notes).links ≡ opens view.links
followed_opens view [] of = refl
followed_opens view (note ∷ notes) of = followed_opens (view_noted view note) notes of.1 ∙ note_opens view note of.0

-- what is answered at once
answered_opens : (handle : ℕ) (kind : Option Kind) (view : View) → opens (view_answered handle kind view).links ≡ opens view.links
answered_opens handle None view = refl
answered_opens handle (Some kind) view = note_opens view (Done handle kind) tt

pub known_opens : (view : View) (command : Command) (links : Links) → opens (view_known_on view command links).links ≡ opens view.links
known_opens view (ReadRemoteVersion handle) links = answered_opens handle (known_in (ReadRemoteVersion handle) (link_at handle links)) view
known_opens view (LeReadRemoteFeatures handle) links = answered_opens handle (known_in (LeReadRemoteFeatures handle) (link_at handle links)) view
known_opens view other links = refl

view_counts : (links : List (Option ViewLink)) (counts : List HandleCount) → opens (after_counts links counts) ≡ opens links
view_counts links [] = refl
view_counts links (pair ∷ counts) = view_counts (after_count links pair) counts ∙ view_changed _ pair.handle links

completed_opens : (on : Bool) (view : View) (counts : List HandleCount)
    → opens (cond on (record view { links = after_counts view.links counts }) view).links ≡ opens view.links
completed_opens true view counts = view_counts view.links counts
completed_opens false view counts = refl

abbrev pub is_reset : Command → Bool
is_reset Reset = true
is_reset other = false

-- every command but Reset leaves links as open as they are
pub view_opens : (view : View) (command : Command) → is_reset command ≡ false → opens (view_after view command).links ≡ opens view.links
unfolding view_after
view_opens view Reset not_reset = absurd (let h : true ≡ false = not_reset in absurd cc)
view_opens view (HostCompleted counts) not_reset = completed_opens view.flow.on view counts.items
view_opens view (Disconnect handle reason) not_reset = view_changed _ handle view.links
view_opens view (ReadRemoteVersion handle) not_reset = view_changed _ handle view.links
view_opens view (LeConnectionUpdate handle min max latency timeout lengths) not_reset = view_changed _ handle view.links
view_opens view (LeReadRemoteFeatures handle) not_reset = view_changed _ handle view.links
view_opens view (LeEnableEncryption handle rand ediv key) not_reset = view_changed _ handle view.links
view_opens view (LeKeyReply handle key) not_reset = view_changed _ handle view.links
view_opens view (LeKeyNegative handle) not_reset = view_changed _ handle view.links
view_opens view (LeParamReply handle min max latency timeout lengths) not_reset = view_changed _ handle view.links
view_opens view (LeParamNegative handle reason) not_reset = view_changed _ handle view.links
view_opens view (LeSetDataLength handle most time) not_reset = view_changed _ handle view.links
view_opens view (LeSetPhy handle all tx rx options) not_reset = view_changed _ handle view.links
view_opens view other not_reset = refl

-- ---- links that end, to the controller and in the view

one_shut : (before spare others : List Bool) (links : List (Option ViewLink)) (first : ℕ) → length before ≡ first
    → opens links ≡ before ++ (true ∷ (others ++ spare)) → opens (slice_set links first None) ≡ before ++ (false ∷ (others ++ spare))
one_shut before spare others links first long is =
    map-set is_some links first None
    ∙ ap (λ (places : List Bool). set places first false) is
    ∙ subst (λ (place : ℕ). set (before ++ (true ∷ (others ++ spare))) place false ≡ before ++ (false ∷ (others ++ spare))) long
    (set-append_seam before true (others ++ spare) false)

moved : (before : List Bool) (place : Bool) (others : List Bool) → before ++ (place ∷ others) ≡ (before ++ place ∷ []) ++ others
moved before place others = sym (append_assoc before (place ∷ []) others)

longer : (before : List Bool) (place : Bool) (first : ℕ) → length before ≡ first → length (before ++ place ∷ []) ≡ first + 1
longer before place first long = length-append before (place ∷ []) ∙ omega (arith, long)

-- the view and the links agree from this handle on
abbrev Agree : (before spare : List Bool) → List (Option ViewLink) → Links → Type 0
Agree before spare views links = opens views ≡ before ++ (opens links ++ spare)

ended_with : (reason : OpenLink → Option ℕ) (code : Option ℕ) (before spare : List Bool) (views : List (Option ViewLink)) (first : ℕ) (link : OpenLink)
    (links : Links) → length before ≡ first → Agree before spare views (Some link ∷ links)
    → ((before : List Bool) (views : List (Option ViewLink)) → length before ≡ first + 1 → Agree before spare views links
    → Agree before spare (links_shut views (ends_by reason (first + 1) links)) (links_without reason links))
    → Agree before spare (links_shut views (end_by first code ++ ends_by reason (first + 1) links)) (staying_by code link ∷ links_without reason links)
ended_with reason None before spare views first link links long agree rest =
    rest (before ++ true ∷ []) views (longer before true first long) (agree ∙ moved before true (opens links ++ spare))
    ∙ sym (moved before true (opens (links_without reason links) ++ spare))
ended_with reason (Some code) before spare views first link links long agree rest =
    rest (before ++ false ∷ []) (slice_set views first None) (longer before false first long)
    (one_shut before spare (opens links) views first long agree ∙ moved before false (opens links ++ spare))
    ∙ sym (moved before false (opens (links_without reason links) ++ spare))

pub ended_agree : (reason : OpenLink → Option ℕ) (before spare : List Bool) (views : List (Option ViewLink)) (first : ℕ) (links : Links) → length before ≡ first
    → Agree before spare views links → Agree before spare (links_shut views (ends_by reason first links)) (links_without reason links)
ended_agree reason before spare views first [] long agree = agree
ended_agree reason before spare views first (None ∷ links) long agree =
    ended_agree reason (before ++ false ∷ []) spare views (first + 1) links (longer before false first long)
    (agree ∙ moved before false (opens links ++ spare))
    ∙ sym (moved before false (opens (links_without reason links) ++ spare))
ended_agree reason before spare views first (Some link ∷ links) long agree =
    ended_with reason (reason link) before spare views first link links long agree
    (λ before views long agree. ended_agree reason before spare views (first + 1) links long agree)
