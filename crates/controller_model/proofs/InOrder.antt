-- The commands of a host are answered in order.
use Rattle.std.proofs.Common.{◌≡◌, ℕ, ◌+◌, ◌*◌, ◌/◌, ◌%◌, ◌==◌, ◌||◌, Bool, true, false, Option, None, List, [], ◌∷◌, ◌++◌, map, cond, inl, inr, refl, ap, sym, ◌∙◌, subst, arith}
use Rattle.std.specs.Prelude.{◌&&◌, not}
use Rattle.std.proofs.lemmas.Bool.Decides.{eqb_tells}
use Rattle.std.proofs.lemmas.List.Concat.{flat_map-append}
use Rattle.wire_fields.specs.Field.{little_endian}
use Rattle.ble_base.specs.declared.notes.Note.{Note}
use Rattle.ble_base.specs.declared.notes.Note.TheVariants.{Up}
use Rattle.h4_frames.specs.declared.packet.HostPacket.TheVariants.{Command as HostCommand, Acl}
use Rattle.h4_frames.specs.declared.packet.Fed.{Fed}
use Rattle.h4_frames.specs.declared.packet.Fed.TheVariants.{More, Packet, LostSync}
use Rattle.hci_cmd.specs.declared.command.Command.{Command}
use Rattle.hci_cmd.specs.declared.command.Command.TheVariants.{HostCompleted}
use Rattle.hci_cmd.specs.declared.command.CmdRead.{CmdRead}
use Rattle.hci_cmd.specs.declared.command.CmdRead.TheVariants.{Known, UnknownOpcode, BadLength}
use Rattle.hci_cmd.specs.Command.{command_of, layout_of, layouts}
use Rattle.hci_evt.specs.Event.{written}
use Rattle.hci_evt.specs.declared.event.Event.{Event}
use Rattle.hci_evt.specs.declared.event.Event.TheVariants.{CommandComplete, CommandStatus}
use Rattle.host_view.specs.View.{View}
use Rattle.host_view.specs.Status.{status_of}
use Rattle.link_commands.specs.open_links.OpenLinks.{OpenLink, link_at}
use Rattle.controller_model.specs.Step.{Step, HostOctet, TurnBegins, PacketHeard, NothingHeard, TurnEnds}
use Rattle.controller_model.specs.Facts.{Setup, Facts, first_facts}
use Rattle.controller_model.specs.Answers.{accepted_answer, answer_to, complete_answer, has_status_answer, is_host_completed, refused_fields, returned, status_answer}
use Rattle.controller_model.specs.Commands.{notes_commanded}
use Rattle.link_commands.specs.open_links.declared.offers.Offer.{Offer}
use Rattle.link_commands.specs.open_links.Data.{offer_by}
use Rattle.controller_model.specs.Data.{is_full, notes_offered, offer_of}
use Rattle.controller_model.specs.Events.{notes_of_events}
use Rattle.controller_model.specs.Side.{facts_after, facts_of, notes_after, notes_fed, notes_from, notes_of, result_of}
use Rattle.controller_model.specs.Host.{commands_after, commands_from, commands_in, commands_of, is_answered, opcodes_of, with_answer}
use Rattle.controller_model.specs.Notes.{answers_among, answers_noted, as_two_octets, one_further}
use Rattle.controller_model.proofs.Always.{IsInTurn, holds_step}
use Rattle.controller_model.proofs.Handles.{HaveOwnHandles, handles_kept, own_handles}
use Rattle.controller_model.proofs.NoAnswers.{IsNoAnswer, IsNoPacket, ReadsAnswers, answer_commanded, none_in_loss, none_in_turn, none_of_offers}

two_octets_hold : (opcode : ℕ) → opcode % 256 + 256 * (opcode / 256 % 256) ≡ opcode % 65536
two_octets_hold opcode = omega arith

-- what answers say of these commands
abbrev said : List (ℕ × Bool) → List (ℕ × ℕ)
said commands = map one_further (map as_two_octets (opcodes_of (with_answer commands)))

-- ---- one answer

complete_says : (view : View) (status opcode : ℕ) (fields : List ℕ)
    → answers_among (notes_of_events view (complete_answer status opcode fields ∷ [])) ≡ one_further (as_two_octets opcode) ∷ []
unfolding little_endian
complete_says view status opcode fields = ap (λ (n : ℕ). one_further n ∷ []) (two_octets_hold opcode)

status_says : (view : View) (status opcode : ℕ)
    → answers_among (notes_of_events view (status_answer status opcode ∷ [])) ≡ one_further (as_two_octets opcode) ∷ []
unfolding little_endian
status_says view status opcode = ap (λ (n : ℕ). one_further n ∷ []) (two_octets_hold opcode)

accepted_says : (setup : Setup) (facts : Facts) (view : View) (opcode : ℕ) (command : Command)
    → answers_among (notes_of_events view (accepted_answer setup facts opcode command)) ≡ said ((opcode, not (is_host_completed command && true)) ∷ [])
accepted_says setup facts view opcode (HostCompleted counts) = refl
accepted_says setup facts view opcode other = complete_says view 0x00 opcode (returned setup facts other)

and_false : (b : Bool) → (b && false) ≡ false
and_false true = refl
and_false false = refl

-- by whether it is unknown or starts something, and whether it is accepted
says_by : (has_status accepted : Bool) (setup : Setup) (facts : Facts) (view : View) (opcode status : ℕ) (command : Command)
    → (has_status ≡ true → (is_host_completed command && accepted) ≡ false)
    → answers_among (notes_of_events view (cond has_status (status_answer status opcode ∷ [])
    (cond accepted (accepted_answer setup facts opcode command) (complete_answer status opcode (refused_fields command) ∷ []))))
    ≡ said ((opcode, not (is_host_completed command && accepted)) ∷ [])
says_by true accepted setup facts view opcode status command answered =
    status_says view status opcode ∙ ap (λ (b : Bool). said ((opcode, not b) ∷ [])) (sym (answered refl))
says_by false true setup facts view opcode status command answered = accepted_says setup facts view opcode command
says_by false false setup facts view opcode status command answered =
    complete_says view status opcode (refused_fields command)
    ∙ ap (λ (b : Bool). said ((opcode, not b) ∷ [])) (sym (and_false (is_host_completed command)))

-- ---- a command that starts something is not Host Number Of Completed Packets

abbrev completes : CmdRead → Bool
completes (Known command) = is_host_completed command
completes other = false

no_completes : (whole : Bool) (command : Command) → is_host_completed command ≡ false → completes (cond whole (Known command) BadLength) ≡ false
no_completes true command none = none
no_completes false command none = refl

one_of : (P : ℕ → Type 0) (opcode known : ℕ) (rest : Bool) → P known → (rest ≡ true → P opcode) → ((opcode == known) || rest) ≡ true → P opcode
one_of P opcode known rest here later is = elim (eqb_tells opcode known) [
  | inl same ↦ subst P (sym same.1) here
  | inr other ↦ later (let e : (opcode == known) ≡ false = other.0 in rw e at is)
]

is_one : (P : ℕ → Type 0) (opcode known : ℕ) → P known → (opcode == known) ≡ true → P opcode
is_one P opcode known here is = elim (eqb_tells opcode known) [
  | inl same ↦ subst P (sym same.1) here
  | inr other ↦ absurd (let e : (opcode == known) ≡ false = other.0 in let h : true ≡ false = cc in absurd cc)
]

starts_other : (parameters : List ℕ) (opcode : ℕ) → has_status_answer opcode ≡ true → completes (command_of opcode parameters) ≡ false
unfolding command_of layout_of layouts
starts_other parameters opcode =
    let P = λ (opcode : ℕ). completes (command_of opcode parameters) ≡ false in
    one_of P opcode 0x0406 _ (no_completes _ _ refl)
    (one_of P opcode 0x041D _ (no_completes _ _ refl)
    (one_of P opcode 0x200D _ (no_completes _ _ refl)
    (one_of P opcode 0x2013 _ (no_completes _ _ refl)
    (one_of P opcode 0x2016 _ (no_completes _ _ refl)
    (one_of P opcode 0x2019 _ (no_completes _ _ refl)
    (is_one P opcode 0x2032 (no_completes _ _ refl)))))))

-- ---- what an octet completes is answered

not_both : (completed accepted unknown starts : Bool) → (unknown ≡ true → accepted ≡ false) → (starts ≡ true → completed ≡ false)
    → (unknown || starts) ≡ true → (completed && accepted) ≡ false
not_both completed accepted true starts known starter is = rw (known refl) (and_false completed)
not_both completed accepted false starts known starter is = rw (starter is) refl

unknown_not_zero : (status : ℕ) → (status == 0x01) ≡ true → (status == 0x00) ≡ false
unknown_not_zero status is = is_one (λ (n : ℕ). (n == 0x00) ≡ false) status 0x01 refl is

short_says : (b : Bool) (view : View) (opcode : ℕ)
    → answers_among (notes_of_events view ((cond b (status_answer 0x12 opcode) (complete_answer 0x12 opcode [])) ∷ [])) ≡ one_further (as_two_octets opcode) ∷ []
short_says true view opcode = status_says view 0x12 opcode
short_says false view opcode = complete_says view 0x12 opcode []

read_says : (setup : Setup) (facts : Facts) (view : View) (opcode : ℕ) (read : CmdRead)
    → (has_status_answer opcode ≡ true → completes read ≡ false)
    → answers_among (notes_of_events view (answer_to setup facts opcode read)) ≡ said ((opcode, is_answered facts read) ∷ [])
read_says setup facts view opcode UnknownOpcode starter = status_says view 0x01 opcode
read_says setup facts view opcode BadLength starter = short_says (has_status_answer opcode) view opcode
read_says setup facts view opcode (Known command) starter =
    let status = status_of facts.view command in
    says_by ((status == 0x01) || has_status_answer opcode) (status == 0x00) setup facts view opcode status command
    (not_both (is_host_completed command) (status == 0x00) (status == 0x01) (has_status_answer opcode) (unknown_not_zero status) starter)

-- ---- what is noted as well as an answer says nothing

answers_among-append : (xs ys : List Note) → answers_among (xs ++ ys) ≡ answers_among xs ++ answers_among ys
answers_among-append xs ys = flat_map-append answers_noted xs ys

-- of events by their code
event_says : (event : Event) → IsNoAnswer event → answers_noted (Up (record { items = written event })) ≡ []
unfolding little_endian
event_says (CommandComplete number opcode fields) is = absurd is
event_says (CommandStatus status number opcode) is = absurd is
event_says other is = refl

other_says : (note : Note) → IsNoPacket note → answers_noted note ≡ []
other_says (Up packet) is = absurd is
other_says other is = refl

reads_answers : ReadsAnswers (ℕ × ℕ) answers_noted
reads_answers = record { event = event_says; received = λ piece. refl; other = other_says }

-- ---- a packet of the host

command_says : (setup : Setup) (facts : Facts) (opcode : ℕ) (read : CmdRead) → (has_status_answer opcode ≡ true → completes read ≡ false)
    → answers_among (notes_commanded setup facts opcode read) ≡ said ((opcode, is_answered facts read) ∷ [])
command_says setup facts opcode (Known command) starter =
    answer_commanded (ℕ × ℕ) answers_noted reads_answers setup facts opcode command
    ∙ read_says setup facts facts.view opcode (Known command) starter
command_says setup facts opcode UnknownOpcode starter = read_says setup facts facts.view opcode UnknownOpcode starter
command_says setup facts opcode BadLength starter = read_says setup facts facts.view opcode BadLength starter

pub offered_says : (view : View) (offer : Offer) (handle : ℕ) → answers_among (notes_offered view offer handle) ≡ []
offered_says = none_of_offers (ℕ × ℕ) answers_noted reads_answers

fed_says : (setup : Setup) (facts : Facts) (fed : Fed) → answers_among (notes_fed setup facts fed) ≡ said (commands_in facts fed)
fed_says setup facts (Packet (HostCommand opcode body)) =
    command_says setup facts opcode (command_of opcode body.items) (starts_other body.items opcode)
fed_says setup facts (Packet (Acl handle start count body)) = offered_says facts.view (offer_of setup facts handle count) handle
fed_says setup facts LostSync = none_in_loss (ℕ × ℕ) answers_noted reads_answers facts.view
fed_says setup facts More = refl

-- ---- all steps

turn_says : (setup : Setup) (facts : Facts) (step : Step) → HaveOwnHandles setup facts → IsInTurn step
    → answers_among (notes_after setup facts step) ≡ []
turn_says = none_in_turn (ℕ × ℕ) answers_noted reads_answers

step_says : (setup : Setup) (facts : Facts) (step : Step) → HaveOwnHandles setup facts
    → answers_among (notes_after setup facts step) ≡ said (commands_after facts step)
step_says setup facts (HostOctet octet) own = fed_says setup facts (result_of facts.octets octet)
step_says setup facts (TurnBegins slot on) own = turn_says setup facts (TurnBegins slot on) own tt
step_says setup facts (PacketHeard octets) own = turn_says setup facts (PacketHeard octets) own tt
step_says setup facts NothingHeard own = turn_says setup facts NothingHeard own tt
step_says setup facts TurnEnds own = turn_says setup facts TurnEnds own tt

said_keep : (b : Bool) (x : ℕ) (xs ys zs : List (ℕ × Bool)) → said zs ≡ said xs ++ said ys
    → map one_further (map as_two_octets (opcodes_of (cond b ((x, b) ∷ with_answer zs) (with_answer zs))))
    ≡ map one_further (map as_two_octets (opcodes_of (cond b ((x, b) ∷ with_answer xs) (with_answer xs)))) ++ said ys
said_keep true x xs ys zs same = ap (λ (rest : List (ℕ × ℕ)). one_further (as_two_octets x) ∷ rest) same
said_keep false x xs ys zs same = same

said-append : (xs ys : List (ℕ × Bool)) → said (xs ++ ys) ≡ said xs ++ said ys
said-append [] ys = refl
said-append (x ∷ xs) ys = said_keep x.1 x.0 xs ys (xs ++ ys) (said-append xs ys)

says_from : (setup : Setup) (facts : Facts) (past : List Step) → HaveOwnHandles setup facts
    → answers_among (notes_from setup facts past) ≡ said (commands_from setup facts past)
says_from setup facts [] own = refl
says_from setup facts (step ∷ past) own =
    let next = facts_after setup facts step in
    let later = says_from setup next past (holds_step setup (HaveOwnHandles setup) (HaveOwnHandles setup) (handles_kept setup) facts step own) in
    answers_among-append (notes_after setup facts step) (notes_from setup next past)
    ∙ (λ i. step_says setup facts step own i ++ later i)
    ∙ sym (said-append (commands_after facts step) (commands_from setup next past))

pub says : (setup : Setup) (past : List Step) → answers_among (notes_of setup past) ≡ said (commands_of setup past)
unfolding notes_of commands_of facts_of
says setup past = says_from setup (first_facts setup) past (own_handles setup [])

-- ---- ACL data

pub none_offered : (setup : Setup) (facts : Facts) (handle count : ℕ) (start : Bool) (octets : List ℕ) → link_at handle facts.links ≡ None
    → notes_fed setup facts (Packet (Acl handle start count (record { items = octets }))) ≡ []
none_offered setup facts handle count start octets none =
    ap (λ (found : Option OpenLink). notes_offered facts.view (offer_by found count (is_full setup facts)) handle) none
