-- An accepted command may come on its link, and the view knows the end after it.
use Rattle.std.proofs.Common.{◌≡◌, ℕ, ◌<◌, ◌^◌, ◌+◌, ◌%◌, ◌==◌, Bool, true, false, ◌&&◌, ◌||◌, not, if◌then◌else◌, List, [], ◌∷◌, length, reverse, nat_le, nat_lt, Option, Some, None, Result, Ok, Err, is_some, refl, ap, sym, ◌∙◌, subst, arith, eqb-true}
use Rattle.std.proofs.lemmas.Bool.Decides.{nat_tests}
use Rattle.std.proofs.Math.Nat.{mod-lt}
use Rattle.ble_base.specs.Bits.{has_bit}
use Rattle.ble_base.specs.ChannelMap.{IsMap, used_channels}
use Rattle.ble_base.specs.declared.error_codes.ErrCode.{ErrCode}
use Rattle.ble_base.specs.declared.procedure_kinds.Kind.{Kind}
use Rattle.ble_base.specs.declared.procedure_kinds.Kind.TheVariants.{Encrypt as encrypt_kind, Features as features_kind, Length as length_kind, Map as map_kind, Phy as phy_kind, Version as version_kind}
use Rattle.ble_base.specs.declared.roles.Role.{Role}
use Rattle.ble_base.specs.declared.roles.Role.TheVariants.{Central, Peripheral}
use Rattle.hci_cmd.specs.declared.command.Command.{Command}
use Rattle.hci_cmd.specs.declared.command.Command.TheVariants.{Disconnect, LeConnectionUpdate, LeEnableEncryption, LeKeyNegative, LeKeyReply, LeParamNegative, LeParamReply, LeReadRemoteFeatures, LeSetChannels, LeSetDataLength, LeSetPhy, ReadRemoteVersion}
use Rattle.exclusive_stages.specs.declared.stages.PeerAtCentral.{PeerAtCentral}
use Rattle.exclusive_stages.specs.declared.stages.PeerAtCentral.TheVariants.{Absent, GrantUnsent}
use Rattle.link_commands.specs.open_links.procedure_values.declared.asks.Ask.{Ask}
use Rattle.link_commands.specs.open_links.procedure_values.declared.asks.Ask.TheVariants.{Encrypt, Features, Length, Map, Phy, Request, Update, Version}
use Rattle.link_commands.specs.open_links.procedure_values.Asks.{is_same_kind, kind_of_ask}
use Rattle.link_commands.specs.open_links.procedure_values.Wants.{count_of}
use Rattle.procedure_events.specs.procedure_stages.declared.closing.Closing.{Closing}
use Rattle.procedure_events.specs.procedure_stages.declared.closing.Closing.TheVariants.{Open}
use Rattle.procedure_events.specs.procedure_stages.declared.stages.Progress.{Progress}
use Rattle.procedure_events.specs.procedure_stages.declared.stages.Progress.TheVariants.{Central as central, Peripheral as peripheral}
use Rattle.procedure_events.specs.procedure_stages.Closing.{is_disconnecting, is_open}
use Rattle.procedure_events.specs.procedure_stages.InProgress.{is_host_asked, peer_becomes}
use Rattle.procedure_events.specs.procedure_stages.Kinds.{is_kind, own_kind, role_of}
use Rattle.procedure_events.specs.procedure_stages.declared.steps.Effect.{Effect}
use Rattle.procedure_events.specs.procedure_stages.declared.steps.Effect.TheVariants.{AskHost}
use Rattle.procedure_events.specs.procedures.Beginning.{may_ask_of}
use Rattle.procedure_events.specs.procedures.Going.{host_answer_step, is_answer, terminate_step}
use Rattle.procedure_events.specs.procedures.Table.{TableFacts}
use Rattle.link_commands.specs.open_links.control_model.Control.{Answers, Asks, Control, Disconnects, table_if}
use Rattle.link_commands.proofs.open_links.control_model.Calls.{open_step}
use Rattle.link_pairs.specs.control_octets.Fitting.{AskFits, EncryptFits, RequestFits}
use Rattle.link_pairs.specs.joint_controls.Joint.{is_map}
use Rattle.link_commands.specs.open_links.link_model.Facts.{Facts}
use Rattle.link_commands.specs.open_links.link_model.Hosts.{asked_unless, facts_answered, facts_asked, facts_disconnected, is_to_come}
use Rattle.link_commands.specs.open_links.link_model.Rows.{central_with}
use Rattle.link_commands.specs.open_links.link_model.Setup.{Setup}
use Rattle.link_commands.specs.open_links.link_model.Step.{Step, ProcedureAsked}
use Rattle.link_commands.specs.open_links.link_model.End.{facts_after}
use Rattle.link_commands.proofs.open_links.link_model.KnownEnds.{IsPast}
use Rattle.host_view.specs.declared.links.Link.{Link}
use Rattle.host_view.specs.View.{View}
use Rattle.host_view.specs.declared.links.Asked.{Asked}
use Rattle.host_view.specs.Changes.{asking, completed, with_asked}
use Rattle.host_view.specs.Links.{is_asked, is_central_role, link_in, update_kind}
use Rattle.host_view.specs.Refusals.{are_parameters, asked_row, both_phys_rows, count_if, first_refusal, link_rows, parameters_row}
use Rattle.host_view.specs.Status.{connection_update_rows, data_length_rows, disconnect_rows, enable_encryption_rows, is_data_length, is_reason, parameter_request_row, rows_of}
use Rattle.host_view.specs.Status.{status_of}
use Rattle.link_commands.proofs.Ranges.{length_fits, map_fits, not_not, params_fit, passes}
use Rattle.link_commands.specs.declared.moments.Moment.{Moment}
use Rattle.link_commands.specs.Commands.{answered_if, ask_unless, facts_commanded, host_step_of, is_about, link_commanded, map_by, transmit_maximum, update_by}
use Rattle.host_asks.specs.Commands.{MayComeIf, WordsFit}
use Rattle.host_asks.specs.Knowing.{KnowsAsks, KnowsTable}
use Rattle.host_asks.specs.Noting.{effect_after, is_of_host, link_after_step, link_after_notes, link_with_request}
use Rattle.host_asks.proofs.Accepted.{table_of}
use Rattle.host_asks.proofs.Controls.{ends_before}
use Rattle.host_asks.proofs.Ends.{key_knows, step_knows}
use Rattle.host_asks.proofs.Keeping.{asked_with, same_kinds}
use Rattle.host_asks.proofs.Tables.{may_ask_new, table_asks}

-- ---- the steps of the host, one end

disconnect_table : (link : Link) (f : TableFacts) (reason : ErrCode) (closing : Closing) → f.closing ≡ closing → KnowsTable link f
    → KnowsTable (record link { disconnecting = true }) (if is_open closing then terminate_step f reason else f)
disconnect_table link f reason Open is knows =
    record { role = knows.role; asked = knows.asked; closes = λ ends. refl; disconnects = λ ends. refl; parameters = knows.parameters }
disconnect_table link f reason closing is knows =
    record { role = knows.role; asked = knows.asked; closes = λ ends. ap is_open is; disconnects = λ ends. refl; parameters = knows.parameters }

table_is : (b : Bool) (g : TableFacts) (c : Control) → (table_if b g c).table ≡ (if b then g else c.table)
table_is true g c = refl
table_is false g c = refl

pub disconnect_knows : (link : Link) (facts : Facts) (reason : ErrCode) (slot : ℕ) → KnowsAsks link facts
    → (facts_disconnected reason slot facts).control.ends ≡ None
    → KnowsAsks (record link { disconnecting = true }) (facts_disconnected reason slot facts)
disconnect_knows link facts reason slot knows lasts =
    record {
      table =
          open_step (λ (c : Control). KnowsTable (record link { disconnecting = true }) c.table) (Disconnects reason) facts.control
          (ends_before (Disconnects reason) facts.control lasts)
          (subst (λ (f : TableFacts). KnowsTable (record link { disconnecting = true }) f)
          (sym (table_is (is_open facts.control.table.closing) (terminate_step facts.control.table reason) facts.control))
          (disconnect_table link facts.control.table reason facts.control.table.closing refl knows.table));
      disconnecting = λ ends. refl;
      version = knows.version;
    }

-- it asks for a procedure that it did not ask for before
pub asked_knows : (link : Link) (facts : Facts) (ask : Ask) → is_asked (kind_of_ask ask) link.asked ≡ false → KnowsAsks link facts
    → (facts_asked ask facts).control.ends ≡ None → is_to_come ask facts ≡ false
    → KnowsAsks (asking (kind_of_ask ask) link) (facts_asked ask facts)
asked_knows link facts ask new knows lasts not_come = by (is_to_come ask facts) not_come lasts
  where
    by : (comes : Bool) → comes ≡ false → (asked_unless comes ask facts).control.ends ≡ None → KnowsAsks (asking (kind_of_ask ask) link) (asked_unless comes ask facts)
    by true is lasts = absurd (cc)
    by false is lasts =
        record {
          table =
              open_step (λ (c : Control). KnowsTable (asking (kind_of_ask ask) link) c.table) (Asks ask) facts.control
              (ends_before (Asks ask) facts.control lasts) (table_asks link facts.control.table ask new knows.table);
          disconnecting = knows.disconnecting;
          version = knows.version;
        }

-- a map, which the view of a link does not keep
pub map_knows : (link : Link) (facts : Facts) (map : ℕ) → KnowsAsks link facts
    → (facts_asked (Map map) facts).control.ends ≡ None → KnowsAsks link (facts_asked (Map map) facts)
map_knows link facts map knows lasts = by (is_to_come (Map map) facts) lasts
  where
    by : (comes : Bool) → (asked_unless comes (Map map) facts).control.ends ≡ None → KnowsAsks link (asked_unless comes (Map map) facts)
    by true lasts = knows
    by false lasts =
        record {
          table =
              open_step (λ (c : Control). KnowsTable link c.table) (Asks (Map map)) facts.control
              (ends_before (Asks (Map map)) facts.control lasts) (table_asks link facts.control.table (Map map) refl knows.table);
          disconnecting = knows.disconnecting;
          version = knows.version;
        }

-- it answers a request, whatever the view keeps of that
no_longer_asked : (link : Link) (f g : TableFacts) (waits : Bool) → g.wanted ≡ f.wanted → g.closing ≡ f.closing → role_of g.progress ≡ role_of f.progress
    → own_kind g.progress ≡ own_kind f.progress → is_host_asked g.progress ≡ false → KnowsTable link f
    → KnowsTable (record link { waits_for_parameters = waits }) g
no_longer_asked link f g waits wanted closing role own none knows =
    record {
      role = role ∙ knows.role;
      asked = λ kind other. (λ i. count_of kind (wanted i) + count_if (is_kind (own i) kind)) ∙ knows.asked kind other;
      closes = λ is. ap is_open closing ∙ knows.closes is;
      disconnects = λ is. knows.disconnects (sym (ap is_disconnecting closing) ∙ is);
      parameters = λ asks. absurd (let h : false ≡ true = sym none ∙ asks in absurd cc);
    }

becomes_role : (peer : PeerAtCentral) (p : Progress) → role_of (peer_becomes peer p) ≡ role_of p
becomes_role peer (central c) = refl
becomes_role peer (peripheral p) = refl

becomes_own : (peer : PeerAtCentral) (p : Progress) → own_kind (peer_becomes peer p) ≡ own_kind p
becomes_own peer (central c) = refl
becomes_own peer (peripheral p) = refl

granted_host : (p : Progress) → is_host_asked (peer_becomes GrantUnsent p) ≡ false
granted_host (central c) = refl
granted_host (peripheral p) = refl

refused_host : (p : Progress) → is_host_asked (peer_becomes Absent p) ≡ false
refused_host (central c) = refl
refused_host (peripheral p) = refl

answered_table : (link : Link) (f : TableFacts) (answer : Result Ask ErrCode) (waits asked : Bool) → is_answer answer ≡ true
    → is_host_asked f.progress ≡ asked → KnowsTable link f
    → KnowsTable (record link { waits_for_parameters = waits }) (if asked && is_answer answer then host_answer_step f answer else f)
answered_table link f answer waits false answers is knows = no_longer_asked link f f waits refl refl refl refl is knows
answered_table link f (Err code) waits true answers is knows =
    no_longer_asked link f (host_answer_step f (Err code)) waits refl refl (becomes_role Absent f.progress) (becomes_own Absent f.progress) (refused_host f.progress) knows
answered_table link f (Ok (Update interval latency timeout)) waits true answers is knows =
    no_longer_asked link f (host_answer_step f (Ok (Update interval latency timeout))) waits refl refl (becomes_role GrantUnsent f.progress)
    (becomes_own GrantUnsent f.progress) (granted_host f.progress) knows
answered_table link f (Ok ask) waits true answers is knows = absurd (cc)

pub answer_knows : (link : Link) (facts : Facts) (answer : Result Ask ErrCode) (waits : Bool) → is_answer answer ≡ true → KnowsAsks link facts
    → (facts_answered answer facts).control.ends ≡ None
    → KnowsAsks (record link { waits_for_parameters = waits }) (facts_answered answer facts)
answer_knows link facts answer waits answers knows lasts =
    record {
      table =
          open_step (λ (c : Control). KnowsTable (record link { waits_for_parameters = waits }) c.table) (Answers answer) facts.control
          (ends_before (Answers answer) facts.control lasts)
          (subst (λ (f : TableFacts). KnowsTable (record link { waits_for_parameters = waits }) f)
          (sym (table_is (is_host_asked facts.control.table.progress && is_answer answer) (host_answer_step facts.control.table answer) facts.control))
          (answered_table link facts.control.table answer waits (is_host_asked facts.control.table.progress) answers refl knows.table));
      disconnecting = knows.disconnecting;
      version = knows.version;
    }

-- ---- whether a request for a key waits, and whether the host gave one

pub key_known : (link : Link) (facts : Facts) (waits keyed : Bool) → KnowsAsks link facts
    → KnowsAsks (record link { waits_for_key = waits; keyed = keyed }) facts
key_known link facts waits keyed knows =
    record {
      table =
          record {
            role = knows.table.role;
            asked = knows.table.asked;
            closes = knows.table.closes;
            disconnects = knows.table.disconnects;
            parameters = knows.table.parameters;
          };
      disconnecting = knows.disconnecting;
      version = knows.version;
    }

-- ---- values

reason_fits : (reason : ℕ) → is_reason reason ≡ true → reason < 256
reason_fits reason is = grind (arith, nat_tests)

octet_fits : (reason : ℕ) → reason % 256 < 256
octet_fits reason = omega arith

-- the numbers of a command in their octets, and the words that are drawn
encrypt_fits : (rand ediv : ℕ) (moment : Moment) → WordsFit moment → EncryptFits (rand % 2 ^ 64) (ediv % 2 ^ 16) moment.skd_m moment.iv_m
encrypt_fits rand ediv moment words =
    record {
      rand_fits = mod-lt rand (omega arith);
      ediv_fits = mod-lt ediv (omega arith);
      skd_fits = words.skd_fits;
      iv_fits = words.iv_fits;
    }

request_fits : (min max latency timeout : ℕ) → are_parameters min max latency timeout ≡ true → RequestFits min max latency timeout
request_fits min max latency timeout are =
    record {
      min_fits = grind (arith, nat_tests);
      max_fits = grind (arith, nat_tests);
      latency_fits = grind (arith, nat_tests);
      timeout_fits = grind (arith, nat_tests);
    }

-- ---- what a command does on its link

pub record IsCarriedOut (setup : Setup) (moment : Moment) (step : Option Step) (after : Link) (facts : Facts) : Type 0 where
  pub may : WordsFit moment → MayComeIf step facts
  pub keeps : (facts_commanded setup step facts).control.ends ≡ None → KnowsAsks after (facts_commanded setup step facts)

unknown_by : (same knows told : Bool) → (knows ≡ true → told ≡ true) → (same && told) ≡ false → (same && knows) ≡ false
unknown_by false knows told is none = refl
unknown_by true true told is none = absurd (let h : false ≡ true = sym none ∙ is refl in cc)
unknown_by true false told is none = refl

may_by : (x same known : Bool) → x ≡ true → (same && known) ≡ false → (false || (x && not (same && known))) ≡ true
may_by x same known is none = rw (is, none) refl

-- it asks for a procedure
asks_out : (setup : Setup) (moment : Moment) (link : Link) (facts : Facts) (ask : Ask) → KnowsAsks link facts → is_asked (kind_of_ask ask) link.asked ≡ false
    → (WordsFit moment → AskFits ask) → is_same_kind (kind_of_ask ask) map_kind ≡ false → is_map ask ≡ false
    → (is_same_kind (kind_of_ask ask) version_kind && is_some facts.peer.version) ≡ false → is_to_come ask facts ≡ false
    → IsCarriedOut setup moment (Some (ProcedureAsked ask)) (asking (kind_of_ask ask) link) facts
asks_out setup moment link facts ask knows new fits other no_map unknown comes =
    record {
      may = λ words.
          record {
            in_range = fits words;
            may =
                ap (λ (b : Bool). b || (may_ask_of facts.control.table (kind_of_ask ask) && not (is_same_kind (kind_of_ask ask) version_kind && facts.encryption.knows_version))) no_map
                ∙ may_by (may_ask_of facts.control.table (kind_of_ask ask)) (is_same_kind (kind_of_ask ask) version_kind) facts.encryption.knows_version
                (may_ask_new facts.control.table (kind_of_ask ask) link.asked other knows.table.asked new)
                (unknown_by (is_same_kind (kind_of_ask ask) version_kind) facts.encryption.knows_version (is_some facts.peer.version) knows.version unknown);
          };
      keeps = λ lasts. asked_knows link facts ask new knows lasts comes;
    }

-- what is known is answered at once, and is not asked for
asked_again : (k kind : Kind) (asked : Asked) → is_asked k asked ≡ false → is_same_kind kind map_kind ≡ false
    → is_asked kind (with_asked k false (with_asked k true asked)) ≡ is_asked kind asked
asked_again k kind asked new other =
    asked_with k kind false (with_asked k true asked) other ∙ by (is_same_kind k kind) refl
  where
    by : (same : Bool) → is_same_kind k kind ≡ same → (if same then false else is_asked kind (with_asked k true asked)) ≡ is_asked kind asked
    by true is = sym (subst (λ (a : Kind). is_asked a asked ≡ false) (same_kinds k kind is) new)
    by false is = asked_with k kind true asked other ∙ ap (λ (b : Bool). if b then true else is_asked kind asked) is

known_out : (setup : Setup) (moment : Moment) (link : Link) (facts : Facts) (k : Kind) → KnowsAsks link facts → is_asked k link.asked ≡ false
    → IsCarriedOut setup moment None (completed k (asking k link)) facts
known_out setup moment link facts k knows new =
    record {
      may = λ words. tt;
      keeps = λ lasts.
          record {
            table =
                record {
                  role = knows.table.role;
                  asked = λ kind other. knows.table.asked kind other ∙ ap count_if (sym (asked_again k kind link.asked new other));
                  closes = knows.table.closes;
                  disconnects = knows.table.disconnects;
                  parameters = knows.table.parameters;
                };
            disconnecting = knows.disconnecting;
            version = knows.version;
          };
    }

version_out : (setup : Setup) (moment : Moment) (link : Link) (facts : Facts) (known : Bool) → is_some facts.peer.version ≡ known → KnowsAsks link facts
    → is_asked version_kind link.asked ≡ false
    → IsCarriedOut setup moment (ask_unless known Version) (answered_if known version_kind (asking version_kind link)) facts
version_out setup moment link facts true is knows new = known_out setup moment link facts version_kind knows new
version_out setup moment link facts false is knows new = asks_out setup moment link facts Version knows new (λ words. tt) refl refl is refl

features_out : (setup : Setup) (moment : Moment) (link : Link) (facts : Facts) (known : Bool) → KnowsAsks link facts → is_asked features_kind link.asked ≡ false
    → IsCarriedOut setup moment (ask_unless known Features) (answered_if known features_kind (asking features_kind link)) facts
features_out setup moment link facts true knows new = known_out setup moment link facts features_kind knows new
features_out setup moment link facts false knows new = asks_out setup moment link facts Features knows new (λ words. tt) refl refl refl refl

update_out : (setup : Setup) (moment : Moment) (link : Link) (facts : Facts) (role : Role) (min max latency timeout : ℕ) → KnowsAsks link facts
    → are_parameters min max latency timeout ≡ true → is_asked (update_kind role) link.asked ≡ false
    → IsCarriedOut setup moment (Some (ProcedureAsked (update_by role min max latency timeout))) (asking (update_kind role) link) facts
update_out setup moment link facts Central min max latency timeout knows are new =
    asks_out setup moment link facts (Update max latency timeout) knows new (λ words. params_fit min max latency timeout are) refl refl refl refl
update_out setup moment link facts Peripheral min max latency timeout knows are new =
    asks_out setup moment link facts (Request min max latency timeout) knows new (λ words. request_fits min max latency timeout are) refl refl refl refl

map_out : (setup : Setup) (moment : Moment) (link : Link) (facts : Facts) (role : Role) (map : ℕ) → KnowsAsks link facts → IsMap map
    → IsCarriedOut setup moment (map_by role map) link facts
map_out setup moment link facts Central map knows is =
    record { may = λ words. record { in_range = is; may = refl }; keeps = λ lasts. map_knows link facts map knows lasts }
map_out setup moment link facts Peripheral map knows is = record { may = λ words. tt; keeps = λ lasts. knows }

-- the rows of a choice of PHYs do not hold
phys_pass : (all tx rx : ℕ) (rows : List (Bool × ℕ)) → first_refusal (both_phys_rows all tx rx rows) ≡ 0 → first_refusal rows ≡ 0
phys_pass all tx rx rows ok =
    let transmit = passes (not (has_bit all 0) && (tx == 0)) _ _ (passes (not (has_bit all 0) && nat_lt 1 tx) _ _ ok).1 in
    (passes (not (has_bit all 1) && (rx == 0)) _ _ (passes (not (has_bit all 1) && nat_lt 1 rx) _ _ transmit.1).1).1

-- ---- by command

given_link : (view : View) (given handle : ℕ) (link : Link) → (given == handle) ≡ true → link_in view.links handle ≡ Some link
    → link_in view.links given ≡ Some link
given_link view given handle link same is = subst (λ (h : ℕ). link_in view.links h ≡ Some link) (sym (eqb-true given handle same)) is

pub carried_out : (setup : Setup) (view : View) (command : Command) (handle : ℕ) (moment : Moment) (link : Link) (facts : Facts)
    → first_refusal (rows_of view command) ≡ 0 → is_about handle command ≡ true
    → link_in view.links handle ≡ Some link → KnowsAsks link facts
    → IsCarriedOut setup moment (host_step_of command moment link.role facts.peer) (link_commanded command facts.peer link) facts
carried_out setup view (Disconnect given reason) handle moment link facts ok about is knows =
    let rows =
    passes link.disconnecting _ _
    (subst (λ (l : Option Link). first_refusal (disconnect_rows l reason) ≡ 0) (given_link view given handle link about is) ok)
    in
    record {
      may = λ words. reason_fits reason (not_not (is_reason reason) (passes (not (is_reason reason)) _ _ rows.1).0);
      keeps = λ lasts. disconnect_knows link facts (record { 0 = reason }) moment.slot knows lasts;
    }
carried_out setup view (ReadRemoteVersion given) handle moment link facts ok about is knows =
    let rows =
    passes link.disconnecting _ _
    (subst (λ (l : Option Link). first_refusal (link_rows l (asked_row version_kind l ∷ [])) ≡ 0) (given_link view given handle link about is) ok)
    in
    version_out setup moment link facts (is_some facts.peer.version) refl knows (passes (is_asked version_kind link.asked) _ _ rows.1).0
carried_out setup view (LeReadRemoteFeatures given) handle moment link facts ok about is knows =
    let rows =
    passes link.disconnecting _ _
    (subst (λ (l : Option Link). first_refusal (link_rows l (asked_row features_kind l ∷ [])) ≡ 0) (given_link view given handle link about is) ok)
    in
    features_out setup moment link facts (is_some facts.peer.features) knows (passes (is_asked features_kind link.asked) _ _ rows.1).0
carried_out setup view (LeSetDataLength given most time) handle moment link facts ok about is knows =
    let rows =
    passes link.disconnecting _ _
    (subst (λ (l : Option Link). first_refusal (data_length_rows l most time) ≡ 0) (given_link view given handle link about is) ok)
    in
    let long = passes (not (is_data_length most time)) _ _ rows.1 in
    asks_out setup moment link facts (Length (transmit_maximum most time)) knows (passes (is_asked length_kind link.asked) _ _ long.1).0
    (λ words. length_fits most time (not_not (is_data_length most time) long.0)) refl refl refl refl
carried_out setup view (LeConnectionUpdate given min max latency timeout lengths) handle moment link facts ok about is knows =
    let rows =
    passes link.disconnecting _ _
    (subst (λ (l : Option Link). first_refusal (connection_update_rows l min max latency timeout) ≡ 0) (given_link view given handle link about is) ok)
    in
    let valid = passes (not (are_parameters min max latency timeout)) _ _ rows.1 in
    update_out setup moment link facts link.role min max latency timeout knows (not_not (are_parameters min max latency timeout) valid.0)
    (passes (is_asked (update_kind link.role) link.asked) _ _ valid.1).0
carried_out setup view (LeSetChannels map) handle moment link facts ok about is knows =
    map_out setup moment link facts link.role map knows (map_fits map (passes (nat_lt (length (used_channels map)) 2 || nat_le (2 ^ 37) map) _ _ ok).0)
carried_out setup view (LeSetPhy given all tx rx options) handle moment link facts ok about is knows =
    let rows =
    passes link.disconnecting _ _
    (subst (λ (l : Option Link). first_refusal (link_rows l (both_phys_rows all tx rx (asked_row phy_kind l ∷ []))) ≡ 0) (given_link view given handle link about is) ok)
    in
    asks_out setup moment link facts Phy knows (passes (is_asked phy_kind link.asked) _ _ (phys_pass all tx rx (asked_row phy_kind (Some link) ∷ []) rows.1)).0 (λ words. tt) refl refl refl refl
carried_out setup view (LeParamReply given min max latency timeout lengths) handle moment link facts ok about is knows =
    let rows =
    passes link.disconnecting _ _
    (subst (λ (l : Option Link). first_refusal (link_rows l (parameter_request_row l ∷ parameters_row min max latency timeout ∷ [])) ≡ 0) (given_link view given handle link about is) ok)
    in
    let waits = passes (not link.waits_for_parameters) _ _ rows.1 in
    record {
      may = λ words. params_fit min max latency timeout (not_not (are_parameters min max latency timeout) (passes (not (are_parameters min max latency timeout)) _ _ waits.1).0);
      keeps = λ lasts. answer_knows link facts (Ok (Update max latency timeout)) false refl knows lasts;
    }
carried_out setup view (LeParamNegative given reason) handle moment link facts ok about is knows =
    record { may = λ words. octet_fits reason; keeps = λ lasts. answer_knows link facts (Err (record { 0 = reason % 256 })) false refl knows lasts }
carried_out setup view (LeEnableEncryption given rand ediv key) handle moment link facts ok about is knows =
    let rows =
    passes link.disconnecting _ _
    (subst (λ (l : Option Link). first_refusal (enable_encryption_rows l) ≡ 0) (given_link view given handle link about is) ok)
    in
    let at_central = passes (not (is_central_role link.role)) _ _ rows.1 in
    asks_out setup moment link facts (Encrypt (rand % 2 ^ 64) (ediv % 2 ^ 16) (reverse key) moment.skd_m moment.iv_m) knows
    (passes (is_asked encrypt_kind link.asked) _ _ at_central.1).0 (encrypt_fits rand ediv moment) refl refl refl refl
carried_out setup view (LeKeyReply given key) handle moment link facts ok about is knows =
    record { may = λ words. tt; keeps = λ lasts. key_known link _ false true (key_knows (Some (reverse key)) moment.slot link facts knows) }
carried_out setup view (LeKeyNegative given) handle moment link facts ok about is knows =
    record { may = λ words. tt; keeps = λ lasts. key_known link _ false link.keyed (key_knows None moment.slot link facts knows) }
carried_out setup view other handle moment link facts ok about is knows = absurd (cc)

pub command_may_come : (view : View) (command : Command) (handle : ℕ) (moment : Moment) (link : Link) (facts : Facts)
    → status_of view command ≡ 0 → is_about handle command ≡ true → link_in view.links handle ≡ Some link
    → KnowsAsks link facts → WordsFit moment → MayComeIf (host_step_of command moment link.role facts.peer) facts
command_may_come view command handle moment link facts ok about is knows words =
    (carried_out (central_with 0) view command handle moment link facts (table_of view command ok) about is knows).may words

pub command_keeps : (setup : Setup) (view : View) (command : Command) (handle : ℕ) (moment : Moment) (link : Link) (facts : Facts)
    → status_of view command ≡ 0 → is_about handle command ≡ true → link_in view.links handle ≡ Some link
    → KnowsAsks link facts → (facts_commanded setup (host_step_of command moment link.role facts.peer) facts).control.ends ≡ None
    → KnowsAsks (link_commanded command facts.peer link) (facts_commanded setup (host_step_of command moment link.role facts.peer) facts)
command_keeps setup view command handle moment link facts ok about is knows lasts =
    (carried_out setup view command handle moment link facts (table_of view command ok) about is knows).keeps lasts

-- ---- a request is refused, also one whose event is withheld

pub refused_knows : (link : Link) (facts : Facts) (code : ErrCode) (waits : Bool) → KnowsAsks link facts
    → (facts_answered (Err code) facts).control.ends ≡ None
    → KnowsAsks (record link { waits_for_parameters = waits }) (facts_answered (Err code) facts)
refused_knows link facts code waits knows lasts = answer_knows link facts (Err code) waits refl knows lasts

pub request_withdrawn : (effect : Effect) (link : Link) → record (link_with_request effect link) { waits_for_parameters = link.waits_for_parameters } ≡ link
request_withdrawn (AskHost min max latency timeout) link = refl
request_withdrawn effect link = refl

pub withheld_knows : (setup : Setup) (step : Step) (link : Link) (facts : Facts) (code : ErrCode) → IsPast setup facts → is_of_host step ≡ false
    → KnowsAsks link facts
    → (facts_answered (Err code) (facts_after setup facts step)).control.ends ≡ None
    → KnowsAsks (link_after_notes setup facts step link) (facts_answered (Err code) (facts_after setup facts step))
withheld_knows setup step link facts code p other knows lasts =
    let next = facts_after setup facts step in
    let noted = link_after_notes setup facts step link in
    subst (λ (l : Link). KnowsAsks l (facts_answered (Err code) next)) (request_withdrawn (effect_after setup facts step) noted)
    (refused_knows (link_after_step setup facts step link) next code noted.waits_for_parameters
    (step_knows setup step link facts p other knows (ends_before (Answers (Err code)) next.control lasts)) lasts)
