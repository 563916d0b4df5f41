-- The supervision timeout of an end is never 0: that of its CONNECT_IND is not, nor is that of an indication that is read
-- (Core 5.2, volume 6 part B, sections 2.3.3.1 and 2.4.2.1).
use Rattle.std.proofs.Common.{◌≡◌, ℕ, zero, suc, ◌≤◌, ◌==◌, nat_le, Bool, true, false, Option, Some, None, List, [], ◌∷◌, ◌++◌, fold, map, refl, sym, ap, subst, arith, if◌then◌else◌}
use Rattle.std.specs.Prelude.{IfSome, filter, ⊤}
use Rattle.std.specs.List.{AllByRecursion}
use Rattle.ble_base.specs.declared.notes.Note.{Note}
use Rattle.ble_base.specs.declared.notes.Note.TheVariants.{Sent, Took}
use Rattle.ble_base.specs.declared.roles.Role.{Role}
use Rattle.ble_base.specs.declared.roles.Role.TheVariants.{Central, Peripheral}
use Rattle.data_pdu.specs.Ranges.{IsInRange}
use Rattle.data_pdu.specs.Reading.{IfKnown, ctrl_of}
use Rattle.data_pdu.specs.declared.ctrl.Ctrl.{Ctrl}
use Rattle.data_pdu.specs.declared.ctrl.Ctrl.TheVariants.{ConnectionUpdateInd, ChannelMapInd}
use Rattle.data_pdu.specs.declared.ctrl.CtrlRead.{CtrlRead}
use Rattle.data_pdu.specs.declared.ctrl.CtrlRead.TheVariants.{Known}
use Rattle.instants.specs.Arrivals.{Taking}
use Rattle.instants.specs.Parameters.{params_after, params_in}
use Rattle.instants.specs.Track.{TrackFacts, event_of}
use Rattle.instants.specs.declared.indications.Indication.{Indication}
use Rattle.instants.specs.declared.indications.Indication.TheVariants.{Update, Map}
use Rattle.instants.specs.declared.indications.Params.{Params}
use Rattle.instants.specs.declared.track.Change.{Change}
use Rattle.link_changes.specs.InForce.{HasRanges}
use Rattle.link_changes.specs.Noted.{event_after, indication_noted, indication_read, taking_if, takings_from}
use Rattle.link_changes.proofs.Steps.{past_known}
use Rattle.journal_controls.specs.link_model.Acknowledgement.{Pdu}
use Rattle.journal_controls.specs.link_model.Controls.{read_of}
use Rattle.journal_controls.specs.link_model.End.{facts_of, notes_of}
use Rattle.journal_controls.specs.link_model.Setup.{Setup, first_params}
use Rattle.journal_controls.specs.link_model.Step.{Step}
use Rattle.journal_controls.specs.link_model.phased_end.Taking.{IsNamed}
use Rattle.journal_controls.proofs.link_model.ReadRanges.{read_range}
use Rattle.journal_controls.proofs.link_model.Views.{AsRead, AsUnknown, SeenAs, reading_view}

-- ---- an indication that is read has one

abbrev IsTimed : Indication → Type 0
IsTimed (Update win_offset interval latency timeout instant) = 1 ≤ timeout
IsTimed (Map map instant) = ⊤

abbrev AreTimed : List Taking → Type 0
AreTimed takings = AllByRecursion (λ taking. IsTimed taking.change.indication) takings

read_timed : (read : CtrlRead) → IfKnown read IsInRange → IfSome (indication_read read) IsTimed
read_timed (Known (ConnectionUpdateInd win_size win_offset interval latency timeout instant)) is = let from = is.timeout_from in omega (arith, from)
read_timed (Known (ChannelMapInd map instant)) is = tt
read_timed other is = tt

-- a PDU of the encryption is no indication
named_timed : (ctrl : Ctrl) → IsNamed ctrl → IfSome (indication_read (Known ctrl)) IsTimed
named_timed (ConnectionUpdateInd win_size win_offset interval latency timeout instant) named = absurd named
named_timed (ChannelMapInd map instant) named = tt
named_timed other named = tt

seen_timed : (read seen : CtrlRead) → SeenAs read seen → IfKnown seen IsInRange → IfSome (indication_read read) IsTimed
seen_timed read seen (AsRead is) range = read_timed read (subst (λ (other : CtrlRead). IfKnown other IsInRange) is range)
seen_timed read seen (AsUnknown ctrl named read_is is) range = subst (λ (other : CtrlRead). IfSome (indication_read other) IsTimed) (sym read_is) (named_timed ctrl named)

body_timed : (body : List ℕ) → IfSome (indication_read (ctrl_of body)) IsTimed
body_timed body =
    let pdu : Pdu = record { llid = 3; body = body } in
    seen_timed (ctrl_of body) (read_of pdu) (reading_view pdu) (read_range pdu)

noted_timed : (role : Role) (note : Note) → IfSome (indication_noted role note) IsTimed
noted_timed Central (Sent handle number llid body) = by (llid == 3)
  where
    by : (control : Bool) → IfSome (if control then indication_read (ctrl_of body.items) else None) IsTimed
    by true = body_timed body.items
    by false = tt
noted_timed Peripheral (Took handle number llid body) = by (llid == 3)
  where
    by : (control : Bool) → IfSome (if control then indication_read (ctrl_of body.items) else None) IsTimed
    by true = body_timed body.items
    by false = tt
noted_timed Central note = tt
noted_timed Peripheral note = tt

one_more : (event : ℕ) (indication : Option Indication) (more : List Taking) → IfSome indication IsTimed → AreTimed more → AreTimed (taking_if event indication ++ more)
one_more event None more is are = are
one_more event (Some indication) more is are = (is, are)

takings_timed : (role : Role) (event : ℕ) (notes : List Note) → AreTimed (takings_from role event notes)
takings_timed role event [] = tt
takings_timed role event (note ∷ notes) =
    one_more event (indication_noted role note) (takings_from role (event_after event note) notes) (noted_timed role note)
    (takings_timed role (event_after event note) notes)

front_timed : (first more : List Taking) → AreTimed (first ++ more) → AreTimed first
front_timed [] more are = tt
front_timed (taking ∷ first) more are = (are.0, front_timed first more are.1)

-- ---- so have the parameters in any event

after_timed : (params : Params) (indication : Indication) → 1 ≤ params.timeout → IsTimed indication → 1 ≤ (params_after params indication).timeout
after_timed params (Update win_offset interval latency timeout instant) some is = is
after_timed params (Map map instant) some is = some

either_timed : (holds : Bool) (first : Params) (change : Change) (changes : List Change)
    → 1 ≤ (fold (λ (params : Params) (one : Change). params_after params one.indication) (params_after first change.indication) changes).timeout
    → 1 ≤ (fold (λ (params : Params) (one : Change). params_after params one.indication) first changes).timeout
    → 1 ≤ (fold (λ (params : Params) (one : Change). params_after params one.indication) first (if holds then change ∷ changes else changes)).timeout
either_timed true first change changes changed same = changed
either_timed false first change changes changed same = same

params_timed : (takings : List Taking) (first : Params) (event : ℕ) → 1 ≤ first.timeout → AreTimed takings
    → 1 ≤ (params_in first (map (λ taking. taking.change) takings) event).timeout
params_timed [] first event some are = some
params_timed (taking ∷ takings) first event some are =
    either_timed (nat_le taking.change.at.0 event) first taking.change
    (filter (λ (change : Change). nat_le change.at.0 event) (map (λ (one : Taking). one.change) takings))
    (params_timed takings (params_after first taking.change.indication) event (after_timed first taking.change.indication some are.0) are.1)
    (params_timed takings first event some are.1)

-- ---- an end

pub end_timed : (setup : Setup) (past : List Step) → (setup.link.role ≡ Central → HasRanges setup past) → 1 ≤ setup.link.fields.timeout
    → 1 ≤ (facts_of setup past).control.track.params.timeout
end_timed setup past ranges some =
    let t = (facts_of setup past).control.track in
    let knows = (past_known setup past ranges).part.knows in
    let timed = front_timed knows.holding knows.rest (subst AreTimed knows.are (takings_timed setup.link.role 0 (notes_of setup past))) in
    by (t.entered) refl (params_timed knows.holding (first_params setup.link.fields) (event_of t) some timed)
  where
    by : (entered : ℕ) → (facts_of setup past).control.track.entered ≡ entered
        → 1 ≤ (params_in (first_params setup.link.fields) (map (λ (one : Taking). one.change) (past_known setup past ranges).part.knows.holding)
        (event_of (facts_of setup past).control.track)).timeout
        → 1 ≤ (facts_of setup past).control.track.params.timeout
    by zero is timed =
        let begins = (past_known setup past ranges).part.knows.stands.begins is in
        subst (λ (n : ℕ). 1 ≤ n) (sym (ap (λ (u : TrackFacts). u.params.timeout) begins.1)) some
    by (suc more) is timed =
        let follows = (past_known setup past ranges).part.knows.stands.follows (omega (arith, is)) in
        subst (λ (n : ℕ). 1 ≤ n) (sym (ap (λ (p : Params). p.timeout) follows.params)) timed
