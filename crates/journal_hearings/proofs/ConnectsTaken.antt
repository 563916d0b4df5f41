-- A CONNECT_IND is taken by a controller exactly where its side is to open the link by the lines.
use Rattle.std.proofs.Common.{◌≡◌, ℕ, ◌==◌, ◌||◌, Bool, true, false, Option, Some, None, List, [], ◌∷◌, ◌++◌, cond, refl, sym, ap, ◌∙◌}
use Rattle.std.specs.Prelude.{◌&&◌, not, IsSome, if◌then◌else◌}
use Rattle.std.specs.Option.{option_map}
use Rattle.std.proofs.lemmas.Bool.{and_from, and_parts, eqb-true}
use Rattle.ble_base.specs.declared.addresses.Address.{Address}
use Rattle.ble_base.specs.declared.notes.Note.{Note}
use Rattle.ble_base.specs.declared.notes.Note.TheVariants.{Opened}
use Rattle.ble_base.specs.declared.roles.Role.TheVariants.{Peripheral}
use Rattle.adv_pdu.specs.declared.pdu.AdvPdu.{AdvPdu}
use Rattle.adv_pdu.specs.declared.pdu.AdvPdu.TheVariants.{Ind, Direct, Nonconn, Connect, ScanInd}
use Rattle.adv_pdu.specs.declared.pdu.ConnectFields.{ConnectFields}
use Rattle.adv_pdu.specs.Ranges.{is_in_range}
use Rattle.advertise.specs.declared.answers.AdvAnswer.TheVariants.{Ignore, Connect as Takes}
use Rattle.advertise.specs.declared.params.AdvParams.{AdvParams}
use Rattle.advertise.specs.Advertising.{AdvertiserFacts, advertisement, is_connectable}
use Rattle.advertise.specs.Answers.{advertiser_answer, lets_connect, may_connect}
use Rattle.scan_init.specs.Addresses.{is_same_address}
use Rattle.scan_init.proofs.Listed.{equal_addresses}
use Rattle.journal_data.specs.open_links.OpenLinks.{free_from, has_link_between}
use Rattle.journal_data.specs.controller_model.declared.doing.Doing.{Doing}
use Rattle.journal_data.specs.controller_model.declared.doing.Doing.TheVariants.{AwaitsRequest}
use Rattle.journal_data.specs.controller_model.Facts.{Setup, Facts}
use Rattle.journal_data.specs.controller_model.Heard.{advertiser_answers, advertiser_heard, heard, if_pdu, link_taken, taken_if, taken_under}
use Rattle.journal_data.specs.controller_model.Links.{events_opened}
use Rattle.journal_data.specs.controller_model.Events.{notes_of_events}
use Rattle.journal_data.specs.controller_model.Outcome.{Outcome, notes_passed}
use Rattle.journal_data.specs.controller_model.Packets.{pdu_heard}
use Rattle.journal_data.specs.controller_model.Side.{notes_after}
use Rattle.journal_data.specs.controller_model.Step.{PacketHeard}
use Rattle.journal_hearings.specs.Openings.{lets_in, newer_offer}
use Rattle.journal_data.proofs.controller_model.AdvertisersKnown.{AdvertisersKnown, params_known}
use Rattle.journal_hearings.proofs.OffersMade.{FitsOffer}
use Rattle.journal_hearings.proofs.PeripheralNotes.{IsTaking}
use Rattle.journal_hearings.proofs.SettingsHeld.{Holds}

-- ---- what a controller does

-- it notes first that a link is opened, as its peripheral
pub record TakesLink (setup : Setup) (facts : Facts) (octets : List ℕ) : Type 0 where
  pub handle : ℕ
  pub own : Address
  pub peer : Address
  pub later : List Note
  pub notes_are : notes_after setup facts (PacketHeard octets) ≡ Opened handle Peripheral own peer ∷ later

opens_notes : (setup : Setup) (facts : Facts) (octets : List ℕ) (outcome : Outcome) (on : AdvertiserFacts) (pdu : AdvPdu) (fields : ConnectFields)
    → notes_after setup facts (PacketHeard octets) ≡ notes_passed outcome → outcome ≡ taken_if true on.params.own pdu fields facts
    → IsSome (free_from 0 facts.links) → TakesLink setup facts octets
opens_notes setup facts octets outcome on pdu fields notes is free = by (free_from 0 facts.links) refl free
  where
    by : (found : Option ℕ) → free_from 0 facts.links ≡ found → IsSome found → TakesLink setup facts octets
    by None none some = absurd (let h : false ≡ true = some in absurd cc)
    by (Some handle) found some =
        let link = link_taken facts.view on.params.own pdu fields handle in record {
          handle = handle;
          own = link.own;
          peer = link.peer;
          later = notes_of_events facts.view (events_opened facts.view link) ++ [];
          notes_are = notes ∙ ap notes_passed (is ∙ ap (λ may. taken_under may on.params.own pdu fields facts) found);
        }

-- what it takes, it opens
takes_link : (setup : Setup) (facts : Facts) (octets : List ℕ) (channel : ℕ) (on : AdvertiserFacts) (from to : Address) (ch_sel : Bool) (fields : ConnectFields)
    → facts.turn.doing ≡ AwaitsRequest channel → facts.advertising.on ≡ Some on → pdu_heard channel octets ≡ Some (Connect from to ch_sel fields)
    → advertiser_answer on.params facts.view.accepted (Connect from to ch_sel fields) ≡ Takes fields → has_link_between on.params.own from facts.links ≡ false
    → IsSome (free_from 0 facts.links) → TakesLink setup facts octets
takes_link setup facts octets channel on from to ch_sel fields doing is_on found answers new free =
    let pdu = Connect from to ch_sel fields in
    opens_notes setup facts octets (heard setup facts.turn.doing octets facts) on pdu fields refl
    (ap (λ (d : Doing). heard setup d octets facts) doing
    ∙ ap (λ may. if_pdu may facts (λ one. advertiser_heard facts.advertising.on channel one facts)) found
    ∙ ap (λ may. advertiser_heard may channel pdu facts) is_on
    ∙ ap (λ answer. advertiser_answers answer channel on.params.own pdu facts) answers
    ∙ ap (λ b. taken_if (not b) on.params.own pdu fields facts) new) free

-- ---- what the lines say of it

no_both : (kind one : ℕ) → (one == 4) ≡ false → (kind == one) ≡ true → (kind == 4) ≡ false
no_both kind one differs is = ap (λ n. n == 4) (eqb-true kind one is) ∙ differs

lets_by : (undirected scannable directed : Bool) (own target : Address) (body : List ℕ) (policy : ℕ) (list : List Address) (from to : Address)
    → (undirected ≡ true → directed ≡ false) → (scannable ≡ true → directed ≡ false)
    → lets_in (newer_offer None (Some (cond undirected (Ind own true (record { items = body }))
    (cond scannable (ScanInd own (record { items = body }))
    (cond directed (Direct own target true) (Nonconn own (record { items = body }))))))) policy list from to
    ≡ ((undirected || directed) && is_same_address own to && cond directed (is_same_address target from) (lets_connect policy list from))
lets_by true scannable true own target body policy list from to apart others = absurd (let h : true ≡ false = apart refl in cc)
lets_by true scannable false own target body policy list from to apart others = refl
lets_by false true true own target body policy list from to apart others = absurd (let h : true ≡ false = others refl in cc)
lets_by false true false own target body policy list from to apart others = refl
lets_by false false true own target body policy list from to apart others = refl
lets_by false false false own target body policy list from to apart others = refl

module _ (facts : Facts) (policy : ℕ) (list : List Address) (offer : Option AdvPdu) (fits : FitsOffer facts offer) (holds : Holds policy list facts) (known : AdvertisersKnown facts)
    (from to : Address) where
  -- the settings and the advertisement of an advertiser
  lets_is : (on : AdvertiserFacts) → facts.advertising.on ≡ Some on
      → lets_in offer policy list from to ≡ (is_connectable on.params.kind && is_same_address on.params.own to && may_connect on.params facts.view.accepted from)
  lets_is on is_on =
      let body = facts.advertising.data_octets in
      let params = on.params in
      let kind = params.kind in
      let offer_is : offer ≡ newer_offer None (Some (advertisement params body)) =
      fits ∙ ap (λ (may : Option AdvertiserFacts). newer_offer None (option_map (λ one. advertisement one.params body) may)) is_on in
      let policy_is : params.policy ≡ policy = ap (λ (set : AdvParams). set.policy) (params_known facts.advertising.params facts.advertising.on on is_on known.has_params) ∙ holds.1 in
      (λ i. lets_in (offer_is i) (sym policy_is i) (sym holds.0 i) from to)
      ∙ lets_by (kind == 0) (kind == 2) (kind == 4) params.own params.target body params.policy facts.view.accepted from to (no_both kind 0 refl) (no_both kind 2 refl)

  record IsOn : Type 0 where
    on : AdvertiserFacts
    is_on : facts.advertising.on ≡ Some on

  on_by : (may : Option AdvertiserFacts) → facts.advertising.on ≡ may → lets_in offer policy list from to ≡ true → IsOn
  on_by None is lets =
      let none : offer ≡ None = fits ∙ ap (λ (one : Option AdvertiserFacts). newer_offer None (option_map (λ on. advertisement on.params facts.advertising.data_octets) one)) is in
      absurd (let h : false ≡ true = ap (λ may. lets_in may policy list from to) (sym none) ∙ lets in cc)
  on_by (Some on) is lets = record { on = on; is_on = is }

  -- what is to be opened by the lines is taken
  pub offered_taken : (setup : Setup) (octets : List ℕ) (channel : ℕ) (ch_sel : Bool) (fields : ConnectFields) → facts.turn.doing ≡ AwaitsRequest channel
      → pdu_heard channel octets ≡ Some (Connect from to ch_sel fields) → lets_in offer policy list from to ≡ true → is_in_range fields ≡ true
      → has_link_between to from facts.links ≡ false
      → ((on : AdvertiserFacts) → facts.advertising.on ≡ Some on → is_connectable on.params.kind ≡ true → IsSome (free_from 0 facts.links)) → TakesLink setup facts octets
  offered_taken setup octets channel ch_sel fields doing found lets in_range new free =
      let one = on_by facts.advertising.on refl lets in
      let params = one.on.params in
      let may = sym (lets_is one.on one.is_on) ∙ lets in
      let first = and_parts (is_connectable params.kind && is_same_address params.own to) (may_connect params facts.view.accepted from) may in
      let parts = and_parts (is_connectable params.kind) (is_same_address params.own to) first.0 in
      takes_link setup facts octets channel one.on from to ch_sel fields doing one.is_on found
      (ap (λ b. if b then Takes fields else Ignore)
      (and_from (is_connectable params.kind && is_same_address params.own to && may_connect params facts.view.accepted from) (is_in_range fields) may in_range))
      (ap (λ own. has_link_between own from facts.links) (equal_addresses params.own to parts.1) ∙ new) (free one.on one.is_on parts.0)

-- and what is taken is to be opened by the lines
pub record IsToTake (policy : ℕ) (list : List Address) (offer : Option AdvPdu) (facts : Facts) (from to : Address) (fields : ConnectFields) : Type 0 where
  pub lets : lets_in offer policy list from to ≡ true
  pub in_range : is_in_range fields ≡ true
  pub new : has_link_between to from facts.links ≡ false

pub taken_offered : (facts : Facts) (octets : List ℕ) (policy : ℕ) (list : List Address) (offer : Option AdvPdu) (taking : IsTaking facts octets) → FitsOffer facts offer
    → Holds policy list facts → AdvertisersKnown facts → IsToTake policy list offer facts taking.from taking.to taking.fields
taken_offered facts octets policy list offer taking fits holds known =
    let from = taking.from in
    let to = taking.to in
    let params = taking.on.params in
    let lets = is_connectable params.kind && is_same_address params.own to && may_connect params facts.view.accepted from in
    let all = and_parts lets (is_in_range taking.fields) taking.takes in
    let first = and_parts (is_connectable params.kind && is_same_address params.own to) (may_connect params facts.view.accepted from) all.0 in
    let parts = and_parts (is_connectable params.kind) (is_same_address params.own to) first.0 in record {
      lets = lets_is facts policy list offer fits holds known from to taking.on taking.is_on ∙ all.0;
      in_range = all.1;
      new = ap (λ own. has_link_between own from facts.links) (sym (equal_addresses params.own to parts.1)) ∙ taking.new;
    }
