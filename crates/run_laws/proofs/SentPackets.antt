-- What each packet is that a controller of a run sends.
use Rattle.std.proofs.Common.{◌≡◌, ℕ, ◌==◌, ◌⊎◌, inl, inr, Bool, true, false, Option, Some, None, List, cond, length, refl, sym, ap, subst, ◌∙◌}
use Rattle.std.specs.Prelude.{⊤}
use Rattle.std.specs.Option.{option_map}
use Rattle.ble_base.specs.declared.addresses.Address.{Address}
use Rattle.adv_pdu.specs.declared.pdu.AdvPdu.{AdvPdu}
use Rattle.adv_pdu.specs.declared.pdu.AdvPdu.TheVariants.{Ind, Direct, Nonconn, ScanReq, ScanRsp, Connect, ScanInd}
use Rattle.adv_pdu.specs.Pdu.{IsPdu}
use Rattle.advertise.specs.declared.params.AdvParams.{AdvParams}
use Rattle.advertise.specs.Advertising.{AdvertiserFacts, advertisement}
use Rattle.run_model.specs.link_model.Packets.{packet_sent}
use Rattle.run_model.specs.link_model.Step.{PacketSent}
use Rattle.run_model.specs.open_links.OpenLinks.{Links, OpenLink, facts_in, link_after, link_at, with_change}
use Rattle.run_model.proofs.open_links.Handles.{changed_is}
use Rattle.scan_init.specs.Reports.{ScannerFacts}
use Rattle.run_model.specs.controller_model.declared.doing.Doing.{Doing}
use Rattle.run_model.specs.controller_model.declared.doing.Doing.TheVariants.{Advertises, AwaitsRequest, Responds, Scans, Requests, AwaitsResponse, Initiates, Connects, CentralSends, CentralListens, PeripheralListens, PeripheralSends, Rests}
use Rattle.run_model.specs.controller_model.Step.{Step, HostOctet}
use Rattle.run_model.specs.controller_model.Facts.{Setup, Facts, Use, Sends, Listens, Idle}
use Rattle.run_model.specs.controller_model.Heard.{heard, unheard}
use Rattle.run_model.specs.controller_model.Packets.{advertising_packet, facts_doing, listens_on, sends_on, sends_pdu, use_for}
use Rattle.run_model.specs.controller_model.Radio.{outcome_begun}
use Rattle.run_model.specs.controller_model.Sent.{SendsOn}
use Rattle.run_model.specs.controller_model.Side.{facts_after, facts_of}
use Rattle.run_model.proofs.controller_model.Always.{IsAdvertisingChannel}
use Rattle.run_model.proofs.controller_model.Sent.{AdvertisingFits, DoingFits, ScannerFits, SendsWell, SomePdu, advertisement_is, request_is, response_is, sends_well}
use Rattle.run_model.specs.Links.{is_connect_ind}
use Rattle.run_model.specs.Run.{step_of}
use Rattle.run_laws.proofs.TurnPlaces.{Between, IsTurned, Stage, Standing, Within, standing, turned}
use Rattle.run_laws.proofs.TurnSteps.{octet_turn}

-- ---- the PDUs of the advertising channels

-- ChSel is 1 in each PDU that has it
abbrev pub HasChSel : AdvPdu → Type 0
HasChSel (Ind from ch_sel body) = ch_sel ≡ true
HasChSel (Direct from to ch_sel) = ch_sel ≡ true
HasChSel (Connect from to ch_sel fields) = ch_sel ≡ true
HasChSel other = ⊤

-- a PDU that is no CONNECT_IND
pub record IsOther (pdu : AdvPdu) : Type 0 where
  pub ch_sel : HasChSel pdu
  pub other : is_connect_ind (Some pdu) ≡ false

-- a CONNECT_IND is sent exactly where a link is to be made, with what that was set up with
abbrev pub Says : Doing → AdvPdu → Type 0
Says (Connects channel link) pdu = pdu ≡ Connect link.own link.peer true link.fields
Says other pdu = is_connect_ind (Some pdu) ≡ false

pub record IsPduSent (doing : Doing) (channel : ℕ) (octets : List ℕ) : Type 0 where
  pub pdu : AdvPdu
  pub is_pdu : IsPdu pdu
  pub packet : octets ≡ advertising_packet channel pdu
  pub on_channel : IsAdvertisingChannel channel
  pub ch_sel : HasChSel pdu
  pub says : Says doing pdu

-- the packet of the open link on which it is to send, to which nothing happened after that
pub record IsLinkSent (facts : Facts) (channel : ℕ) (octets : List ℕ) : Type 0 where
  pub handle : ℕ
  pub sends : SendsOn handle facts.turn.doing
  pub link : OpenLink
  pub is_open : link_at handle facts.links ≡ Some (link_after (PacketSent facts.turn.slot) link)
  pub packet : octets ≡ packet_sent link.setup (facts_in link)
  pub channel_is : channel ≡ (facts_in link).event.channel

abbrev pub IsUseSent : Facts → Use → Type 0
IsUseSent facts (Sends channel octets) = IsPduSent facts.turn.doing channel octets ⊎ IsLinkSent facts channel octets
IsUseSent facts (Listens channel) = ⊤
IsUseSent facts Idle = ⊤

-- ---- each PDU

advertisement_other_by : (undirected scannable directed : Bool) (own target : Address) (body : List ℕ)
    → IsOther (cond undirected (Ind own true (record { items = body }))
    (cond scannable (ScanInd own (record { items = body }))
    (cond directed (Direct own target true) (Nonconn own (record { items = body })))))
advertisement_other_by true scannable directed own target body = record { ch_sel = refl; other = refl }
advertisement_other_by false true directed own target body = record { ch_sel = tt; other = refl }
advertisement_other_by false false true own target body = record { ch_sel = refl; other = refl }
advertisement_other_by false false false own target body = record { ch_sel = tt; other = refl }

advertisement_other : (params : AdvParams) (body : List ℕ) → IsOther (advertisement params body)
advertisement_other params body =
    advertisement_other_by (params.kind == 0) (params.kind == 2) (params.kind == 4) params.own params.target body

pdu_use : (facts : Facts) (doing : Doing) (channel : ℕ) (pdu : AdvPdu) → facts.turn.doing ≡ doing → IsPdu pdu → IsAdvertisingChannel channel → HasChSel pdu → Says doing pdu
    → IsUseSent facts (sends_pdu channel (Some pdu))
pdu_use facts doing channel pdu is fits on_channel ch_sel says =
    inl (record { pdu = pdu; is_pdu = fits; packet = refl; on_channel = on_channel; ch_sel = ch_sel; says = subst (λ (d : Doing). Says d pdu) (sym is) says })

advertises_use : (facts : Facts) (channel : ℕ) (data_octets : List ℕ) (on : Option AdvertiserFacts) → facts.turn.doing ≡ Advertises channel → IsAdvertisingChannel channel
    → SomePdu (option_map (λ on. advertisement on.params data_octets) on)
    → IsUseSent facts (sends_pdu channel (option_map (λ on. advertisement on.params data_octets) on))
advertises_use facts channel octets None is on_channel fits = tt
advertises_use facts channel octets (Some on) is on_channel fits =
    let other = advertisement_other on.params octets in
    pdu_use facts (Advertises channel) channel (advertisement on.params octets) is fits on_channel other.ch_sel other.other

responds_use : (facts : Facts) (channel : ℕ) (octets : List ℕ) (on : Option AdvertiserFacts) → facts.turn.doing ≡ Responds channel → IsAdvertisingChannel channel
    → SomePdu (option_map (λ on. ScanRsp on.params.own (record { items = octets })) on)
    → IsUseSent facts (sends_pdu channel (option_map (λ on. ScanRsp on.params.own (record { items = octets })) on))
responds_use facts channel octets None is on_channel fits = tt
responds_use facts channel octets (Some on) is on_channel fits =
    pdu_use facts (Responds channel) channel (ScanRsp on.params.own (record { items = octets })) is fits on_channel tt refl

requests_use : (facts : Facts) (channel : ℕ) (advertiser : Address) (on : Option ScannerFacts) → facts.turn.doing ≡ Requests channel advertiser → IsAdvertisingChannel channel
    → SomePdu (option_map (λ on. ScanReq on.params.own advertiser) on)
    → IsUseSent facts (sends_pdu channel (option_map (λ on. ScanReq on.params.own advertiser) on))
requests_use facts channel advertiser None is on_channel fits = tt
requests_use facts channel advertiser (Some on) is on_channel fits =
    pdu_use facts (Requests channel advertiser) channel (ScanReq on.params.own advertiser) is fits on_channel tt refl

-- ---- what is done next

sending_is : (slot handle : ℕ) (links : Links) (link : OpenLink) → link_at handle links ≡ Some link
    → link_at handle (with_change handle (link_after (PacketSent slot)) links) ≡ Some (link_after (PacketSent slot) link)
sending_is slot handle links link at =
    let change = link_after (PacketSent slot) in
    changed_is (option_map change) 0 handle links refl ∙ ap (option_map change) at

central_use : (facts : Facts) (handle : ℕ) (found : Option OpenLink) → link_at handle facts.links ≡ found → IsUseSent (facts_doing (CentralSends handle) facts) (sends_on found)
central_use facts handle None at = tt
central_use facts handle (Some link) at =
    inr (record { handle = handle; sends = refl; link = link; is_open = sending_is facts.turn.slot handle facts.links link at; packet = refl; channel_is = refl })

peripheral_use : (facts : Facts) (handle : ℕ) (found : Option OpenLink) → link_at handle facts.links ≡ found → IsUseSent (facts_doing (PeripheralSends handle) facts) (sends_on found)
peripheral_use facts handle None at = tt
peripheral_use facts handle (Some link) at =
    inr (record { handle = handle; sends = refl; link = link; is_open = sending_is facts.turn.slot handle facts.links link at; packet = refl; channel_is = refl })

listens_use : (facts : Facts) (found : Option OpenLink) → IsUseSent facts (listens_on found)
listens_use facts None = tt
listens_use facts (Some link) = tt

use_sent : (doing : Doing) (facts : Facts) → AdvertisingFits facts.advertising → ScannerFits facts.scanning.on → DoingFits doing
    → IsUseSent (facts_doing doing facts) (use_for facts doing)
use_sent (Advertises channel) facts advertising scanner fits =
    advertises_use (facts_doing (Advertises channel) facts) channel facts.advertising.data_octets facts.advertising.on refl fits
    (advertisement_is facts.advertising facts.advertising.on advertising advertising.on_fits)
use_sent (AwaitsRequest channel) facts advertising scanner fits = tt
use_sent (Responds channel) facts advertising scanner fits =
    responds_use (facts_doing (Responds channel) facts) channel facts.advertising.response_octets facts.advertising.on refl fits
    (response_is facts.advertising facts.advertising.on advertising advertising.on_fits)
use_sent (Scans channel) facts advertising scanner fits = tt
use_sent (Requests channel advertiser) facts advertising scanner fits =
    requests_use (facts_doing (Requests channel advertiser) facts) channel advertiser facts.scanning.on refl fits.0 (request_is advertiser facts.scanning.on fits.1 scanner)
use_sent (AwaitsResponse channel) facts advertising scanner fits = tt
use_sent (Initiates channel) facts advertising scanner fits = tt
use_sent (Connects channel link) facts advertising scanner fits =
    pdu_use (facts_doing (Connects channel link) facts) (Connects channel link) channel (Connect link.own link.peer true link.fields) refl fits.1 fits.0 refl refl
use_sent (CentralSends handle) facts advertising scanner fits = central_use facts handle (link_at handle facts.links) refl
use_sent (CentralListens handle) facts advertising scanner fits = listens_use _ (link_at handle facts.links)
use_sent (PeripheralListens handle) facts advertising scanner fits = listens_use _ (link_at handle facts.links)
use_sent (PeripheralSends handle) facts advertising scanner fits = peripheral_use facts handle (link_at handle facts.links) refl
use_sent Rests facts advertising scanner fits = tt

doing_sent : (doing : Doing) (facts : Facts) → SendsWell (facts_doing doing facts) → IsUseSent (facts_doing doing facts) (facts_doing doing facts).wanted
doing_sent doing facts well = use_sent doing facts well.can.advertising well.can.scanner well.does

-- ---- at any time in a turn

abbrev IsIdle : Stage → Use → Type 0
IsIdle Between wanted = wanted ≡ Idle
IsIdle (Within phases) wanted = ⊤

record SendsAt (stage : Stage) (begun : ℕ) (facts : Facts) : Type 0 where
  idle : IsIdle stage facts.wanted
  sent : SendsWell facts → IsUseSent facts facts.wanted

idle_sent : (facts : Facts) (wanted : Use) → wanted ≡ Idle → IsUseSent facts wanted
idle_sent facts (Sends channel octets) is = absurd cc
idle_sent facts (Listens channel) is = tt
idle_sent facts Idle is = tt

phase_sent : (setup : Setup) (facts : Facts) (received : Option (List ℕ)) → SendsWell (facts_after setup facts (step_of received))
    → IsUseSent (facts_after setup facts (step_of received)) (facts_after setup facts (step_of received)).wanted
phase_sent setup facts None well = doing_sent (unheard facts.turn.doing facts).next (unheard facts.turn.doing facts).facts well
phase_sent setup facts (Some octets) well = doing_sent (heard setup facts.turn.doing octets facts).next (heard setup facts.turn.doing octets facts).facts well

sends_kept : (setup : Setup) → IsTurned setup SendsAt
sends_kept setup = record {
  feeds = λ begun octet facts at.
      let idle = (octet_turn setup facts octet).wanted ∙ at.idle in
      record { idle = idle; sent = λ well. idle_sent (facts_after setup facts (HostOctet octet)) _ idle };
  begins = λ begun on facts at.
      record { idle = tt; sent = λ well. doing_sent (outcome_begun begun on facts).next (outcome_begun begun on facts).facts well };
  passes = λ phases begun received facts at. record { idle = tt; sent = λ well. phase_sent setup facts received well };
  ends = λ begun facts at. record { idle = refl; sent = λ well. tt };
}

pub use_is_sent : (setup : Setup) (past : List Step) (at : Standing) → length setup.public ≡ 6 → standing past ≡ Some at
    → IsUseSent (facts_of setup past) (facts_of setup past).wanted
use_is_sent setup past at six stands =
    (turned setup SendsAt (sends_kept setup) past at (record { idle = refl; sent = λ well. tt }) stands).sent (sends_well setup six past)
