-- Proof of `asking::ask_procedures`.
use Rattle.std.proofs.Common.{refl, sym, subst}
use Rattle.hci_cmd.specs.declared.command.Command.TheVariants.{Disconnect, LeParamNegative, LeParamReply, LeReadRemoteFeatures, LeSetChannels, LeSetDataLength, LeSetPhy, ReadRemoteVersion}
use Rattle.open_links.specs.Hosts.{links_asked}
use Rattle.open_links.specs.Knowing.{Knows as KnowsLinks}
use Rattle.procedures.specs.procedure_values.declared.asks.Ask.TheVariants.{Length}
use Rattle.controller_model.proofs.link_commands.OpenLinkCalls.{map_asked, one_change}
use Rattle.host_notes.proofs.AskedLinks.{features_asked_if, knows_by, others_leave, version_asked_if}
use Rattle.host_notes.proofs.asking.ask_procedures.Goals as goal

pub returns-in-Disconnect-clause-knows : goal.returns-in-Disconnect-clause-knows
returns-in-Disconnect-clause-knows g c = λ known received k.
    let command = Disconnect c.in-Disconnect.handle c.in-Disconnect.reason in
    knows_by _ c.args.moment known received _ command _ c.in-Disconnect.is (one_change command c.args.moment c.in-Disconnect.handle (λ h. refl) known)
    (c.end.ensures.knows known received k)

pub returns-in-ReadRemoteVersion-clause-knows : goal.returns-in-ReadRemoteVersion-clause-knows
returns-in-ReadRemoteVersion-clause-knows g c = λ known received k.
    let handle = c.in-ReadRemoteVersion.handle in
    knows_by _ c.args.moment known received _ (ReadRemoteVersion handle) _ c.in-ReadRemoteVersion.is (version_asked_if handle c.args.moment known)
    (c.ask_peer.ensures.knows known received k)

pub returns-in-LeReadRemoteFeatures-clause-knows : goal.returns-in-LeReadRemoteFeatures-clause-knows
returns-in-LeReadRemoteFeatures-clause-knows g c = λ known received k.
    let handle = c.in-LeReadRemoteFeatures.handle in
    knows_by _ c.args.moment known received _ (LeReadRemoteFeatures handle) _ c.in-LeReadRemoteFeatures.is (features_asked_if handle c.args.moment known)
    (c.ask_peer-in-LeReadRemoteFeatures.ensures.knows known received k)

pub returns-in-LeSetDataLength-clause-knows : goal.returns-in-LeSetDataLength-clause-knows
returns-in-LeSetDataLength-clause-knows g c = λ known received k.
    let of = c.in-LeSetDataLength in
    let command = LeSetDataLength of.handle of.octets of.time in
    knows_by _ c.args.moment known received _ command _ of.is (one_change command c.args.moment of.handle (λ h. refl) known)
    (subst (λ tx. KnowsLinks c.ask.new.self (links_asked of.handle (Length tx) known) received) c.transmit_maximum-tx.ensures
    (c.ask.ensures.knows known received k))

pub returns-in-LeSetChannels-clause-knows : goal.returns-in-LeSetChannels-clause-knows
returns-in-LeSetChannels-clause-knows g c = λ known received k.
    let map = c.in-LeSetChannels.map in
    knows_by _ c.args.moment known received _ (LeSetChannels map) _ c.in-LeSetChannels.is (map_asked map c.args.moment known)
    (c.ask_map.ensures.knows known received k)

pub returns-in-LeSetPhy-clause-knows : goal.returns-in-LeSetPhy-clause-knows
returns-in-LeSetPhy-clause-knows g c = λ known received k.
    let of = c.in-LeSetPhy in
    let command = LeSetPhy of.handle of.all of.tx of.rx of.options in
    knows_by _ c.args.moment known received _ command _ of.is (one_change command c.args.moment of.handle (λ h. refl) known)
    (c.ask-in-LeSetPhy.ensures.knows known received k)

pub returns-in-LeParamReply-clause-knows : goal.returns-in-LeParamReply-clause-knows
returns-in-LeParamReply-clause-knows g c = λ known received k.
    let of = c.in-LeParamReply in
    let command = LeParamReply of.handle of.min of.max of.latency of.timeout of.lengths in
    knows_by _ c.args.moment known received _ command _ of.is (one_change command c.args.moment of.handle (λ h. refl) known)
    (c.grant.ensures.knows known received k)

pub returns-in-LeParamNegative-clause-knows : goal.returns-in-LeParamNegative-clause-knows
returns-in-LeParamNegative-clause-knows g c = λ known received k.
    let of = c.in-LeParamNegative in
    let command = LeParamNegative of.handle of.reason in
    knows_by _ c.args.moment known received _ command _ of.is (one_change command c.args.moment of.handle (λ h. refl) known)
    (c.refuse.ensures.knows known received k)

pub returns-in_default : goal.returns-in_default
returns-in_default g c =
    let no = c.in_default in
    record {
      knows = λ known received k.
          subst (λ links. KnowsLinks c.args.links.now links received)
          (sym (others_leave c.args.command.now c.args.moment known c.requires.of_none no.not-Disconnect no.not-ReadRemoteVersion no.not-LeReadRemoteFeatures
          no.not-LeSetDataLength no.not-LeConnectionUpdate no.not-LeSetChannels no.not-LeSetPhy no.not-LeParamReply no.not-LeParamNegative)) k;
      counts = (refl, refl);
    }
