-- Proof of `laws::each_command_is_one_call`.
use Rattle.std.proofs.Common.{refl}
use Rattle.hci_cmd.specs.declared.command.Command.TheVariants.{Disconnect, LeEnableEncryption, LeKeyNegative, LeKeyReply, LeParamNegative, LeParamReply, LeSetDataLength, LeSetPhy}
use Rattle.link_commands.proofs.OpenLinkCalls.{features_asked, map_asked, one_change, update_asked, version_asked}
use Rattle.link_commands.proofs.laws.each_command_is_one_call.Goals as goal

pub returns-clause-disconnect : goal.returns-clause-disconnect
returns-clause-disconnect c = λ handle reason moment links. one_change (Disconnect handle reason) moment handle (λ h. refl) links

pub returns-clause-version : goal.returns-clause-version
returns-clause-version c = version_asked

pub returns-clause-features : goal.returns-clause-features
returns-clause-features c = features_asked

pub returns-clause-length : goal.returns-clause-length
returns-clause-length c = λ handle octets time moment links. one_change (LeSetDataLength handle octets time) moment handle (λ h. refl) links

pub returns-clause-update : goal.returns-clause-update
returns-clause-update c = update_asked

pub returns-clause-phy : goal.returns-clause-phy
returns-clause-phy c = λ handle all tx rx options moment links. one_change (LeSetPhy handle all tx rx options) moment handle (λ h. refl) links

pub returns-clause-map : goal.returns-clause-map
returns-clause-map c = map_asked

pub returns-clause-granted : goal.returns-clause-granted
returns-clause-granted c =
    λ handle min max latency timeout moment lengths links. one_change (LeParamReply handle min max latency timeout lengths) moment handle (λ h. refl) links

pub returns-clause-refused : goal.returns-clause-refused
returns-clause-refused c = λ handle reason moment links. one_change (LeParamNegative handle reason) moment handle (λ h. refl) links

pub returns-clause-encrypted : goal.returns-clause-encrypted
returns-clause-encrypted c =
    λ handle rand ediv key moment links. one_change (LeEnableEncryption handle rand ediv key) moment handle (λ h. refl) links

pub returns-clause-keyed : goal.returns-clause-keyed
returns-clause-keyed c = λ handle key moment links. one_change (LeKeyReply handle key) moment handle (λ h. refl) links

pub returns-clause-keyless : goal.returns-clause-keyless
returns-clause-keyless c = λ handle moment links. one_change (LeKeyNegative handle) moment handle (λ h. refl) links
