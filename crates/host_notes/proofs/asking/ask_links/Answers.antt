-- Proof of `asking::ask_links`.
use Rattle.std.proofs.Common.{refl}
use Rattle.hci_cmd.specs.declared.command.Command.TheVariants.{LeEnableEncryption, LeKeyNegative, LeKeyReply}
use Rattle.controller_model.proofs.link_commands.OpenLinkCalls.{one_change}
use Rattle.host_notes.proofs.AskedLinks.{knows_by}
use Rattle.host_notes.proofs.asking.ask_links.Goals as goal

pub returns-in-LeEnableEncryption-clause-knows : goal.returns-in-LeEnableEncryption-clause-knows
returns-in-LeEnableEncryption-clause-knows g c = λ known received k.
    let of = c.in-LeEnableEncryption in
    let command = LeEnableEncryption of.handle of.rand of.ediv of.key in
    knows_by _ c.args.moment known received _ command _ of.is (one_change command c.args.moment of.handle (λ h. refl) known)
    (c.ask_encryption.ensures.knows known received k)

pub returns-in-LeKeyReply-clause-knows : goal.returns-in-LeKeyReply-clause-knows
returns-in-LeKeyReply-clause-knows g c = λ known received k.
    let of = c.in-LeKeyReply in
    let command = LeKeyReply of.handle of.key in
    knows_by _ c.args.moment known received _ command _ of.is (one_change command c.args.moment of.handle (λ h. refl) known)
    (c.give_key.ensures.knows known received k)

pub returns-in-LeKeyNegative-clause-knows : goal.returns-in-LeKeyNegative-clause-knows
returns-in-LeKeyNegative-clause-knows g c = λ known received k.
    let command = LeKeyNegative c.in-LeKeyNegative.handle in
    knows_by _ c.args.moment known received _ command _ c.in-LeKeyNegative.is
    (one_change command c.args.moment c.in-LeKeyNegative.handle (λ h. refl) known) (c.key.ensures.knows known received k)
