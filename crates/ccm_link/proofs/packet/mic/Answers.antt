-- The proof of `mic`.
use Rattle.std.proofs.Common.{rules, sym, ◌∙◌}
use Rattle.ccm_link.specs.Ccm.{xor_of, mic}
use Rattle.ccm_link.proofs.BlockOctets.{elements}
use Rattle.ccm_link.proofs.packet.mic.Goals as goal

pub returns : goal.returns
unfolding mic
returns c =
    let authentication_field = sym (elements c.authentication_field.result 4 (search rules)) ∙ c.authentication_field.ensures in
    let key = sym (elements c.key_block-key.result 16 (search rules)) ∙ c.key_block-key.ensures in
    λ i. xor_of (authentication_field i) (key i)
