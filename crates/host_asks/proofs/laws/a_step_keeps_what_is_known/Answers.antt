-- Proof of `laws::a_step_keeps_what_is_known`.
use Rattle.std.proofs.Common.{refl}
use Rattle.link_commands.specs.open_links.link_model.End.{facts_of}
use Rattle.host_asks.proofs.Ends.{step_knows}
use Rattle.host_asks.proofs.laws.a_step_keeps_what_is_known.Goals as goal

pub returns : goal.returns
returns c = λ setup past step link. step_knows setup step link (facts_of setup past) (record { past = past; is = refl })
