-- Proof of `laws::an_answer_keeps_what_is_known`.
use Rattle.std.proofs.Common.{refl}
use Rattle.link_commands.specs.open_links.link_model.End.{facts_of}
use Rattle.host_asks.proofs.Accepting.{refused_knows, withheld_knows}
use Rattle.host_asks.proofs.Ends.{key_knows}
use Rattle.host_asks.proofs.laws.an_answer_keeps_what_is_known.Goals as goal

pub returns-clause-refused : goal.returns-clause-refused
returns-clause-refused c = refused_knows

pub returns-clause-keyed : goal.returns-clause-keyed
returns-clause-keyed c = λ link facts key slot. key_knows key slot link facts

pub returns-clause-withheld : goal.returns-clause-withheld
returns-clause-withheld c = λ setup past step link code. withheld_knows setup step link (facts_of setup past) code (record { past = past; is = refl })
