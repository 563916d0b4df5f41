-- Proof of `views::steps_keep_what_is_known`.
use Rattle.std.proofs.Common.{refl}
use Rattle.link_commands.specs.open_links.link_model.End.{facts_of}
use Rattle.host_asks.proofs.EndsViewed.{key_lacked_at_once, none_reported, packet_known, request_refused_at_once, request_reported, step_known}
use Rattle.host_asks.proofs.views.steps_keep_what_is_known.Goals as goal

pub returns-clause-step : goal.returns-clause-step
returns-clause-step c = λ view setup past step. step_known view setup (facts_of setup past) step (record { past = past; is = refl })

pub returns-clause-packet : goal.returns-clause-packet
returns-clause-packet c = packet_known

pub returns-clause-request : goal.returns-clause-request
returns-clause-request c = request_reported

pub returns-clause-none : goal.returns-clause-none
returns-clause-none c = none_reported

pub returns-clause-refused : goal.returns-clause-refused
returns-clause-refused c = request_refused_at_once

pub returns-clause-keyless : goal.returns-clause-keyless
returns-clause-keyless c = key_lacked_at_once
