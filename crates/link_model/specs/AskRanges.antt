-- What a host asks for and answers with is in its range (Core 5.2, volume 6 part B, section 5.1).
use Rattle.std.specs.Prelude.{List, Ok, ⊤}
use Rattle.std.specs.List.{AllByRecursion}
use Rattle.phased_end.specs.control_end.procedure_values.Wants.{IsAsk}
use Rattle.link_model.specs.Step.{Step, ProcedureAsked, RequestAnswered}

abbrev pub IsAskInRange : Step → Type 0
IsAskInRange (ProcedureAsked ask) = IsAsk ask
IsAskInRange (RequestAnswered (Ok ask)) = IsAsk ask
IsAskInRange other = ⊤

abbrev pub AreAsksInRange : List Step → Type 0
AreAsksInRange past = AllByRecursion IsAskInRange past
