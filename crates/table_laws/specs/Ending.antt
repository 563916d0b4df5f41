-- The last PDUs of an end whose host disconnects (Core 5.2, volume 6 part B, section 5.1.6): rejections of procedures
-- of the peer, then LL_TERMINATE_IND (our choice).
use Rattle.std.specs.Prelude.{List, [], ◌∷◌, ◌++◌, map}
use Rattle.procedures.specs.procedure_values.declared.drafts.Outgoing.{Outgoing}
use Rattle.procedures.specs.procedure_values.declared.drafts.Outgoing.TheVariants.{Rejection, Disconnect}
use Rattle.procedures.specs.procedure_stages.Queue.{QueueFacts, disconnect_in_order}
use Rattle.procedures.specs.Table.{TableFacts}
use Rattle.procedures.specs.Calls.{Call, after_call, sent_by}

-- those that wait, in the order of sending
abbrev pub last_waiting : QueueFacts → List Outgoing
last_waiting queue = map (λ rejection. Rejection rejection) queue.rejections ++ disconnect_in_order queue.disconnect

-- what is sent, where it is one of those
abbrev pub if_last : Outgoing → List Outgoing
if_last (Rejection rejection) = Rejection rejection ∷ []
if_last (Disconnect code) = Disconnect code ∷ []
if_last other = []

-- those that calls send, one after another
abbrev pub last_sent : TableFacts → List Call → List Outgoing
last_sent f [] = []
last_sent f (call ∷ calls) = if_last (sent_by f call) ++ last_sent (after_call f call) calls
