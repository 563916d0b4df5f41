-- What a host asks, and which of it begins (Core 5.2, volume 6 part B, section 5.1; the order is our choice).
use Rattle.std.specs.Prelude.{◌||◌, Bool, not, ◌&&◌, is_none, ℕ, position, Option, Some, None, true, false, List, remove, slice_get}
use Rattle.ble_base.specs.declared.procedure_kinds.Kind.{Kind}
use Rattle.procedure_stages.specs.procedure_values.declared.asks.Ask.{Ask}
use Rattle.procedure_stages.specs.procedure_values.declared.asks.Ask.TheVariants.{Version}
use Rattle.procedure_stages.specs.procedure_values.declared.drafts.Draft.{Draft}
use Rattle.procedure_stages.specs.Kinds.{own_kind, is_kind, role_of}
use Rattle.procedure_stages.specs.procedure_values.Asks.{kind_of_ask}
use Rattle.procedure_stages.specs.procedure_values.Wants.{is_wanted, wanted_with}
use Rattle.procedure_stages.specs.procedure_values.Limits.{lengths_asked}
use Rattle.procedure_stages.specs.Begun.{draft_begun, may_begin_now, progress_begun}
use Rattle.procedure_stages.specs.declared.closing.Closing.{Closing}
use Rattle.procedures.specs.Table.{TableFacts}
use Rattle.procedure_stages.specs.Closing.{is_open}
use Rattle.procedure_stages.specs.Queue.{QueueFacts, with_draft}
use Rattle.procedures.specs.Taking.{since_after}

-- ---- what the host wants

-- a kind may be asked for where it is neither wanted nor running
abbrev pub may_ask_of : TableFacts → Kind → Bool
may_ask_of f kind = not (is_wanted kind f.wanted || is_kind (own_kind f.progress) kind)

abbrev pub ask_step : TableFacts → Ask → TableFacts
ask_step f ask = record f { wanted = wanted_with ask f.wanted; lengths = lengths_asked ask f.lengths }

-- ---- which of it may begin

-- an end may begin something: it runs nothing of its own, the phase is Clear or Secure, and the link is not to end
abbrev pub is_ready : TableFacts → Bool → Bool
is_ready f quiet = is_none (own_kind f.progress) && quiet && is_open f.closing

-- a kind that is wanted may begin, at the end whose role begins it
abbrev pub may_begin : TableFacts → Bool → Kind → Bool
may_begin f quiet kind = may_begin_now (is_ready f quiet) f.progress kind

-- the place of the first wanted that may begin: one that may not does not hold back those after it
abbrev pub place_to_begin : TableFacts → Bool → Option ℕ
place_to_begin f quiet = position (λ ask. may_begin f quiet (kind_of_ask ask)) f.wanted

-- ---- how it begins

-- its first PDU
abbrev pub first_draft : TableFacts → Ask → Option Draft
first_draft f ask = draft_begun (role_of f.progress) f.version_used f.lengths ask

abbrev pub with_first_draft : Closing → Option Draft → QueueFacts → QueueFacts
with_first_draft closing None queue = queue
with_first_draft closing (Some draft) queue = with_draft closing draft queue

abbrev pub is_version : Ask → Bool
is_version Version = true
is_version other = false

-- the peer's time to answer an exchange of versions that begins without a PDU runs from here
abbrev pub facts_begun : TableFacts → ℕ → Ask → List Ask → TableFacts
facts_begun f slot ask wanted =
    record f {
      progress = progress_begun ask f.version_used f.progress;
      wanted = wanted;
      queue = with_first_draft f.closing (first_draft f ask) f.queue;
      version_used = f.version_used || is_version ask;
      since = since_after (is_version ask && f.version_used) slot None;
    }

abbrev pub begin_at : TableFacts → ℕ → Option ℕ → Option Ask → TableFacts × Option Kind
begin_at f slot (Some place) (Some ask) = (facts_begun f slot ask (remove f.wanted place), Some (kind_of_ask ask))
begin_at f slot place ask = (f, None)

abbrev pub ask_at : Option ℕ → List Ask → Option Ask
ask_at None wanted = None
ask_at (Some place) wanted = slice_get wanted place

abbrev pub begin_step : TableFacts → ℕ → Bool → TableFacts × Option Kind
begin_step f slot quiet =
    begin_at f slot (place_to_begin f quiet) (ask_at (place_to_begin f quiet) f.wanted)
