-- What the view of a host knows of one end of a link: which procedures the host asked for that are neither done nor
-- refused, whether the host ended the link, and whether a request of the peer waits for the host (Core 5.2, volume 6
-- part B, sections 5.1, 5.1.6 and 5.1.7; that the view keeps these is our choice).
use Rattle.std.specs.Prelude.{◌≡◌, ℕ, ◌+◌, true, false, is_some}
use Rattle.ble_base.specs.declared.procedure_kinds.Kind.{Kind}
use Rattle.ble_base.specs.declared.procedure_kinds.Kind.TheVariants.{Map}
use Rattle.link_commands.specs.open_links.procedure_values.Asks.{is_same_kind}
use Rattle.link_commands.specs.open_links.procedure_values.Wants.{count_of}
use Rattle.procedure_events.specs.procedure_stages.Closing.{is_disconnecting, is_open}
use Rattle.procedure_events.specs.procedure_stages.InProgress.{is_host_asked}
use Rattle.procedure_events.specs.procedure_stages.Kinds.{is_kind, own_kind, role_of}
use Rattle.procedure_events.specs.procedures.Table.{TableFacts}
use Rattle.link_commands.specs.open_links.link_model.Facts.{Facts}
use Rattle.host_view.specs.declared.links.Link.{Link}
use Rattle.host_view.specs.Links.{is_asked}
use Rattle.host_view.specs.Refusals.{count_if}

-- how many procedures of a kind this end wants or runs
abbrev pub own_count : Kind → TableFacts → ℕ
own_count kind table = count_of kind table.wanted + count_if (is_kind (own_kind table.progress) kind)

-- the view of a link and the table of an end agree
pub record KnowsTable (link : Link) (table : TableFacts) : Type 0 where
  pub role : role_of table.progress ≡ link.role
  -- the end has one procedure of a kind where the view says that the host asked for it, and else none. A map is set for
  -- all links at once, and the view does not keep it
  pub asked :
      (kind : Kind) → is_same_kind kind Map ≡ false → own_count kind table ≡ count_if (is_asked kind link.asked)
  -- once the host ended the link no procedure begins
  pub closes : link.disconnecting ≡ true → is_open table.closing ≡ false
  pub disconnects : is_disconnecting table.closing ≡ true → link.disconnecting ≡ true
  -- where the end waits for the host, the host may answer
  pub parameters : is_host_asked table.progress ≡ true → link.waits_for_parameters ≡ true

-- where the procedures saw LL_VERSION_IND of the peer, the end knows its version
abbrev pub KnowsVersion : Facts → Type 0
KnowsVersion facts = facts.encryption.knows_version ≡ true → is_some facts.peer.version ≡ true

-- the view of a link knows this end of it
pub record KnowsAsks (link : Link) (facts : Facts) : Type 0 where
  pub table : KnowsTable link facts.control.table
  -- where the host ended the link the end is to end it; one without a key may be to end it before its host asks for that
  pub disconnecting : link.disconnecting ≡ true → is_some facts.leaving.disconnected ≡ true
  -- what its host asks of the version of its peer goes by whether that is known
  pub version : KnowsVersion facts
