-- The buffers of a host take a payload of the least length at any time.
use Rattle.std.proofs.Common.{◌≡◌, ℕ, ◌≤◌, List, refl, subst, sym, arith}
use Rattle.hci_cmd.specs.declared.command.Command.{Command}
use Rattle.hci_cmd.specs.declared.command.Command.TheVariants.{HostBufferSize, HostCompleted, Reset}
use Rattle.host_view.specs.View.{View}
use Rattle.host_view.specs.Changes.{view_after}
use Rattle.host_view.specs.Flow.{most_received}
use Rattle.host_view.specs.Status.{status_of}
use Rattle.host_view.proofs.TakenCommands.{takes_buffers}
use Rattle.controller_model.specs.Facts.{Setup, Facts}
use Rattle.controller_model.specs.Heard.{link_taken}
use Rattle.controller_model.specs.Side.{facts_after, facts_of}
use Rattle.controller_model.specs.Step.{Step}
use Rattle.controller_model.proofs.Accepted.{same_after_counts}
use Rattle.controller_model.proofs.Always.{IsKept, always, holds_step, opening_passes}
use Rattle.controller_model.proofs.Following.{receiving_passes}

abbrev pub TakesLeast : Facts → Type 0
TakesLeast facts = 27 ≤ facts.view.flow.acl_length

-- so a link that is opened then receives payloads of this length, and none that is longer than there are
pub most_in_range : (view : View) → 27 ≤ view.flow.acl_length → (27 ≤ most_received view) × (most_received view ≤ 251)
most_in_range view least = (omega (arith, least), omega arith)

length_after : (view : View) (command : Command) → status_of view command ≡ 0 → 27 ≤ view.flow.acl_length
    → 27 ≤ (view_after view command).flow.acl_length
unfolding view_after
length_after view Reset accepted takes = omega arith
length_after view (HostBufferSize acl_length sco_length acl_count sco_count) accepted takes =
    (takes_buffers view acl_length sco_length acl_count sco_count accepted).0
length_after view (HostCompleted counts) accepted takes =
    subst (λ (n : ℕ). 27 ≤ n) (sym (same_after_counts (λ (of : View). of.flow.acl_length) view counts refl)) takes
length_after view other accepted takes = takes

least_kept : (setup : Setup) → IsKept setup TakesLeast TakesLeast
least_kept setup = record {
  accepted = λ facts opcode octets command is accepted takes. length_after facts.view command accepted takes;
  asked = λ facts command asks takes left. left;
  given = λ facts handle count start octets is takes. takes;
  octet = λ facts octet takes. takes;
  turns = record {
    starts = record {
      weakens = λ facts takes. takes;
      ends = λ reason facts takes. takes;
      begins = λ slot facts takes. takes;
      enters = λ slot facts takes. takes;
      wins = λ slot activity facts takes. takes;
      fixes = λ doing facts takes. takes;
      does = λ doing facts may takes. takes;
    };
    reports = λ facts takes. takes;
    words = λ handle facts listens takes. takes;
    passes = λ facts takes. record {
      rests = takes;
      awaits_request = λ channel doing. takes;
      awaits_response = λ channel advertiser doing. takes;
      central_listens = λ handle doing. takes;
      sent = λ channel link doing. opening_passes TakesLeast link facts takes;
      responds = λ channel on doing is_on. takes;
      taken = λ channel octets pdu on fields handle is_on hears takes_it free.
          opening_passes TakesLeast (link_taken facts.view on.params.own pdu fields handle) facts takes;
      scanned = λ channel octets pdu on doing is_on hears. takes;
      answered = λ channel octets pdu on doing is_on hears. takes;
      connects = λ channel octets pdu on access handle doing is_on hears answers next free in_range. takes;
      received = λ handle octets. receiving_passes TakesLeast setup handle octets facts takes;
    };
  };
}

pub least_step : (setup : Setup) (facts : Facts) (step : Step) → TakesLeast facts → TakesLeast (facts_after setup facts step)
least_step setup facts step takes = holds_step setup TakesLeast TakesLeast (least_kept setup) facts step takes

pub takes_least : (setup : Setup) (past : List Step) → 27 ≤ (facts_of setup past).view.flow.acl_length
takes_least setup past = always setup TakesLeast TakesLeast (least_kept setup) (omega arith) past
