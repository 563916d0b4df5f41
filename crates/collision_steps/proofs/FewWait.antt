-- Few PDUs of the procedures that exclude each other wait at a table in a joint run.
use Rattle.std.proofs.Common.{◌≡◌, ◌+◌, ◌≤◌, List, length, arith, ap}
use Rattle.procedure_stages.specs.declared.stages.Central.{Central}
use Rattle.procedure_stages.specs.declared.stages.Peripheral.{Peripheral}
use Rattle.procedure_stages.specs.declared.stages.Progress.TheVariants.{Central as central, Peripheral as peripheral}
use Rattle.procedures.specs.Table.{TableFacts}
use Rattle.machines.specs.Machine.{run}
use Rattle.collisions.specs.declared.central.Central.{Central as JointCentral}
use Rattle.collisions.specs.declared.peripheral.Peripheral.{Peripheral as JointPeripheral}
use Rattle.collisions.specs.declared.events.Event.{Event}
use Rattle.collisions.specs.JointRun.{collisions}
use Rattle.collisions.proofs.Collisions.{few_wait}
use Rattle.collision_steps.specs.CentralPart.{central_of}
use Rattle.collision_steps.specs.Parts.{drafts_part, rejections_part}
use Rattle.collision_steps.specs.PeripheralPart.{peripheral_of}
use Rattle.collision_steps.proofs.CentralTaking.{over}
use Rattle.collision_steps.proofs.PeripheralTaking.{over as over_p}

pub few_at_central : (f : TableFacts) (c : Central) (events : List Event) → f.progress ≡ central c → central_of f ≡ (run collisions events).central
    → length (rejections_part f.queue.rejections) + length (drafts_part f.queue.drafts) ≤ 2
few_at_central f c events is =
    over (λ g. central_of g ≡ (run collisions events).central → length (rejections_part g.queue.rejections) + length (drafts_part g.queue.drafts) ≤ 2) f c is
    (λ same.
    let few = few_wait events in
    let r : length (rejections_part f.queue.rejections) ≡ length (run collisions events).central.rejections.items = ap (λ (t : JointCentral). length t.rejections.items) same in
    let d : length (drafts_part f.queue.drafts) ≡ length (run collisions events).central.queue.items = ap (λ (t : JointCentral). length t.queue.items) same in
    let one = few.0 in
    let two = few.1 in
    omega (arith, r, d, one, two))

pub few_at_peripheral : (f : TableFacts) (p : Peripheral) (events : List Event) → f.progress ≡ peripheral p → peripheral_of f ≡ (run collisions events).peripheral
    → length (drafts_part f.queue.drafts) ≤ 2
few_at_peripheral f p events is =
    over_p (λ g. peripheral_of g ≡ (run collisions events).peripheral → length (drafts_part g.queue.drafts) ≤ 2) f p is
    (λ same.
    let few = few_wait events in
    let d : length (drafts_part f.queue.drafts) ≡ length (run collisions events).peripheral.queue.items = ap (λ (t : JointPeripheral). length t.queue.items) same in
    let three = few.2 in
    omega (arith, d, three))
