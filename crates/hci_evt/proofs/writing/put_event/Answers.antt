-- The proof of `put_event`.
use Rattle.hci_evt.specs.Event.{parameters_of}
use Rattle.hci_evt.proofs.Packet.{with_length}
use Rattle.hci_evt.proofs.writing.put_event.Goals as goal

pub returns-clause-items : goal.returns-clause-items
returns-clause-items c =
    with_length _ (parameters_of c.args.event.now) _ _ _ _ _ _ c.requires c.put_u8.ensures.items (rw c.code.ensures at c.put_u8-2.ensures.items) c.put_u8-3.ensures.items
    c.put_parameters.ensures.items c.put_parameters.ensures.few c.set_length.ensures
