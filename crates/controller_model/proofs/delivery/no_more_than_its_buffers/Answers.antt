-- Proof of `delivery::no_more_than_its_buffers`.
use Rattle.controller_model.proofs.Buffers.{fits_buffers, fits_pieces}
use Rattle.controller_model.proofs.delivery.no_more_than_its_buffers.Goals as goal

pub returns-clause-host : goal.returns-clause-host
returns-clause-host c = fits_buffers

pub returns-clause-air : goal.returns-clause-air
returns-clause-air c = fits_pieces
