-- Proof of `hosts::HostStream::new`.
use Rattle.std.proofs.Common.{refl}
use Rattle.capture.proofs.HostSteps.{new_host}
use Rattle.capture.proofs.hosts.HostStream.new.Goals as goal

pub returns : goal.returns
returns c = new_host _ c.new-framer.ensures c.new-front.ensures.items refl
