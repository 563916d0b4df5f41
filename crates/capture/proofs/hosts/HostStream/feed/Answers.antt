-- Proof of `hosts::HostStream::feed`.
use Rattle.std.proofs.Common.{refl, ◌∙◌}
use Rattle.capture.proofs.HostSteps.{host_ends, host_keeps, host_loses, keeps_octet, loses_sync}
use Rattle.capture.proofs.hosts.HostStream.feed.Goals as goal

pub returns-in_ok-keep-in-More-clause-packet : goal.returns-in_ok-keep-in-More-clause-packet
returns-in_ok-keep-in-More-clause-packet c = λ past knows.
    (keeps_octet past c.args.octet (c.in-More.ensures.frames past knows.framer)).packet

pub returns-in_ok-keep-in-More-clause-knows : goal.returns-in_ok-keep-in-More-clause-knows
returns-in_ok-keep-in-More-clause-knows c = λ past knows.
    (host_keeps c.args.self.now c.keep.new.self past c.args.octet knows (c.in-More.ensures.frames past knows.framer)
    (c.keep.ensures.framer ∙ c.in-More.ensures.framer_after past knows.framer) c.in_ok-keep-in-More.ensures.front
    c.keep.ensures.lost).knows

pub returns-in-LostSync-clause-packet : goal.returns-in-LostSync-clause-packet
returns-in-LostSync-clause-packet c = λ past knows.
    (loses_sync past c.args.octet (c.in-LostSync.ensures.frames past knows.framer)).packet

pub returns-in-LostSync-clause-knows : goal.returns-in-LostSync-clause-knows
returns-in-LostSync-clause-knows c = λ past knows.
    (host_loses c.args.self.now _ past c.args.octet knows (c.in-LostSync.ensures.frames past knows.framer)
    (c.in-LostSync.ensures.framer_after past knows.framer) refl refl).knows

pub returns-in_ok-end-in-Packet-clause-packet : goal.returns-in_ok-end-in-Packet-clause-packet
returns-in_ok-end-in-Packet-clause-packet c = λ past knows.
    (host_ends c.args.self.now c.end.new.self past c.args.octet _ _ knows (c.in-Packet.ensures.frames past knows.framer)
    (c.end.ensures.framer ∙ c.in-Packet.ensures.framer_after past knows.framer) c.in_ok-end-in-Packet.ensures.front
    c.in_ok-end-in-Packet.ensures.lost c.in_ok-end-in-Packet.ensures.packet).packet

pub returns-in_ok-end-in-Packet-clause-knows : goal.returns-in_ok-end-in-Packet-clause-knows
returns-in_ok-end-in-Packet-clause-knows c = λ past knows.
    (host_ends c.args.self.now c.end.new.self past c.args.octet _ _ knows (c.in-Packet.ensures.frames past knows.framer)
    (c.end.ensures.framer ∙ c.in-Packet.ensures.framer_after past knows.framer) c.in_ok-end-in-Packet.ensures.front
    c.in_ok-end-in-Packet.ensures.lost c.in_ok-end-in-Packet.ensures.packet).knows
