-- Proof of `journals::Journal::read`.
use Rattle.std.proofs.Common.{◌≡◌, ◌+◌, ap, arith, inl, length, ◌∙◌}
use Rattle.journal.specs.declared.faults.JournalFault.TheVariants.{BadLine}
use Rattle.journal.proofs.Divisions.{bad_after, counted, found_after, none_when_read, not_whole, read_more, read_none, same_when_read, whole_when_read}
use Rattle.journal.proofs.journals.Journal.read.Goals as goal

pub returns-in_default-clause-read : goal.returns-in_default-clause-read
returns-in_default-clause-read c = λ entries lines.
    absurd (not_whole c.args.octets.now c.loop-rest.journal c.loop-rest.rest.now c.loop-rest.invariant.read
    c.loop-rest-test.ensures (rw c.in_default.is at c.in_ok-entry.ensures) entries lines)

pub returns-in_default-clause-found : goal.returns-in_default-clause-found
returns-in_default-clause-found c = λ n found.
    inl (ap BadLine (ap (λ k. k + 1) c.len.ensures
    ∙ found_after c.args.octets.now c.loop-rest.journal c.loop-rest.rest.now c.loop-rest.invariant.read
    (rw c.in_default.is at c.in_ok-entry.ensures) n found))

pub loop-rest-preserved : goal.loop-rest-preserved
loop-rest-preserved c =
    let read = rw c.in-Some.is at c.in_ok-entry.ensures in
    let added = c.in_ok-push.ensures.ok in
    record {
      read =
          rw added
          (read_more c.args.octets.now c.loop-rest.journal c.loop-rest.rest.now c.in-Some.entry c.in-Some.later.now
          c.loop-rest.invariant.read read.0 read.1);
      size =
          rw added
          (counted c.loop-rest.journal c.loop-rest.rest.now c.in-Some.entry c.in-Some.later.now (length c.args.octets.now)
          c.loop-rest.invariant.size read.1);
    }

pub returns-clause-read : goal.returns-clause-read
returns-clause-read c =
    same_when_read c.args.octets.now c.loop-rest.journal c.loop-rest.rest.now c.loop-rest.invariant.read c.loop-rest-test.ensures

pub returns-clause-ok : goal.returns-clause-ok
returns-clause-ok c =
    whole_when_read c.args.octets.now c.loop-rest.journal c.loop-rest.rest.now c.loop-rest.invariant.read c.loop-rest-test.ensures

pub returns-clause-found : goal.returns-clause-found
returns-clause-found c =
    none_when_read c.args.octets.now c.loop-rest.journal c.loop-rest.rest.now c.loop-rest.invariant.read c.loop-rest-test.ensures

pub returns-in_default-clause-bad_line : goal.returns-in_default-clause-bad_line
returns-in_default-clause-bad_line c = λ n is.
    let number : n ≡ c.len.result + 1 = cc is in
    bad_after c.args.octets.now c.loop-rest.journal c.loop-rest.rest.now c.loop-rest.invariant.read
    c.loop-rest-test.ensures (rw c.in_default.is at c.in_ok-entry.ensures) n
    (number ∙ ap (λ k. k + 1) c.len.ensures)

pub loop-rest-init : goal.loop-rest-init
loop-rest-init c =
    record {
      read = rw c.new-journal.ensures (read_none c.args.octets.now);
      size = rw c.new-journal.ensures (omega arith);
    }
