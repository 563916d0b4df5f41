-- Each of these states breaks a law.
use Rattle.std.proofs.Common.{◌≡◌, false, refl, ap, arith}
use Rattle.instants.specs.Track.{is_free}
use Rattle.two_tracks.specs.Reached.{untaken}
use Rattle.two_tracks.proofs.Read.{all_taken, peripheral_free, peripheral_on_time}
use Rattle.two_tracks.proofs.rows.no_run_comes_to_these.Goals as goal

pub returns-clause-another_event : goal.returns-clause-another_event
returns-clause-another_event c first slot s last seven eight may reached =
    omega (
      arith,
      seven,
      eight,
      all_taken first slot s reached (record {
        central = may.central_open;
        peripheral = may.peripheral_open;
      }) (ap untaken last),
    )

pub returns-clause-two_indications : goal.returns-clause-two_indications
returns-clause-two_indications c first slot s one other on_air waits are_open reached =
    let free = peripheral_free first slot s one reached are_open on_air in
    let is_not : is_free s.peripheral ≡ false = rw waits refl in
    absurd (cc)

pub returns-clause-missed_anchor : goal.returns-clause-missed_anchor
returns-clause-missed_anchor c first slot s is_open next turns reached =
    omega (arith, next, turns, peripheral_on_time first slot s reached is_open)
