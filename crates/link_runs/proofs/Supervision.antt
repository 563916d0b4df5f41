-- An end that is not due heard the other end less than 25,600 slots ago.
use Rattle.std.proofs.Common.{◌≡◌, ℕ, ◌+◌, ◌*◌, ◌≤◌, Bool, true, false, Option, Some, None, is_none, refl, arith, if◌then◌else◌}
use Rattle.std.proofs.lemmas.Bool.{leb-false}
use Rattle.link_pairs.specs.control_octets.Fitting.{TimesFit}
use Rattle.instants.specs.declared.indications.Params.{Params}
use Rattle.link_pairs.specs.link_model.declared.events.Reception.{Reception}
use Rattle.link_pairs.specs.link_model.Setup.{Setup}
use Rattle.link_pairs.specs.link_model.Lost.{has_failed, has_timed_out, reason_due}
use Rattle.link_pairs.specs.link_model.Facts.{Facts, params_of}
use Rattle.link_pairs.specs.link_model.Times.{due_of, first_of}
use Rattle.link_pairs.specs.Ends.{IsAtRest, heard_turns, turns_at}

none_first : (one other : Option ℕ) → is_none (first_of one other) ≡ true → is_none one ≡ true
none_first None other is = refl
none_first (Some code) other is = absurd (cc)

not_passed : (passed : Bool) (code : ℕ) → is_none (if passed then Some code else None) ≡ true → passed ≡ false
not_passed true code is = absurd (cc)
not_passed false code is = refl

heard_lately : (opened slot : ℕ) (params : Params) (good : Option Reception) → TimesFit params.interval params.latency params.timeout
    → is_none (reason_due opened params good slot) ≡ true → slot + 1 ≤ turns_at opened good + 32768
heard_lately opened slot params None fits is =
    let early = leb-false (opened + 6 * params.interval) slot (not_passed (has_failed opened params.interval slot) _ is) in
    omega (arith, early, fits.interval_to)
heard_lately opened slot params (Some good) fits is =
    let early = leb-false (good.slot + 8 * params.timeout) slot (not_passed (has_timed_out good.slot params.timeout slot) _ is) in
    omega (arith, early, fits.timeout_to)

module _ (setup : Setup) (slot turns : ℕ) (facts : Facts) (rests : IsAtRest setup turns facts) where
  pub heard_in_time : is_none (due_of setup facts slot) ≡ true → slot + 1 ≤ heard_turns setup facts + 32768
  heard_in_time is =
      heard_lately setup.opened slot (params_of facts) facts.last_good rests.fits.track.params.times
      (none_first (reason_due setup.opened (params_of facts) facts.last_good slot) _ is)
