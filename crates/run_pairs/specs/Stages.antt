-- Two open ends of a link in a turn, from call to call: once both have begun it, once the peripheral has heard what it
-- hears, and once the central has, too (Core 5.2, volume 6 part B, sections 4.5.1, 4.5.9, 5.1.3.1, 5.1.6 and 5.5.1).
use Rattle.std.specs.Prelude.{◌≡◌, ◌⊎◌, ℕ, ◌+◌, ◌≤◌, Bool, true, false, None, Some, is_none}
use Rattle.link_calls.specs.link_model.Facts.{Facts}
use Rattle.link_calls.specs.link_model.OneLink.{AreInAgreement}
use Rattle.link_calls.specs.link_model.Setup.{Setup}
use Rattle.link_calls.specs.link_model.Times.{ending_of}
use Rattle.link_runs.specs.link_pairs.Ends.{heard_turns, is_lasting}
use Rattle.link_runs.specs.link_pairs.Parting.{ArePartingFrom, HasSeenTerminate}
use Rattle.link_runs.specs.link_pairs.Shown.{AreLinked}
use Rattle.link_runs.specs.link_pairs.Sound.{EndsForInstant}
use Rattle.link_runs.specs.link_pairs.Turns.{HaveBegun}
use Rattle.link_runs.specs.Open.{AreOpenEnds, GoesOnUnlessLate, HasHeardForged}

-- ---- both have begun the turn in this slot, and nothing is received in it

-- the link lasts at both
pub record IsBegunLink (central peripheral : Setup) (slot : ℕ) (transmits listens : Bool) (c p : Facts) : Type 0 where
  pub central_lasts : is_lasting c ≡ true
  pub peripheral_lasts : is_lasting p ≡ true
  pub begun : HaveBegun central peripheral slot transmits listens c p
  pub central_past : heard_turns central c ≤ slot
  -- the supervision timeout has not passed at the peripheral (section 4.5.2)
  pub supervised : slot + 1 ≤ heard_turns peripheral p + 32768

-- or the central took LL_TERMINATE_IND before (section 5.1.6)
abbrev pub AreBegunEnds : Setup → Setup → ℕ → Bool → Bool → Facts → Facts → Type 0
AreBegunEnds central peripheral slot transmits listens c p =
    IsBegunLink central peripheral slot transmits listens c p ⊎ ArePartingFrom central peripheral c p

-- ---- the peripheral has heard what it hears in the turn, and answered or not; the central has not

-- the link lasts at both
pub record IsAnsweredLink (central peripheral : Setup) (slot : ℕ) (answers : Bool) (c p : Facts) : Type 0 where
  pub central_lasts : is_lasting c ≡ true
  pub peripheral_lasts : is_lasting p ≡ true
  pub linked : AreLinked central peripheral (slot + 1) answers c p
  pub central_past : heard_turns central c ≤ slot
  pub entered : answers ≡ true → 1 ≤ c.control.track.entered

-- a procedure of the peripheral ended the link, since the Instant has passed (section 5.5.1)
pub record IsLateLink (c p : Facts) : Type 0 where
  pub central_lasts : is_lasting c ≡ true
  pub late : EndsForInstant c p p.control.ends
  pub agreement : AreInAgreement c.acknowledgement p.acknowledgement

-- LL_TERMINATE_IND of the peripheral is acknowledged (section 5.1.6)
pub record IsOverLink (c p : Facts) : Type 0 where
  pub goes_on : c.control.ends ≡ None
  pub seen : HasSeenTerminate c.acknowledgement p

-- the peripheral heard a forged packet, and ended the link (section 5.1.3.1)
pub record IsForgedLink (c p : Facts) : Type 0 where
  pub goes_on : c.control.ends ≡ None
  pub forged : HasHeardForged p
  pub agreement : AreInAgreement c.acknowledgement p.acknowledgement

-- one of these holds then
pub data AreAnsweredEnds (central peripheral : Setup) (slot : ℕ) (answers : Bool) (c p : Facts) : Type 0 where
  Lasts : IsAnsweredLink central peripheral slot answers c p → AreAnsweredEnds central peripheral slot answers c p
  PeripheralTook : ArePartingFrom peripheral central p c → AreAnsweredEnds central peripheral slot answers c p
  CentralTook :
      ArePartingFrom central peripheral c p → answers ≡ false → AreAnsweredEnds central peripheral slot answers c p
  IsLate : IsLateLink c p → answers ≡ false → AreAnsweredEnds central peripheral slot answers c p
  IsOver : IsOverLink c p → answers ≡ false → AreAnsweredEnds central peripheral slot answers c p
  IsForged : IsForgedLink c p → answers ≡ false → AreAnsweredEnds central peripheral slot answers c p

-- ---- both have heard what they hear in the turn

pub record AreHeardEnds (central peripheral : Setup) (slot : ℕ) (c p : Facts) : Type 0 where
  -- unless it heard a forged packet, no procedure of the central ended the link
  pub central_goes_on : (c.control.ends ≡ None) ⊎ HasHeardForged c
  pub peripheral_goes_on : GoesOnUnlessLate (Some c) p
  pub agreement : AreInAgreement c.acknowledgement p.acknowledgement
  -- where both stay open
  pub opens :
      is_none (ending_of c) ≡ true → is_none (ending_of p) ≡ true → AreOpenEnds central peripheral (slot + 1) c p
