-- How two open ends of a link are between two turns, and with which codes an end is shut (Core 5.2, volume 6 part B,
-- sections 4.5.2, 5.1.6, 5.2 and 5.5.1).
use Rattle.std.specs.Prelude.{◌≡◌, ◌⊎◌, ℕ, ◌==◌, ◌||◌, Bool, true, false, Option, Some, None, IfSome}
use Rattle.ble_base.specs.ErrorCodes.{connection_not_established, connection_timeout, instant_passed, ll_response_timeout, mic_failure, terminated_by_local_host}
use Rattle.ble_base.specs.declared.error_codes.ErrCode.{ErrCode}
use Rattle.link_pairs.specs.link_model.Setup.{Setup}
use Rattle.link_pairs.specs.link_model.declared.state.Leaving.{Leaving}
use Rattle.link_pairs.specs.link_model.Facts.{Facts}
use Rattle.link_pairs.specs.link_model.Times.{ending_of}
use Rattle.link_pairs.specs.Ends.{is_lasting}
use Rattle.link_pairs.specs.Parting.{ArePartingFrom}
use Rattle.link_pairs.specs.Shown.{AreLinked}
use Rattle.link_pairs.specs.Sound.{EndsForInstant}
use Rattle.link_runs.specs.Turn.{Ends}

-- ---- between two turns

-- the link lasts at both ends, and they are linked
pub record IsLastingLink (central peripheral : Setup) (slot : ℕ) (c p : Facts) : Type 0 where
  pub central_lasts : is_lasting c ≡ true
  pub peripheral_lasts : is_lasting p ≡ true
  pub linked : AreLinked central peripheral slot false c p

-- it is so, or the central took LL_TERMINATE_IND of the peripheral, and is shut once it has sent (section 5.1.6)
abbrev pub AreOpenEnds : Setup → Setup → ℕ → Facts → Facts → Type 0
AreOpenEnds central peripheral slot c p =
    IsLastingLink central peripheral slot c p ⊎ ArePartingFrom central peripheral c p

-- ---- at the start of a turn

-- a code with which an end is shut because a time has passed (sections 4.5.2, 5.1.6 and 5.2)
abbrev pub is_timeout : ℕ → Bool
is_timeout code =
    (code == connection_not_established) || (code == connection_timeout) || (code == ll_response_timeout)
    || (code == terminated_by_local_host)

-- ---- at the end of a turn

-- an end ended the link with 0x3D, as it heard a forged packet (section 5.1.3.1)
abbrev pub HasHeardForged : Facts → Type 0
HasHeardForged facts = facts.control.ends ≡ Some (record { 0 = mic_failure })

-- no procedure of the peripheral ended the link, or one did with 0x28, for an Instant that has passed (section 5.5.1), or
-- the peripheral heard a forged packet
abbrev pub GoesOnUnlessLate : Option Facts → Facts → Type 0
GoesOnUnlessLate None p = p.control.ends ≡ None
GoesOnUnlessLate (Some c) p = (p.control.ends ≡ None) ⊎ (EndsForInstant c p p.control.ends ⊎ HasHeardForged p)

-- and no procedure of the central did, unless that heard a forged packet
pub record GoOnUnlessLate (ends : Ends) : Type 0 where
  pub central : IfSome ends.central (λ c. (c.control.ends ≡ None) ⊎ HasHeardForged c)
  pub peripheral : IfSome ends.peripheral (GoesOnUnlessLate ends.central)

-- an end is shut with this code because its LL_TERMINATE_IND was acknowledged, or because its peer ended the link with
-- the code (section 5.1.6)
abbrev pub IsTerminated : Leaving → ErrCode → Type 0
IsTerminated leaving code =
    ((leaving.acknowledged ≡ true) × (code ≡ record { 0 = terminated_by_local_host }))
    ⊎ (leaving.ended_by_peer ≡ Some code)

-- each end that is shut is shut so, or with 0x3D, or is a peripheral and shut with 0x28
pub record AreTerminated (ends : Ends) : Type 0 where
  pub central : IfSome ends.central (λ c. (code : ErrCode) → ending_of c ≡ Some code
      → IsTerminated c.leaving code ⊎ (code ≡ record { 0 = mic_failure }))
  pub peripheral :
      IfSome ends.peripheral (λ p. (code : ErrCode) → ending_of p ≡ Some code
      → IsTerminated p.leaving code
      ⊎ ((code ≡ record { 0 = instant_passed }) ⊎ (code ≡ record { 0 = mic_failure })))
