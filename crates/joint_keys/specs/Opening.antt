-- What one end opens of what the other sealed, in a joint run with keys (Core 5.2, volume 6 part B, section 5.1.3, and part
-- E, section 2).
use Rattle.std.specs.Prelude.{◌≡◌, ℕ, true, List}
use Rattle.ccm_link.specs.Payload.{session_key}
use Rattle.phased_control.specs.enc_phase.Phases.{opens, seals}
use Rattle.phased_control.specs.enc_phase.Sealing.{AreMatched, EncEnd}

-- the keys of both ends are made of the same halves of the session key diversifier, and their initialization vectors are
-- equal: so they differ only by the long term keys that the hosts gave (part B, section 5.1.3.1)
pub record HaveOneVector (one other : EncEnd) : Type 0 where
  pub skd_m : ℕ
  pub skd_s : ℕ
  pub one_ltk : List ℕ
  pub other_ltk : List ℕ
  pub one_key : one.key ≡ session_key one_ltk skd_m skd_s
  pub other_key : other.key ≡ session_key other_ltk skd_m skd_s
  pub iv : one.iv ≡ other.iv

-- a listener opens what was made by this end of the other side: it opens sealed exactly where that sealed; and then both
-- have one vector, and, where their keys are equal, one session and one counter
pub record CanOpen (made listener : EncEnd) : Type 0 where
  pub sealing : seals made.role made.phase ≡ opens listener.role listener.phase
  pub vector : seals made.role made.phase ≡ true → HaveOneVector made listener
  pub session : seals made.role made.phase ≡ true → made.key ≡ listener.key → AreMatched made listener
