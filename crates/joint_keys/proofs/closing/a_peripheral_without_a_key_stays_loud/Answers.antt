-- The proof of `a_peripheral_without_a_key_stays_loud`.
use Rattle.joint_keys.proofs.Keyless.{loud_after_all}
use Rattle.joint_keys.proofs.closing.a_peripheral_without_a_key_stays_loud.Goals as goal

pub returns : goal.returns
returns c = λ max_rx first slot steps more key goes after_pause. loud_after_all max_rx first slot steps key goes after_pause more
