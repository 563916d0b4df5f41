-- Which PDUs of the peer a procedure that excludes no other awaits (Core 5.2, volume 6 part B, section 5.1).
use Rattle.std.specs.Prelude.{Bool, true, false, Option, Some}
use Rattle.procedure_stages.specs.declared.stages.Exchange.{Exchange}
use Rattle.procedure_stages.specs.declared.stages.Exchange.TheVariants.{FeaturesSent, LengthSent, VersionUnsent, VersionSent}
use Rattle.procedure_stages.specs.declared.stages.OwnCentral.{OwnCentral}
use Rattle.procedure_stages.specs.declared.stages.OwnCentral.TheVariants.{EncryptUnsent, EncryptSent}

abbrev pub awaits_features : Option Exchange → Bool
awaits_features (Some FeaturesSent) = true
awaits_features other = false

abbrev pub awaits_lengths : Option Exchange → Bool
awaits_lengths (Some LengthSent) = true
awaits_lengths other = false

-- the own exchange of versions runs, whether its PDU is sent or not
abbrev pub is_version : Option Exchange → Bool
is_version (Some VersionUnsent) = true
is_version (Some VersionSent) = true
is_version other = false

-- the own encryption of a central is in progress
abbrev pub is_own_encryption : OwnCentral → Bool
is_own_encryption EncryptUnsent = true
is_own_encryption EncryptSent = true
is_own_encryption other = false
