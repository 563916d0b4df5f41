-- A procedure that excludes others is no exchange.
use Rattle.std.proofs.Common.{◌≡◌, Option, Some, None, option_map, refl}
use Rattle.exclusive_stages.specs.declared.pdus.Exclusive.{Exclusive}
use Rattle.exclusive_stages.specs.declared.pdus.Exclusive.TheVariants.{Update}
use Rattle.exclusive_stages.specs.Kinds.{kind_of}
use Rattle.exchange_steps.specs.Answers.{exchange_kind}

pub none_of : (kind : Option Exclusive) → exchange_kind (option_map kind_of kind) ≡ None
none_of None = refl
none_of (Some Update) = refl
none_of (Some kind) = refl
