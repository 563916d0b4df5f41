-- The proof of `RealFilesFiles::TheImpl`.
use Rattle.std.proofs.Common.{arith, Result, Ok, Err, refl, IfOk}
use Rattle.outside.proofs.real_files.RealFilesFiles.TheImpl.Goals as goal

-- unknown content says nothing
not_known : {T E : Type 0} (r : Result T E) → IfOk r (λ _. Unit {0})
not_known (Ok x) = tt
not_known (Err e) = tt

pub read_file-tells : goal.read_file-tells
read_file-tells g c = record {
  fits = c.ensures.fits;
  ok = not_known c.result;
  too_long = λ _. tt;
  failed = λ e. omega (arith, c.ensures.failed e);
  contents = λ _. refl;
  counts = λ _. c.ensures.counts;
  reliable = λ none _. none;
  no_fault = λ _ none. absurd none;
  stays_reliable = λ _ none. none;
}
