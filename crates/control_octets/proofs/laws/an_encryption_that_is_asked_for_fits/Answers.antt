-- The proof of the law `an_encryption_that_is_asked_for_fits`.
use Rattle.control_octets.proofs.Pdus.{enc_req_fits, enc_req_is}
use Rattle.control_octets.proofs.laws.an_encryption_that_is_asked_for_fits.Goals as goal

pub returns-clause-fits : goal.returns-clause-fits
returns-clause-fits c = λ rand ediv ltk skd_m iv_m is. enc_req_fits rand ediv skd_m iv_m is

pub returns-clause-exactly : goal.returns-clause-exactly
returns-clause-exactly c = λ rand ediv ltk skd_m iv_m is. enc_req_is rand ediv skd_m iv_m is
