-- The proof of `sealed_payloads`.
use Rattle.std.proofs.Common.{sym}
use Rattle.ccm_link.proofs.Answering.{is_genuine-Decides}
use Rattle.ccm_link.proofs.Sealing.{IsGenuine-sealed_payload, length-sealed_payload, opened_payload-sealed_payload, sealed_payload-opened_payload}
use Rattle.ccm_link.proofs.laws.sealed_payloads.Goals as goal

pub returns : goal.returns
returns c = record {
  opens = opened_payload-sealed_payload;
  genuine = IsGenuine-sealed_payload;
  only = λ key nonce extra octets g. sym (sealed_payload-opened_payload key nonce extra octets g.mic);
  tested = is_genuine-Decides;
  longer = length-sealed_payload;
}
