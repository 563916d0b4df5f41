-- The two control PDUs that end in six offsets.
use Rattle.std.proofs.Common.{◌≡◌, List, [], ◌++◌, ℕ, ap, refl, ◌∙◌, arith}
use Rattle.wire_fields.specs.Field.{appended}
use Rattle.data_pdu.specs.Layouts.{six_numbers}
use Rattle.data_pdu.proofs.writing.high_octets.Goals as goal

-- a packet that was appended to seven times
seven : (p q r s t u v w a b c d e f g : List ℕ) → p ≡ [] → q ≡ p ++ a → r ≡ q ++ b → s ≡ r ++ c → t ≡ s ++ d → u ≡ t ++ e → v ≡ u ++ f → w ≡ v ++ g → w ≡ ((((((([] ++ a) ++ b) ++ c) ++ d) ++ e) ++ f) ++ g)
seven p q r s t u v w a b c d e f g hp hq hr hs ht hu hv hw =
    hw ∙ rw (hv, hu, ht, hs, hr, hq, hp) refl

pub returns-in-ConnectionParamReq-clause-items : goal.returns-in-ConnectionParamReq-clause-items
returns-in-ConnectionParamReq-clause-items c =
    let before = seven _ _ _ _ _ _ _ _ _ _ _ _ _ _ _ c.new-pdu.ensures c.put_u8.ensures.items c.put_u16.ensures.items c.put_u16-in-ConnectionParamReq.ensures.items c.put_u16-in-ConnectionParamReq-2.ensures.items c.put_u16-in-ConnectionParamReq-3.ensures.items c.put_u8-in-ConnectionParamReq.ensures.items c.put_u16-in-ConnectionParamReq-4.ensures.items in
    rw (c.in-ConnectionParamReq.is) (c.put_six.ensures.items ∙ ap (λ (front : List ℕ). appended front (six_numbers c.in-ConnectionParamReq.offsets)) before)

pub returns-in-ConnectionParamReq-clause-is_ctrl : goal.returns-in-ConnectionParamReq-clause-is_ctrl
returns-in-ConnectionParamReq-clause-is_ctrl c =
    let six = c.put_six.ensures in
    rw (c.in-ConnectionParamReq.is) (record { fits = (omega arith, (omega arith, (omega arith, (omega arith, (omega arith, (omega arith, (omega arith, six.fits))))))); six_offsets = six.six; range = tt })

pub returns-in-ConnectionParamRsp-clause-items : goal.returns-in-ConnectionParamRsp-clause-items
returns-in-ConnectionParamRsp-clause-items c =
    let before = seven _ _ _ _ _ _ _ _ _ _ _ _ _ _ _ c.new-pdu.ensures c.put_u8-in-ConnectionParamRsp.ensures.items c.put_u16-in-ConnectionParamRsp.ensures.items c.put_u16-in-ConnectionParamRsp-2.ensures.items c.put_u16-in-ConnectionParamRsp-3.ensures.items c.put_u16-in-ConnectionParamRsp-4.ensures.items c.put_u8-in-ConnectionParamRsp-2.ensures.items c.put_u16-in-ConnectionParamRsp-5.ensures.items in
    rw (c.in-ConnectionParamRsp.is) (c.put_six-in-ConnectionParamRsp.ensures.items ∙ ap (λ (front : List ℕ). appended front (six_numbers c.in-ConnectionParamRsp.offsets)) before)

pub returns-in-ConnectionParamRsp-clause-is_ctrl : goal.returns-in-ConnectionParamRsp-clause-is_ctrl
returns-in-ConnectionParamRsp-clause-is_ctrl c =
    let six = c.put_six-in-ConnectionParamRsp.ensures in
    rw (c.in-ConnectionParamRsp.is) (record { fits = (omega arith, (omega arith, (omega arith, (omega arith, (omega arith, (omega arith, (omega arith, six.fits))))))); six_offsets = six.six; range = tt })
