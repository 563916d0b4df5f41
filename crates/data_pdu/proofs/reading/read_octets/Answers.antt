-- The proof of `read_octets`.
use Rattle.std.proofs.Common.{◌≡◌, ◌<◌, get_or, drop, sym, ap, ◌∙◌, cond, Bool, true, false, arith}
use Rattle.data_pdu.specs.declared.ctrl.CtrlRead.TheVariants.{Known, Unknown}
use Rattle.data_pdu.specs.Ranges.{is_in_range}
use Rattle.data_pdu.specs.Reading.{Spells}
use Rattle.data_pdu.proofs.RangeTests.{range_is_tested}
use Rattle.data_pdu.proofs.Outcomes.{after_first_octet, nothing_read, length_read, spelled_whole, fields_read}
use Rattle.data_pdu.proofs.reading.read_octets.Goals as goal

pub returns-in_default-clause-value : goal.returns-in_default-clause-value
returns-in_default-clause-value c = nothing_read c.args.octets.now c.in_default.len_below

pub returns-then-not-has_length-clause-value : goal.returns-then-not-has_length-clause-value
returns-then-not-has_length-clause-value c =
    length_read c.args.octets.now c.in-len1-up.len_at_least (λ same.
    let yes = c.has_length.ensures.1 same in
    absurd cc)

pub returns-then-is_in_range-clause-value : goal.returns-then-is_in_range-clause-value
returns-then-is_in_range-clause-value c =
    let small : get_or c.args.octets.now 0 0 < 256 = omega (arith, c.type_inv.octets 0) in
    let test : is_in_range c.ctrl_with-ctrl.result ≡ true = sym c.is_in_range.ensures.test ∙ c.if-is_in_range.true in
    let spells : Spells c.ctrl_with-ctrl.result (get_or c.args.octets.now 0 0) (drop 1 c.args.octets.now) = rw (c.new.ensures, after_first_octet c.args.octets.now c.in-len1-up.len_at_least) at c.ctrl_with-ctrl.ensures in
    let read = fields_read c.args.octets.now c.ctrl_with-ctrl.result c.in-len1-up.len_at_least spells small in
    sym (read ∙ ap (λ (b : Bool). cond b (Known c.ctrl_with-ctrl.result) (Unknown (get_or c.args.octets.now 0 0))) test)

pub returns-then-is_in_range-clause-known : goal.returns-then-is_in_range-clause-known
returns-then-is_in_range-clause-known c =
    let small : get_or c.args.octets.now 0 0 < 256 = omega (arith, c.type_inv.octets 0) in
    let test : is_in_range c.ctrl_with-ctrl.result ≡ true = sym c.is_in_range.ensures.test ∙ c.if-is_in_range.true in
    let spells : Spells c.ctrl_with-ctrl.result (get_or c.args.octets.now 0 0) (drop 1 c.args.octets.now) = rw (c.new.ensures, after_first_octet c.args.octets.now c.in-len1-up.len_at_least) at c.ctrl_with-ctrl.ensures in (
      record { fits = c.ctrl_with-ctrl.ensures.fits; six_offsets = c.ctrl_with-ctrl.ensures.six_offsets; range = (range_is_tested c.ctrl_with-ctrl.result).0 test },
      spelled_whole c.args.octets.now c.ctrl_with-ctrl.result c.in-len1-up.len_at_least spells small,
    )

pub returns-else-is_in_range-clause-value : goal.returns-else-is_in_range-clause-value
returns-else-is_in_range-clause-value c =
    let small : get_or c.args.octets.now 0 0 < 256 = omega (arith, c.type_inv.octets 0) in
    let test : is_in_range c.ctrl_with-ctrl.result ≡ false = sym c.is_in_range.ensures.test ∙ c.if-is_in_range.false in
    let spells : Spells c.ctrl_with-ctrl.result (get_or c.args.octets.now 0 0) (drop 1 c.args.octets.now) = rw (c.new.ensures, after_first_octet c.args.octets.now c.in-len1-up.len_at_least) at c.ctrl_with-ctrl.ensures in
    let read = fields_read c.args.octets.now c.ctrl_with-ctrl.result c.in-len1-up.len_at_least spells small in
    sym (read ∙ ap (λ (b : Bool). cond b (Known c.ctrl_with-ctrl.result) (Unknown (get_or c.args.octets.now 0 0))) test)
