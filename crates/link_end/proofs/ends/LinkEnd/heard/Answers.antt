-- Proof of `ends::LinkEnd::heard`.
use Rattle.std.proofs.Common.{◌<◌, nat_lt, length, arith, ap, sym, subst, ◌∙◌}
use Rattle.control_end.specs.declared.answers.Taken.{Taken}
use Rattle.link_model.specs.Receiving.{effect_unless_known}
use Rattle.link_end.specs.Held.{Held}
use Rattle.link_end.specs.Receiving.{has_ended, replies_to, whole_by}
use Rattle.acl_banks.specs.Banks.{credits_of}
use Rattle.link_model.specs.Setup.{Setup}
use Rattle.link_end.proofs.Accepting.{data_has_room}
use Rattle.link_end.proofs.Banked.{ack_leaves_as}
use Rattle.link_end.proofs.Heard.{heard, heard_acked, heard_draws, heard_effect, heard_given, heard_holds, heard_kept, heard_kept_effect, heard_kept_given, heard_replies}
use Rattle.link_end.proofs.Tying.{heard_before, heard_setup, heard_tied, read_before, read_setup, read_tied}
use Rattle.link_end.proofs.ends.LinkEnd.heard.Goals as goal

pub returns-clause-goes : goal.returns-clause-goes
returns-clause-goes g c = λ setup past knows.
    heard setup c.args.self.now past knows c.args.octets.now c.args.slot.0 _ _ _ c.read-got.ensures.got c.read-got.ensures.held
    _ _ _ c.hear-heard.ensures.held c.hear-heard.ensures.notes

pub returns-clause-reply : goal.returns-clause-reply
returns-clause-reply g c = λ setup past knows.
    heard_replies setup c.args.self.now past knows c.args.octets.now c.args.slot.0 _ _ _ c.read-got.ensures.got c.read-got.ensures.held
    _ _ c.hear-heard.ensures.held
    (c.link_step.ensures.reply ∙ c.replies.ensures
    ∙ ap (λ some. replies_to c.hear-heard.new.self.setup.link.role (has_ended c.hear-heard.new.self) some) c.is_some-is_good.ensures)

pub returns-clause-effect : goal.returns-clause-effect
returns-clause-effect g c = λ setup past knows.
    heard_effect setup c.args.self.now past knows c.args.octets.now c.args.slot.0 _ _ _ c.read-got.ensures.got c.read-got.ensures.held
    _ c.hear-heard.ensures.given _
    (c.link_step.ensures.effect
    ∙ ap (λ (h : Held). effect_unless_known h.lengths c.hear-heard.result.given.given.taken.effect) c.self.view_is)

pub returns-clause-refused : goal.returns-clause-refused
returns-clause-refused g c = λ setup past knows.
    c.link_step.ensures.refused
    ∙ ap (λ (t : Taken). t.refused) (heard_given setup c.args.self.now past knows c.args.octets.now c.args.slot.0 _ _ _ c.read-got.ensures.got c.read-got.ensures.held
    _ c.hear-heard.ensures.given)

pub returns-clause-done : goal.returns-clause-done
returns-clause-done g c = λ setup past knows.
    c.link_step.ensures.done
    ∙ ap (λ (t : Taken). t.done) (heard_given setup c.args.self.now past knows c.args.octets.now c.args.slot.0 _ _ _ c.read-got.ensures.got c.read-got.ensures.held
    _ c.hear-heard.ensures.given)

pub returns-clause-acked : goal.returns-clause-acked
returns-clause-acked g c = λ setup past knows.
    c.link_step.ensures.acked
    ∙ heard_acked setup c.args.self.now past knows c.args.octets.now c.args.slot.0 _ _ _ c.read-got.ensures.got c.read-got.ensures.held
    _ c.hear-heard.ensures.acked

pub returns-clause-kept_effect : goal.returns-clause-kept_effect
returns-clause-kept_effect g c = λ setup past knows.
    heard_kept_effect setup c.args.self.now past knows c.args.octets.now c.args.slot.0 _ _ _ c.read-got.ensures.got c.read-got.ensures.held
    _ c.hear-heard.ensures.given _
    (c.link_step.ensures.kept_effect
    ∙ ap (λ (h : Held). effect_unless_known h.lengths c.hear-heard.result.given.given.kept.effect) c.self.view_is)

pub returns-clause-kept_done : goal.returns-clause-kept_done
returns-clause-kept_done g c = λ setup past knows.
    c.link_step.ensures.kept_done
    ∙ ap (λ (t : Taken). t.done) (heard_kept_given setup c.args.self.now past knows c.args.octets.now c.args.slot.0 _ _ _ c.read-got.ensures.got c.read-got.ensures.held
    _ c.hear-heard.ensures.given)

pub returns-clause-draws : goal.returns-clause-draws
returns-clause-draws g c = λ setup past knows.
    c.link_step.ensures.draws
    ∙ heard_draws setup c.args.self.now past knows c.args.octets.now c.args.slot.0 _ _ _ c.read-got.ensures.got c.read-got.ensures.held
    _ c.hear-heard.ensures.draws

pub returns-clause-kept : goal.returns-clause-kept
returns-clause-kept g c = λ setup past knows.
    heard_kept setup c.args.self.now past knows c.args.octets.now c.args.slot.0 _ _ _ c.read-got.ensures.got c.read-got.ensures.held
    _ _ c.hear-heard.ensures.kept

pub returns-clause-holds : goal.returns-clause-holds
returns-clause-holds g c = λ setup past knows holds.
    heard_holds setup c.args.self.now past knows c.args.octets.now c.args.slot.0 _ _ _ c.read-got.ensures.got c.read-got.ensures.held
    c.args.tx.now _ c.hear-heard.ensures.bank holds

pub returns-clause-tied : goal.returns-clause-tied
returns-clause-tied g c =
    heard_tied c.args.slot.0 _ _ _ c.args.tx.now _ c.hear-heard.ensures.held c.hear-heard.ensures.bank
    (read_tied c.args.slot.0 (nat_lt (length c.args.rx.now) g.row.R) (whole_by c.args.octets.now c.args.self.now) c.args.self.now _ c.read-got.ensures.held c.args.tx.now c.requires.tied)

pub returns-clause-others : goal.returns-clause-others
returns-clause-others g c = ack_leaves_as _ _ _ c.args.tx.now _ (read_setup c.args.slot.0 (nat_lt (length c.args.rx.now) g.row.R) (whole_by c.args.octets.now c.args.self.now) c.args.self.now _ c.read-got.ensures.held) c.hear-heard.ensures.bank

pub returns-clause-handle : goal.returns-clause-handle
returns-clause-handle g c = heard_setup c.args.slot.0 _ _ _ c.hear-heard.ensures.held ∙ read_setup c.args.slot.0 (nat_lt (length c.args.rx.now) g.row.R) (whole_by c.args.octets.now c.args.self.now) c.args.self.now _ c.read-got.ensures.held

pub returns-clause-last_good : goal.returns-clause-last_good
returns-clause-last_good g c =
    heard_before c.args.slot.0 c.read-got.result c.read-got.new.self c.hear-heard.new.self c.hear-heard.ensures.held (read_before c.args.slot.0 (nat_lt (length c.args.rx.now) g.row.R) (whole_by c.args.octets.now c.args.self.now) c.args.self.now _ c.read-got.ensures.held c.requires.before)

pub hear-heard-requires : goal.hear-heard-requires
hear-heard-requires g c =
    let room = nat_lt (length c.args.rx.now) g.row.R in
    let whole = whole_by c.args.octets.now c.args.self.now in
    let same = read_setup c.args.slot.0 room whole c.args.self.now _ c.read-got.ensures.held in (
      omega arith,
      (
        omega arith,
        (
          c.read-got.ensures.entered c.requires.entered,
          (
            read_tied c.args.slot.0 room whole c.args.self.now _ c.read-got.ensures.held c.args.tx.now c.requires.tied,
            (
              subst (λ (s : Setup). credits_of c.args.tx.now s.link.handle < 65535) (sym same) c.requires.counts,
              (
                c.read-got.ensures.counted,
                (
                  data_has_room (length c.args.rx.now) g.row.R whole c.args.self.now _ c.read-got.ensures.got,
                  c.requires.room,
                ),
              ),
            ),
          ),
        ),
      ),
    )
