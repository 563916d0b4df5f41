-- Proof of `ends::LinkEnd::enc_words`.
use Rattle.link_end.proofs.Hosted.{words_holds, words_known, words_tied}
use Rattle.link_end.proofs.ends.LinkEnd.enc_words.Goals as goal

pub returns-clause-knows : goal.returns-clause-knows
returns-clause-knows c = λ setup past knows. words_known setup c.args.self.now past knows c.args.skd_s c.args.iv_s _ c.take_words.ensures

pub returns-clause-holds : goal.returns-clause-holds
returns-clause-holds c = λ setup past bank holds. words_holds setup past bank holds c.args.skd_s c.args.iv_s

pub returns-clause-tied : goal.returns-clause-tied
returns-clause-tied c = words_tied c.args.skd_s c.args.iv_s c.args.self.now _ c.take_words.ensures
