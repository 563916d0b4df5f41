-- Proof of `lists::what_an_end_hears_last_is_its_last_good_packet`.
use Rattle.std.proofs.Common.{◌≡◌, Option, Some, None, refl, sym, ◌∙◌}
use Rattle.std.specs.Option.{option_map}
use Rattle.journal_acks.specs.link_model.End.{facts_of}
use Rattle.journal_acks.specs.link_model.declared.events.Reception.{Reception}
use Rattle.journal_acks.proofs.GoodLinks.{slot_of}
use Rattle.journal_ends.proofs.PastSeen.{past_slot}
use Rattle.journal_ends.proofs.SeenLists.{last_is}
use Rattle.journal_ends.proofs.lists.what_an_end_hears_last_is_its_last_good_packet.Goals as goal

slot_in : (good : Option Reception) → slot_of good ≡ option_map (λ (one : Reception). one.slot) good
slot_in None = refl
slot_in (Some good) = refl

pub returns : goal.returns
returns c = record {
  by_lines = λ words side number journal. sym (last_is words side number journal);
  by_past = λ side number setup past. sym (past_slot side number setup past) ∙ slot_in (facts_of setup past).last_good;
}
