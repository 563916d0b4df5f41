-- What a link makes of octets that reach it in a slot (Core 5.2, volume 6 part B, sections 4.5.6, 4.5.9 and 5.1).
use Rattle.std.specs.Prelude.{ℕ, Bool, List, Option}
use Rattle.std.specs.Option.{option_map}
use Rattle.link_end.specs.link_model.Drawing.{draws_of}
use Rattle.link_end.specs.link_model.Receiving.{effect_of, kept_effect_of, replies_of}
use Rattle.link_end.specs.declared.ends.LinkStep.{LinkStep}
use Rattle.link_end.specs.Answers.{acked_of, given_of, kept_given_of}
use Rattle.open_links.specs.OpenLinks.{OpenLink, facts_in, in_event}

-- what comes of them
abbrev pub step_hearing : ℕ → List ℕ → Bool → OpenLink → LinkStep
step_hearing slot octets room link =
    record {
      reply = replies_of link.setup (facts_in link) slot octets room;
      effect = effect_of link.setup (facts_in link) slot octets room;
      refused = (given_of link.setup (facts_in link) slot octets room).refused;
      done = (given_of link.setup (facts_in link) slot octets room).done;
      acked = acked_of link.setup (facts_in link) octets;
      kept_effect = kept_effect_of link.setup (facts_in link) slot octets room;
      kept_done = (kept_given_of link.setup (facts_in link) slot octets room).done;
      draws = draws_of link.setup (facts_in link) slot octets room;
    }

-- what the link that may be under a handle does with octets that it hears, once it entered an event
abbrev pub step_at : ℕ → List ℕ → Bool → Option OpenLink → Option LinkStep
step_at slot octets room place = option_map (step_hearing slot octets room) (in_event place)
