-- The view of a controller has six places for links.
use Rattle.std.proofs.Common.{◌≡◌, Option, None, List, [], ◌∷◌, length, refl, ap, sym, ◌∙◌, length-set}
use Rattle.std.specs.Prelude.{fold, is_some, slice_set}
use Rattle.std.proofs.lemmas.List.{length-map}
use Rattle.ble_base.specs.declared.notes.Note.{Note}
use Rattle.hci_cmd.specs.declared.command.Command.{Command}
use Rattle.hci_cmd.specs.declared.command.Command.TheVariants.{Reset}
use Rattle.host_view.specs.View.{View}
use Rattle.host_view.specs.declared.links.Link.{Link as ViewLink}
use Rattle.host_view.specs.Changes.{view_after}
use Rattle.host_view.specs.Noted.{view_noted}
use Rattle.link_model.specs.declared.setup.LinkSetup.{LinkSetup}
use Rattle.controller_model.specs.open_links.declared.ended.LinkEnded.{LinkEnded}
use Rattle.controller_model.specs.link_commands.LinksCommanded.{view_known_on}
use Rattle.controller_model.specs.Step.{Step}
use Rattle.controller_model.specs.Facts.{Setup, Facts}
use Rattle.controller_model.specs.Data.{notes_pieces}
use Rattle.controller_model.specs.Heard.{has_room, link_taken, notes_received}
use Rattle.controller_model.specs.Links.{ends_for}
use Rattle.controller_model.specs.Radio.{notes_entered}
use Rattle.controller_model.specs.Side.{facts_after}
use Rattle.controller_model.proofs.Always.{IsKept, IsKeptInTurns, holds_step, facts_opening, links_shut, opening_passes}
use Rattle.controller_model.proofs.Following.{AreOfOpenLinks, all_entering_are, received_are}
use Rattle.controller_model.proofs.Handing.{handed_open}
use Rattle.controller_model.proofs.OpenPlaces.{followed_opens, known_opens, opens, view_opens}

abbrev pub HasSixPlaces : Facts → Type 0
HasSixPlaces facts = length facts.view.links ≡ 6

as_long : (before after : List (Option ViewLink)) → opens after ≡ opens before → length after ≡ length before
as_long before after same = sym (length-map after (is_some {T = ViewLink})) ∙ ap length same ∙ length-map before (is_some {T = ViewLink})

-- notes of open links
followed_long : (view : View) (notes : List Note) → AreOfOpenLinks notes → length (fold view_noted view notes).links ≡ length view.links
followed_long view notes of = as_long view.links (fold view_noted view notes).links (followed_opens view notes of)

-- links that end
shut_long : (links : List (Option ViewLink)) (ended : List LinkEnded) → length (links_shut links ended) ≡ length links
shut_long links [] = refl
shut_long links (one ∷ ended) = shut_long (slice_set links one.handle None) ended ∙ length-set links one.handle None

-- ---- a command

after_six : (view : View) (command : Command) → length view.links ≡ 6 → length (view_after view command).links ≡ 6
unfolding view_after
after_six view Reset six = refl
after_six view other six = as_long view.links (view_after view other).links (view_opens view other refl) ∙ six

-- ---- a turn

opened_six : (link : LinkSetup) (facts : Facts) → HasSixPlaces facts → HasSixPlaces (facts_opening link facts)
opened_six link facts six = length-set facts.view.links link.handle _ ∙ six

six_in_turns : (setup : Setup) → IsKeptInTurns setup HasSixPlaces HasSixPlaces
six_in_turns setup = record {
  starts = record {
    weakens = λ facts six. six;
    ends = λ reason facts six. shut_long facts.view.links (ends_for reason facts) ∙ six;
    begins = λ slot facts six. six;
    enters = λ slot facts six. followed_long facts.view (notes_entered slot facts) (all_entering_are facts.view slot 0 facts.links) ∙ six;
    wins = λ slot activity facts six. six;
    fixes = λ doing facts six. six;
    does = λ doing facts may six. six;
  };
  reports = λ facts six. followed_long facts.view (notes_pieces facts) (handed_open facts) ∙ six;
  passes = λ facts six. record {
    rests = six;
    awaits_request = λ channel doing. six;
    awaits_response = λ channel advertiser doing. six;
    central_listens = λ handle doing. six;
    sent = λ channel link doing. opening_passes HasSixPlaces link facts (opened_six link facts six);
    responds = λ channel on doing is_on. six;
    taken = λ channel octets pdu on fields handle is_on hears takes free.
        let link = link_taken facts.view on.params.own pdu fields handle in
        opening_passes HasSixPlaces link facts (opened_six link facts six);
    scanned = λ channel octets pdu on doing is_on hears. six;
    answered = λ channel octets pdu on doing is_on hears. six;
    connects = λ channel octets pdu on access handle doing is_on hears answers next free in_range. six;
    received = λ handle octets.
        let room = has_room setup facts in
        followed_long facts.view (notes_received handle room octets facts) (received_are handle room octets facts) ∙ six;
  };
  words = λ handle facts listens six. six;
}

-- ---- any step

six_kept : (setup : Setup) → IsKept setup HasSixPlaces HasSixPlaces
six_kept setup = record {
  accepted = λ facts opcode octets command is accepted six. after_six facts.view command six;
  asked = λ facts command asks six after.
      let accepted = view_after facts.view command in
      as_long accepted.links (view_known_on accepted command facts.links).links (known_opens accepted command facts.links) ∙ after;
  given = λ facts handle count start octets is six. six;
  octet = λ facts octet six. six;
  turns = six_in_turns setup;
}

pub six_after : (setup : Setup) (facts : Facts) (step : Step) → HasSixPlaces facts → HasSixPlaces (facts_after setup facts step)
six_after setup facts step six = holds_step setup HasSixPlaces HasSixPlaces (six_kept setup) facts step six
