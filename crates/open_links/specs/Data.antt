-- The data of the open links: what the host gives, which buffers it takes, what is complete, and what the host has not
-- received yet (Core 5.2, volume 4 part E, sections 4.1, 4.3 and 7.7.19).
use Rattle.std.specs.Prelude.{ℕ, ◌+◌, ◌==◌, ◌||◌, nat_lt, Bool, List, [], ◌∷◌, ◌++◌, length, map, Option, Some, None, if◌then◌else◌}
use Rattle.std.specs.List.{sum_by}
use Rattle.std.specs.Option.{option_map}
use Rattle.ble_base.specs.declared.notes.Note.{Note}
use Rattle.acl_banks.specs.declared.pieces.Piece.{Piece}
use Rattle.open_links.specs.declared.offers.Completed.{Completed}
use Rattle.open_links.specs.declared.offers.Offer.{Offer}
use Rattle.open_links.specs.declared.offers.Offer.TheVariants.{NoLink, Empty, Overflow, Kept}
use Rattle.open_links.specs.Offered.{buffer_octets, completed_by}
use Rattle.open_links.specs.Ended.{received_without}
use Rattle.link_end.specs.link_model.Step.{Step, DataGiven, DataReported, PduFixed}
use Rattle.link_end.specs.link_model.End.{notes_after}
use Rattle.link_end.specs.link_model.Kept.{kept_of}
use Rattle.open_links.specs.OpenLinks.{Links, OpenLink, facts_in, link_after, link_after_in_event, link_at, with_change}

-- the host gives a packet to a link (volume 4 part E, section 5.4.2)
abbrev pub links_given : ℕ → Bool → List ℕ → Links → Links
links_given handle start body links = with_change handle (link_after (DataGiven start body)) links

-- a link fixes the PDU that it sends next, as a turn begins in which it may send (our choice)
abbrev pub links_fixed : ℕ → Links → Links
links_fixed handle links = with_change handle (link_after_in_event PduFixed) links

-- the buffers that a link takes: one for each packet that is not complete (volume 4 part E, section 4.1)
abbrev pub buffers_in : Option OpenLink → ℕ
buffers_in None = 0
buffers_in (Some link) = length (facts_in link).outgoing.packets

-- the buffers that all links take
abbrev pub buffers_taken : Links → ℕ
buffers_taken links = sum_by buffers_in links

-- ---- a packet of the host

-- what becomes of a packet with this number of octets, for the link that may be under its handle
abbrev pub offer_by : Option OpenLink → ℕ → Bool → Offer
offer_by None count full = NoLink
offer_by (Some link) count full =
    if count == 0 then Empty else (if nat_lt buffer_octets count || full then Overflow else Kept)

-- the same where there is this number of buffers
abbrev pub offer_of : ℕ → ℕ → ℕ → Links → Offer
offer_of buffers handle count links = offer_by (link_at handle links) count (buffers_taken links == buffers)

-- the links after a packet of the host of which this becomes
abbrev pub links_offered : Offer → ℕ → Bool → List ℕ → Links → Links
links_offered Kept handle start body links = links_given handle start body links
links_offered other handle start body links = links

-- ---- complete packets

-- how many packets of a link are complete and were not reported (volume 4 part E, section 7.7.19)
abbrev pub complete_in : OpenLink → ℕ
complete_in link = (facts_in link).outgoing.complete

-- those of all links, by handle from this one on
abbrev pub completed_from : ℕ → Links → List Completed
completed_from handle [] = []
completed_from handle (None ∷ links) = completed_from (handle + 1) links
completed_from handle (Some link ∷ links) =
    completed_by handle (complete_in link) ++ completed_from (handle + 1) links

-- those of a link are reported
abbrev pub link_reported : OpenLink → OpenLink
link_reported link = if nat_lt 0 (complete_in link) then link_after DataReported link else link

-- those of all links are reported
abbrev pub links_reported : Links → Links
links_reported links = map (option_map link_reported) links

-- ---- what a step of a link notes, and what is kept for the host

-- the notes of a step of the link that may be under a handle
abbrev pub notes_at : Step → Option OpenLink → List Note
notes_at step None = []
notes_at step (Some link) = notes_after link.setup (facts_in link) step

-- the data that the link that may be under a handle keeps of octets (volume 6 part B, section 4.5.9)
abbrev pub kept_at : ℕ → List ℕ → Bool → Option OpenLink → List (ℕ × Piece)
kept_at slot octets room None = []
kept_at slot octets room (Some link) = kept_of link.setup (facts_in link) slot octets room

-- what the host has not received of a link that may be open and ends is dropped (our choice)
abbrev pub received_past : Option OpenLink → ℕ → List (ℕ × Piece) → List (ℕ × Piece)
received_past None handle received = received
received_past (Some link) handle received = received_without handle received
