-- The numbers of links: the n-th CONNECT_IND on the air begins link n, from 1 (our choice). A station knows a link by
-- its connection handle (Core 5.2, volume 4 part E, section 5.3.1).
use Rattle.std.specs.Prelude.{ℕ, ◌+◌, nat_le, nat_lt, ◌==◌, ◌&&◌, ◌||◌, Bool, true, false, List, fold, Option, Some, None, if◌then◌else◌}
use Rattle.ble_base.specs.declared.notes.Note.{Note}
use Rattle.ble_base.specs.declared.notes.Note.TheVariants.{Opened}
use Rattle.adv_pdu.specs.declared.pdu.AdvPdu.{AdvPdu}
use Rattle.adv_pdu.specs.declared.pdu.AdvPdu.TheVariants.{Connect}
use Rattle.controller_model.specs.Packets.{pdu_heard}
use Rattle.run_model.specs.History.{Event, TurnBegan, HostFed, Called, Noted, Transmitted, Hearing, has_received}

-- the advertising channels are 37 to 39 (volume 6 part B, section 1.4.1)
abbrev pub is_advertising : ℕ → Bool
is_advertising channel = nat_le 37 channel && nat_lt channel 40

-- a packet on one of them begins a link where its PDU is a CONNECT_IND (volume 6 part B, section 2.3.3.1)
abbrev pub is_connect_ind : Option AdvPdu → Bool
is_connect_ind None = false
is_connect_ind (Some (Connect from to ch_sel fields)) = true
is_connect_ind (Some other) = false

unfoldable pub begins_link : ℕ → List ℕ → Bool
begins_link channel octets = is_advertising channel && is_connect_ind (pdu_heard channel octets)

pub record Links : Type 0 where
  -- how many links began
  pub begun : ℕ
  -- the link that a station began last, or whose CONNECT_IND it received last
  pub last_of : ℕ → ℕ
  -- the link that a station opened last under a handle
  pub link_of : ℕ → ℕ → ℕ

abbrev pub first_links : Links
first_links = record { begun = 0; last_of = λ station. 0; link_of = λ station handle. 0 }

-- one more link begins: its sender and all stations that received the packet know it
abbrev pub with_link : ℕ → List Hearing → Links → Links
with_link sender hearings links = record links {
  begun = links.begun + 1;
  last_of = λ station.
      if (station == sender) || has_received station hearings then links.begun + 1 else links.last_of station;
}

abbrev pub with_handle : ℕ → ℕ → Links → Links
with_handle station handle links = record links {
  link_of = λ other number.
      if (other == station) && (number == handle) then links.last_of station else links.link_of other number;
}

abbrev pub links_noted : ℕ → Note → Links → Links
links_noted station (Opened handle role own peer) links = with_handle station handle links
links_noted station other links = links

abbrev pub links_after : Links → Event → Links
links_after links (Transmitted sender channel octets hearings) =
    if begins_link channel octets then with_link sender hearings links else links
links_after links (Noted station note) = links_noted station note links
links_after links (TurnBegan slot radios) = links
links_after links (HostFed station octets) = links
links_after links (Called station step) = links

unfoldable pub links_of : List Event → Links
links_of history = fold links_after first_links history
