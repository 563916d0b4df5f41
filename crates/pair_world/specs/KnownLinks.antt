-- The numbers of the links that a station knows (our choice).
use Rattle.std.specs.Prelude.{ℕ, List, replicate, slice_index_or, slice_set}
use Rattle.ble_base.specs.declared.notes.Note.{Note}
use Rattle.ble_base.specs.declared.notes.Note.TheVariants.{Up, Opened, Shut, Sent, Took, Enter, Applied, Began, Refused, Done}
use Rattle.run_model.specs.Pair.{pair_links}

pub record KnownLinks : Type 0 where
  -- the link that it began or received last
  pub last : ℕ
  -- the link that it opened last under each handle
  pub by_handle : List ℕ

abbrev pub first_known : KnownLinks
first_known = record { last = 0; by_handle = replicate pair_links 0 }

-- the link of a handle
abbrev pub number_in : KnownLinks → ℕ → ℕ
number_in known handle = slice_index_or known.by_handle handle 0

-- the number of the link of a note; 0 where it is a packet to the host
abbrev pub link_noted : KnownLinks → Note → ℕ
link_noted known (Up packet) = 0
link_noted known (Opened handle role own peer) = known.last
link_noted known (Shut handle reason) = number_in known handle
link_noted known (Sent handle number llid body) = number_in known handle
link_noted known (Took handle number llid body) = number_in known handle
link_noted known (Enter handle event channel) = number_in known handle
link_noted known (Applied handle number event) = number_in known handle
link_noted known (Began handle kind) = number_in known handle
link_noted known (Refused handle kind code) = number_in known handle
link_noted known (Done handle kind) = number_in known handle

abbrev pub with_handle : ℕ → KnownLinks → KnownLinks
with_handle handle known = record known { by_handle = slice_set known.by_handle handle known.last }

-- what it knows once it noted this
abbrev pub with_note : KnownLinks → Note → KnownLinks
with_note known (Opened handle role own peer) = with_handle handle known
with_note known other = known
