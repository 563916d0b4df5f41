-- What holds of a region, and what its calls leave.
use Rattle.std.specs.Prelude.{◌≡◌, ℕ, List, length, replicate, Option, None}
use Rattle.raw_block.specs.declared.places.Start.{Start}
use Rattle.raw_block.specs.declared.places.Places.{Places}
use Rattle.raw_block.specs.declared.places.Right.{Right}
use Rattle.raw_block.specs.declared.region.Region.{Region}

module _ {X : Type 0} where
  -- its places, its start and the right to give it back are of one region
  pub record IsRegion (region : Region X) : Type 0 where
    pub starts : region.places.at ≡ region.start.at
    pub long : length region.places.held ≡ region.len
    pub right_at : region.right.at ≡ region.start.at
    pub right_long : region.right.len ≡ region.len
    pub from : region.right.alloc ≡ region.alloc

  -- the same region, with these values in its places
  pub record Keeps (before after : Region X) (values : List (Option X)) : Type 0 where
    pub region : IsRegion after
    pub held : after.places.held ≡ values
    pub long : after.len ≡ before.len

module _ {X A : Type 0} (alloc : A) (len : ℕ) (start : Start X) (places : Places X) (right : Right X A) where
  -- a region of empty places, with the right to give it back to this allocator
  pub record IsFresh : Type 0 where
    pub starts : places.at ≡ start.at
    pub empty : places.held ≡ replicate len None
    pub at : right.at ≡ start.at
    pub long : right.len ≡ len
    pub from : right.alloc ≡ alloc
