-- What is known of a block, and what the functions of this crate ask for.
use Rattle.std.specs.Prelude.{Bool, true, false, List, ◌≡◌, ℕ, Option, Some, None, IfSome}
use Rattle.crc64.specs.Crc.{crc_of}
use Rattle.format.specs.declared.ByteOffset.{ByteOffset}
use Rattle.format.specs.Tests.{same}
use Rattle.format.specs.Layouts.{DBLK, index_offset, entries, block_cmp_crc64, block_crc64, block_payload}
use Rattle.format.specs.Opening.{offsets_of}
use Rattle.format.specs.Reading.{has}
use Rattle.format.specs.Facts.{BlockOk}

-- the index names a block at b, which passes all checks of a block
pub record Intact (img : List ℕ) (b : ℕ) : Type 0 where
  pub indexed : has b (offsets_of DBLK (entries img (index_offset img))) ≡ true
  pub block : BlockOk img b
  pub cmp_sum : crc_of (block_payload img b) ≡ block_cmp_crc64 img b
  pub sum : crc_of (block_payload img b) ≡ block_crc64 img b

-- what a caller knows of a block, if of one: that it is intact
abbrev pub Known : List ℕ → Option ByteOffset → Type 0
Known img known = IfSome known (λ (b : ByteOffset). Intact img b.0)

-- the block at b is the one that is known
unfoldable pub is_known : Option ByteOffset → ℕ → Bool
is_known None b = false
is_known (Some k) b = same b k.0
