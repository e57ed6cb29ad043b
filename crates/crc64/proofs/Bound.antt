-- The checksum is a number of 64 bits.
-- Assumes nothing.
use mathlib.Core.List.{List}
use Prim.Native.Nat.{ℕ, ◌^◌, ◌<◌}
use lib.Pow.{ones_sub-lt}
use Rattle.crc64.specs.Crc.{ones, run, crc_of}

pub crc_of-lt : (bs : List ℕ) → crc_of bs < 2 ^ 64
unfolding crc_of
crc_of-lt bs = ones_sub-lt 64 (run ones bs)
