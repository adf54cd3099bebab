-- An id written word by word is placed as a whole: each word is written where the one before it ended.
use Prim.Native.Nat.{ℕ, ◌+◌, ◌^◌, ◌≤◌, ◌<◌}
use mathlib.Core.Path.{◌≡◌}
use mathlib.Core.List.{List}
use lib.ListN.{length}
use Rattle.codec.specs.Part.{placed, bytes}
use Rattle.codec.specs.Words.{words2, words3}
use Rattle.codec.proofs.Written.{wrote_all, pair_wrote, item_wrote}

pub pair_placed : (d e u : List ℕ) (at x y : ℕ) → at + 16 ≤ length d → y < 2 ^ 64 → e ≡ placed d at (bytes 8 x)
    → u ≡ placed e (at + 8) (bytes 8 y) → u ≡ placed d at (bytes 16 (words2 x y))
unfolding bytes
pair_placed d e u at x y room h a b = wrote_all (pair_wrote d e u at x y h a b) room

pub item_placed : (d e f u : List ℕ) (at x y z : ℕ) → at + 24 ≤ length d → y < 2 ^ 64 → z < 2 ^ 64
    → e ≡ placed d at (bytes 8 x) → f ≡ placed e (at + 8) (bytes 8 y) → u ≡ placed f (at + 16) (bytes 8 z)
    → u ≡ placed d at (bytes 24 (words3 x y z))
unfolding bytes
item_placed d e f u at x y z room h k a b c = wrote_all (item_wrote d e f u at x y z h k a b c) room
