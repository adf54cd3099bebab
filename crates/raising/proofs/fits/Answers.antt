-- `raising::fits` meets its contract, test by test.
use Prim.Native.Nat.{◌+◌, ◌*◌}
use Rattle.tables.specs.MethodWords.{stride}
use native.Mathlib.Omega.{arith}
use Rattle.sampling.proofs.Tables.{fits_1, fits_2, fits_3, fits_4, fits_5, fits_6, fits_7, fits_last}
use Rattle.raising.proofs.fits.Goals as goal

pub returns-then-v-gt-LARGEST_REPLICAS : goal.returns-then-v-gt-LARGEST_REPLICAS
returns-then-v-gt-LARGEST_REPLICAS c = fits_1 _ _ _ _ _ _ _ _ (omega arith)

pub returns-then-s-v : goal.returns-then-s-v
returns-then-s-v c = fits_2 _ _ _ _ _ _ _ _ (omega arith) (omega arith)

pub returns-then-beyond : goal.returns-then-beyond
returns-then-beyond c = fits_3 _ _ _ _ _ _ _ _ (omega arith) (omega arith) (omega (arith, c.beyond.ensures.0 c.if-beyond.true))

pub returns-then-m-gt-STRIDE : goal.returns-then-m-gt-STRIDE
returns-then-m-gt-STRIDE c = fits_4 _ _ _ _ _ _ _ _ (omega arith) (omega arith) (omega (arith, c.beyond.ensures.1 c.if-beyond.false)) (omega arith)

pub returns-then-n-ge-ROWS : goal.returns-then-n-ge-ROWS
returns-then-n-ge-ROWS c = fits_5 _ _ _ _ _ _ _ _ (omega arith) (omega arith) (omega (arith, c.beyond.ensures.1 c.if-beyond.false)) (omega arith) (omega arith)

pub returns-then-ids-m : goal.returns-then-ids-m
returns-then-ids-m c = fits_6 _ _ _ _ _ _ _ _ (omega arith) (omega arith) (omega (arith, c.beyond.ensures.1 c.if-beyond.false)) (omega arith) (omega arith) (omega (arith, c.beyond.ensures.1 c.if-beyond.false))

pub returns-then-bounds-n : goal.returns-then-bounds-n
returns-then-bounds-n c = fits_7 _ _ _ _ _ _ _ _ (omega arith) (omega arith) (omega (arith, c.beyond.ensures.1 c.if-beyond.false)) (omega arith) (omega arith) (omega (arith, c.beyond.ensures.1 c.if-beyond.false)) (omega arith)

pub returns : goal.returns
returns c = fits_last _ _ _ _ _ _ _ _ (omega arith) (omega arith) (omega (arith, c.beyond.ensures.1 c.if-beyond.false)) (omega arith) (omega arith) (omega (arith, c.beyond.ensures.1 c.if-beyond.false)) (omega arith)
    (stride * (c.args.n + 1)) (omega arith)
