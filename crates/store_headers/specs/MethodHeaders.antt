-- The bytes in front of a store's knowledge and of a batch's knowledges, from numbers. There is nothing to believe here: the laws say that with
-- them in front the bytes are those of the store or batch.
use Rattle.std.specs.Prelude.{ℕ, List, []}
use Rattle.codec.specs.Number.{put}

-- own id, length of the knowledge, count of records
unfoldable pub store_head : ℕ → ℕ → ℕ → List ℕ
store_head own length count = put 1 3 (put 16 own (put 4 length (put 4 count [])))

-- first and last id, lengths of needed and learned, count of records
unfoldable pub batch_head : ℕ → ℕ → ℕ → ℕ → ℕ → List ℕ
batch_head first last needed learned count = put 1 4 (put 24 first (put 24 last (put 4 needed (put 4 learned (put 4 count [])))))

-- two fields of one size, in front of t
abbrev pub put_both : ℕ → ℕ → ℕ → List ℕ → List ℕ
put_both n x y t = put n x (put n y t)
