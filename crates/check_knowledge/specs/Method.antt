-- The check's answer as one number: nothing here is to be believed. No function needs it; the laws say how small the counts of an
-- accepted knowledge are.
use Rattle.std.specs.Prelude.{ℕ, ◌+◌, ◌*◌, ◌/◌, ◌%◌, ◌^◌, true, false, ltb}
use Rattle.layout.specs.Checked.{Checked}
use Rattle.layout.specs.Checked.{Accepted, Refused}

-- an answer as one number: a refusal's number, or 2^63 and the four counts, in fields of 15, 16, 16 and 16 bits
unfoldable pub packed : Checked → ℕ
packed (Accepted r v e g) = 2 ^ 63 + (g % 32768 * 65536 + e % 65536) * 4294967296 + (v % 65536 * 65536 + r % 65536)
packed (Refused n) = n

-- and back
unfoldable pub unpacked : ℕ → Checked
unpacked w = elim (ltb w (2 ^ 63)) [
  | true ↦ Refused (w % 4294967296)
  | false ↦ Accepted (w % 65536) (w / 65536 % 65536) (w / 4294967296 % 65536) (w / 281474976710656 % 32768)
]
