-- Demand 1 of a single call: "a refusal returns that number alone and alters no byte of an output buffer; a success writes the stated
-- bytes from the front and none after them". Whatever the call is given, one of the two cases holds; the number, 0 or at least 1, tells
-- which. `Demand1` (specs/Demand1.antt of `replication`) says this of each call.
use Rattle.std.specs.Prelude.{ℕ, ◌≤◌, ◌≡◌, List, ◌++◌, length, drop}
use Rattle.codec.specs.Reply.{Reply, gives, answer, after, number_of, written_of}
use Rattle.layout.specs.Knowledge.{Rules}
use Rattle.layout.specs.Parse.{checked_by}
use Rattle.layout.specs.Answer.{checked_number, checked_sizes}

-- a call that writes, by its reply, its output buffer and the length that was behind the pointer before the call
pub data WritesOrRefuses (reply : Reply) (out : List ℕ) (old : ℕ) : Type 0 where
  it_refuses : 1 ≤ number_of (answer reply (length out)) → written_of (answer reply (length out)) old ≡ old → after reply out ≡ out
      → WritesOrRefuses reply out old
  it_writes : (bs : List ℕ) → reply ≡ gives bs → length bs ≤ length out → number_of (answer reply (length out)) ≡ 0
      → written_of (answer reply (length out)) old ≡ length bs → after reply out ≡ bs ++ drop (length bs) out
      → WritesOrRefuses reply out old

-- a call that writes no bytes, by the number of its answer and the values behind its pointers, which are computed from those before the
-- call: they stay, or they do not depend on what was there
pub data SaysOrRefuses {A B : Type 0} (number : A → ℕ) (values : A → B → B) (x : A) : Type 0 where
  says_nothing : 1 ≤ number x → ((old : B) → values x old ≡ old) → SaysOrRefuses number values x
  says_values : number x ≡ 0 → ((old other : B) → values x old ≡ values x other) → SaysOrRefuses number values x

-- the check, which fills four sizes
pub data ChecksOrRefuses (R : Rules) (s : List ℕ) : Type 0 where
  checks_nothing : 1 ≤ checked_number (checked_by R s) → ((old : List ℕ) → checked_sizes (checked_by R s) old ≡ old) → ChecksOrRefuses R s
  checks_sizes : checked_number (checked_by R s) ≡ 0
      → ((old other : List ℕ) → length old ≡ 4 → length other ≡ 4
      → checked_sizes (checked_by R s) old ≡ checked_sizes (checked_by R s) other)
      → ChecksOrRefuses R s
