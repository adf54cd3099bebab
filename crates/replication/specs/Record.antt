-- A record as a value, with no byte in it: the calls and the plain history machine share it.
use Rattle.std.specs.Prelude.{ℕ, Bool}

-- what a record says of its item: whether it is deleted, and the content tag
pub record Content : Type 0 where
  pub deleted : Bool
  pub tag : ℕ

-- the change version is (item, change replica, change tick); the create version alike
pub record Rec : Type 0 where
  pub item : ℕ
  pub change_replica : ℕ
  pub change_tick : ℕ
  pub create_replica : ℕ
  pub create_tick : ℕ
  pub content : Content
