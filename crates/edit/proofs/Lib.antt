-- The laws of new, edit and delete.
pub mod OneMore
pub mod Changing
pub mod NewStore
