-- The method of edit and delete.
pub mod MethodEditing
