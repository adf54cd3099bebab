-- The laws of selecting records for a batch.
pub mod SelectedPlaces
pub mod SelectedTables
pub mod Picking
