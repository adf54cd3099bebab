-- Tables of records that rise by item id: as values, as bytes, and by the walker's places.
pub mod Rising
pub mod Join
pub mod Selected
pub mod InBytes
pub mod Places
pub mod Walked
