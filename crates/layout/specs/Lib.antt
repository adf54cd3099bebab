-- The layout of a knowledge: its limits, its value, its bytes, what is lawful, and the reading of bytes.
pub mod Knowledge
pub mod Permitted
pub mod Got
pub mod Read
pub mod Checked
pub mod Parse
pub mod Decode
pub mod MethodPlaces
pub mod Answer
