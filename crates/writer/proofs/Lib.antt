-- The laws of the writer.
pub mod Laying
