-- What the codec means: numbers and ids as bytes, a copied part, and the answer of a call that writes.
pub mod Prelude
pub mod Number
pub mod Total
pub mod Words
pub mod Ids
pub mod Part
pub mod Refusal
pub mod Answer
pub mod Reply
pub mod Parsed
pub mod MethodEnded
pub mod MethodWritten
