-- Tables of words, the plan of what is written for them, and the pieces that are written.
pub mod MethodWords
pub mod MethodPlan
pub mod MethodPieces
