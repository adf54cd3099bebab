-- What the functions on opened knowledges leave, and what they promise.
pub mod MethodOpened
