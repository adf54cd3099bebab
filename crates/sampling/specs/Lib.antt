-- The method of filling tables.
pub mod MethodColumns
pub mod MethodRows
pub mod MethodStops
pub mod MethodCells
pub mod MethodTables
