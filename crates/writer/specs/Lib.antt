-- The writer's own method.
pub mod Method
