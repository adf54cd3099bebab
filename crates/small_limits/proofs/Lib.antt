-- The laws of the lists under small limits: demand 3 speaks of each, which calls are refused and by which numbers, and the bytes at the end.
pub mod Small
pub mod ReplicasFull
pub mod RangesFull
pub mod RecordsFull
