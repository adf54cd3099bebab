-- Lists of calls under small limits: the calls, what each answers, and the bytes at the end.
pub mod Small
pub mod ReplicasFull
pub mod RangesFull
pub mod RecordsFull
