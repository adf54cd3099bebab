-- What valid stores and batches are and what the calls write, in plain numbers, and that this settles the bytes.
pub mod Valid
pub mod Edit
pub mod Make
pub mod Apply
pub mod Settled
