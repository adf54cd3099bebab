-- Refusals once more: by counts, in lists of calls, and of each call all that is said as one statement that settles the reply.
pub mod Counts
pub mod Join
pub mod Settled
pub mod List
