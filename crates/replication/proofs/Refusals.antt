-- When each call refuses, number by number, in plain relations.
pub mod Table
pub mod Tests
pub mod New
pub mod Edit
pub mod Make
pub mod Apply
