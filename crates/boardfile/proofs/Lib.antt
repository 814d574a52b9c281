pub mod First
pub mod Judged
pub mod Lends
pub mod Limit
pub mod Records
pub mod Unique
