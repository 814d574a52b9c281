pub mod Numbers
pub mod Chains
pub mod Stores
pub mod Lists
