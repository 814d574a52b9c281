pub mod Keys
pub mod Ids
pub mod Numbers
pub mod Chains
pub mod Orders
pub mod Lists
pub mod KeysLemmas
