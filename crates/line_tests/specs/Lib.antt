pub mod OnePlaces
pub mod Swaps
pub mod OnePlacesLemmas
