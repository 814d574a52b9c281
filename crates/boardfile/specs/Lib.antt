pub mod Faults
pub mod Fits
pub mod Layout
pub mod Numbers
pub mod Reads
pub mod Words
pub mod Writes
