pub mod Behind
pub mod Entries
pub mod Entry
pub mod Laws
pub mod Readable
pub mod Reads
