pub mod Readable
pub mod Sized
pub mod Tells
