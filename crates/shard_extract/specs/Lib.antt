pub mod HashTo
