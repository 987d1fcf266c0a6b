pub mod BackLaws
pub mod BreachLaws
pub mod BrokenLaws
pub mod QuietLaws
pub mod WithinLaws
