pub mod NameLaws
pub mod PlacesLaws
pub mod PlannedLaws
pub mod SeenLaws
pub mod StateLaws
pub mod StoreLaws
pub mod VersionLaws
pub mod TakenLaws
