mod NamesLaws
mod PositionsLaws
mod DifferentLaws
mod PlacedLaws
mod KeptLaws
mod RoomLaws
mod SendCountLaws
mod ShelfLaws
mod WrittenLaws
mod StoresLaws
mod ReshapeLaws
mod AfterLaws
mod GrowLaws
mod GrowStoresLaws
pub mod SendLaws
pub mod PlaceLaws
