mod RegionLaws
mod EachLaws
mod RoomLaws
