mod BitLaws
mod PlaceLaws
