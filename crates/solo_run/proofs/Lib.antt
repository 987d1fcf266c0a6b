mod FactsLaws
mod KnownLaws
mod PlaceLaws
mod PlayLaws
mod SoloLaws
