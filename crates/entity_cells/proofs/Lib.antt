pub mod Keeping
mod CellLaws
mod StashLaws
mod MadeLaws
