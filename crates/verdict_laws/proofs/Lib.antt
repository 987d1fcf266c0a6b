pub mod CutLaws
pub mod LineLaws
pub mod MeaningLaws
pub mod StepLaws
