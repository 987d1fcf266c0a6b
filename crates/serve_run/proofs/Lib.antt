mod LineLaws
mod SceneLaws
mod WindowLaws
mod TurnLaws
mod FaultLaws
mod EndLaws
mod CompleteLaws
