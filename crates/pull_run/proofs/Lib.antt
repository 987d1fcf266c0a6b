mod GrowLaws
mod PullLaws
