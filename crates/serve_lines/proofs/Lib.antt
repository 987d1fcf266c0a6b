mod AskingLaws
mod HeadLaws
