mod DaemonLaws
mod FreedLaws
mod LogLaws
mod PartLaws
mod TraceLaws
