mod CameLaws
mod DiskLaws
mod NoneLaws
mod SafelyLaws
mod TextLaws
mod WrittenLaws
