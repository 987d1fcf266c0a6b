mod LiveLaws
mod PuttingLaws
mod ReportLaws
mod ResultLaws
