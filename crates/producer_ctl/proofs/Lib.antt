mod PairLaws
mod RuleLaws
mod NamedLaws
mod BegunLaws
mod ProducingLaws
mod PlainLaws
pub mod WithinLaws
mod StoreLaws
mod SentLaws
mod SendLaws
pub mod TableLaws
pub mod NodeLaws
