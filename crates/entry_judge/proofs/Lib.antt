pub mod NeverLaws
