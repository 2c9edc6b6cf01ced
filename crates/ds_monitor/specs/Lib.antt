pub mod Judgements
