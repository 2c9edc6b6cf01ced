mod Pieces
mod Tellings
mod Arrivals
mod Judgements
mod Entries
mod DeskRanges
