mod Growing
mod Found
mod Turns
mod Names
