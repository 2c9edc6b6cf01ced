mod Running
mod Turning
mod Logging
mod Growing
mod Stopping
mod Working
mod Tasking
