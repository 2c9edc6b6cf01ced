mod Giving
mod Places
mod Running
