mod Under
mod Places
mod Covered
mod Short
mod Heads
