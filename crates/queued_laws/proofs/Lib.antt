mod Along
mod Confirmed
mod Quiet
mod Orders
mod Scripts
