mod Asked
mod Leaving
mod Holding
