pub mod Standings
