pub mod Euler
