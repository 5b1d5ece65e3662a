mod Handing
mod Lines
mod States
