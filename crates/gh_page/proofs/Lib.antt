mod Answered
mod Lines
mod Told
