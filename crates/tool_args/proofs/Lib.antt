mod Answered
mod Tables
mod Worked
