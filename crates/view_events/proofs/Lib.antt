mod Chain
mod Listed
mod Loops
mod Steps
mod TreeEvents
