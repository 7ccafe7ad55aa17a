mod Neighbours
mod Stages
