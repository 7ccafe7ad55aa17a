mod Document
mod Entries
mod Members
mod OneReading
mod Parts
mod Pieces
mod Printed
mod Spelled
