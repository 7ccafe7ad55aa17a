mod Listed
mod Plain
mod Strings
