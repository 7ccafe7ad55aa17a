mod Begun
mod Endings
mod Timed
mod Trailers
mod Updated
