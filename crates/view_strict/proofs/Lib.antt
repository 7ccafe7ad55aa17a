mod Besides
mod Sound
