mod Fours
mod HeldWords
mod MixedImage
