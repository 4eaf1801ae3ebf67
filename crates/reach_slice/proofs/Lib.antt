mod Kept
mod Joined
mod Sliced
