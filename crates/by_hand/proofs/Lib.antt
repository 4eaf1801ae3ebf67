mod Shown
mod ThreeWords
mod TablesFile
