mod Turns
mod Fronts
