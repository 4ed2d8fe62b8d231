-- the first position of a list at which a test passes
mod Positions
