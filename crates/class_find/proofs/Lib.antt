-- the first answer along a way: how it is at each position
mod WayAnswers
-- the package of a name, byte by byte
mod Packages
-- what a call answers, where what is found is so
mod FoundHere
