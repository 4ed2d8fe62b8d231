-- what a step took from the bytes, and what joins steps
pub mod Steps
-- steps one after the other, as a loop does them
pub mod Loop
-- readers whose answers hold whatever follows the bytes
pub mod Steady
