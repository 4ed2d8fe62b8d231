-- facts of checked code, of cells and of frames
pub mod facts
-- moves, family by family
pub mod moves
