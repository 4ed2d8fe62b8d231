-- the frames in which main starts match
pub mod StartFrames
-- the statics before main starts match
pub mod StartStatics
-- the states in which runs start match
pub mod StatesStart
