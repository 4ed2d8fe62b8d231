-- something is known of each operand
pub mod KnownOperands
-- operands of wide bodies by their values
pub mod WideOperands
-- states that match behind an instruction
pub mod NextStates
-- matches of one machine instruction
pub mod NextMoves
-- whole numbers that are taken off the operands
pub mod TakenNumbers
-- frames that catch what is thrown
pub mod CaughtFrames
-- throws of the machine
pub mod MachineThrows
-- arithmetic of two whole numbers
pub mod BinaryNumbers
-- numbers that become others
pub mod UnaryNumbers
-- jumps, and branches on whole numbers
pub mod NumberBranches
-- branches on references
pub mod ReferenceBranches
-- where the youngest frame stands
pub mod FrameStands
-- what stands beside a relation
pub mod HeldBeside
-- objects of the library that the machine throws
pub mod LibraryObjects
-- rows catch classes alike
pub mod CaughtClasses
-- classes by those directly above them
pub mod ClassesUp
-- the image and the set agree on classes
pub mod ImageClasses
-- what stands above a class is of the set
pub mod SupersInside
-- types begin with the classes
pub mod TypesBegin
-- entries of classes at their places
pub mod ClassEntries
-- the classes of a closed set stand in its image
pub mod ClassesStand
-- places of classes among the types
pub mod ClassPlaces
