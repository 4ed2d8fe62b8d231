-- from each pc whose types are known control comes to a machine instruction
pub mod ComingOn
-- the machine instructions of an instruction lead where it leads
pub mod Leading
-- each body of an accepted set is such a body
pub mod AcceptedBodies
-- machine instructions one after the other, each with its offset
pub mod ListedInsns
-- the machine instructions of a body's code
pub mod EmittedCode
-- what holds of the method of each body holds of each method of an image
pub mod ImageMethods
-- the code of each method of an image is right instructions
pub mod RightInsns
-- the signature of what is called
pub mod CalledSignatures
-- what machine instructions name
pub mod names
-- machine instructions one after another, from one depth to another
pub mod DepthSums
-- constants, locals, numbers, jumps and switches
pub mod RightNumbers
-- operands that move as they are
pub mod RightStacks
-- values of declared types that are read, written and returned
pub mod RightResults
-- calls of static methods
pub mod RightCalls
-- the machine instructions of each built instruction
pub mod MovedDepths
-- arrays that instructions declare have dimensions
pub mod DeclaredDims
-- the shapes of operands where whole numbers have two cells
pub mod WideShapes
-- what known instructions do to the operands, and where they lead
pub mod KnownSteps
-- what machine instructions move, by the signature of what is called
pub mod CalledEffects
-- the greatest number of operand cells of an instruction
pub mod MostOperands
-- the depths over a body's machine instructions fit its frame
pub mod FittingDepths
-- what holds over machine instructions holds before each of them
pub mod BetweenInsns
-- the offsets of machine instructions, with the depths there
pub mod DepthSpots
-- what the code has at machine instructions that follow one another
pub mod ReadSpots
-- the points of a body's code, from which control goes to points
pub mod DepthPoints
-- the depths in each method of an image are right
pub mod RightDepths
