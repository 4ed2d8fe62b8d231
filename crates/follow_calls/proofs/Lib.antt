-- a caller that goes on behind its call
pub mod ResumedCallers
-- what reads the result of a call
pub mod CallResults
-- a method that returns nothing
pub mod ReturnedFrames
-- the operands of a caller
pub mod WaitingOperands
-- a result that is a reference
pub mod ReferenceResults
-- references of statics at their places
pub mod StaticPlaces
-- the value that a method returns
pub mod ReturnedValues
-- a method that returns a reference
pub mod ReturnedReferences
-- how the kinds of parameters are passed
pub mod ParameterKinds
-- arguments that pass the tests of parameters
pub mod TestedArguments
-- locals in their order
pub mod FirstLocals
-- where the cells of arguments stand
pub mod PassedCells
-- arguments beside their parameters
pub mod PairedArguments
-- arguments as they stand on the stack
pub mod TurnedArguments
-- what cuts the arguments of a call
pub mod CutArguments
-- a frame at its call
pub mod CutCalls
-- what extends parameters
pub mod FilledLocals
-- the rooms of locals
pub mod CalledRooms
-- what parameters take of arguments
pub mod TakenValues
-- the parameters of a method as its first locals
pub mod CalledLocals
-- the references of a new frame
pub mod CalledReferences
-- what extends the parameters of a method that is called
pub mod CalledFills
-- the cells of a new frame
pub mod CalledCells
-- the whole numbers of a new frame
pub mod CalledNumbers
-- what a new frame takes of its caller
pub mod TakenOperands
-- a method that starts on the split machine
pub mod EnteredBodies
-- a caller that waits at its call
pub mod WaitingCallers
-- the start of a method by its types
pub mod StartedBodies
-- parameters as descriptors name them
pub mod DeclaredParameters
-- the ids of methods with code
pub mod NativeIds
-- the arguments of a call of a static method
pub mod StaticArguments
-- a static method that is called
pub mod CalledStatics
-- the cells of what a declared type keeps
pub mod KeptCells
-- declared types of whole numbers
pub mod WholeKinds
-- fields that stand once among all
pub mod FieldsOnce
-- the places of such fields
pub mod PlacesOnce
-- static fields as they are declared
pub mod DeclaredStatics
-- a number as its type keeps it
pub mod KeptNumbers
-- items at their places
pub mod PlacedItems
-- a number that is cut to the result
pub mod CutResults
-- a method that returns a whole number
pub mod ReturnedNumbers
-- where statics stand, and what a write of one changes
pub mod StaticParts
-- a static that is read
pub mod ReadStatics
-- states whose statics or objects change
pub mod ChangedStates
-- a static that is written
pub mod WrittenStatics
-- moves that need and show something
pub mod LoudMoves
-- the moves of both machines where a static method is a native
pub mod NativeMoves
-- calls of static methods that are natives
pub mod NativeCalls
