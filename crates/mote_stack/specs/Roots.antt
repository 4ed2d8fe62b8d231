-- The references of all frames: the roots that frames give a collection.
use Rattle.std.specs.Prelude.{ℕ, ◌-◌, List, [], ◌∷◌, ◌++◌, length, nat_lt, slice_set, if◌then◌else◌}
use Rattle.mote_stack.specs.Frames.{Frame, Stack}

-- the references of frames of which the youngest is the first; those of the oldest frame come first
abbrev pub refs_of : List Frame → List ℕ
refs_of [] = []
refs_of (frame ∷ older) = refs_of older ++ frame.refs

abbrev pub roots_of : Stack → List ℕ
roots_of stack = refs_of stack.frames

-- the frames with another reference k
abbrev pub set_reference : List Frame → ℕ → ℕ → List Frame
set_reference [] k v = []
set_reference (frame ∷ older) k v =
    if nat_lt k (length (refs_of older))
    then frame ∷ set_reference older k v
    else (record frame { refs = slice_set frame.refs (k - length (refs_of older)) v }) ∷ older

-- the stack with another root k
abbrev pub with_root : Stack → ℕ → ℕ → Stack
with_root stack k v = record stack { frames = set_reference stack.frames k v }
