-- Laws of the formats: what is encoded so is nothing else.
use Rattle.std.specs.Prelude.{◌≡◌, ℕ, List, ◌++◌}
use Rattle.class_pool.specs.declared.descriptor.Kind.{Kind}
use Rattle.class_pool.specs.declared.descriptor.Descriptor.{Descriptor}
use Rattle.class_pool.specs.Pool.{Slots, pool_bytes, IsPool}
use Rattle.class_pool.specs.Descriptors.{IsFieldText, IsMethodText}

-- bytes begin with the encoding of one pool, and no encoding is a proper prefix of another
abbrev pub BeginsWithOnePool : Type 0
BeginsWithOnePool =
    (first second : Slots) (after_first after_second : List ℕ) → IsPool first → IsPool second → pool_bytes first ++ after_first ≡ pool_bytes second ++ after_second
    → (first ≡ second) × (after_first ≡ after_second)

-- a text is the descriptor of one type
abbrev pub NamesOneType : Type 0
NamesOneType = (text : List ℕ) (first second : Kind) → IsFieldText text first → IsFieldText text second → first ≡ second

-- a text is one descriptor of a method
abbrev pub IsOneDescriptor : Type 0
IsOneDescriptor = (text : List ℕ) (first second : Descriptor) → IsMethodText text first → IsMethodText text second → first ≡ second
