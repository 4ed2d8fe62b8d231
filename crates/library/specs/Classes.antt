-- The classes of the library, by their numbers.
use Rattle.std.specs.Prelude.{ℕ, Bool, nat_lt, List, [], ◌∷◌, Option, Some, None, codes}

-- the first number of what is a set's or an image's own; those below are the library's
abbrev pub first_own : ℕ
first_own = 32

-- the names of the classes, that of number 0 first; the numbers from 15 to 31 name none
abbrev pub class_names : List (List ℕ)
class_names =
    codes "java/lang/Object"
    ∷ codes "java/lang/Throwable"
    ∷ codes "java/lang/Exception"
    ∷ codes "java/lang/RuntimeException"
    ∷ codes "java/lang/ArithmeticException"
    ∷ codes "java/lang/NullPointerException"
    ∷ codes "java/lang/ClassCastException"
    ∷ codes "java/lang/ArrayStoreException"
    ∷ codes "java/lang/NegativeArraySizeException"
    ∷ codes "java/lang/IndexOutOfBoundsException"
    ∷ codes "java/lang/ArrayIndexOutOfBoundsException"
    ∷ codes "java/lang/Error"
    ∷ codes "java/lang/LinkageError"
    ∷ codes "java/lang/IncompatibleClassChangeError"
    ∷ codes "mote/Console"
    ∷ []

-- the superclasses, that of number 0 first, which has none
abbrev pub superclasses : List (Option ℕ)
superclasses =
    None ∷ Some 0 ∷ Some 1 ∷ Some 2 ∷ Some 3 ∷ Some 3 ∷ Some 3 ∷ Some 3 ∷ Some 3 ∷ Some 3 ∷ Some 9 ∷ Some 1 ∷ Some 11 ∷ Some 12 ∷ Some 0 ∷ []

-- the number is that of a class of the library
abbrev pub is_library_class : ℕ → Bool
is_library_class class = nat_lt class 15
