-- The derived test of two constants is the test of specs/Entries.antt.
use Rattle.std.proofs.Common.{◌≡◌, Bool, refl}
use Rattle.class_pool.specs.contracts.pool.ConstPartialEq.TheImpl as block
use Rattle.class_pool.specs.declared.pool.Const.{Const}
use Rattle.class_pool.specs.declared.pool.Const.TheVariants.{Utf8, Integer, Float, Long, Double, Class, String, Field, Method, InterfaceMethod, NameAndType, MethodHandle, MethodType, InvokeDynamic}
use Rattle.class_make.specs.Entries.{is_same}

-- the derived test
abbrev pub const_eq : Const → Const → Bool
const_eq = block.ghosts.eq

pub eq_is_same : (a b : Const) → const_eq a b ≡ is_same a b
unfolding is_same
eq_is_same (Utf8 a) (Utf8 b) = refl
eq_is_same (Integer a) (Integer b) = refl
eq_is_same (Float a) (Float b) = refl
eq_is_same (Long a) (Long b) = refl
eq_is_same (Double a) (Double b) = refl
eq_is_same (Class a) (Class b) = refl
eq_is_same (String a) (String b) = refl
eq_is_same (Field a c) (Field b d) = refl
eq_is_same (Method a c) (Method b d) = refl
eq_is_same (InterfaceMethod a c) (InterfaceMethod b d) = refl
eq_is_same (NameAndType a c) (NameAndType b d) = refl
eq_is_same (MethodHandle a c) (MethodHandle b d) = refl
eq_is_same (MethodType a) (MethodType b) = refl
eq_is_same (InvokeDynamic a c) (InvokeDynamic b d) = refl
eq_is_same _ _ = refl
