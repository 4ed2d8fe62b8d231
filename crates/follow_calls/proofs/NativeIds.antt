-- The id of a method with code is that of no native.
use Rattle.std.proofs.Common.{◌≡◌, ℕ, ◌-◌, Bool, true, false, nat_lt, if◌then◌else◌, Some, None, refl, arith}
use Rattle.std.specs.Prelude.{slice_get}
use Rattle.std.proofs.lemmas.Bool.Decides.{nat_tests}
use Rattle.std.proofs.lemmas.Option.{none-some, slice_get_past}
use Rattle.library.specs.Classes.{first_own}
use Rattle.library.specs.Natives.{natives, native_of}
use Rattle.image_form.specs.declared.record.Image.{Image}
use Rattle.image_form.specs.declared.record.Method.{Method}
use Rattle.mote_model.specs.SplitState.{method_at}

by_test : (image : Image) (id : ℕ) (method : Method) (low : Bool) → nat_lt id first_own ≡ low → (if low then None else slice_get image.methods (id - first_own)) ≡ Some method → native_of id ≡ None
by_test image id method true test is = absurd (none-some method is)
by_test image id method false test is = slice_get_past natives id (grind (arith, nat_tests, test))

pub no_native : (image : Image) (id : ℕ) (method : Method) → method_at image id ≡ Some method → native_of id ≡ None
no_native image id method is = by_test image id method (nat_lt id first_own) refl is
