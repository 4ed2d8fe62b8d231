-- What the operands of an instruction have to be, as tests of the typing rules.
use Rattle.std.specs.Prelude.{Bool, false, ◌&&◌, ◌||◌, List, map}
use Rattle.class_file.specs.declared.record.ClassFile.{ClassFile}
use Rattle.body_form.specs.declared.types.VType.{VType}
use Rattle.jvm_model.specs.TypesFrames.{is_int, fits_type}
use Rattle.jvm_model.specs.TypesRules.{is_constructed, has_kind, fits_class, is_this, is_array, is_array_of, is_elements_value}
use Rattle.flow_verify.specs.declared.need.Need.{Need}
use Rattle.flow_verify.specs.declared.need.Need.TheVariants as need

-- the test that an operand has to pass
abbrev pub test_of : List ClassFile → Need → VType → Bool
test_of files need.Int = is_int
test_of files need.Constructed = is_constructed
test_of files (need.Declared type) = fits_type files type
test_of files need.Never = λ value. false
test_of files (need.Class class) = fits_class files class
test_of files (need.BothClasses first second) = λ value. fits_class files first value && fits_class files second value
test_of files (need.Returned kind type) = λ value. has_kind kind value && fits_type files type value
test_of files (need.Written class own) = λ value. fits_class files class value || (is_this value && own)
test_of files need.Array = is_array
test_of files (need.ArrayOf kind) = is_array_of kind
test_of files (need.Element kind) = is_elements_value kind

abbrev pub tests_of : List ClassFile → List Need → List (VType → Bool)
tests_of files needs = map (test_of files) needs
