-- What is asked of a type that an instruction or an exception table names.
use Rattle.std.specs.Prelude.{Bool, List}
use Rattle.class_pool.specs.declared.types.TypeRef.{TypeRef}
use Rattle.class_file.specs.declared.record.ClassFile.{ClassFile}
use Rattle.body_make.specs.declared.type_test.TypeTest.{TypeTest}
use Rattle.body_make.specs.declared.type_test.TypeTest.TheVariants as test
use Rattle.jvm_model.specs.Instructions.{any_type, may_be_made, may_be_element, has_counted, may_be_caught}

-- the test as a function of the type
abbrev pub test_of : List ClassFile → TypeTest → TypeRef → Bool
test_of files test.Any type = any_type type
test_of files test.Made type = may_be_made files type
test_of files test.Element type = may_be_element type
test_of files (test.Counted dims) type = has_counted dims type
test_of files test.Caught type = may_be_caught files type
