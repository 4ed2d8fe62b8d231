-- What is known before an instruction (JVMS 4.10.2): the types of values that are declared, how what comes from
-- two places merges, and what a method starts with.
use Rattle.std.specs.Prelude.{◌≡◌, ◌-◌, Bool, true, false, ◌||◌, if◌then◌else◌, List, [], ◌∷◌, ◌++◌, map, length, replicate, Option, Some, None, option_map, option_and_then, unwrap_or, slice_get, Ok, Err}
use Rattle.std.specs.Option.{option_map_or}
use Rattle.std.specs.List.{AllByRecursion}
use Rattle.std.specs.Str.{bytes_eq}
use Rattle.class_pool.specs.declared.descriptor.Kind.{Kind}
use Rattle.class_pool.specs.declared.types.TypeRef.{TypeRef}
use Rattle.class_file.specs.declared.record.ClassFile.{ClassFile}
use Rattle.class_tree.specs.Subtypes.{class_type}
use Rattle.class_tree.specs.Members.{methods_of}
use Rattle.class_tree.specs.Merge.{is_reference, merge}
use Rattle.class_tree.specs.MergeLaws.{IsKnown}
use Rattle.class_tree.specs.Fits.{fits}
use Rattle.body_form.specs.declared.body.Body.{Body}
use Rattle.body_form.specs.declared.types.VType.{VType}
use Rattle.body_form.specs.declared.types.VType.TheVariants as known
use Rattle.body_form.specs.declared.types.VFrame.{VFrame}
use Rattle.jvm_model.specs.Resolution.{Resolved, kind_named}
use Rattle.jvm_model.specs.MethodUses.{constructor_name}

-- ---- declared types

abbrev pub is_int : VType → Bool
is_int known.Int = true
is_int type = false

-- what is known of a value of a type: a reference of the type, or else an int, whatever its small type
abbrev pub value_of : TypeRef → VType
value_of type = if is_reference type.dims type.base then known.Ref type else known.Int

abbrev pub value_in : Resolved TypeRef → Option VType
value_in (Ok type) = Some (value_of type)
value_in (Err why) = None

-- what is known of a value of a declared type; a closed set has each class that a descriptor names
abbrev pub value_of_kind : List ClassFile → Kind → Option VType
value_of_kind files kind = value_in (kind_named files kind)

-- a value may stand where a type is declared: a reference where it fits the type, an int for any whole number
abbrev pub fits_type : List ClassFile → TypeRef → VType → Bool
fits_type files type value = if is_reference type.dims type.base then fits files value type else is_int value

abbrev pub fits_in : List ClassFile → Resolved TypeRef → VType → Bool
fits_in files (Ok type) value = fits_type files type value
fits_in files (Err why) value = false

abbrev pub fits_kind : List ClassFile → Kind → VType → Bool
fits_kind files kind value = fits_in files (kind_named files kind) value

-- ---- merges

abbrev pub is_top : VType → Bool
is_top known.Top = true
is_top type = false

-- a local may be anything
abbrev pub may_be_local : VType → Bool
may_be_local type = true

-- of an operand something is known
abbrev pub may_be_operand : VType → Bool
may_be_operand type = if is_top type then false else true

-- The types that merge one by one. Lists of two lengths do not merge, nor do types whose merge may not stand there.
unfoldable pub merge_lists : List ClassFile → (VType → Bool) → List VType → List VType → Option (List VType)
merge_lists files allowed [] [] = Some []
merge_lists files allowed [] (b ∷ seconds) = None
merge_lists files allowed (a ∷ firsts) [] = None
merge_lists files allowed (a ∷ firsts) (b ∷ seconds) =
    if allowed (merge files a b) then option_map (λ types. merge files a b ∷ types) (merge_lists files allowed firsts seconds) else None

-- The merge of two frames. Operand stacks of two heights do not merge, nor do operands of which nothing would be
-- known. A constructor has yet to call another one where it has on one of the ways.
abbrev pub merge_frames : List ClassFile → VFrame → VFrame → Option VFrame
merge_frames files f g =
    option_and_then (λ locals. option_map (λ stack. record { locals = locals; stack = stack; pending = f.pending || g.pending }) (merge_lists files may_be_operand f.stack g.stack))
    (merge_lists files may_be_local f.locals g.locals)

-- the frame says no more than the other: merged into it, the other leaves it as it is
abbrev pub IsAbove : List ClassFile → VFrame → VFrame → Type 0
IsAbove files upper lower = merge_frames files upper lower ≡ Some upper

-- ---- the types of a set

-- each type is one of the set
pub record IsKnownFrame (files : List ClassFile) (frame : VFrame) : Type 0 where
  pub locals : AllByRecursion (IsKnown files) frame.locals
  pub stack : AllByRecursion (IsKnown files) frame.stack

-- ---- the start of a method

-- the body is that of a constructor
abbrev pub is_constructor : List ClassFile → Body → Bool
is_constructor files body = option_map_or (λ method. bytes_eq method.name constructor_name) (slice_get (methods_of files body.class) body.method) false

-- the object that a method is called on: in a constructor one that is not yet constructed
abbrev pub receiver_of : List ClassFile → Body → List VType
receiver_of files body =
    if body.instance then (if is_constructor files body then known.This else known.Ref (class_type body.class)) ∷ [] else []

-- what a parameter holds
abbrev pub parameter_of : List ClassFile → Kind → VType
parameter_of files kind = unwrap_or (value_of_kind files kind) known.Top

abbrev pub arguments_of : List ClassFile → Body → List VType
arguments_of files body = receiver_of files body ++ map (parameter_of files) body.params

-- the arguments in the first locals, nothing in the others, no operands
abbrev pub start_frame : List ClassFile → Body → VFrame
start_frame files body =
    record {
      locals = arguments_of files body ++ replicate (body.max_locals - length (arguments_of files body)) known.Top;
      stack = [];
      pending = is_constructor files body;
    }
