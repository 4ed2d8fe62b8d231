-- Calls as the code says them: by the kind of the call, the name of the method, and what is found.
use Rattle.std.specs.Prelude.{ℕ, Bool, true, false, ◌&&◌, not, nat_eq, List, Option, Some, Ok}
use Rattle.std.specs.Option.{ok_or}
use Rattle.class_pool.specs.declared.types.MemberId.{MemberId}
use Rattle.class_pool.specs.Pool.{Slots}
use Rattle.class_file.specs.declared.record.ClassFile.{ClassFile}
use Rattle.body_form.specs.declared.op.MethodUse.{MethodUse}
use Rattle.body_make.specs.declared.calls.Invoke.{Invoke}
use Rattle.body_make.specs.declared.calls.Invoke.TheVariants as invoke
use Rattle.body_make.specs.declared.calls.MethodName.{MethodName as Named}
use Rattle.body_make.specs.declared.calls.Found.{Found}
use Rattle.body_make.specs.MemberUses.{name_of}
use Rattle.jvm_model.specs.declared.refusal.Cause.TheVariants.{WrongKind}
use Rattle.jvm_model.specs.Resolution.{Resolved, and_then, MethodName}
use Rattle.jvm_model.specs.MethodUses.{Call, is_constructor, fits_call, fits_special, argument_places, special_target, use_of, call_used}

-- the method that is named
abbrev pub method_of : Named → MethodName
method_of named = record { member = name_of named.member; of_interface = named.of_interface }

-- the call of what is named, where this is found
abbrev pub call_of : Named → Found → Call
call_of named found = record { named = method_of named; class = found.class; found = found.method; type = found.descriptor }

-- a call of this kind may name the method of a class, or of an interface
abbrev pub takes_tag : Invoke → Bool → Bool
takes_tag invoke.Virtual of_interface = not of_interface
takes_tag invoke.Special of_interface = true
takes_tag invoke.Static of_interface = true
takes_tag (invoke.Interface count) of_interface = of_interface

abbrev pub tag_of : Invoke → MethodName → Bool
tag_of invoke named = takes_tag invoke named.of_interface

-- what is found is of the kind that it needs
abbrev pub fits : List ClassFile → ℕ → Invoke → Call → Bool
fits files from invoke.Virtual call = fits_call files false call && not (is_constructor call)
fits files from invoke.Special call = fits_call files false call && fits_special files from call
fits files from invoke.Static call = fits_call files true call && not (is_constructor call)
fits files from (invoke.Interface count) call = fits_call files false call && (not (is_constructor call) && nat_eq count (argument_places call.type))

-- the method that it calls
abbrev pub target_of : List ClassFile → ℕ → Invoke → Call → Option MemberId
target_of files from invoke.Special call = special_target files from call
target_of files from _ call = Some call.found

-- the use of the method that it makes
abbrev pub used_by : List ClassFile → ℕ → Slots → Invoke → ℕ → Resolved MethodUse
used_by files from pool invoke index =
    and_then (λ call. and_then (λ target. Ok (use_of files call target)) (ok_or (target_of files from invoke call) WrongKind))
    (call_used files from pool (tag_of invoke) (fits files from invoke) index)
