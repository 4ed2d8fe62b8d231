-- By the rules of types only a store sets a local, to a type of its kind.
use Rattle.std.proofs.Common.{◌≡◌, ℕ, Bool, true, false, ◌&&◌, nat_lt, if◌then◌else◌, List, [], ◌∷◌, ◌++◌, length, drop, Option, Some, None, option_and_then, refl, sym, ap, subst, ◌∙◌}
use Rattle.std.specs.Prelude.{slice_get}
use Rattle.std.specs.List.{list_any}
use Rattle.std.specs.Str.{bytes_eq}
use Rattle.std.proofs.lemmas.Bool.{and_parts}
use Rattle.std.proofs.lemmas.Option.{none-some, same_Some}
use Rattle.class_file.specs.declared.record.ClassFile.{ClassFile}
use Rattle.insn_form.specs.declared.ElementKind.{ElementKind}
use Rattle.insn_form.specs.declared.ElementKind.TheVariants as element
use Rattle.insn_form.specs.declared.StackForm.{StackForm}
use Rattle.insn_form.specs.declared.StackForm.TheVariants as form
use Rattle.insn_form.specs.declared.ValueKind.{ValueKind}
use Rattle.body_form.specs.declared.body.Body.{Body}
use Rattle.body_form.specs.declared.op.MethodUse.{MethodUse}
use Rattle.body_form.specs.declared.op.Op.{Op}
use Rattle.body_form.specs.declared.op.Op.TheVariants as op
use Rattle.body_form.specs.declared.types.VFrame.{VFrame}
use Rattle.body_form.specs.declared.types.VType.{VType}
use Rattle.body_form.specs.declared.types.VType.TheVariants as known
use Rattle.jvm_model.specs.MethodUses.{constructor_name}
use Rattle.jvm_model.specs.TypesFrames.{is_int}
use Rattle.jvm_model.specs.TypesRules.{Change, has_kind, plain, plain_of, change_of, restack, load, store, increment, array_load, returned, call, argument_tests, result_of, construct_on, construct, call_special, takes, makes_class, op_at, is_own_or_super, is_same_object, field_value}
use Rattle.follow_operands.proofs.LocalRules.{where_true}

-- the change sets no local
StoresNone : Change → Type 0
StoresNone change = change.stores ≡ None

-- where a change is made at all, it sets none
abbrev SetsNone : Option Change → Type 0
SetsNone found = (change : Change) → found ≡ Some change → StoresNone change

none_made : SetsNone None
none_made change is = absurd (none-some change is)

one_made : (made : Change) → made.stores ≡ None → SetsNone (Some made)
unfolding StoresNone
one_made made none change is = ap (λ (c : Change). c.stores) (sym (same_Some made change is)) ∙ none

if_made : (test : Bool) (made : Change) → made.stores ≡ None → SetsNone (if test then Some made else None)
if_made true made none = one_made made none
if_made false made none = none_made

plain_made : (frame : VFrame) (tests : List (VType → Bool)) (pushes : List VType) → SetsNone (plain frame tests pushes)
plain_made frame tests pushes = if_made (takes tests frame.stack) _ refl

plain_of_made : (frame : VFrame) (tests : List (VType → Bool)) (pushes : Option (List VType)) → SetsNone (plain_of frame tests pushes)
plain_of_made frame tests None = none_made
plain_of_made frame tests (Some pushes) = plain_made frame tests pushes

either_made : (test : Bool) (first second : Option Change) → SetsNone first → SetsNone second → SetsNone (if test then first else second)
either_made true first second one other = one
either_made false first second one other = other

load_made : (frame : VFrame) (kind : ValueKind) (found : Option VType) → SetsNone (load frame kind found)
load_made frame kind None = none_made
load_made frame kind (Some type) = either_made (has_kind kind type) (plain frame [] (type ∷ [])) None (plain_made frame [] (type ∷ [])) none_made

increment_made : (frame : VFrame) (found : Option VType) → SetsNone (increment frame found)
increment_made frame None = none_made
increment_made frame (Some type) = either_made (is_int type) (plain frame [] []) None (plain_made frame [] []) none_made

restack_made : (frame : VFrame) (f : StackForm) (stack : List VType) → SetsNone (restack frame f stack)
restack_made frame form.Pop (a ∷ rest) = one_made _ refl
restack_made frame form.Pop2 (a ∷ b ∷ rest) = one_made _ refl
restack_made frame form.Dup (a ∷ rest) = one_made _ refl
restack_made frame form.DupX1 (a ∷ b ∷ rest) = one_made _ refl
restack_made frame form.DupX2 (a ∷ b ∷ c ∷ rest) = one_made _ refl
restack_made frame form.Dup2 (a ∷ b ∷ rest) = one_made _ refl
restack_made frame form.Dup2X1 (a ∷ b ∷ c ∷ rest) = one_made _ refl
restack_made frame form.Dup2X2 (a ∷ b ∷ c ∷ d ∷ rest) = one_made _ refl
restack_made frame form.Swap (a ∷ b ∷ rest) = one_made _ refl
restack_made frame f stack = none_made

tests_made : (frame : VFrame) (tests : Option (List (VType → Bool))) → SetsNone (option_and_then (λ tests. plain frame tests []) tests)
tests_made frame None = none_made
tests_made frame (Some tests) = plain_made frame tests []

array_made : (frame : VFrame) (kind : ElementKind) (stack : List VType) → SetsNone (array_load frame kind stack)
array_made frame element.Ref (index ∷ array ∷ stack) = plain_made frame _ _
array_made frame element.Ref (index ∷ []) = none_made
array_made frame element.Ref [] = none_made
array_made frame kind stack = plain_made frame _ _

module _ (files : List ClassFile) (body : Body) where
  call_made : (frame : VFrame) (used : MethodUse) (receiver : List (VType → Bool)) → SetsNone (call files frame used receiver)
  call_made frame used receiver = plain_of_made frame (argument_tests files used ++ receiver) (result_of files used.descriptor.result)

  construct_on_made : (frame : VFrame) (used : MethodUse) (stack : List VType) → SetsNone (construct_on files body frame used stack)
  construct_on_made frame used (known.New pc ∷ stack) = if_made (makes_class used.class (op_at body.ops pc)) _ refl
  construct_on_made frame used (known.This ∷ stack) = if_made (is_own_or_super files body.class used.class) _ refl
  construct_on_made frame used stack = none_made

  special_made : (frame : VFrame) (used : MethodUse) → SetsNone (call_special files body frame used)
  special_made frame used =
      either_made (bytes_eq used.name constructor_name) (construct files body frame used) _
      (either_made (takes (argument_tests files used) frame.stack) (construct_on files body frame used (drop (length used.descriptor.params) frame.stack)) None
      (construct_on_made frame used (drop (length used.descriptor.params) frame.stack)) none_made)
      (call_made frame used _)

  -- the instruction stores so in the local
  abbrev pub IsStoreOf : Op → ℕ → VType → Type 0
  IsStoreOf instruction local type = (kind : ValueKind) × (instruction ≡ op.Store kind local) × (has_kind kind type ≡ true)

  -- a change that sets a local is that of a store
  SetsByStore : Op → Option Change → Type 0
  SetsByStore instruction found = (change : Change) → found ≡ Some change → (local : ℕ) (type : VType) → change.stores ≡ Some (local, type) → IsStoreOf instruction local type

  by_none : (instruction : Op) (found : Option Change) → SetsNone found → SetsByStore instruction found
  unfolding StoresNone SetsByStore
  by_none instruction found none change is local type sets = absurd (none-some (local, type) (sym (none change is) ∙ sets))

  store_made : (frame : VFrame) (kind : ValueKind) (local : ℕ) (stack : List VType) → SetsByStore (op.Store kind local) (store frame kind local stack)
  unfolding SetsByStore
  store_made frame kind local [] change is found type sets = absurd (none-some change is)
  store_made frame kind local (top ∷ stack) change is found type sets =
      let made : Change = record { pops = 1; renames = None; stores = Some (local, top); pushes = []; pending = frame.pending } in
      let holds = where_true (has_kind kind top && nat_lt local (length frame.locals)) (Some made) change is in
      let same : Some (local, top) ≡ Some (found, type) = ap (λ (c : Change). c.stores) (same_Some made change holds.1) ∙ sets in
      let pair = same_Some (local, top) (found, type) same in
      let at : local ≡ found = ap (λ x. x.0) pair in
      let of : top ≡ type = ap (λ x. x.1) pair in
      (kind, ap (op.Store kind) at, subst (λ t. has_kind kind t ≡ true) of (and_parts (has_kind kind top) (nat_lt local (length frame.locals)) holds.0).0)

  sets_by_store : (pc : ℕ) (instruction : Op) (frame : VFrame) → SetsByStore instruction (change_of files body pc instruction frame)
  sets_by_store pc op.Nop frame = by_none _ _ (plain_made frame _ _)
  sets_by_store pc (op.Const constant) frame = by_none _ _ (plain_made frame _ _)
  sets_by_store pc (op.Load kind local) frame = by_none _ _ (load_made frame kind (slice_get frame.locals local))
  sets_by_store pc (op.Store kind local) frame = store_made frame kind local frame.stack
  sets_by_store pc (op.Inc local amount) frame = by_none _ _ (increment_made frame (slice_get frame.locals local))
  sets_by_store pc (op.Stack f) frame = by_none _ _ (restack_made frame f frame.stack)
  sets_by_store pc (op.Bin operation) frame = by_none _ _ (plain_made frame _ _)
  sets_by_store pc (op.Unary operation) frame = by_none _ _ (plain_made frame _ _)
  sets_by_store pc (op.If cond target) frame = by_none _ _ (plain_made frame _ _)
  sets_by_store pc (op.IfCmp cond target) frame = by_none _ _ (plain_made frame _ _)
  sets_by_store pc (op.IfRef cond target) frame = by_none _ _ (plain_made frame _ _)
  sets_by_store pc (op.Goto target) frame = by_none _ _ (plain_made frame _ _)
  sets_by_store pc (op.Switch f default rows) frame = by_none _ _ (plain_made frame _ _)
  sets_by_store pc (op.Return kind) frame = by_none _ _ (either_made frame.pending None _ none_made (tests_made frame (returned files body.result kind)))
  sets_by_store pc (op.GetStatic used) frame = by_none _ _ (plain_of_made frame _ (field_value files used))
  sets_by_store pc (op.PutStatic used) frame = by_none _ _ (plain_made frame _ _)
  sets_by_store pc (op.GetField used) frame = by_none _ _ (plain_of_made frame _ (field_value files used))
  sets_by_store pc (op.PutField used) frame = by_none _ _ (plain_made frame _ _)
  sets_by_store pc (op.CallVirtual used) frame = by_none _ _ (call_made frame used _)
  sets_by_store pc (op.CallSpecial used) frame = by_none _ _ (special_made frame used)
  sets_by_store pc (op.CallStatic used) frame = by_none _ _ (call_made frame used [])
  sets_by_store pc (op.CallInterface used) frame = by_none _ _ (call_made frame used _)
  sets_by_store pc (op.New type) frame = by_none _ _ (either_made (list_any (is_same_object (known.New pc)) frame.stack) None _ none_made (one_made _ refl))
  sets_by_store pc (op.NewArray type) frame = by_none _ _ (plain_made frame _ _)
  sets_by_store pc op.ArrayLength frame = by_none _ _ (plain_made frame _ _)
  sets_by_store pc (op.ArrayLoad kind) frame = by_none _ _ (array_made frame kind frame.stack)
  sets_by_store pc (op.ArrayStore kind) frame = by_none _ _ (plain_made frame _ _)
  sets_by_store pc op.Throw frame = by_none _ _ (plain_made frame _ _)
  sets_by_store pc (op.CheckCast type) frame = by_none _ _ (plain_made frame _ _)
  sets_by_store pc (op.InstanceOf type) frame = by_none _ _ (plain_made frame _ _)
  sets_by_store pc (op.MultiArray array dims) frame = by_none _ _ (plain_made frame _ _)

  pub stores_by_store : (pc : ℕ) (instruction : Op) (frame : VFrame) (change : Change) → change_of files body pc instruction frame ≡ Some change
      → (local : ℕ) (type : VType) → change.stores ≡ Some (local, type) → IsStoreOf instruction local type
  unfolding SetsByStore
  stores_by_store pc instruction frame change is local type sets = sets_by_store pc instruction frame change is local type sets
