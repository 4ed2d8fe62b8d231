-- Operands that are taken, one after the other.
use Rattle.std.proofs.Common.{◌≡◌, ℕ, zero, suc, ◌+◌, ◌<◌, ◌≤◌, Bool, true, false, ◌&&◌, List, [], ◌∷◌, length, replicate, drop, get_or, if◌then◌else◌, nat_lt, length-drop, Some, None, option_map, slice_get, refl, sym, ap, subst, ◌∙◌, arith, add-one}
use Rattle.std.specs.List.{AllByRecursion}
use Rattle.std.proofs.lemmas.Bool.{lt-ltb, and_from}
use Rattle.std.proofs.lemmas.List.{drop_all, length-map}
use Rattle.std.proofs.lemmas.Option.{slice_get-get_or, slice_get-map}
use Rattle.class_file.specs.declared.record.ClassFile.{ClassFile}
use Rattle.insn_form.specs.declared.ElementKind.{ElementKind}
use Rattle.insn_form.specs.declared.ElementKind.TheVariants as element
use Rattle.insn_form.specs.declared.ValueKind.{ValueKind}
use Rattle.body_form.specs.declared.types.VFrame.{VFrame}
use Rattle.body_form.specs.declared.types.VType.{VType}
use Rattle.body_form.specs.declared.types.VType.TheVariants as known
use Rattle.jvm_model.specs.TypesFrames.{is_int}
use Rattle.jvm_model.specs.TypesRules.{takes, plain, store, has_kind, array_load, is_array_of, element_of}
use Rattle.flow_verify.specs.declared.need.Need.{Need}
use Rattle.flow_verify.specs.declared.need.Need.TheVariants as need
use Rattle.flow_verify.specs.Needs.{test_of, tests_of}

-- ---- what holds of each

pub all_at : {X : Type 0} (P : X → Type 0) (xs : List X) (i : ℕ) (x : X) → AllByRecursion P xs → slice_get xs i ≡ Some x → P x
all_at P [] i x all e = cc
all_at P (y ∷ xs) zero x all e = let same : y ≡ x = cc in subst P same all.0
all_at P (y ∷ xs) (suc i) x all e = all_at P xs i x all.1 e

-- ---- tests

abbrev Tests : Type 0
Tests = List (VType → Bool)

pub and_false : (a : Bool) → (a && false) ≡ false
and_false true = refl
and_false false = refl

pub takes_none : (tests : Tests) (stack : List VType) → length stack < length tests → takes tests stack ≡ false
unfolding takes
takes_none [] stack lt = absurd (omega arith)
takes_none (test ∷ tests) [] lt = refl
takes_none (test ∷ tests) (type ∷ stack) lt = ap (λ b. test type && b) (takes_none tests stack (omega arith)) ∙ and_false (test type)

pub takes_all : (stack : List VType) → takes [] stack ≡ true
unfolding takes
takes_all stack = refl

takes_first : (t test : VType → Bool) (tests : Tests) (s type : VType) (stack : List VType) → t ≡ test → s ≡ type → takes (t ∷ tests) (s ∷ stack) ≡ (test type && takes tests stack)
unfolding takes
takes_first t test tests s type stack first second = ap (λ (f : VType → Bool). f s && takes tests stack) first ∙ ap (λ v. test v && takes tests stack) second

takes_suc : (tests : Tests) (stack : List VType) (i : ℕ) (test : VType → Bool) (type : VType) → slice_get tests i ≡ Some test → slice_get stack i ≡ Some type
    → takes (drop i tests) (drop i stack) ≡ (test type && takes (drop (suc i) tests) (drop (suc i) stack))
takes_suc [] stack i test type first second = cc
takes_suc (t ∷ tests) [] i test type first second = cc
takes_suc (t ∷ tests) (s ∷ stack) zero test type first second = let one : t ≡ test = cc in let two : s ≡ type = cc in takes_first t test tests s type stack one two
takes_suc (t ∷ tests) (s ∷ stack) (suc i) test type first second = takes_suc tests stack i test type first second

pub takes_next : (tests : Tests) (stack : List VType) (i : ℕ) (test : VType → Bool) (type : VType) → slice_get tests i ≡ Some test → slice_get stack i ≡ Some type
    → takes (drop i tests) (drop i stack) ≡ (test type && takes (drop (i + 1) tests) (drop (i + 1) stack))
takes_next tests stack i test type first second = takes_suc tests stack i test type first second ∙ ap (λ n. test type && takes (drop n tests) (drop n stack)) (sym (add-one i))

takes_lack : (tests : Tests) (stack : List VType) (i : ℕ) → i < length tests → slice_get stack i ≡ None → takes (drop i tests) (drop i stack) ≡ false
unfolding takes
takes_lack [] stack i lt e = absurd (omega arith)
takes_lack (t ∷ tests) [] zero lt e = refl
takes_lack (t ∷ tests) [] (suc i) lt e = takes_none (drop i tests) [] (omega (arith, length-drop i tests))
takes_lack (t ∷ tests) (s ∷ stack) zero lt e = cc
takes_lack (t ∷ tests) (s ∷ stack) (suc i) lt e = takes_lack tests stack i (omega arith) e

-- ---- needs

module _ (files : List ClassFile) (needs : List Need) (stack : List VType) (i : ℕ) (within : i < length needs) where
  need_at : slice_get (tests_of files needs) i ≡ Some (test_of files (get_or needs i need.Int))
  need_at = slice_get-map (test_of files) needs i ∙ ap (option_map (test_of files)) (slice_get-get_or needs i need.Int within)

  pub need_next : (type : VType) (passes : Bool) → slice_get stack i ≡ Some type → passes ≡ test_of files (get_or needs i need.Int) type
      → takes (drop i (tests_of files needs)) (drop i stack) ≡ (passes && takes (drop (i + 1) (tests_of files needs)) (drop (i + 1) stack))
  need_next type passes there e =
      takes_next (tests_of files needs) stack i (test_of files (get_or needs i need.Int)) type need_at there
      ∙ ap (λ b. b && takes (drop (i + 1) (tests_of files needs)) (drop (i + 1) stack)) (sym e)

  pub need_lacks : slice_get stack i ≡ None → takes (drop i (tests_of files needs)) (drop i stack) ≡ false
  need_lacks e = takes_lack (tests_of files needs) stack i (subst (λ n. i < n) (sym (length-map needs (test_of files))) within) e

pub needs_end : (files : List ClassFile) (needs : List Need) (stack : List VType) (i : ℕ) → length needs ≤ i → takes (drop i (tests_of files needs)) (drop i stack) ≡ true
needs_end files needs stack i le =
    ap (λ tests. takes tests (drop i stack)) (drop_all i (tests_of files needs) (subst (λ n. n ≤ i) (sym (length-map needs (test_of files))) le)) ∙ takes_all (drop i stack)

-- ---- tests that no operand passes

never : (test : VType → Bool) → ((type : VType) → test type ≡ false) → (stack : List VType) → takes (test ∷ []) stack ≡ false
unfolding takes
never test none [] = refl
never test none (type ∷ stack) = ap (λ b. b && true) (none type)

pub none_pass : (frame : VFrame) (test : VType → Bool) (pushes : List VType) → ((type : VType) → test type ≡ false) → plain frame (test ∷ []) pushes ≡ None
none_pass frame test pushes none =
    ap (λ b. if b then Some (record { pops = 1; renames = None; stores = None; pushes = pushes; pending = frame.pending }) else None) (never test none frame.stack)

-- ---- the top operand is stored

pub stored_top : (frame : VFrame) (kind : ValueKind) (local : ℕ) (stack : List VType) (type : VType) → slice_get stack 0 ≡ Some type → has_kind kind type ≡ true → local < length frame.locals
    → store frame kind local stack ≡ Some (record { pops = 1; renames = None; stores = Some (local, type); pushes = []; pending = frame.pending })
stored_top frame kind local [] type e is within = cc
stored_top frame kind local (s ∷ stack) type e is within =
    let same : s ≡ type = cc in
    let both : (has_kind kind s && nat_lt local (length frame.locals)) ≡ true = and_from (has_kind kind s) (nat_lt local (length frame.locals)) (ap (has_kind kind) same ∙ is) (lt-ltb local (length frame.locals) within) in
    ap (λ b. if b then Some (record { pops = 1; renames = None; stores = Some (local, s); pushes = []; pending = frame.pending }) else None) both
    ∙ ap (λ v. Some (record { pops = 1; renames = None; stores = Some (local, v); pushes = []; pending = frame.pending })) same

-- ---- what is read of arrays

pub second_loaded : (frame : VFrame) (stack : List VType) (array : VType) → slice_get stack 1 ≡ Some array
    → array_load frame element.Ref stack ≡ plain frame (is_int ∷ is_array_of element.Ref ∷ []) (element_of array ∷ [])
second_loaded frame [] array e = cc
second_loaded frame (index ∷ []) array e = cc
second_loaded frame (index ∷ a ∷ stack) array e = let same : a ≡ array = cc in ap (λ v. plain frame (is_int ∷ is_array_of element.Ref ∷ []) (element_of v ∷ [])) same

pub no_second : (frame : VFrame) (stack : List VType) → slice_get stack 1 ≡ None → array_load frame element.Ref stack ≡ None
no_second frame [] e = refl
no_second frame (index ∷ []) e = refl
no_second frame (index ∷ a ∷ stack) e = cc

pub int_loaded : (frame : VFrame) (kind : ElementKind) (stack : List VType) → (kind ≡ element.Ref → ⊥) → array_load frame kind stack ≡ plain frame (is_int ∷ is_array_of kind ∷ []) (known.Int ∷ [])
int_loaded frame element.Ref stack other = absurd (other refl)
int_loaded frame kind stack other = refl

-- ---- as many ints

pub ints : (files : List ClassFile) (n : ℕ) → tests_of files (replicate n need.Int) ≡ replicate n is_int
ints files zero = refl
ints files (suc n) = ap (λ (l : List (VType → Bool)). is_int ∷ l) (ints files n)
