-- What fields were set to last, write by write.
use Rattle.std.proofs.Common.{◌≡◌, ℕ, ◌+◌, ◌<◌, length, drop, get_or, Bool, true, false, cond, List, [], ◌∷◌, ◌++◌, Option, Some, None, option_map, refl, sym, ap, ◌∙◌}
use Rattle.std.specs.Option.{option_or, option_map_or}
use Rattle.std.proofs.lemmas.List.{drop_more}
use Rattle.class_code.specs.declared.insn.Insn.{Insn}
use Rattle.class_code.specs.declared.insn.Insn.TheVariants as insns
use Rattle.class_code.specs.Code.{Insns, decoded}
use Rattle.class_file.specs.declared.record.CodeAttr.{CodeAttr}
use Rattle.class_pool.specs.Pool.{Slots}
use Rattle.class_pool.specs.Members.{MemberName}
use Rattle.class_tree.specs.Members.{Declaration, is_called}
use Rattle.jvm_model.specs.Initialisers.{Pushed, pushed_by, is_plain_return}
use Rattle.jvm_model.specs.InitialStatics.{last_write, written_by, writes_from, writes_in, writes_of}
use Rattle.class_file.specs.declared.record.Member.{Member}
use Rattle.jvm_model.specs.Linking.{is_initialiser}
use Rattle.jvm_model.specs.CodeInsns.{insns_in}
use Rattle.infuse_ids.specs.declared.writes.LastWrites.{LastWrites}
use Rattle.infuse_ids.specs.Writes.{Sets, last_set, target_of}

module _ {X Y : Type 0} (f : X → Y) where
  -- a view of the newer or of the older one
  pub view_either : (is : Bool) (new : X) (old : Option X) → option_map f (cond is (Some new) old) ≡ cond is (Some (f new)) (option_map f old)
  view_either true new old = refl
  view_either false new old = refl

pub or_none : {X : Type 0} (o : Option X) → option_or o None ≡ o
or_none None = refl
or_none (Some x) = refl

or_assoc : {X : Type 0} (first second third : Option X) → option_or (option_or first second) third ≡ option_or first (option_or second third)
or_assoc None second third = refl
or_assoc (Some x) second third = refl

-- writes that come behind others decide first
pub last_append : (field : Declaration) (before after : List (MemberName × Pushed)) → last_write field (before ++ after) ≡ option_or (last_write field after) (last_write field before)
unfolding last_write
last_append field [] after = sym (or_none (last_write field after))
last_append field (write ∷ before) after =
    ap (λ o. option_or o (cond (is_called write.0.name write.0.descriptor field) (Some write.1) None)) (last_append field before after)
    ∙ or_assoc (last_write field after) (last_write field before) (cond (is_called write.0.name write.0.descriptor field) (Some write.1) None)

-- one write
pub one_write : (field : Declaration) (named : MemberName) (pushed : Pushed) (old : Option Pushed)
    → cond (is_called named.name named.descriptor field) (Some pushed) old ≡ option_or (last_write field ((named, pushed) ∷ [])) old
unfolding last_write
one_write field named pushed old = by (is_called named.name named.descriptor field)
  where
    by : (is : Bool) → cond is (Some pushed) old ≡ option_or (option_or None (cond is (Some pushed) None)) old
    by true = refl
    by false = refl

-- ---- instructions

by_target : (pool : Slots) (pushed : Pushed) (insn : Insn) → option_map_or (λ (named : MemberName). (named, pushed) ∷ []) (target_of pool insn) [] ≡ written_by pool pushed insn
by_target pool pushed (insns.PutStatic index) = refl
by_target pool pushed _ = refl

pub written : (pool : Slots) (pushed : Pushed) (insn : Insn) (target : Option MemberName) → target ≡ target_of pool insn
    → option_map_or (λ (named : MemberName). (named, pushed) ∷ []) target [] ≡ written_by pool pushed insn
written pool pushed insn target is = ap (λ o. option_map_or (λ (named : MemberName). (named, pushed) ∷ []) o []) is ∙ by_target pool pushed insn

module _ (pool : Slots) (field : Declaration) where
  abbrev pub comes : List (MemberName × Pushed) → LastWrites → Option Pushed
  comes writes old = option_or (last_write field writes) (last_set old field.name field.descriptor)

  -- the second instruction of a pair
  pub second_step : (pushed : Pushed) (x : ℕ × Insn) (rest : Insns) (old new : LastWrites) → Sets (written_by pool pushed x.1) old new
      → comes (writes_from pool None rest) new ≡ comes (writes_from pool (Some pushed) (x ∷ rest)) old
  unfolding writes_from
  second_step pushed x rest old new sets =
      let later = last_write field (writes_from pool None rest) in
      let now = last_write field (written_by pool pushed x.1) in
      ap (option_or later) (sets field) ∙ sym (or_assoc later now (last_set old field.name field.descriptor))
      ∙ ap (λ o. option_or o (last_set old field.name field.descriptor)) (sym (last_append field (written_by pool pushed x.1) (writes_from pool None rest)))

  -- the first one
  pub first_step : (x : ℕ × Insn) (rest : Insns) → is_plain_return x.1 ≡ false → writes_from pool (pushed_by pool x.1) rest ≡ writes_from pool None (x ∷ rest)
  unfolding writes_from
  first_step x rest e = sym (ap (λ (is : Bool). cond is [] (writes_from pool (pushed_by pool x.1) rest)) e)

  -- the return
  pub return_step : (x : ℕ × Insn) (rest : Insns) (old : LastWrites) → is_plain_return x.1 ≡ true → last_set old field.name field.descriptor ≡ comes (writes_from pool None (x ∷ rest)) old
  unfolding writes_from last_write
  return_step x rest old e =
      sym (ap (λ (is : Bool). comes (cond is [] (writes_from pool (pushed_by pool x.1) rest)) old) e)

  -- the end
  pub end_step : (held : Option Pushed) (old : LastWrites) → last_set old field.name field.descriptor ≡ comes (writes_from pool held []) old
  unfolding writes_from last_write
  end_step None old = refl
  end_step (Some pushed) old = refl

-- the instruction at hand, and those after it
pub at_hand : {X : Type 0} (xs : List X) (i : ℕ) (x : X) → i < length xs → x ≡ get_or xs i x → drop i xs ≡ x ∷ drop (i + 1) xs
at_hand xs i x lt is = drop_more xs i x lt ∙ ap (λ y. y ∷ drop (i + 1) xs) (sym is)

-- the writes of some code
pub of_code : (pool : Slots) (code : CodeAttr) (list : Option Insns) → list ≡ insns_in (decoded code.code) → option_map_or (writes_from pool None) list [] ≡ writes_in pool (Some code)
of_code pool code list is = ap (λ o. option_map_or (writes_from pool None) o []) is

-- no write
pub none_written : (field : Declaration) (old : Option Pushed) → old ≡ option_or (last_write field []) old
unfolding last_write
none_written field old = refl

-- ---- methods

abbrev pub writes_by : Slots → Member → List (MemberName × Pushed)
writes_by pool method = cond (is_initialiser pool method) (writes_in pool method.code) []

pub of_method : (pool : Slots) (method : Member) (code : Option CodeAttr) → code ≡ cond (is_initialiser pool method) method.code None → writes_in pool code ≡ writes_by pool method
of_method pool method code is = ap (writes_in pool) is ∙ by (is_initialiser pool method)
  where
    by : (b : Bool) → writes_in pool (cond b method.code None) ≡ cond b (writes_in pool method.code) []
    by true = refl
    by false = refl

module _ (pool : Slots) (field : Declaration) where
  pub method_step : (method : Member) (rest : List Member) (old new : LastWrites) → Sets (writes_by pool method) old new
      → comes pool field (writes_of pool rest) new ≡ comes pool field (writes_of pool (method ∷ rest)) old
  unfolding writes_of
  method_step method rest old new sets =
      let later = last_write field (writes_of pool rest) in
      let now = last_write field (writes_by pool method) in
      ap (option_or later) (sets field) ∙ sym (or_assoc later now (last_set old field.name field.descriptor))
      ∙ ap (λ o. option_or o (last_set old field.name field.descriptor)) (sym (last_append field (writes_by pool method) (writes_of pool rest)))

  pub methods_end : (old : LastWrites) → last_set old field.name field.descriptor ≡ comes pool field (writes_of pool []) old
  unfolding writes_of last_write
  methods_end old = refl
