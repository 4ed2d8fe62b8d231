-- Before main starts each static field of a set holds a value that fits its type: a number that is set has 32 bits.
use Rattle.std.proofs.Common.{◌≡◌, ℕ, ℤ, zero, suc, ◌+◌, ◌-◌, ◌≤◌, Bool, true, false, ◌&&◌, nat_eq, List, [], ◌∷◌, slice_get, Option, Some, None, option_map, option_and_then, unwrap_or, refl, sym, ap, subst, ◌∙◌, arith, find, eq-eqb, FitsSigned}
use Rattle.std.specs.Int.{w32}
use Rattle.std.specs.List.{AllByRecursion}
use Rattle.std.specs.Option.{option_or, option_map_or}
use Rattle.std.specs.Prelude.{if◌then◌else◌}
use Rattle.std.proofs.lemmas.Bool.{ne_eqb}
use Rattle.std.proofs.lemmas.List.Folds.{find-append}
use Rattle.class_pool.specs.declared.descriptor.Kind.{Kind}
use Rattle.class_pool.specs.declared.descriptor.Kind.TheVariants as kind
use Rattle.class_pool.specs.declared.types.MemberId.{MemberId}
use Rattle.class_pool.specs.DescriptorReading.{field_of, kind_at, base_at, brackets}
use Rattle.class_pool.specs.Members.{MemberName}
use Rattle.class_pool.specs.Pool.{Slots, utf8_at, integer_at, EachEntry}
use Rattle.class_file.specs.Rules.{is_static}
use Rattle.class_file.specs.declared.record.ClassFile.{ClassFile}
use Rattle.class_file.specs.declared.record.CodeAttr.{CodeAttr}
use Rattle.class_file.specs.declared.record.Member.{Member}
use Rattle.class_code.specs.declared.insn.Insn.{Insn}
use Rattle.class_code.specs.declared.insn.Insn.TheVariants as insns
use Rattle.class_code.specs.Code.{Insns, decoded}
use Rattle.class_code.proofs.Numbers.{HasNumbers}
use Rattle.class_tree.specs.Members.{Declaration, fields_of, in_file, is_called, member_at}
use Rattle.class_tree.specs.Tree.{Gathers}
use Rattle.body_form.specs.declared.types.VType.TheVariants as known
use Rattle.jvm_model.specs.Initialisers.{Pushed, Number, Null as PushedNull, is_plain_return, is_whole_kind, pushed_by}
use Rattle.jvm_model.specs.InitialStatics.{kind_of as member_kind, kept, written_by, writes_from, writes_in, writes_of, last_write, constant_of, set_last, initial_value, narrowed, static_at, statics_in, statics_from}
use Rattle.jvm_model.specs.Linking.{is_initialiser}
use Rattle.jvm_model.specs.CodeInsns.{insns_in}
use Rattle.jvm_model.specs.Resolution.{field_name_at}
use Rattle.jvm_model.specs.State.{Value, Whole, Null}
use Rattle.typed_machine.specs.TypedRun.{statics_of}
use Rattle.typed_machine.specs.TypedState.{Object, is_member}
use Rattle.typed_machine.specs.TypedWorld.{World, kind_of}
use Rattle.type_safety.specs.Fitting.{IsKept, KindFits, StaticsFit}
use Rattle.type_safety.proofs.fitting.NewObject.{IsOfNames, field_of_names, default_fits}
use Rattle.type_safety.proofs.fitting.Numbers.{narrowed_fits, default_kept, kept_is_kept}
use Rattle.type_safety.proofs.fitting.SetLists.{none_some, same_some, all_at, all_joined}
use Rattle.type_safety.proofs.facts.CodeRead.{IsRead, FitsMethod, FitsCode}
use Rattle.type_safety.proofs.facts.Declared.{field_of_file}
use Rattle.type_safety.proofs.facts.PoolNumbers.{IntegerFits, integer_fits}

-- ---- what initialisers and constants set

-- a number has 32 bits
abbrev PushFits : Pushed → Type 0
PushFits (Number number) = FitsSigned w32 number
PushFits PushedNull = Unit {0}

abbrev AnyFits : Option Pushed → Type 0
AnyFits None = Unit {0}
AnyFits (Some pushed) = PushFits pushed

abbrev WriteFits : MemberName × Pushed → Type 0
WriteFits write = PushFits write.1

first_fits : (first second : Option Pushed) → AnyFits first → AnyFits second → AnyFits (option_or first second)
first_fits None second f s = s
first_fits (Some pushed) second f s = f

chosen_fits : (called : Bool) (pushed : Pushed) → PushFits pushed → AnyFits (if called then Some pushed else None)
chosen_fits true pushed fits = fits
chosen_fits false pushed fits = tt

last_fits : (field : Declaration) (writes : List (MemberName × Pushed)) → AllByRecursion WriteFits writes → AnyFits (last_write field writes)
unfolding last_write
last_fits field [] all = tt
last_fits field (write ∷ writes) all =
    first_fits (last_write field writes) (if is_called write.0.name write.0.descriptor field then Some write.1 else None) (last_fits field writes all.1)
    (chosen_fits (is_called write.0.name write.0.descriptor field) write.1 all.0)

none_or : (ends : Bool) (writes : List (MemberName × Pushed)) → AllByRecursion WriteFits writes → AllByRecursion WriteFits (if ends then [] else writes)
none_or true writes all = tt
none_or false writes all = all

some_or : (named : Bool) (writes : List (MemberName × Pushed)) → AllByRecursion WriteFits writes → AllByRecursion WriteFits (if named then writes else [])
some_or true writes all = all
some_or false writes all = tt

module _ (pool : Slots) (numbers : EachEntry IntegerFits pool) where
  found_fits : (index : ℕ) (found : Option ℤ) → integer_at pool index ≡ found → AnyFits (option_map (λ number. Number number) found)
  found_fits index None is = tt
  found_fits index (Some number) is = integer_fits pool index number numbers is

  pushed_fits : (insn : Insn) → HasNumbers insn → AnyFits (pushed_by pool insn)
  pushed_fits (insns.Push number) has = has
  pushed_fits (insns.Ldc index) has = found_fits index (integer_at pool index) refl
  pushed_fits insns.Null has = tt
  pushed_fits other has = tt

  named_fits : (pushed : Pushed) (named : Option MemberName) → PushFits pushed → AllByRecursion WriteFits (option_map_or (λ name. (name, pushed) ∷ []) named [])
  named_fits pushed None fits = tt
  named_fits pushed (Some name) fits = (fits, tt)

  written_fits : (pushed : Pushed) (insn : Insn) → PushFits pushed → AllByRecursion WriteFits (written_by pool pushed insn)
  written_fits pushed (insns.PutStatic index) fits = named_fits pushed (field_name_at pool index) fits
  written_fits pushed other fits = tt

  writes_fit : (held : Option Pushed) (code : Insns) → AnyFits held → AllByRecursion (λ x. HasNumbers x.1) code → AllByRecursion WriteFits (writes_from pool held code)
  unfolding writes_from
  writes_fit held [] fits all = tt
  writes_fit (Some pushed) (x ∷ code) fits all = all_joined WriteFits (written_by pool pushed x.1) (writes_from pool None code) (written_fits pushed x.1 fits) (writes_fit None code tt all.1)
  writes_fit None (x ∷ code) fits all = none_or (is_plain_return x.1) (writes_from pool (pushed_by pool x.1) code) (writes_fit (pushed_by pool x.1) code (pushed_fits x.1 all.0) all.1)

  decoded_fit : (code : CodeAttr) → FitsCode code → AllByRecursion WriteFits (option_map_or (writes_from pool None) (insns_in (decoded code.code)) [])
  decoded_fit code fits =
      subst (λ (o : Option Insns). AllByRecursion WriteFits (option_map_or (writes_from pool None) o [])) (sym (ap insns_in fits.is)) (writes_fit None fits.insns tt fits.numbers)

  in_fit : (code : Option CodeAttr) → ((c : CodeAttr) → code ≡ Some c → FitsCode c) → AllByRecursion WriteFits (writes_in pool code)
  in_fit None fits = tt
  in_fit (Some code) fits = decoded_fit code (fits code refl)

  of_fit : (methods : List Member) → AllByRecursion FitsMethod methods → AllByRecursion WriteFits (writes_of pool methods)
  unfolding writes_of
  of_fit [] all = tt
  of_fit (m ∷ methods) all = all_joined WriteFits (if is_initialiser pool m then writes_in pool m.code else []) (writes_of pool methods) (some_or (is_initialiser pool m) (writes_in pool m.code) (in_fit m.code all.0)) (of_fit methods all.1)

  constant_fits : (constant : Option ℕ) → AnyFits (option_map (λ number. Number number) (option_and_then (integer_at pool) constant))
  constant_fits None = tt
  constant_fits (Some index) = found_fits index (integer_at pool index) refl

set_fits : (file : ClassFile) → IsRead file → (field : Member) → AnyFits (set_last file field)
set_fits file read field =
    first_fits (last_write (in_file file.pool field) (writes_of file.pool file.methods)) (constant_of file.pool field)
    (last_fits (in_file file.pool field) (writes_of file.pool file.methods) (of_fit file.pool read.rules.numbers file.methods read.codes))
    (constant_fits file.pool read.rules.numbers field.constant)

-- ---- what is kept of it

module _ (world : World) (objects : List Object) where
  number_fits : (k : Kind) (number : ℤ) → IsOfNames world.files k → FitsSigned w32 number → KindFits world objects k (kept k (Some (Number number)))
  number_fits kind.Byte number is fits = record { type = known.Int; is = refl; has = λ body. (narrowed kind.Byte number, refl, narrowed_fits kind.Byte number fits) }
  number_fits kind.Char number is fits = record { type = known.Int; is = refl; has = λ body. (narrowed kind.Char number, refl, narrowed_fits kind.Char number fits) }
  number_fits kind.Short number is fits = record { type = known.Int; is = refl; has = λ body. (narrowed kind.Short number, refl, narrowed_fits kind.Short number fits) }
  number_fits kind.Int number is fits = record { type = known.Int; is = refl; has = λ body. (number, refl, fits) }
  number_fits kind.Boolean number is fits = record { type = known.Int; is = refl; has = λ body. (narrowed kind.Boolean number, refl, narrowed_fits kind.Boolean number fits) }
  number_fits kind.Long number is fits = default_fits world objects kind.Long is
  number_fits kind.Float number is fits = default_fits world objects kind.Float is
  number_fits kind.Double number is fits = default_fits world objects kind.Double is
  number_fits (kind.Class name) number is fits = default_fits world objects (kind.Class name) is
  number_fits (kind.Array dims of) number is fits = default_fits world objects (kind.Array dims of) is

  kept_fits : (k : Kind) (pushed : Option Pushed) → IsOfNames world.files k → AnyFits pushed → KindFits world objects k (kept k pushed)
  kept_fits k (Some (Number number)) is fits = number_fits k number is fits
  kept_fits k (Some PushedNull) is fits = default_fits world objects k is
  kept_fits k None is fits = default_fits world objects k is

-- ---- the value of a static field

-- a field of this member
abbrev is_at : MemberId → MemberId × Value → Bool
is_at id static = is_member id static.0

abbrev value_in : Option (MemberId × Value) → Option Value
value_in found = option_map (λ (static : MemberId × Value). static.1) found

value_or : (first second : Option (MemberId × Value)) → first ≡ None → value_in (option_or first second) ≡ value_in second
value_or None second e = refl
value_or (Some static) second e = cc

value_first : (first second : Option (MemberId × Value)) (value : Value) → value_in first ≡ Some value → value_in (option_or first second) ≡ Some value
value_first None second value e = none_some value e
value_first (Some static) second value e = e

other_member : (id : MemberId) (class member : ℕ) → (id.member ≡ member → ⊥) → is_member id (member_at class member) ≡ false
other_member id class member other = by_class (nat_eq id.class class) (ne_eqb id.member member other)
  where
    by_class : (same : Bool) → nat_eq id.member member ≡ false → (same && nat_eq id.member member) ≡ false
    by_class true e = e
    by_class false e = refl

module _ (id : MemberId) (file : ClassFile) where
  one_missed : (class at : ℕ) (field : Member) → is_member id (member_at class at) ≡ false → find (is_at id) (static_at class file at field) ≡ None
  one_missed class at field other = by_static (is_static field.flags)
    where
      by_static : (static : Bool) → find (is_at id) (if static then (member_at class at, initial_value file field) ∷ [] else []) ≡ None
      by_static true = ap (λ b. if b then Some (member_at class at, initial_value file field) else None) other
      by_static false = refl

  one_there : (class at : ℕ) (field : Member) → id ≡ member_at class at → is_static field.flags ≡ true → value_in (find (is_at id) (static_at class file at field)) ≡ Some (initial_value file field)
  one_there class at field same static =
      let is : is_member id (member_at class at) ≡ true = ap (λ b. b && nat_eq id.member at) (eq-eqb id.class class (ap (λ (i : MemberId). i.class) same)) ∙ eq-eqb id.member at (ap (λ (i : MemberId). i.member) same) in
      ap (λ b. value_in (find (is_at id) (if b then (member_at class at, initial_value file field) ∷ [] else []))) static
      ∙ ap (λ b. value_in (if b then Some (member_at class at, initial_value file field) else None)) is

  value_here : (class from : ℕ) (fields : List Member) (i : ℕ) (field : Member) → id ≡ member_at class (from + i) → slice_get fields i ≡ Some field → is_static field.flags ≡ true
      → value_in (find (is_at id) (statics_in class file from fields)) ≡ Some (initial_value file field)
  unfolding statics_in
  value_here class from [] i field same there static = none_some field there
  value_here class from (first ∷ fields) zero field same there static =
      let here : first ≡ field = same_some first field there in
      let begin : from + 0 ≡ from = omega arith in
      ap value_in (find-append (is_at id) (static_at class file from first) (statics_in class file (suc from) fields))
      ∙ value_first (find (is_at id) (static_at class file from first)) (find (is_at id) (statics_in class file (suc from) fields)) (initial_value file field)
      (ap (λ (f : Member). value_in (find (is_at id) (static_at class file from f))) here ∙ one_there class from field (same ∙ ap (member_at class) begin) static)
  value_here class from (first ∷ fields) (suc i) field same there static =
      let member : id.member ≡ from + suc i = ap (λ (d : MemberId). d.member) same in
      let next : from + suc i ≡ suc from + i = omega arith in
      ap value_in (find-append (is_at id) (static_at class file from first) (statics_in class file (suc from) fields))
      ∙ value_or (find (is_at id) (static_at class file from first)) (find (is_at id) (statics_in class file (suc from) fields)) (one_missed class from first (other_member id class from (λ e. omega (arith, e, member))))
      ∙ value_here class (suc from) fields i field (same ∙ ap (member_at class) next) there static

  all_missed : (class from : ℕ) (fields : List Member) → (id.class ≡ class → ⊥) → find (is_at id) (statics_in class file from fields) ≡ None
  unfolding statics_in
  all_missed class from [] other = refl
  all_missed class from (first ∷ fields) other =
      let missed : is_member id (member_at class from) ≡ false = ap (λ b. b && nat_eq id.member from) (ne_eqb id.class class other) in
      find-append (is_at id) (static_at class file from first) (statics_in class file (suc from) fields)
      ∙ ap (λ o. option_or o (find (is_at id) (statics_in class file (suc from) fields))) (one_missed class from first missed) ∙ all_missed class (suc from) fields other

value_there : (id : MemberId) (class : ℕ) (files : List ClassFile) (k : ℕ) (file : ClassFile) (field : Member) → id.class ≡ class + k → slice_get files k ≡ Some file → slice_get file.fields id.member ≡ Some field → is_static field.flags ≡ true
    → value_in (find (is_at id) (statics_from class files)) ≡ Some (initial_value file field)
unfolding statics_from
value_there id class [] k file field same at there static = none_some file at
value_there id class (first ∷ files) zero file field same at there static =
    let here : first ≡ file = same_some first file at in
    let number : id.class ≡ class = omega (arith, same) in
    let begin : id.member ≡ 0 + id.member = omega arith in
    let is : id ≡ member_at class (0 + id.member) = ap (λ (n : ℕ). member_at n id.member) number ∙ ap (member_at class) begin in
    ap value_in (find-append (is_at id) (statics_in class first 0 first.fields) (statics_from (suc class) files))
    ∙ value_first (find (is_at id) (statics_in class first 0 first.fields)) (find (is_at id) (statics_from (suc class) files)) (initial_value file field)
    (ap (λ (f : ClassFile). value_in (find (is_at id) (statics_in class f 0 f.fields))) here ∙ value_here id file class 0 file.fields id.member field is there static)
value_there id class (first ∷ files) (suc k) file field same at there static =
    ap value_in (find-append (is_at id) (statics_in class first 0 first.fields) (statics_from (suc class) files))
    ∙ value_or (find (is_at id) (statics_in class first 0 first.fields)) (find (is_at id) (statics_from (suc class) files)) (all_missed id first class 0 first.fields (λ e. omega (arith, e, same)))
    ∙ value_there id (suc class) files k file field (omega (arith, same)) at there static

-- what a static field holds before main starts
pub initial_there : (files : List ClassFile) (id : MemberId) (file : ClassFile) (field : Member) → 32 ≤ id.class → slice_get files (id.class - 32) ≡ Some file → slice_get file.fields id.member ≡ Some field → is_static field.flags ≡ true
    → statics_of files id ≡ Some (initial_value file field)
initial_there files id file field own at there static = value_there id 32 files (id.class - 32) file field (omega (arith, own)) at there static

-- ---- all statics

no_text : field_of [] ≡ None
unfolding field_of kind_at base_at brackets
no_text = refl

same_kind : (text : Option (List ℕ)) → unwrap_or (option_and_then field_of text) kind.Int ≡ unwrap_or (field_of (unwrap_or text [])) kind.Int
same_kind None = ap (λ (o : Option Kind). unwrap_or o kind.Int) (sym no_text)
same_kind (Some text) = refl

static_there : (found : Option Declaration) (field : Declaration) → option_and_then (λ (f : Declaration). if is_static f.flags then Some f else None) found ≡ Some field → (found ≡ Some field) × (is_static field.flags ≡ true)
static_there None field e = none_some field e
static_there (Some other) field e = by_static (is_static other.flags) refl e
  where
    by_static : (static : Bool) → is_static other.flags ≡ static → (if static then Some other else None) ≡ Some field → (Some other ≡ Some field) × (is_static field.flags ≡ true)
    by_static true is e = (e, ap (λ (f : Declaration). is_static f.flags) (sym (same_some other field e)) ∙ is)
    by_static false is e = none_some field e

-- what a field is set to is what its type keeps
number_kept : (k : Kind) (whole : Bool) (number : ℤ) → IsKept k (if whole then Whole (narrowed k number) else Null)
number_kept k true number = kept_is_kept k (Whole number)
number_kept k false number = kept_is_kept k Null

initial_kept : (k : Kind) (pushed : Option Pushed) → IsKept k (kept k pushed)
initial_kept k (Some (Number number)) = number_kept k (is_whole_kind k) number
initial_kept k (Some PushedNull) = default_kept k
initial_kept k None = default_kept k

module _ (world : World) (gathers : Gathers world.files None) (read : AllByRecursion IsRead world.files) where
  pub initial_fits : (objects : List Object) → StaticsFit world objects (statics_of world.files)
  initial_fits objects id field is =
      let there = static_there (slice_get (fields_of world.files id.class) id.member) field is in
      let stands = field_of_file world.files id.class id.member field there.0 in
      let static : is_static stands.field.flags ≡ true = ap (λ (d : Declaration). is_static d.flags) stands.is ∙ there.1 in
      let same : member_kind stands.has.file.pool stands.field ≡ kind_of field = same_kind (utf8_at stands.has.file.pool stands.field.descriptor) ∙ ap kind_of stands.is in
      let file = all_at IsRead world.files read (id.class - 32) stands.has.file stands.has.is in
      record {
        value = initial_value stands.has.file stands.field;
        is = initial_there world.files id stands.has.file stands.field stands.has.own stands.has.is stands.there static;
        has = subst (λ (k : Kind). KindFits world objects (kind_of field) (kept k (set_last stands.has.file stands.field))) (sym same)
            (kept_fits world objects (kind_of field) (set_last stands.has.file stands.field) (field_of_names world.files gathers id.class id.member field there.0) (set_fits stands.has.file file stands.field));
        kept = subst (λ (k : Kind). IsKept (kind_of field) (kept k (set_last stands.has.file stands.field))) (sym same) (initial_kept (kind_of field) (set_last stands.has.file stands.field));
      }
