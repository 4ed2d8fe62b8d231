-- What is read of a class file keeps the rules of its members.
use Rattle.std.proofs.Common.{◌≡◌, ℕ, zero, suc, ◌<◌, ◌≤◌, Bool, true, false, ◌||◌, List, [], ◌∷◌, ◌++◌, length, Option, Some, None, Result, Ok, Err, is_some, option_and_then, refl, sym, ap, subst, ◌∙◌, arith, codes}
use Rattle.std.specs.List.{AllByRecursion}
use Rattle.std.proofs.lemmas.Bool.{and_parts, ltb-true, ltb-false}
use Rattle.std.proofs.lemmas.List.{length-take}
use Rattle.byte_read.proofs.Steps.{bind_then, ok_is, no_failure, passes, roomy, chosen}
use Rattle.byte_read.specs.Reading.{slice_at, steps_at, one_more}
use Rattle.class_pool.specs.declared.descriptor.Descriptor.{Descriptor}
use Rattle.class_pool.specs.DescriptorReading.{method_of}
use Rattle.class_pool.specs.Pool.{Slots, utf8_at, EachEntry}
use Rattle.class_file.specs.declared.record.ClassFile.{ClassFile}
use Rattle.class_file.specs.declared.record.CodeAttr.{CodeAttr}
use Rattle.class_file.specs.declared.record.Member.{Member}
use Rattle.class_file.specs.declared.refusal.ReadRefusal.{ReadRefusal}
use Rattle.class_file.specs.declared.refusal.ReadRefusal.TheVariants.{BadDescriptor, BadShape, TooLarge, NotClass, TrailingBytes, Truncated}
use Rattle.class_file.proofs.layout.Whole.{ways}
use Rattle.class_file.specs.Rules.{is_abstract, is_code_size, is_named, has_one_access, fits_interface_field, fits_interface_method, fits_abstract, fits_constructor, fits_slots}
use Rattle.class_file.specs.Reading.{u2_at, u4_at, counted_at, list_at}
use Rattle.class_file.specs.ReadingMembers.{text_at, info_at, skip_all_at, handlers_at, code_bytes_at, code_parts, as_shape, code_at, method_attribute_at, method_attributes_at, head_in, described, field_type, method_type, head_at, field_head_at, method_head_at, field_attributes_at, field_at, method_at, fields_at, methods_at}
use Rattle.class_file.specs.ReadingClass.{version_at, pool_at, class_head_at, members_at, body_of, class_of, capped}
use Rattle.type_safety.proofs.facts.PoolNumbers.{IntegerFits, pool_fits}

-- ---- the rules

-- an abstract method has no code, and another one has some
abbrev pub HasCode : Bool → Option CodeAttr → Type 0
HasCode true code = code ≡ None
HasCode false code = (c : CodeAttr) × (code ≡ Some c)

-- code has at least one byte, and fewer than 65,536
abbrev pub IsCodeLength : ℕ → Type 0
IsCodeLength size = (0 < size) × (size < 65536)

abbrev pub HasBytes : Option CodeAttr → Type 0
HasBytes code = (c : CodeAttr) → code ≡ Some c → IsCodeLength (length c.code)

pub record MethodRules (class_flags : ℕ) (pool : Slots) (m : Member) : Type 0 where
  pub access : has_one_access m.flags ≡ true
  pub of_interface : fits_interface_method class_flags pool (head_in m) ≡ true
  pub abstract_flags : fits_abstract pool (head_in m) ≡ true
  pub type : Descriptor
  pub typed : option_and_then method_of (utf8_at pool m.descriptor) ≡ Some type
  pub constructor : fits_constructor pool (head_in m) type ≡ true
  pub slots : fits_slots pool (head_in m) type ≡ true
  pub has_code : HasCode (is_abstract m.flags) m.code
  pub has_bytes : HasBytes m.code

abbrev pub FieldRules : ℕ → Member → Type 0
FieldRules class_flags m = fits_interface_field class_flags m.flags ≡ true

pub record FileRules (file : ClassFile) : Type 0 where
  pub numbers : EachEntry IntegerFits file.pool
  pub fields : AllByRecursion (FieldRules file.flags) file.fields
  pub methods : AllByRecursion (MethodRules file.flags file.pool) file.methods

-- ---- steps

module _ {S : Type 0} (step : S → List ℕ → Result (S × List ℕ) ReadRefusal) (Q : S → Type 0) (keeps : (s : S) (bytes : List ℕ) (x : S × List ℕ) → Q s → step s bytes ≡ Ok x → Q x.0) where
  steps_keep : (s : S) (count : ℕ) (bytes : List ℕ) (x : S × List ℕ) → Q s → steps_at step s count bytes ≡ Ok x → Q x.0
  unfolding steps_at
  steps_keep s zero bytes x q e = subst (λ (y : S × List ℕ). Q y.0) (ok_is (s, bytes) x e) q
  steps_keep s (suc count) bytes x q e = bind_then (step s bytes) _ x e (λ y at e_x. steps_keep y.0 count y.1 x (keeps s bytes y q at) e_x)

  counted_keep : (s : S) (bytes : List ℕ) (x : S × List ℕ) → Q s → counted_at step s bytes ≡ Ok x → Q x.0
  unfolding counted_at
  counted_keep s bytes x q e = bind_then (u2_at bytes) _ x e (λ count at e_x. steps_keep s count.0 count.1 x q e_x)

all_push : {A : Type 0} (P : A → Type 0) (xs : List A) (x : A) → AllByRecursion P xs → P x → AllByRecursion P (xs ++ x ∷ [])
all_push P [] x all p = (p, tt)
all_push P (y ∷ xs) x all p = (all.0, all_push P xs x all.1 p)

items_keep : {A : Type 0} (item : List A → List ℕ → Result (A × List ℕ) ReadRefusal) (P : A → Type 0)
    → ((earlier : List A) (bytes : List ℕ) (x : A × List ℕ) → item earlier bytes ≡ Ok x → P x.0) → (bytes : List ℕ) (x : List A × List ℕ) → list_at item bytes ≡ Ok x → AllByRecursion P x.0
items_keep {A = A} item P each bytes x e =
    counted_keep (one_more item) (AllByRecursion P)
    (λ earlier bytes y all e. bind_then (item earlier bytes) _ y e (λ next at e_y.
    subst (λ (z : List A × List ℕ). AllByRecursion P z.0) (ok_is (earlier ++ next.0 ∷ [], next.1) y e_y) (all_push P earlier next.0 all (each earlier bytes next at))))
    [] bytes x tt e

-- ---- code

slice_long : (size : ℕ) (bytes : List ℕ) (x : List ℕ × List ℕ) → slice_at Truncated size bytes ≡ Ok x → length x.0 ≡ size
unfolding slice_at
slice_long size bytes x e =
    let room = roomy _ _ x Truncated e in
    let long : size ≤ length bytes = ltb-false _ _ room.0 in
    let taken = length-take size bytes in
    let first = ap (λ (y : List ℕ × List ℕ). length y.0) room.1 in
    omega (arith, long, taken, first)

code_bytes_some : (bytes : List ℕ) (x : List ℕ × List ℕ) → code_bytes_at bytes ≡ Ok x → IsCodeLength (length x.0)
unfolding code_bytes_at
code_bytes_some bytes x e = bind_then (u4_at bytes) _ x e (λ size at e_x.
    chosen (is_code_size size.0) _ _ (Ok x) e_x
    (λ fits is.
    let both = and_parts _ _ fits in
    let some : 0 < size.0 = ltb-true _ _ both.0 in
    let few : size.0 < 65536 = ltb-true _ _ both.1 in
    let long = slice_long size.0 size.1 x is in
    (omega (arith, some, long), omega (arith, few, long)))
    (λ fails is. absurd (no_failure x BadShape (sym is))))

code_some : (pool : Slots) (bytes : List ℕ) (x : CodeAttr) → code_parts pool bytes ≡ Ok x → IsCodeLength (length x.code)
unfolding code_parts
code_some pool bytes x e =
    bind_then (u2_at bytes) _ x e (λ max_stack at_stack e1.
    bind_then (u2_at max_stack.1) _ x e1 (λ max_locals at_locals e2.
    bind_then (code_bytes_at max_locals.1) _ x e2 (λ code at_code e3.
    bind_then (handlers_at pool (length code.0) code.1) _ x e3 (λ handlers at_handlers e4.
    bind_then (skip_all_at pool handlers.1) _ x e4 (λ rest at_rest e5.
    let passed = passes _ _ x BadShape e5 in
    subst (λ (c : CodeAttr). IsCodeLength (length c.code)) passed.1 (code_bytes_some max_locals.1 code at_code))))))

shaped : {A : Type 0} (r : Result A ReadRefusal) (x : A) → as_shape r ≡ Ok x → r ≡ Ok x
shaped (Ok y) x e = e
shaped (Err why) x e = absurd (no_failure x BadShape (sym e))

code_at_some : (pool : Slots) (bytes : List ℕ) (x : CodeAttr × List ℕ) → code_at pool bytes ≡ Ok x → IsCodeLength (length x.0.code)
unfolding code_at
code_at_some pool bytes x e =
    bind_then (info_at bytes) _ x e (λ info at_info e1.
    bind_then (as_shape (code_parts pool info.0)) _ x e1 (λ code at_code e2.
    subst (λ (y : CodeAttr × List ℕ). IsCodeLength (length y.0.code)) (ok_is (code, info.1) x e2) (code_some pool info.0 code (shaped (code_parts pool info.0) code at_code))))

-- ---- attributes of methods

abbrev CodeSoFar : Bool → Option CodeAttr → Type 0
CodeSoFar abstract found = (abstract ≡ true → found ≡ None) × HasBytes found

one_sized : (c : CodeAttr) → IsCodeLength (length c.code) → HasBytes (Some c)
one_sized c some d e = let same : c ≡ d = cc in subst (λ (b : CodeAttr). IsCodeLength (length b.code)) same some

attribute_keeps : (pool : Slots) (abstract : Bool) (found : Option CodeAttr) (bytes : List ℕ) (x : Option CodeAttr × List ℕ) → CodeSoFar abstract found → method_attribute_at pool abstract found bytes ≡ Ok x → CodeSoFar abstract x.0
unfolding method_attribute_at
attribute_keeps pool abstract found bytes x q e =
    bind_then (text_at pool bytes) _ x e (λ name at_name e1.
    chosen (is_named (codes "Code") (utf8_at pool name.0)) _ _ (Ok x) e1
    (λ is_code e2. chosen (abstract || is_some found) _ _ (Ok x) e2
    (λ no e3. absurd (no_failure x BadShape (sym e3)))
    (λ may e3. bind_then (code_at pool name.1) _ x e3 (λ code at_code e4.
    let never : abstract ≡ true → ⊥ = λ h. absurd (let t : true ≡ false = sym (ap (λ b. b || is_some found) h) ∙ may in cc) in
    subst (λ (y : Option CodeAttr × List ℕ). CodeSoFar abstract y.0) (ok_is (Some code.0, code.1) x e4) ((λ h. absurd (never h)), one_sized code.0 (code_at_some pool name.1 code at_code)))))
    (λ other e2. bind_then (info_at name.1) _ x e2 (λ info at_info e3.
    subst (λ (y : Option CodeAttr × List ℕ). CodeSoFar abstract y.0) (ok_is (found, info.1) x e3) q)))

coded : (abstract : Bool) (found : Option CodeAttr) → (abstract || is_some found) ≡ true → (abstract ≡ true → found ≡ None) → HasCode abstract found
coded true found e none = none refl
coded false (Some c) e none = (c, refl)
coded false None e none = absurd (let f : false ≡ true = e in cc)

attributes_keep : (pool : Slots) (abstract : Bool) (bytes : List ℕ) (x : Option CodeAttr × List ℕ) → method_attributes_at pool abstract bytes ≡ Ok x → HasCode abstract x.0 × HasBytes x.0
unfolding method_attributes_at
attributes_keep pool abstract bytes x e =
    bind_then (counted_at (method_attribute_at pool abstract) None bytes) _ x e (λ code at_code e1.
    let kept = counted_keep (method_attribute_at pool abstract) (CodeSoFar abstract) (attribute_keeps pool abstract) None bytes code ((λ h. refl), λ c none. absurd (let bad : None ≡ Some c = none in cc)) at_code in
    let passed = passes _ _ x BadShape e1 in
    subst (λ (y : Option CodeAttr × List ℕ). HasCode abstract y.0 × HasBytes y.0) passed.1 (coded abstract code.0 passed.0 kept.0, kept.1))

-- ---- members

described_is : (index : ℕ) (o : Option Descriptor) (type : Descriptor) → described index o ≡ Ok type → o ≡ Some type
described_is index None type e = absurd (no_failure type (BadDescriptor index) (sym e))
described_is index (Some found) type e = ap (λ (t : Descriptor). Some t) (ok_is found type e)

field_keeps : (class_flags : ℕ) (pool : Slots) (earlier : List Member) (bytes : List ℕ) (x : Member × List ℕ) → field_at class_flags pool earlier bytes ≡ Ok x → FieldRules class_flags x.0
unfolding field_at field_head_at
field_keeps class_flags pool earlier bytes x e =
    bind_then (field_head_at class_flags pool earlier bytes) _ x e (λ head at_head e1.
    bind_then (field_attributes_at pool head.1) _ x e1 (λ value at_value e2.
    bind_then (head_at pool bytes) _ head at_head (λ other at_other e3.
    bind_then (field_type pool other.0.descriptor) _ head e3 (λ type at_type e4.
    let passed = passes _ _ head BadShape e4 in
    let rules = and_parts _ _ (and_parts _ _ passed.0).0 in
    let same : x.0.flags ≡ other.0.flags = ap (λ (y : Member × List ℕ). y.0.flags) (sym (ok_is _ x e2)) ∙ ap (λ (h : _). h.0.flags) (sym passed.1) in
    ap (fits_interface_field class_flags) same ∙ rules.1))))

method_keeps : (class_flags : ℕ) (pool : Slots) (earlier : List Member) (bytes : List ℕ) (x : Member × List ℕ) → method_at class_flags pool earlier bytes ≡ Ok x → MethodRules class_flags pool x.0
unfolding method_at method_head_at method_type
method_keeps class_flags pool earlier bytes x e =
    bind_then (method_head_at class_flags pool earlier bytes) _ x e (λ head at_head e1.
    bind_then (method_attributes_at pool (is_abstract head.0.flags) head.1) _ x e1 (λ code at_code e2.
    bind_then (head_at pool bytes) _ head at_head (λ other at_other e3.
    bind_then (method_type pool other.0.descriptor) _ head e3 (λ type at_type e4.
    let passed = passes _ _ head BadShape e4 in
    let p = and_parts _ _ (and_parts _ _ passed.0).0 in
    let flags = and_parts _ _ p.0 in
    let of_interface = and_parts _ _ flags.1 in
    let later = and_parts _ _ p.1 in
    let names = and_parts _ _ later.0 in
    let types = and_parts _ _ later.1 in
    let kept = attributes_keep pool (is_abstract head.0.flags) head.1 code at_code in
    let heads = ap (λ (h : _). h.0) passed.1 in
    subst (λ (y : Member × List ℕ). MethodRules class_flags pool y.0) (ok_is _ x e2) (record {
      access = ap (λ (h : _). has_one_access h.flags) (sym heads) ∙ flags.0;
      of_interface = ap (λ (h : _). fits_interface_method class_flags pool h) (sym heads) ∙ of_interface.0;
      abstract_flags = ap (λ (h : _). fits_abstract pool h) (sym heads) ∙ names.0;
      type = type;
      typed = ap (λ (h : _). option_and_then method_of (utf8_at pool h.descriptor)) (sym heads) ∙ described_is other.0.descriptor (option_and_then method_of (utf8_at pool other.0.descriptor)) type at_type;
      constructor = ap (λ (h : _). fits_constructor pool h type) (sym heads) ∙ types.0;
      slots = ap (λ (h : _). fits_slots pool h type) (sym heads) ∙ (and_parts _ _ types.1).1;
      has_code = kept.0;
      has_bytes = kept.1;
    })))))

-- ---- the file

body_keeps : (bytes : List ℕ) (file : ClassFile) → body_of bytes ≡ Ok file → FileRules file
unfolding body_of members_at fields_at methods_at
body_keeps bytes file e =
    bind_then (version_at bytes) _ file e (λ version at_version e1.
    bind_then (pool_at version.1) _ file e1 (λ pool at_pool e2.
    bind_then (class_head_at pool.0 pool.1) _ file e2 (λ head at_head e3.
    bind_then (members_at head.0.flags pool.0 head.1) _ file e3 (λ members at_members e4.
    bind_then (fields_at head.0.flags pool.0 head.1) _ members at_members (λ fields at_fields e5.
    bind_then (methods_at head.0.flags pool.0 fields.1) _ members e5 (λ methods at_methods e6.
    bind_then (skip_all_at pool.0 methods.1) _ members e6 (λ rest at_rest e7.
    let made = passes _ _ file (TrailingBytes (capped (length members.1))) e4 in
    let are = ap (λ (m : (List Member × List Member) × List ℕ). m.0) (ok_is _ members e7) in
    let kept_fields = items_keep (field_at head.0.flags pool.0) (FieldRules head.0.flags) (field_keeps head.0.flags pool.0) head.1 fields at_fields in
    let kept_methods = items_keep (method_at head.0.flags pool.0) (MethodRules head.0.flags pool.0) (method_keeps head.0.flags pool.0) fields.1 methods at_methods in
    subst FileRules made.1 (record {
      numbers = pool_fits version.1 pool at_pool;
      fields = subst (λ (l : List Member). AllByRecursion (FieldRules head.0.flags) l) (ap (λ (m : List Member × List Member). m.0) are) kept_fields;
      methods = subst (λ (l : List Member). AllByRecursion (MethodRules head.0.flags pool.0) l) (ap (λ (m : List Member × List Member). m.1) are) kept_methods;
    }))))))))

pub file_keeps : (bytes : List ℕ) (file : ClassFile) → class_of bytes ≡ Ok file → FileRules file
file_keeps bytes file e =
    ways (FileRules file) bytes (Ok file) e (λ many is. absurd (no_failure file (TooLarge (capped (length bytes))) (sym is))) (λ size other is. absurd (no_failure file NotClass (sym is)))
    (λ begun e_file. body_keeps _ file e_file)
