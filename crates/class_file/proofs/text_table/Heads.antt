-- What stands before the attributes of a member, by what a table of the texts says.
use Rattle.std.proofs.Common.{◌≡◌, ℕ, Bool, true, false, cond, not, ◌&&◌, List, Option, Some, None, Result, Ok, Err, refl, sym, ap, subst}
use Rattle.std.specs.Prelude.{IsSome, is_some, option_map, option_and_then}
use Rattle.std.proofs.lemmas.Bool.{true≢false, false≢true}
use Rattle.class_pool.specs.declared.descriptor.Kind.{Kind}
use Rattle.class_pool.specs.declared.descriptor.Descriptor.{Descriptor}
use Rattle.class_pool.specs.Pool.{Slots, utf8_at, is_utf8_at}
use Rattle.class_pool.specs.DescriptorReading.{field_of, method_of}
use Rattle.class_file.specs.declared.head.Head.{Head}
use Rattle.class_file.specs.declared.record.Member.{Member}
use Rattle.class_file.specs.declared.texts.MethodShape.{MethodShape}
use Rattle.class_file.specs.declared.refusal.ReadRefusal.{ReadRefusal}
use Rattle.class_file.specs.declared.refusal.ReadRefusal.TheVariants.{BadShape, BadDescriptor}
use Rattle.byte_read.specs.Reading.{◌>>=◌}
use Rattle.class_file.specs.Reading.{u2_at}
use Rattle.class_file.specs.ReadingMembers.{text_at, head_at, described, field_type, method_type, is_declared, is_field_head, is_method_head, field_head_at, method_head_at}
use Rattle.class_file.specs.Texts.{shape_of}
use Rattle.byte_read.proofs.Steps.{bind_then, ok_is, passes, then_ok}

-- ---- texts

text_is : (pool : Slots) (bytes : List ℕ) (x : ℕ × List ℕ) → text_at pool bytes ≡ Ok x → IsSome (utf8_at pool x.0)
unfolding text_at
text_is pool bytes x e =
    bind_then (u2_at bytes) (λ index. cond (is_utf8_at pool index.0) (Ok index) (Err BadShape)) x e (λ index from then.
    let p = passes (is_utf8_at pool index.0) index x BadShape then in
    subst (λ (y : ℕ × List ℕ). IsSome (utf8_at pool y.0)) p.1 p.0)

abbrev HasTexts : Slots → Head → Type 0
HasTexts pool head = IsSome (utf8_at pool head.name) × IsSome (utf8_at pool head.descriptor)

-- the name and the descriptor of a head that was read are texts
pub head_texts : (pool : Slots) (bytes : List ℕ) (head : Head) (rest : List ℕ) → head_at pool bytes ≡ Ok (head, rest) → IsSome (utf8_at pool head.name) × IsSome (utf8_at pool head.descriptor)
unfolding head_at
head_texts pool bytes head rest e =
    bind_then (u2_at bytes) (λ flags. text_at pool flags.1 >>= λ name. text_at pool name.1 >>= λ descriptor. Ok (of flags.0 name.0 descriptor.0, descriptor.1)) (head, rest) e (λ flags from_flags then.
    bind_then (text_at pool flags.1) (λ name. text_at pool name.1 >>= λ descriptor. Ok (of flags.0 name.0 descriptor.0, descriptor.1)) (head, rest) then (λ name from_name suffix.
    bind_then (text_at pool name.1) (λ descriptor. Ok (of flags.0 name.0 descriptor.0, descriptor.1)) (head, rest) suffix (λ descriptor from_descriptor last.
    subst (λ (y : Head × List ℕ). HasTexts pool y.0) (ok_is (of flags.0 name.0 descriptor.0, descriptor.1) (head, rest) last) (text_is pool flags.1 name from_name, text_is pool name.1 descriptor from_descriptor))))
  where
    of : ℕ → ℕ → ℕ → Head
    of flags name descriptor = record { flags = flags; name = name; descriptor = descriptor }

-- ---- descriptors

not_described : {A B : Type 0} (index : ℕ) (found : Option A) (f : A → Result B ReadRefusal) → is_some found ≡ false → (described index found >>= f) ≡ Err (BadDescriptor index)
not_described index None f e = refl
not_described index (Some type) f e = absurd (true≢false e)

is_described : {A B : Type 0} (index : ℕ) (found : Option A) (f : A → Result B ReadRefusal) (y : Result B ReadRefusal) → is_some found ≡ true → ((type : A) → found ≡ Some type → f type ≡ y) → (described index found >>= f) ≡ y
is_described index None f y e then = absurd (false≢true e)
is_described index (Some type) f y e then = then type refl

-- ---- the test of a head that is not declared

pub broken : {A : Type 0} (fits declared : Bool) (x y : A) → fits ≡ false → cond (fits && not declared) x y ≡ y
broken fits declared x y e = rw e refl

pub again : {A : Type 0} (fits declared : Bool) (x y : A) → declared ≡ true → cond (fits && not declared) x y ≡ y
again true declared x y e = rw e refl
again false declared x y e = refl

pub kept : {A : Type 0} (fits declared : Bool) (x y : A) → fits ≡ true → declared ≡ false → cond (fits && not declared) x y ≡ x
kept fits declared x y e h = rw (e, h) refl

-- ---- fields

abbrev field_in : Slots → Head → Option Kind
field_in pool head = option_and_then field_of (utf8_at pool head.descriptor)

module _ (class_flags : ℕ) (pool : Slots) (earlier : List Member) (bytes : List ℕ) (head : Head) (rest : List ℕ) (read : head_at pool bytes ≡ Ok (head, rest)) where
  abbrev judged : Bool → Result (Head × List ℕ) ReadRefusal
  judged fits = cond (fits && not (is_declared pool earlier head)) (Ok (head, rest)) (Err BadShape)

  pub no_field_type : is_some (field_in pool head) ≡ false → field_head_at class_flags pool earlier bytes ≡ Err (BadDescriptor head.descriptor)
  unfolding field_head_at field_type
  no_field_type none = then_ok _ (Err (BadDescriptor head.descriptor)) read (not_described head.descriptor (field_in pool head) (λ type. judged (is_field_head class_flags head)) none)

  pub field_judged : is_some (field_in pool head) ≡ true → field_head_at class_flags pool earlier bytes ≡ judged (is_field_head class_flags head)
  unfolding field_head_at field_type
  field_judged some =
      then_ok _ (judged (is_field_head class_flags head)) read
      (is_described head.descriptor (field_in pool head) (λ type. judged (is_field_head class_flags head)) (judged (is_field_head class_flags head)) some (λ type is. refl))

  -- ---- methods

  abbrev method_in : Option Descriptor
  method_in = option_and_then method_of (utf8_at pool head.descriptor)

  no_type : (found : Option Descriptor) → option_map shape_of found ≡ None → is_some found ≡ false
  no_type None e = refl
  no_type (Some type) e = absurd cc

  a_type : (found : Option Descriptor) (shape : MethodShape) → option_map shape_of found ≡ Some shape → (is_some found ≡ true) × ((type : Descriptor) → found ≡ Some type → shape ≡ shape_of type)
  a_type None shape e = absurd cc
  a_type (Some other) shape e = (refl, λ type is. cc)

  pub no_method_type : option_map shape_of method_in ≡ None → method_head_at class_flags pool earlier bytes ≡ Err (BadDescriptor head.descriptor)
  unfolding method_head_at method_type
  no_method_type none =
      then_ok _ (Err (BadDescriptor head.descriptor)) read (not_described head.descriptor method_in (λ type. judged (is_method_head class_flags pool head type)) (no_type method_in none))

  pub method_judged : (shape : MethodShape) (fits : Bool) → option_map shape_of method_in ≡ Some shape → ((type : Descriptor) → shape ≡ shape_of type → fits ≡ is_method_head class_flags pool head type)
      → method_head_at class_flags pool earlier bytes ≡ judged fits
  unfolding method_head_at method_type
  method_judged shape fits some told =
      let found = a_type method_in shape some in
      then_ok _ (judged fits) read
      (is_described head.descriptor method_in (λ type. judged (is_method_head class_flags pool head type)) (judged fits) found.0 (λ type is. ap judged (sym (told type (found.1 type is)))))
