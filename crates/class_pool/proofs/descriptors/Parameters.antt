-- Parameters and the descriptor of a method are read where they are encoded, and what is read is one.
use Rattle.std.proofs.Common.{◌≡◌, ◌⊎◌, ℕ, zero, suc, ◌+◌, ◌-◌, ◌<◌, ◌≤◌, Bool, true, false, cond, eqb, List, [], ◌∷◌, ◌++◌, length, Option, Some, None, Err, refl, sym, ap, subst, ◌∙◌, append_assoc, arith, inl, inr, length-append}
use Rattle.std.specs.List.{flat_map, AllByRecursion}
use Rattle.std.proofs.lemmas.Bool.{eqb-true}
use Rattle.std.proofs.lemmas.List.{append-nil, nil_from_length}
use Rattle.std.proofs.lemmas.List.Concat.{flat_map-cons}
use Rattle.class_pool.specs.declared.descriptor.Kind.{Kind}
use Rattle.class_pool.specs.declared.descriptor.Kind.TheVariants.{Byte, Char, Double, Float, Int, Long, Short, Boolean, Class, Array}
use Rattle.class_pool.specs.declared.descriptor.Descriptor.{Descriptor}
use Rattle.class_pool.specs.declared.descriptor.DescriptorRefusal.{DescriptorRefusal}
use Rattle.class_pool.specs.declared.descriptor.DescriptorRefusal.TheVariants.{BadDescriptor, Memory}
use Rattle.class_pool.specs.Descriptors.{kind_text, HasDims, IsKind, result_text, IsResult, IsMethodText}
use Rattle.class_pool.specs.DescriptorReading.{◌>>=◌, Reads, kind_at, field_of, after_close, closed, params_at, result_of, method_of}
use Rattle.byte_read.proofs.Steps.{pair}
use Rattle.class_pool.proofs.descriptors.ClassNames.{some, some_is, no_some}
use Rattle.class_pool.proofs.descriptors.FieldTypes.{bind_some, then_some, chosen, kind_taken, kind_read, field_taken, field_read}

abbrev pub Params : Type 0
Params = List Kind × List ℕ

-- what is read where no `)` stands
abbrev pub goes_on : ℕ → List ℕ → Option Params
goes_on most text = kind_at text >>= λ kind. params_at most kind.1 >>= λ others. Some (kind.0 ∷ others.0, others.1)

-- ---- what is encoded is read

-- no type begins with a `)`
no_close : (kind : Kind) (rest : List ℕ) → HasDims kind → after_close (kind_text kind ++ rest) ≡ None
no_close Byte rest has = refl
no_close Char rest has = refl
no_close Double rest has = refl
no_close Float rest has = refl
no_close Int rest has = refl
no_close Long rest has = refl
no_close Short rest has = refl
no_close Boolean rest has = refl
no_close (Class name) rest has = refl
no_close (Array zero of) rest has = absurd (omega (arith, has.0))
no_close (Array (suc dims) of) rest has = refl

some_text : (kind : Kind) → HasDims kind → 1 ≤ length (kind_text kind)
some_text Byte has = omega arith
some_text Char has = omega arith
some_text Double has = omega arith
some_text Float has = omega arith
some_text Int has = omega arith
some_text Long has = omega arith
some_text Short has = omega arith
some_text Boolean has = omega arith
some_text (Class name) has = omega arith
some_text (Array zero of) has = absurd (omega (arith, has.0))
some_text (Array (suc dims) of) has = omega arith

pub params_read : (most : ℕ) (params : List Kind) (rest : List ℕ) → length (flat_map kind_text params) < most → AllByRecursion IsKind params → params_at most (flat_map kind_text params ++ 41 ∷ rest) ≡ Some (params, rest)
unfolding params_at
params_read zero params rest lt are = absurd (omega (arith, lt))
params_read (suc most) [] rest lt are = refl
params_read (suc most) (kind ∷ params) rest lt are =
    let others : List ℕ = flat_map kind_text params ++ 41 ∷ rest in
    let whole : flat_map kind_text (kind ∷ params) ++ 41 ∷ rest ≡ kind_text kind ++ others = ap (λ (t : List ℕ). t ++ 41 ∷ rest) (flat_map-cons kind_text kind params) ∙ append_assoc (kind_text kind) (flat_map kind_text params) (41 ∷ rest) in
    let len : length (flat_map kind_text (kind ∷ params)) ≡ length (kind_text kind) + length (flat_map kind_text params) = ap length (flat_map-cons kind_text kind params) ∙ length-append (kind_text kind) (flat_map kind_text params) in
    let few : length (flat_map kind_text params) < most = omega (arith, lt, len, some_text kind are.0.0) in
    let on : params_at (suc most) (kind_text kind ++ others) ≡ goes_on most (kind_text kind ++ others) = ap (λ (close : Option (List ℕ)). closed close (goes_on most (kind_text kind ++ others))) (no_close kind others are.0.0) in
    ap (params_at (suc most)) whole ∙ on ∙ then_some _ _ (kind_read kind others are.0) (then_some _ _ (params_read most params rest few are.1) refl)

-- ---- what was read is encoded so

pub record TakesParams (text : List ℕ) (x : Params) : Type 0 where
  pub parts : text ≡ flat_map kind_text x.0 ++ 41 ∷ x.1
  pub are_kinds : AllByRecursion IsKind x.0

-- where the text is at a `)`
close_cases : (text : List ℕ) (close : Option (List ℕ)) (others : Option Params) (x : Params) → after_close text ≡ close → closed close others ≡ Some x → ((rest : List ℕ) × (text ≡ 41 ∷ rest) × (pair [] rest ≡ x)) ⊎ (others ≡ Some x)
close_cases text None others x e h = inr h
close_cases [] (Some rest) others x e h = absurd (no_some rest e)
close_cases (letter ∷ text) (Some rest) others x e h =
    elim (chosen (eqb letter 41) (some text) None (some rest) e) [
      | inl is ↦ inl (rest, ap (λ (l : ℕ). l ∷ text) (eqb-true _ _ is.0) ∙ ap (λ (t : List ℕ). 41 ∷ t) (some_is text rest is.1), some_is ([], rest) x h)
      | inr not ↦ absurd (no_some rest not.1)
    ]

params_made : (text : List ℕ) (kind : Kind × List ℕ) (others : Params) → text ≡ kind_text kind.0 ++ kind.1 → IsKind kind.0 → TakesParams kind.1 others → TakesParams text (kind.0 ∷ others.0, others.1)
params_made text kind others parts is t =
    let whole : text ≡ flat_map kind_text (kind.0 ∷ others.0) ++ 41 ∷ others.1 = parts ∙ ap (λ (rest : List ℕ). kind_text kind.0 ++ rest) t.parts ∙ sym (append_assoc (kind_text kind.0) (flat_map kind_text others.0) (41 ∷ others.1)) ∙ ap (λ (prefix : List ℕ). prefix ++ 41 ∷ others.1) (sym (flat_map-cons kind_text kind.0 others.0)) in
    record { parts = whole; are_kinds = (is, t.are_kinds) }

pub params_taken : (most : ℕ) (text : List ℕ) (x : Params) → params_at most text ≡ Some x → TakesParams text x
unfolding params_at
params_taken zero text x e = absurd (no_some x e)
params_taken (suc most) text x e =
    elim (close_cases text (after_close text) (goes_on most text) x refl e) [
      | inl close ↦ subst (TakesParams text) close.2 (record { parts = close.1; are_kinds = tt })
      | inr on ↦
          bind_some (kind_at text) _ x on (λ kind at_kind e_others.
          bind_some (params_at most kind.1) _ x e_others (λ others at_others e_x.
          let k = kind_taken text kind at_kind in
          let t = params_taken most kind.1 others at_others in
          subst (TakesParams text) (some_is (kind.0 ∷ others.0, others.1) x e_x) (params_made text kind others k.parts k.is_kind t)))
    ]

-- ---- results

record TakesResult (text : List ℕ) (result : Option Kind) : Type 0 where
  parts : text ≡ result_text result
  is_result : IsResult result

abbrev some_result : Option Kind → Option (Option Kind)
some_result result = Some result

abbrev no_result : Option (Option Kind)
no_result = None

abbrev a_field : List ℕ → Option (Option Kind)
a_field text = field_of text >>= λ kind. Some (Some kind)

result_taken : (text : List ℕ) (result : Option Kind) → result_of text ≡ Some result → TakesResult text result
unfolding result_of
result_taken [] result e = absurd (no_some result e)
result_taken (letter ∷ text) result e =
    elim (chosen (eqb letter 86) (cond (eqb (length text) 0) (some_result None) no_result) (a_field (letter ∷ text)) (some result) e) [
      | inl void ↦
          elim (chosen (eqb (length text) 0) (some_result None) no_result (some result) void.1) [
            | inl done ↦
                let none : text ≡ [] = nil_from_length text (eqb-true _ _ done.0) in
                let parts : letter ∷ text ≡ 86 ∷ [] = ap (λ (l : ℕ). l ∷ text) (eqb-true _ _ void.0) ∙ ap (λ (t : List ℕ). 86 ∷ t) none in
                subst (TakesResult (letter ∷ text)) (some_is None result done.1) (record { parts = parts; is_result = tt })
            | inr more ↦ absurd (no_some result more.1)
          ]
      | inr field ↦
          bind_some (field_of (letter ∷ text)) _ result field.1 (λ kind at_kind e_result.
          let f = field_taken (letter ∷ text) kind at_kind in
          subst (TakesResult (letter ∷ text)) (some_is (some kind) result e_result) (record { parts = f.1; is_result = f.0 }))
    ]

-- no type begins with a `V`
abbrev starts_void : List ℕ → Bool
starts_void [] = true
starts_void (letter ∷ text) = eqb letter 86

no_void : (kind : Kind) → HasDims kind → starts_void (kind_text kind) ≡ false
no_void Byte has = refl
no_void Char has = refl
no_void Double has = refl
no_void Float has = refl
no_void Int has = refl
no_void Long has = refl
no_void Short has = refl
no_void Boolean has = refl
no_void (Class name) has = refl
no_void (Array zero of) has = absurd (omega (arith, has.0))
no_void (Array (suc dims) of) has = refl

to_field : (text : List ℕ) → starts_void text ≡ false → result_of text ≡ a_field text
unfolding result_of
to_field [] e = absurd cc
to_field (letter ∷ text) e = ap (λ (b : Bool). cond b (cond (eqb (length text) 0) (some_result None) no_result) (a_field (letter ∷ text))) e

result_read : (result : Option Kind) → IsResult result → result_of (result_text result) ≡ Some result
unfolding result_of
result_read None is = refl
result_read (Some kind) is = to_field (kind_text kind) (no_void kind is.0) ∙ then_some _ _ (field_read (kind_text kind) kind (is, refl)) refl

-- ---- methods

abbrev no_method : Option Descriptor
no_method = None

abbrev after_open : List ℕ → Option Descriptor
after_open text = params_at (length text) text >>= λ params. result_of params.1 >>= λ result. Some (record { params = params.0; result = result })

method_made : (letter : ℕ) (text : List ℕ) (params : Params) (result : Option Kind) → letter ≡ 40 → TakesParams text params → TakesResult params.1 result → IsMethodText (letter ∷ text) (record { params = params.0; result = result })
method_made letter text params result is p r =
    let parts : letter ∷ text ≡ 40 ∷ (flat_map kind_text params.0 ++ 41 ∷ result_text result) = ap (λ (l : ℕ). l ∷ text) is ∙ ap (λ (t : List ℕ). 40 ∷ t) p.parts ∙ ap (λ (t : List ℕ). 40 ∷ (flat_map kind_text params.0 ++ 41 ∷ t)) r.parts in
    (record { params = p.are_kinds; result = r.is_result }, parts)

pub method_taken : (text : List ℕ) (d : Descriptor) → method_of text ≡ Some d → IsMethodText text d
unfolding method_of
method_taken [] d e = absurd (no_some d e)
method_taken (letter ∷ text) d e =
    elim (chosen (eqb letter 40) (after_open text) no_method (some d) e) [
      | inl begun ↦
          bind_some (params_at (length text) text) _ d begun.1 (λ params at_params e_result.
          bind_some (result_of params.1) _ d e_result (λ result at_result e_d.
          let p = params_taken (length text) text params at_params in
          let r = result_taken params.1 result at_result in
          subst (IsMethodText (letter ∷ text)) (some_is (record { params = params.0; result = result }) d e_d) (method_made letter text params result (eqb-true _ _ begun.0) p r)))
      | inr not ↦ absurd (no_some d not.1)
    ]

pub method_read : (text : List ℕ) (d : Descriptor) → IsMethodText text d → method_of text ≡ Some d
unfolding method_of
method_read text d is =
    let rest : List ℕ = flat_map kind_text d.params ++ 41 ∷ result_text d.result in
    let few : length (flat_map kind_text d.params) < length rest = omega (arith, length-append (flat_map kind_text d.params) (41 ∷ result_text d.result)) in
    ap method_of is.1 ∙ then_some _ _ (params_read (length rest) d.params (result_text d.result) few is.0.params) (then_some _ _ (result_read d.result is.0.result) refl)

-- ---- one parameter after the other, as a loop does

-- what was read before, and what is still read
abbrev pub with_prefix : List Kind → Option Params → Option Params
with_prefix prefix read = read >>= λ x. Some (prefix ++ x.0, x.1)

regroup : (prefix : List Kind) (kind : Kind) (read : Option Params) → with_prefix prefix (read >>= λ x. Some (kind ∷ x.0, x.1)) ≡ with_prefix (prefix ++ kind ∷ []) read
regroup prefix kind (Some x) = ap (λ (kinds : List Kind). some (kinds, x.1)) (simp append_assoc)
regroup prefix kind None = refl

pub room_left : (most i : ℕ) → i < most → most - i ≡ suc (most - (i + 1))
room_left most i lt = omega arith

pub one_on : (most : ℕ) (text : List ℕ) → after_close text ≡ None → params_at (suc most) text ≡ goes_on most text
unfolding params_at
one_on most text e = ap (λ (close : Option (List ℕ)). closed close (goes_on most text)) e

pub one_closed : (most : ℕ) (text rest : List ℕ) → after_close text ≡ Some rest → params_at (suc most) text ≡ Some ([], rest)
unfolding params_at
one_closed most text rest e = ap (λ (close : Option (List ℕ)). closed close (goes_on most text)) e

pub loop_goes_on : (prefix : List Kind) (most i : ℕ) (text : List ℕ) (kind : Kind) (after : List ℕ) (total : Option Params) → i < most → after_close text ≡ None → kind_at text ≡ Some (kind, after)
    → with_prefix prefix (params_at (most - i) text) ≡ total → with_prefix (prefix ++ kind ∷ []) (params_at (most - (i + 1)) after) ≡ total
loop_goes_on prefix most i text kind after total lt goes read so_far =
    let k = room_left most i lt in
    let next = most - (i + 1) in
    let one : params_at (suc next) text ≡ (params_at next after >>= λ others. Some (kind ∷ others.0, others.1)) = one_on next text goes ∙ then_some _ _ read refl in
    sym (regroup prefix kind (params_at next after)) ∙ ap (with_prefix prefix) (sym one) ∙ ap (λ (n : ℕ). with_prefix prefix (params_at n text)) (sym k) ∙ so_far

pub loop_closes : (prefix : List Kind) (most i : ℕ) (text rest : List ℕ) (total : Option Params) → i < most → after_close text ≡ Some rest → with_prefix prefix (params_at (most - i) text) ≡ total → total ≡ Some (prefix, rest)
loop_closes prefix most i text rest total lt close so_far =
    let k = room_left most i lt in
    sym so_far ∙ ap (λ (n : ℕ). with_prefix prefix (params_at n text)) k ∙ ap (with_prefix prefix) (one_closed (most - (i + 1)) text rest close) ∙ ap (λ (kinds : List Kind). some (kinds, rest)) (append-nil prefix)

pub loop_fails : (why : DescriptorRefusal) (prefix : List Kind) (most i : ℕ) (text : List ℕ) (total : Option Params) → i < most → after_close text ≡ None → Reads (λ x. x) (Err why) (kind_at text)
    → with_prefix prefix (params_at (most - i) text) ≡ total → Reads (λ x. x) (Err why) total
loop_fails Memory prefix most i text total lt goes read so_far = tt
loop_fails BadDescriptor prefix most i text total lt goes read so_far =
    let k = room_left most i lt in
    let one : goes_on (most - (i + 1)) text ≡ None = rw read refl in
    sym so_far ∙ ap (λ (n : ℕ). with_prefix prefix (params_at n text)) k ∙ ap (with_prefix prefix) (one_on (most - (i + 1)) text goes ∙ one)

pub loop_ends : (prefix : List Kind) (most i : ℕ) (text : List ℕ) (total : Option Params) → most ≤ i → with_prefix prefix (params_at (most - i) text) ≡ total → total ≡ None
unfolding params_at
loop_ends prefix most i text total le so_far =
    let k : most - i ≡ 0 = omega arith in
    sym so_far ∙ ap (λ (n : ℕ). with_prefix prefix (params_at n text)) k
