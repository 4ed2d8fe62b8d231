-- Where the expansions of a body's instructions stand in its code, and how offsets grow.
use Rattle.std.proofs.Common.{◌≡◌, ◌⊎◌, inl, inr, ℕ, suc, ◌+◌, ◌<◌, ◌≤◌, Bool, true, false, nat_eq, if◌then◌else◌, List, [], ◌∷◌, ◌++◌, length, Some, None, refl, sym, ap, ◌∙◌, append_assoc, length-append, arith}
use Rattle.std.specs.List.{flat_map}
use Rattle.std.proofs.lemmas.Bool.{cases_lt}
use Rattle.std.proofs.lemmas.Bool.Decides.{nat_tests}
use Rattle.std.proofs.lemmas.List.Concat.{flat_map-cons}
use Rattle.std.proofs.lemmas.Option.{none-some}
use Rattle.code_reach.specs.Reached.{RisesFrom}
use Rattle.body_form.specs.declared.op.Op.{Op}
use Rattle.body_form.specs.Flow.{Ops}
use Rattle.jvm_model.specs.TypesRules.{op_at}
use Rattle.jvm_model.specs.WidthsShapes.{pc_after}
use Rattle.jvm_model.specs.ImageExpansion.{Emitted, bytes_of}
use Rattle.jvm_model.specs.ImageEmission.{Source, expansion_at, bytes_at, size_at, size_below, fill_bytes, offset_of, code_of}
use Rattle.typed_machine.specs.TypedWorld as typed
use Rattle.expansion.proofs.ExpansionSizes.{size_is}
use Rattle.expansion.proofs.SizesBelow.{below_none, below_first, below_later}

-- ---- tests of pcs

is_same : (n : ℕ) (at : ℕ) → nat_eq n at ≡ true → n ≡ at
is_same n at e = grind (arith, nat_tests)

same_or_other : (n at : ℕ) → (b : Bool) → nat_eq n at ≡ b → (n ≡ at) ⊎ (nat_eq n at ≡ false)
same_or_other n at true e = inl (is_same n at e)
same_or_other n at false e = inr e

itself : (n : ℕ) → nat_eq n n ≡ true
itself n = grind (arith, nat_tests)

differs : (m n : ℕ) → m < n → nat_eq m n ≡ false
differs m n less = grind (arith, nat_tests)

some_is : {X : Type 0} (x y : X) → Some x ≡ Some y → x ≡ y
some_is x y e = cc

-- ---- instructions in order of pc

op_after : (at : ℕ) (here : Op) (ops : Ops) (pc : ℕ) → nat_eq at pc ≡ false → op_at ((at, here) ∷ ops) pc ≡ op_at ops pc
unfolding op_at
op_after at here ops pc e = ap (λ b. if b then Some here else op_at ops pc) e

op_here : (at : ℕ) (here : Op) (ops : Ops) → op_at ((at, here) ∷ ops) at ≡ Some here
unfolding op_at
op_here at here ops = ap (λ b. if b then Some here else op_at ops at) (itself at)

op_none : (pc : ℕ) → op_at [] pc ≡ None
unfolding op_at
op_none pc = refl

-- an instruction is not below the least pc
pub op_from : (low : ℕ) (ops : Ops) → RisesFrom low ops → (pc : ℕ) (instruction : Op) → op_at ops pc ≡ Some instruction → low ≤ pc
op_from low [] rise pc instruction at = absurd (none-some instruction (sym (op_none pc) ∙ at))
op_from low ((here, first) ∷ ops) rise pc instruction at =
    elim (same_or_other here pc (nat_eq here pc) refl) [
      | inl same ↦ omega (arith, same, rise.0)
      | inr other ↦
          let later = op_from (suc here) ops rise.1 pc instruction (sym (op_after here first ops pc other) ∙ at) in
          omega (arith, later, rise.0)
    ]

-- both machines have the same pc after an instruction
pub same_after : (ops : Ops) (pc : ℕ) → typed.pc_after ops pc ≡ pc_after ops pc
unfolding pc_after typed.pc_after
same_after [] pc = refl
same_after ((at, here) ∷ []) pc = refl
same_after ((at, here) ∷ (to, there) ∷ ops) pc = ap (λ next. if nat_eq at pc then Some to else next) (same_after ((to, there) ∷ ops) pc)

after_later : (at : ℕ) (here : Op) (to : ℕ) (there : Op) (ops : Ops) (pc : ℕ) → nat_eq at pc ≡ false → pc_after ((at, here) ∷ (to, there) ∷ ops) pc ≡ pc_after ((to, there) ∷ ops) pc
unfolding pc_after
after_later at here to there ops pc e = ap (λ b. if b then Some to else pc_after ((to, there) ∷ ops) pc) e

after_here : (at : ℕ) (here : Op) (to : ℕ) (there : Op) (ops : Ops) → pc_after ((at, here) ∷ (to, there) ∷ ops) at ≡ Some to
unfolding pc_after
after_here at here to there ops = ap (λ b. if b then Some to else pc_after ((to, there) ∷ ops) at) (itself at)

after_none : (pc : ℕ) → pc_after [] pc ≡ None
unfolding pc_after
after_none pc = refl

after_last : (at : ℕ) (here : Op) (pc : ℕ) → pc_after ((at, here) ∷ []) pc ≡ None
unfolding pc_after
after_last at here pc = refl

-- the pc after an instruction is above it, and above the least pc
pub after_from : (low : ℕ) (ops : Ops) → RisesFrom low ops → (pc next : ℕ) → pc_after ops pc ≡ Some next → low < next
after_from low [] rise pc next is = absurd (none-some next (sym (after_none pc) ∙ is))
after_from low ((at, here) ∷ []) rise pc next is = absurd (none-some next (sym (after_last at here pc) ∙ is))
after_from low ((at, here) ∷ (to, there) ∷ ops) rise pc next is =
    elim (same_or_other at pc (nat_eq at pc) refl) [
      | inl same ↦
          let found = some_is to next (sym (after_here at here to there ops) ∙ ap (pc_after ((at, here) ∷ (to, there) ∷ ops)) same ∙ is) in
          omega (arith, found, rise.0, rise.1.0)
      | inr other ↦
          let later = after_from (suc at) ((to, there) ∷ ops) rise.1 pc next (sym (after_later at here to there ops pc other) ∙ is) in
          omega (arith, later, rise.0)
    ]

-- ---- sizes below a pc

module _ (source : Source) where
  below_start : (ops : Ops) → size_below source ops 0 ≡ 0
  below_start [] = below_none source 0
  below_start (x ∷ ops) = below_first source x ops 0 (omega arith)

  -- sizes below a pc grow with it
  below_keeps : (ops : Ops) (to pc : ℕ) → to ≤ pc → size_below source ops to ≤ size_below source ops pc
  below_keeps [] to pc le = omega (arith, below_none source to)
  below_keeps (x ∷ ops) to pc le =
      elim (cases_lt x.0 to) [
        | inl less ↦ omega (arith, below_later source x ops to less, below_later source x ops pc (omega (arith, less, le)), below_keeps ops to pc le)
        | inr from ↦ omega (arith, below_first source x ops to from)
      ]

  -- where the bytes of an instruction stand among those of all
  record Parts (offset : ℕ → ℕ) (ops : Ops) (pc : ℕ) (instruction : Op) : Type 0 where
    pub before : List ℕ
    pub after : List ℕ
    pub bytes_are : flat_map (bytes_at source offset) ops ≡ before ++ (bytes_at source offset (pc, instruction) ++ after)
    pub size : length before ≡ size_below source ops pc

  parts_at : (offset : ℕ → ℕ) (low : ℕ) (ops : Ops) → RisesFrom low ops → (pc : ℕ) (instruction : Op) → op_at ops pc ≡ Some instruction → Parts offset ops pc instruction
  parts_at offset low [] rise pc instruction at = absurd (none-some instruction (sym (op_none pc) ∙ at))
  parts_at offset low ((here, first) ∷ ops) rise pc instruction at =
      elim (same_or_other here pc (nat_eq here pc) refl) [
        | inl same ↦
            let found = some_is first instruction (sym (op_here here first ops) ∙ ap (op_at ((here, first) ∷ ops)) same ∙ at) in
            record {
              before = [];
              after = flat_map (bytes_at source offset) ops;
              bytes_are =
                  flat_map-cons (bytes_at source offset) (here, first) ops
                  ∙ ap (λ (n : ℕ). bytes_at source offset (n, first) ++ flat_map (bytes_at source offset) ops) same
                  ∙ ap (λ (o : Op). bytes_at source offset (pc, o) ++ flat_map (bytes_at source offset) ops) found;
              size = sym (below_first source (here, first) ops pc (omega (arith, same)));
            }
        | inr other ↦
            let there = sym (op_after here first ops pc other) ∙ at in
            let later = parts_at offset (suc here) ops rise.1 pc instruction there in
            let past = op_from (suc here) ops rise.1 pc instruction there in
            record {
              before = bytes_at source offset (here, first) ++ later.before;
              after = later.after;
              bytes_are =
                  flat_map-cons (bytes_at source offset) (here, first) ops
                  ∙ ap (λ (l : List ℕ). bytes_at source offset (here, first) ++ l) later.bytes_are
                  ∙ sym (append_assoc (bytes_at source offset (here, first)) later.before (bytes_at source offset (pc, instruction) ++ later.after));
              size =
                  omega (arith, length-append (bytes_at source offset (here, first)) later.before, size_is source offset (here, first), later.size, below_later source (here, first) ops pc (omega (arith, past)));
            }
      ]

  -- below what comes after an instruction are its bytes too
  below_next : (low : ℕ) (ops : Ops) → RisesFrom low ops → (pc : ℕ) (instruction : Op) → op_at ops pc ≡ Some instruction → (next : ℕ) → pc_after ops pc ≡ Some next
      → size_below source ops next ≡ size_below source ops pc + size_at source (pc, instruction)
  below_next low [] rise pc instruction at next is = absurd (none-some next (sym (after_none pc) ∙ is))
  below_next low ((here, first) ∷ []) rise pc instruction at next is = absurd (none-some next (sym (after_last here first pc) ∙ is))
  below_next low ((here, first) ∷ (to, there) ∷ ops) rise pc instruction at next is =
      elim (same_or_other here pc (nat_eq here pc) refl) [
        | inl same ↦
            let found = some_is first instruction (sym (op_here here first ((to, there) ∷ ops)) ∙ ap (op_at ((here, first) ∷ (to, there) ∷ ops)) same ∙ at) in
            let led = some_is to next (sym (after_here here first to there ops) ∙ ap (pc_after ((here, first) ∷ (to, there) ∷ ops)) same ∙ is) in
            let size : size_at source (here, first) ≡ size_at source (pc, instruction) = ap (λ (n : ℕ). size_at source (n, first)) same ∙ ap (λ (o : Op). size_at source (pc, o)) found in
            omega (arith, size, below_later source (here, first) ((to, there) ∷ ops) next (omega (arith, led, rise.1.0)), below_first source (to, there) ops next (omega (arith, led)), below_first source (here, first) ((to, there) ∷ ops) pc (omega (arith, same)))
        | inr other ↦
            let it = sym (op_after here first ((to, there) ∷ ops) pc other) ∙ at in
            let led = sym (after_later here first to there ops pc other) ∙ is in
            let past = op_from (suc here) ((to, there) ∷ ops) rise.1 pc instruction it in
            let beyond = after_from (suc here) ((to, there) ∷ ops) rise.1 pc next led in
            let later = below_next (suc here) ((to, there) ∷ ops) rise.1 pc instruction it next led in
            omega (arith, later, below_later source (here, first) ((to, there) ∷ ops) pc (omega (arith, past)), below_later source (here, first) ((to, there) ∷ ops) next (omega (arith, beyond)))
      ]

  -- below a pc that is above an instruction are its bytes too
  below_above : (low : ℕ) (ops : Ops) → RisesFrom low ops → (pc : ℕ) (instruction : Op) → op_at ops pc ≡ Some instruction → (to : ℕ) → pc < to
      → size_below source ops pc + size_at source (pc, instruction) ≤ size_below source ops to
  below_above low [] rise pc instruction at to lt = absurd (none-some instruction (sym (op_none pc) ∙ at))
  below_above low ((here, first) ∷ ops) rise pc instruction at to lt =
      elim (same_or_other here pc (nat_eq here pc) refl) [
        | inl same ↦
            let found = some_is first instruction (sym (op_here here first ops) ∙ ap (op_at ((here, first) ∷ ops)) same ∙ at) in
            let size : size_at source (here, first) ≡ size_at source (pc, instruction) = ap (λ (n : ℕ). size_at source (n, first)) same ∙ ap (λ (o : Op). size_at source (pc, o)) found in
            omega (arith, size, below_first source (here, first) ops pc (omega (arith, same)), below_later source (here, first) ops to (omega (arith, same, lt)))
        | inr other ↦
            let it = sym (op_after here first ops pc other) ∙ at in
            let past = op_from (suc here) ops rise.1 pc instruction it in
            let later = below_above (suc here) ops rise.1 pc instruction it to lt in
            omega (arith, later, below_later source (here, first) ops pc (omega (arith, past)), below_later source (here, first) ops to (omega (arith, past, lt)))
      ]

-- ---- code and offsets

-- where the bytes of an instruction stand in the code
pub record CodeParts (source : Source) (pc : ℕ) (instruction : Op) : Type 0 where
  pub before : List ℕ
  pub after : List ℕ
  pub code_is : code_of source ≡ before ++ (bytes_at source (offset_of source) (pc, instruction) ++ after)
  pub size : length before ≡ offset_of source pc

module _ (source : Source) where
  -- the code begins with what extends parameters
  pub fills_first : code_of source ≡ fill_bytes source ++ flat_map (bytes_at source (offset_of source)) source.body.ops
  fills_first = refl

  -- the first instruction stands behind it
  pub offset_first : offset_of source 0 ≡ length (fill_bytes source)
  offset_first = omega (arith, below_start source source.body.ops)

  -- a jump that does not lead forward does not lead to a greater offset
  pub offset_keeps : (to pc : ℕ) → to ≤ pc → offset_of source to ≤ offset_of source pc
  offset_keeps to pc le = omega (arith, below_keeps source source.body.ops to pc le)

  module _ (rise : RisesFrom 0 source.body.ops) (pc : ℕ) (instruction : Op) (at : op_at source.body.ops pc ≡ Some instruction) where
    pub code_parts : CodeParts source pc instruction
    code_parts =
        let parts = parts_at source (offset_of source) 0 source.body.ops rise pc instruction at in
        record {
          before = fill_bytes source ++ parts.before;
          after = parts.after;
          code_is =
              ap (λ (l : List ℕ). fill_bytes source ++ l) parts.bytes_are
              ∙ sym (append_assoc (fill_bytes source) parts.before (bytes_at source (offset_of source) (pc, instruction) ++ parts.after));
          size = omega (arith, length-append (fill_bytes source) parts.before, parts.size);
        }

    -- the next instruction stands behind it
    pub offset_next : (next : ℕ) → pc_after source.body.ops pc ≡ Some next → offset_of source next ≡ offset_of source pc + size_at source (pc, instruction)
    offset_next next is = omega (arith, below_next source 0 source.body.ops rise pc instruction at next is)

    -- a jump forward leads behind it
    pub offset_above : (to : ℕ) → pc < to → offset_of source pc + size_at source (pc, instruction) ≤ offset_of source to
    offset_above to lt = omega (arith, below_above source 0 source.body.ops rise pc instruction at to lt)

    -- to a greater offset, where it has bytes
    pub offset_grows : 0 < size_at source (pc, instruction) → (to : ℕ) → pc < to → offset_of source pc < offset_of source to
    offset_grows some to lt = omega (arith, some, offset_above to lt)

    -- it ends within the code
    pub code_within : offset_of source pc + size_at source (pc, instruction) ≤ length (code_of source)
    code_within =
        let parts = code_parts in
        let here = bytes_at source (offset_of source) (pc, instruction) in
        omega (arith, ap length parts.code_is, length-append parts.before (here ++ parts.after), length-append here parts.after, parts.size, size_is source (offset_of source) (pc, instruction))

    -- where it is expanded to nothing the next one stands at the same offset
    pub offset_stays : expansion_at source (offset_of source) (pc, instruction) ≡ [] → (next : ℕ) → pc_after source.body.ops pc ≡ Some next → offset_of source next ≡ offset_of source pc
    offset_stays none next is =
        omega (arith, offset_next next is, size_is source (offset_of source) (pc, instruction), ap (λ (l : List Emitted). length (bytes_of l)) none)
