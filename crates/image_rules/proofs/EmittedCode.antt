-- The machine instructions of a body's code: those that extend parameters, and the expansion of each of its instructions.
use Rattle.std.proofs.Common.{◌≡◌, inl, inr, ℕ, suc, nat_eq, List, [], ◌∷◌, ◌++◌, length, Some, refl, sym, ap, ◌∙◌, arith, append_assoc, length-append, eqb-true}
use Rattle.std.specs.List.{AllByRecursion, flat_map}
use Rattle.std.proofs.lemmas.Bool.{cases_Bool}
use Rattle.std.proofs.lemmas.List.Concat.{flat_map-cons}
use Rattle.code_reach.specs.Reached.{RisesFrom}
use Rattle.body_form.specs.declared.op.Op.{Op}
use Rattle.body_form.specs.Flow.{Ops}
use Rattle.jvm_model.specs.ImageEmission.{Source, code_of, expansion_at, fill_bytes, offset_of, size_below}
use Rattle.jvm_model.specs.ImageExpansion.{Emitted, bytes_of}
use Rattle.jvm_model.specs.TypesRules.{op_at}
use Rattle.jvm_model.specs.WidthsFrame.{fill_insns}
use Rattle.expansion.proofs.ExpansionSizes.{size_is}
use Rattle.expansion.proofs.SizesBelow.{below_first, below_later}
use Rattle.match_code.proofs.CodeLayout.{op_from}
use Rattle.match_code.proofs.CodePoints.{bytes_joined}
use Rattle.type_rounds.proofs.tables.Lists.{all_append, all_map}
use Rattle.type_rounds.proofs.tables.Starts.{each_is_at, op_here, op_later, op_none}
use Rattle.type_safety.proofs.fitting.SetLists.{none_some, same_some}

-- ---- lists

bytes_flat : (f : ℕ × Op → List Emitted) (ops : Ops) → bytes_of (flat_map f ops) ≡ flat_map (λ x. bytes_of (f x)) ops
bytes_flat f [] = refl
bytes_flat f (x ∷ ops) =
    ap bytes_of (flat_map-cons f x ops) ∙ bytes_joined (f x) (flat_map f ops)
    ∙ ap (λ (l : List ℕ). bytes_of (f x) ++ l) (bytes_flat f ops) ∙ sym (flat_map-cons (λ (y : ℕ × Op). bytes_of (f y)) x ops)

all_flat : {X Y : Type 0} (P : Y → Type 0) (f : X → List Y) (xs : List X) → AllByRecursion (λ x. AllByRecursion P (f x)) xs → AllByRecursion P (flat_map f xs)
all_flat P f [] all = tt
all_flat P f (x ∷ xs) all = all_append P (f x) (flat_map f xs) all.0 (all_flat P f xs all.1)

-- ---- the code of a source

module _ (source : Source) where
  abbrev pub emitted_code : List Emitted
  emitted_code = flat_map fill_insns source.plan.fills ++ flat_map (expansion_at source (offset_of source)) source.body.ops

  -- its bytes are the code
  pub code_bytes : code_of source ≡ bytes_of emitted_code
  code_bytes =
      ap (λ (l : List ℕ). fill_bytes source ++ l) (sym (bytes_flat (expansion_at source (offset_of source)) source.body.ops))
      ∙ sym (bytes_joined (flat_map fill_insns source.plan.fills) (flat_map (expansion_at source (offset_of source)) source.body.ops))

  -- what holds of those that extend parameters, and of the expansion at each pc, holds of all
  pub emitted_all : (P : Emitted → Type 0) → RisesFrom 0 source.body.ops → AllByRecursion P (flat_map fill_insns source.plan.fills)
      → ((pc : ℕ) (instruction : Op) → op_at source.body.ops pc ≡ Some instruction → AllByRecursion P (expansion_at source (offset_of source) (pc, instruction)))
      → AllByRecursion P emitted_code
  emitted_all P rise fills expansions =
      let ops = source.body.ops in
      let expansion = expansion_at source (offset_of source) in
      let each = all_map (λ (x : ℕ × Op). op_at ops x.0 ≡ Some x.1) (λ (x : ℕ × Op). AllByRecursion P (expansion x)) (λ x at. expansions x.0 x.1 at) ops (each_is_at ops rise) in
      all_append P (flat_map fill_insns source.plan.fills) (flat_map expansion ops) fills (all_flat P expansion ops each)

  -- where the expansion at a pc stands among those of instructions
  record Parts (offset : ℕ → ℕ) (ops : Ops) (pc : ℕ) (instruction : Op) : Type 0 where
    before : List Emitted
    after : List Emitted
    are : flat_map (expansion_at source offset) ops ≡ before ++ (expansion_at source offset (pc, instruction) ++ after)
    size : length (bytes_of before) ≡ size_below source ops pc

  parts_at : (offset : ℕ → ℕ) (low : ℕ) (ops : Ops) → RisesFrom low ops → (pc : ℕ) (instruction : Op) → op_at ops pc ≡ Some instruction → Parts offset ops pc instruction
  parts_at offset low [] rise pc instruction at = none_some instruction (sym (op_none pc) ∙ at)
  parts_at offset low ((here, first) ∷ ops) rise pc instruction at =
      elim (cases_Bool (nat_eq here pc)) [
        | inl same ↦
            let is : here ≡ pc = eqb-true here pc same in
            let found : first ≡ instruction = same_some first instruction (sym (op_here here pc first ops same) ∙ at) in
            record {
              before = [];
              after = flat_map (expansion_at source offset) ops;
              are =
                  flat_map-cons (expansion_at source offset) (here, first) ops
                  ∙ ap (λ (n : ℕ). expansion_at source offset (n, first) ++ flat_map (expansion_at source offset) ops) is
                  ∙ ap (λ (o : Op). expansion_at source offset (pc, o) ++ flat_map (expansion_at source offset) ops) found;
              size = sym (below_first source (here, first) ops pc (omega (arith, is)));
            }
        | inr other ↦
            let there = sym (op_later here pc first ops other) ∙ at in
            let later = parts_at offset (suc here) ops rise.1 pc instruction there in
            let past = op_from (suc here) ops rise.1 pc instruction there in
            let head = expansion_at source offset (here, first) in
            record {
              before = head ++ later.before;
              after = later.after;
              are =
                  flat_map-cons (expansion_at source offset) (here, first) ops
                  ∙ ap (λ (l : List Emitted). head ++ l) later.are
                  ∙ sym (append_assoc head later.before (expansion_at source offset (pc, instruction) ++ later.after));
              size =
                  let joined = ap length (bytes_joined head later.before) in
                  let below = below_later source (here, first) ops pc (omega (arith, past)) in
                  omega (arith, joined, length-append (bytes_of head) (bytes_of later.before), size_is source offset (here, first), later.size, below);
            }
      ]

  -- where it stands among all
  pub record EmittedParts (pc : ℕ) (instruction : Op) : Type 0 where
    pub before : List Emitted
    pub after : List Emitted
    pub are : emitted_code ≡ before ++ (expansion_at source (offset_of source) (pc, instruction) ++ after)
    pub size : length (bytes_of before) ≡ offset_of source pc

  pub emitted_parts : RisesFrom 0 source.body.ops → (pc : ℕ) (instruction : Op) → op_at source.body.ops pc ≡ Some instruction → EmittedParts pc instruction
  emitted_parts rise pc instruction at =
      let parts = parts_at (offset_of source) 0 source.body.ops rise pc instruction at in
      let fills = flat_map fill_insns source.plan.fills in
      record {
        before = fills ++ parts.before;
        after = parts.after;
        are =
            ap (λ (l : List Emitted). fills ++ l) parts.are
            ∙ sym (append_assoc fills parts.before (expansion_at source (offset_of source) (pc, instruction) ++ parts.after));
        size = omega (arith, ap length (bytes_joined fills parts.before), length-append (bytes_of fills) (bytes_of parts.before), parts.size);
      }
