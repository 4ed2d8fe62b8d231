-- The sizes of instructions below a pc, one instruction at a time, and offsets within the code.
use Rattle.std.proofs.Common.{◌≡◌, inl, inr, ℕ, ◌+◌, ◌<◌, ◌≤◌, true, false, nat_lt, if◌then◌else◌, [], ◌∷◌, length, refl, ap, length-append, arith}
use Rattle.std.specs.List.{flat_map}
use Rattle.std.proofs.lemmas.Bool.{cases_lt}
use Rattle.std.proofs.lemmas.Bool.Decides.{nat_tests}
use Rattle.std.proofs.lemmas.List.Concat.{flat_map-cons}
use Rattle.body_form.specs.declared.op.Op.{Op}
use Rattle.body_form.specs.Flow.{Ops}
use Rattle.jvm_model.specs.ImageEmission.{Source, bytes_at, size_at, size_below, fill_bytes, offset_of, code_of}
use Rattle.expansion.proofs.ExpansionSizes.{size_is}

module _ (source : Source) where
  pub below_none : (pc : ℕ) → size_below source [] pc ≡ 0
  unfolding size_below
  below_none pc = refl

  pub below_first : (x : ℕ × Op) (ops : Ops) (pc : ℕ) → pc ≤ x.0 → size_below source (x ∷ ops) pc ≡ 0
  unfolding size_below
  below_first x ops pc le =
      let fails : nat_lt x.0 pc ≡ false = grind (arith, nat_tests, le) in
      ap (λ b. if b then size_at source x + size_below source ops pc else 0) fails

  pub below_later : (x : ℕ × Op) (ops : Ops) (pc : ℕ) → x.0 < pc → size_below source (x ∷ ops) pc ≡ size_at source x + size_below source ops pc
  unfolding size_below
  below_later x ops pc lt =
      let passes : nat_lt x.0 pc ≡ true = grind (arith, nat_tests, lt) in
      ap (λ b. if b then size_at source x + size_below source ops pc else 0) passes

  below_within : (offset : ℕ → ℕ) (ops : Ops) (pc : ℕ) → size_below source ops pc ≤ length (flat_map (bytes_at source offset) ops)
  below_within offset [] pc = omega (arith, below_none pc)
  below_within offset (x ∷ ops) pc =
      let size = ap length (flat_map-cons (bytes_at source offset) x ops) in
      elim (cases_lt x.0 pc) [
        | inl less ↦ omega (arith, size, length-append (bytes_at source offset x) (flat_map (bytes_at source offset) ops), size_is source offset x, below_later x ops pc less, below_within offset ops pc)
        | inr from ↦ omega (arith, below_first x ops pc from)
      ]

  pub offset_within : (pc : ℕ) → offset_of source pc ≤ length (code_of source)
  offset_within pc = omega (arith, below_within (offset_of source) source.body.ops pc, length-append (fill_bytes source) (flat_map (bytes_at source (offset_of source)) source.body.ops))
