-- The families of a body stand at the pcs of its instructions, which rise.
use Rattle.std.proofs.Common.{◌≡◌, ℕ, suc, List, [], ◌∷◌, sym, subst, arith}
use Rattle.class_pool.specs.Pool.{Slots}
use Rattle.class_file.specs.declared.record.ClassFile.{ClassFile}
use Rattle.class_code.specs.Code.{Insns, RiseFrom}
use Rattle.code_reach.specs.Reached.{Ways, RisesFrom}
use Rattle.body_form.specs.Flow.{Ops}
use Rattle.jvm_model.specs.Bodies.{AreEach, IsFamily, IsResolved, IsNop}

pub families_rise : (files : List ClassFile) (class : ℕ) (pool : Slots) (ways : Ways) (low : ℕ) (insns : Insns) (ops : Ops) → RiseFrom low insns → AreEach (IsFamily files class pool ways) insns ops → RisesFrom low ops
families_rise files class pool ways low [] [] rise each = tt
families_rise files class pool ways low [] (y ∷ ops) rise each = absurd each
families_rise files class pool ways low (x ∷ insns) [] rise each = absurd each
families_rise files class pool ways low ((pc, insn) ∷ insns) (y ∷ ops) rise each =
    let same : y.0 ≡ pc = same_pc each.0 in
    (omega (arith, rise.0, same), families_rise files class pool ways (suc y.0) insns ops (subst (λ n. RiseFrom (suc n) insns) (sym same) rise.1) each.1)
  where
    same_pc : IsFamily files class pool ways (pc, insn) y → y.0 ≡ pc
    same_pc (IsResolved at _ _) = at
    same_pc (IsNop at _ _) = at
