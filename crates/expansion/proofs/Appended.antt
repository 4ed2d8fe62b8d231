-- Instructions that are appended one list after the other.
use Rattle.std.proofs.Common.{◌≡◌, List, [], ◌++◌, sym, ap, ◌∙◌, append_assoc}
use Rattle.std.proofs.lemmas.List.{append-nil, map-append}
use Rattle.image_instr.specs.declared.insn.MInsn.{MInsn}
use Rattle.jvm_model.specs.ImageExpansion.{Emitted}
use Rattle.expansion.specs.Expanding.{insns}

pub nothing_more : (old : List MInsn) → old ≡ old ++ insns []
nothing_more old = sym (append-nil old)

pub both : (old middle new : List MInsn) (first second : List Emitted) → middle ≡ old ++ insns first → new ≡ middle ++ insns second → new ≡ old ++ insns (first ++ second)
both old middle new first second one two =
    two ∙ (ap (λ list. list ++ insns second) one ∙ (append_assoc old (insns first) (insns second) ∙ ap (λ list. old ++ list) (sym (map-append (λ (emitted : Emitted). emitted.0) first second))))
