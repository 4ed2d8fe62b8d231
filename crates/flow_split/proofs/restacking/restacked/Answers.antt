-- What is copied to the top itself is copied below no operands.
use Rattle.std.proofs.Common.{[], map, take, refl, sym, ap, ◌∙◌}
use Rattle.insn_form.specs.declared.StackForm.{StackForm}
use Rattle.jvm_model.specs.ImageExpansion.{restack}
use Rattle.flow_split.specs.Moves.{move_of, moving}
use Rattle.flow_split.proofs.restacking.restacked.Goals as goal

pub returns-in-Dup : goal.returns-in-Dup
returns-in-Dup c = λ sig.
    c.copied.ensures (take 1 c.args.shapes.now) [] c.room_at-in-Dup.ensures.is (record { refs = refl; cells = refl }) sig
    ∙ ap (λ (form : StackForm). moving (map (move_of sig) (restack form c.args.shapes.now))) (sym c.in-Dup.is)

pub returns-in-Dup2 : goal.returns-in-Dup2
returns-in-Dup2 c = λ sig.
    c.copied-in-Dup2.ensures (take 2 c.args.shapes.now) [] c.rooms_at-in-Dup2.ensures.is (record { refs = refl; cells = refl }) sig
    ∙ ap (λ (form : StackForm). moving (map (move_of sig) (restack form c.args.shapes.now))) (sym c.in-Dup2.is)
