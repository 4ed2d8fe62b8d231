-- The typed machine is measured in the states that fit the types of a set.
use Rattle.std.proofs.Common.{◌≡◌, List, [], ◌∷◌, Option, Some, None, option_map, refl, ap, subst, ◌∙◌}
use Rattle.std.specs.Option.{option_map_or}
use Rattle.account.specs.Account.{Stuck}
use Rattle.body_form.specs.declared.body.Body.{Body}
use Rattle.body_form.specs.declared.op.Op.{Op}
use Rattle.body_form.specs.Flow.{Ops}
use Rattle.jvm_model.specs.TypesRules.{op_at}
use Rattle.typed_machine.specs.TypedMoves.{TypedMove}
use Rattle.typed_machine.specs.TypedState.{Frame, State}
use Rattle.typed_machine.specs.TypedStep.{move, move_of, move_in, move_among}
use Rattle.typed_machine.specs.TypedWorld.{World, Placed, body_among, pc_after}
use Rattle.type_safety.specs.Safety.{MoveFits}
use Rattle.type_safety.proofs.SafeMoves.{facts_keep_safe}
use Rattle.type_safety.proofs.fitting.SetBodies.{body_of}
use Rattle.run_measures.specs.Measured.{TypedIsMeasured}
use Rattle.run_measures.proofs.Lowering.{Lowers, stuck}
use Rattle.run_measures.proofs.TypedRank.{rank_of, IsAhead, after_later}
use Rattle.run_measures.proofs.TypedForms.{rank_in}
use Rattle.run_measures.proofs.TypedCalls.{BodiesRise}
use Rattle.run_measures.proofs.TypedMoves.{op_lowers}

module _ (world : World) (rise : BodiesRise world) (state : State) where
  module _ (frame : Frame) (others : List Frame) where
    abbrev Lower : TypedMove → Type 0
    Lower move = Lowers (rank_in world) (rank_of world (frame ∷ others)) move

    -- the instruction at the frame's pc
    instruction_lowers : (body : Body) → body_among world.bodies frame.method ≡ Some body → (instruction : Op) → op_at body.ops frame.pc ≡ Some instruction
        → Lower (move_of world state frame others body (pc_after body.ops frame.pc) instruction)
    instruction_lowers body found instruction at =
        let ops : option_map_or (λ (body : Body). body.ops) (body_among world.bodies frame.method) [] ≡ body.ops = ap (λ (found : Option Body). option_map_or (λ (body : Body). body.ops) found []) found in
        let ahead : IsAhead world frame (pc_after body.ops frame.pc) =
        record {
          instruction = instruction;
          at = ap (λ (ops : Ops). op_at ops frame.pc) ops ∙ at;
          later = λ to is. after_later 0 body.ops (rise frame.method body found) frame.pc to is;
        } in
        op_lowers ahead others state rise body instruction

    placed_lowers : (body : Body) → body_among world.bodies frame.method ≡ Some body → (found : Option Op) → op_at body.ops frame.pc ≡ found
        → Lower (option_map_or (λ (placed : Placed). move_of world state frame others body placed.next placed.op) (option_map (λ (op : Op). record { op = op; next = pc_after body.ops frame.pc }) found) Stuck)
    placed_lowers body found None at = stuck
    placed_lowers body found (Some instruction) at = instruction_lowers body found instruction at

    in_body : (found : Option Body) → body_among world.bodies frame.method ≡ found → Lower (move_in world state frame others found)
    in_body None is = stuck
    in_body (Some body) is = placed_lowers body is (op_at body.ops frame.pc) refl

  among_lowers : (frames : List Frame) → Lowers (rank_in world) (rank_of world frames) (move_among world state frames)
  among_lowers [] = stuck
  among_lowers (frame ∷ others) = in_body frame others (body_among world.bodies frame.method) refl

pub typed_is_measured : TypedIsMeasured
typed_is_measured world tables set =
    let rise : BodiesRise world = λ id body found. (body_of world tables set id body found).facts.of_set.rise in
    record {
      moves = λ state fits stuck. subst (MoveFits world tables) stuck (facts_keep_safe world tables set state fits);
      holds = λ state next need events fits is. subst (MoveFits world tables) is (facts_keep_safe world tables set state fits);
      rank = rank_in world;
      falls = λ state next need events fits is quiet. (among_lowers world rise state state.frames).lower need events next is quiet;
    }
