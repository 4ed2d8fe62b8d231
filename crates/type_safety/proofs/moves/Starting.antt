-- A frame that fits what its method starts with fits the method's types at pc 0.
use Rattle.std.proofs.Common.{◌≡◌, Some, sym, subst}
use Rattle.jvm_model.specs.TypesFrames.{start_frame}
use Rattle.type_order.proofs.Rules.{start-is-proper}
use Rattle.type_safety.proofs.moves.Lemmas.{StartingFits}
use Rattle.type_safety.proofs.fitting.Leaving.{arrives}
use Rattle.type_safety.proofs.fitting.SetBodies.{body_of}
use Rattle.type_safety.proofs.fitting.Values.{are_of_set}

pub starting_fits : StartingFits
starting_fits world tables set objects fit frame body found first fits =
    let is = body_of world tables set frame.method body found in
    let met = is.right.start is.facts.first in
    let proper = start-is-proper world.files set.closed body is.facts.of_set in
    let young = arrives world tables set objects (are_of_set world objects fit) frame 0 body is found (start_frame world.files body) proper.known met fits in
    record {
      body = young.body;
      found = young.found;
      types = young.types;
      known = subst (λ pc. tables frame.method pc ≡ Some young.types) (sym first) young.known;
      has = record { locals = young.has.locals; operands = young.has.operands };
    }
