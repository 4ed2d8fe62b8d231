use Rattle.std.proofs.Common.{◌≡◌, ℕ, ◌<◌, length, Option}
use Rattle.class_pool.specs.declared.types.MemberId.{MemberId}
use Rattle.class_tree.specs.declared.route.Route.TheVariants.{Superinterfaces}
use Rattle.class_tree.specs.DirectSupers.{above_by}
use Rattle.class_tree.specs.Upwards.{first_answer}
use Rattle.class_tree.specs.Ways.{way_at, answer_of}
use Rattle.class_tree.proofs.lookup_ways.beside_of.Given as goal

abbrev pub invariant-loop-class : goal.invariant-loop-class
invariant-loop-class l = record {
  many : length l.lists.items ≡ l.class;
  each : (class : ℕ) → class < l.class → (answer : ℕ → Option MemberId) → first_answer answer (way_at l.lists.items class) ≡ first_answer (answer_of l.ways answer) (above_by Superinterfaces l.names l.files class);
}
