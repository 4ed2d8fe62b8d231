use Rattle.std.proofs.Common.{◌≡◌}
use Rattle.std.specs.Prelude.{filter}
use Rattle.std.specs.List.{range_with_len}
use Rattle.body_form.specs.Flow.{covers_from}
use Rattle.body_form.proofs.flow.handlers_at.Given as goal

-- the positions so far whose range holds the pc
abbrev pub invariant-loop-position : goal.invariant-loop-position
invariant-loop-position l = l.out.items ≡ filter (covers_from l.body.handlers l.at) (range_with_len 0 l.position)
