use Rattle.std.proofs.Common.{cond, Some, option_map, ap, ◌∙◌}
use Rattle.std.specs.Map.{lookup}
use Rattle.infuse_ids.specs.declared.writes.Called.{Called}
use Rattle.infuse_ids.specs.Writes.{is_key, last_set, pushed_of}
use Rattle.infuse_ids.proofs.LastWrites.{view_either}
use Rattle.infuse_ids.proofs.writes.LastWrites.set.Goals as goal

pub returns : goal.returns
returns c field =
    let asked : Called = record { name = field.name; descriptor = field.descriptor } in
    let key = c.in_ok-key.key in
    let old = c.args.self.now in
    ap (option_map pushed_of) (c.in_ok-insert.ensures.updates.0 asked)
    ∙ view_either pushed_of (is_key key.name key.descriptor asked) c.args.pushed (lookup (is_key field.name field.descriptor) old.map.entries)
    ∙ ap (λ (k : Called). cond (is_key k.name k.descriptor asked) (Some (pushed_of c.args.pushed)) (last_set old field.name field.descriptor)) c.in_ok-key.ensures
