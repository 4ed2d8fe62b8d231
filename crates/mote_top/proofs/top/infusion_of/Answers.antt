use Rattle.std.proofs.Common.{Vec, Global, ℕ, map}
use Rattle.mote_top.proofs.replies.Sets.{refused_status}
use Rattle.mote_top.proofs.top.infusion_of.Goals as goal

pub write_image-requires : goal.write_image-requires
write_image-requires c = c.accepted_sets_run.ensures.image (map (λ (v : Vec ℕ Global). v.items) c.args.files.now) c.in-Ok.image c.in-Ok.ensures.found

pub returns-in-Ok-write_image-clause-ok : goal.returns-in-Ok-write_image-clause-ok
returns-in-Ok-write_image-clause-ok c = record { image = c.in-Ok.image; is_image = c.in-Ok.ensures.found; is_encoding = c.in-Ok-write_image.ensures }

pub returns-in-Err-clause-err : goal.returns-in-Err-clause-err
returns-in-Err-clause-err c = refused_status (map (λ (v : Vec ℕ Global). v.items) c.args.files.now) c.in-Err.refusal c.refused.result c.refused.ensures.memory c.refused.ensures.other c.in-Err.ensures.refused
