use Rattle.std.proofs.Common.{sym, ◌∙◌}
use Rattle.class_file.proofs.text_table.Heads.{head_texts, broken, again, kept, no_method_type, method_judged}
use Rattle.class_file.proofs.member.method_head_at.Goals as goal
use Rattle.class_file.proofs.member.method_head_at.Goals.{then-not-is_method_head-via-then-not-is_method_head, then-not-is_method_head-via-else-not-is_method_head+then-is_declared}

pub returns-in_default : goal.returns-in_default
returns-in_default c =
    let head = c.in_ok-head.head in
    let told = c.requires.texts.methods head.descriptor in
    no_method_type c.args.class_flags c.args.pool.now c.args.earlier.now c.args.bytes.now head c.in_ok-head.rest.now c.in_ok-head.ensures (sym told ∙ (sym c.shape_at.ensures ∙ c.in_default.is))

pub is_declared-requires : goal.is_declared-requires
is_declared-requires c =
    let texts = head_texts c.args.pool.now c.args.bytes.now c.in_ok-head.head c.in_ok-head.rest.now c.in_ok-head.ensures in
    record { seen = c.requires.seen; name = texts.0; descriptor = texts.1 }

pub returns-then-not-is_method_head : goal.returns-then-not-is_method_head
returns-then-not-is_method_head c =
    let head = c.in_ok-head.head in
    let told = c.requires.texts.methods head.descriptor in
    let judged = method_judged c.args.class_flags c.args.pool.now c.args.earlier.now c.args.bytes.now head c.in_ok-head.rest.now c.in_ok-head.ensures c.in-Some.shape c.is_method_head.result (sym told ∙ (sym c.shape_at.ensures ∙ c.in-Some.is)) c.is_method_head.ensures in
    judged ∙ elim c.then-not-is_method_head.branch [
      | then-not-is_method_head-via-then-not-is_method_head w ↦ broken _ _ _ _ w.if-not-is_method_head.true
      | then-not-is_method_head-via-else-not-is_method_head+then-is_declared w ↦ again _ _ _ _ (sym w.is_declared.ensures ∙ w.if-is_declared.true)
    ]

pub returns : goal.returns
returns c =
    let head = c.in_ok-head.head in
    let told = c.requires.texts.methods head.descriptor in
    let judged = method_judged c.args.class_flags c.args.pool.now c.args.earlier.now c.args.bytes.now head c.in_ok-head.rest.now c.in_ok-head.ensures c.in-Some.shape c.is_method_head.result (sym told ∙ (sym c.shape_at.ensures ∙ c.in-Some.is)) c.is_method_head.ensures in
    judged ∙ kept _ _ _ _ c.if-not-is_method_head.false (sym c.is_declared.ensures ∙ c.if-is_declared.false)
