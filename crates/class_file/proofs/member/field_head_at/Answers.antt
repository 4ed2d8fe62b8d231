use Rattle.std.proofs.Common.{sym, ◌∙◌}
use Rattle.class_file.proofs.text_table.Heads.{head_texts, broken, again, kept, no_field_type, field_judged}
use Rattle.class_file.proofs.member.field_head_at.Goals as goal
use Rattle.class_file.proofs.member.field_head_at.Goals.{then-not-is_field_head-via-then-not-is_field_head, then-not-is_field_head-via-else-not-is_field_head+then-is_declared}

pub returns-then-not-is_field_at : goal.returns-then-not-is_field_at
returns-then-not-is_field_at c =
    let head = c.in_ok-head.head in
    let told = c.requires.texts.fields head.descriptor in
    no_field_type c.args.class_flags c.args.pool.now c.args.earlier.now c.args.bytes.now head c.in_ok-head.rest.now c.in_ok-head.ensures (sym told ∙ (sym c.is_field_at.ensures ∙ c.if-not-is_field_at.true))

pub is_declared-requires : goal.is_declared-requires
is_declared-requires c =
    let texts = head_texts c.args.pool.now c.args.bytes.now c.in_ok-head.head c.in_ok-head.rest.now c.in_ok-head.ensures in
    record { seen = c.requires.seen; name = texts.0; descriptor = texts.1 }

pub returns-then-not-is_field_head : goal.returns-then-not-is_field_head
returns-then-not-is_field_head c =
    let head = c.in_ok-head.head in
    let told = c.requires.texts.fields head.descriptor in
    let judged = field_judged c.args.class_flags c.args.pool.now c.args.earlier.now c.args.bytes.now head c.in_ok-head.rest.now c.in_ok-head.ensures (sym told ∙ (sym c.is_field_at.ensures ∙ c.if-not-is_field_at.false)) in
    judged ∙ elim c.then-not-is_field_head.branch [
      | then-not-is_field_head-via-then-not-is_field_head w ↦ broken _ _ _ _ (sym c.is_field_head.ensures ∙ w.if-not-is_field_head.true)
      | then-not-is_field_head-via-else-not-is_field_head+then-is_declared w ↦ again _ _ _ _ (sym w.is_declared.ensures ∙ w.if-is_declared.true)
    ]

pub returns : goal.returns
returns c =
    let head = c.in_ok-head.head in
    let told = c.requires.texts.fields head.descriptor in
    let judged = field_judged c.args.class_flags c.args.pool.now c.args.earlier.now c.args.bytes.now head c.in_ok-head.rest.now c.in_ok-head.ensures (sym told ∙ (sym c.is_field_at.ensures ∙ c.if-not-is_field_at.false)) in
    judged ∙ kept _ _ _ _ (sym c.is_field_head.ensures ∙ c.if-not-is_field_head.false) (sym c.is_declared.ensures ∙ c.if-is_declared.false)
