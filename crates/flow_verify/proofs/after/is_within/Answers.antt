-- A frame of a store has as many operands as it is high, and as many locals as each of the store.
use Rattle.std.proofs.Common.{◌≡◌, true, false, ◌&&◌, length, sym, ap, ◌∙◌, arith}
use Rattle.std.specs.Prelude.{nat_le}
use Rattle.std.proofs.lemmas.Bool.{le-leb}
use Rattle.std.proofs.lemmas.Bool.Decides.{nat_tests}
use Rattle.type_table.specs.Frames.{frame_of}
use Rattle.type_table.proofs.Lengths.{frame_is_high, frame_is_wide}
use Rattle.flow_verify.proofs.after.is_within.Goals as goal

pub returns-then-frame-from : goal.returns-then-frame-from
returns-then-frame-from c =
    let frame = frame_of c.args.store.now c.args.frame in
    let body = c.args.body.now in
    let high = frame_is_high c.args.store.now c.args.frame c.requires in
    let wide = frame_is_wide c.args.store.now c.args.frame c.local_count.ensures.deep c.requires in
    let first : nat_le (length frame.stack) body.max_stack ≡ true = le-leb (length frame.stack) body.max_stack (omega (arith, high, c.if-frame-from.true, c.from.ensures)) in
    sym (ap (λ b. b && nat_le (length frame.locals) body.max_locals) first ∙ ap (λ n. nat_le n body.max_locals) (wide ∙ sym c.local_count.ensures.count))

pub returns-else-frame-from : goal.returns-else-frame-from
returns-else-frame-from c =
    let frame = frame_of c.args.store.now c.args.frame in
    let body = c.args.body.now in
    let high = frame_is_high c.args.store.now c.args.frame c.requires in
    let low : nat_le c.args.frame.height c.from.result ≡ false = grind (arith, nat_tests) in
    let first : nat_le (length frame.stack) body.max_stack ≡ false = ap (λ n. nat_le n body.max_stack) high ∙ ap (nat_le c.args.frame.height) (sym c.from.ensures) ∙ low in
    low ∙ sym (ap (λ b. b && nat_le (length frame.locals) body.max_locals) first)
