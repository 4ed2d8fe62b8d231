-- An entry is put where an instruction is at pc 0.
use Rattle.std.proofs.Common.{◌≡◌, ℕ, List, length, Some, None, replicate, set, refl, ap, subst, ◌∙◌}
use Rattle.flow_verify.specs.KnownFrames.{Entries}
use Rattle.flow_verify.specs.Merging.{IsListed}
use Rattle.flow_verify.proofs.waves.FirstKnown.{stored_nowhere, stored_here}
use Rattle.flow_verify.proofs.start.at_first.Goals as goal

pub returns-in_ok-put-in-Some : goal.returns-in_ok-put-in-Some
returns-in_ok-put-in-Some c =
    let place = c.in-Some.position in
    let at = c.in-Some.ensures.found in
    let n = length c.as_slice.result.now in
    let known : c.put.new.frames.known.items ≡ set (replicate n None) place (Some (record { frame = c.args.frame; round = 0 })) =
    c.in_ok-put-in-Some.ensures.put ∙ ap (λ (list : Entries). set list place (Some (record { frame = c.args.frame; round = 0 }))) c.in_ok-known.ensures
    in
    stored_here c.args.body.now.ops c.args.store c.args.frame c.as_slice.ensures.rise place at.0 at.1 c.put.new.frames c.put.new.wave.items n c.in_ok-put-in-Some.ensures.store (ap length c.as_slice.ensures.all) known
    (subst (λ (list : List ℕ). IsListed place list c.put.new.wave.items) c.new-wave.ensures.items c.in_ok-put-in-Some.ensures.listed)

pub returns-in-None : goal.returns-in-None
returns-in-None c =
    stored_nowhere c.args.body.now.ops c.args.store c.args.frame (record { store = c.args.store; known = c.in_ok-known.known }) c.new-wave.result.items (length c.as_slice.result.now) (c.in-None.ensures.none refl) refl
    (ap length c.as_slice.ensures.all) c.in_ok-known.ensures c.new-wave.ensures.items
