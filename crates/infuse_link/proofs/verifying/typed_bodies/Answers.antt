use Rattle.std.proofs.Common.{◌≡◌, inl, inr, ℕ, ◌+◌, ◌<◌, List, [], ◌∷◌, ◌++◌, length, drop, get_or, map, take, add-one, sym, ap, ◌∙◌, subst, arith}
use Rattle.std.specs.List.{AllByRecursion}
use Rattle.std.proofs.Math.Seq.{take-suc}
use Rattle.std.proofs.lemmas.List.{drop_all, map-append}
use Rattle.class_tree.proofs.lookups.Climbing.{all_append}
use Rattle.class_file.specs.declared.record.ClassFile.{ClassFile}
use Rattle.body_form.specs.declared.body.Body.{Body}
use Rattle.type_table.specs.Types.{table_of}
use Rattle.infuse_sets.specs.declared.typed.TypedBody.{TypedBody}
use Rattle.infuse_link.specs.Stages.{IsVerified}
use Rattle.infuse_link.proofs.Scans.{from_place}
use Rattle.infuse_link.proofs.TypedBodies.{Remain, at_first, body_of_set, one_more, refused_here, none_left}
use Rattle.infuse_link.proofs.verifying.typed_bodies.Goals as goal

-- what is left begins with the body
begins : (bodies : List Body) (i : ℕ) (body : Body) → i < length bodies → body ≡ get_or bodies i body → drop i bodies ≡ body ∷ drop (i + 1) bodies
begins bodies i body below is = from_place bodies i body below is ∙ ap (λ n. body ∷ drop n bodies) (sym (add-one i))

-- the bodies up to a place, and the one there
taken_more : (bodies : List Body) (i : ℕ) (body : Body) → i < length bodies → body ≡ get_or bodies i body → take i bodies ++ body ∷ [] ≡ take (i + 1) bodies
taken_more bodies i body below is = sym (ap (λ n. take n bodies) (add-one i) ∙ take-suc bodies i body below ∙ ap (λ (b : Body). take i bodies ++ b ∷ []) (sym is))

-- one more body with its types
bodies_more : (typed more : List TypedBody) (one : TypedBody) (before after : List Body) → more ≡ typed ++ one ∷ [] → map (λ x. x.body.now) typed ≡ before → before ++ one.body.now ∷ [] ≡ after → map (λ x. x.body.now) more ≡ after
bodies_more typed more one before after is so_far with_one =
    ap (map (λ (x : TypedBody). x.body.now)) is ∙ map-append (λ (x : TypedBody). x.body.now) typed (one ∷ []) ∙ ap (λ (bodies : List Body). let body = one.body in bodies ++ body.now ∷ []) so_far ∙ with_one

verified_more : (files : List ClassFile) (typed more : List TypedBody) (one : TypedBody) → more ≡ typed ++ one ∷ [] → AllByRecursion (IsVerified files) typed → IsVerified files one → AllByRecursion (IsVerified files) more
verified_more files typed more one is all verified = subst (AllByRecursion (IsVerified files)) (sym is) (all_append (IsVerified files) typed (one ∷ []) all (verified, tt))

pub loop-body-init : goal.loop-body-init
loop-body-init c =
    record {
      left = at_first c.args.set.now c.args.bodies.now c.requires.bodies;
      so_far = ap (map (λ (one : TypedBody). one.body.now)) c.new-typed.ensures.items;
      types = subst (AllByRecursion (IsVerified c.args.set.now)) (sym c.new-typed.ensures.items) tt;
    }

pub types_of-requires-clause-names : goal.types_of-requires-clause-names
types_of-requires-clause-names c =
    let files = c.args.set.now in
    let bodies = c.args.bodies.now in
    let i = c.loop-body.body-index in
    let body = c.body-item.result in
    body_of_set files body (drop (i + 1) bodies) (subst (Remain files) (begins bodies i body c.loop-body-test.true c.body-item.is) c.loop-body.invariant.left)

pub returns-in-Err-clause-refused : goal.returns-in-Err-clause-refused
returns-in-Err-clause-refused c =
    let files = c.args.set.now in
    let bodies = c.args.bodies.now in
    let i = c.loop-body.body-index in
    let body = c.body-item.result in
    elim c.in-Err.ensures.refused [
      | inl memory ↦ inl memory
      | inr untyped ↦ inr (refused_here files body (drop (i + 1) bodies) c.in-Err.why c.requires.closed (subst (Remain files) (begins bodies i body c.loop-body-test.true c.body-item.is) c.loop-body.invariant.left) untyped)
    ]

pub loop-body-preserved : goal.loop-body-preserved
loop-body-preserved c =
    let files = c.args.set.now in
    let bodies = c.args.bodies.now in
    let i = c.loop-body.body-index in
    let body = c.body-item.result in
    let items = c.in-Ok-push.ensures.items in
    let ensures = c.in-Ok.ensures in
    record {
      left = one_more files body (drop (i + 1) bodies) (subst (Remain files) (begins bodies i body c.loop-body-test.true c.body-item.is) c.loop-body.invariant.left) (table_of c.in-Ok.types, ensures.least.right);
      so_far = bodies_more c.loop-body.typed.items c.push.new.self.items _ (take i bodies) (take (i + 1) bodies) items c.loop-body.invariant.so_far (taken_more bodies i body c.loop-body-test.true c.body-item.is);
      types = verified_more files c.loop-body.typed.items c.push.new.self.items _ items c.loop-body.invariant.types (record { least = ensures.least; reached = ensures.rows });
    }

pub returns-clause-typing : goal.returns-clause-typing
returns-clause-typing c =
    let files = c.args.set.now in
    let bodies = c.args.bodies.now in
    none_left files c.requires.closed (subst (Remain files) (drop_all c.loop-body.body-index bodies (omega (arith, c.loop-body-test.false))) c.loop-body.invariant.left)
