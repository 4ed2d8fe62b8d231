-- A method of a set has one body at most, and it is decided whether it has one.
use Rattle.std.proofs.Common.{◌≡◌, inl, inr, ℕ, Bool, not, List, [], ◌∷◌, Option, Some, None, option_and_then, refl, sym, ap, ◌∙◌}
use Rattle.std.specs.Prelude.{Ok, Err}
use Rattle.std.proofs.lemmas.Option.{none-some, same_Some}
use Rattle.class_pool.specs.declared.descriptor.Descriptor.{Descriptor}
use Rattle.class_pool.specs.DescriptorReading.{method_of}
use Rattle.class_pool.specs.Pool.{Slots, utf8_at}
use Rattle.class_file.specs.declared.record.ClassFile.{ClassFile}
use Rattle.class_file.specs.declared.record.HandlerRow.{HandlerRow}
use Rattle.class_file.specs.declared.record.Member.{Member}
use Rattle.class_file.specs.Rules.{is_static}
use Rattle.class_code.specs.declared.insn.Insn.{Insn}
use Rattle.class_code.specs.Flow.{code_ways}
use Rattle.code_reach.specs.Reached.{Ways, IsReached}
use Rattle.body_form.specs.declared.body.Body.{Body}
use Rattle.body_form.specs.declared.body.Guard.{Guard}
use Rattle.body_form.specs.declared.op.Op.{Op}
use Rattle.body_form.specs.declared.op.Op.TheVariants as op
use Rattle.body_form.specs.Flow.{Ops}
use Rattle.jvm_model.specs.Resolution.{Resolved}
use Rattle.jvm_model.specs.Instructions.{op_of, caught_by}
use Rattle.jvm_model.specs.Bodies.{AreEach, IsFamily, IsResolved, IsNop, IsGuard, Coded, HasType, IsBody}
use Rattle.jvm_model.proofs.phases.Decisions.{Decided}
use Rattle.jvm_model.proofs.bodies.ReachedSets.{decide_reached}

-- ---- lists

-- what is so of each item is one, where it is for each
one_each : {X Y : Type 0} (Is : X → Y → Type 0) → ((x : X) (a b : Y) → Is x a → Is x b → a ≡ b) → (xs : List X) (firsts seconds : List Y) → AreEach Is xs firsts → AreEach Is xs seconds → firsts ≡ seconds
one_each Is one [] [] [] p q = refl
one_each Is one [] [] (b ∷ seconds) p q = absurd q
one_each Is one [] (a ∷ firsts) seconds p q = absurd p
one_each Is one (x ∷ xs) [] seconds p q = absurd p
one_each Is one (x ∷ xs) (a ∷ firsts) [] p q = absurd q
one_each Is one (x ∷ xs) (a ∷ firsts) (b ∷ seconds) p q = let head = one x a b p.0 q.0 in let tail = one_each Is one xs firsts seconds p.1 q.1 in cc

-- a list of such items is there or not
some_each : {X Y : Type 0} (Is : X → Y → Type 0) → ((x : X) → Decided ((y : Y) × Is x y)) → (xs : List X) → Decided ((ys : List Y) × AreEach Is xs ys)
some_each Is each [] = inl ([], tt)
some_each {X} {Y} Is each (x ∷ xs) = by_head (each x) (some_each Is each xs)
  where
    by_head : Decided ((y : Y) × Is x y) → Decided ((ys : List Y) × AreEach Is xs ys) → Decided ((ys : List Y) × AreEach Is (x ∷ xs) ys)
    by_head (inl (y, is)) (inl (ys, are)) = inl (y ∷ ys, (is, are))
    by_head (inl head) (inr none) = inr (λ all. lacks_tail none all.0 all.1)
      where
        lacks_tail : (((ys : List Y) × AreEach Is xs ys) → ⊥) → (ys : List Y) → AreEach Is (x ∷ xs) ys → ⊥
        lacks_tail none [] are = are
        lacks_tail none (y ∷ ys) are = none (ys, are.1)
    by_head (inr none) tail = inr (λ all. lacks_head none all.0 all.1)
      where
        lacks_head : (((y : Y) × Is x y) → ⊥) → (ys : List Y) → AreEach Is (x ∷ xs) ys → ⊥
        lacks_head none [] are = are
        lacks_head none (y ∷ ys) are = none (y, are.0)

-- ---- results

-- a value is there, or a refusal
decide_ok : {X : Type 0} (r : Resolved X) → Decided ((x : X) × (r ≡ Ok x))
decide_ok (Ok x) = inl (x, refl)
decide_ok (Err why) = inr (λ made. absurd (let bad : Err why ≡ Ok made.0 = made.1 in cc))

one_ok : {X : Type 0} (r : Resolved X) (a b : X) → r ≡ Ok a → r ≡ Ok b → a ≡ b
one_ok r a b p q = cc

-- ---- parts

one_pair : {X Y : Type 0} (a b : X × Y) → a.0 ≡ b.0 → a.1 ≡ b.1 → a ≡ b
one_pair {X} {Y} a b first second = ap (λ (x : X). (x, a.1)) first ∙ ap (λ (y : Y). (b.0, y)) second

abbrev guard_of : ℕ → ℕ → ℕ → Option ℕ → Guard
guard_of start end target class = record { start = start; end = end; target = target; class = class }

abbrev body_of : ℕ → ℕ → Descriptor → Bool → ℕ → ℕ → Ops → List Guard → Body
body_of class method type instance_is max_stack max_locals ops handlers =
    record {
      class = class;
      method = method;
      params = type.params;
      result = type.result;
      instance = instance_is;
      max_stack = max_stack;
      max_locals = max_locals;
      ops = ops;
      handlers = handlers;
    }

abbrev type_of : Body → Descriptor
type_of body = record { params = body.params; result = body.result }

-- ---- families and rows

module _ (files : List ClassFile) (class : ℕ) (pool : Slots) where
  one_family : (ways : Ways) (x : ℕ × Insn) (a b : ℕ × Op) → IsFamily files class pool ways x a → IsFamily files class pool ways x b → a ≡ b
  one_family ways x a b (IsResolved at there is) (IsResolved too reached other) = one_pair a b (at ∙ sym too) (one_ok (op_of files class pool x.1) a.1 b.1 is other)
  one_family ways x a b (IsResolved at there is) (IsNop too none other) = absurd (none there)
  one_family ways x a b (IsNop at none is) (IsResolved too there other) = absurd (none there)
  one_family ways x a b (IsNop at none is) (IsNop too lacks other) = one_pair a b (at ∙ sym too) (is ∙ sym other)

  some_family : (ways : Ways) (x : ℕ × Insn) → Decided ((y : ℕ × Op) × IsFamily files class pool ways x y)
  some_family ways x = by_reach (decide_reached ways x.0) (decide_ok (op_of files class pool x.1))
    where
      by_reach : Decided (IsReached ways x.0) → Decided ((found : Op) × (op_of files class pool x.1 ≡ Ok found)) → Decided ((y : ℕ × Op) × IsFamily files class pool ways x y)
      by_reach (inr none) found = inl ((x.0, op.Nop), IsNop refl none refl)
      by_reach (inl there) (inl (found, is)) = inl ((x.0, found), IsResolved refl there is)
      by_reach (inl there) (inr lacks) = inr (λ made. fails made.0 made.1)
        where
          fails : (y : ℕ × Op) → IsFamily files class pool ways x y → ⊥
          fails y (IsResolved at reached is) = lacks (y.1, is)
          fails y (IsNop at none is) = none there

  one_guard : (row : HandlerRow) (a b : Guard) → IsGuard files class pool row a → IsGuard files class pool row b → a ≡ b
  one_guard row a b p q =
      ap (λ n. guard_of n a.end a.target a.class) (p.start ∙ sym q.start)
      ∙ ap (λ n. guard_of b.start n a.target a.class) (p.end ∙ sym q.end)
      ∙ ap (λ n. guard_of b.start b.end n a.class) (p.target ∙ sym q.target)
      ∙ ap (guard_of b.start b.end b.target) (one_ok (caught_by files class pool row.catch_type) a.class b.class p.catches q.catches)

  some_guard : (row : HandlerRow) → Decided ((guard : Guard) × IsGuard files class pool row guard)
  some_guard row = by_class (decide_ok (caught_by files class pool row.catch_type))
    where
      by_class : Decided ((caught : Option ℕ) × (caught_by files class pool row.catch_type ≡ Ok caught)) → Decided ((guard : Guard) × IsGuard files class pool row guard)
      by_class (inl (caught, is)) = inl (record { start = row.start; end = row.end; target = row.target; class = caught }, record { start = refl; end = refl; target = refl; catches = is })
      by_class (inr lacks) = inr (λ made. lacks (made.0.class, made.1.catches))

-- ---- types

some_type : (pool : Slots) (m : Member) → Decided ((type : Descriptor) × HasType pool m type)
some_type pool m = by_text (option_and_then method_of (utf8_at pool m.descriptor)) refl
  where
    by_text : (found : Option Descriptor) → option_and_then method_of (utf8_at pool m.descriptor) ≡ found → Decided ((type : Descriptor) × HasType pool m type)
    by_text (Some type) is = inl (type, is)
    by_text None is = inr (λ made. none-some made.0 (sym is ∙ made.1))

-- ---- bodies

module _ (files : List ClassFile) (coded : Coded) where
  pub one_body : (a b : Body) → IsBody files coded a → IsBody files coded b → a ≡ b
  one_body a b p q =
      let type : type_of a ≡ type_of b = same_Some (type_of a) (type_of b) (sym p.type ∙ q.type) in
      let families = one_each (IsFamily files coded.class coded.file.pool (code_ways coded.code.handlers coded.insns)) (one_family files coded.class coded.file.pool (code_ways coded.code.handlers coded.insns)) coded.insns a.ops b.ops p.ops q.ops in
      let rows = one_each (IsGuard files coded.class coded.file.pool) (one_guard files coded.class coded.file.pool) coded.code.handlers a.handlers b.handlers p.handlers q.handlers in
      ap (λ n. body_of n a.method (type_of a) a.instance a.max_stack a.max_locals a.ops a.handlers) (p.class ∙ sym q.class)
      ∙ ap (λ n. body_of b.class n (type_of a) a.instance a.max_stack a.max_locals a.ops a.handlers) (p.method ∙ sym q.method)
      ∙ ap (λ (d : Descriptor). body_of b.class b.method d a.instance a.max_stack a.max_locals a.ops a.handlers) type
      ∙ ap (λ (is : Bool). body_of b.class b.method (type_of b) is a.max_stack a.max_locals a.ops a.handlers) (p.instance ∙ sym q.instance)
      ∙ ap (λ n. body_of b.class b.method (type_of b) b.instance n a.max_locals a.ops a.handlers) (p.max_stack ∙ sym q.max_stack)
      ∙ ap (λ n. body_of b.class b.method (type_of b) b.instance b.max_stack n a.ops a.handlers) (p.max_locals ∙ sym q.max_locals)
      ∙ ap (λ (ops : Ops). body_of b.class b.method (type_of b) b.instance b.max_stack b.max_locals ops a.handlers) families
      ∙ ap (body_of b.class b.method (type_of b) b.instance b.max_stack b.max_locals b.ops) rows

  pub some_body : Decided ((body : Body) × IsBody files coded body)
  some_body =
      by_parts (some_type coded.file.pool coded.method)
      (some_each (IsFamily files coded.class coded.file.pool (code_ways coded.code.handlers coded.insns)) (some_family files coded.class coded.file.pool (code_ways coded.code.handlers coded.insns)) coded.insns)
      (some_each (IsGuard files coded.class coded.file.pool) (some_guard files coded.class coded.file.pool) coded.code.handlers)
    where
      by_parts : Decided ((type : Descriptor) × HasType coded.file.pool coded.method type)
          → Decided ((ops : Ops) × AreEach (IsFamily files coded.class coded.file.pool (code_ways coded.code.handlers coded.insns)) coded.insns ops)
          → Decided ((guards : List Guard) × AreEach (IsGuard files coded.class coded.file.pool) coded.code.handlers guards) → Decided ((body : Body) × IsBody files coded body)
      by_parts (inl (type, has)) (inl (ops, families)) (inl (guards, rows)) =
          inl (
            record {
              class = coded.class;
              method = coded.position;
              params = type.params;
              result = type.result;
              instance = not (is_static coded.method.flags);
              max_stack = coded.code.max_stack;
              max_locals = coded.code.max_locals;
              ops = ops;
              handlers = guards;
            },
            record {
              type = has;
              class = refl;
              method = refl;
              instance = refl;
              max_stack = refl;
              max_locals = refl;
              ops = families;
              handlers = rows;
            },
          )
      by_parts (inr none) ops guards = inr (λ made. none (record { params = made.0.params; result = made.0.result }, made.1.type))
      by_parts (inl type) (inr none) guards = inr (λ made. none (made.0.ops, made.1.ops))
      by_parts (inl type) (inl ops) (inr none) = inr (λ made. none (made.0.handlers, made.1.handlers))
