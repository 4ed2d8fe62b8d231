-- Each method of a set that links has a body.
use Rattle.std.proofs.Common.{◌≡◌, ℕ, suc, ◌+◌, Bool, true, false, List, [], ◌∷◌, Option, Some, None, option_map, option_and_then, refl, sym, subst, arith}
use Rattle.std.specs.Prelude.{Ok, Err, not, if◌then◌else◌}
use Rattle.std.specs.List.{AllByRecursion}
use Rattle.std.specs.Option.{option_to_list, option_or}
use Rattle.std.proofs.lemmas.Option.{none-some}
use Rattle.library.specs.Classes.{first_own}
use Rattle.class_file.specs.declared.record.ClassFile.{ClassFile}
use Rattle.class_file.specs.declared.record.CodeAttr.{CodeAttr}
use Rattle.class_file.specs.declared.record.HandlerRow.{HandlerRow}
use Rattle.class_file.specs.declared.record.Member.{Member}
use Rattle.class_file.specs.Rules.{is_static}
use Rattle.class_code.specs.Code.{Insns, decoded}
use Rattle.class_code.specs.Flow.{code_ways}
use Rattle.class_tree.proofs.lookups.Climbing.{all_append}
use Rattle.code_reach.specs.Reached.{Ways}
use Rattle.body_form.specs.declared.body.Body.{Body}
use Rattle.body_form.specs.declared.body.Guard.{Guard}
use Rattle.body_form.specs.declared.op.Op.TheVariants as op
use Rattle.body_form.specs.Flow.{Ops}
use Rattle.jvm_model.specs.declared.refusal.Refusal.{Refusal}
use Rattle.jvm_model.specs.Phases.{first_refusal}
use Rattle.jvm_model.specs.CodeInsns.{insns_in}
use Rattle.jvm_model.specs.FirstOf.{FirstOf, IfThere}
use Rattle.jvm_model.specs.Resolution.{Resolved}
use Rattle.jvm_model.specs.Instructions.{op_of, caught_by}
use Rattle.jvm_model.specs.Linking.{fault_of, refusal_at, row_refusal, is_initialiser, NamesOf, IsSkipped, IsTested, CodeNames, MethodNames, ClassLinks, Linking}
use Rattle.jvm_model.specs.Bodies.{AreEach, IsFamily, IsResolved, IsNop, IsGuard, IsBody, Coded, coded_of, coded_from, coded_in, coded_methods}
use Rattle.set_verdict.proofs.ReadMethods.{IsTypedMethod, HasTypes}

-- what is not refused at its pc is resolved
resolved : {X : Type 0} (position member pc : ℕ) (r : Resolved X) → refusal_at position member pc (fault_of r) ≡ None → (x : X) × (r ≡ Ok x)
resolved position member pc (Ok x) e = (x, refl)
resolved position member pc (Err why) e = absurd (none-some _ (sym e))

-- where the first of two tests has no refusal, it is that of the second
pub both_none : (first second : Option Refusal) → option_or first second ≡ None → (first ≡ None) × (second ≡ None)
both_none None second e = (refl, e)
both_none (Some why) second e = absurd (none-some why (sym e))

module _ (files : List ClassFile) where
  -- the method has a body
  abbrev pub HasOwnBody : Coded → Type 0
  HasOwnBody coded = (body : Body) × IsBody files coded body

  module _ (position : ℕ) (file : ClassFile) where
    -- the number of the class
    abbrev class : ℕ
    class = first_own + position

    families : (member : ℕ) (ways : Ways) (place : ℕ) (insns : Insns) → FirstOf (λ index x. NamesOf files position file member ways x) place insns None → (ops : Ops) × AreEach (IsFamily files class file.pool ways) insns ops
    families member ways place [] none = ([], tt)
    families member ways place (x ∷ insns) none = by_head none.0 (families member ways (suc place) insns none.1)
      where
        by_head : NamesOf files position file member ways x None → (ops : Ops) × AreEach (IsFamily files class file.pool ways) insns ops → (ops : Ops) × AreEach (IsFamily files class file.pool ways) (x ∷ insns) ops
        by_head (IsSkipped unreached e) (ops, are) = ((x.0, op.Nop) ∷ ops, (IsNop refl unreached refl, are))
        by_head (IsTested reached e) (ops, are) =
            let found = resolved position member x.0 (op_of files class file.pool x.1) (sym e) in
            ((x.0, found.0) ∷ ops, (IsResolved refl reached found.1, are))

    guards : (member place : ℕ) (rows : List HandlerRow) → first_refusal (row_refusal files position file member) place rows ≡ None → (guards : List Guard) × AreEach (IsGuard files class file.pool) rows guards
    unfolding first_refusal
    guards member place [] e = ([], tt)
    guards member place (row ∷ rows) e =
        let parts = both_none _ _ e in
        let found = resolved position member row.target (caught_by files class file.pool row.catch_type) parts.0 in
        let more = guards member (suc place) rows parts.1 in
        (record { start = row.start; end = row.end; target = row.target; class = found.0 } ∷ more.0, (record { start = refl; end = refl; target = refl; catches = found.1 }, more.1))

    -- ---- methods

    module _ (member : ℕ) (m : Member) (typed : IsTypedMethod file.pool m) where
      abbrev coded_as : CodeAttr → Insns → Coded
      coded_as code insns = record { class = class; file = file; position = member; method = m; code = code; insns = insns }

      body_there : (code : CodeAttr) (insns : Insns) → CodeNames files position file member code insns None → HasOwnBody (coded_as code insns)
      body_there code insns names =
          let ops = families member (code_ways code.handlers insns) 0 insns names.0 in
          let rows = guards member 0 code.handlers (sym names.1) in (
            record {
              class = class;
              method = member;
              params = typed.0.params;
              result = typed.0.result;
              instance = not (is_static m.flags);
              max_stack = code.max_stack;
              max_locals = code.max_locals;
              ops = ops.0;
              handlers = rows.0;
            },
            record {
              type = typed.1;
              class = refl;
              method = refl;
              instance = refl;
              max_stack = refl;
              max_locals = refl;
              ops = ops.1;
              handlers = rows.1;
            },
          )

      one_there : MethodNames files position file member m None → AllByRecursion HasOwnBody (option_to_list (coded_of class file member m))
      one_there names = by_name (is_initialiser file.pool m) m.code names
        where
          by_insns : (code : CodeAttr) (found : Option Insns) → IfThere (CodeNames files position file member code) found None → AllByRecursion HasOwnBody (option_to_list (option_map (coded_as code) found))
          by_insns code None none = tt
          by_insns code (Some insns) none = (body_there code insns none, tt)

          by_name : (skipped : Bool) (code : Option CodeAttr) → IfThere (λ c. IfThere (CodeNames files position file member c) (insns_in (decoded c.code))) code None
              → AllByRecursion HasOwnBody (option_to_list (if skipped then None else option_and_then (λ c. option_map (coded_as c) (insns_in (decoded c.code))) code))
          by_name true code none = tt
          by_name false None none = tt
          by_name false (Some code) none = by_insns code (insns_in (decoded code.code)) none

    from_there : (member : ℕ) (methods : List Member) → AllByRecursion (IsTypedMethod file.pool) methods → FirstOf (MethodNames files position file) member methods None → AllByRecursion HasOwnBody (coded_from class file member methods)
    unfolding coded_from
    from_there member [] typed names = tt
    from_there member (m ∷ methods) typed names =
        all_append HasOwnBody (option_to_list (coded_of class file member m)) (coded_from class file (suc member) methods) (one_there member m typed.0 names.0)
        (from_there (suc member) methods typed.1 names.1)

  -- ---- the classes

  in_there : (position number : ℕ) → first_own + position ≡ number → (classes : List ClassFile) → AllByRecursion HasTypes classes → FirstOf (ClassLinks files) position classes None → AllByRecursion HasOwnBody (coded_in number classes)
  unfolding coded_in
  in_there position number is [] typed links = tt
  in_there position number is (file ∷ classes) typed links =
      all_append HasOwnBody (coded_from number file 0 file.methods) (coded_in (suc number) classes)
      (subst (λ (n : ℕ). AllByRecursion HasOwnBody (coded_from n file 0 file.methods)) is (from_there position file 0 file.methods typed.0 links.0.1))
      (in_there (suc position) (suc number) (omega (arith, is)) classes typed.1 links.1)

  pub bodies_there : AllByRecursion HasTypes files → Linking files None → AllByRecursion HasOwnBody (coded_methods files)
  bodies_there typed links = in_there 0 first_own refl files typed links
