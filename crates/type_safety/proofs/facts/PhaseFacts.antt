-- The phases of a set give what its bodies stand on.
use Rattle.std.proofs.Common.{◌≡◌, ◌⊎◌, inl, inr, ℕ, zero, suc, ◌+◌, ◌-◌, ◌≤◌, Bool, true, false, ◌&&◌, ◌||◌, not, nat_eq, List, [], ◌∷◌, length, map, Option, Some, None, Ok, refl, sym, ap, subst, ◌∙◌, arith, eqb-true}
use Rattle.std.specs.Prelude.{if◌then◌else◌}
use Rattle.std.specs.List.{AllByRecursion, Contains}
use Rattle.std.specs.Option.{option_map_or}
use Rattle.std.specs.Str.{bytes_eq}
use Rattle.class_pool.specs.declared.descriptor.Descriptor.{Descriptor}
use Rattle.class_pool.specs.declared.types.TypeBase.TheVariants as base
use Rattle.class_pool.specs.declared.types.TypeRef.{TypeRef}
use Rattle.class_pool.specs.Pool.{utf8_at, EachEntry}
use Rattle.class_file.specs.declared.record.ClassFile.{ClassFile}
use Rattle.class_file.specs.declared.record.CodeAttr.{CodeAttr}
use Rattle.class_file.specs.Rules.{is_interface, is_abstract, is_public, is_static, is_static_method, is_named, is_initialiser as is_initialiser_head}
use Rattle.class_file.specs.ReadingMembers.{head_in}
use Rattle.class_code.specs.declared.insn.Insn.{Insn}
use Rattle.class_code.specs.Code.{Insns}
use Rattle.class_code.specs.Flow.{code_ways}
use Rattle.class_code.proofs.Numbers.{HasNumbers}
use Rattle.code_reach.specs.Reached as reach
use Rattle.body_form.specs.declared.body.Body.{Body}
use Rattle.body_form.specs.declared.op.MethodUse.{MethodUse}
use Rattle.body_form.specs.declared.op.Op.{Op}
use Rattle.body_form.specs.declared.op.Op.TheVariants as op
use Rattle.body_form.specs.Flow.{IsStart}
use Rattle.class_tree.specs.Set.{flags_of}
use Rattle.class_tree.specs.Tree.{Gathers}
use Rattle.class_tree.specs.DirectSupers.{superclass_of}
use Rattle.class_tree.proofs.ancestors.Superclasses.{IsRanked, ranked as ranks_of}
use Rattle.jvm_model.specs.Bodies.{AreBodies, IsFamily, IsResolved, IsNop}
use Rattle.jvm_model.specs.Instructions.{op_of}
use Rattle.jvm_model.specs.Linking.{Linking}
use Rattle.jvm_model.specs.CodeInsns.{insns_in}
use Rattle.jvm_model.specs.MethodUses.{initialiser_name}
use Rattle.jvm_model.specs.TypesRight.{IsRight}
use Rattle.jvm_model.specs.TypesRules.{op_at, makes_class}
use Rattle.typed_machine.specs.TypedWorld.{World}
use Rattle.type_safety.specs.Facts.{is_named_constructor, BodyFacts}
use Rattle.type_safety.specs.Fitting.{Tables}
use Rattle.type_safety.specs.Safety.{IsTyped, PhasesGiveFacts, method_of}
use Rattle.type_safety.proofs.fitting.SetLists.{none_some, same_some, all_at, all_contained, each_back}
use Rattle.type_safety.proofs.facts.ReadRules.{MethodRules, HasCode}
use Rattle.type_safety.proofs.facts.ArgumentSlots.{arguments_few, receiver_counted, static_by_flags}
use Rattle.type_safety.proofs.facts.RowCounts.{HasRowsWithin, rows_within}
use Rattle.type_safety.proofs.facts.FewCounts.{HasFewCounts}
use Rattle.type_safety.proofs.facts.CodeRead.{FitsMethod, IsRead, files_read}
use Rattle.type_safety.proofs.facts.PoolNumbers.{IntegerFits}
use Rattle.type_safety.proofs.facts.CodedBodies.{IsBodyOf, body_of}
use Rattle.type_safety.proofs.facts.Control.{op_there}
use Rattle.type_safety.proofs.facts.CodeStanding.{code_of, stands_of_set, stays_within}
use Rattle.type_safety.proofs.facts.Declared.{file_at}
use Rattle.type_safety.proofs.facts.RunMethods.{own_file, other_way}
use Rattle.type_safety.proofs.facts.BodyReach.{body_reached}
use Rattle.type_safety.proofs.facts.ConstructorCalls.{super_no_interface, made_class, constructs}
use Rattle.type_safety.proofs.facts.NamedOps.{NamedAndFew, op_named}

-- ---- the class of a body is no interface

no_interface_code : (interface initialiser public abstract : Bool) (code : Option CodeAttr) (c : CodeAttr) → (not interface || (initialiser || (public && abstract))) ≡ true → initialiser ≡ false → HasCode abstract code → code ≡ Some c → interface ≡ false
no_interface_code false initialiser public abstract code c e n has is = refl
no_interface_code true true public abstract code c e n has is = absurd (let bad : true ≡ false = n in cc)
no_interface_code true false false abstract code c e n has is = absurd (let bad : false ≡ true = e in cc)
no_interface_code true false true false code c e n has is = absurd (let bad : false ≡ true = e in cc)
no_interface_code true false true true code c e n has is = none_some c (sym has ∙ is)

no_initialiser : (o : Option (List ℕ)) → option_map_or (bytes_eq initialiser_name) o false ≡ false → is_named initialiser_name o ≡ false
no_initialiser None e = refl
no_initialiser (Some name) e = other_way initialiser_name name e

-- ---- lists

in_map : (ops : List (ℕ × Op)) (x : ℕ × Op) → Contains ops x → Contains (map (λ y. y.0) ops) x.0
in_map [] x (k, within, is) = absurd (omega (arith, within))
in_map (y ∷ ops) x (zero, within, is) = (0, omega arith, ap (λ (z : ℕ × Op). z.0) is)
in_map (y ∷ ops) x (suc k, within, is) = let rest = in_map ops x (k, omega (arith, within), is) in (suc rest.0, omega (arith, rest.1), rest.2)

all_both : {X : Type 0} (P Q : X → Type 0) (xs : List X) → AllByRecursion P xs → AllByRecursion Q xs → AllByRecursion (λ x. P x × Q x) xs
all_both P Q [] p q = tt
all_both P Q (x ∷ xs) p q = ((p.0, q.0), all_both P Q xs p.1 q.1)

module _ (world : World) (gathers : Gathers world.files None) (rank : ℕ → ℕ) (ranked : IsRanked world.files rank) (read : AllByRecursion IsRead world.files) (are : AreBodies world.files world.bodies) (links : Linking world.files None) where
  abbrev files : List ClassFile
  files = world.files

  module _ (tables : Tables) (right : AllByRecursion (λ body. IsRight files body (tables (method_of body))) world.bodies) (body : Body) (there : Contains world.bodies body) where
    of : IsBodyOf files world.bodies are body
    of = body_of files world.bodies are body there

    own_class : is_interface (flags_of files of.coded.class) ≡ false
    unfolding of
    own_class =
        let file = file_at files of.coded.class of.coded.file (own_file files of.coded.class of.stands.own ∙ of.stands.file) in
        let same : file.file ≡ of.coded.file = same_some file.file of.coded.file (sym file.is ∙ of.stands.file) in
        let rules = all_at (MethodRules of.coded.file.flags of.coded.file.pool) of.coded.file.methods (all_at IsRead files read (of.coded.class - 32) of.coded.file of.stands.file).rules.methods of.coded.position of.coded.method of.stands.method in
        ap is_interface file.flags ∙ ap (λ (f : ClassFile). is_interface f.flags) same
        ∙ no_interface_code (is_interface of.coded.file.flags) (is_initialiser_head of.coded.file.pool (head_in of.coded.method)) (is_public of.coded.method.flags) (is_abstract of.coded.method.flags) of.coded.method.code of.coded.code rules.of_interface
        (no_initialiser (utf8_at of.coded.file.pool of.coded.method.name) of.stands.named) rules.has_code of.stands.code

    file_read : IsRead of.coded.file
    unfolding of
    file_read = all_at IsRead files read (of.coded.class - 32) of.coded.file of.stands.file

    entries : EachEntry IntegerFits of.coded.file.pool
    entries = file_read.rules.numbers

    -- the numbers of its instructions have as many bits as they may
    insn_numbers : AllByRecursion (λ x. HasNumbers x.1) of.coded.insns
    unfolding of
    insn_numbers =
        let code = all_at FitsMethod of.coded.file.methods file_read.codes of.coded.position of.coded.method of.stands.method of.coded.code of.stands.code in
        let same : code.insns ≡ of.coded.insns = same_some code.insns of.coded.insns (sym (ap insns_in code.is) ∙ of.stands.insns) in
        subst (λ (l : Insns). AllByRecursion (λ x. HasNumbers x.1) l) same code.numbers

    -- and its switches have as many rows as code has bytes
    insn_switches : AllByRecursion (λ x. HasRowsWithin 65535 x.1) of.coded.insns
    unfolding of
    insn_switches =
        let code = code_of files read of.coded of.stands in
        rows_within 65535 0 of.coded.code.code of.coded.insns code.is.stand.0 [] (omega (arith, code.few)) code.is.stand.1

    -- an instruction of the body, with what is reached
    record IsMade (pc : ℕ) (instruction : Op) : Type 0 where
      insn : Insn
      reached : reach.IsReached (code_ways of.coded.code.handlers of.coded.insns) pc
      is : op_of files of.coded.class of.coded.file.pool insn ≡ Ok instruction
      numbers : HasNumbers insn
      switches : HasRowsWithin 65535 insn

    abbrev Reads : ℕ × Insn → Type 0
    Reads x = HasNumbers x.1 × HasRowsWithin 65535 x.1

    made_or_nop : (pc : ℕ) (instruction : Op) → op_at body.ops pc ≡ Some instruction → IsMade pc instruction ⊎ (instruction ≡ op.Nop)
    made_or_nop pc instruction at =
        let each = each_back (IsFamily files of.coded.class of.coded.file.pool (code_ways of.coded.code.handlers of.coded.insns)) Reads of.coded.insns body.ops (all_both (λ x. HasNumbers x.1) (λ x. HasRowsWithin 65535 x.1) of.coded.insns insn_numbers insn_switches) of.is.ops (pc, instruction) (op_there body.ops pc instruction at) in
        by_family each.0 each.1 each.2
      where
        by_family : (x : ℕ × Insn) → Reads x → IsFamily files of.coded.class of.coded.file.pool (code_ways of.coded.code.handlers of.coded.insns) x (pc, instruction) → IsMade pc instruction ⊎ (instruction ≡ op.Nop)
        by_family x reads (IsResolved same reached is) = inl (record { insn = x.1; numbers = reads.0; switches = reads.1; reached = subst (reach.IsReached (code_ways of.coded.code.handlers of.coded.insns)) (sym same) reached; is = is })
        by_family x reads (IsNop same unreached is) = inr is

    -- what is made at a pc is an object of a class of which there are objects
    makes_concrete : (class pc : ℕ) → makes_class class (op_at body.ops pc) ≡ true → is_interface (flags_of files class) ≡ false
    makes_concrete class pc e =
        let made = made_class class (op_at body.ops pc) e in
        elim (made_or_nop pc (op.New made.0) made.1) [
          | inl insn ↦
              let named = (op_named world gathers rank ranked read are links of.coded.class of.coded.file.pool own_class entries insn.insn (op.New made.0) (λ used other. absurd (never made.0 used other)) insn.is insn.numbers insn.switches).0 in
              let same : named.0 ≡ class = same_class named.0 class (sym (ap (λ (t : TypeRef). t.base) named.1) ∙ made.2) in
              ap (λ (c : ℕ). is_interface (flags_of files c)) (sym same) ∙ named.2.1
          | inr nop ↦ absurd (no_nop made.0 nop)
        ]
      where
        same_class : (a b : ℕ) → base.Class a ≡ base.Class b → a ≡ b
        same_class a b e = cc

        never : (type : TypeRef) (used : MethodUse) → op.New type ≡ op.CallSpecial used → ⊥
        never type used e = cc

        no_nop : (type : TypeRef) → op.New type ≡ op.Nop → ⊥
        no_nop type e = cc

    constructed : (pc : ℕ) (used : MethodUse) → op_at body.ops pc ≡ Some (op.CallSpecial used) → IsMade pc (op.CallSpecial used) → is_named_constructor used ≡ true → is_interface (flags_of files used.class) ≡ false
    constructed pc used at made named =
        let set = stands_of_set files read of.coded body of.stands of.is in
        let start : IsStart body.ops pc = start_of pc (op_there body.ops pc (op.CallSpecial used) at) in
        let reached = body_reached files of.coded.class of.coded.file.pool of.coded.code.handlers of.coded.insns body set.rise of.is.ops of.is.handlers pc start made.reached in
        let types = all_contained (λ b. IsRight files b (tables (method_of b))) world.bodies right body there in
        let frame = types.reached pc start reached in
        let holds = types.rules pc (op.CallSpecial used) frame.0 at frame.1 in
        elim (constructs files body pc used frame.0 holds.after named holds.rule) [
          | inl new ↦ makes_concrete used.class new.0 new.1
          | inr this ↦ own_or_super (nat_eq used.class body.class) (superclass_of files body.class) refl refl this
        ]
      where
        start_of : (pc : ℕ) → Contains body.ops (pc, op.CallSpecial used) → IsStart body.ops pc
        start_of pc h = in_map body.ops (pc, op.CallSpecial used) h

        own_or_super : (same : Bool) (o : Option ℕ) → nat_eq used.class body.class ≡ same → superclass_of files body.class ≡ o → (same || option_map_or (nat_eq used.class) o false) ≡ true → is_interface (flags_of files used.class) ≡ false
        own_or_super true o same is e = ap (λ (c : ℕ). is_interface (flags_of files c)) (eqb-true used.class body.class same ∙ of.is.class) ∙ own_class
        own_or_super false None same is e = absurd (let bad : false ≡ true = e in cc)
        own_or_super false (Some upper) same is e =
            ap (λ (c : ℕ). is_interface (flags_of files c)) (eqb-true used.class upper e)
            ∙ super_no_interface files gathers of.coded.class upper of.stands.own of.coded.file of.stands.file (ap (superclass_of files) (sym of.is.class) ∙ is)

    named_and_few : (pc : ℕ) (instruction : Op) → op_at body.ops pc ≡ Some instruction → NamedAndFew world body.class instruction
    named_and_few pc instruction at =
        elim (made_or_nop pc instruction at) [
          | inl made ↦
              subst (λ (c : ℕ). NamedAndFew world c instruction) (sym of.is.class)
              (op_named world gathers rank ranked read are links of.coded.class of.coded.file.pool own_class entries made.insn instruction
              (λ used same. constructed pc used (at ∙ ap (λ (o : Op). Some o) same) (subst (IsMade pc) same made)) made.is made.numbers made.switches)
          | inr nop ↦ subst (NamedAndFew world body.class) (sym nop) (tt, tt)
        ]

    body_facts : BodyFacts world body
    body_facts =
        let goes = stays_within files read of.coded body of.stands of.is in
        record {
          of_set = stands_of_set files read of.coded body of.stands of.is;
          first = goes.first;
          leads = goes.leads;
          handlers = goes.handlers;
          named = λ pc instruction at. (named_and_few pc instruction at).0;
        }

    -- the object that its method is called on, where it has one, and its parameters
    parameters_few : (if body.instance then 1 else 0) + length body.params ≤ 255
    unfolding of
    parameters_few =
        let coded = of.coded in
        let rules = all_at (MethodRules coded.file.flags coded.file.pool) coded.file.methods file_read.rules.methods coded.position coded.method of.stands.method in
        let plain = no_initialiser (utf8_at coded.file.pool coded.method.name) of.stands.named in
        let static : is_static_method coded.file.pool (head_in coded.method) ≡ is_static coded.method.flags = static_by_flags (is_static coded.method.flags) (is_initialiser_head coded.file.pool (head_in coded.method)) plain in
        let type : rules.type ≡ record { params = body.params; result = body.result } = same_some rules.type (record { params = body.params; result = body.result }) (sym rules.typed ∙ of.is.type) in
        let few = arguments_few (is_static_method coded.file.pool (head_in coded.method)) rules.type rules.slots in
        receiver_counted (is_static coded.method.flags) body.instance (length body.params) of.is.instance
        (subst (λ (b : Bool). (if b then 0 else 1) + length body.params ≤ 255) static
        (subst (λ (d : Descriptor). (if is_static_method coded.file.pool (head_in coded.method) then 0 else 1) + length d.params ≤ 255) type few))

pub phases_give_facts : PhasesGiveFacts
phases_give_facts files world tables is body there =
    let rank = ranks_of world.files is.closed in
    body_facts world is.closed rank.0 rank.1 (files_read 0 files world.files is.records is.codes) is.bodies is.linked tables is.types body there

-- what the instructions of a body count is little
pub phases_keep_counts : (files : List (List ℕ)) (world : World) (tables : Tables) → IsTyped files world tables → (body : Body) → Contains world.bodies body → (pc : ℕ) (instruction : Op) → op_at body.ops pc ≡ Some instruction → HasFewCounts instruction
phases_keep_counts files world tables is body there pc instruction at =
    let rank = ranks_of world.files is.closed in
    (named_and_few world is.closed rank.0 rank.1 (files_read 0 files world.files is.records is.codes) is.bodies is.linked tables is.types body there pc instruction at).1

-- it has few parameters
pub phases_keep_parameters : (files : List (List ℕ)) (world : World) (tables : Tables) → IsTyped files world tables → (body : Body) → Contains world.bodies body → (if body.instance then 1 else 0) + length body.params ≤ 255
phases_keep_parameters files world tables is body there =
    let rank = ranks_of world.files is.closed in
    parameters_few world is.closed rank.0 rank.1 (files_read 0 files world.files is.records is.codes) is.bodies is.linked tables is.types body there
