-- Of each operand that a right table has before an instruction that is reached, something is known.
use Rattle.std.proofs.Common.{◌≡◌, ℕ, suc, Bool, true, false, ◌&&◌, cond, if◌then◌else◌, List, [], ◌∷◌, ◌++◌, map, filter, Option, Some, None, option_map, option_and_then, refl, sym, ap, subst, ◌∙◌, arith}
use Rattle.std.specs.List.{AllByRecursion, Contains}
use Rattle.std.specs.Option.{option_map_or}
use Rattle.std.proofs.lemmas.Bool.{and_parts}
use Rattle.std.proofs.lemmas.List.Elements.{All-from_recursion, All-contains}
use Rattle.std.proofs.lemmas.Option.{none-some, same_Some}
use Rattle.class_file.specs.declared.record.ClassFile.{ClassFile}
use Rattle.class_tree.specs.Merge.{merge}
use Rattle.body_form.specs.declared.body.Body.{Body}
use Rattle.body_form.specs.declared.body.Guard.{Guard}
use Rattle.body_form.specs.declared.types.VFrame.{VFrame}
use Rattle.body_form.specs.declared.types.VType.{VType}
use Rattle.body_form.specs.Flow.{IsStart, covers, successors}
use Rattle.body_form.specs.Reach.{IsClosed, handler_targets}
use Rattle.jvm_model.specs.TypesFrames.{may_be_local, may_be_operand, merge_lists, start_frame}
use Rattle.jvm_model.specs.TypesRight.{Table, Sent, IsMet, IsRight, entered, sent_to_handlers}
use Rattle.typed_machine.specs.TypedWorld.{World}
use Rattle.type_rounds.proofs.tables.Starts.{start_has_op}
use Rattle.type_safety.specs.Facts.{BodyFacts}
use Rattle.match_states.specs.Setting.{Setting, IsCompiled, table_for}
use Rattle.follow_numbers.specs.WideCode.{MayBeOperand}

-- ---- merges

are_known : List VType → Bool
are_known [] = true
are_known (type ∷ types) = may_be_operand type && are_known types

all_known : (types : List VType) → are_known types ≡ true → AllByRecursion MayBeOperand types
unfolding are_known
all_known [] is = tt
all_known (type ∷ types) is = let parts = and_parts (may_be_operand type) (are_known types) is in (parts.0, all_known types parts.1)

one_merged : (type : VType) (rest : Option (List VType)) (merged : List VType) → ((types : List VType) → rest ≡ Some types → are_known types ≡ true) → (may : Bool) → may_be_operand type ≡ may
    → (if may then option_map (λ types. type ∷ types) rest else None) ≡ Some merged → are_known merged ≡ true
unfolding are_known
one_merged type None merged later true of is = absurd (none-some merged is)
one_merged type (Some types) merged later true of is =
    subst (λ (l : List VType). are_known l ≡ true) (same_Some (type ∷ types) merged is) (ap (λ (b : Bool). b && are_known types) of ∙ later types refl)
one_merged type rest merged later false of is = absurd (none-some merged is)

merged_known : (files : List ClassFile) (firsts seconds merged : List VType) → merge_lists files may_be_operand firsts seconds ≡ Some merged → are_known merged ≡ true
unfolding merge_lists are_known
merged_known files [] [] merged is = subst (λ (l : List VType). are_known l ≡ true) (same_Some [] merged is) refl
merged_known files [] (b ∷ seconds) merged is = absurd (none-some merged is)
merged_known files (a ∷ firsts) [] merged is = absurd (none-some merged is)
merged_known files (a ∷ firsts) (b ∷ seconds) merged is =
    one_merged (merge files a b) (merge_lists files may_be_operand firsts seconds) merged (merged_known files firsts seconds) (may_be_operand (merge files a b)) refl is

by_parts : (pending : Bool) (locals stack : Option (List VType)) (upper : VFrame) → ((types : List VType) → stack ≡ Some types → are_known types ≡ true)
    → option_and_then (λ locals. option_map (λ stack. record { locals = locals; stack = stack; pending = pending }) stack) locals ≡ Some upper → are_known upper.stack ≡ true
by_parts pending None stack upper known is = absurd (none-some upper is)
by_parts pending (Some locals) None upper known is = absurd (none-some upper is)
by_parts pending (Some locals) (Some stack) upper known is =
    let frame : VFrame = record { locals = locals; stack = stack; pending = pending } in
    subst (λ (f : VFrame). are_known f.stack ≡ true) (same_Some frame upper is) (known stack refl)

-- ---- tables

all_of : {X : Type 0} (P : X → Type 0) (xs : List X) → ((x : X) → Contains xs x → P x) → AllByRecursion P xs
all_of P [] each = tt
all_of P (x ∷ xs) each = (each x (0, omega arith, refl), all_of P xs (λ y among. let within = among.1 in each y (suc among.0, omega (arith, within), among.2)))

module _ (world : World) (body : Body) (table : Table) (facts : BodyFacts world body) (right : IsRight world.files body table) where
  knows : ℕ → Bool
  knows pc = option_map_or (λ (frame : VFrame). are_known frame.stack) (table pc) false

  abbrev Met : Sent → Type 0
  Met sent = IsStart body.ops sent.to → IsMet world.files table sent

  abbrev Known : ℕ → Type 0
  Known pc = knows pc ≡ true

  met_known : (sent : Sent) → IsMet world.files table sent → Known sent.to
  unfolding knows
  met_known sent met =
      ap (λ found. option_map_or (λ (frame : VFrame). are_known frame.stack) found false) met.has
      ∙ by_parts _ (merge_lists world.files may_be_local met.upper.locals sent.frame.locals) (merge_lists world.files may_be_operand met.upper.stack sent.frame.stack) met.upper
      (merged_known world.files met.upper.stack sent.frame.stack) met.above

  one_guard : (before after : VFrame) (guard : Guard) (rest : List Guard) → IsStart body.ops guard.target → (AllByRecursion Met (sent_to_handlers before after rest) → AllByRecursion Known (map (λ (guard : Guard). guard.target) rest))
      → (here : Bool) → AllByRecursion Met (sent_to_handlers before after (cond here (guard ∷ rest) rest)) → AllByRecursion Known (map (λ (guard : Guard). guard.target) (cond here (guard ∷ rest) rest))
  unfolding sent_to_handlers
  one_guard before after guard rest start later true met = (met_known (record { to = guard.target; frame = entered guard before }) (met.0 start), later met.1.1)
  one_guard before after guard rest start later false met = later met

  to_handlers : (pc : ℕ) (before after : VFrame) (guards : List Guard) → AllByRecursion (λ (guard : Guard). IsStart body.ops guard.target) guards
      → AllByRecursion Met (sent_to_handlers before after (filter (covers pc) guards)) → AllByRecursion Known (handler_targets guards pc)
  to_handlers pc before after [] starts met = tt
  to_handlers pc before after (guard ∷ guards) starts met =
      one_guard before after guard (filter (covers pc) guards) starts.0 (to_handlers pc before after guards starts.1) (covers pc guard) met

  to_all : (after : VFrame) (pcs : List ℕ) → AllByRecursion (IsStart body.ops) pcs → (rest : List Sent) (others : List ℕ) → (AllByRecursion Met rest → AllByRecursion Known others)
      → AllByRecursion Met (map (λ to. record { to = to; frame = after }) pcs ++ rest) → AllByRecursion Known (pcs ++ others)
  to_all after [] starts rest others later met = later met
  to_all after (to ∷ pcs) starts rest others later met = (met_known (record { to = to; frame = after }) (met.0 starts.0), to_all after pcs starts.1 rest others later met.1)

  -- what is known at a pc is known where its instruction leads
  known_on : (pc : ℕ) → IsStart body.ops pc → (found : Option VFrame) → table pc ≡ found → option_map_or (λ (frame : VFrame). are_known frame.stack) found false ≡ true
      → AllByRecursion Known (successors body.ops pc ++ handler_targets body.handlers pc)
  known_on pc start None at is = absurd cc
  known_on pc start (Some before) at is =
      let there = start_has_op body.ops pc start in
      let holds = right.rules pc there.0 before there.1 at in
      let starts = all_of (IsStart body.ops) (successors body.ops pc) (facts.leads pc there.0 there.1).starts in
      let handlers = all_of (λ (guard : Guard). IsStart body.ops guard.target) body.handlers facts.handlers in
      to_all holds.after (successors body.ops pc) starts (sent_to_handlers before holds.after (filter (covers pc) body.handlers)) (handler_targets body.handlers pc) (to_handlers pc before holds.after body.handlers handlers) holds.met

  knows_closed : IsClosed knows body
  unfolding knows
  knows_closed pc start is = known_on pc start (table pc) refl is

  -- something is known of each operand
  pub known_operands : (pc : ℕ) (frame : VFrame) → table pc ≡ Some frame → AllByRecursion MayBeOperand frame.stack
  unfolding knows
  known_operands pc frame at =
      let reached = (right.only pc frame at).1 knows (met_known (record { to = 0; frame = start_frame world.files body }) (right.start facts.first)) knows_closed in
      all_known frame.stack (sym (ap (λ found. option_map_or (λ (frame : VFrame). are_known frame.stack) found false) at) ∙ reached)

-- in the bodies of a compiled set
pub body_operands : (setting : Setting) → IsCompiled setting → (body : Body) → Contains setting.world.bodies body → (pc : ℕ) (types : VFrame) → table_for setting body pc ≡ Some types → AllByRecursion MayBeOperand types.stack
body_operands setting compiled body among pc types at =
    let Right : Body → Type 0 = λ b. IsRight setting.world.files b (table_for setting b) in
    let right = All-contains Right setting.world.bodies body (All-from_recursion Right setting.world.bodies compiled.typed.types) among in
    known_operands setting.world body (table_for setting body) (compiled.typed.facts body among) right pc types at
