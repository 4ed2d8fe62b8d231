-- A frame at the start of a method fits its types: so its locals are those of the body, and it has no operands.
use Rattle.std.proofs.Common.{◌≡◌, ◌≤◌, ◌&&◌, not, nat_le, List, [], map, length, replicate, Some, None, ap, ◌∙◌, length-append, arith}
use Rattle.std.specs.Prelude.{◌-◌}
use Rattle.std.proofs.lemmas.Bool.{and_parts}
use Rattle.std.proofs.lemmas.Bool.Decides.{nat_tests}
use Rattle.std.proofs.lemmas.List.{length-map}
use Rattle.std.proofs.lemmas.List.Elements.{All-from_recursion, All-contains}
use Rattle.class_pool.specs.declared.types.MemberId.{MemberId}
use Rattle.body_form.specs.declared.body.Body.{Body}
use Rattle.body_form.specs.Flow.{goes_on as leads_on}
use Rattle.jvm_model.specs.State.{Value}
use Rattle.jvm_model.specs.TypesRight.{IsRight}
use Rattle.jvm_model.specs.TypesRules.{is_within, is_last}
use Rattle.jvm_model.specs.WidthsShapes.{shapes_at}
use Rattle.type_rounds.proofs.tables.Starts.{start_has_op}
use Rattle.type_safety.specs.Fitting.{LocalFits, YoungestFits}
use Rattle.typed_machine.specs.TypedCalls.{frame_for}
use Rattle.typed_machine.specs.TypedState.{Object}
use Rattle.typed_machine.specs.TypedWorld.{body_among}
use Rattle.match_states.specs.Setting.{Setting, table_for, widths_for}
use Rattle.match_code.proofs.MatchedCode.{IsFound, found_body}
use Rattle.match_views.proofs.MatchedLists.{each_count}
use Rattle.follow_numbers.specs.WideCode.{IsWideCode}
use Rattle.follow_numbers.proofs.KnownOperands.{body_operands}
use Rattle.follow_numbers.proofs.WideOperands.{AreShaped, frame_shapes}
use Rattle.follow_operands.proofs.LocalRules.{where_true}

module _ {setting : Setting} (code : IsWideCode setting) (method : MemberId) (body : Body) (found : body_among setting.world.bodies method ≡ Some body) (objects : List Object) (values : List Value)
    (fits : YoungestFits setting.world setting.tables objects (frame_for method body values)) where
  callee : IsFound setting.world.bodies method body
  callee = found_body setting.world.bodies method body found

  known_start : table_for setting body 0 ≡ Some fits.types
  known_start = ap (λ (id : MemberId). setting.tables id 0) callee.method ∙ fits.known

  locals_counted : length fits.types.locals ≤ body.max_locals
  locals_counted =
      let Right : Body → Type 0 = λ b. IsRight setting.world.files b (table_for setting b) in
      let right = All-contains Right setting.world.bodies body (All-from_recursion Right setting.world.bodies code.compiled.typed.types) callee.of_set in
      let there = start_has_op body.ops 0 (code.compiled.typed.facts body callee.of_set).first in
      let holds = right.rules 0 there.0 fits.types there.1 known_start in
      let parts = where_true (is_within body fits.types && not (leads_on there.0 && is_last body.ops 0)) _ holds.after holds.rule in
      let within = (and_parts (is_within body fits.types) (not (leads_on there.0 && is_last body.ops 0)) parts.0).0 in
      let test = (and_parts (nat_le (length fits.types.stack) body.max_stack) (nat_le (length fits.types.locals) body.max_locals) within).1 in
      grind (arith, nat_tests, test)

  -- what is handed on has room
  pub values_few : length values ≤ body.max_locals
  values_few =
      let set = map (λ (value : Value). Some value) values in
      let count = each_count (LocalFits setting.world objects fits.body) (frame_for method body values).locals fits.types.locals fits.has.locals in
      let both = length-append set (replicate (body.max_locals - length values) None) in
      let long = length-map values (λ (value : Value). Some value) in
      let most = locals_counted in
      omega (arith, count, both, long, most)

  pub none_shaped : AreShaped (shapes_at (widths_for setting body) (table_for setting body) 0) []
  none_shaped =
      frame_shapes setting.world objects fits.body setting body (code.wide body callee.of_set) 0 fits.types known_start
      (body_operands setting code.compiled body callee.of_set 0 fits.types known_start) [] fits.has.operands
