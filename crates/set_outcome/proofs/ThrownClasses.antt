-- What the typed machine throws in the instructions that run so far is of a class of the library.
use Rattle.std.proofs.Common.{◌≡◌, ℕ, ℤ, pos, ◌<◌, Bool, true, false, not, nat_lt, if◌then◌else◌, List, [], ◌∷◌, length, Option, Some, None, arith}
use Rattle.std.specs.Prelude.{◌+ℤ◌, unwrap_or}
use Rattle.std.specs.Int.{int_wrap, w32}
use Rattle.std.specs.Option.{option_map_or}
use Rattle.std.proofs.lemmas.Bool.{false≢true}
use Rattle.library.specs.Classes.{first_own}
use Rattle.library.specs.declared.natives.Native.{Native}
use Rattle.library.specs.declared.natives.Native.TheVariants as native
use Rattle.class_pool.specs.declared.descriptor.Kind.{Kind}
use Rattle.class_pool.specs.declared.types.MemberId.{MemberId}
use Rattle.cell_num.specs.Arithmetic.{applied}
use Rattle.cell_num.specs.Conditions.{is_met}
use Rattle.cell_num.specs.declared.arithmetic.BinOp.{BinOp}
use Rattle.account.specs.Account.{Event, Get, Need, Does, Stops, Stuck}
use Rattle.dialogue.specs.Natives.{after_byte, next_byte}
use Rattle.insn_form.specs.declared.RefCond.{RefCond}
use Rattle.insn_form.specs.declared.RefCond.TheVariants as ref_cond
use Rattle.body_form.specs.declared.body.Body.{Body}
use Rattle.body_form.specs.declared.op.FieldUse.{FieldUse}
use Rattle.body_form.specs.declared.op.MethodUse.{MethodUse}
use Rattle.body_form.specs.declared.op.Op.{Op}
use Rattle.body_form.specs.declared.op.Op.TheVariants as op
use Rattle.body_form.specs.declared.op.UnaryOp.{UnaryOp}
use Rattle.jvm_model.specs.Operands.{restacked, row_target}
use Rattle.jvm_model.specs.State.{Value, Whole, Null, Name}
use Rattle.typed_machine.specs.TypedCalls.{argument_count, arguments_of, call_static, kept_as, resumes, return_value, returns, runs_code, runs_native}
use Rattle.typed_machine.specs.TypedMoves.{Ending, Done, TypedMove, Uncaught, after_search, branches, caught, does_next}
use Rattle.typed_machine.specs.TypedState.{Frame, State, with_answers, with_objects, with_static}
use Rattle.typed_machine.specs.TypedStep.{with_local, are_same, choose, compute, convert, if_number, if_numbers, if_reference, increment, is_null, load, local_at, move_of, read_static, restack, result, store, write_static}
use Rattle.typed_machine.specs.TypedWorld.{Placed, World, body_among, native_of, new_object, object_cells, placed_at}
use Rattle.set_image.specs.LinkRefusals.{is_built}

-- nothing is uncaught but objects of the library
abbrev pub KnownEnding : Ending → Type 0
KnownEnding Done = Unit {0}
KnownEnding (Uncaught class) = class < first_own

abbrev pub Known : TypedMove → Type 0
Known (Does need events next) = Unit {0}
Known (Stops need events ending) = KnownEnding ending
Known Stuck = Unit {0}

on : (need : Need) (events : List Event) (state : State) (frame : Frame) (others : List Frame) (next : Option ℕ) (operands : List Value) → Known (does_next need events state frame others next operands)
on need events state frame others None operands = tt
on need events state frame others (Some next) operands = tt

searched : (placed : Option ℕ) (state : State) (class : ℕ) (found : Option (List Frame)) → class < first_own → Known (after_search placed state class found)
searched placed state class None lt = lt
searched placed state class (Some frames) lt = tt

branched : (taken : Bool) (state : State) (frame : Frame) (others : List Frame) (target : ℕ) (next : Option ℕ) (operands : List Value) → Known (branches taken state frame others target next operands)
branched true state frame others target next operands = tt
branched false state frame others target None operands = tt
branched false state frame others target (Some next) operands = tt

-- a move where a test holds, and none where it does not
where_holds : (test : Bool) (move : TypedMove) → Known move → Known (if test then move else Stuck)
where_holds true move is = is
where_holds false move is = tt

where_fails : (test : Bool) (move : TypedMove) → Known move → Known (if test then Stuck else move)
where_fails true move is = tt
where_fails false move is = is

-- a move where something is found, and none where it is not
where_found : {X : Type 0} (found : Option X) (move : X → TypedMove) → ((x : X) → Known (move x)) → Known (option_map_or move found Stuck)
where_found None move each = tt
where_found (Some x) move each = each x

module _ (world : World) (state : State) (frame : Frame) (others : List Frame) (next : Option ℕ) where
  loaded : (found : Option Value) → Known (load state frame others next found)
  loaded None = tt
  loaded (Some value) = on (record { placed = None; tick = false; frame = None }) [] state frame others next (value ∷ frame.operands)

  quiet : (from : State) (one : Frame) (operands : List Value) → Known (does_next (record { placed = None; tick = false; frame = None }) [] from one others next operands)
  quiet from one operands = on (record { placed = None; tick = false; frame = None }) [] from one others next operands

  ticks : (events : List Event) (from : State) (operands : List Value) → Known (does_next (record { placed = None; tick = true; frame = None }) events from frame others next operands)
  ticks events from operands = on (record { placed = None; tick = true; frame = None }) events from frame others next operands

  stored : (local : ℕ) (operands : List Value) → Known (store state frame others next local operands)
  stored local [] = tt
  stored local (value ∷ operands) = where_holds (nat_lt local (length frame.locals)) _ (quiet state (with_local frame local value) operands)

  increased : (local : ℕ) (amount : ℤ) (found : Option Value) → Known (increment state frame others next local amount found)
  increased local amount (Some (Whole number)) = quiet state (with_local frame local (Whole (int_wrap w32 (number +ℤ amount)))) frame.operands
  increased local amount (Some Null) = tt
  increased local amount (Some (Name name)) = tt
  increased local amount None = tt

  restacks : (found : Option (List Value)) → Known (restack state frame others next found)
  restacks None = tt
  restacks (Some operands) = quiet state frame operands

  has_result : (operands : List Value) (found : Option ℤ) → Known (result world state frame others next operands found)
  has_result operands None =
      searched (Some (object_cells world.files 4)) (with_objects state (new_object world.files 4 ∷ [])) 4 (caught world 4 (length state.objects) (frame ∷ others)) (omega arith)
  has_result operands (Some number) = quiet state frame (Whole number ∷ operands)

  computes : (operation : BinOp) (operands : List Value) → Known (compute world state frame others next operation operands)
  computes operation (Whole b ∷ Whole a ∷ operands) = has_result operands (applied operation a b)
  computes operation [] = tt
  computes operation (Null ∷ operands) = tt
  computes operation (Name name ∷ operands) = tt
  computes operation (Whole b ∷ []) = tt
  computes operation (Whole b ∷ Null ∷ operands) = tt
  computes operation (Whole b ∷ Name name ∷ operands) = tt

  converts : (operation : UnaryOp) (operands : List Value) → Known (convert state frame others next operation operands)
  converts operation (Whole number ∷ operands) = quiet state frame _
  converts operation [] = tt
  converts operation (Null ∷ operands) = tt
  converts operation (Name name ∷ operands) = tt

  tests_one : (test : ℤ → Bool) (target : ℕ) (operands : List Value) → Known (if_number state frame others next test target operands)
  tests_one test target (Whole number ∷ operands) = branched (test number) state frame others target next operands
  tests_one test target [] = tt
  tests_one test target (Null ∷ operands) = tt
  tests_one test target (Name name ∷ operands) = tt

  tests_two : (test : ℤ → ℤ → Bool) (target : ℕ) (operands : List Value) → Known (if_numbers state frame others next test target operands)
  tests_two test target (Whole b ∷ Whole a ∷ operands) = branched (test a b) state frame others target next operands
  tests_two test target [] = tt
  tests_two test target (Null ∷ operands) = tt
  tests_two test target (Name name ∷ operands) = tt
  tests_two test target (Whole b ∷ []) = tt
  tests_two test target (Whole b ∷ Null ∷ operands) = tt
  tests_two test target (Whole b ∷ Name name ∷ operands) = tt

  tests_reference : (cond : RefCond) (target : ℕ) (operands : List Value) → Known (if_reference state frame others next cond target operands)
  tests_reference ref_cond.Null target (a ∷ operands) = branched (is_null a) state frame others target next operands
  tests_reference ref_cond.NonNull target (a ∷ operands) = branched (not (is_null a)) state frame others target next operands
  tests_reference ref_cond.Eq target (b ∷ a ∷ operands) = branched (are_same a b) state frame others target next operands
  tests_reference ref_cond.Ne target (b ∷ a ∷ operands) = branched (not (are_same a b)) state frame others target next operands
  tests_reference ref_cond.Null target [] = tt
  tests_reference ref_cond.NonNull target [] = tt
  tests_reference ref_cond.Eq target [] = tt
  tests_reference ref_cond.Eq target (b ∷ []) = tt
  tests_reference ref_cond.Ne target [] = tt
  tests_reference ref_cond.Ne target (b ∷ []) = tt

  chooses : (target : ℤ → ℕ) (operands : List Value) → Known (choose state frame others target operands)
  chooses target (Whole key ∷ operands) = tt
  chooses target [] = tt
  chooses target (Null ∷ operands) = tt
  chooses target (Name name ∷ operands) = tt

  reads : (found : Option Value) → Known (read_static state frame others next found)
  reads None = tt
  reads (Some value) = quiet state frame (value ∷ frame.operands)

  writes : (used : FieldUse) (operands : List Value) → Known (write_static state frame others next used operands)
  writes used [] = tt
  writes used (value ∷ operands) = where_found (state.statics used.field) _ (λ old. quiet (with_static state used.field (kept_as used.kind value)) frame operands)

  -- ---- calls and returns

  resumed : (caller : Frame) (rest : List Frame) (operands : List Value) (body : Option Body) → Known (resumes world state caller rest operands body)
  resumed caller rest operands None = tt
  resumed caller rest operands (Some body) =
      where_found (placed_at body caller.pc) _ (λ (placed : Placed). on (record { placed = None; tick = false; frame = None }) [] state caller rest placed.next operands)

  leaves : (rest : List Frame) (values : List Value) → Known (returns world state rest values)
  leaves [] values = tt
  leaves (caller ∷ rest) values = resumed caller rest _ (body_among world.bodies caller.method)

  leaves_with : (result : Option Kind) (operands : List Value) → Known (return_value world state others result operands)
  leaves_with (Some result) (value ∷ operands) = leaves others (kept_as result value ∷ [])
  leaves_with (Some result) [] = tt
  leaves_with None operands = tt

  natives : (found : Native) (operands : List Value) → Known (runs_native state frame others next found operands)
  natives native.Construct [] = tt
  natives native.Construct (reference ∷ operands) = ticks [] state operands
  natives native.Write (Whole number ∷ operands) = ticks _ state operands
  natives native.Write [] = tt
  natives native.Write (Null ∷ operands) = tt
  natives native.Write (Name name ∷ operands) = tt
  natives native.Print (Whole number ∷ operands) = ticks _ state operands
  natives native.Print [] = tt
  natives native.Print (Null ∷ operands) = tt
  natives native.Print (Name name ∷ operands) = tt
  natives native.Read operands = ticks (Get ∷ []) (with_answers state (after_byte state.answers)) (Whole (next_byte state.answers) ∷ operands)

  codes : (method : MemberId) (body : Option Body) (values operands : List Value) → Known (runs_code world state frame others method body values operands)
  codes method None values operands = tt
  codes method (Some body) values operands = tt

  called : (found : Option Native) (method : MemberId) (values operands : List Value)
      → Known (option_map_or (λ found. runs_native state frame others next found frame.operands) found (runs_code world state frame others method (body_among world.bodies method) values operands))
  called None method values operands = codes method (body_among world.bodies method) values operands
  called (Some found) method values operands = natives found frame.operands

  calls : (used : MethodUse) → Known (call_static world state frame others next used)
  calls used =
      where_fails (nat_lt (length frame.operands) (argument_count used)) _ (called (native_of used.method) used.method (arguments_of used frame.operands) _)

  -- ---- the instructions that run so far

  pub built_known : (body : Body) (instruction : Op) → is_built instruction ≡ true → Known (move_of world state frame others body next instruction)
  built_known body op.Nop built = quiet state frame frame.operands
  built_known body (op.Const constant) built = quiet state frame _
  built_known body (op.Load kind local) built = loaded (local_at frame local)
  built_known body (op.Store kind local) built = stored local frame.operands
  built_known body (op.Inc local amount) built = increased local amount (local_at frame local)
  built_known body (op.Stack form) built = restacks (restacked form frame.operands)
  built_known body (op.Bin operation) built = computes operation frame.operands
  built_known body (op.Unary operation) built = converts operation frame.operands
  built_known body (op.If cond target) built = tests_one (λ number. is_met cond number (pos 0)) target frame.operands
  built_known body (op.IfCmp cond target) built = tests_two (is_met cond) target frame.operands
  built_known body (op.IfRef cond target) built = tests_reference cond target frame.operands
  built_known body (op.Goto target) built = tt
  built_known body (op.Switch form default rows) built = chooses (λ key. unwrap_or (row_target key rows) default) frame.operands
  built_known body (op.Return None) built = leaves others []
  built_known body (op.Return (Some kind)) built = leaves_with body.result frame.operands
  built_known body (op.GetStatic used) built = reads (state.statics used.field)
  built_known body (op.PutStatic used) built = writes used frame.operands
  built_known body (op.CallStatic used) built = calls used
  built_known body instruction built = absurd (false≢true built)
