-- Rules by which operands are taken and others pushed: plain ones, loads, stores, increments, moves on the stack and
-- returns.
use Rattle.std.proofs.Common.{◌≡◌, ℕ, zero, suc, Bool, true, false, ◌&&◌, ◌||◌, nat_lt, List, [], ◌∷◌, ◌++◌, length, drop, slice_get, slice_set, Option, Some, None, option_and_then, IfSome, if◌then◌else◌, refl, sym, subst}
use Rattle.std.specs.List.{AllByRecursion, AllZip}
use Rattle.std.proofs.lemmas.Bool.{and_parts, and_from}
use Rattle.std.proofs.lemmas.List.Elements.{All-from_recursion, recursion_from_All, All-append, All-drop, All-set, length_all_zip}
use Rattle.std.proofs.lemmas.Option.{cond_some}
use Rattle.class_file.specs.declared.record.ClassFile.{ClassFile}
use Rattle.insn_form.specs.declared.ValueKind.{ValueKind}
use Rattle.insn_form.specs.declared.ValueKind.TheVariants as value_kind
use Rattle.body_form.specs.declared.types.VFrame.{VFrame}
use Rattle.body_form.specs.declared.types.VType.{VType}
use Rattle.body_form.specs.declared.types.VType.TheVariants.{Top}
use Rattle.class_tree.specs.Tree.{Gathers}
use Rattle.class_tree.specs.MergeLaws.{IsKnown}
use Rattle.jvm_model.specs.TypesFrames.{is_int, may_be_operand, IsKnownFrame}
use Rattle.jvm_model.specs.TypesRules.{Change, changed, takes, plain, has_kind, load, store, increment}
use Rattle.type_order.proofs.families.Pairs.{IsLocalPair, IsOperandPair, ArePaired, AreRead, zip_drop, zip_append, zip_set, zip_get, pair_itself}
use Rattle.type_order.proofs.families.Tests.{IsDownward, Passes, int_downward, kind_downward, tests_pass, takes_lower}
use Rattle.type_order.proofs.families.Values.{AreFresh}

-- ---- rules

-- a rule that may hold in a frame gives a change there, and what it leads to is below a frame
pub record StepsTo (files : List ClassFile) (found : Option Change) (above lower : VFrame) : Type 0 where
  pub change : Change
  pub is : found ≡ Some change
  pub pairs : ArePaired files above (changed change lower)

-- A rule leads from types of the set to types of the set. Where it holds in a frame it holds in each frame below, and
-- leads below.
pub record IsRule (files : List ClassFile) (rule : VFrame → Option Change) : Type 0 where
  pub known : (frame : VFrame) (change : Change) → IsKnownFrame files frame → rule frame ≡ Some change → IsKnownFrame files (changed change frame)
  pub step : (upper lower : VFrame) (change : Change) → ArePaired files upper lower → rule upper ≡ Some change → StepsTo files (rule lower) (changed change upper) lower

-- ---- lists

module _ (P : VType → Type 0) where
  pub all_append : (xs ys : List VType) → AllByRecursion P xs → AllByRecursion P ys → AllByRecursion P (xs ++ ys)
  all_append xs ys first second = recursion_from_All P (xs ++ ys) (All-append P xs ys (All-from_recursion P xs first) (All-from_recursion P ys second))

  pub all_drop : (n : ℕ) (xs : List VType) → AllByRecursion P xs → AllByRecursion P (drop n xs)
  all_drop n xs all = recursion_from_All P (drop n xs) (All-drop P n xs (All-from_recursion P xs all))

  all_set : (xs : List VType) (i : ℕ) (x : VType) → P x → AllByRecursion P xs → AllByRecursion P (slice_set xs i x)
  all_set xs i x here all = recursion_from_All P (slice_set xs i x) (All-set P xs i x here (All-from_recursion P xs all))

  all_get : (xs : List VType) → AllByRecursion P xs → (i : ℕ) → IfSome (slice_get xs i) P
  all_get [] all i = tt
  all_get (x ∷ xs) all zero = all.0
  all_get (x ∷ xs) all (suc i) = all_get xs all.1 i

-- ---- tests before a rule

pub where_true : {X : Type 0} (b : Bool) (found : Option X) (x : X) → (if b then found else None) ≡ Some x → (b ≡ true) × (found ≡ Some x)
where_true true found x e = (refl, e)
where_true false found x e = cc

pub where_false : {X : Type 0} (b : Bool) (found : Option X) (x : X) → (if b then None else found) ≡ Some x → (b ≡ false) × (found ≡ Some x)
where_false false found x e = (refl, e)
where_false true found x e = cc

module _ (files : List ClassFile) where
  -- where the rule is tried after a test that passes
  pub step_where : (b : Bool) (found : Option Change) (above lower : VFrame) → b ≡ true → StepsTo files found above lower → StepsTo files (if b then found else None) above lower
  step_where b found above lower e step = subst (λ x. StepsTo files (if x then found else None) above lower) (sym e) step

  pub step_unless : (b : Bool) (found : Option Change) (above lower : VFrame) → b ≡ false → StepsTo files found above lower → StepsTo files (if b then None else found) above lower
  step_unless b found above lower e step = subst (λ x. StepsTo files (if x then None else found) above lower) (sym e) step

  -- ---- operands that are taken and pushed

  abbrev pub moved : ℕ → List VType → VFrame → Change
  moved pops pushes frame = record { pops = pops; renames = None; stores = None; pushes = pushes; pending = frame.pending }

  pub moved_known : (pops : ℕ) (pushes : List VType) (frame : VFrame) → AllByRecursion (IsKnown files) pushes → IsKnownFrame files frame → IsKnownFrame files (changed (moved pops pushes frame) frame)
  moved_known pops pushes frame pushed known =
      record { locals = known.locals; stack = all_append (IsKnown files) pushes (drop pops frame.stack) pushed (all_drop (IsKnown files) pops frame.stack known.stack) }

  pub moved_step : (upper lower : VFrame) → ArePaired files upper lower → (pops : ℕ) (ps qs : List VType) → AllZip (IsOperandPair files lower.pending) ps qs
      → StepsTo files (Some (moved pops qs lower)) (changed (moved pops ps upper) upper) lower
  moved_step upper lower pairs pops ps qs pushed =
      let R : VType → VType → Type 0 = IsOperandPair files lower.pending in
      record {
        change = moved pops qs lower;
        is = refl;
        pairs = record {
          locals = pairs.locals;
          stack = zip_append R ps qs (drop pops upper.stack) (drop pops lower.stack) pushed (zip_drop R pops upper.stack lower.stack pairs.stack);
          pending = pairs.pending;
        };
      }

  -- ---- plain rules

  pub plain_known : (frame : VFrame) (tests : List (VType → Bool)) (pushes : List VType) (change : Change) → IsKnownFrame files frame
      → (takes tests frame.stack ≡ true → AllByRecursion (IsKnown files) pushes) → plain frame tests pushes ≡ Some change → IsKnownFrame files (changed change frame)
  plain_known frame tests pushes change known pushed e =
      let is = cond_some (takes tests frame.stack) (moved (length tests) pushes frame) change e in
      subst (λ c. IsKnownFrame files (changed c frame)) is.1 (moved_known (length tests) pushes frame (pushed is.0) known)

  pub plain_step : (upper lower : VFrame) → ArePaired files upper lower → (tests others : List (VType → Bool)) (ps qs : List VType) (change : Change)
      → AllZip (Passes files lower.pending) tests others → (takes tests upper.stack ≡ true → AllZip (IsOperandPair files lower.pending) ps qs)
      → plain upper tests ps ≡ Some change → StepsTo files (plain lower others qs) (changed change upper) lower
  plain_step upper lower pairs tests others ps qs change pass pushed e =
      let is = cond_some (takes tests upper.stack) (moved (length tests) ps upper) change e in
      let taken = takes_lower files lower.pending tests others upper.stack lower.stack pass pairs.stack is.0 in
      let same : length tests ≡ length others = length_all_zip (Passes files lower.pending) tests others pass in
      subst (λ c. StepsTo files (plain lower others qs) (changed c upper) lower) is.1
      (step_where (takes others lower.stack) (Some (moved (length others) qs lower)) (changed (moved (length tests) ps upper) upper) lower taken
      (subst (λ n. StepsTo files (Some (moved n qs lower)) (changed (moved (length tests) ps upper) upper) lower) same (moved_step upper lower pairs (length tests) ps qs (pushed is.0))))

  all_known : (types : List VType) → AreFresh files types → AllByRecursion (IsKnown files) types
  all_known [] fresh = tt
  all_known (type ∷ types) fresh = (fresh.0.known, all_known types fresh.1)

  module _ (gathers : Gathers files None) where
    all_pairs : (pending : Bool) (types : List VType) → AreFresh files types → AllZip (IsOperandPair files pending) types types
    all_pairs pending [] fresh = tt
    all_pairs pending (type ∷ types) fresh = (pair_itself files gathers may_be_operand pending type fresh.0.known fresh.0.allows fresh.0.lacks, all_pairs pending types fresh.1)

    -- by tests that may depend on the frame
    pub tested_rule : (tests : VFrame → List (VType → Bool)) (pushes : List VType)
        → ((upper lower : VFrame) → ArePaired files upper lower → AllZip (Passes files lower.pending) (tests upper) (tests lower)) → AreFresh files pushes
        → IsRule files (λ frame. plain frame (tests frame) pushes)
    tested_rule tests pushes pass fresh =
        record {
          known = λ frame change known e. plain_known frame (tests frame) pushes change known (λ taken. all_known pushes fresh) e;
          step = λ upper lower change pairs e.
              plain_step upper lower pairs (tests upper) (tests lower) pushes pushes change (pass upper lower pairs) (λ taken. all_pairs lower.pending pushes fresh) e;
        }

    pub plain_rule : (tests : List (VType → Bool)) (pushes : List VType) → AllByRecursion (IsDownward files) tests → AreFresh files pushes → IsRule files (λ frame. plain frame tests pushes)
    plain_rule tests pushes downward fresh = tested_rule (λ frame. tests) pushes (λ upper lower pairs. tests_pass files lower.pending tests downward) fresh

  -- a rule that is known where something is
  pub rule_of : {X : Type 0} (rule : X → VFrame → Option Change) (found : Option X) → ((x : X) → found ≡ Some x → IsRule files (rule x)) → IsRule files (λ frame. option_and_then (λ x. rule x frame) found)
  rule_of rule None is = record { known = λ frame change known e. cc; step = λ upper lower change pairs e. cc }
  rule_of rule (Some x) is = is x refl

  -- ---- returns

  not_pending : (upper lower : Bool) → (upper || lower) ≡ upper → upper ≡ false → lower ≡ false
  not_pending true lower above e = cc
  not_pending false lower above e = above

  -- a rule that holds only where a constructor has called another one
  pub rule_unless_pending : (rule : VFrame → Option Change) → IsRule files rule → IsRule files (λ frame. if frame.pending then None else rule frame)
  rule_unless_pending rule is =
      record {
        known = λ frame change known e. is.known frame change known (where_false frame.pending (rule frame) change e).1;
        step = λ upper lower change pairs e.
            let holds = where_false upper.pending (rule upper) change e in
            step_unless lower.pending (rule lower) (changed change upper) lower (not_pending upper.pending lower.pending pairs.pending holds.0) (is.step upper lower change pairs holds.1);
      }

  -- ---- loads

  kind_operand : (kind : ValueKind) (type : VType) → has_kind kind type ≡ true → may_be_operand type ≡ true
  kind_operand value_kind.Int Top e = cc
  kind_operand value_kind.Ref Top e = cc
  kind_operand kind type e = refl

  load_known : (kind : ValueKind) (frame : VFrame) (found : Option VType) (change : Change) → IsKnownFrame files frame → IfSome found (IsKnown files)
      → load frame kind found ≡ Some change → IsKnownFrame files (changed change frame)
  load_known kind frame None change known read e = cc
  load_known kind frame (Some type) change known read e =
      let is = where_true (has_kind kind type) (plain frame [] (type ∷ [])) change e in
      plain_known frame [] (type ∷ []) change known (λ taken. (read, tt)) is.1

  load_step : (kind : ValueKind) (upper lower : VFrame) → ArePaired files upper lower → (found other : Option VType) → AreRead (IsLocalPair files lower.pending) found other → (change : Change)
      → load upper kind found ≡ Some change → StepsTo files (load lower kind other) (changed change upper) lower
  load_step kind upper lower pairs None other read change e = cc
  load_step kind upper lower pairs (Some u) None read change e = absurd read
  load_step kind upper lower pairs (Some u) (Some l) read change e =
      let is = where_true (has_kind kind u) (plain upper [] (u ∷ [])) change e in
      let pair : IsOperandPair files lower.pending u l = record { ordered = read.ordered; allows = kind_operand kind u is.0; lacks = read.lacks } in
      step_where (has_kind kind l) (plain lower [] (l ∷ [])) (changed change upper) lower (kind_downward files kind u l read.ordered is.0)
      (plain_step upper lower pairs [] [] (u ∷ []) (l ∷ []) change tt (λ taken. (pair, tt)) is.1)

  pub load_rule : (kind : ValueKind) (local : ℕ) → IsRule files (λ frame. load frame kind (slice_get frame.locals local))
  load_rule kind local =
      record {
        known = λ frame change known e. load_known kind frame (slice_get frame.locals local) change known (all_get (IsKnown files) frame.locals known.locals local) e;
        step = λ upper lower change pairs e.
            load_step kind upper lower pairs (slice_get upper.locals local) (slice_get lower.locals local) (zip_get (IsLocalPair files lower.pending) upper.locals lower.locals pairs.locals local) change e;
      }

  -- ---- increments

  increment_known : (frame : VFrame) (found : Option VType) (change : Change) → IsKnownFrame files frame → increment frame found ≡ Some change → IsKnownFrame files (changed change frame)
  increment_known frame None change known e = cc
  increment_known frame (Some type) change known e = plain_known frame [] [] change known (λ taken. tt) (where_true (is_int type) (plain frame [] []) change e).1

  increment_step : (upper lower : VFrame) → ArePaired files upper lower → (found other : Option VType) → AreRead (IsLocalPair files lower.pending) found other → (change : Change)
      → increment upper found ≡ Some change → StepsTo files (increment lower other) (changed change upper) lower
  increment_step upper lower pairs None other read change e = cc
  increment_step upper lower pairs (Some u) None read change e = absurd read
  increment_step upper lower pairs (Some u) (Some l) read change e =
      let is = where_true (is_int u) (plain upper [] []) change e in
      step_where (is_int l) (plain lower [] []) (changed change upper) lower (int_downward files u l read.ordered is.0) (plain_step upper lower pairs [] [] [] [] change tt (λ taken. tt) is.1)

  pub increment_rule : (local : ℕ) → IsRule files (λ frame. increment frame (slice_get frame.locals local))
  increment_rule local =
      record {
        known = λ frame change known e. increment_known frame (slice_get frame.locals local) change known e;
        step = λ upper lower change pairs e.
            increment_step upper lower pairs (slice_get upper.locals local) (slice_get lower.locals local) (zip_get (IsLocalPair files lower.pending) upper.locals lower.locals pairs.locals local) change e;
      }

  -- ---- stores

  abbrev put : ℕ → VType → VFrame → Change
  put local type frame = record { pops = 1; renames = None; stores = Some (local, type); pushes = []; pending = frame.pending }

  abbrev may_put : ValueKind → ℕ → VType → VFrame → Bool
  may_put kind local type frame = has_kind kind type && nat_lt local (length frame.locals)

  store_known : (kind : ValueKind) (local : ℕ) (frame : VFrame) (stack : List VType) (change : Change) → IsKnownFrame files frame → AllByRecursion (IsKnown files) stack
      → store frame kind local stack ≡ Some change → IsKnownFrame files (changed change frame)
  store_known kind local frame [] change known all e = cc
  store_known kind local frame (type ∷ stack) change known all e =
      let is = cond_some (may_put kind local type frame) (put local type frame) change e in
      subst (λ c. IsKnownFrame files (changed c frame)) is.1
      (record { locals = all_set (IsKnown files) frame.locals local type all.0 known.locals; stack = all_drop (IsKnown files) 1 frame.stack known.stack })

  put_step : (local : ℕ) (upper lower : VFrame) → ArePaired files upper lower → (u l : VType) → IsOperandPair files lower.pending u l
      → StepsTo files (Some (put local l lower)) (changed (put local u upper) upper) lower
  put_step local upper lower pairs u l pair =
      let here : IsLocalPair files lower.pending u l = record { ordered = pair.ordered; allows = refl; lacks = pair.lacks } in
      record {
        change = put local l lower;
        is = refl;
        pairs = record {
          locals = zip_set (IsLocalPair files lower.pending) local u l here upper.locals lower.locals pairs.locals;
          stack = zip_drop (IsOperandPair files lower.pending) 1 upper.stack lower.stack pairs.stack;
          pending = pairs.pending;
        };
      }

  store_step : (kind : ValueKind) (local : ℕ) (upper lower : VFrame) → ArePaired files upper lower → (us ls : List VType) → AllZip (IsOperandPair files lower.pending) us ls → (change : Change)
      → store upper kind local us ≡ Some change → StepsTo files (store lower kind local ls) (changed change upper) lower
  store_step kind local upper lower pairs [] ls zip change e = cc
  store_step kind local upper lower pairs (u ∷ us) [] zip change e = absurd zip
  store_step kind local upper lower pairs (u ∷ us) (l ∷ ls) zip change e =
      let is = cond_some (may_put kind local u upper) (put local u upper) change e in
      let passes = and_parts (has_kind kind u) (nat_lt local (length upper.locals)) is.0 in
      let same : length upper.locals ≡ length lower.locals = length_all_zip (IsLocalPair files lower.pending) upper.locals lower.locals pairs.locals in
      let may : may_put kind local l lower ≡ true =
      and_from (has_kind kind l) (nat_lt local (length lower.locals)) (kind_downward files kind u l zip.0.ordered passes.0) (subst (λ n. nat_lt local n ≡ true) same passes.1) in
      subst (λ c. StepsTo files (store lower kind local (l ∷ ls)) (changed c upper) lower) is.1
      (step_where (may_put kind local l lower) (Some (put local l lower)) (changed (put local u upper) upper) lower may (put_step local upper lower pairs u l zip.0))

  pub store_rule : (kind : ValueKind) (local : ℕ) → IsRule files (λ frame. store frame kind local frame.stack)
  store_rule kind local =
      record {
        known = λ frame change known e. store_known kind local frame frame.stack change known known.stack e;
        step = λ upper lower change pairs e. store_step kind local upper lower pairs upper.stack lower.stack pairs.stack change e;
      }
