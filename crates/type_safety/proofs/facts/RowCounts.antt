-- A switch that is read has at most as many rows as its code has bytes.
use Rattle.std.proofs.Common.{ℕ, ℤ, pos, ◌+◌, ◌-◌, ◌≤◌, Bool, true, false, cond, List, [], ◌∷◌, length, drop, take, Option, Some, None, Result, Ok, Err, subst, arith, length-drop}
use Rattle.std.specs.Prelude.{◌==◌, ◌||◌, nat_le, nat_lt}
use Rattle.std.specs.List.{AllByRecursion}
use Rattle.std.specs.Int.{w64, cast_unsigned}
use Rattle.std.specs.Int.Signed.{lt_z}
use Rattle.byte_read.specs.Reading.{◌>>=◌, slice_at as bytes_at}
use Rattle.cell_num.specs.declared.arithmetic.BinOp.{BinOp}
use Rattle.class_code.specs.declared.insn.Insn.{Insn}
use Rattle.class_code.specs.declared.insn.Insn.TheVariants.{Switch}
use Rattle.class_code.specs.Operands.{u1_at, u2_at, i1_at, i2_at, i4_at, target_at, far_target_at}
use Rattle.class_code.specs.Table.{Prefix, is_within, constant, load, array_load, store, array_store, operation, binary, increment, math, conversion, jump, branch, are_zero, padding_at, table_rows, span, tableswitch, lookup_rows, lookupswitch, control, call_interface, member_insn, member, array_kind, new_array, class_insn, object, wide_increment, widened, wide, multi_array, goto_w, extended, by_opcode, insn_at}
use Rattle.class_code.specs.Code.{Insns, AreIn}
use Rattle.class_code.proofs.Shorter.{insn_at-shorter}
use Rattle.type_safety.proofs.facts.RowReads.{Sure, sure-then, either, LeavesFewer, i4_fewer, far_fewer, RowsOf, table_rows_few, lookup_rows_few}

-- a switch has at most so many rows
abbrev pub HasRowsWithin : ℕ → Insn → Type 0
HasRowsWithin most (Switch form default rows) = length rows ≤ most
HasRowsWithin most _ = Unit {0}

-- ---- instructions

module _ (most : ℕ) where
  abbrev Few : {E : Type 0} → Result (Insn × List ℕ) E → Type 0
  Few read = Sure (λ x. HasRowsWithin most x.0) read

  -- at most so many bytes are left
  abbrev LeavesMost : {A : Type 0} → A × List ℕ → Type 0
  LeavesMost x = length x.1 ≤ most

  few-then : {E A : Type 0} (read : Result A E) (f : A → Result (Insn × List ℕ) E) → ((x : A) → Few (f x)) → Few (read >>= f)
  few-then (Ok x) f k = k x
  few-then (Err why) f k = tt

  few-if : {E : Type 0} (b : Bool) (x y : Result (Insn × List ℕ) E) → Few x → Few y → Few (cond b x y)
  few-if true x y h k = h
  few-if false x y h k = k

  insn-if : (b : Bool) (x y : Insn) → HasRowsWithin most x → HasRowsWithin most y → HasRowsWithin most (cond b x y)
  insn-if true x y h k = h
  insn-if false x y h k = k

  few-constant : (opcode : ℕ) (bytes : List ℕ) → Few (constant opcode bytes)
  unfolding constant
  few-constant opcode bytes =
      few-if (opcode == 0) _ _ tt (few-if (opcode == 1) _ _ tt (few-if (is_within 2 8 opcode) _ _ tt (few-if (opcode == 16) _ _ (few-then (i1_at bytes) _ (λ x. tt))
      (few-if (opcode == 17) _ _ (few-then (i2_at bytes) _ (λ x. tt)) (few-if (opcode == 18) _ _ (few-then (u1_at bytes) _ (λ x. tt)) (few-if (opcode == 19) _ _ (few-then (u2_at bytes) _ (λ x. tt)) tt))))))

  few-load : (opcode : ℕ) (bytes : List ℕ) → Few (load opcode bytes)
  unfolding load
  few-load opcode bytes = few-if (opcode == 21) _ _ (few-then (u1_at bytes) _ (λ x. tt)) (few-if (opcode == 25) _ _ (few-then (u1_at bytes) _ (λ x. tt)) (few-if (is_within 26 29 opcode) _ _ tt (few-if (is_within 42 45 opcode) _ _ tt tt)))

  few-store : (opcode : ℕ) (bytes : List ℕ) → Few (store opcode bytes)
  unfolding store
  few-store opcode bytes = few-if (opcode == 54) _ _ (few-then (u1_at bytes) _ (λ x. tt)) (few-if (opcode == 58) _ _ (few-then (u1_at bytes) _ (λ x. tt)) (few-if (is_within 59 62 opcode) _ _ tt (few-if (is_within 75 78 opcode) _ _ tt tt)))

  few-array_load : (opcode : ℕ) (bytes : List ℕ) → Few (array_load opcode bytes)
  unfolding array_load
  few-array_load opcode bytes = few-if (opcode == 46) _ _ tt (few-if (opcode == 50) _ _ tt (few-if (opcode == 51) _ _ tt (few-if (opcode == 52) _ _ tt (few-if (opcode == 53) _ _ tt tt))))

  few-array_store : (opcode : ℕ) (bytes : List ℕ) → Few (array_store opcode bytes)
  unfolding array_store
  few-array_store opcode bytes = few-if (opcode == 79) _ _ tt (few-if (opcode == 83) _ _ tt (few-if (opcode == 84) _ _ tt (few-if (opcode == 85) _ _ tt (few-if (opcode == 86) _ _ tt tt))))

  few-binary : (opcode : ℕ) (bytes : List ℕ) (operation : Option BinOp) → Few (binary opcode bytes operation)
  few-binary opcode bytes None = tt
  few-binary opcode bytes (Some operation) = tt

  few-increment : (bytes : List ℕ) → Few (increment bytes)
  unfolding increment
  few-increment bytes = few-then (u1_at bytes) _ (λ local. few-then (i1_at local.1) _ (λ x. tt))

  few-math : (opcode : ℕ) (bytes : List ℕ) → Few (math opcode bytes)
  unfolding math
  few-math opcode bytes = few-if (opcode == 116) _ _ tt (few-if (opcode == 132) _ _ (few-increment bytes) (few-binary opcode bytes (operation opcode)))

  few-conversion : (opcode : ℕ) (bytes : List ℕ) → Few (conversion opcode bytes)
  unfolding conversion
  few-conversion opcode bytes = few-if (opcode == 145) _ _ tt (few-if (opcode == 146) _ _ tt (few-if (opcode == 147) _ _ tt tt))

  few-jump : (opcode target : ℕ) → HasRowsWithin most (jump opcode target)
  unfolding jump
  few-jump opcode target = insn-if (is_within 153 158 opcode) _ _ tt (insn-if (is_within 159 164 opcode) _ _ tt tt)

  few-branch : (pc opcode : ℕ) (bytes : List ℕ) → Few (branch pc opcode bytes)
  unfolding branch
  few-branch pc opcode bytes = few-then (target_at pc bytes) _ (λ x. few-jump opcode x.0)

  -- ---- switches

  abbrev AtMost : {E : Type 0} → Result (List ℕ) E → Type 0
  AtMost (Ok rest) = length rest ≤ most
  AtMost (Err why) = Unit {0}

  after-padding : {E : Type 0} (read : Result (List ℕ) E) (f : List ℕ → Result (Insn × List ℕ) E) → AtMost read → ((rest : List ℕ) → length rest ≤ most → Few (f rest)) → Few (read >>= f)
  after-padding (Ok rest) f h k = k rest h
  after-padding (Err why) f h k = tt

  padding_left : {E : Type 0} (missed why : E) (size : ℕ) (bytes : List ℕ) → length bytes ≤ most → AtMost (bytes_at missed size bytes >>= λ padding. cond (are_zero padding.0) (Ok padding.1) (Err why))
  unfolding bytes_at
  padding_left missed why size bytes le = by_room (take size bytes, drop size bytes) (omega (arith, le, length-drop size bytes)) (nat_lt (length bytes) size)
    where
      by_zeros : (rest : List ℕ) → length rest ≤ most → (zeros : Bool) → AtMost (cond zeros (Ok rest) (Err why))
      by_zeros rest le true = le
      by_zeros rest le false = tt

      by_room : (pair : List ℕ × List ℕ) → length pair.1 ≤ most → (short : Bool) → AtMost (cond short (Err missed) (Ok pair) >>= λ padding. cond (are_zero padding.0) (Ok padding.1) (Err why))
      by_room pair le true = tt
      by_room pair le false = by_zeros pair.1 le (are_zero pair.0)

  padding_most : (pc : ℕ) (bytes : List ℕ) → length bytes ≤ most → AtMost (padding_at pc bytes)
  unfolding padding_at
  padding_most pc bytes le = padding_left _ _ _ bytes le

  -- one more operand of four bytes
  i4-then : (bytes : List ℕ) (f : ℤ × List ℕ → Prefix) → length bytes ≤ most → ((x : ℤ × List ℕ) → length x.1 ≤ most → Few (f x)) → Few (i4_at bytes >>= f)
  i4-then bytes f le k = sure-then (LeavesFewer bytes) (λ x. HasRowsWithin most x.0) (i4_at bytes) f (i4_fewer bytes) (λ x fewer. k x (omega (arith, le, fewer)))

  far-then : (pc : ℕ) (bytes : List ℕ) (f : ℕ × List ℕ → Prefix) → length bytes ≤ most → ((x : ℕ × List ℕ) → length x.1 ≤ most → Few (f x)) → Few (far_target_at pc bytes >>= f)
  far-then pc bytes f le k = sure-then (LeavesFewer bytes) (λ x. HasRowsWithin most x.0) (far_target_at pc bytes) f (far_fewer pc bytes) (λ x fewer. k x (omega (arith, le, fewer)))

  few-tableswitch : (pc : ℕ) (bytes : List ℕ) → length bytes ≤ most → Few (tableswitch pc bytes)
  unfolding tableswitch
  few-tableswitch pc bytes le =
      after-padding (padding_at pc bytes) _ (padding_most pc bytes le) (λ padded le0.
      far-then pc padded _ le0 (λ default le1. i4-then default.1 _ le1 (λ low le2. i4-then low.1 _ le2 (λ high le3.
      sure-then (RowsOf high.1) (λ x. HasRowsWithin most x.0) (cond (lt_z high.0 low.0) (Err _) (table_rows pc low.0 0 (span low.0 high.0) high.1)) _
      (either (RowsOf high.1) (lt_z high.0 low.0) (Err _) (table_rows pc low.0 0 (span low.0 high.0) high.1) tt (table_rows_few pc low.0 0 (span low.0 high.0) high.1))
      (λ rows few. omega (arith, few, le3))))))

  few-lookupswitch : (pc : ℕ) (bytes : List ℕ) → length bytes ≤ most → Few (lookupswitch pc bytes)
  unfolding lookupswitch
  few-lookupswitch pc bytes le =
      after-padding (padding_at pc bytes) _ (padding_most pc bytes le) (λ padded le0.
      far-then pc padded _ le0 (λ default le1. i4-then default.1 _ le1 (λ count le2.
      sure-then (RowsOf count.1) (λ x. HasRowsWithin most x.0) (cond (lt_z count.0 (pos 0)) (Err _) (lookup_rows pc None (cast_unsigned w64 count.0) count.1)) _
      (either (RowsOf count.1) (lt_z count.0 (pos 0)) (Err _) (lookup_rows pc None (cast_unsigned w64 count.0) count.1) tt (lookup_rows_few pc None (cast_unsigned w64 count.0) count.1))
      (λ rows few. omega (arith, few, le2)))))

  few-control : (pc opcode : ℕ) (bytes : List ℕ) → length bytes ≤ most → Few (control pc opcode bytes)
  unfolding control
  few-control pc opcode bytes le =
      few-if (opcode == 167) _ _ (few-then (target_at pc bytes) _ (λ x. tt))
      (few-if (opcode == 170) _ _ (few-tableswitch pc bytes le) (few-if (opcode == 171) _ _ (few-lookupswitch pc bytes le)
      (few-if (opcode == 172) _ _ tt (few-if (opcode == 176) _ _ tt (few-if (opcode == 177) _ _ tt tt)))))

  -- ---- the other families

  few-call_interface : (bytes : List ℕ) → Few (call_interface bytes)
  unfolding call_interface
  few-call_interface bytes = few-then (u2_at bytes) _ (λ method. few-then (u1_at method.1) _ (λ count. few-then (u1_at count.1) _ (λ zero_byte. few-if (zero_byte.0 == 0) _ (Err _) tt tt)))

  few-member_insn : (opcode index : ℕ) → HasRowsWithin most (member_insn opcode index)
  unfolding member_insn
  few-member_insn opcode index =
      insn-if (opcode == 178) _ _ tt (insn-if (opcode == 179) _ _ tt (insn-if (opcode == 180) _ _ tt (insn-if (opcode == 181) _ _ tt (insn-if (opcode == 182) _ _ tt (insn-if (opcode == 183) _ _ tt tt)))))

  few-member : (opcode : ℕ) (bytes : List ℕ) → Few (member opcode bytes)
  unfolding member
  few-member opcode bytes = few-if (opcode == 185) _ _ (few-call_interface bytes) (few-if (opcode == 186) _ _ tt (few-then (u2_at bytes) _ (λ x. few-member_insn opcode x.0)))

  few-new_array : (bytes : List ℕ) → Few (new_array bytes)
  unfolding new_array
  few-new_array bytes = few-then (u1_at bytes) _ (λ code. few-then (array_kind code.0) _ (λ kind. tt))

  few-class_insn : (opcode index : ℕ) → HasRowsWithin most (class_insn opcode index)
  unfolding class_insn
  few-class_insn opcode index = insn-if (opcode == 187) _ _ tt (insn-if (opcode == 189) _ _ tt (insn-if (opcode == 192) _ _ tt tt))

  few-object : (opcode : ℕ) (bytes : List ℕ) → Few (object opcode bytes)
  unfolding object
  few-object opcode bytes =
      few-if (opcode == 188) _ _ (few-new_array bytes) (few-if (opcode == 190) _ _ tt (few-if (opcode == 191) _ _ tt (few-if (is_within 194 195 opcode) _ _ tt (few-then (u2_at bytes) _ (λ x. few-class_insn opcode x.0)))))

  few-wide_increment : (bytes : List ℕ) → Few (wide_increment bytes)
  unfolding wide_increment
  few-wide_increment bytes = few-then (u2_at bytes) _ (λ local. few-then (i2_at local.1) _ (λ x. tt))

  few-widened : (opcode : ℕ) (bytes : List ℕ) → Few (widened opcode bytes)
  unfolding widened
  few-widened opcode bytes =
      few-if (opcode == 21) _ _ (few-then (u2_at bytes) _ (λ x. tt)) (few-if (opcode == 25) _ _ (few-then (u2_at bytes) _ (λ x. tt)) (few-if (opcode == 54) _ _ (few-then (u2_at bytes) _ (λ x. tt))
      (few-if (opcode == 58) _ _ (few-then (u2_at bytes) _ (λ x. tt)) (few-if (opcode == 132) _ _ (few-wide_increment bytes) (few-if (is_within 22 24 opcode || is_within 55 57 opcode || opcode == 169) _ _ tt tt)))))

  few-wide : (bytes : List ℕ) → Few (wide bytes)
  unfolding wide
  few-wide bytes = few-then (u1_at bytes) _ (λ x. few-widened x.0 x.1)

  few-multi_array : (bytes : List ℕ) → Few (multi_array bytes)
  unfolding multi_array
  few-multi_array bytes = few-then (u2_at bytes) _ (λ class. few-then (u1_at class.1) _ (λ x. tt))

  few-goto_w : (pc : ℕ) (bytes : List ℕ) → Few (goto_w pc bytes)
  unfolding goto_w
  few-goto_w pc bytes = few-then (far_target_at pc bytes) _ (λ x. tt)

  few-extended : (pc opcode : ℕ) (bytes : List ℕ) → Few (extended pc opcode bytes)
  unfolding extended
  few-extended pc opcode bytes =
      few-if (opcode == 196) _ _ (few-wide bytes) (few-if (opcode == 197) _ _ (few-multi_array bytes)
      (few-if (opcode == 198) _ _ (few-branch pc opcode bytes) (few-if (opcode == 199) _ _ (few-branch pc opcode bytes)
      (few-if (opcode == 200) _ _ (few-goto_w pc bytes) (few-if (opcode == 201) _ _ tt tt)))))

  few-by_opcode : (pc opcode : ℕ) (bytes : List ℕ) → length bytes ≤ most → Few (by_opcode pc opcode bytes)
  unfolding by_opcode
  few-by_opcode pc opcode bytes le =
      few-if (nat_le opcode 20) _ _ (few-constant opcode bytes) (few-if (nat_le opcode 45) _ _ (few-load opcode bytes)
      (few-if (nat_le opcode 53) _ _ (few-array_load opcode bytes) (few-if (nat_le opcode 78) _ _ (few-store opcode bytes)
      (few-if (nat_le opcode 86) _ _ (few-array_store opcode bytes) (few-if (nat_le opcode 95) _ _ tt
      (few-if (nat_le opcode 132) _ _ (few-math opcode bytes) (few-if (nat_le opcode 152) _ _ (few-conversion opcode bytes)
      (few-if (nat_le opcode 166) _ _ (few-branch pc opcode bytes) (few-if (nat_le opcode 177) _ _ (few-control pc opcode bytes le)
      (few-if (nat_le opcode 186) _ _ (few-member opcode bytes) (few-if (nat_le opcode 195) _ _ (few-object opcode bytes)
      (few-extended pc opcode bytes))))))))))))

  few-insn_at : (pc : ℕ) (bytes : List ℕ) → length bytes ≤ most → Few (insn_at pc bytes)
  unfolding insn_at
  few-insn_at pc [] le = tt
  few-insn_at pc (opcode ∷ bytes) le = few-by_opcode pc opcode bytes (omega (arith, le))

  -- the switches among the instructions of such code
  pub rows_within : (pc : ℕ) (bytes : List ℕ) (insns : Insns) (next : ℕ) (left : List ℕ) → length bytes ≤ most → AreIn pc bytes insns next left → AllByRecursion (λ x. HasRowsWithin most x.1) insns
  rows_within pc bytes [] next left le stand = tt
  rows_within pc bytes ((at, insn) ∷ insns) next left le stand =
      let here : HasRowsWithin most insn = subst (λ (prefix : Prefix). Few prefix) stand.2 (few-insn_at pc bytes le) in
      let less = insn_at-shorter pc bytes insn stand.1 stand.2 in
      (here, rows_within (pc + (length bytes - length stand.1)) stand.1 insns next left (omega (arith, le, less)) stand.3)
