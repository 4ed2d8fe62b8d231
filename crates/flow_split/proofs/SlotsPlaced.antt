-- The slots of locals are the places that they take one after the other.
use Rattle.std.proofs.Common.{◌≡◌, ℕ, suc, ◌+◌, ◌<◌, Bool, true, false, cond, not, ◌&&◌, nat_eq, nat_lt, List, [], ◌∷◌, ◌++◌, map, filter, length, Some, None, refl, sym, ap, ◌∙◌, arith}
use Rattle.std.specs.List.{position_or_len}
use Rattle.std.proofs.lemmas.Bool.{false≢true}
use Rattle.std.proofs.lemmas.Bool.Decides.{nat_tests}
use Rattle.std.proofs.lemmas.List.{map-append, length-append}
use Rattle.std.proofs.lemmas.List.Sums.{sum_by-cons}
use Rattle.insn_form.specs.declared.ValueKind.TheVariants as value_kind
use Rattle.body_form.specs.declared.body.Body.{Body}
use Rattle.flow_split.specs.declared.shares.Share.{Share}
use Rattle.jvm_model.specs.WidthsSlots.{Room, room_cells, first_cell}
use Rattle.jvm_model.specs.WidthsSlots.{is_stored, locals_of, is_reference_parameter, slot_of, slot_count}
use Rattle.flow_split.specs.Shares.{total_in, position_at, positions_of, slot_share, slot_shares_of}
use Rattle.flow_split.proofs.RoomsFound.{rooms_where, skipped}
use Rattle.flow_split.proofs.Placing.{Takes, places_are, then_case, some, at_stored, not_later, at_passed, at_none, cells_in_all}

-- a list of locals as rooms of one place each
abbrev ones : List ℕ → List Room
ones locals = map (λ local. (local, 1)) locals

ones_cells : (locals : List ℕ) → room_cells (ones locals) ≡ length locals
ones_cells [] = refl
ones_cells (local ∷ locals) = omega (arith, sum_by-cons (λ (room : Room). room.1) (local, 1) (ones locals), ones_cells locals)

-- the first place of a local is its position
position_step : (local sought from : ℕ) (locals : List ℕ) (b : Bool) → nat_eq local sought ≡ b → nat_eq sought local ≡ b
    → first_cell (from + 1) (ones locals) sought ≡ cond (nat_lt (position_or_len (nat_eq sought) locals) (length locals)) (Some ((from + 1) + position_or_len (nat_eq sought) locals)) None
    → first_cell from (ones (local ∷ locals)) sought ≡ cond (nat_lt (position_or_len (nat_eq sought) (local ∷ locals)) (length (local ∷ locals))) (Some (from + position_or_len (nat_eq sought) (local ∷ locals))) None
unfolding first_cell
position_step local sought from locals true one other below =
    let rest = position_or_len (nat_eq sought) locals in
    ap (λ (b : Bool). cond b (Some from) (first_cell (from + 1) (ones locals) sought)) one
    ∙ ap Some (omega arith)
    ∙ sym (then_case (nat_lt 0 (suc (length locals))) (Some (from + 0)) None (some (suc (length locals)) (omega arith)))
    ∙ sym (ap (λ (b : Bool). cond (nat_lt (cond (not b) (1 + rest) 0) (suc (length locals))) (Some (from + cond (not b) (1 + rest) 0)) None) other)
position_step local sought from locals false one other below =
    let rest = position_or_len (nat_eq sought) locals in
    let alike : nat_lt rest (length locals) ≡ nat_lt (1 + rest) (suc (length locals)) = grind (arith, nat_tests) in
    ap (λ (b : Bool). cond b (Some from) (first_cell (from + 1) (ones locals) sought)) one
    ∙ below
    ∙ ap (λ (b : Bool). cond b (Some ((from + 1) + rest)) None) alike
    ∙ ap (λ n. cond (nat_lt (1 + rest) (suc (length locals))) (Some n) None) (omega arith)
    ∙ sym (ap (λ (b : Bool). cond (nat_lt (cond (not b) (1 + rest) 0) (suc (length locals))) (Some (from + cond (not b) (1 + rest) 0)) None) other)

position_is : (locals : List ℕ) (sought from : ℕ)
    → first_cell from (ones locals) sought ≡ cond (nat_lt (position_or_len (nat_eq sought) locals) (length locals)) (Some (from + position_or_len (nat_eq sought) locals)) None
unfolding first_cell
position_is [] sought from = refl
position_is (local ∷ locals) sought from =
    let alike : nat_eq sought local ≡ nat_eq local sought = grind (arith, nat_tests) in
    position_step local sought from locals (nat_eq local sought) refl alike (position_is locals sought (from + 1))

not_first : (first second : Bool) → (not first && second) ≡ true → first ≡ false
not_first true second is = absurd (false≢true is)
not_first false second is = refl

module _ (body : Body) where
  abbrev share_of : ℕ → Share
  share_of = slot_share body

  abbrev passes : ℕ → Bool
  passes = is_reference_parameter body

  abbrev never : ℕ → Bool
  never local = false

  abbrev one : ℕ → ℕ
  one local = 1

  abbrev stores : ℕ → Bool
  stores local = not (is_reference_parameter body local) && is_stored value_kind.Ref body local

  passed_takes : Takes share_of (λ t. t.passed) passes one
  passed_takes = record { same = λ local. refl; some = λ local is. omega arith }

  extended_takes : Takes share_of (λ t. t.extended) never one
  extended_takes = record { same = λ local. refl; some = λ local is. omega arith }

  stored_takes : Takes share_of (λ t. t.stored) stores one
  stored_takes = record { same = λ local. refl; some = λ local is. omega arith }

  abbrev count : ℕ
  count = body.max_locals

  abbrev first : List ℕ
  first = filter passes (locals_of body)

  abbrev second : List ℕ
  second = filter stores (locals_of body)

  -- the slot is the first place among rooms of one place
  slot_first : (local : ℕ) → slot_of body local ≡ first_cell 0 (ones first ++ ones second) local
  slot_first local =
      ap (λ n. cond (nat_lt (position_or_len (nat_eq local) (first ++ second)) (length (first ++ second))) (Some n) None) (omega arith)
      ∙ sym (position_is (first ++ second) local 0) ∙ ap (λ (rooms : List Room). first_cell 0 rooms local) (map-append (λ (local : ℕ). (local, 1)) first second)

  none_never : (locals : List ℕ) → filter never locals ≡ []
  none_never [] = refl
  none_never (local ∷ locals) = none_never locals

  middle : rooms_where never one (locals_of body) ≡ []
  middle = ap (λ (locals : List ℕ). map (λ (local : ℕ). (local, 1)) locals) (none_never (locals_of body))

  -- the slot of a local that is no parameter
  after_first : (local : ℕ) → passes local ≡ false → slot_of body local ≡ first_cell (0 + room_cells (ones first)) (rooms_where never one (locals_of body) ++ ones second) local
  after_first local fails =
      slot_first local ∙ skipped passes one 0 (locals_of body) (ones second) local fails
      ∙ ap (λ (rooms : List Room). first_cell (0 + room_cells (ones first)) (rooms ++ ones second) local) (sym middle)

  place_with : (local : ℕ) → local < count → (kept given : Bool) → stores local ≡ kept → passes local ≡ given → position_at (slot_shares_of body) local ≡ slot_of body local
  place_with local within true given is _ =
      sym (after_first local (not_first (passes local) (is_stored value_kind.Ref body local) is)
      ∙ ap (λ n. first_cell n (rooms_where never one (locals_of body) ++ ones second) local) (omega arith)
      ∙ at_stored share_of count passed_takes extended_takes stored_takes local within refl is)
  place_with local within false true not_stored is =
      sym (slot_first local ∙ at_passed share_of count passed_takes extended_takes stored_takes local within refl not_stored (ones second) is)
  place_with local within false false not_stored fails =
      at_none share_of count passed_takes extended_takes stored_takes local within refl not_stored fails
      ∙ sym (after_first local fails ∙ not_later share_of count passed_takes extended_takes stored_takes local refl not_stored (0 + room_cells (ones first)))

  pub slots_placed : positions_of (slot_shares_of body) ≡ map (slot_of body) (locals_of body)
  slots_placed = places_are share_of count (slot_of body) (λ local within. place_with local within (stores local) (passes local) refl refl)

  pub slots_counted : total_in (slot_shares_of body) ≡ slot_count body
  slots_counted =
      let sums = cells_in_all share_of count passed_takes extended_takes stored_takes in
      let none = ap room_cells middle in
      omega (arith, sums, none, ones_cells first, ones_cells second, length-append first second)
