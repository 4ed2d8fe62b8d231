-- The cells of locals are the places that they take one after the other.
use Rattle.std.proofs.Common.{◌≡◌, ℕ, ◌+◌, ◌<◌, Bool, true, false, cond, not, ◌&&◌, List, [], ◌++◌, map, Option, Some, None, refl, sym, ap, ◌∙◌, arith}
use Rattle.std.specs.List.{range_with_len}
use Rattle.std.specs.Option.{option_map_or, option_or}
use Rattle.std.proofs.lemmas.Bool.{false≢true}
use Rattle.std.proofs.lemmas.List.{append-nil}
use Rattle.class_pool.specs.declared.descriptor.Kind.{Kind}
use Rattle.class_pool.specs.declared.descriptor.Kind.TheVariants as declared
use Rattle.insn_form.specs.declared.ValueKind.TheVariants as value_kind
use Rattle.image_instr.specs.declared.insn.Width.{Width}
use Rattle.image_instr.specs.declared.insn.Width.TheVariants as width
use Rattle.body_form.specs.declared.body.Body.{Body}
use Rattle.flow_split.specs.declared.shares.Share.{Share}
use Rattle.jvm_model.specs.WidthsSlots.{Room, room_cells, first_cell}
use Rattle.jvm_model.specs.WidthsShapes.{Widths}
use Rattle.jvm_model.specs.WidthsSlots.{is_stored, locals_of, parameter_at, is_parameter, is_small, passed_cells, is_extended, is_two, passed, extended, stored, cell_of, cell_count}
use Rattle.jvm_model.specs.Initialisers.{is_whole_kind}
use Rattle.image_instr.specs.Effect.{cells_in}
use Rattle.flow_split.specs.Shares.{total_in, passed_in, extended_in, position_at, positions_of, cell_share, cell_shares_of}
use Rattle.flow_split.proofs.Placing.{Takes, places_are, extended_first, at_extended, extended_place, passed_first, stored_first, at_stored, not_later, at_passed, no_room, at_none, cells_in_all, cells_append}

-- a type passes cells exactly where it is a whole number
whole_passes : (kind : Kind) → passed_cells kind ≡ cond (is_whole_kind kind) (passed_cells kind) 0
whole_passes declared.Byte = refl
whole_passes declared.Char = refl
whole_passes declared.Double = refl
whole_passes declared.Float = refl
whole_passes declared.Int = refl
whole_passes declared.Long = refl
whole_passes declared.Short = refl
whole_passes declared.Boolean = refl
whole_passes (declared.Class name) = refl
whole_passes (declared.Array dims of) = refl

whole_some : (kind : Kind) → is_whole_kind kind ≡ true → 0 < passed_cells kind
whole_some declared.Byte is = omega arith
whole_some declared.Char is = omega arith
whole_some declared.Double is = absurd (false≢true is)
whole_some declared.Float is = absurd (false≢true is)
whole_some declared.Int is = omega arith
whole_some declared.Long is = absurd (false≢true is)
whole_some declared.Short is = omega arith
whole_some declared.Boolean is = omega arith
whole_some (declared.Class name) is = absurd (false≢true is)
whole_some (declared.Array dims of) is = absurd (false≢true is)

pub small_whole : (kind : Kind) → is_small kind ≡ true → is_whole_kind kind ≡ true
small_whole declared.Byte is = refl
small_whole declared.Char is = refl
small_whole declared.Double is = is
small_whole declared.Float is = is
small_whole declared.Int is = refl
small_whole declared.Long is = is
small_whole declared.Short is = refl
small_whole declared.Boolean is = refl
small_whole (declared.Class name) is = is
small_whole (declared.Array dims of) is = is

passes_cells : (parameter : Option Kind) → option_map_or passed_cells parameter 0 ≡ cond (option_map_or is_whole_kind parameter false) (option_map_or passed_cells parameter 0) 0
passes_cells None = refl
passes_cells (Some kind) = whole_passes kind

passes_some : (parameter : Option Kind) → option_map_or is_whole_kind parameter false ≡ true → 0 < option_map_or passed_cells parameter 0
passes_some None is = absurd (false≢true is)
passes_some (Some kind) is = whole_some kind is

some_cells : (w : Width) → 0 < cells_in w
some_cells width.One = omega arith
some_cells width.Two = omega arith

or_first : (first second : Option ℕ) (n : ℕ) → first ≡ Some n → option_or first second ≡ first
or_first first second n is = ap (λ (o : Option ℕ). option_or o second) is ∙ sym is

or_second : (first second : Option ℕ) → first ≡ None → option_or first second ≡ second
or_second first second is = ap (λ (o : Option ℕ). option_or o second) is

module _ (body : Body) (widths : Widths) where
  abbrev share_of : ℕ → Share
  share_of = cell_share body widths

  abbrev passes : ℕ → Bool
  passes = is_parameter is_whole_kind body

  abbrev passed_size : ℕ → ℕ
  passed_size local = option_map_or passed_cells (parameter_at body local) 0

  abbrev two : ℕ → ℕ
  two local = 2

  abbrev stores : ℕ → Bool
  stores local = not (is_parameter is_whole_kind body local) && is_stored value_kind.Int body local

  abbrev stored_size : ℕ → ℕ
  stored_size local = cells_in (widths.local local)

  pub passed_takes : Takes share_of (λ t. t.passed) passes passed_size
  passed_takes = record { same = λ local. passes_cells (parameter_at body local); some = λ local. passes_some (parameter_at body local) }

  pub extended_takes : Takes share_of (λ t. t.extended) (is_extended body widths) two
  extended_takes = record { same = λ local. refl; some = λ local is. omega arith }

  pub stored_takes : Takes share_of (λ t. t.stored) stores stored_size
  stored_takes = record { same = λ local. refl; some = λ local is. some_cells (widths.local local) }

  abbrev count : ℕ
  count = body.max_locals

  abbrev later : ℕ → Option ℕ
  later local = first_cell (room_cells (passed body)) (extended body widths ++ stored body widths) local

  place_with : (local : ℕ) → local < count → (first second third : Bool) → is_extended body widths local ≡ first → stores local ≡ second → passes local ≡ third → position_at (cell_shares_of body widths) local ≡ cell_of body widths local
  place_with local within true second third is _ _ =
      sym (or_first (later local) (first_cell 0 (passed body) local) _ (extended_first share_of count passed_takes extended_takes stored_takes local within is)
      ∙ at_extended share_of count passed_takes extended_takes stored_takes local within is)
  place_with local within false true third not_extended is _ =
      sym (or_first (later local) (first_cell 0 (passed body) local) _ (stored_first share_of count passed_takes extended_takes stored_takes (room_cells (passed body)) local within not_extended is)
      ∙ at_stored share_of count passed_takes extended_takes stored_takes local within not_extended is)
  place_with local within false false true not_extended not_stored is =
      sym (or_second (later local) (first_cell 0 (passed body) local) (not_later share_of count passed_takes extended_takes stored_takes local not_extended not_stored (room_cells (passed body)))
      ∙ ap (λ (rooms : List Room). first_cell 0 rooms local) (sym (append-nil (passed body)))
      ∙ at_passed share_of count passed_takes extended_takes stored_takes local within not_extended not_stored [] is)
  place_with local within false false false not_extended not_stored fails =
      at_none share_of count passed_takes extended_takes stored_takes local within not_extended not_stored fails
      ∙ sym (or_second (later local) (first_cell 0 (passed body) local) (not_later share_of count passed_takes extended_takes stored_takes local not_extended not_stored (room_cells (passed body)))
      ∙ no_room share_of count passed_takes extended_takes stored_takes local not_extended not_stored fails)

  pub cell_placed : (local : ℕ) → local < count → position_at (cell_shares_of body widths) local ≡ cell_of body widths local
  cell_placed local within = place_with local within (is_extended body widths local) (stores local) (passes local) refl refl refl

  pub cells_placed : positions_of (cell_shares_of body widths) ≡ map (cell_of body widths) (locals_of body)
  cells_placed = places_are share_of count (cell_of body widths) cell_placed

  -- where a parameter that is extended is passed, and where it is kept
  small_passes : (parameter : Option Kind) → option_map_or is_small parameter false ≡ true → option_map_or is_whole_kind parameter false ≡ true
  small_passes None is = is
  small_passes (Some kind) is = small_whole kind is

  and_first : (one other : Bool) → (one && other) ≡ true → one ≡ true
  and_first true other is = refl
  and_first false other is = is

  pub passed_from : (local : ℕ) → local < count → is_extended body widths local ≡ true → first_cell 0 (passed body) local ≡ Some (passed_in (map share_of (range_with_len 0 local)))
  passed_from local within is =
      passed_first share_of count passed_takes extended_takes stored_takes local within
      (small_passes (parameter_at body local) (and_first (is_parameter is_small body local) (is_two (widths.local local)) is))

  pub kept_to : (local : ℕ) → local < count → is_extended body widths local ≡ true → cell_of body widths local ≡ Some (passed_in (cell_shares_of body widths) + extended_in (map share_of (range_with_len 0 local)))
  kept_to local within is =
      sym (cell_placed local within) ∙ extended_place share_of count passed_takes extended_takes stored_takes local within is

  pub cells_counted : total_in (cell_shares_of body widths) ≡ cell_count body widths
  cells_counted =
      let sums = cells_in_all share_of count passed_takes extended_takes stored_takes in
      let both = cells_append (extended body widths) (stored body widths) in
      omega (arith, sums, both)
