-- One more local that is extended makes one more fill.
use Rattle.std.proofs.Common.{◌≡◌, ℕ, zero, suc, ◌+◌, ◌<◌, Bool, true, false, cond, nat_lt, List, [], ◌∷◌, ◌++◌, map, filter, take, get_or, Option, Some, None, unwrap_or, refl, sym, ap, ◌∙◌, arith}
use Rattle.std.specs.List.{range_with_len}
use Rattle.std.specs.Option.{option_to_list}
use Rattle.std.proofs.lemmas.List.{map-append}
use Rattle.std.proofs.lemmas.List.Elements.{filter-append}
use Rattle.std.proofs.lemmas.List.FromFn.{get_or-map-range_with_len, take-map-range_with_len}
use Rattle.body_form.specs.declared.body.Body.{Body}
use Rattle.jvm_model.specs.declared.plan.Fill.{Fill}
use Rattle.flow_split.specs.declared.shares.Share.{Share}
use Rattle.jvm_model.specs.WidthsSlots.{first_cell}
use Rattle.jvm_model.specs.WidthsShapes.{Widths}
use Rattle.jvm_model.specs.WidthsSlots.{is_parameter, is_char, is_extended, passed, cell_of, fill_of}
use Rattle.flow_split.specs.Shares.{passed_in, extended_in, cell_share, cell_shares_of}
use Rattle.flow_split.proofs.CellsPlaced.{passed_from, kept_to}

-- one more number
range_more : (start count : ℕ) → range_with_len start (suc count) ≡ range_with_len start count ++ (start + count) ∷ []
range_more start zero =
    let end : start ≡ start + 0 = omega arith in
    ap (λ i. i ∷ []) end
range_more start (suc count) =
    let end : (start + 1) + count ≡ start + suc count = omega arith in
    ap (λ (list : List ℕ). start ∷ list) (range_more (start + 1) count ∙ ap (λ i. range_with_len (start + 1) count ++ i ∷ []) end)

range_at : (local next : ℕ) → next ≡ suc local → 0 + local ≡ local → range_with_len 0 next ≡ range_with_len 0 local ++ local ∷ []
range_at local next is same = ap (range_with_len 0) is ∙ range_more 0 local ∙ ap (λ i. range_with_len 0 local ++ i ∷ []) same

kept_more : (test : ℕ → Bool) (make : ℕ → Fill) (local : ℕ) → map make (filter test (range_with_len 0 (local + 1))) ≡ map make (filter test (range_with_len 0 local)) ++ map make (cond (test local) (local ∷ []) [])
kept_more test make local =
    let next : range_with_len 0 (local + 1) ≡ range_with_len 0 local ++ local ∷ [] = range_at local (local + 1) (omega arith) (omega arith) in
    ap (λ list. map make (filter test list)) next ∙ ap (map make) (filter-append test (range_with_len 0 local) (local ∷ [])) ∙ map-append make (filter test (range_with_len 0 local)) (cond (test local) (local ∷ []) [])

made : (from to : Option ℕ) (zero' : Bool) (start end : ℕ) → from ≡ Some start → to ≡ Some end
    → ◌≡◌ {A = Fill} (record { from = unwrap_or from 0; to = unwrap_or to 0; zero = zero' }) (record { from = start; to = end; zero = zero' })
made from to zero' start end first second =
    ap (λ (o : Option ℕ). record { from = unwrap_or o 0; to = unwrap_or to 0; zero = zero' }) first
    ∙ ap (λ (o : Option ℕ). record { from = start; to = unwrap_or o 0; zero = zero' }) second

module _ (body : Body) (widths : Widths) where
  abbrev all : List Share
  all = cell_shares_of body widths

  abbrev filled : ℕ → ℕ → ℕ → Fill
  filled local from to = record { from = from; to = to; zero = is_parameter is_char body local }

  last : (local from to : ℕ) (b : Bool) → local < body.max_locals → from ≡ passed_in (take local all) → to ≡ passed_in all + extended_in (take local all) → is_extended body widths local ≡ b
      → map (fill_of body widths) (cond b (local ∷ []) []) ≡ option_to_list (cond (nat_lt 0 (cond b 2 0)) (Some (filled local from to)) None)
  last local from to true within first second is =
      let before = take-map-range_with_len (cell_share body widths) 0 body.max_locals local (omega arith) in
      ap (λ (fill : Fill). fill ∷ []) (made (first_cell 0 (passed body) local) (cell_of body widths local) (is_parameter is_char body local) from to
      (passed_from body widths local within is ∙ ap Some (sym (first ∙ ap passed_in before)))
      (kept_to body widths local within is ∙ ap Some (sym (second ∙ ap (λ (list : List Share). passed_in all + extended_in list) before))))
  last local from to false within first second is = refl

  pub fill_more : (local from to : ℕ) (none : Share) → local < body.max_locals → from ≡ passed_in (take local all) → to ≡ passed_in all + extended_in (take local all)
      → map (fill_of body widths) (filter (is_extended body widths) (range_with_len 0 (local + 1)))
      ≡ map (fill_of body widths) (filter (is_extended body widths) (range_with_len 0 local)) ++ option_to_list (let share = get_or all local none in cond (nat_lt 0 share.extended) (Some (filled local from to)) None)
  fill_more local from to none within first second =
      let here = get_or-map-range_with_len (cell_share body widths) 0 body.max_locals local local none within (omega arith) in
      kept_more (is_extended body widths) (fill_of body widths) local
      ∙ ap (λ (list : List Fill). map (fill_of body widths) (filter (is_extended body widths) (range_with_len 0 local)) ++ list)
      (last local from to (is_extended body widths local) within first second refl
      ∙ ap (λ (share : Share). option_to_list (cond (nat_lt 0 share.extended) (Some (filled local from to)) None)) (sym here))

  -- the fills of one more local, where these are those of the locals before it
  pub fill_append : (shares : List Share) (local at from to : ℕ) (none : Share) (old new : List Fill) (fill : Option Fill) → shares ≡ all → local < body.max_locals → at ≡ local
      → from ≡ passed_in (take local shares) → to ≡ passed_in shares + extended_in (take local shares)
      → new ≡ old ++ option_to_list fill → fill ≡ (let here = get_or shares at none in cond (nat_lt 0 here.extended) (Some (filled local from to)) None)
      → old ≡ map (fill_of body widths) (filter (is_extended body widths) (range_with_len 0 local))
      → new ≡ map (fill_of body widths) (filter (is_extended body widths) (range_with_len 0 (local + 1)))
  fill_append shares local at from to none old new fill is within place first second appended one before =
      let here = ap (λ (i : ℕ). get_or shares i none) place ∙ ap (λ (list : List Share). get_or list local none) is in
      appended
      ∙ ap (λ (list : List Fill). list ++ option_to_list fill) before
      ∙ ap (λ (o : Option Fill). map (fill_of body widths) (filter (is_extended body widths) (range_with_len 0 local)) ++ option_to_list o)
      (one ∙ ap (λ (t : Share). cond (nat_lt 0 t.extended) (Some (filled local from to)) None) here)
      ∙ sym (fill_more local from to none within (first ∙ ap (λ (list : List Share). passed_in (take local list)) is) (second ∙ ap (λ (list : List Share). passed_in list + extended_in (take local list)) is))
