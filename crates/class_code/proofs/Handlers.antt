-- The rows of an exception table: what was answered is the first that does not fit.
use Rattle.std.proofs.Common.{◌≡◌, ℕ, List, Option, Some, None, option_map, ◌↔◌, refl, sym, ap, ◌∙◌}
use Rattle.std.specs.Prelude.{IfSome, IsNone}
use Rattle.std.specs.List.{AllByRecursion}
use Rattle.std.proofs.lemmas.Bool.{false≢true}
use Rattle.class_file.specs.declared.record.HandlerRow.{HandlerRow}
use Rattle.class_code.specs.Code.{Insns, HandlerFits, IsFirstUnfit, handler_fits, first_other, first_unfit}
use Rattle.class_code.proofs.Firsts.{none_exactly, found-first}
use Rattle.class_code.proofs.Starts.{handler-tells}

some_is_none : {X : Type 0} (x : X) → Some x ≡ None → ⊥
some_is_none x e = cc

none_from : (o : Option HandlerRow) → option_map (λ row. row.start) o ≡ None → o ≡ None
none_from None e = refl
none_from (Some row) e = absurd (some_is_none row.start e)

is_none : (r : Option ℕ) → IsNone r → r ≡ None
is_none None e = refl
is_none (Some start) e = absurd (false≢true (sym e))

none_is : (r : Option ℕ) → r ≡ None → IsNone r
none_is None e = refl
none_is (Some start) e = absurd (some_is_none start e)

pub none_unfit : (insns : Insns) (size : ℕ) (rows : List HandlerRow) (r : Option ℕ) → r ≡ first_unfit insns size rows → IsNone r ↔ AllByRecursion (HandlerFits insns size) rows
none_unfit insns size rows r e =
    let exactly = none_exactly (handler_fits insns size) (HandlerFits insns size) (handler-tells insns size) rows in (
      λ none. exactly.0 (none_from (first_other (handler_fits insns size) rows) (sym e ∙ is_none r none)),
      λ all. none_is r (e ∙ ap (option_map (λ (row : HandlerRow). row.start)) (exactly.1 all)),
    )

start_is : (o : Option HandlerRow) (start : ℕ) → Some start ≡ option_map (λ row. row.start) o → (row : HandlerRow) × (o ≡ Some row) × (start ≡ row.start)
start_is None start e = absurd (some_is_none start e)
start_is (Some row) start e = (row, refl, cc)

pub unfit-first : (insns : Insns) (size : ℕ) (rows : List HandlerRow) (r : Option ℕ) → r ≡ first_unfit insns size rows → IfSome r (IsFirstUnfit insns size rows)
unfit-first insns size rows None e = tt
unfit-first insns size rows (Some start) e =
    let at = start_is (first_other (handler_fits insns size) rows) start e in
    record { row = at.0; starts = at.2; first = found-first (handler_fits insns size) (HandlerFits insns size) (handler-tells insns size) rows at.0 at.1 }
