-- Reading items one after the other, as a loop does.
use Rattle.std.proofs.Common.{◌≡◌, ◌⊎◌, ℕ, ◌-◌, ◌+◌, ◌≤◌, ◌<◌, List, [], ◌∷◌, ◌++◌, Result, Ok, Err, length, length-append, refl, sym, ap, ◌∙◌, arith, inl, inr}
use Rattle.byte_read.specs.Reading.{one_more}
use Rattle.byte_read.proofs.Loop.{one_left, is_done as steps_done, item_goes_on}
use Rattle.image_form.specs.declared.refusal.FormRefusal.{FormRefusal}
use Rattle.image_form.specs.declared.refusal.FormRefusal.TheVariants.{NotInfusion, FormVersion, Truncated, TrailingBytes, BadTable, Memory}
use Rattle.image_form.specs.Refused.{Shows}
use Rattle.image_form.specs.Reading.{items_at}

-- what reads an item after those before it
abbrev pub Part : Type 0 → Type 0
Part A = List A → List ℕ → Result (A × List ℕ) FormRefusal

-- ---- refusals

-- an error that is shown is want of memory, or the error of reading
pub err_says : {X Y : Type 0} (view : X → Y) (why : FormRefusal) (read : Result Y FormRefusal) → Shows view (Err why) read → (why ≡ Memory) ⊎ (read ≡ Err why)
err_says view Memory read h = inl refl
err_says view NotInfusion read h = inr h
err_says view (FormVersion version) read h = inr h
err_says view Truncated read h = inr h
err_says view TrailingBytes read h = inr h
err_says view (BadTable table index) read h = inr h

pub err_shows : {X Y : Type 0} (view : X → Y) (why : FormRefusal) (read : Result Y FormRefusal) → (why ≡ Memory) ⊎ (read ≡ Err why) → Shows view (Err why) read
err_shows view Memory read h = tt
err_shows view NotInfusion read (inr e) = e
err_shows view NotInfusion read (inl e) = absurd cc
err_shows view (FormVersion version) read (inr e) = e
err_shows view (FormVersion version) read (inl e) = absurd cc
err_shows view Truncated read (inr e) = e
err_shows view Truncated read (inl e) = absurd cc
err_shows view TrailingBytes read (inr e) = e
err_shows view TrailingBytes read (inl e) = absurd cc
err_shows view (BadTable table index) read (inr e) = e
err_shows view (BadTable table index) read (inl e) = absurd cc

-- ---- the loop

pub goes_on : {A : Type 0} (item_at : Part A) (count index : ℕ) (before : List A) (bytes : List ℕ) (item : A) (after : List ℕ) (total : Result (List A × List ℕ) FormRefusal)
    → index < count → item_at before bytes ≡ Ok (item, after) → items_at item_at (count - index) before bytes ≡ total → items_at item_at (count - (index + 1)) (before ++ item ∷ []) after ≡ total
goes_on item_at count index before bytes item after total lt h so_far = item_goes_on item_at before count index bytes item after total lt h so_far

pub ends : {A : Type 0} (item_at : Part A) (why : FormRefusal) (count index : ℕ) (before : List A) (bytes : List ℕ) (total : Result (List A × List ℕ) FormRefusal) → index < count
    → Shows (λ x. x) (Err why) (item_at before bytes) → items_at item_at (count - index) before bytes ≡ total → Shows (λ x. x) (Err why) total
ends item_at why count index before bytes total lt h so_far =
    elim (err_says (λ x. x) why (item_at before bytes) h) [
      | inl memory ↦ err_shows (λ x. x) why total (inl memory)
      | inr e ↦ err_shows (λ x. x) why total (inr (sym so_far ∙ one_left (one_more item_at) before count index bytes lt ∙ rw e refl))
    ]

pub is_done : {A : Type 0} (item_at : Part A) (count index : ℕ) (before : List A) (bytes : List ℕ) (total : Result (List A × List ℕ) FormRefusal) → count ≤ index → items_at item_at (count - index) before bytes ≡ total → total ≡ Ok (before, bytes)
is_done item_at count index before bytes total le so_far = steps_done (one_more item_at) before count index bytes total le so_far

-- an item more
pub one_longer : {A : Type 0} (before after : List A) (item : A) (count : ℕ) → after ≡ before ++ item ∷ [] → length before ≡ count → length after ≡ count + 1
one_longer before after item count e h = omega (arith, ap length e, length-append before (item ∷ []), h)
