-- The first file that has a main.
use Rattle.std.proofs.Common.{◌≡◌, ℕ, zero, suc, ◌+◌, ◌<◌, Bool, true, false, nat_lt, cond, List, [], ◌∷◌, length, get_or, slice_get, position, Option, Some, None, is_some, option_map, option_and_then, ap, ◌∙◌, arith}
use Rattle.std.proofs.lemmas.Bool.{lt-ltb}
use Rattle.std.proofs.lemmas.Option.{get_or_from_slice_get, slice_get-get_or}
use Rattle.std.proofs.lemmas.List.Sums.{position_or_len_is}
use Rattle.class_pool.specs.declared.types.MemberId.{MemberId}
use Rattle.class_file.specs.declared.record.ClassFile.{ClassFile}
use Rattle.jvm_model.specs.Entry.{main_in, entry_of}

there : {X : Type 0} (xs : List X) (k : ℕ) (x : X) → slice_get xs k ≡ Some x → k < length xs
there [] k x e = cc
there (y ∷ xs) zero x e = omega arith
there (y ∷ xs) (suc k) x e = omega (arith, there xs k x e)

module _ (files : List ClassFile) (k : ℕ) (file : ClassFile) (member : ℕ) where
  abbrev has_main : ClassFile → Bool
  has_main f = is_some (main_in f)

  place : slice_get files k ≡ Some file → main_in file ≡ Some member → ((i : ℕ) (f : ClassFile) → i < k → slice_get files i ≡ Some f → main_in f ≡ None) → position has_main files ≡ Some k
  place is main before =
      let lt = there files k file is in
      let none : (i : ℕ) → i < k → has_main (get_or files i file) ≡ false = λ i less. ap (λ (o : Option ℕ). is_some o) (before i (get_or files i file) less (slice_get-get_or files i file (omega (arith, less, lt)))) in
      let here : has_main (get_or files k file) ≡ true = ap has_main (get_or_from_slice_get files k file file is) ∙ ap (λ (o : Option ℕ). is_some o) main in
      ap (λ n. cond (nat_lt n (length files)) (Some n) None) (position_or_len_is has_main files k file (omega (arith, lt)) none (λ _. here))
      ∙ ap (λ b. cond b (Some k) None) (lt-ltb k (length files) lt)

  abbrev entry_in : ℕ → Option ℕ → Option MemberId
  entry_in position found = option_map (λ m. record { class = 32 + position; member = m }) found

  -- the first file that has one gives it
  pub entry_here : slice_get files k ≡ Some file → main_in file ≡ Some member → ((i : ℕ) (f : ClassFile) → i < k → slice_get files i ≡ Some f → main_in f ≡ None)
      → entry_of files ≡ Some (record { class = 32 + k; member = member })
  entry_here is main before =
      ap (λ (o : Option ℕ). option_and_then (λ position. entry_in position (option_and_then main_in (slice_get files position))) o) (place is main before)
      ∙ ap (λ (o : Option ClassFile). entry_in k (option_and_then main_in o)) is ∙ ap (entry_in k) main
