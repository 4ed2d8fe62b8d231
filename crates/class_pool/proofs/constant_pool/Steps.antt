-- What a reading function answered, against what reading gives.
use Rattle.std.proofs.Common.{◌≡◌, ◌⊎◌, Result, Err, refl, sym, ap, subst, ◌∙◌, inl, inr}
use Rattle.std.specs.Prelude.{IsOk}
use Rattle.byte_read.proofs.Steps.{failed, same_why, true_false}
use Rattle.class_pool.specs.declared.refusal.PoolRefusal.{PoolRefusal}
use Rattle.class_pool.specs.declared.refusal.PoolRefusal.TheVariants.{Truncated, BadTag, BadIndex, BadUtf8, Memory}
use Rattle.class_pool.specs.PoolRefused.{Shows, ShowsGood}

-- a refusal that is answered is that of reading, or want of memory
pub err_says : {X Y : Type 0} (view : X → Y) (why : PoolRefusal) (read : Result Y PoolRefusal) → Shows view (Err why) read → (why ≡ Memory) ⊎ (read ≡ Err why)
err_says view Memory read e = inl refl
err_says view Truncated read e = inr e
err_says view (BadTag index) read e = inr e
err_says view (BadIndex index) read e = inr e
err_says view (BadUtf8 index) read e = inr e

-- an answer for which memory was asked only where it is good is one for which it was asked
pub good_shows : {Y : Type 0} (why : PoolRefusal) (read : Result Y PoolRefusal) → ShowsGood (λ x. x) (Err why) read → Shows (λ x. x) (Err why) read
good_shows Memory read e = tt
good_shows Truncated read e = e
good_shows (BadTag index) read e = e
good_shows (BadIndex index) read e = e
good_shows (BadUtf8 index) read e = e

-- where reading refuses, the same is answered
pub good_why : {Y : Type 0} (found why : PoolRefusal) (read : Result Y PoolRefusal) → ShowsGood (λ x. x) (Err found) read → read ≡ Err why → found ≡ why
good_why Memory why read good e = absurd (true_false (sym (subst IsOk e good)))
good_why {Y} Truncated why read good e = same_why {A = Y} Truncated why (sym good ∙ e)
good_why {Y} (BadTag index) why read good e = same_why {A = Y} (BadTag index) why (sym good ∙ e)
good_why {Y} (BadIndex index) why read good e = same_why {A = Y} (BadIndex index) why (sym good ∙ e)
good_why {Y} (BadUtf8 index) why read good e = same_why {A = Y} (BadUtf8 index) why (sym good ∙ e)

-- bytes that are missed are no want of memory
pub missed_shows : {Y : Type 0} (why : PoolRefusal) (read : Result Y PoolRefusal) → why ≡ Truncated → read ≡ Err why → ShowsGood (λ x. x) (Err why) read
missed_shows {Y} why read is e =
    let cut : read ≡ Err Truncated = e ∙ ap (λ (w : PoolRefusal). failed {A = Y} w) is in
    subst (λ (w : PoolRefusal). ShowsGood (λ (x : Y). x) (Err w) read) (sym is) cut

pub err_shows : {X Y : Type 0} (view : X → Y) (why : PoolRefusal) (read : Result Y PoolRefusal) → (why ≡ Memory) ⊎ (read ≡ Err why) → Shows view (Err why) read
err_shows view Memory read e = tt
err_shows view Truncated read (inl is) = absurd cc
err_shows view (BadTag index) read (inl is) = absurd cc
err_shows view (BadIndex index) read (inl is) = absurd cc
err_shows view (BadUtf8 index) read (inl is) = absurd cc
err_shows view Truncated read (inr e) = e
err_shows view (BadTag index) read (inr e) = e
err_shows view (BadIndex index) read (inr e) = e
err_shows view (BadUtf8 index) read (inr e) = e
