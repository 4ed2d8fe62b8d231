-- Files that are loaded one by one.
use Rattle.std.proofs.Common.{◌≡◌, ℕ, ◌+◌, ◌<◌, List, [], ◌∷◌, ◌++◌, length, get_or, map, Option, Some, sym, ap, ◌∙◌, arith}
use Rattle.std.specs.Prelude.{slice_get}
use Rattle.std.proofs.Math.ListN.{get_or-map}
use Rattle.std.proofs.lemmas.List.{length-map}
use Rattle.std.proofs.lemmas.Option.{slice_get_read}
use Rattle.host_face.specs.Shelf.{Files, NeverFell}
use Rattle.host_face.proofs.TalkLemmas.{Rose-then}
use Rattle.mote_top.specs.declared.status.Status.{Status}
use Rattle.mote_top.specs.declared.status.Status.TheVariants.{ShelfFault, Memory}
use Rattle.mote_top.specs.Reply.{HasAt, HaveAll}
use Rattle.mote_top.specs.Storing.{FailsAt, FailsToLoad}

-- one file more
pub have_more : (kept : Option Files) (names files : List (List ℕ)) (name bytes : List ℕ) → HaveAll kept names files → HasAt kept name bytes → HaveAll kept (names ++ name ∷ []) (files ++ bytes ∷ [])
have_more kept [] [] name bytes all has = (has, tt)
have_more kept [] (file ∷ files) name bytes all has = absurd all
have_more kept (first ∷ names) [] name bytes all has = absurd all
have_more kept (first ∷ names) (file ∷ files) name bytes all has = (all.0, have_more kept names files name bytes all.1 has)

pub never_then : (a b c : List ℕ → ℕ) → NeverFell a b → NeverFell b c → NeverFell a c
never_then a b c first second = λ name. let x = first name in let y = second name in omega (arith, x, y)

-- the name at a place, as a text
pub name_there : {A : Type 0} (f : A → List ℕ) (xs : List A) (i : ℕ) (x : A) (text : List ℕ) → i < length xs → x ≡ get_or xs i x → text ≡ f x → slice_get (map f xs) i ≡ Some text
name_there f xs i x text less is same =
    slice_get_read (map f xs) (length xs) i (f x) (sym (length-map xs f)) less (ap f is ∙ sym (get_or-map f xs i x)) ∙ ap (λ (w : List ℕ). Some w) (sym same)

-- the load of a name at a place failed
pub fails_there : (names : List (List ℕ)) (first at : ℕ) (name : List ℕ) (before mid after : List ℕ → ℕ) → slice_get names at ≡ Some name → NeverFell before mid → (status : Status) → FailsAt name (first + at) mid after status → FailsToLoad names first before after status
fails_there names first at name before mid after there counts Memory fails = tt
fails_there names first at name before mid after there counts (ShelfFault word) fails = (at, name, there, fails.0, Rose-then (before name) (mid name) (after name) (counts name) fails.1)
fails_there names first at name before mid after there counts _ fails = absurd fails
