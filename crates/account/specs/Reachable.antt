-- What a collection keeps: the objects that references lead to, whichever machine runs.
use Rattle.std.specs.Prelude.{◌≡◌, ℕ, zero, suc, ◌<◌, nat_eq, Bool, true, ◌&&◌, ◌||◌, List, filter, length}
use Rattle.std.specs.List.{list_any, range_with_len, sum_by}
use Rattle.account.specs.Account.{Collection}

-- the objects 0, 1, 2 and so on: how many there are, the names that each one refers to, and its cells
pub record Objects : Type 0 where
  pub count : ℕ
  pub refers_to : ℕ → List ℕ
  pub cells : ℕ → ℕ

abbrev pub is_among : ℕ → List ℕ → Bool
is_among name names = list_any (nat_eq name) names

-- the names that roots lead to in at most so many references from object to object
unfoldable pub is_within_steps : Objects → List ℕ → ℕ → ℕ → Bool
is_within_steps objects roots zero name = is_among name roots
is_within_steps objects roots (suc steps) name =
    is_within_steps objects roots steps name
    || list_any (λ other. is_within_steps objects roots steps other && is_among name (objects.refers_to other)) (range_with_len 0 objects.count)

-- the names that roots lead to, which takes no more references than there are objects
abbrev pub reached : Objects → List ℕ → List ℕ
reached objects roots = filter (is_within_steps objects roots objects.count) (range_with_len 0 objects.count)

-- what a collection would be
abbrev pub collection_of : Objects → List ℕ → Collection
collection_of objects roots =
    record { roots = roots; objects = length (reached objects roots); cells = sum_by objects.cells (reached objects roots) }

-- ---- what this is, as a closure

-- a set of names has the roots, and with an object all that it refers to
pub record IsClosed (objects : Objects) (roots : List ℕ) (Has : ℕ → Type 0) : Type 0 where
  pub has_roots : (name : ℕ) → is_among name roots ≡ true → Has name
  pub has_referred : (name other : ℕ) → other < objects.count → Has other → is_among name (objects.refers_to other) ≡ true → Has name

-- The names that are reached are closed, where the roots and what objects refer to are objects, and each closed set has
-- them.
pub record ReachedAreLeast (objects : Objects) (roots : List ℕ) : Type 1 where
  pub closed : ((name : ℕ) → is_among name roots ≡ true → name < objects.count)
      → ((name other : ℕ) → other < objects.count → is_among name (objects.refers_to other) ≡ true → name < objects.count)
      → IsClosed objects roots (λ name. is_among name (reached objects roots) ≡ true)
  pub least : (Has : ℕ → Type 0) → IsClosed objects roots Has → (name : ℕ) → is_among name (reached objects roots) ≡ true → Has name
