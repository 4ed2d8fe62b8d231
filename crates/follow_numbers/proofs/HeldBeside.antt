-- What each move of the first machine keeps may stand beside the relation that the second one follows by.
use Rattle.std.proofs.Common.{◌≡◌, List, [], refl}
use Rattle.account.specs.Account.{Event, Need, Move, Does, no_need}
use Rattle.account.specs.Run.{Machine}
use Rattle.account.specs.RunLaws.{Alike, BothDo, BothStop, ComesTo, Matches, IsQuiet, IsLoud}

module _ {A B E F : Type 0} (first : Machine A E) (second : Machine B F) (Related : A → B → Type 0) (Same : E → F → Type 0) (Holds : A → Type 0) where
  abbrev pub Beside : A → B → Type 0
  Beside a b = Related a b × Holds a

  abbrev KeptBy : Move A E → Type 0
  KeptBy move = (need : Need) (events : List Event) (next : A) → move ≡ Does need events next → Holds next

  alike_beside : (move : Move A E) (other : Move B F) → Alike (ComesTo second Related) Same move other → KeptBy move → Alike (ComesTo second Beside) Same move other
  alike_beside move other (BothDo need events next last comes) kept =
      BothDo need events next last (record { last = comes.last; quiet = comes.quiet; related = (comes.related, kept need events next refl) })
  alike_beside move other (BothStop need events ending last same) kept = BothStop need events ending last same

  pub matches_beside : (a : A) (b : B) → Matches first second Related Same a b → KeptBy (first.move a) → Matches first second Beside Same a b
  matches_beside a b (IsQuiet next is comes) kept =
      IsQuiet next is (record { last = comes.last; quiet = comes.quiet; related = (comes.related, kept no_need [] next is) })
  matches_beside a b (IsLoud from quiet alike) kept = IsLoud from quiet (alike_beside (first.move a) (second.move from) alike kept)
