use Rattle.std.proofs.Common.{◌≡◌, drop}
use Rattle.image_form.specs.Reading.{first_unmatched}
use Rattle.image_form.proofs.dispatch.first_unmatched.Given as goal

-- the index is that of the next entry, and the entries that are left decide
abbrev pub invariant-loop-entry : goal.invariant-loop-entry
invariant-loop-entry l = record {
  index_is : l.index ≡ l.entry-index;
  so_far : first_unmatched l.selectors l.methods l.index (drop l.entry-index l.types) ≡ first_unmatched l.selectors l.methods 0 l.types;
}
