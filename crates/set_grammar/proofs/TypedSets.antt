-- The set of accepted files is one of typed code, and main has a start.
use Rattle.std.specs.Prelude.{ℕ, List}
use Rattle.type_safety.specs.Safety.{IsTyped}
use Rattle.type_safety.specs.Starts.{HasStart, StartsFit}
use Rattle.set_image.specs.Linked.{Linked, IsOfFiles}
use Rattle.set_compile.specs.Compiled.{SetsCompile}
use Rattle.set_compile.specs.Settings.{tables_of, world_of}

module _ (compile : SetsCompile) (files : List (List ℕ)) (linked : Linked) (is : IsOfFiles files linked) where
  pub is_typed : IsTyped files (world_of linked) (tables_of linked)
  is_typed =
      let set = is.is_linked in
      let compiled = compile files linked is in
      record {
        records = is.records;
        codes = is.codes;
        closed = set.closed;
        linked = is.links;
        bodies = set.are_bodies;
        types = compiled.typed.types;
      }

  pub has_start : StartsFit → HasStart (world_of linked) (tables_of linked)
  has_start starts = let set = is.is_linked in starts files (world_of linked) (tables_of linked) is_typed set.is_main
