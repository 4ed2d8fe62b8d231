-- What the numbers of an image are, as contracts see them.
use Rattle.jvm_model.specs.declared.ids.Ids.{Ids}
use Rattle.jvm_model.specs.ImageNumbering.{Numbering}

-- the numbering that these ids are
abbrev pub numbers_of : Ids → Numbering
numbers_of ids =
    record {
      types = ids.types;
      selectors = ids.selectors;
      methods = ids.methods;
      layouts = ids.layouts;
      fields = ids.fields;
      static_refs = ids.static_refs;
      static_cells = ids.static_cells;
      main = ids.main;
    }
