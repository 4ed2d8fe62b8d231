-- The image of an accepted set of files of bytes is of the grammar.
use Rattle.std.proofs.Common.{refl}
use Rattle.type_safety.specs.Starts.{StartsFit}
use Rattle.body_limits.specs.Limits.{ParametersAreFew}
use Rattle.set_compile.specs.Compiled.{SetsCompile}
use Rattle.set_grammar.specs.Grammars.{SetImagesAreImages}
use Rattle.set_grammar.proofs.SetMain.{main_is}
use Rattle.set_grammar.proofs.SetMethods.{methods_are}
use Rattle.set_grammar.proofs.SetRows.{rows_are}
use Rattle.set_grammar.proofs.SetSelectors.{selectors_are}
use Rattle.set_grammar.proofs.SetStatics.{statics_are}
use Rattle.set_grammar.proofs.SetTypes.{types_are}

pub images_are_images : SetsCompile → StartsFit → ParametersAreFew → SetImagesAreImages
images_are_images compile starts parameters files linked bytes is =
    let types = types_are files linked bytes is in
    let selectors = selectors_are files linked is in
    let methods = methods_are compile parameters files linked is in
    let statics = statics_are compile starts files linked is in
    record {
      version_is = refl;
      types_fit = types.fit;
      types_are = types.are;
      selectors_fit = selectors.fit;
      selectors_are = selectors.are;
      methods_fit = methods.fit;
      methods_are = methods.are;
      static_refs_fit = statics.refs;
      static_cells_fit = statics.cells;
      static_cells_are = statics.are;
      main_is = main_is compile starts files linked is;
      rows_are = rows_are compile files linked is;
    }
