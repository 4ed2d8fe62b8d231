use Rattle.std.proofs.Common.{Some, sym, ap, ◌∙◌}
use Rattle.std.specs.Option.{option_map}
use Rattle.std.specs.FinMap.{get}
use Rattle.host_face.proofs.Files.{get-files_of}
use Rattle.host_face.proofs.mem_shelf.MemShelf.file.Goals as goal

pub returns-in-Some : goal.returns-in-Some
returns-in-Some c =
    ap (λ bytes. Some bytes) c.as_slice.ensures.value
    ∙ ap (option_map (λ bytes. bytes.items)) c.in-Some.ensures.value
    ∙ sym (get-files_of c.self.inside.files.entries c.args.name.now)
    ∙ ap (λ shelf. get shelf.kept c.args.name.now) c.self.view_is

pub returns-in-None : goal.returns-in-None
returns-in-None c =
    ap (option_map (λ bytes. bytes.items)) c.in-None.ensures.value
    ∙ sym (get-files_of c.self.inside.files.entries c.args.name.now)
    ∙ ap (λ shelf. get shelf.kept c.args.name.now) c.self.view_is
