use Rattle.std.proofs.Common.{◌≡◌, ap, ◌∙◌, string_bytes}
use Rattle.std.specs.FinMap.{insert}
use Rattle.host_face.specs.MemShelf.{ShelfState, files_of}
use Rattle.host_face.proofs.Files.{insert-files_of}
use Rattle.host_face.proofs.mem_shelf.MemShelf.put_file.Goals as goal

pub returns-clause-kept : goal.returns-clause-kept
returns-clause-kept c =
    let old = files_of c.self.inside.files.entries in
    let inserted : files_of c.insert.new.self.entries ≡ insert old c.args.name.now c.args.bytes.now =
    insert-files_of c.self.inside.files c.insert.new.self (string_bytes c.in_ok-key.key) c.in_ok-copy.copy c.in_ok-insert.ensures.updates
    ∙ ap (λ name. insert old name c.in_ok-copy.copy.items) c.in_ok-key.ensures.ok
    ∙ ap (λ bytes. insert old c.args.name.now bytes) c.in_ok-copy.ensures.items in
    let with_file : ShelfState → ShelfState = λ shelf. record shelf { kept = insert shelf.kept c.args.name.now c.args.bytes.now } in
    (λ i. record {
      kept = inserted i;
      listed = c.self.inside.numbered.listed.items;
      calls = c.self.inside.numbered.made;
      load_faults = c.self.inside.failed_loads;
      store_faults = c.self.inside.failed_stores;
    })
    ∙ ap with_file c.self.view_is
