use Rattle.std.proofs.Common.{ap, ◌∙◌}
use Rattle.host_face.specs.MemShelf.{files_of}
use Rattle.host_face.proofs.Files.{no_files}
use Rattle.host_face.proofs.mem_shelf.MemShelf.new.Goals as goal

pub returns : goal.returns
returns c = λ i. record {
  kept = (ap files_of c.new.ensures.empty ∙ no_files _) i;
  listed = c.new-2.ensures.listed i;
  calls = c.new-2.ensures.made i;
  load_faults = 0;
  store_faults = 0;
}
