use Rattle.type_safety.proofs.starts.TypedStarts.{typed_starts}
use Rattle.type_safety.proofs.typed_code_starts.Goals as goal

pub returns : goal.returns
returns c = typed_starts
