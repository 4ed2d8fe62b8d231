use Rattle.std.proofs.Common.{ℕ, suc, ◌<◌, List, [], ◌∷◌, get_or, OnOk, arith}
use Rattle.std.specs.Prelude.{Result, Ok, Err}
use Rattle.byte_read.specs.Bytes.{AreBytes}
use Rattle.infuse_link.proofs.sets.read_file.Goals as goal

-- each number that is read is a byte
all_bytes : (bytes : List ℕ) → ((i : ℕ) → get_or bytes i 0 < 256) → AreBytes bytes
all_bytes [] each = tt
all_bytes (byte ∷ bytes) each = (each 0, all_bytes bytes (λ i. each (suc i)))

of_ok : {A B : Type 0} (r : Result A B) (P : Type 0) → P → OnOk r P
of_ok (Ok x) P p = p
of_ok (Err x) P p = tt

pub returns-clause-bytes : goal.returns-clause-bytes
returns-clause-bytes c = of_ok c.of_reading.result (AreBytes c.args.bytes.now) (all_bytes c.args.bytes.now (λ i. omega (arith, c.type_inv.bytes i)))
