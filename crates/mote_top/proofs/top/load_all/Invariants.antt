use Rattle.std.proofs.Common.{Vec, Global, ◌≡◌, ℕ, map, take}
use Rattle.std.specs.String.{string_bytes}
use Rattle.host_face.specs.Shelf.{NeverFell}
use Rattle.mote_top.specs.Reply.{HaveAll}
use Rattle.mote_top.proofs.top.load_all.Given as goal

-- the files so far are those of the names so far, and the shelf keeps what it had
abbrev pub invariant-loop-place : goal.invariant-loop-place
invariant-loop-place g l =
    let shelf = g.S.Shelf in
    record {
      loaded : HaveAll (shelf.kept l.fn.shelf) (take l.place (map string_bytes l.names)) (map (λ (v : Vec ℕ Global). v.items) l.files.items);
      kept : shelf.kept l.shelf ≡ shelf.kept l.fn.shelf;
      loads : NeverFell (shelf.load_faults l.fn.shelf) (shelf.load_faults l.shelf);
      stores : NeverFell (shelf.store_faults l.fn.shelf) (shelf.store_faults l.shelf);
    }
