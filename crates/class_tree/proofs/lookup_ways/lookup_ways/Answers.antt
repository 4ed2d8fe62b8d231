use Rattle.std.proofs.Common.{◌≡◌, ℕ, ◌+◌, List, length, subst, arith}
use Rattle.class_tree.specs.LookupWays.{AreAlone, LeadUpBy, LeadBeside}
use Rattle.class_tree.specs.declared.route.Route.{Route}
use Rattle.class_tree.specs.declared.route.Route.TheVariants.{Superclass, Superinterfaces, Both}
use Rattle.class_tree.proofs.lookups.RouteWays.{all_ways}
use Rattle.class_tree.proofs.lookup_ways.lookup_ways.Goals as goal

pub returns : goal.returns
returns c =
    let names = c.args.names.now in
    let files = c.args.files.now in
    let Up : Route → List (List ℕ) → List (List ℕ) → Type 0 = λ route ways own. LeadUpBy names files route own ways in
    let Lists : List (List ℕ) → Type 0 = λ ways. LeadBeside names files ways c.in_ok-lists.lists.items in
    let P : ℕ → Type 0 = λ n. AreAlone n c.in_ok-own.own.items in
    let count : c.from.result + c.count.result ≡ 32 + length c.args.names.now = omega (arith, c.from.ensures, c.count.ensures) in
    all_ways c.args.names.now c.args.files.now c.requires.named c.in_ok-own.own.items c.in_ok-both.both.items c.in_ok-superclasses.superclasses.items c.in_ok-superinterfaces.superinterfaces.items c.in_ok-lists.lists.items c.in_ok-beside.beside.items
    (subst P count c.in_ok-own.ensures.each)
    (subst (Up Both c.in_ok-both.both.items) c.as_slice.ensures.value c.in_ok-both.ensures)
    (subst (Up Superclass c.in_ok-superclasses.superclasses.items) c.as_slice-2.ensures.value c.in_ok-superclasses.ensures)
    (subst (Up Superinterfaces c.in_ok-superinterfaces.superinterfaces.items) c.as_slice-3.ensures.value c.in_ok-superinterfaces.ensures)
    (subst Lists c.as_slice-4.ensures.value c.in_ok-lists.ensures.each)
    (subst (Up Superclass c.in_ok-beside.beside.items) c.as_slice-5.ensures.value c.in_ok-beside.ensures)
