-- The operands below the lowest object stay, and those above are pushed anew.
use Rattle.std.proofs.Common.{◌≡◌, ◌++◌, false, List, map, take, drop, length, sym, ap, ◌∙◌, subst}
use Rattle.std.specs.List.{list_any}
use Rattle.std.proofs.lemmas.Result.{IfOk-weaker}
use Rattle.std.proofs.lemmas.List.{with_items_is}
use Rattle.body_form.specs.declared.types.VType.{VType}
use Rattle.jvm_model.specs.TypesRules.{is_same_object, renamed_one}
use Rattle.type_table.specs.declared.store.Cell.{Cell}
use Rattle.type_table.specs.declared.operands.Chain.{Chain}
use Rattle.type_table.specs.Chains.{chain_of, IsChain}
use Rattle.type_table.proofs.Lacking.{lacking_stays, renamed_parts}
use Rattle.type_table.proofs.operands.rename_operands.Goals as goal

pub returns-then-count-eq0-clause-renamed : goal.returns-then-count-eq0-clause-renamed
returns-then-count-eq0-clause-renamed c =
    let operands : List Cell → List VType = λ cells. chain_of cells c.args.chain in
    let lacks =
    subst (λ n. list_any (is_same_object c.args.from) (drop n (operands c.args.cells.now.items)) ≡ false) c.if-count-eq0.true
    (subst (λ (cells : List Cell). list_any (is_same_object c.args.from) (drop c.count_to_object-count.result (operands cells)) ≡ false) c.deref.ensures.value c.count_to_object-count.ensures.rest)
    in
    record { has = c.requires; is = sym (lacking_stays c.args.from c.args.to (operands c.args.cells.now.items) lacks) }

pub returns-clause-renamed : goal.returns-clause-renamed
returns-clause-renamed c =
    let f : VType → VType = renamed_one c.args.from c.args.to in
    let cells = c.args.cells.now.items in
    let count = c.count_to_object-count.result in
    let operands = chain_of cells c.args.chain in
    let lacks = subst (λ (list : List Cell). list_any (is_same_object c.args.from) (drop count (chain_of list c.args.chain)) ≡ false) c.deref.ensures.value c.count_to_object-count.ensures.rest in
    let rest : chain_of cells c.below-rest.result ≡ drop count operands =
    subst (λ (list : List Cell). chain_of list c.below-rest.result ≡ drop count (chain_of list c.args.chain)) c.deref-2.ensures.value c.below-rest.ensures.below.is
    in
    let taken : c.in_ok-values.values.items ≡ take count operands = c.in_ok-values.ensures ∙ ap (λ (list : List Cell). take count (chain_of list c.args.chain)) c.deref-3.ensures.value in
    let named : c.deref-4.result.now ≡ map f (take count operands) =
    c.deref-4.ensures.value
    ∙ with_items_is c.in_ok-values.values c.rename_all.new.values (c.rename_all.auto.values ∙ ap length c.deref_mut.ensures.value ∙ sym c.in_ok-values.values.ok.0)
    ∙ c.rename_all.ensures ∙ ap (map f) (c.deref_mut.ensures.value ∙ taken)
    in
    let all : c.deref-4.result.now ++ chain_of cells c.below-rest.result ≡ map f operands =
    ap (λ (list : List VType). list ++ chain_of cells c.below-rest.result) named ∙ ap (λ (list : List VType). map f (take count operands) ++ list) rest
    ∙ sym (renamed_parts c.args.from c.args.to operands count lacks)
    in
    IfOk-weaker c.push_all.result (λ (chain : Chain). IsChain c.push_all.new.cells.items chain (c.deref-4.result.now ++ chain_of cells c.below-rest.result))
    (λ (chain : Chain). IsChain c.push_all.new.cells.items chain (map f operands)) (λ chain is. record { has = is.has; is = is.is ∙ all }) c.push_all.ensures.pushed
