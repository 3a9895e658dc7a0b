use Rattle.std.proofs.Common.{◌∙◌, ◌-◌, ap, arith, drop, length, sym, take}
use Rattle.store.specs.Keys.{stirred_term, stirred_terms}
use Rattle.store.proofs.Behind.{behind_first, none_behind}
use Rattle.store.proofs.keys.key_of.Goals as goal

pub stir-init : goal.stir-init
stir-init c = ap (stirred_terms 0) c.terms-left.ensures.same

pub stir-preserved : goal.stir-preserved
stir-preserved c =
    let left = c.stir.left.now in
    let entry = c.entry-item.result in
    let split = behind_first left entry c.in-len1-up.len_at_least c.entry-item.is in
    ap (λ key. stirred_terms key (take (length left - 1) (drop 1 left))) (c.stirred_term-key.ensures ∙ ap (λ key. stirred_term key entry.1) c.stirred.ensures)
    ∙ sym (ap (stirred_terms c.stir.key) split) ∙ c.stir.invariant

pub stir-smaller : goal.stir-smaller
stir-smaller c = let split = behind_first c.stir.left.now c.entry-item.result c.in-len1-up.len_at_least c.entry-item.is in omega (arith, ap length split)

pub returns : goal.returns
returns c = sym (ap (stirred_terms c.stir.key) (none_behind c.stir.left.now c.in_default.len_below)) ∙ c.stir.invariant
