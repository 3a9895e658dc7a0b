use Rattle.std.proofs.Common.{Bool, ◌∙◌, ◌+◌, [], ◌∷◌, ◌++◌, ap, drop, sym, subst}
use Rattle.std.proofs.lemmas.List.{drop_all}
use Rattle.terms.specs.declared.term.Term.{Term}
use Rattle.derivations.specs.Facts.{Terms}
use Rattle.checker.specs.Tables.{ArePlaced, Concludes}
use Rattle.checker.proofs.Joining.{IsKeeping, drop-item, keeping-begin, keeping-end, keeping-kept, keeping-left}
use Rattle.checker.proofs.table.Table.conclusion.Goals.{then-not-is_always+in_ok-term+in_ok-push, else-not-is_always}
use Rattle.checker.proofs.table.Table.conclusion.Goals as goal

pub loop-pkg-init : goal.loop-pkg-init
loop-pkg-init c =
    let table = c.as_slice-terms.result.now in
    let placed = subst (λ (terms : Terms). ArePlaced 0 c.self.inside.places.items terms) (sym c.as_slice-terms.ensures.value) c.self.invariant in
    subst (λ (kept : Terms). IsKeeping table kept table) (sym c.in_ok-kept.ensures.items) (keeping-begin 0 c.self.inside.places.items table placed)

pub loop-pkg-preserved : goal.loop-pkg-preserved
loop-pkg-preserved c =
    let table = c.as_slice-terms.result.now in
    let kept = c.loop-pkg.kept.items in
    let item = c.loop-pkg-item.result in
    let rest = drop (c.loop-pkg.pkg-index + 1) table in
    let before = subst (λ (left : Terms). IsKeeping table kept left) (drop-item table c.loop-pkg.pkg-index item c.loop-pkg-test.true c.loop-pkg-item.is) c.loop-pkg.invariant in
    elim c.if-not-is_always.branch [
      | then-not-is_always+in_ok-term+in_ok-push w ↦
          let same = w.in_ok-push.ensures.items ∙ ap (λ (term : Term). kept ++ (item.0, term) ∷ []) w.in_ok-term.ensures in
          rw w.kept-is (subst (λ (made : Terms). IsKeeping table made rest) (sym {A = Terms} same) (keeping-kept table kept rest item (sym {A = Bool} c.is_always.ensures.exact ∙ w.if-not-is_always.true) before))
      | else-not-is_always w ↦ rw w.kept-is (keeping-left table kept rest item (sym {A = Bool} c.is_always.ensures.exact ∙ w.if-not-is_always.false) (c.is_always.ensures.holds w.if-not-is_always.false) before)
    ]

pub invariant_of-result : goal.invariant_of-result
invariant_of-result c =
    let table = c.as_slice-terms.result.now in
    let h = subst (λ (left : Terms). IsKeeping table c.loop-pkg.kept.items left) (drop_all c.loop-pkg.pkg-index table c.loop-pkg-test.false) c.loop-pkg.invariant in
    (keeping-end table c.loop-pkg.kept.items h).once

pub returns : goal.returns
returns c =
    let table = c.as_slice-terms.result.now in
    let h = subst (λ (left : Terms). IsKeeping table c.loop-pkg.kept.items left) (drop_all c.loop-pkg.pkg-index table c.loop-pkg-test.false) c.loop-pkg.invariant in
    subst (λ (terms : Terms). Concludes terms c.loop-pkg.kept.items) (c.as_slice-terms.ensures.value ∙ c.self.view_is) (keeping-end table c.loop-pkg.kept.items h)
