-- What going back leads to.
use Rattle.std.proofs.Common.{◌≡◌, ◌<◌, ◌∙◌, ℕ, sym, ap, subst, List, get_or}
use Rattle.std.proofs.lemmas.Option.{get_or_from_slice_get}
use Rattle.std.specs.Prelude.{Some, slice_get}
use Rattle.search.specs.declared.assignment.Assignment.{Assignment}
use Rattle.search.specs.Assignments.{upto, IsPartial}
use Rattle.search.specs.Satisfying.{IsNeither, LeavesAlmost, Satisfied}
use Rattle.search.specs.Rank.{rank, FallsBack}
use Rattle.registry.specs.Registry.{Packages}
use Rattle.registry.specs.Requests.{Wanted}
use Rattle.derivations.specs.declared.known.CausedIncompatibility.{CausedIncompatibility}
use Rattle.facts.specs.Lines.{AtLine}
use Rattle.search.specs.Searching.{IsSearch}
use Rattle.search.proofs.Kept.{IsSearch-upto}

module _ (old now : List Assignment) (known : List CausedIncompatibility) (at level : ℕ) (back : AtLine known at (λ l. LeavesAlmost old l.conclusion level))
    (x : CausedIncompatibility) (read : x ≡ get_or known at x) (is_now : now ≡ upto level old) where
  same_line : back.0 ≡ x
  same_line = sym (get_or_from_slice_get known at back.0 x back.1) ∙ sym read

  here : LeavesAlmost old x.conclusion level
  here = subst (λ l. LeavesAlmost old l.conclusion level) same_line back.2

  pub back_place : slice_get known at ≡ Some x
  back_place = back.1 ∙ ap Some same_line

  pub back_search : (packages : Packages) (wanted : Wanted) → IsPartial old → IsSearch packages wanted old known → IsSearch packages wanted now known
  back_search packages wanted h s = subst (λ xs. IsSearch packages wanted xs known) (sym is_now) (IsSearch-upto packages wanted level old known h here.above_root s)

  pub not_satisfied : Satisfied now x.conclusion → ⊥
  not_satisfied s = here.not_yet (subst (λ xs. Satisfied xs x.conclusion) is_now s)

  pub not_neither : IsNeither now x.conclusion → ⊥
  not_neither n =
      let m : IsNeither (upto level old) x.conclusion = subst (λ xs. IsNeither xs x.conclusion) is_now n in
      m.not_almost here.out here.others here.choice here.said here.true_there

  pub back_falls : (new : List Assignment) → IsPartial old → FallsBack now new → rank new < rank old
  back_falls new h falls = falls old level h here.opened is_now
