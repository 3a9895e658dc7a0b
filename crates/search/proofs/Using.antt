-- What a look at one line more keeps.
use Rattle.std.proofs.Common.{◌∙◌, ◌<◌, ℕ, arith, subst, sym}
use Rattle.std.specs.Prelude.{Option, None, Some, IfNone, IfSome}
use Rattle.search.specs.Rank.{rank}
use Rattle.search.specs.declared.search.Search.{Search}
use Rattle.oracle.specs.declared.task.Task.{Task}
use Rattle.search.specs.Searching.{GoesOn, IsUnchanged}

pub same_still : (first old new : Search) (last : Option ℕ) → IfNone last (IsUnchanged first old) → IsUnchanged old new → IfNone last (IsUnchanged first new)
same_still first old new None same still = (still.0 ∙ same.0, still.1 ∙ same.1)
same_still first old new (Some p) same still = tt

pub fell_still : (first old new : Search) (last : Option ℕ) → IfSome last (λ pkg. rank old.partial < rank first.partial) → IsUnchanged old new → IfSome last (λ pkg. rank new.partial < rank first.partial)
fell_still first old new None fell still = tt
fell_still first old new (Some p) fell still = subst (λ made. rank made < rank first.partial) (sym still.0) fell

pub fell_on : (task : Task) (first old new : Search) (last : Option ℕ) → IfNone last (IsUnchanged first old) → IfSome last (λ pkg. rank old.partial < rank first.partial) → GoesOn task old new
    → rank new.partial < rank first.partial
fell_on task first old new None same fell on = subst (λ made. rank new.partial < rank made) same.0 on.1
fell_on task first old new (Some p) same fell on = omega (arith, fell, on.1)
