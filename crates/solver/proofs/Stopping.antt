-- Why a request may be left without an answer.
use Rattle.std.proofs.Common.{ℕ, inl, refl}
use Rattle.std.specs.Prelude.{Option, None, Some}
use Rattle.versions.specs.declared.refusal.Refusal.TheVariants.{NoMemory}
use Rattle.registry.specs.Registry.{Packages}
use Rattle.registry.specs.Requests.{Wanted}
use Rattle.solver.specs.Outcomes.{MayStop}

-- memory may be lacking under every budget
pub may_lack : (packages : Packages) (wanted : Wanted) (budget : Option ℕ) → MayStop packages wanted budget NoMemory
may_lack packages wanted None = refl
may_lack packages wanted (Some budget) = inl refl
