-- The lock of a request whose newest selection is asked for.
use Rattle.std.proofs.Common.{◌≡◌, ◌||◌, sym, refl, Bool, true, false, [], ◌∷◌, length, nat_lt}
use Rattle.std.proofs.lemmas.Option.{none-some}
use Rattle.std.specs.Prelude.{None}
use Rattle.versions.specs.declared.refusal.Refusal.TheVariants.{RepeatedDependency, TooManyDependencies}
use Rattle.registry.specs.Needs.{repeats_name}
use Rattle.registry.specs.Requests.{Wanted, request_refusal}
use Rattle.registry.specs.Step.{first_that_holds}
use Rattle.registry.specs.declared.registry.TheConstants.{NEED_LIMIT}
use Rattle.registry.specs.declared.requests.TheConstants.{LOCK_LIMIT}

-- the lock of a request that is accepted names nothing twice
pub locked_once : (wanted : Wanted) → request_refusal wanted ≡ None → repeats_name wanted.lock ≡ false
locked_once wanted lawful = by (repeats_name wanted.needs) (repeats_name wanted.lock) (nat_lt NEED_LIMIT (length wanted.needs) || nat_lt LOCK_LIMIT (length wanted.lock)) lawful
  where
    by : (a b c : Bool) → first_that_holds ((a || b, RepeatedDependency) ∷ (c, TooManyDependencies) ∷ []) ≡ None → b ≡ false
    by a false c e = refl
    by true true c e = absurd (none-some RepeatedDependency (sym e))
    by false true c e = absurd (none-some RepeatedDependency (sym e))
