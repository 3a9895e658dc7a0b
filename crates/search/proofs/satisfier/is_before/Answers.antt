use Rattle.std.proofs.Common.{◌≡◌, ◌<◌, ◌≤◌, ℕ, List, arith, nat_eq, refl, true}
use Rattle.std.proofs.lemmas.Bool.{eqb-true, false≢true}
use Rattle.std.proofs.lemmas.Option.{slice_get_read}
use Rattle.std.specs.Prelude.{Some, slice_get}
use Rattle.search.specs.declared.assignment.Assignment.{Assignment}
use Rattle.search.specs.Trail.{through, IsPlaceOn}
use Rattle.search.proofs.satisfier.is_before.Goals as goal
use borrow.Author.Tests.{ltb-true}

-- the place of an assignment is one on its package
place_on : (made : List Assignment) (far at pkg : ℕ) (a : Assignment) → slice_get made far ≡ Some a → far < at → nat_eq a.pkg pkg ≡ true
    → IsPlaceOn made pkg (Some far) × (through (Some far) ≤ at)
place_on made far at pkg a is before same = ((a, is, eqb-true a.pkg pkg same), omega (arith, before))

pub returns-in-None : goal.returns-in-None
returns-in-None c = λ _. rw c.in-None.is (tt, omega arith)

pub returns-in-None-get : goal.returns-in-None-get
returns-in-None-get c = λ e. absurd (false≢true e)

pub returns-then-far-at : goal.returns-then-far-at
returns-then-far-at c = λ same.
    let found = c.in-Some-get.ensures.lookup in
    let read = slice_get_read c.as_slice.result.now _ c.in-Some.far c.in-Some-get.a.now refl found.3.0 found.1 in
    rw c.in-Some.is (place_on c.args.trail.now.made.items c.in-Some.far c.args.at c.args.pkg c.in-Some-get.a.now (rw c.as_slice.ensures.value at read) c.if-far-at.true same)

pub returns-else-far-at : goal.returns-else-far-at
returns-else-far-at c = λ e. absurd (omega (arith, ltb-true c.in-Some.far c.args.at e, c.if-far-at.false))
