use Rattle.std.proofs.Common.{◌≡◌, ℕ, arith, get_or, rules}
use Rattle.std.proofs.lemmas.Option.{slice_get-get_or, slice_get_within}
use Rattle.std.specs.Prelude.{Some}
use Rattle.walk.specs.Choosing.{choice_of}
use Rattle.walk.proofs.Lists.{choice-entry, one_more}
use Rattle.walk.proofs.newest.are_chosen.Goals as goal

pub loop-i-preserved : goal.loop-i-preserved
loop-i-preserved c =
    let list = c.args.list.now in
    let i = c.loop-i.i in
    let own = get_or list i (0, 0) in
    let here : choice_of c.args.found.now.entries own.0 ≡ Some own.1 = search rules in
    one_more (λ (x : ℕ × ℕ). choice_of c.args.found.now.entries x.0 ≡ Some x.1) list i own c.loop-i.invariant (slice_get-get_or list i (0, 0) c.loop-i-test.true) here

pub returns : goal.returns
returns c = λ yes p k chosen.
    let place = choice-entry c.args.list.now p k chosen in
    c.loop-i.invariant place.0 (p, k) (omega (arith, slice_get_within c.args.list.now place.0 (p, k) place.1, c.loop-i-test.false)) place.1
