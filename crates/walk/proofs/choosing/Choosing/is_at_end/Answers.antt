use Rattle.std.proofs.Common.{◌≡◌, ◌-◌, Bool, true, false, not, arith, length, refl, rules, sym, true≢false}
use Rattle.std.proofs.lemmas.Option.{slice_get_read}
use Rattle.std.specs.Bool.{OnFalse}
use Rattle.walk.proofs.Bests.{none_left}
use Rattle.walk.proofs.choosing.Choosing.is_at_end.Goals as goal

on_false : (r : Bool) (P : Type 0) → OnFalse r P → not r ≡ true → P
on_false false P h e = h
on_false true P h e = absurd (true≢false (sym e))

pub returns : goal.returns
returns c = λ yes packages wanted h.
    let items = c.args.self.now.needed.items in
    let at : c.len-count.result ≡ length items = search rules in
    let here = slice_get_read items (length items) (c.len-count.result - 1) c.index.result.now refl (omega (arith, at, c.if-count-eq0.false)) c.index.ensures in
    none_left packages wanted c.args.self.now (c.len-count.result - 1) c.index.result.now here (on_false c.is_some.result _ c.is_some.ensures yes) h
