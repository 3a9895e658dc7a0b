use Rattle.std.proofs.Common.{◌≡◌, ◌∙◌, List, length, refl, subst, sym}
use Rattle.std.proofs.lemmas.Option.{none-some, slice_get_past, slice_get_read}
use Rattle.std.specs.Prelude.{Some, slice_get}
use Rattle.versions.specs.Words.{Text}
use Rattle.derivations.proofs.causes.need_fact.Goals as goal

pub returns-in_ok-need_incompat-in-Some : goal.returns-in_ok-need_incompat-in-Some
returns-in_ok-need_incompat-in-Some c =
    let needs = c.needs.result.now in
    let need = c.in-Some.entry.now in
    let found = c.in-Some.ensures.lookup in
    let there = slice_get_read needs (length needs) c.args.index need refl found.3.0 found.1 in
    (need, subst (λ (all : List (Text × Text)). slice_get all c.args.index ≡ Some need) c.needs.ensures.needs there, c.in_ok-need_incompat-in-Some.ensures)

pub returns-in-None : goal.returns-in-None
returns-in-None c terms h =
    let there = subst (λ (all : List (Text × Text)). slice_get all c.args.index ≡ Some h.0) (sym c.needs.ensures.needs) h.1 in
    none-some h.0 (sym (slice_get_past c.needs.result.now c.args.index c.in-None.ensures.lookup.3) ∙ there)
